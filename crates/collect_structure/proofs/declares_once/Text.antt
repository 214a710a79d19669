-- Rule Duplicate refuses nothing in a text that is made from a normal form whose names leave room: it has further declarations of main, the recorder,
-- and units that name what those of the normal form do. More names than those of a collecting text can be new in it.
use Rattle.std.proofs.Common.{◌≡◌, ℕ, Bool, true, false, ◌||◌, ◌==◌, List, [], ◌∷◌, ◌++◌, map, flat_map, refl, sym, ap, ap₂, ◌∙◌, subst}
use Rattle.std.specs.List.{AllByRecursion, list_any}
use Rattle.std.specs.Str.{bytes_eq}
use Rattle.std.proofs.lemmas.Bool.{or_from}
use Rattle.std.proofs.lemmas.List.{append_assoc, append-nil}
use Rattle.std.proofs.lemmas.Grind.{flat_map-append}
use Rattle.common_lemmas.proofs.Lists.{all_front, all_back, all_joined, all_weaker, all_paired}
use Rattle.ada_tree.specs.declared.naming.Span.{Span}
use Rattle.ada_tree.specs.declared.naming.Word.{Word}
use Rattle.ada_tree.specs.TypeTable.{TypeTable}
use Rattle.ada_tree.specs.PlainStmt.{PBody}
use Rattle.ada_tree.specs.PlainDecl.{PTask, PDecl, decls_of}
use Rattle.ada_tree.specs.PlainProgram.{PProgram}
use Rattle.ada_static_rules.specs.RuleDuplicate.{is_predefined, is_among}
use Rattle.ada_static_rules.specs.Sites.{with_words, sites}
use Rattle.ada_decl_rules.specs.duplicates.NamedSoFar.{object_words}
use Rattle.ada_decl_rules.specs.duplicates.NamingsInOrder.{namings_of}
use Rattle.ada_decl_rules.specs.declared.duplicates.namings_in_order.Naming.{Naming}
use Rattle.syn_event.specs.Numbering.{Numbering}
use Rattle.syn_event.specs.DeclaredTasks.{decl_list, tasks_in}
use Rattle.syn_event.proofs.DeclLists.{list_again, tasks_joined}
use Rattle.task_model.specs.Setting.{Setting}
use Rattle.task_laws.specs.legal.rewritten_types.Rewriting.{names_declared}
use Rattle.normal_model.specs.Ranges.{word_at}
use Rattle.normal_model.specs.NormalTree.{main_unit, normal_tree}
use Rattle.normal_laws.specs.structure.types.Laws.{setting_of}
use Rattle.normal_laws.specs.structure.once.Once.{AllOnce}
use Rattle.normal_laws.specs.structure.once.Apart.{IsFreeOf, AreApart, AreDistinct, fixed_name, fixed_names, loose_names, IsFitIn, AreFit}
use Rattle.normal_laws.specs.structure.once.Names.{body_names, tasks_names, bodies_names}
use Rattle.normal_laws.proofs.structure.numbers.Listed.{IsPlain, IsOneTask, IsOneBody, tasks-all, bodies-all, first-plain, firsts, vars, tasks, bodies, vars-plain, normal-list}
use Rattle.normal_laws.proofs.structure.once.Once.{free-front, free-both, apart-turned}
use Rattle.normal_laws.proofs.structure.once.Parts.{all-fit-in, fit-in-alone, fit-in-apart}
use Rattle.normal_laws.proofs.structure.once.Rules.{once-fit, fit-once}
use Rattle.normal_laws.proofs.legality.declares_once.DeclaredNames.{word_ids, free-words}
use Rattle.replay_model.specs.ReplayTree.{last_task, normal_setting}
use Rattle.replay_structure.specs.declares_once.Names.{word_named}
use Rattle.replay_structure.proofs.declares_once.Grown.{alone-from, declared-loose, declared-new, IsGood, IsGrown, IsSame, good-fit}
use Rattle.replay_structure.proofs.declares_once.Plain.{plains_names, plains-clear, put-here, AreFresh}
use Rattle.replay_structure.proofs.declares_once.Units.{task_words, body_words, tasks-clear, bodies-clear, tasks-append, bodies-append}
use Rattle.replay_structure.proofs.declares_once.Listed.{first_names, unit_names, copy_names, main_name, program-named}
use Rattle.collect_model.specs.declared.AddedNames.{AddedNames}
use Rattle.collect_model.specs.Names.{int_io_text, flags_text, caller_text, answer_text, part_text, recorder_text, kind_text, subject_text, argument_text, index_text, owner_text, reply_text, gone_text, met_text, added_texts, collect_names, added_in}
use Rattle.collect_model.specs.Teller.{teller_in}
use Rattle.collect_model.specs.Recording.{recorder_declared}
use Rattle.collect_model.specs.CollectTree.{behind_own, is_int_io, unit_declared, main_declared, task_telling}
use Rattle.collect_structure.specs.Names.{new_texts}
use Rattle.collect_structure.specs.declares_once.Names.{IsKept, LeavesNames}
use Rattle.collect_structure.proofs.texts.Listed.{all-behind, all-main}
use Rattle.collect_structure.proofs.declares_once.Ids.{id, ids, pick, pick-free, texts-apart, own-clear, all-new, new-not-predefined}
use Rattle.collect_structure.proofs.declares_once.Splits.{IsSplit, split, instances, plains-append, none-instances, plains-any, any-parts, plains-same, IsVariable, variables-plain, variables-instances, variables-words, variables-names}
use Rattle.collect_structure.proofs.declares_once.Units.{loose_texts, IsLoose, words-put, unit-fresh, recorder_task, recorder-fit, tasks-same, more-words}
use Rattle.replay_structure.proofs.declares_once.Whole.{clear-names, five-fixed, put-distinct, put-free}

module _ (p : PProgram) (types : TypeTable) (numbers : Numbering) where
  -- ---- the normal form

  abbrev pub g : Setting
  g = normal_setting p types numbers

  abbrev pub q : PProgram
  q = normal_tree p types numbers

  abbrev pub n : AddedNames
  n = added_in (collect_names q)

  abbrev pub s : Span
  s = q.name.span

  abbrev pub plain : List PDecl
  plain = firsts p types numbers ++ vars p types numbers

  abbrev pub ts : List PDecl
  ts = tasks p types numbers

  abbrev pub bs : List PDecl
  bs = bodies p types numbers

  all-plain : AllByRecursion IsPlain plain
  all-plain = all_joined IsPlain (firsts p types numbers) (vars p types numbers) (first-plain p.decls []) (vars-plain p types numbers)

  pub all-tasks : AllByRecursion IsOneTask ts
  all-tasks = tasks-all (setting_of p types numbers)

  pub all-bodies : AllByRecursion IsOneBody bs
  all-bodies = bodies-all (setting_of p types numbers)

  abbrev inst : Bool
  inst = list_any is_int_io plain

  listed : decl_list q.decls ≡ plain ++ ts ++ bs
  listed =
      normal-list p types numbers
      ∙ sym (ap (λ (l : List PDecl). l ++ bs) (append_assoc (firsts p types numbers) (vars p types numbers) ts) ∙ append_assoc (firsts p types numbers) (vars p types numbers ++ ts) bs)

  normal-decls : q.decls ≡ decls_of (plain ++ ts ++ bs)
  normal-decls = sym (list_again q.decls) ∙ ap decls_of listed

  -- ---- what is named in the normal form

  abbrev N : List Naming
  N = main_name q plain ts bs

  abbrev P : List Naming
  P = first_names q plain ts bs

  abbrev T : List Naming
  T = unit_names q plain ts bs

  abbrev pub B : List Naming
  B = copy_names q plain ts bs

  abbrev pub M : List Naming
  M = body_names q.body

  abbrev pub A : List Naming
  A = (N ++ (P ++ T ++ B)) ++ M

  pub normal-named : namings_of (sites q) ≡ A
  normal-named = program-named q plain ts bs normal-decls all-plain all-tasks all-bodies

  abbrev start : List ℕ
  start = q.name.name.0 ∷ []

  -- the declarations in front of those that are new, and behind them
  pub parts : IsSplit q.names plain
  parts = split q.names plain

  abbrev here1 : List ℕ
  here1 = with_words start (flat_map names_declared parts.front)

  abbrev inst1 : Bool
  inst1 = instances false parts.front

  abbrev Pf : List Naming
  Pf = plains_names start false parts.front

  abbrev Pb : List Naming
  Pb = plains_names here1 inst1 parts.back

  P-split : P ≡ Pf ++ Pb
  P-split = ap (plains_names start false) parts.whole ∙ plains-append start false parts.front parts.back

  split-plain : AllByRecursion IsPlain (parts.front ++ parts.back)
  split-plain = subst (AllByRecursion IsPlain) parts.whole all-plain

  front-plain : AllByRecursion IsPlain parts.front
  front-plain = all_front IsPlain parts.front parts.back split-plain

  back-plain : AllByRecursion IsPlain parts.back
  back-plain = all_back IsPlain parts.front parts.back split-plain

  abbrev names : List Naming → List ℕ
  names l = fixed_names l

  abbrev front : List ℕ
  front = names N ++ names Pf

  abbrev mid : List ℕ
  mid = names Pb ++ names T

  abbrev back : List ℕ
  back = names B ++ names M

  fixed-parts : names A ≡ front ++ (mid ++ back)
  fixed-parts =
      five-fixed N P T B M
      ∙ ap (λ (l : List ℕ). (names N ++ (l ++ names T)) ++ back) (ap names P-split ∙ flat_map-append fixed_name Pf Pb)
      ∙ ap (λ (l : List ℕ). (names N ++ l) ++ back) (append_assoc (names Pf) (names Pb) (names T))
      ∙ ap (λ (l : List ℕ). l ++ back) (sym (append_assoc (names N) (names Pf) mid))
      ∙ append_assoc front mid back

  -- ---- new names that are fixed

  abbrev i : ℕ
  i = id q int_io_text

  abbrev f : ℕ
  f = id q flags_text

  abbrev d : ℕ
  d = id q recorder_text

  abbrev NF : Bool → List ℕ
  NF true = f ∷ []
  NF false = i ∷ f ∷ []

  abbrev with_recorder : List ℕ
  with_recorder = mid ++ ((d ∷ []) ++ back)

  -- what the text fixes
  abbrev pub F : List ℕ
  F = front ++ (NF inst ++ with_recorder)

  -- the new names of every collecting text
  abbrev pub X : List ℕ
  X = ids q new_texts

  nf-free : (b : Bool) (x : ℕ) → (i == x) ≡ false → (f == x) ≡ false → IsFreeOf (NF b) x
  nf-free true x j k = or_from (f == x) false k refl
  nf-free false x j k = or_from (i == x) ((f == x) || false) j (or_from (f == x) false k refl)

  recorder-free : (x : ℕ) → IsFreeOf (front ++ (mid ++ back)) x → (d == x) ≡ false → IsFreeOf (front ++ with_recorder) x
  recorder-free x h k =
      subst (λ (l : List ℕ). IsFreeOf l x) (append_assoc front mid ((d ∷ []) ++ back))
      (put-free (front ++ mid) (d ∷ []) back x (subst (λ (l : List ℕ). IsFreeOf l x) (sym (append_assoc front mid back)) h) (or_from (d == x) false k refl))

  new-free : (x : ℕ) → IsFreeOf (front ++ (mid ++ back)) x → (i == x) ≡ false → (f == x) ≡ false → (d == x) ≡ false → IsFreeOf F x
  new-free x h j k l = put-free front (NF inst) with_recorder x (recorder-free x h l) (nf-free inst x j k)

  one-free : (x : ℕ) → IsFreeOf (front ++ (mid ++ back)) x → IsFreeOf X x → IsFreeOf F x
  one-free x h k = new-free x h (pick-free q new_texts x k int_io_text refl) (pick-free q new_texts x k flags_text refl) (pick-free q new_texts x k recorder_text refl)

  all-free : (ws : List ℕ) → AreApart (front ++ (mid ++ back)) ws → AreApart X ws → AreApart F ws
  all-free ws h k =
      all_weaker (λ x. IsFreeOf (front ++ (mid ++ back)) x × IsFreeOf X x) (IsFreeOf F) ws (λ x both. one-free x both.0 both.1)
      (all_paired (IsFreeOf (front ++ (mid ++ back))) (IsFreeOf X) ws h k)

  -- ---- more names are new

  -- None of the further new names stands in the normal form.
  module _ (once : AllOnce [] (sites q)) (leaves : LeavesNames q) (more : List ℕ) (wide : AllByRecursion (λ (m : Naming). IsFreeOf more (word_named m).name.0) A) where
    abbrev pub Y : List ℕ
    Y = X ++ more

    fit : AreFit A
    fit = subst AreFit normal-named (once-fit (sites q) once)

    kept : AllByRecursion (IsKept q.names) A
    kept = subst (AllByRecursion (IsKept q.names)) normal-named leaves.kept

    abbrev ClearOf : List ℕ → Naming → Type 0
    ClearOf l m = IsFreeOf l (word_named m).name.0

    -- no new name stands in the normal form
    told-clear : AllByRecursion (ClearOf X) A
    told-clear = all_weaker (IsKept q.names) (ClearOf X) A (λ m k. own-clear q new_texts (all-new q) (word_named m).name.0 k) kept

    clear : AllByRecursion (ClearOf Y) A
    clear =
        all_weaker (λ (m : Naming). ClearOf X m × ClearOf more m) (ClearOf Y) A (λ m k. free-both X more (word_named m).name.0 k.0 k.1)
        (all_paired (ClearOf X) (ClearOf more) A told-clear wide)

    fixed-clear : AreApart (front ++ (mid ++ back)) Y
    fixed-clear = subst (λ (l : List ℕ). AreApart l Y) fixed-parts (apart-turned Y (names A) (clear-names Y A clear).0)

    F-apart : AreApart F (loose_names A)
    F-apart = all-free (loose_names A) (subst (λ (l : List ℕ). AreApart l (loose_names A)) fixed-parts fit.apart) (clear-names X A told-clear).1

    -- a new name is none of the fixed ones of the normal form
    free-there : (t : List ℕ) → list_any (bytes_eq t) new_texts ≡ true → IsFreeOf (front ++ (mid ++ back)) (id q t)
    free-there t h = pick q (IsFreeOf (front ++ (mid ++ back))) new_texts (all_front (IsFreeOf (front ++ (mid ++ back))) X more fixed-clear) t h

    one-distinct : AreDistinct (front ++ with_recorder)
    one-distinct =
        subst AreDistinct (append_assoc front mid ((d ∷ []) ++ back))
        (put-distinct (front ++ mid) (d ∷ []) back (subst AreDistinct (fixed-parts ∙ sym (append_assoc front mid back)) fit.distinct) (refl, tt)
        (subst (λ (l : List ℕ). IsFreeOf l d) (sym (append_assoc front mid back)) (free-there recorder_text refl), tt))

    NF-distinct : (b : Bool) → AreDistinct (NF b)
    NF-distinct true = (refl, tt)
    NF-distinct false = (or_from (f == i) false (texts-apart q flags_text int_io_text refl refl refl refl) refl, (refl, tt))

    NF-apart : (b : Bool) → AreApart (front ++ with_recorder) (NF b)
    NF-apart true = (recorder-free f (free-there flags_text refl) (texts-apart q recorder_text flags_text refl refl refl refl), tt)
    NF-apart false = (
      recorder-free i (free-there int_io_text refl) (texts-apart q recorder_text int_io_text refl refl refl refl),
      (recorder-free f (free-there flags_text refl) (texts-apart q recorder_text flags_text refl refl refl refl), tt),
    )

    F-distinct : AreDistinct F
    F-distinct = put-distinct front (NF inst) with_recorder one-distinct (NF-distinct inst) (NF-apart inst)

    abbrev Good : Naming → Type 0
    Good = IsGood F Y

    good : AllByRecursion Good A
    good = all_paired (IsFitIn F) (ClearOf Y) A (all-fit-in F A fit.alone F-apart) clear

    -- ---- what is known of the parts

    decls-good : AllByRecursion Good (P ++ T ++ B)
    decls-good = all_back Good N (P ++ T ++ B) (all_front Good (N ++ (P ++ T ++ B)) M good)

    main-good : AllByRecursion Good N
    main-good = all_front Good N (P ++ T ++ B) (all_front Good (N ++ (P ++ T ++ B)) M good)

    P-good : AllByRecursion Good P
    P-good = all_front Good P T (all_front Good (P ++ T) B decls-good)

    Pf-good : AllByRecursion Good Pf
    Pf-good = all_front Good Pf Pb (subst (AllByRecursion Good) P-split P-good)

    Pb-good : AllByRecursion Good Pb
    Pb-good = all_back Good Pf Pb (subst (AllByRecursion Good) P-split P-good)

    T-good : AllByRecursion Good T
    T-good = all_back Good P T (all_front Good (P ++ T) B decls-good)

    pub B-good : AllByRecursion Good B
    B-good = all_back Good (P ++ T) B decls-good

    pub M-good : AllByRecursion Good M
    M-good = all_back Good (N ++ (P ++ T ++ B)) M good

    -- ---- new names that are not fixed

    not-predefined : (t : List ℕ) → list_any (bytes_eq t) added_texts ≡ true → list_any (bytes_eq t) new_texts ≡ true → is_predefined (id q t) ≡ false
    not-predefined t h k = new-not-predefined q leaves.begins t h k

    loose-one : (t : List ℕ) → list_any (bytes_eq t) added_texts ≡ true → list_any (bytes_eq t) new_texts ≡ true →
        bytes_eq int_io_text t ≡ false → bytes_eq flags_text t ≡ false → bytes_eq recorder_text t ≡ false → IsLoose F (id q t)
    loose-one t h k a b c =
        (not-predefined t h k, new-free (id q t) (free-there t k) (texts-apart q int_io_text t refl h a refl) (texts-apart q flags_text t refl h b refl) (texts-apart q recorder_text t refl h c refl))

    pub loose : AllByRecursion (IsLoose F) (ids q loose_texts)
    loose = (
      loose-one caller_text refl refl refl refl refl,
      (
        loose-one answer_text refl refl refl refl refl,
        (
          loose-one part_text refl refl refl refl refl,
          (
            loose-one kind_text refl refl refl refl refl,
            (
              loose-one subject_text refl refl refl refl refl,
              (
                loose-one argument_text refl refl refl refl refl,
                (
                  loose-one index_text refl refl refl refl refl,
                  (
                    loose-one owner_text refl refl refl refl refl,
                    (
                      loose-one reply_text refl refl refl refl refl,
                      (
                        loose-one gone_text refl refl refl refl refl,
                        (loose-one met_text refl refl refl refl refl, tt),
                      ),
                    ),
                  ),
                ),
              ),
            ),
          ),
        ),
      ),
    )

    -- nor are the further ones, where they are none of the others and no predefined ones
    pub more-loose : AllByRecursion (λ x. (is_predefined x ≡ false) × IsFreeOf X x) more → AllByRecursion (IsLoose F) more
    more-loose h =
        all_weaker (λ x. ((is_predefined x ≡ false) × IsFreeOf X x) × IsFreeOf (front ++ (mid ++ back)) x) (IsLoose F) more (λ x k. (k.0.0, one-free x k.1 k.0.1))
        (all_paired (λ x. (is_predefined x ≡ false) × IsFreeOf X x) (IsFreeOf (front ++ (mid ++ back))) more h (all_back (IsFreeOf (front ++ (mid ++ back))) X more fixed-clear))

    are-fresh : AreFresh F Y (flat_map object_words (unit_declared n s))
    are-fresh = unit-fresh q F more loose s

    -- ---- the text

    -- The parts of the text that are its own: further variables of main, the tasks, the bodies of the units and of the recorder, and the statements of main.
    pub record Parts : Type 0 where
      pub further : List PDecl
      pub units : List PDecl
      pub others : List PDecl
      pub its : List PDecl
      pub main : PBody
      -- the variables have further new names, each its own
      pub variables : AllByRecursion IsVariable further
      pub new : AreFresh F Y (flat_map object_words further)
      pub apart : AreApart X (word_ids (flat_map object_words further))
      -- the tasks are those of the normal form with the formal of the caller in their entries
      pub tasks : AllByRecursion IsOneTask units
      pub telling : tasks_in units ≡ map (task_telling n) (tasks_in ts)
      -- the bodies are of the same tasks, and as fine
      pub bodies : AllByRecursion IsOneBody others
      pub words : body_words others ≡ body_words bs
      pub same : IsSame F Y B (bodies_names [] others)
      -- the recorder's body is fine behind those of other tasks
      pub body : AllByRecursion IsOneBody its
      pub fine : (held : List ℕ) → IsFreeOf held d → AllByRecursion (IsFitIn F) (bodies_names held its)
      pub fixes : (held : List ℕ) → fixed_names (bodies_names held its) ≡ []
      -- the statements of main are as fine
      pub statements : IsSame F Y M (body_names main)

    module _ (x : Parts) where
      abbrev ws : List Word
      ws = flat_map object_words x.further

      abbrev declared_more : Bool → List PDecl
      declared_more b = main_declared n s b (last_task g.numbers) ++ x.further

      abbrev put : List PDecl
      put = behind_own q.names (declared_more inst) plain

      abbrev recorder : List PDecl
      recorder = recorder_declared n s ∷ []

      abbrev more_ts : List PDecl
      more_ts = x.units ++ recorder

      abbrev more_bs : List PDecl
      more_bs = x.others ++ x.its

      -- The text, with any names.
      abbrev pub text_with : List (List ℕ) → PProgram
      text_with all = record { names = all; text_io = true; name = q.name; decls = decls_of (put ++ more_ts ++ more_bs); body = x.main }

      -- ---- the declarations of main

      start-clear : AreApart start Y
      start-clear = apart-turned Y start (main-good.0.1, tt)

      here1-clear : AreApart here1 Y
      here1-clear = plains-clear F Y (flat_map object_words (unit_declared n s)) are-fresh start false parts.front front-plain Pf-good start-clear

      free-in : (here : List ℕ) → AreApart here Y → (t : List ℕ) → list_any (bytes_eq t) new_texts ≡ true → IsFreeOf here (id q t)
      free-in here c t h = pick q (IsFreeOf here) new_texts (all_front (IsFreeOf here) X more c) t h

      free-here : (t : List ℕ) → list_any (bytes_eq t) new_texts ≡ true → IsFreeOf here1 (id q t)
      free-here t h = free-in here1 here1-clear t h

      told-of : (t : List ℕ) → list_any (bytes_eq t) new_texts ≡ true → (y : ℕ) → IsFreeOf Y y → (id q t == y) ≡ false
      told-of t h y c = pick-free q new_texts y (free-front X more y c) t h

      -- behind one more new name
      one-more : (a : List ℕ) (here : List ℕ) (y : ℕ) → (id q a == y) ≡ false → IsFreeOf here y → IsFreeOf (id q a ∷ here) y
      one-more a here y h k = or_from (id q a == y) (is_among here y) h k

      -- the same of the further variables
      further-behind : (a : List ℕ) → list_any (bytes_eq a) new_texts ≡ true → (here : List ℕ) → AreApart here (word_ids ws) → AreApart (id q a ∷ here) (word_ids ws)
      further-behind a h here k =
          all_weaker (λ y. IsFreeOf here y × IsFreeOf X y) (IsFreeOf (id q a ∷ here)) (word_ids ws) (λ y both. one-more a here y (pick-free q new_texts y both.1 a h) both.0)
          (all_paired (IsFreeOf here) (IsFreeOf X) (word_ids ws) k x.apart)

      further-fit : (here : List ℕ) (b : Bool) → AreApart here (word_ids ws) → AllByRecursion (IsFitIn F) (plains_names here b x.further)
      further-fit here b k = subst (AllByRecursion (IsFitIn F)) (sym (variables-names here b x.further x.variables)) (declared-new F Y here ws x.new.fresh k x.new.distinct)

      further-fixed : (here : List ℕ) (b : Bool) → names (plains_names here b x.further) ≡ []
      further-fixed here b = ap names (variables-names here b x.further x.variables) ∙ declared-loose here ws

      -- the array type and the two variables, behind names that are none of theirs, and the further ones
      told-fit : (here : List ℕ) (b : Bool) → IsFreeOf here f → IsFreeOf here (id q answer_text) → IsFreeOf here (id q part_text) → AreApart here (word_ids ws) →
          AllByRecursion (IsFitIn F) (plains_names here b (declared_more true))
      told-fit here b h k l m = (
        (alone-from true (is_among here f) (word_at s n.flags) (not-predefined flags_text refl refl) h, tt),
        (
          (
            alone-from false (is_among (f ∷ here) (id q answer_text)) (word_at s n.answer) (not-predefined answer_text refl refl)
                (one-more flags_text here (id q answer_text) (texts-apart q flags_text answer_text refl refl refl refl) k),
            ((loose-one answer_text refl refl refl refl refl).1, tt),
          ),
          (
            (
              alone-from false (is_among (id q answer_text ∷ f ∷ here) (id q part_text)) (word_at s n.part) (not-predefined part_text refl refl)
                  (one-more answer_text (f ∷ here) (id q part_text) (texts-apart q answer_text part_text refl refl refl refl)
                  (one-more flags_text here (id q part_text) (texts-apart q flags_text part_text refl refl refl refl) l)),
              ((loose-one part_text refl refl refl refl refl).1, tt),
            ),
            further-fit (id q part_text ∷ id q answer_text ∷ f ∷ here) b
                (further-behind part_text refl (id q answer_text ∷ f ∷ here) (further-behind answer_text refl (f ∷ here) (further-behind flags_text refl here m))),
          ),
        ),
      )

      -- what is new among the first declarations, where the program has an instance or not
      record IsFirst (b : Bool) : Type 0 where
        new_fit : AllByRecursion (IsFitIn F) (plains_names here1 inst1 (declared_more b))
        new_fixed : names (plains_names here1 inst1 (declared_more b)) ≡ NF b
        behind : IsSame F Y Pb (plains_names (with_words here1 (flat_map names_declared (declared_more b))) (instances inst1 (declared_more b)) parts.back)

      told-free : (y : ℕ) → IsFreeOf Y y → IsFreeOf (f ∷ id q answer_text ∷ id q part_text ∷ word_ids (flat_map names_declared x.further)) y
      told-free y h =
          or_from (f == y) _ (told-of flags_text refl y h)
          (or_from (id q answer_text == y) _ (told-of answer_text refl y h)
          (or_from (id q part_text == y) _ (told-of part_text refl y h) (subst (λ (l : List Word). IsFreeOf (word_ids l) y) (sym (variables-words x.further x.variables)) (x.new.clear y h))))

      words-free : (b : Bool) (y : ℕ) → IsFreeOf Y y → IsFreeOf (word_ids (flat_map names_declared (declared_more b))) y
      words-free true y h = told-free y h
      words-free false y h = or_from (i == y) _ (told-of int_io_text refl y h) (told-free y h)

      grown1 : (b : Bool) → IsGrown F Y here1 (with_words here1 (flat_map names_declared (declared_more b)))
      grown1 b y y-clear h = free-words here1 (flat_map names_declared (declared_more b)) y h (words-free b y y-clear)

      here-further : AreApart here1 (word_ids ws)
      here-further = x.new.apart here1 here1-clear

      first-parts : (b : Bool) → inst ≡ b → IsFirst b
      first-parts true e = record {
        new_fit = told-fit here1 inst1 (free-here flags_text refl) (free-here answer_text refl) (free-here part_text refl) here-further;
        new_fixed = ap (λ (l : List ℕ). f ∷ l) (further-fixed (id q part_text ∷ id q answer_text ∷ f ∷ here1) inst1);
        behind =
            subst (λ c. IsSame F Y Pb (plains_names (with_words here1 (flat_map names_declared (declared_more true))) c parts.back)) (sym (variables-instances inst1 x.further x.variables))
            (plains-same F Y here1 _ inst1 (grown1 true) parts.back back-plain Pb-good);
      }
      first-parts false e =
          let none = any-parts is_int_io parts.front parts.back (sym (ap (list_any is_int_io) parts.whole) ∙ e) in
          let before : inst1 ≡ false = none-instances false parts.front none.0 in
          let same : Pb ≡ plains_names here1 true parts.back = plains-any here1 inst1 true parts.back none.1 in
          record {
            new_fit = (
              (before, tt),
              (
                (alone-from true (is_among here1 i) (word_at s n.int_io) (not-predefined int_io_text refl refl) (free-here int_io_text refl), tt),
                told-fit (i ∷ here1) true (one-more int_io_text here1 f (texts-apart q int_io_text flags_text refl refl refl refl) (free-here flags_text refl))
                    (one-more int_io_text here1 (id q answer_text) (texts-apart q int_io_text answer_text refl refl refl refl) (free-here answer_text refl))
                    (one-more int_io_text here1 (id q part_text) (texts-apart q int_io_text part_text refl refl refl refl) (free-here part_text refl))
                    (further-behind int_io_text refl here1 here-further),
              ),
            );
            new_fixed = ap (λ (l : List ℕ). i ∷ f ∷ l) (further-fixed (id q part_text ∷ id q answer_text ∷ f ∷ i ∷ here1) true);
            behind =
                subst (λ c. IsSame F Y Pb (plains_names (with_words here1 (flat_map names_declared (declared_more false))) c parts.back)) (sym (variables-instances true x.further x.variables))
                (subst (λ l. IsSame F Y l (plains_names (with_words here1 (flat_map names_declared (declared_more false))) true parts.back)) (sym same)
                (plains-same F Y here1 _ true (grown1 false) parts.back back-plain (subst (AllByRecursion Good) same Pb-good)));
          }

      first-part : IsFirst inst
      first-part = first-parts inst refl

      abbrev P1 : List Naming
      P1 = plains_names start false put

      abbrev Pn : List Naming
      Pn = plains_names here1 inst1 (declared_more inst)

      abbrev Pl : List Naming
      Pl = plains_names (with_words here1 (flat_map names_declared (declared_more inst))) (instances inst1 (declared_more inst)) parts.back

      P1-split : P1 ≡ Pf ++ (Pn ++ Pl)
      P1-split =
          ap (plains_names start false) (parts.put (declared_more inst))
          ∙ plains-append start false parts.front (declared_more inst ++ parts.back)
          ∙ ap (λ (l : List Naming). Pf ++ l) (plains-append here1 inst1 (declared_more inst) parts.back)

      P1-fit : AllByRecursion (IsFitIn F) P1
      P1-fit =
          subst (AllByRecursion (IsFitIn F)) (sym P1-split)
          (all_joined (IsFitIn F) Pf (Pn ++ Pl) (good-fit F Y Pf Pf-good) (all_joined (IsFitIn F) Pn Pl first-part.new_fit first-part.behind.fit))

      P1-fixed : names P1 ≡ names Pf ++ (NF inst ++ names Pb)
      P1-fixed =
          ap names P1-split ∙ flat_map-append fixed_name Pf (Pn ++ Pl)
          ∙ ap (λ (l : List ℕ). names Pf ++ l) (flat_map-append fixed_name Pn Pl ∙ ap₂ (λ (a b : List ℕ). a ++ b) first-part.new_fixed first-part.behind.fixed)

      -- ---- tasks

      abbrev before : List Word
      before = flat_map names_declared plain

      abbrev after : List Word
      after = flat_map names_declared put

      abbrev here : List ℕ
      here = with_words start before

      abbrev there : List ℕ
      there = with_words start after

      here-clear : AreApart here Y
      here-clear = plains-clear F Y (flat_map object_words (unit_declared n s)) are-fresh start false plain all-plain P-good start-clear

      grown : IsGrown F Y here there
      grown y y-clear h = put-here start before after (flat_map names_declared (declared_more inst)) (words-put names_declared q.names (declared_more inst) plain) y (words-free inst y y-clear) h

      told-apart : IsFreeOf (f ∷ id q answer_text ∷ id q part_text ∷ word_ids (flat_map names_declared x.further)) d
      told-apart =
          or_from (f == d) _ (texts-apart q flags_text recorder_text refl refl refl refl)
          (or_from (id q answer_text == d) _ (texts-apart q answer_text recorder_text refl refl refl refl)
          (or_from (id q part_text == d) _ (texts-apart q part_text recorder_text refl refl refl refl)
          (subst (λ (l : List Word). IsFreeOf (word_ids l) d) (sym (variables-words x.further x.variables))
          (pick q (IsFreeOf (word_ids ws)) new_texts (apart-turned X (word_ids ws) x.apart) recorder_text refl))))

      apart-of : (b : Bool) → IsFreeOf (word_ids (flat_map names_declared (declared_more b))) d
      apart-of true = told-apart
      apart-of false = or_from (i == d) _ (texts-apart q int_io_text recorder_text refl refl refl refl) told-apart

      d-free : IsFreeOf there d
      d-free =
          put-here start before after (flat_map names_declared (declared_more inst)) (words-put names_declared q.names (declared_more inst) plain) d (apart-of inst)
          (free-in here here-clear recorder_text refl)

      abbrev units : List PTask
      units = tasks_in ts

      abbrev behind : List ℕ
      behind = with_words there (task_words (map (task_telling n) units))

      units-clear : AreApart (word_ids (task_words units)) Y
      units-clear = apart-turned Y (word_ids (task_words units)) (tasks-clear F Y here units T-good)

      behind-free : IsFreeOf behind d
      behind-free =
          free-words there (task_words (map (task_telling n) units)) d d-free
          (subst (λ (l : List Word). IsFreeOf (word_ids l) d) (sym (more-words n units)) (free-in (word_ids (task_words units)) units-clear recorder_text refl))

      abbrev T1 : List Naming
      T1 = tasks_names there (map (task_telling n) units)

      abbrev T2 : List Naming
      T2 = tasks_names behind (recorder_task q F more loose s ∷ [])

      tasks-parts : tasks_names there (tasks_in more_ts) ≡ T1 ++ T2
      tasks-parts =
          ap (tasks_names there) (tasks_joined x.units recorder ∙ ap (λ (l : List PTask). l ++ tasks_in recorder) x.telling)
          ∙ tasks-append there (map (task_telling n) units) (tasks_in recorder)

      T-same : IsSame F Y T T1
      T-same = tasks-same q F more loose (teller_in (main_unit g)) refl here there grown units T-good

      T2-fit : AllByRecursion (IsFitIn F) T2
      T2-fit = recorder-fit q F more loose s behind (not-predefined recorder_text refl refl) behind-free

      -- ---- bodies

      abbrev held : List ℕ
      held = with_words [] (body_words x.others)

      bodies-are-clear : AreApart (word_ids (body_words bs)) Y
      bodies-are-clear = apart-turned Y (word_ids (body_words bs)) (bodies-clear F Y [] bs B-good)

      held-free : IsFreeOf held d
      held-free = free-words [] (body_words x.others) d refl (subst (λ (l : List Word). IsFreeOf (word_ids l) d) (sym x.words) (free-in (word_ids (body_words bs)) bodies-are-clear recorder_text refl))

      abbrev B1 : List Naming
      B1 = bodies_names [] x.others

      abbrev B2 : List Naming
      B2 = bodies_names held x.its

      bodies-parts : bodies_names [] more_bs ≡ B1 ++ B2
      bodies-parts = bodies-append [] x.others x.its

      -- ---- what is named in the text

      abbrev M1 : List Naming
      M1 = body_names x.main

      abbrev R : List Naming
      R = (N ++ (P1 ++ (T1 ++ T2) ++ (B1 ++ B2))) ++ M1

      text-named : (all : List (List ℕ)) → namings_of (sites (text_with all)) ≡ R
      text-named all =
          program-named (text_with all) put more_ts more_bs refl (put-plain inst) (all_joined IsOneTask x.units recorder x.tasks (refl, tt)) (all_joined IsOneBody x.others x.its x.bodies x.body)
          ∙ (λ j. (N ++ (P1 ++ tasks-parts j ++ bodies-parts j)) ++ M1)
        where
          put-plain : (b : Bool) → AllByRecursion IsPlain (behind_own q.names (declared_more b) plain)
          put-plain b =
              all-behind IsPlain q.names (declared_more b) plain
              (all_joined IsPlain (main_declared n s b (last_task g.numbers)) x.further (all-main IsPlain n s b (last_task g.numbers) (tt, (tt, (tt, (tt, tt)))))
              (variables-plain x.further x.variables))
              all-plain

      joined-fixed : (names N ++ ((names Pf ++ (NF inst ++ names Pb)) ++ (names T ++ (d ∷ [])))) ++ back ≡ F
      joined-fixed =
          ap (λ (l : List ℕ). (names N ++ l) ++ back)
          (append_assoc (names Pf) (NF inst ++ names Pb) (names T ++ (d ∷ []))
          ∙ ap (λ (l : List ℕ). names Pf ++ l) (append_assoc (NF inst) (names Pb) (names T ++ (d ∷ [])) ∙ ap (λ (l : List ℕ). NF inst ++ l) (sym (append_assoc (names Pb) (names T) (d ∷ [])))))
          ∙ ap (λ (l : List ℕ). l ++ back) (sym (append_assoc (names N) (names Pf) (NF inst ++ (mid ++ (d ∷ [])))))
          ∙ append_assoc front (NF inst ++ (mid ++ (d ∷ []))) back
          ∙ ap (λ (l : List ℕ). front ++ l) (append_assoc (NF inst) (mid ++ (d ∷ [])) back ∙ ap (λ (l : List ℕ). NF inst ++ l) (append_assoc mid (d ∷ []) back))

      bodies-fixed : names (B1 ++ B2) ≡ names B
      bodies-fixed = flat_map-append fixed_name B1 B2 ∙ ap₂ (λ (a b : List ℕ). a ++ b) x.same.fixed (x.fixes held) ∙ append-nil (names B)

      text-fixed : names R ≡ F
      text-fixed =
          five-fixed N P1 (T1 ++ T2) (B1 ++ B2) M1
          ∙ ap₂ (λ (a b : List ℕ). (names N ++ a) ++ b)
          (ap₂ (λ (a b : List ℕ). a ++ b) P1-fixed (flat_map-append fixed_name T1 T2 ∙ ap (λ (l : List ℕ). l ++ (d ∷ [])) T-same.fixed))
          (ap₂ (λ (a b : List ℕ). a ++ b) bodies-fixed x.statements.fixed)
          ∙ joined-fixed

      text-fit-in : AllByRecursion (IsFitIn F) R
      text-fit-in =
          all_joined (IsFitIn F) (N ++ (P1 ++ (T1 ++ T2) ++ (B1 ++ B2))) M1
          (all_joined (IsFitIn F) N (P1 ++ (T1 ++ T2) ++ (B1 ++ B2)) (good-fit F Y N main-good)
          (all_joined (IsFitIn F) (P1 ++ (T1 ++ T2)) (B1 ++ B2) (all_joined (IsFitIn F) P1 (T1 ++ T2) P1-fit (all_joined (IsFitIn F) T1 T2 T-same.fit T2-fit))
          (all_joined (IsFitIn F) B1 B2 x.same.fit (x.fine held held-free))))
          x.statements.fit

      text-fit : AreFit R
      text-fit = record {
        alone = fit-in-alone F R text-fit-in;
        distinct = subst AreDistinct (sym text-fixed) F-distinct;
        apart = subst (λ (l : List ℕ). AreApart l (loose_names R)) (sym text-fixed) (fit-in-apart F R text-fit-in);
      }

      -- Rule Duplicate refuses nothing in it.
      pub text-once : (all : List (List ℕ)) → AllOnce [] (sites (text_with all))
      text-once all = fit-once (sites (text_with all)) (subst AreFit (sym (text-named all)) text-fit)
