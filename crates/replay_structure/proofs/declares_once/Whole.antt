-- Rule Duplicate refuses nothing in the replay text of a normal form whose names leave room for it.
use Rattle.std.proofs.Common.{◌≡◌, ℕ, true, false, ◌||◌, ◌==◌, List, [], ◌∷◌, ◌++◌, map, flat_map, refl, sym, ap, ap₂, ◌∙◌, subst}
use Rattle.std.specs.List.{AllByRecursion}
use Rattle.std.specs.Str.{bytes_eq}
use Rattle.std.proofs.lemmas.Bool.{or_from}
use Rattle.std.proofs.lemmas.List.{append_assoc, append-nil}
use Rattle.std.proofs.lemmas.Grind.{flat_map-append}
use Rattle.common_lemmas.proofs.Lists.{all_front, all_back, all_joined, all_weaker, all_paired}
use Rattle.ada_tree.specs.declared.naming.Span.{Span}
use Rattle.ada_tree.specs.declared.naming.Word.{Word}
use Rattle.ada_tree.specs.TypeTable.{TypeTable}
use Rattle.ada_tree.specs.PlainDecl.{PTask, PDecl, DNumber, DObject, DEnumeration, DArray, DSubtype, DException, DIntIo, DPragma, DTask, DTaskBody, decls_of}
use Rattle.ada_tree.specs.PlainProgram.{PProgram}
use Rattle.ada_static_rules.specs.RuleDuplicate.{is_predefined}
use Rattle.ada_static_rules.specs.Sites.{with_words, sites}
use Rattle.syn_event.specs.Numbering.{Numbering}
use Rattle.syn_event.specs.DeclaredTasks.{decl_list, tasks_in}
use Rattle.task_model.specs.Setting.{Setting}
use Rattle.control_script.specs.declared.Op.{Op}
use Rattle.task_laws.specs.legal.rewritten_types.Rewriting.{names_declared}
use Rattle.normal_model.specs.NormalTree.{main_unit, normal_tree}
use Rattle.normal_laws.specs.structure.types.Laws.{setting_of}
use Rattle.normal_laws.proofs.structure.numbers.Named.{Has}
use Rattle.normal_laws.proofs.structure.numbers.Listed.{IsPlain, IsOneTask, IsOneBody, tasks-all, bodies-all, first-plain, firsts, vars, tasks, bodies, vars-plain, normal-list}
use Rattle.replay_model.specs.Names.{kind_text, argument_text, index_text, control_text, idle_text, operations_text, tasks_text, kinds_text, arguments_text, indices_text, counter_text, added_texts}
use Rattle.replay_model.specs.ReplayTree.{behind_own, permit_declared, replay_decl, last_task, replay_of, normal_setting}
use Rattle.replay_model.specs.Controlling.{control_declared, idle_declared, control_body, idle_body}
use Rattle.replay_structure.proofs.texts.Listed.{all-behind, normal-plain, normal-tasks, normal-bodies, more_task, added_tasks}
use Rattle.replay_structure.proofs.texts.Rooted.{replay-has}
use Rattle.ada_decl_rules.specs.duplicates.NamedSoFar.{object_words}
use Rattle.ada_decl_rules.specs.duplicates.NamingsInOrder.{namings_of}
use Rattle.ada_decl_rules.specs.declared.duplicates.namings_in_order.Naming.{Naming}
use Rattle.ada_decl_rules.specs.declared.duplicates.namings_in_order.Naming.TheVariants.{Declares, Labels, Once}
use Rattle.normal_laws.specs.structure.once.Once.{AllOnce}
use Rattle.normal_laws.specs.structure.once.Apart.{IsFreeOf, AreApart, AreDistinct, fixed_name, fixed_names, loose_names, IsFitIn, AreFit}
use Rattle.normal_laws.specs.structure.once.Names.{body_names, tasks_names, bodies_names}
use Rattle.normal_laws.proofs.structure.once.Once.{free-front, free-back, free-both, apart-back, apart-turned, distinct-front, distinct-back, distinct-apart, distinct-both}
use Rattle.normal_laws.proofs.structure.once.Parts.{all-fit-in, fit-in-alone, fit-in-apart}
use Rattle.normal_laws.proofs.structure.once.Rules.{once-fit, fit-once}
use Rattle.normal_laws.proofs.legality.declares_once.DeclaredNames.{word_ids, free-words}
use Rattle.replay_structure.specs.declares_once.Names.{is_added_text, word_named, IsKept, LeavesNames}
use Rattle.replay_structure.specs.declares_once.Laws.{ReplayDeclaresOnce}
use Rattle.replay_structure.proofs.declares_once.Statements.{body-same}
use Rattle.replay_structure.proofs.declares_once.Ids.{IsOwn, id, own-apart, new-not-predefined, HasDoubles, doubles-there}
use Rattle.replay_structure.proofs.declares_once.Grown.{IsGood, IsGrown, IsSame, good-fit}
use Rattle.replay_structure.proofs.declares_once.Plain.{plains_names, AreFresh, words-put, put-here, plains-clear, plains-put}
use Rattle.replay_structure.proofs.declares_once.Units.{task_words, body_words, tasks-same, tasks-clear, bodies-same, bodies-clear, tasks-append, more-words, bodies-append, replayed-words}
use Rattle.replay_structure.proofs.declares_once.Listed.{first_names, unit_names, copy_names, main_name, program-named}
use Rattle.replay_structure.proofs.declares_once.Added.{texts-apart, permit-distinct, added-tasks-fit, added-tasks-fixed, control_words, added-bodies-fit, added-bodies-fixed}
use Rattle.syn_event.proofs.DeclLists.{list_again, tasks_joined}
use Rattle.replay_structure.proofs.checked.Whole.{bodies-mapped}

-- ---- lists of names

-- names that are put among names that differ
pub put-distinct : (xs ys zs : List ℕ) → AreDistinct (xs ++ zs) → AreDistinct ys → AreApart (xs ++ zs) ys → AreDistinct (xs ++ (ys ++ zs))
put-distinct xs ys zs d e a =
    let front : AreApart xs ys = all_weaker (IsFreeOf (xs ++ zs)) (IsFreeOf xs) ys (λ y f. free-front xs zs y f) a in
    let back : AreApart zs ys = all_weaker (IsFreeOf (xs ++ zs)) (IsFreeOf zs) ys (λ y f. free-back xs zs y f) a in
    distinct-both xs (ys ++ zs) (distinct-front xs zs d) (distinct-both ys zs e (distinct-back xs zs d) (apart-turned zs ys back)) (all_joined (IsFreeOf xs) ys zs front (distinct-apart xs zs d))

pub put-free : (xs ys zs : List ℕ) (x : ℕ) → IsFreeOf (xs ++ zs) x → IsFreeOf ys x → IsFreeOf (xs ++ (ys ++ zs)) x
put-free xs ys zs x h k = free-both xs (ys ++ zs) x (free-front xs zs x h) (free-both ys zs x k (free-back xs zs x h))

put-apart : (xs ys zs ws : List ℕ) → AreApart (xs ++ zs) ws → AreApart ys ws → AreApart (xs ++ (ys ++ zs)) ws
put-apart xs ys zs [] h k = tt
put-apart xs ys zs (w ∷ ws) h k = (put-free xs ys zs w h.0 k.0, put-apart xs ys zs ws h.1 k.1)

-- namings of no new names fix and declare none
pub clear-names : (X : List ℕ) (ns : List Naming) → AllByRecursion (λ (n : Naming). IsFreeOf X (word_named n).name.0) ns → AreApart X (fixed_names ns) × AreApart X (loose_names ns)
clear-names X [] h = (tt, tt)
clear-names X (Declares true a w ∷ ns) h = let r = clear-names X ns h.1 in ((h.0, r.0), r.1)
clear-names X (Declares false a w ∷ ns) h = let r = clear-names X ns h.1 in (r.0, (h.0, r.1))
clear-names X (Labels w ∷ ns) h = let r = clear-names X ns h.1 in (r.0, (h.0, r.1))
clear-names X (Once a w ∷ ns) h = clear-names X ns h.1

-- the fixed names of the five parts
pub five-fixed : (a b c d e : List Naming) → fixed_names ((a ++ (b ++ c ++ d)) ++ e) ≡ (fixed_names a ++ (fixed_names b ++ fixed_names c)) ++ (fixed_names d ++ fixed_names e)
five-fixed a b c d e =
    flat_map-append fixed_name (a ++ (b ++ c ++ d)) e
    ∙ ap (λ (l : List ℕ). l ++ fixed_names e)
    (flat_map-append fixed_name a (b ++ c ++ d)
    ∙ ap (λ (l : List ℕ). fixed_names a ++ l) (flat_map-append fixed_name (b ++ c) d ∙ ap (λ (l : List ℕ). l ++ fixed_names d) (flat_map-append fixed_name b c))
    ∙ sym (append_assoc (fixed_names a) (fixed_names b ++ fixed_names c) (fixed_names d)))
    ∙ append_assoc (fixed_names a ++ (fixed_names b ++ fixed_names c)) (fixed_names d) (fixed_names e)

-- ---- tasks and bodies of a replay text

replayed : (g : Setting) (ts : List PDecl) → AllByRecursion IsOneTask ts → (tasks_in (map (replay_decl g) ts) ≡ map (more_task g.program) (tasks_in ts)) × AllByRecursion IsOneTask (map (replay_decl g) ts)
replayed g [] h = (refl, tt)
replayed g (DTask t s ∷ ts) h = let r = replayed g ts h.1 in (ap (λ (l : List PTask). more_task g.program t ∷ l) r.0, (h.0, r.1))
replayed g (DTaskBody w objects its s ∷ ts) h = absurd h.0
replayed g (DNumber w e s ∷ ts) h = absurd h.0
replayed g (DObject ws c x i s ∷ ts) h = absurd h.0
replayed g (DEnumeration w ws s ∷ ts) h = absurd h.0
replayed g (DArray w r x s ∷ ts) h = absurd h.0
replayed g (DSubtype w x s ∷ ts) h = absurd h.0
replayed g (DException ws s ∷ ts) h = absurd h.0
replayed g (DIntIo w s ∷ ts) h = absurd h.0
replayed g (DPragma e s ∷ ts) h = absurd h.0

-- ---- the whole

module _ (p : PProgram) (types : TypeTable) (numbers : Numbering) (ops : List Op) where
  abbrev g : Setting
  g = normal_setting p types numbers

  abbrev q : PProgram
  q = normal_tree p types numbers

  abbrev r : PProgram
  r = replay_of g ops

  abbrev s : Span
  s = q.name.span

  -- ---- the declarations of both

  abbrev plain : List PDecl
  plain = firsts p types numbers ++ vars p types numbers

  abbrev ts : List PDecl
  ts = tasks p types numbers

  abbrev bs : List PDecl
  bs = bodies p types numbers

  abbrev permit : PDecl
  permit = permit_declared q s

  abbrev put : List PDecl
  put = behind_own q.names permit plain

  abbrev more_ts : List PDecl
  more_ts = map (replay_decl g) ts ++ (control_declared q s (last_task g.numbers) ∷ idle_declared q s ∷ [])

  abbrev more_bs : List PDecl
  more_bs = map (replay_decl g) bs ++ (control_body g s ops ∷ idle_body q s ∷ [])

  all-plain : AllByRecursion IsPlain plain
  all-plain = all_joined IsPlain (firsts p types numbers) (vars p types numbers) (first-plain p.decls []) (vars-plain p types numbers)

  all-tasks : AllByRecursion IsOneTask ts
  all-tasks = tasks-all (setting_of p types numbers)

  all-bodies : AllByRecursion IsOneBody bs
  all-bodies = bodies-all (setting_of p types numbers)

  listed : decl_list q.decls ≡ plain ++ ts ++ bs
  listed =
      normal-list p types numbers
      ∙ sym (ap (λ (l : List PDecl). l ++ bs) (append_assoc (firsts p types numbers) (vars p types numbers) ts) ∙ append_assoc (firsts p types numbers) (vars p types numbers ++ ts) bs)

  normal-decls : q.decls ≡ decls_of (plain ++ ts ++ bs)
  normal-decls = sym (list_again q.decls) ∙ ap decls_of listed

  replay-listed : r.decls ≡ decls_of (put ++ more_ts ++ more_bs)
  replay-listed =
      let control : List PDecl = control_declared q s (last_task g.numbers) ∷ idle_declared q s ∷ [] in
      let last : List PDecl = control_body g s ops ∷ idle_body q s ∷ [] in
      ap decls_of
      ((λ i. behind_own q.names permit (normal-plain p types numbers i) ++ map (replay_decl g) (normal-tasks p types numbers i) ++ control ++ map (replay_decl g) (normal-bodies p types numbers i) ++ last)
      ∙ append_assoc (put ++ map (replay_decl g) ts ++ control) (map (replay_decl g) bs) last
      ∙ ap (λ (l : List PDecl). l ++ more_bs) (append_assoc put (map (replay_decl g) ts) control))

  -- ---- what is named in the normal form

  abbrev N : List Naming
  N = main_name q plain ts bs

  abbrev P : List Naming
  P = first_names q plain ts bs

  abbrev T : List Naming
  T = unit_names q plain ts bs

  abbrev B : List Naming
  B = copy_names q plain ts bs

  abbrev M : List Naming
  M = body_names q.body

  abbrev A : List Naming
  A = (N ++ (P ++ T ++ B)) ++ M

  pub normal-named : namings_of (sites q) ≡ A
  normal-named = program-named q plain ts bs normal-decls all-plain all-tasks all-bodies

  abbrev names : List Naming → List ℕ
  names l = fixed_names l

  -- what the normal form fixes in front of the added tasks, and behind
  abbrev front : List ℕ
  front = names N ++ (names P ++ names T)

  abbrev back : List ℕ
  back = names B ++ names M

  -- the new names
  abbrev c : ℕ
  c = id q control_text

  abbrev d : ℕ
  d = id q idle_text

  abbrev X : List ℕ
  X = id q kind_text ∷ id q argument_text ∷ id q index_text ∷ c ∷ d ∷ []

  -- what the replay text fixes
  abbrev F : List ℕ
  F = front ++ ((c ∷ d ∷ []) ++ back)

  abbrev start : List ℕ
  start = q.name.name.0 ∷ []

  abbrev before : List Word
  before = flat_map names_declared plain

  abbrev after : List Word
  after = flat_map names_declared put

  abbrev here : List ℕ
  here = with_words start before

  abbrev more : List ℕ
  more = with_words start after

  module _ (once : AllOnce [] (sites q)) (leaves : LeavesNames q) where
    fit : AreFit A
    fit = subst AreFit normal-named (once-fit (sites q) once)

    kept : AllByRecursion (IsKept q.names) A
    kept = subst (AllByRecursion (IsKept q.names)) normal-named leaves.kept

    -- no new name stands in the normal form
    own-clear : (x : ℕ) → IsOwn q.names x → IsFreeOf X x
    own-clear x o =
        or_from (id q kind_text == x) _ (own-apart q kind_text (replay-has q kind_text refl) refl x o)
        (or_from (id q argument_text == x) _ (own-apart q argument_text (replay-has q argument_text refl) refl x o)
        (or_from (id q index_text == x) _ (own-apart q index_text (replay-has q index_text refl) refl x o)
        (or_from (c == x) _ (own-apart q control_text (replay-has q control_text refl) refl x o)
        (or_from (d == x) false (own-apart q idle_text (replay-has q idle_text refl) refl x o) refl))))

    clear : AllByRecursion (λ (n : Naming). IsFreeOf X (word_named n).name.0) A
    clear = all_weaker (IsKept q.names) (λ (n : Naming). IsFreeOf X (word_named n).name.0) A (λ n k. own-clear (word_named n).name.0 k) kept

    fixed-parts : names A ≡ front ++ back
    fixed-parts = five-fixed N P T B M

    fixed-clear : AreApart (front ++ back) X
    fixed-clear = subst (λ (l : List ℕ). AreApart l X) fixed-parts (apart-turned X (names A) (clear-names X A clear).0)

    F-apart : AreApart F (loose_names A)
    F-apart =
        put-apart front (c ∷ d ∷ []) back (loose_names A) (subst (λ (l : List ℕ). AreApart l (loose_names A)) fixed-parts fit.apart)
        (apart-back (id q kind_text ∷ id q argument_text ∷ id q index_text ∷ []) (c ∷ d ∷ []) (loose_names A) (clear-names X A clear).1)

    F-distinct : AreDistinct F
    F-distinct =
        put-distinct front (c ∷ d ∷ []) back (subst AreDistinct fixed-parts fit.distinct) (or_from (d == c) false (texts-apart q idle_text control_text refl refl refl refl) refl, (refl, tt))
        (fixed-clear.1.1.1.0, (fixed-clear.1.1.1.1.0, tt))

    good : AllByRecursion (IsGood F X) A
    good = all_paired (IsFitIn F) (λ (n : Naming). IsFreeOf X (word_named n).name.0) A (all-fit-in F A fit.alone F-apart) clear

    -- ---- what is known of the parts

    abbrev Good : Naming → Type 0
    Good = IsGood F X

    abbrev Kept : Naming → Type 0
    Kept = IsKept q.names

    decls-good : AllByRecursion Good (P ++ T ++ B)
    decls-good = all_back Good N (P ++ T ++ B) (all_front Good (N ++ (P ++ T ++ B)) M good)

    main-good : AllByRecursion Good N
    main-good = all_front Good N (P ++ T ++ B) (all_front Good (N ++ (P ++ T ++ B)) M good)

    P-good : AllByRecursion Good P
    P-good = all_front Good P T (all_front Good (P ++ T) B decls-good)

    T-good : AllByRecursion Good T
    T-good = all_back Good P T (all_front Good (P ++ T) B decls-good)

    B-good : AllByRecursion Good B
    B-good = all_back Good (P ++ T) B decls-good

    T-kept : AllByRecursion Kept T
    T-kept = all_back Kept P T (all_front Kept (P ++ T) B (all_back Kept N (P ++ T ++ B) (all_front Kept (N ++ (P ++ T ++ B)) M kept)))

    -- ---- the tables and the loop parameter of the controller

    abbrev Y : List ℕ
    Y = id q operations_text ∷ id q tasks_text ∷ id q kinds_text ∷ id q arguments_text ∷ id q indices_text ∷ id q counter_text ∷ []

    inner-clear : (x : ℕ) → IsOwn q.names x → IsFreeOf Y x
    inner-clear x o =
        or_from (id q operations_text == x) _ (own-apart q operations_text (replay-has q operations_text refl) refl x o)
        (or_from (id q tasks_text == x) _ (own-apart q tasks_text (replay-has q tasks_text refl) refl x o)
        (or_from (id q kinds_text == x) _ (own-apart q kinds_text (replay-has q kinds_text refl) refl x o)
        (or_from (id q arguments_text == x) _ (own-apart q arguments_text (replay-has q arguments_text refl) refl x o)
        (or_from (id q indices_text == x) _ (own-apart q indices_text (replay-has q indices_text refl) refl x o)
        (or_from (id q counter_text == x) false (own-apart q counter_text (replay-has q counter_text refl) refl x o) refl)))))

    inner-fixed-clear : AreApart (front ++ back) Y
    inner-fixed-clear =
        subst (λ (l : List ℕ). AreApart l Y) fixed-parts
        (apart-turned Y (names A) (clear-names Y A (all_weaker (IsKept q.names) (λ (n : Naming). IsFreeOf Y (word_named n).name.0) A (λ n k. inner-clear (word_named n).name.0 k) kept)).0)

    -- ---- the variables of a permit

    new-free : (t : List ℕ) → IsFreeOf (front ++ back) (id q t) → (c == id q t) ≡ false → (d == id q t) ≡ false → IsFreeOf F (id q t)
    new-free t f a b = put-free front (c ∷ d ∷ []) back (id q t) f (or_from (c == id q t) ((d == id q t) || false) a (or_from (d == id q t) false b refl))

    are-fresh : (s : Span) → AreFresh F X (object_words (permit_declared q s))
    are-fresh s = record {
      fresh = (
        (new-not-predefined q leaves.begins kind_text (replay-has q kind_text refl) refl, new-free kind_text fixed-clear.0 (texts-apart q control_text kind_text refl refl refl refl) (texts-apart q idle_text kind_text refl refl refl refl)),
        (
          (new-not-predefined q leaves.begins argument_text (replay-has q argument_text refl) refl, new-free argument_text fixed-clear.1.0 (texts-apart q control_text argument_text refl refl refl refl) (texts-apart q idle_text argument_text refl refl refl refl)),
          ((new-not-predefined q leaves.begins index_text (replay-has q index_text refl) refl, new-free index_text fixed-clear.1.1.0 (texts-apart q control_text index_text refl refl refl refl) (texts-apart q idle_text index_text refl refl refl refl)), tt),
        ),
      );
      distinct = permit-distinct q s;
      apart = λ here h. (h.0, (h.1.0, (h.1.1.0, tt)));
      clear = λ x h. free-front (id q kind_text ∷ id q argument_text ∷ id q index_text ∷ []) (c ∷ d ∷ []) x h;
    }

    inner-new : (t : List ℕ) → Has added_texts t → is_added_text t ≡ true → bytes_eq control_text t ≡ false → bytes_eq idle_text t ≡ false → IsFreeOf (front ++ back) (id q t) →
        (is_predefined (id q t) ≡ false) × IsFreeOf F (id q t)
    inner-new t h a n m f = (new-not-predefined q leaves.begins t (replay-has q t h) a, new-free t f (texts-apart q control_text t refl h n refl) (texts-apart q idle_text t refl h m refl))

    inner-fresh : AllByRecursion (λ (w : Word). (is_predefined w.name.0 ≡ false) × IsFreeOf F w.name.0) (control_words F X g s (are-fresh s))
    inner-fresh =
        let free = inner-fixed-clear in (
          inner-new operations_text refl refl refl refl free.0,
          (
            inner-new tasks_text refl refl refl refl free.1.0,
            (
              inner-new kinds_text refl refl refl refl free.1.1.0,
              (inner-new arguments_text refl refl refl refl free.1.1.1.0, (inner-new indices_text refl refl refl refl free.1.1.1.1.0, (inner-new counter_text refl refl refl refl free.1.1.1.1.1.0, tt))),
            ),
          ),
        )

    -- ---- the declarations of main

    abbrev new : List Word
    new = object_words permit

    start-clear : AreApart start X
    start-clear = apart-turned X start (main-good.0.1, tt)

    P-same : IsSame F X P (plains_names start false put)
    P-same = plains-put F X new (are-fresh s) q.names _ _ s start false plain all-plain start-clear P-good

    here-clear : AreApart here X
    here-clear = plains-clear F X new (are-fresh s) start false plain all-plain P-good start-clear

    grown : IsGrown F X here more
    grown x x-clear h = put-here start before after new (words-put names_declared q.names permit plain) x ((are-fresh s).clear x x-clear) h

    -- the controller and the idle task are not declared in front of the tasks
    more-free : (t : List ℕ) → IsFreeOf here (id q t) → IsFreeOf (word_ids new) (id q t) → IsFreeOf more (id q t)
    more-free t h n = put-here start before after new (words-put names_declared q.names permit plain) (id q t) n h

    parts-free : (t : List ℕ) → (id q kind_text == id q t) ≡ false → (id q argument_text == id q t) ≡ false → (id q index_text == id q t) ≡ false → IsFreeOf (word_ids new) (id q t)
    parts-free t a b e = or_from (id q kind_text == id q t) _ a (or_from (id q argument_text == id q t) _ b (or_from (id q index_text == id q t) false e refl))

    c-free : IsFreeOf more c
    c-free =
        more-free control_text here-clear.1.1.1.0
        (parts-free control_text (texts-apart q kind_text control_text refl refl refl refl) (texts-apart q argument_text control_text refl refl refl refl) (texts-apart q index_text control_text refl refl refl refl))

    d-free : IsFreeOf more d
    d-free =
        more-free idle_text here-clear.1.1.1.1.0
        (parts-free idle_text (texts-apart q kind_text idle_text refl refl refl refl) (texts-apart q argument_text idle_text refl refl refl refl) (texts-apart q index_text idle_text refl refl refl refl))

    -- ---- tasks

    abbrev units : List PTask
    units = tasks_in ts

    has-doubles : AllByRecursion (λ (t : PTask). HasDoubles q t.entries) units
    has-doubles =
        let H : PTask → Type 0 = λ (t : PTask). HasDoubles q t.entries in
        let whole : AllByRecursion H ((tasks_in plain ++ units) ++ tasks_in bs) =
        subst (AllByRecursion H) (ap tasks_in listed ∙ tasks_joined (plain ++ ts) bs ∙ ap (λ (l : List PTask). l ++ tasks_in bs) (tasks_joined plain ts)) (doubles-there q) in
        all_back H (tasks_in plain) units (all_front H (tasks_in plain ++ units) (tasks_in bs) whole)

    abbrev added : List PTask
    added = added_tasks q s (last_task g.numbers)

    abbrev behind : List ℕ
    behind = with_words more (task_words (map (more_task q) units))

    behind-free : (x : ℕ) → IsFreeOf more x → IsFreeOf (word_ids (task_words units)) x → IsFreeOf behind x
    behind-free x h k = free-words more (task_words (map (more_task q) units)) x h (subst (λ (l : List Word). IsFreeOf (word_ids l) x) (sym (more-words q units)) k)

    units-clear : AreApart (word_ids (task_words units)) X
    units-clear = apart-turned X (word_ids (task_words units)) (tasks-clear F X here units T-good)

    abbrev T1 : List Naming
    T1 = tasks_names more (map (more_task q) units)

    abbrev T2 : List Naming
    T2 = tasks_names behind added

    tasks-parts : tasks_names more (tasks_in more_ts) ≡ T1 ++ T2
    tasks-parts =
        ap (tasks_names more) (tasks_joined (map (replay_decl g) ts) (control_declared q s (last_task g.numbers) ∷ idle_declared q s ∷ []) ∙ ap (λ (l : List PTask). l ++ added) (replayed g ts all-tasks).0)
        ∙ tasks-append more (map (more_task q) units) added

    T-same : IsSame F X T T1
    T-same = tasks-same F X q leaves.distinct here more grown units has-doubles T-good T-kept

    T2-fit : AllByRecursion (IsFitIn F) T2
    T2-fit =
        added-tasks-fit F X g s (are-fresh s) behind (new-not-predefined q leaves.begins control_text (replay-has q control_text refl) refl) (new-not-predefined q leaves.begins idle_text (replay-has q idle_text refl) refl)
        (behind-free c c-free units-clear.1.1.1.0) (behind-free d d-free units-clear.1.1.1.1.0)

    -- ---- bodies

    abbrev held : List ℕ
    held = with_words [] (body_words (map (replay_decl g) bs))

    held-free : (x : ℕ) → IsFreeOf (word_ids (body_words bs)) x → IsFreeOf held x
    held-free x k = free-words [] (body_words (map (replay_decl g) bs)) x refl (subst (λ (l : List Word). IsFreeOf (word_ids l) x) (sym (replayed-words g bs)) k)

    bodies-are-clear : AreApart (word_ids (body_words bs)) X
    bodies-are-clear = apart-turned X (word_ids (body_words bs)) (bodies-clear F X [] bs B-good)

    abbrev B1 : List Naming
    B1 = bodies_names [] (map (replay_decl g) bs)

    abbrev B2 : List Naming
    B2 = bodies_names held (control_body g s ops ∷ idle_body q s ∷ [])

    bodies-parts : bodies_names [] more_bs ≡ B1 ++ B2
    bodies-parts = bodies-append [] (map (replay_decl g) bs) (control_body g s ops ∷ idle_body q s ∷ [])

    B-same : IsSame F X B B1
    B-same = bodies-same F X g are-fresh [] bs all-bodies B-good

    B2-fit : AllByRecursion (IsFitIn F) B2
    B2-fit = added-bodies-fit F X g s (are-fresh s) ops held inner-fresh (held-free c bodies-are-clear.1.1.1.0) (held-free d bodies-are-clear.1.1.1.1.0)

    -- ---- what is named in the replay text

    abbrev P1 : List Naming
    P1 = plains_names start false put

    abbrev R : List Naming
    R = (N ++ (P1 ++ (T1 ++ T2) ++ (B1 ++ B2))) ++ M

    replay-named : namings_of (sites r) ≡ R
    replay-named =
        program-named r put more_ts more_bs replay-listed (all-behind IsPlain q.names permit plain tt all-plain)
        (all_joined IsOneTask (map (replay_decl g) ts) (control_declared q s (last_task g.numbers) ∷ idle_declared q s ∷ []) (replayed g ts all-tasks).1 (refl, (refl, tt)))
        (all_joined IsOneBody (map (replay_decl g) bs) (control_body g s ops ∷ idle_body q s ∷ []) (bodies-mapped g bs all-bodies) (tt, (tt, tt)))
        ∙ (λ i. (N ++ (P1 ++ tasks-parts i ++ bodies-parts i)) ++ body-same (main_unit g) s q.body i)

    replay-fixed : names R ≡ F
    replay-fixed =
        five-fixed N P1 (T1 ++ T2) (B1 ++ B2) M
        ∙ ap₂ (λ (a b : List ℕ). (names N ++ a) ++ (b ++ names M))
        (ap₂ (λ (a b : List ℕ). a ++ b) P-same.fixed (flat_map-append fixed_name T1 T2 ∙ ap₂ (λ (a b : List ℕ). a ++ b) T-same.fixed (added-tasks-fixed F X g s (are-fresh s) behind)))
        (flat_map-append fixed_name B1 B2 ∙ ap₂ (λ (a b : List ℕ). a ++ b) B-same.fixed (added-bodies-fixed F X g s (are-fresh s) ops held) ∙ append-nil (names B))
        ∙ ap (λ (l : List ℕ). l ++ back) (ap (λ (l : List ℕ). names N ++ l) (sym (append_assoc (names P) (names T) (c ∷ d ∷ []))) ∙ sym (append_assoc (names N) (names P ++ names T) (c ∷ d ∷ [])))
        ∙ append_assoc front (c ∷ d ∷ []) back

    replay-fit-in : AllByRecursion (IsFitIn F) R
    replay-fit-in =
        all_joined (IsFitIn F) (N ++ (P1 ++ (T1 ++ T2) ++ (B1 ++ B2))) M
        (all_joined (IsFitIn F) N (P1 ++ (T1 ++ T2) ++ (B1 ++ B2)) (good-fit F X N main-good)
        (all_joined (IsFitIn F) (P1 ++ (T1 ++ T2)) (B1 ++ B2) (all_joined (IsFitIn F) P1 (T1 ++ T2) P-same.fit (all_joined (IsFitIn F) T1 T2 T-same.fit T2-fit)) (all_joined (IsFitIn F) B1 B2 B-same.fit B2-fit)))
        (good-fit F X M (all_back Good (N ++ (P ++ T ++ B)) M good))

    replay-fit : AreFit R
    replay-fit = record {
      alone = fit-in-alone F R replay-fit-in;
      distinct = subst AreDistinct (sym replay-fixed) F-distinct;
      apart = subst (λ (l : List ℕ). AreApart l (loose_names R)) (sym replay-fixed) (fit-in-apart F R replay-fit-in);
    }

    pub declares-once : AllOnce [] (sites r)
    declares-once = fit-once (sites r) (subst AreFit (sym replay-named) replay-fit)

pub replay_declares_once : ReplayDeclaresOnce
replay_declares_once p types numbers ops once leaves = declares-once p types numbers ops once leaves
