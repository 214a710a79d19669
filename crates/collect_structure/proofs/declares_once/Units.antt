-- What the tasks and bodies of a collecting text name, by what those of the normal form do, and what its recorder names.
use Rattle.std.proofs.Common.{◌≡◌, ℕ, Bool, true, false, ◌||◌, ◌==◌, if◌then◌else◌, List, [], ◌∷◌, ◌++◌, map, flat_map, None, refl, sym, ap, ◌∙◌, subst}
use Rattle.std.specs.List.{AllByRecursion}
use Rattle.std.proofs.lemmas.Bool.{or_from}
use Rattle.std.proofs.lemmas.List.{append_assoc}
use Rattle.std.proofs.lemmas.Grind.{flat_map-append}
use Rattle.common_lemmas.proofs.Lists.{all_front, all_back, all_joined}
use Rattle.ada_tree.specs.declared.naming.Span.{Span}
use Rattle.ada_tree.specs.declared.naming.Word.{Word}
use Rattle.ada_tree.specs.PlainStmt.{stmt_then, PBody, body, no_handler}
use Rattle.ada_tree.specs.PlainDecl.{PEntry, PTask, PDecl, DTaskBody, PDecls, decls_of}
use Rattle.ada_tree.specs.PlainProgram.{PProgram}
use Rattle.ada_static_rules.specs.RuleDuplicate.{is_predefined, is_among}
use Rattle.ada_static_rules.specs.Sites.{all_names}
use Rattle.ada_decl_rules.specs.duplicates.NamedSoFar.{object_words}
use Rattle.ada_decl_rules.specs.duplicates.NamingsInOrder.{declared}
use Rattle.ada_decl_rules.specs.declared.duplicates.namings_in_order.Naming.{Naming}
use Rattle.ada_decl_rules.specs.declared.duplicates.namings_in_order.Naming.TheVariants.{Once}
use Rattle.syn_event.specs.DeclaredTasks.{decl_list}
use Rattle.syn_event.proofs.DeclLists.{listed_back}
use Rattle.normal_model.specs.Making.{one}
use Rattle.normal_model.specs.Ranges.{word_at}
use Rattle.normal_laws.specs.structure.once.Apart.{IsFreeOf, IsFitIn}
use Rattle.normal_laws.proofs.structure.once.Once.{free-front}
use Rattle.normal_laws.specs.structure.once.Names.{body_names, entries_names, tasks_names, inner_names, bodies_names}
use Rattle.normal_laws.proofs.structure.numbers.Listed.{IsOneBody}
use Rattle.normal_laws.proofs.structure.numbers.Named.{Has}
use Rattle.replay_model.specs.ReplayTree.{is_added_object}
use Rattle.replay_structure.proofs.declares_once.Grown.{alone-from, IsGood, IsGrown, grown-then, IsSame, same-joined, same-then, declares-same, declared-new}
use Rattle.replay_structure.proofs.declares_once.Plain.{IsPut, AreFresh, put-same}
use Rattle.replay_structure.proofs.declares_once.Units.{task_words}
use Rattle.collect_model.specs.declared.AddedNames.{AddedNames}
use Rattle.collect_model.specs.Names.{caller_text, answer_text, part_text, recorder_text, kind_text, subject_text, argument_text, index_text, owner_text, reply_text, gone_text, met_text, collect_names, added_in}
use Rattle.collect_model.specs.Teller.{Teller, task_of, teller_at}
use Rattle.collect_model.specs.CollectStmts.{task_body}
use Rattle.collect_model.specs.Lines.{header_put}
use Rattle.collect_model.specs.Recording.{note_formals, flags_declared, notes_taken, recorder_body}
use Rattle.collect_model.specs.CollectTree.{behind_own, unit_declared, entry_telling, task_telling, collect_decl}
use Rattle.collect_structure.specs.Names.{new_texts}
use Rattle.collect_structure.proofs.declares_once.Ids.{id, ids, pick, pick-free, texts-distinct}
use Rattle.collect_structure.proofs.declares_once.Statements.{caller-more, task-same}

-- ---- words that are put among others

pub words-put : (f : PDecl → List Word) (names : List (List ℕ)) (ds xs : List PDecl) → IsPut (flat_map f xs) (flat_map f (behind_own names ds xs)) (flat_map f ds)
words-put f names ds [] = record { front = []; back = []; before_is = refl; after_is = sym (append-none (flat_map f ds)) }
  where
    append-none : (l : List Word) → l ++ [] ≡ l
    append-none [] = refl
    append-none (w ∷ ws) = ap (λ l. w ∷ l) (append-none ws)
words-put f names ds (x ∷ xs) = by_test (is_added_object names x) (words-put f names ds xs)
  where
    by_test : (b : Bool) → IsPut (flat_map f xs) (flat_map f (behind_own names ds xs)) (flat_map f ds) → IsPut (flat_map f (x ∷ xs)) (flat_map f (if b then ds ++ x ∷ xs else x ∷ behind_own names ds xs)) (flat_map f ds)
    by_test true h = record { front = []; back = f x ++ flat_map f xs; before_is = refl; after_is = flat_map-append f ds (x ∷ xs) }
    by_test false h = record {
      front = f x ++ h.front;
      back = h.back;
      before_is = ap (λ (l : List Word). f x ++ l) h.before_is ∙ sym (append_assoc (f x) h.front h.back);
      after_is = ap (λ (l : List Word). f x ++ l) h.after_is ∙ sym (append_assoc (f x) h.front (flat_map f ds ++ h.back));
    }

-- ---- names that are declared for less than all of main

abbrev pub loose_texts : List (List ℕ)
loose_texts = caller_text ∷ answer_text ∷ part_text ∷ kind_text ∷ subject_text ∷ argument_text ∷ index_text ∷ owner_text ∷ reply_text ∷ gone_text ∷ met_text ∷ []

-- the name is no predefined and no fixed one
abbrev pub IsLoose : List ℕ → ℕ → Type 0
IsLoose F n = (is_predefined n ≡ false) × IsFreeOf F n

-- Beside fixed names F, where further names can be new too.
module _ (q : PProgram) (F more : List ℕ) (loose : AllByRecursion (IsLoose F) (ids q loose_texts)) where
  abbrev pub n : AddedNames
  n = added_in (collect_names q)

  abbrev pub X : List ℕ
  X = ids q new_texts ++ more

  abbrev Good : Naming → Type 0
  Good = IsGood F X

  abbrev Same : List Naming → List Naming → Type 0
  Same = IsSame F X

  fresh : (t : List ℕ) → Has loose_texts t → IsLoose F (id q t)
  fresh t h = pick q (IsLoose F) loose_texts loose t h

  other : (t : List ℕ) → Has new_texts t → (x : ℕ) → IsFreeOf X x → (id q t == x) ≡ false
  other t h x f = pick-free q new_texts x (free-front (ids q new_texts) more x f) t h

  -- the two variables of a unit
  pub unit-fresh : (s : Span) → AreFresh F X (flat_map object_words (unit_declared n s))
  unit-fresh s = record {
    fresh = (fresh answer_text refl, (fresh part_text refl, tt));
    distinct = texts-distinct q (answer_text ∷ part_text ∷ []) (refl, (refl, tt)) (refl, (refl, tt));
    apart = λ here h. let told = all_front (IsFreeOf here) (ids q new_texts) more h in (pick q (IsFreeOf here) new_texts told answer_text refl, (pick q (IsFreeOf here) new_texts told part_text refl, tt));
    clear = λ x h. or_from (id q answer_text == x) ((id q part_text == x) || false) (other answer_text refl x h) (or_from (id q part_text == x) false (other part_text refl x h) refl);
  }

  -- ---- the recorder

  abbrev pub recorder_task : Span → PTask
  recorder_task s = record { name = word_at s n.recorder; of_kind = false; entries = record { name = word_at s n.note; family = None; formals = note_formals n s; span = s } ∷ []; priorities = [] }

  abbrev its_objects : Span → PDecls
  its_objects s = decls_of (flags_declared n s n.gone ∷ flags_declared n s n.met ∷ [])

  abbrev its_body : Span → List ℕ → PBody
  its_body s header = body (stmt_then (header_put s header) (one (notes_taken n s))) no_handler

  pub formals-fit : (s : Span) → AllByRecursion (IsFitIn F) (declared false [] (all_names (note_formals n s)))
  formals-fit s =
      declared-new F X [] (all_names (note_formals n s))
      (fresh kind_text refl, (fresh subject_text refl, (fresh argument_text refl, (fresh index_text refl, (fresh owner_text refl, (fresh reply_text refl, tt))))))
      (refl, (refl, (refl, (refl, (refl, (refl, tt))))))
      (texts-distinct q (kind_text ∷ subject_text ∷ argument_text ∷ index_text ∷ owner_text ∷ reply_text ∷ []) (refl, (refl, (refl, (refl, (refl, (refl, tt)))))) (refl, (refl, (refl, (refl, (refl, (refl, tt)))))))

  pub recorder-fit : (s : Span) (here : List ℕ) → is_predefined (id q recorder_text) ≡ false → IsFreeOf here (id q recorder_text) → AllByRecursion (IsFitIn F) (tasks_names here (recorder_task s ∷ []))
  recorder-fit s here p f = (
    (alone-from true (is_among here (id q recorder_text)) (word_at s n.recorder) p f, tt),
    all_joined (IsFitIn F) (entries_names [] (recorder_task s).entries) [] ((refl, tt), all_joined (IsFitIn F) (declared false [] (all_names (note_formals n s))) [] (formals-fit s) tt) tt,
  )

  flags-fit : (s : Span) → AllByRecursion (IsFitIn F) (declared false [] (word_at s n.gone ∷ word_at s n.met ∷ []))
  flags-fit s =
      declared-new F X [] (word_at s n.gone ∷ word_at s n.met ∷ []) (fresh gone_text refl, (fresh met_text refl, tt)) (refl, (refl, tt)) (texts-distinct q (gone_text ∷ met_text ∷ []) (refl, (refl, tt)) (refl, (refl, tt)))

  -- its statements declare the formals of its accept
  its-fit : (s : Span) (header : List ℕ) → AllByRecursion (IsFitIn F) (body_names (its_body s header))
  its-fit s header = formals-fit s

  pub recorder-body-fit : (s : Span) (header : List ℕ) (held : List ℕ) → IsFreeOf held (id q recorder_text) → AllByRecursion (IsFitIn F) (bodies_names held (recorder_body n s header ∷ []))
  recorder-body-fit s header held f = ((f, tt), all_joined (IsFitIn F) (inner_names (its_objects s) (its_body s header)) [] (all_joined (IsFitIn F) (declared false [] (word_at s n.gone ∷ word_at s n.met ∷ [])) (body_names (its_body s header)) (flags-fit s) (its-fit s header)) tt)

  -- ---- tasks

  module _ (u : Teller) (is : u.added ≡ n) where
    abbrev c : ℕ
    c = u.added.caller.0

    caller : IsLoose F c × ((x : ℕ) → IsFreeOf X x → (c == x) ≡ false)
    caller = subst (λ a. IsLoose F a.caller.0 × ((x : ℕ) → IsFreeOf X x → (a.caller.0 == x) ≡ false)) (sym is) (fresh caller_text refl, other caller_text refl)

    entries-same : (names : List ℕ) (es : List PEntry) → AllByRecursion Good (entries_names names es) → Same (entries_names names es) (entries_names names (map (entry_telling u.added) es))
    entries-same names [] h = record { fit = tt; fixed = refl }
    entries-same names (e ∷ es) h =
        let own : List Naming = declared false [] (all_names e.formals) in
        let rest : List Naming = entries_names (e.name.name.0 ∷ names) es in
        same-then F X (Once (is_among names e.name.name.0) e.name) (Once (is_among names e.name.name.0) e.name) (own ++ rest) _ h.0.0 refl
        (same-joined F X own _ rest _ (caller-more F X u caller.0.0 caller.0.1 caller.1 e.name.span (all_names e.formals) (all_front Good own rest h.1)) (entries-same (e.name.name.0 ∷ names) es (all_back Good own rest h.1)))

    pub tasks-same : (here there : List ℕ) → IsGrown F X here there → (ts : List PTask) → AllByRecursion Good (tasks_names here ts) → Same (tasks_names here ts) (tasks_names there (map (task_telling u.added) ts))
    tasks-same here there g [] h = record { fit = tt; fixed = refl }
    tasks-same here there g (t ∷ ts) h =
        let own : List Naming = entries_names [] t.entries in
        let rest : List Naming = tasks_names (t.name.name.0 ∷ here) ts in
        declares-same F X true here there g t.name (own ++ rest) _ h.0
        (same-joined F X own _ rest _ (entries-same [] t.entries (all_front Good own rest h.1)) (tasks-same (t.name.name.0 ∷ here) (t.name.name.0 ∷ there) (grown-then F X t.name.name.0 here there g) ts (all_back Good own rest h.1)))

    -- ---- bodies

    inner-same : (w : Word) (objects : PDecls) (its : PBody) → AllByRecursion Good (inner_names objects its) →
        Same (inner_names objects its) (inner_names (decls_of (behind_own q.names (unit_declared u.added w.span) (decl_list objects))) (task_body (teller_at u (task_of u.numbers w.name)) w.span its))
    inner-same w objects its h =
        let put : List PDecl = behind_own q.names (unit_declared u.added w.span) (decl_list objects) in
        let own : List Naming = declared false [] (flat_map object_words (decl_list objects)) in
        subst (λ (l : List PDecl). Same (inner_names objects its) (declared false [] (flat_map object_words l) ++ body_names (task_body (teller_at u (task_of u.numbers w.name)) w.span its))) (sym (listed_back put))
        (same-joined F X own (declared false [] (flat_map object_words put)) (body_names its) _
        (put-same F X (flat_map object_words (unit_declared u.added w.span)) (subst (λ a. AreFresh F X (flat_map object_words (unit_declared a w.span))) (sym is) (unit-fresh w.span)) (flat_map object_words (decl_list objects)) (flat_map object_words put)
        (words-put object_words q.names (unit_declared u.added w.span) (decl_list objects)) (all_front Good own (body_names its) h))
        (task-same F X (teller_at u (task_of u.numbers w.name)) caller.0.0 caller.0.1 caller.1 w.span its (all_back Good own (body_names its) h)))

    pub bodies-same : (names : List ℕ) (ds : List PDecl) → AllByRecursion IsOneBody ds → AllByRecursion Good (bodies_names names ds) → Same (bodies_names names ds) (bodies_names names (map (collect_decl u q.names) ds))
    bodies-same names [] are h = record { fit = tt; fixed = refl }
    bodies-same names (DTaskBody w objects its s ∷ ds) one h =
        let own : List Naming = inner_names objects its in
        let rest : List Naming = bodies_names (w.name.0 ∷ names) ds in
        same-then F X (Once (is_among names w.name.0) w) (Once (is_among names w.name.0) w) (own ++ rest) _ h.0.0 refl
        (same-joined F X own _ rest (bodies_names (w.name.0 ∷ names) (map (collect_decl u q.names) ds)) (inner-same w objects its (all_front Good own rest h.1))
        (bodies-same (w.name.0 ∷ names) ds one.1 (all_back Good own rest h.1)))
    bodies-same names (d ∷ ds) one h = absurd one.0

-- ---- lists one behind the other

pub more-words : (a : AddedNames) (ts : List PTask) → task_words (map (task_telling a) ts) ≡ task_words ts
more-words a [] = refl
more-words a (t ∷ ts) = ap (λ (l : List Word). t.name ∷ l) (more-words a ts)
