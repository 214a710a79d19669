-- What the tasks and bodies of a replay text name, by what those of the normal form do.
use Rattle.std.proofs.Common.{◌≡◌, ℕ, Bool, true, false, ◌||◌, ◌==◌, nat_eq, List, [], ◌∷◌, ◌++◌, map, flat_map, slice_get, codes, Some, None, refl, sym, ap, ap₂, ◌∙◌, subst}
use Rattle.std.specs.List.{AllByRecursion, starts_with}
use Rattle.std.specs.Str.{bytes_eq}
use Rattle.std.proofs.lemmas.Bool.{or_parts, or_from}
use Rattle.std.proofs.lemmas.List.{append_assoc, append-nil, map-append}
use Rattle.std.proofs.lemmas.Grind.{flat_map-append}
use Rattle.ada_tree.specs.declared.naming.Span.{Span}
use Rattle.ada_tree.specs.declared.naming.Word.{Word}
use Rattle.ada_tree.specs.PlainStmt.{PBody}
use Rattle.ada_tree.specs.PlainDecl.{PEntry, PTask, PDecl, DTaskBody, PDecls, decls_of}
use Rattle.ada_tree.specs.PlainProgram.{PProgram}
use Rattle.ada_static_rules.specs.RuleDuplicate.{is_among}
use Rattle.ada_static_rules.specs.Sites.{all_names, with_words}
use Rattle.syn_event.specs.DeclaredTasks.{decl_list}
use Rattle.syn_event.proofs.DeclLists.{listed_back}
use Rattle.task_model.specs.Setting.{Setting}
use Rattle.common_lemmas.proofs.Lists.{all_front, all_back, all_joined}
use Rattle.normal_model.specs.NormalTree.{unit_for}
use Rattle.normal_laws.proofs.structure.numbers.Listed.{IsOneBody}
use Rattle.replay_model.specs.Names.{never_text, join_text}
use Rattle.replay_model.specs.ReplayTree.{behind_own, permit_declared, double_entry, more_entries, replay_decl}
use Rattle.replay_model.specs.ReplayStmts.{replay_body}
use Rattle.replay_model.specs.Controlling.{added_entry}
use Rattle.replay_structure.proofs.texts.Listed.{more_task}
use Rattle.ada_decl_rules.specs.duplicates.NamedSoFar.{object_words}
use Rattle.ada_decl_rules.specs.duplicates.NamingsInOrder.{declared}
use Rattle.ada_decl_rules.specs.declared.duplicates.namings_in_order.Naming.{Naming}
use Rattle.ada_decl_rules.specs.declared.duplicates.namings_in_order.Naming.TheVariants.{Declares, Once}
use Rattle.normal_laws.specs.structure.once.Apart.{IsFreeOf, AreApart, AreDistinct, fixed_name, fixed_names, IsFitIn}
use Rattle.normal_laws.specs.structure.once.Names.{body_names, entries_names, tasks_names, inner_names, bodies_names}
use Rattle.normal_laws.proofs.structure.once.Once.{one-apart, one-free, apart-front, apart-back, apart-both, apart-turned, free-both, distinct-both}
use Rattle.normal_laws.proofs.legality.declares_once.DeclaredNames.{word_ids, free-words}
use Rattle.replay_structure.proofs.texts.Rooted.{replay-has}
use Rattle.normal_laws.proofs.structure.numbers.Named.{Has}
use Rattle.replay_structure.specs.declares_once.Names.{IsKept}
use Rattle.replay_structure.proofs.declares_once.Statements.{body-same}
use Rattle.replay_structure.proofs.declares_once.Ids.{apart-by, IsOwn, all, id, added-apart, own-apart, double, HasDoubles, doubles-differ}
use Rattle.replay_structure.proofs.declares_once.Grown.{IsGood, IsGrown, grown-then, IsSame, same-joined, same-then, good-fit, declares-same}
use Rattle.replay_structure.proofs.declares_once.Plain.{AreFresh, words-put, put-same}

-- ---- entries

abbrev pub entry_words : List PEntry → List Word
entry_words es = map (λ e. e.name) es

abbrev pub task_words : List PTask → List Word
task_words ts = map (λ t. t.name) ts

abbrev pub body_words : List PDecl → List Word
body_words [] = []
body_words (DTaskBody w objects its s ∷ ds) = w ∷ body_words ds
body_words (_ ∷ ds) = body_words ds

entries-append : (names : List ℕ) (xs ys : List PEntry) → entries_names names (xs ++ ys) ≡ entries_names names xs ++ entries_names (with_words names (entry_words xs)) ys
entries-append names [] ys = refl
entries-append names (x ∷ xs) ys =
    let own : List Naming = declared false [] (all_names x.formals) in
    ap (λ (l : List Naming). Once (is_among names x.name.name.0) x.name ∷ l)
    (ap (λ (l : List Naming). own ++ l) (entries-append (x.name.name.0 ∷ names) xs ys) ∙ sym (append_assoc own (entries_names (x.name.name.0 ∷ names) xs) (entries_names (with_words (x.name.name.0 ∷ names) (entry_words xs)) ys)))

module _ (F X : List ℕ) where
  abbrev FormalsFit : PEntry → Type 0
  FormalsFit e = AllByRecursion (IsFitIn F) (declared false [] (all_names e.formals))

  -- entries with new names
  pub entries-new : (names : List ℕ) (es : List PEntry) → AreApart names (word_ids (entry_words es)) → AreDistinct (word_ids (entry_words es)) → AllByRecursion FormalsFit es → AllByRecursion (IsFitIn F) (entries_names names es)
  entries-new names [] a d f = tt
  entries-new names (e ∷ es) a d f = (
    (a.0, tt),
    all_joined (IsFitIn F) (declared false [] (all_names e.formals)) (entries_names (e.name.name.0 ∷ names) es) f.0
        (entries-new (e.name.name.0 ∷ names) es (apart-both (e.name.name.0 ∷ []) names (word_ids (entry_words es)) (one-apart (word_ids (entry_words es)) e.name.name.0 d.0) a.1) d.1 f.1),
  )

  declared-none : (here : List ℕ) (ws : List Word) → fixed_names (declared false here ws) ≡ []
  declared-none here [] = refl
  declared-none here (w ∷ ws) = declared-none (w.name.0 ∷ here) ws

  pub entries-none : (names : List ℕ) (es : List PEntry) → fixed_names (entries_names names es) ≡ []
  entries-none names [] = refl
  entries-none names (e ∷ es) =
      flat_map-append fixed_name (declared false [] (all_names e.formals)) (entries_names (e.name.name.0 ∷ names) es)
      ∙ ap₂ (λ (a b : List ℕ). a ++ b) (declared-none [] (all_names e.formals)) (entries-none (e.name.name.0 ∷ names) es)

  -- what is known of entries that are fine
  entries-distinct : (names : List ℕ) (es : List PEntry) → AllByRecursion (IsGood F X) (entries_names names es) → AreApart names (word_ids (entry_words es)) × AreDistinct (word_ids (entry_words es))
  entries-distinct names [] h = (tt, tt)
  entries-distinct names (e ∷ es) h =
      let ids : List ℕ = word_ids (entry_words es) in
      let r = entries-distinct (e.name.name.0 ∷ names) es (all_back (IsGood F X) (declared false [] (all_names e.formals)) (entries_names (e.name.name.0 ∷ names) es) h.1) in
      ((h.0.0.0, apart-back (e.name.name.0 ∷ []) names ids r.0), (one-free ids e.name.name.0 (apart-front (e.name.name.0 ∷ []) names ids r.0), r.1))

  entries-formals : (names : List ℕ) (es : List PEntry) → AllByRecursion (IsGood F X) (entries_names names es) → AllByRecursion FormalsFit es
  entries-formals names [] h = tt
  entries-formals names (e ∷ es) h = (
    good-fit F X (declared false [] (all_names e.formals)) (all_front (IsGood F X) (declared false [] (all_names e.formals)) (entries_names (e.name.name.0 ∷ names) es) h.1),
    entries-formals (e.name.name.0 ∷ names) es (all_back (IsGood F X) (declared false [] (all_names e.formals)) (entries_names (e.name.name.0 ∷ names) es) h.1),
  )

  -- ---- the entries that a task gets

  module _ (q : PProgram) (distinct : (t : List ℕ) (i j : ℕ) → slice_get q.names i ≡ Some t → slice_get q.names j ≡ Some t → i ≡ j) where
    abbrev IsOwnEntry : PEntry → Type 0
    IsOwnEntry e = IsOwn q.names e.name.name.0

    abbrev doubles : List PEntry → List PEntry
    doubles es = map (double_entry q) es

    abbrev ends : Span → List PEntry
    ends s = added_entry q s never_text None [] ∷ added_entry q s join_text None [] ∷ []

    abbrev ids : List PEntry → List ℕ
    ids es = word_ids (entry_words es)

    ids-joined : (xs ys : List PEntry) → ids (xs ++ ys) ≡ ids xs ++ ids ys
    ids-joined xs ys = ap word_ids (map-append (λ (e : PEntry). e.name) xs ys) ∙ map-append (λ (w : Word). w.name.0) (entry_words xs) (entry_words ys)

    -- an entry of the normal form is none of those that are added
    own-doubles : (x : ℕ) → IsOwn q.names x → (es : List PEntry) → HasDoubles q es → IsFreeOf (ids (doubles es)) x
    own-doubles x own [] h = refl
    own-doubles x own (e ∷ es) h = or_from (id q (double q e) == x) (is_among (ids (doubles es)) x) (own-apart q (double q e) h.0 refl x own) (own-doubles x own es h.1)

    own-ends : (s : Span) (x : ℕ) → IsOwn q.names x → IsFreeOf (ids (ends s)) x
    own-ends s x own =
        or_from (id q never_text == x) ((id q join_text == x) || false) (own-apart q never_text (replay-has q never_text refl) refl x own)
        (or_from (id q join_text == x) false (own-apart q join_text (replay-has q join_text refl) refl x own) refl)

    all-free : (s : Span) (more : List PEntry) → HasDoubles q more → (es : List PEntry) → AllByRecursion IsOwnEntry es → AreApart (ids (doubles more) ++ ids (ends s)) (ids es)
    all-free s more h [] own = tt
    all-free s more h (e ∷ es) own = (free-both (ids (doubles more)) (ids (ends s)) e.name.name.0 (own-doubles e.name.name.0 own.0 more h) (own-ends s e.name.name.0 own.0), all-free s more h es own.1)

    -- a double is none of the doubles of entries with other names
    double-other : (e : PEntry) → IsOwnEntry e → Has (all q) (double q e) → (es : List PEntry) → AllByRecursion IsOwnEntry es → HasDoubles q es → IsFreeOf (ids es) e.name.name.0 → IsFreeOf (ids (doubles es)) (id q (double q e))
    double-other e own has [] o h f = refl
    double-other e own has (x ∷ es) o h f =
        let r = or_parts (x.name.name.0 == e.name.name.0) (is_among (ids es) e.name.name.0) f in
        or_from (id q (double q x) == id q (double q e)) (is_among (ids (doubles es)) (id q (double q e))) (doubles-differ q distinct x.name e.name o.0 own h.0 has r.0) (double-other e own has es o.1 h.1 r.1)

    doubles-distinct : (es : List PEntry) → AllByRecursion IsOwnEntry es → HasDoubles q es → AreDistinct (ids es) → AreDistinct (ids (doubles es))
    doubles-distinct [] o h d = tt
    doubles-distinct (e ∷ es) o h d = (double-other e o.0 h.0 es o.1 h.1 d.0, doubles-distinct es o.1 h.1 d.1)

    abbrev is_double : List ℕ → Bool
    is_double t = starts_with nat_eq t (codes "DED_S_")

    -- and no other added name
    doubles-free : (t : List ℕ) → Has (all q) t → is_double t ≡ false → (es : List PEntry) → HasDoubles q es → IsFreeOf (ids (doubles es)) (id q t)
    doubles-free t has n [] h = refl
    doubles-free t has n (e ∷ es) h =
        or_from (id q (double q e) == id q t) (is_among (ids (doubles es)) (id q t)) (added-apart q (double q e) t h.0 has (apart-by is_double (double q e) t refl n)) (doubles-free t has n es h.1)

    ends-distinct : (s : Span) → AreDistinct (ids (ends s))
    ends-distinct s =
        (or_from (id q join_text == id q never_text) false (added-apart q join_text never_text (replay-has q join_text refl) (replay-has q never_text refl) (apart-by (bytes_eq join_text) join_text never_text refl refl)) refl, (refl, tt))

    double-formals : (es : List PEntry) → AllByRecursion FormalsFit es → AllByRecursion FormalsFit (doubles es)
    double-formals [] f = tt
    double-formals (e ∷ es) f = (f.0, double-formals es f.1)

    abbrev Kept : Naming → Type 0
    Kept = IsKept q.names

    entries-own : (names : List ℕ) (es : List PEntry) → AllByRecursion Kept (entries_names names es) → AllByRecursion IsOwnEntry es
    entries-own names [] h = tt
    entries-own names (e ∷ es) h = (h.0, entries-own (e.name.name.0 ∷ names) es (all_back Kept (declared false [] (all_names e.formals)) (entries_names (e.name.name.0 ∷ names) es) h.1))

    apart-entries : (es : List PEntry) (ys : List ℕ) → AreApart (ids es) ys → AreApart (with_words [] (entry_words es)) ys
    apart-entries es [] h = tt
    apart-entries es (y ∷ ys) h = (free-words [] (entry_words es) y refl h.0, apart-entries es ys h.1)

    -- the entries of a task with further entries
    entries-more : (es : List PEntry) (s : Span) → HasDoubles q es → AllByRecursion (IsGood F X) (entries_names [] es) → AllByRecursion Kept (entries_names [] es) →
        IsSame F X (entries_names [] es) (entries_names [] (es ++ doubles es ++ ends s))
    entries-more es s has good kept =
        subst (λ (l : List Naming). IsSame F X (entries_names [] es) l) (sym parts)
        record {
          fit = all_joined (IsFitIn F) (entries_names [] es) later (good-fit F X (entries_names [] es) good)
              (entries-new (with_words [] (entry_words es)) (doubles es ++ ends s)
              (apart-entries es (ids (doubles es ++ ends s)) (subst (λ (l : List ℕ). AreApart (ids es) l) (sym (ids-joined (doubles es) (ends s))) (apart-turned (ids (doubles es) ++ ids (ends s)) (ids es) (all-free s es has es own))))
              (subst AreDistinct (sym (ids-joined (doubles es) (ends s)))
              (distinct-both (ids (doubles es)) (ids (ends s)) (doubles-distinct es own has (entries-distinct [] es good).1) (ends-distinct s)
              (doubles-free never_text (replay-has q never_text refl) refl es has, (doubles-free join_text (replay-has q join_text refl) refl es has, tt))))
              (all_joined FormalsFit (doubles es) (ends s) (double-formals es (entries-formals [] es good)) (tt, (tt, tt))));
          fixed = flat_map-append fixed_name (entries_names [] es) later ∙ ap (λ (l : List ℕ). fixed_names (entries_names [] es) ++ l) (entries-none (with_words [] (entry_words es)) (doubles es ++ ends s)) ∙ append-nil (fixed_names (entries_names [] es));
        }
      where
        own : AllByRecursion IsOwnEntry es
        own = entries-own [] es kept

        later : List Naming
        later = entries_names (with_words [] (entry_words es)) (doubles es ++ ends s)

        parts : entries_names [] (es ++ doubles es ++ ends s) ≡ entries_names [] es ++ later
        parts = ap (entries_names []) (append_assoc es (doubles es) (ends s)) ∙ entries-append [] es (doubles es ++ ends s)

    -- ---- tasks

    pub tasks-same : (here more : List ℕ) → IsGrown F X here more → (ts : List PTask) → AllByRecursion (λ (t : PTask). HasDoubles q t.entries) ts → AllByRecursion (IsGood F X) (tasks_names here ts) → AllByRecursion Kept (tasks_names here ts) →
        IsSame F X (tasks_names here ts) (tasks_names more (map (more_task q) ts))
    tasks-same here more g [] has good kept = record { fit = tt; fixed = refl }
    tasks-same here more g (t ∷ ts) has good kept =
        let own : List Naming = entries_names [] t.entries in
        let rest : List Naming = tasks_names (t.name.name.0 ∷ here) ts in
        declares-same F X true here more g t.name (own ++ rest) _ good.0
        (same-joined F X own (entries_names [] (more_entries q t)) rest (tasks_names (t.name.name.0 ∷ more) (map (more_task q) ts))
        (entries-more t.entries t.name.span has.0 (all_front (IsGood F X) own rest good.1) (all_front Kept own rest kept.1))
        (tasks-same (t.name.name.0 ∷ here) (t.name.name.0 ∷ more) (grown-then F X t.name.name.0 here more g) ts has.1 (all_back (IsGood F X) own rest good.1) (all_back Kept own rest kept.1)))

  pub tasks-clear : (here : List ℕ) (ts : List PTask) → AllByRecursion (IsGood F X) (tasks_names here ts) → AreApart X (word_ids (task_words ts))
  tasks-clear here [] h = tt
  tasks-clear here (t ∷ ts) h = (h.0.1, tasks-clear (t.name.name.0 ∷ here) ts (all_back (IsGood F X) (entries_names [] t.entries) (tasks_names (t.name.name.0 ∷ here) ts) h.1))

  -- ---- bodies

  pub bodies-clear : (names : List ℕ) (ds : List PDecl) → AllByRecursion (IsGood F X) (bodies_names names ds) → AreApart X (word_ids (body_words ds))
  bodies-clear names [] h = tt
  bodies-clear names (DTaskBody w objects its s ∷ ds) h = (h.0.1, bodies-clear (w.name.0 ∷ names) ds (all_back (IsGood F X) (inner_names objects its) (bodies_names (w.name.0 ∷ names) ds) h.1))
  bodies-clear names (d ∷ ds) h = bodies-clear names ds h

  module _ (g : Setting) (are : (s : Span) → AreFresh F X (object_words (permit_declared g.program s))) where
    -- what is named in a body with the variables of its permit
    inner-same : (w : Word) (objects : PDecls) (its : PBody) → AllByRecursion (IsGood F X) (inner_names objects its) →
        IsSame F X (inner_names objects its) (inner_names (decls_of (behind_own g.program.names (permit_declared g.program w.span) (decl_list objects))) (replay_body (unit_for g w.name) w.span its))
    inner-same w objects its h =
        let put : List PDecl = behind_own g.program.names (permit_declared g.program w.span) (decl_list objects) in
        let own : List Naming = declared false [] (flat_map object_words (decl_list objects)) in
        subst (λ (l : List Naming). IsSame F X (inner_names objects its) (declared false [] (flat_map object_words (decl_list (decls_of put))) ++ l)) (sym (body-same (unit_for g w.name) w.span its))
        (subst (λ (l : List PDecl). IsSame F X (inner_names objects its) (declared false [] (flat_map object_words l) ++ body_names its)) (sym (listed_back put))
        (same-joined F X own (declared false [] (flat_map object_words put)) (body_names its) (body_names its)
        (put-same F X (object_words (permit_declared g.program w.span)) (are w.span) (flat_map object_words (decl_list objects)) (flat_map object_words put)
        (words-put object_words g.program.names (permit_declared g.program w.span) (decl_list objects)) (all_front (IsGood F X) own (body_names its) h))
        record { fit = good-fit F X (body_names its) (all_back (IsGood F X) own (body_names its) h); fixed = refl }))

    pub bodies-same : (names : List ℕ) (ds : List PDecl) → AllByRecursion IsOneBody ds → AllByRecursion (IsGood F X) (bodies_names names ds) → IsSame F X (bodies_names names ds) (bodies_names names (map (replay_decl g) ds))
    bodies-same names [] are h = record { fit = tt; fixed = refl }
    bodies-same names (DTaskBody w objects its s ∷ ds) one h =
        let own : List Naming = inner_names objects its in
        let rest : List Naming = bodies_names (w.name.0 ∷ names) ds in
        same-then F X (Once (is_among names w.name.0) w) (Once (is_among names w.name.0) w) (own ++ rest) _ h.0.0 refl
        (same-joined F X own _ rest (bodies_names (w.name.0 ∷ names) (map (replay_decl g) ds)) (inner-same w objects its (all_front (IsGood F X) own rest h.1))
        (bodies-same (w.name.0 ∷ names) ds one.1 (all_back (IsGood F X) own rest h.1)))
    bodies-same names (d ∷ ds) one h = absurd one.0

-- ---- lists one behind the other

pub tasks-append : (here : List ℕ) (xs ys : List PTask) → tasks_names here (xs ++ ys) ≡ tasks_names here xs ++ tasks_names (with_words here (task_words xs)) ys
tasks-append here [] ys = refl
tasks-append here (x ∷ xs) ys =
    let own : List Naming = entries_names [] x.entries in
    ap (λ (l : List Naming). Declares true (is_among here x.name.name.0) x.name ∷ l)
    (ap (λ (l : List Naming). own ++ l) (tasks-append (x.name.name.0 ∷ here) xs ys) ∙ sym (append_assoc own (tasks_names (x.name.name.0 ∷ here) xs) (tasks_names (with_words (x.name.name.0 ∷ here) (task_words xs)) ys)))

pub more-words : (q : PProgram) (ts : List PTask) → task_words (map (more_task q) ts) ≡ task_words ts
more-words q [] = refl
more-words q (t ∷ ts) = ap (λ (l : List Word). t.name ∷ l) (more-words q ts)

pub bodies-append : (names : List ℕ) (xs ys : List PDecl) → bodies_names names (xs ++ ys) ≡ bodies_names names xs ++ bodies_names (with_words names (body_words xs)) ys
bodies-append names [] ys = refl
bodies-append names (DTaskBody w objects its s ∷ xs) ys =
    let own : List Naming = inner_names objects its in
    ap (λ (l : List Naming). Once (is_among names w.name.0) w ∷ l)
    (ap (λ (l : List Naming). own ++ l) (bodies-append (w.name.0 ∷ names) xs ys) ∙ sym (append_assoc own (bodies_names (w.name.0 ∷ names) xs) (bodies_names (with_words (w.name.0 ∷ names) (body_words xs)) ys)))
bodies-append names (d ∷ xs) ys = bodies-append names xs ys

pub replayed-words : (g : Setting) (ds : List PDecl) → body_words (map (replay_decl g) ds) ≡ body_words ds
replayed-words g [] = refl
replayed-words g (DTaskBody w objects its s ∷ ds) = ap (λ (l : List Word). w ∷ l) (replayed-words g ds)
replayed-words g (d ∷ ds) = replayed-words g ds
