-- The tasks that a normal form declares have the sizes of those of the program, and each of them has a body of its name.
use Rattle.std.proofs.Common.{◌≡◌, ℕ, Bool, true, false, ◌==◌, cond, if◌then◌else◌, List, [], ◌∷◌, ◌++◌, ◌⊎◌, inl, inr, ⊎_elim, map, flat_map, refl, sym, ap, subst, ◌∙◌}
use Rattle.std.specs.List.{AllByRecursion, filter, list_any}
use Rattle.std.proofs.lemmas.List.Elements.{recursion_from_All}
use Rattle.ada_tree.specs.declared.naming.NameId.{NameId}
use Rattle.ada_tree.specs.TypeTable.{TypeTable}
use Rattle.ada_tree.specs.PlainDecl.{PTask, PDecl, DNumber, DObject, DEnumeration, DArray, DSubtype, DException, DIntIo, DPragma, DTask, DTaskBody, PDecls}
use Rattle.ada_tree.specs.PlainProgram.{PProgram}
use Rattle.ada_tree.specs.Every.{EveryEntry, EveryDecl}
use Rattle.syn_event.specs.declared.numbering.TaskInfo.{TaskInfo}
use Rattle.syn_event.specs.CheckSites as check
use Rattle.syn_event.specs.NamedTasks.{task_names_of, NumberedTask, numbered_tasks}
use Rattle.syn_event.specs.AllNumbers.{info_of_task, all_numbers}
use Rattle.syn_event.specs.DeclaredTasks.{decl_list, tasks_in}
use Rattle.task_laws.specs.legal.rewritten_types.Agreement.{Agrees}
use Rattle.task_laws.specs.legal.rewritten_values.Values.{old_names}
use Rattle.task_model.specs.Setting.{Setting}
use Rattle.normal_model.specs.Names.{task_name}
use Rattle.normal_model.specs.NormalTree.{task_under, declared_under, tasks_beside, task_declared, running, bodies_of, normal_tree}
use Rattle.normal_laws.specs.structure.types.Laws.{setting_of}
use Rattle.normal_laws.proofs.structure.units.Declared.{parts-all, numbered-tasks-all}
use Rattle.normal_laws.specs.structure.asked.Pieces.{IsAmong, first_among, later_among}
use Rattle.normal_laws.proofs.structure.numbers.Listed.{firsts, vars, tasks, bodies, normal-list}
use Rattle.normal_laws.proofs.structure.placed.Whole.{each-of, among-mapped}
use Rattle.common_lemmas.proofs.Numbers.{equal_self}
use Rattle.common_lemmas.proofs.Lists.{all_joined, all_flat}
use Rattle.normal_laws.proofs.legality.checks.Declared.{DeclFits}
use Rattle.normal_laws.proofs.legality.checks.Sizes.{DeclSized, entries-fit}
use Rattle.normal_laws.proofs.legality.checks.Lists.{IsBodyNamed, body-has, has-body}
use Rattle.normal_laws.proofs.structure.placed.Made.{among}

-- ---- what is among lists

pub among-kept : {A : Type 0} (f : A → Bool) (x : A) (xs : List A) → IsAmong x xs → f x ≡ true → IsAmong x (filter f xs)
among-kept f x xs (first_among ys) e = subst (λ b. IsAmong x (cond b (x ∷ filter f ys) (filter f ys))) (sym e) (first_among (filter f ys))
among-kept f x xs (later_among y ys i) e = by_test (f y) (among-kept f x ys i e)
  where
    by_test : (b : Bool) → IsAmong x (filter f ys) → IsAmong x (cond b (y ∷ filter f ys) (filter f ys))
    by_test true h = later_among y (filter f ys) h
    by_test false h = h

-- one of a list that is not empty is the first or a later one
among-cases : {A : Type 0} (x y : A) (ys : List A) → IsAmong x (y ∷ ys) → (x ≡ y) ⊎ IsAmong x ys
among-cases x _ ys (first_among _) = inl refl
among-cases x y ys (later_among _ _ i) = inr i

pub kept-among : {A : Type 0} (f : A → Bool) (x : A) (xs : List A) → IsAmong x (filter f xs) → IsAmong x xs × (f x ≡ true)
kept-among f x [] i = elim i [ ]
kept-among f x (y ∷ ys) i = by_test (f y) refl i (kept-among f x ys)
  where
    later : IsAmong x ys × (f x ≡ true) → IsAmong x (y ∷ ys) × (f x ≡ true)
    later r = (later_among y ys r.0, r.1)

    by_test : (b : Bool) → f y ≡ b → IsAmong x (cond b (y ∷ filter f ys) (filter f ys)) → (IsAmong x (filter f ys) → IsAmong x ys × (f x ≡ true)) → IsAmong x (y ∷ ys) × (f x ≡ true)
    by_test true q j more = ⊎_elim (λ e. (subst (λ z. IsAmong z (y ∷ ys)) (sym e) (first_among ys), ap f e ∙ q)) (λ k. later (more k)) (among-cases x y (filter f ys) j)
    by_test false q j more = later (more j)

pub among-front : {A : Type 0} (x : A) (xs ys : List A) → IsAmong x xs → IsAmong x (xs ++ ys)
among-front x xs ys (first_among zs) = first_among (zs ++ ys)
among-front x xs ys (later_among z zs i) = later_among z (zs ++ ys) (among-front x zs ys i)

pub among-back : {A : Type 0} (x : A) (xs ys : List A) → IsAmong x ys → IsAmong x (xs ++ ys)
among-back x [] ys i = i
among-back x (z ∷ zs) ys i = later_among z (zs ++ ys) (among-back x zs ys i)

pub among-flat : {A B : Type 0} (f : A → List B) (x : A) (y : B) (xs : List A) → IsAmong x xs → IsAmong y (f x) → IsAmong y (flat_map f xs)
among-flat f x y xs (first_among zs) i = among-front y (f x) (flat_map f zs) i
among-flat f x y xs (later_among z zs j) i = among-back y (f z) (flat_map f zs) (among-flat f x y zs j i)

-- ---- the program and its normal form

module _ (p : PProgram) (T : TypeTable) where
  abbrev g : Setting
  g = setting_of p T (all_numbers T p)

  abbrev n : PProgram
  n = normal_tree p T (all_numbers T p)

  -- a body of that name stands among these
  abbrev pub HasBody : PDecls → ℕ → Type 0
  HasBody ds k = list_any (λ m. m == k) (check.body_names ds) ≡ true

  -- each task that is declared has a body, so each task in the numbers has
  tasks-bodied : (ds : List PDecl) → AllByRecursion (DeclSized T (check.body_names p.decls)) ds → AllByRecursion (λ (t : PTask). HasBody p.decls t.name.name.0) (tasks_in ds)
  tasks-bodied [] h = tt
  tasks-bodied (DTask t s ∷ ds) h = (h.0.0, tasks-bodied ds h.1)
  tasks-bodied (DTaskBody w objects its s ∷ ds) h = tasks-bodied ds h.1
  tasks-bodied (DNumber w e s ∷ ds) h = tasks-bodied ds h.1
  tasks-bodied (DObject ws c x i s ∷ ds) h = tasks-bodied ds h.1
  tasks-bodied (DEnumeration w ws s ∷ ds) h = tasks-bodied ds h.1
  tasks-bodied (DArray w q x s ∷ ds) h = tasks-bodied ds h.1
  tasks-bodied (DSubtype w x s ∷ ds) h = tasks-bodied ds h.1
  tasks-bodied (DException ws s ∷ ds) h = tasks-bodied ds h.1
  tasks-bodied (DIntIo w s ∷ ds) h = tasks-bodied ds h.1
  tasks-bodied (DPragma e s ∷ ds) h = tasks-bodied ds h.1

  infos-bodied : (ys : List NumberedTask) → AllByRecursion (λ (y : NumberedTask). HasBody p.decls y.unit.name.name.0) ys → AllByRecursion (λ (i : TaskInfo). HasBody p.decls i.unit.0) (map (info_of_task p.names) ys)
  infos-bodied [] h = tt
  infos-bodied (y ∷ ys) h = (h.0, infos-bodied ys h.1)

  module _ (sized : AllByRecursion (DeclSized T (check.body_names p.decls)) (decl_list p.decls)) where
    all-bodied : AllByRecursion (λ (i : TaskInfo). HasBody p.decls i.unit.0) (tasks_beside g)
    all-bodied =
        infos-bodied (numbered_tasks T p)
        (numbered-tasks-all (λ (t : PTask). HasBody p.decls t.name.name.0) T (task_names_of p)
        (parts-all (λ (t : PTask). HasBody p.decls t.name.name.0) p.decls [] tt (tasks-bodied (decl_list p.decls) sized)))

    -- the copy of its body
    pub own-body : (info : TaskInfo) → IsAmong info (tasks_beside g) → HasBody n.decls (task_name g info).0
    own-body info i =
        let b : IsBodyNamed info.unit.0 p.decls = has-body p.decls info.unit.0 (among (λ (x : TaskInfo). HasBody p.decls x.unit.0) info (tasks_beside g) i all-bodied) in
        let runs : IsAmong info (running g b.word.name) = among-kept (λ (x : TaskInfo). x.unit.0 == b.word.name.0) info (tasks_beside g) i (ap (λ k. info.unit.0 == k) b.named ∙ equal_self info.unit.0) in
        let copies = among-flat (bodies_of g) (DTaskBody b.word b.objects b.body b.place) _ (decl_list p.decls) b.among (among-mapped _ info (running g b.word.name) runs) in
        let firsts-there = among-back _ (firsts p T (all_numbers T p)) (vars p T (all_numbers T p) ++ tasks p T (all_numbers T p) ++ bodies p T (all_numbers T p))
        (among-back _ (vars p T (all_numbers T p) ++ tasks p T (all_numbers T p)) (bodies p T (all_numbers T p)) copies) in
        body-has n.decls _ _ _ _ (subst (IsAmong _) (sym (normal-list p T (all_numbers T p))) firsts-there)

    module _ (own : ℕ → Bool) (U : TypeTable) (agree : Agrees own T U) where
      abbrev Fits : PDecl → Type 0
      Fits d = DeclFits U (check.body_names n.decls) d

      under-fits : (unit name : NameId) (d : PDecl) → HasBody n.decls name.0 → EveryDecl (old_names own) d → DeclSized T (check.body_names p.decls) d → AllByRecursion Fits (declared_under unit name d)
      under-fits unit name (DTask t s) e h f = by_test (t.name.name.0 == unit.0)
        where
          by_test : (b : Bool) → AllByRecursion Fits (if b then DTask (task_under name t) s ∷ [] else [])
          by_test true = ((e, entries-fit own T U agree t.entries (recursion_from_All (EveryEntry (old_names own)) t.entries h.1.1) f.1), tt)
          by_test false = tt
      under-fits unit name (DTaskBody w objects its s) e h f = tt
      under-fits unit name (DNumber w x s) e h f = tt
      under-fits unit name (DObject ws c x i s) e h f = tt
      under-fits unit name (DEnumeration w ws s) e h f = tt
      under-fits unit name (DArray w q x s) e h f = tt
      under-fits unit name (DSubtype w x s) e h f = tt
      under-fits unit name (DException ws s) e h f = tt
      under-fits unit name (DIntIo w s) e h f = tt
      under-fits unit name (DPragma x s) e h f = tt

      all-under : (unit name : NameId) (ds : List PDecl) → HasBody n.decls name.0 → AllByRecursion (EveryDecl (old_names own)) ds → AllByRecursion (DeclSized T (check.body_names p.decls)) ds →
          AllByRecursion Fits (flat_map (declared_under unit name) ds)
      all-under unit name [] e h f = tt
      all-under unit name (d ∷ ds) e h f = all_joined Fits (declared_under unit name d) (flat_map (declared_under unit name) ds) (under-fits unit name d e h.0 f.0) (all-under unit name ds e h.1 f.1)

      -- The tasks of the normal form have no more than any text may have.
      pub tasks-fit : AllByRecursion (EveryDecl (old_names own)) (decl_list p.decls) → AllByRecursion Fits (tasks p T (all_numbers T p))
      tasks-fit h =
          all_flat Fits (task_declared g) (tasks_beside g)
          (each-of (λ info. AllByRecursion Fits (task_declared g info)) (tasks_beside g) (λ info i. all-under info.unit (task_name g info) (decl_list p.decls) (own-body info i) h sized))
