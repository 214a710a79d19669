-- The scopes behind the variables, the tasks and the bodies of a normal form have the same names as those of the program, and there each task means a
-- single task with the entries of its unit.
use Rattle.std.proofs.Common.{◌≡◌, ℕ, Bool, true, false, ◌==◌, if◌then◌else◌, List, [], ◌∷◌, ◌++◌, map, find, flat_map, option_map, Option, Some, None, ◌⊎◌, inl, inr, ⊎_elim, refl, sym, ap, ◌∙◌, subst, true≢false}
use Rattle.std.specs.List.{AllByRecursion, filter}
use Rattle.common_lemmas.proofs.Numbers.{equal_is, equal_self}
use Rattle.ada_tree.specs.declared.naming.NameId.{NameId}
use Rattle.ada_tree.specs.declared.naming.Span.{Span}
use Rattle.ada_tree.specs.declared.naming.Word.{Word}
use Rattle.ada_tree.specs.TypeTable.{TypeTable}
use Rattle.ada_tree.specs.PlainExpr.{PSubind}
use Rattle.ada_tree.specs.PlainStmt.{PBody}
use Rattle.ada_tree.specs.PlainDecl.{OPlain, PTask, PDecl, DNumber, DObject, DEnumeration, DArray, DSubtype, DException, DIntIo, DPragma, DTask, DTaskBody, PDecls, decls_of}
use Rattle.ada_tree.specs.Every.{EveryEntry}
use Rattle.ada_static_rules.specs.Scope.{Scope, NameMeaning, Thing, TypeMark, TaskType, SingleTask, TaskObject, TaskArray, Variable, ConstantObject, Parameter, LoopParameter, Literal, AnException, MainProcedure, AnotherUnit, Unclear, EntryPart, meaning}
use Rattle.ada_static_rules.specs.Declaring.{seen_as, entry_part, declared_object, with_constants, with_name, with_types, in_body, after_objects, after_decl, after_decls}
use Rattle.syn_event.specs.declared.numbering.TaskInfo.{TaskInfo}
use Rattle.syn_event.specs.NamedTasks.{NamedTasks}
use Rattle.syn_event.specs.DeclaredTasks.{decl_list, tasks_of}
use Rattle.task_model.specs.Setting.{Setting}
use Rattle.normal_model.specs.Names.{variable_name, task_name}
use Rattle.normal_model.specs.Ranges.{word_at}
use Rattle.normal_model.specs.Variables.{variable_declared}
use Rattle.normal_model.specs.NormalStmts.{unit_variables}
use Rattle.normal_model.specs.RewrittenUnit.{RewrittenUnit}
use Rattle.normal_model.specs.NormalTree.{task_under, task_declared, running, bodies_of}
use Rattle.task_laws.specs.legal.rewritten_types.Agreement.{Keeps}
use Rattle.task_laws.proofs.legal.rewritten_types.Adding.{keeps-decl, keeps-objects}
use Rattle.task_laws.specs.legal.rewritten_values.Values.{old_names}
use Rattle.normal_laws.proofs.structure.types.Variables.{all-flat, all-mapped, unit-all}
use Rattle.task_laws.specs.legal.alike_scopes.Alike.{IsNoValue, no_thing, a_task, a_task_object, a_task_array, no_values, SameNames}
use Rattle.task_laws.proofs.legal.alike_scopes.Naming.{name-right, names-new, table-right}
use Rattle.normal_laws.proofs.legality.scopes.Seeing.{HasEntries, entries_in}
use Rattle.normal_laws.proofs.legality.scopes.Places.{IsPlaced}
use Rattle.normal_laws.proofs.legality.scopes.Tasks.{has_name, one-under, entries-same}

-- ---- tasks of the program

-- a name is seen with the entries of a task, or is not declared before
abbrev pub IsSeenAs : Scope → Scope → NameId → PTask → Type 0
IsSeenAs S s id u = ((th : Thing) × (meaning s id ≡ Some th) × HasEntries (entries_in S u) th) ⊎ (meaning s id ≡ None)

entries-no-value : (es : List EntryPart) (th : Thing) (o : Option Thing) → o ≡ Some th → HasEntries es th → IsNoValue o
entries-no-value es (SingleTask xs) o e h = a_task xs e
entries-no-value es (TaskObject xs) o e h = a_task_object xs e
entries-no-value es (TaskArray range xs) o e h = a_task_array range xs e
entries-no-value es (TypeMark m) o e h = absurd h
entries-no-value es (TaskType xs) o e h = absurd h
entries-no-value es (Variable m) o e h = absurd h
entries-no-value es (ConstantObject m) o e h = absurd h
entries-no-value es (Parameter mode m) o e h = absurd h
entries-no-value es (LoopParameter m) o e h = absurd h
entries-no-value es (Literal k) o e h = absurd h
entries-no-value es AnException o e h = absurd h
entries-no-value es MainProcedure o e h = absurd h
entries-no-value es AnotherUnit o e h = absurd h
entries-no-value es Unclear o e h = absurd h

pub seen-no-value : (S s : Scope) (id : NameId) (u : PTask) → IsSeenAs S s id u → IsNoValue (meaning s id)
seen-no-value S s id u h = ⊎_elim (λ x. entries-no-value (entries_in S u) x.0 (meaning s id) x.1 x.2) (λ e. no_thing e) h

-- one of the tasks has this task's name
abbrev pub IsAmongNames : Setting → TaskInfo → List TaskInfo → Type 0
IsAmongNames g a [] = ⊥
IsAmongNames g a (b ∷ infos) = ((task_name g b).0 ≡ (task_name g a).0) ⊎ IsAmongNames g a infos

module _ (old : ℕ → Bool) (g : Setting) (S r : Scope) (all : List NamedTasks) where
  -- What is known of a task beside main: its unit, which is declared once and has entries of old names; where its name in the normal form is old it
  -- is its own; and how its name is seen in the program.
  pub record HasUnit (info : TaskInfo) : Type 0 where
    pub unit : PTask
    pub declared : filter (has_name info.unit) (tasks_of g.program) ≡ unit ∷ []
    pub entries : AllByRecursion (EveryEntry (old_names old)) unit.entries
    pub name : old (task_name g info).0 ≡ true → (task_name g info).0 ≡ info.name.0
    pub seen : (s : Scope) → IsPlaced S all r s → IsSeenAs S s info.name unit

  -- A scope of the normal form has the same names as each such scope of the program.
  pub record IsFormed (t : Scope) : Type 0 where
    pub same : (s : Scope) → IsPlaced S all r s → SameNames old s t
    pub main : t.in_main ≡ true
    pub own : t.own ≡ []

  -- a task has its own name there, with the entries of its unit
  abbrev pub IsTaskIn : Scope → (info : TaskInfo) → HasUnit info → Type 0
  IsTaskIn t info h = meaning t (task_name g info) ≡ Some (SingleTask (entries_in S h.unit))

  -- ---- variables

  pub formed-variable : ((k : ℕ) → old (variable_name g k).0 ≡ false) → (sp : Span) (x : PSubind) (k : ℕ) (t : Scope) → IsFormed t → IsFormed (after_decl t (variable_declared g sp x k))
  formed-variable new sp x k t f = record {
    same = λ s pl. names-new old (w ∷ []) s (with_types U t) (declared_object t false (OPlain x)).thing (table-right old s t U (f.same s pl) keeps) (new k, tt);
    main = f.main;
    own = f.own;
  }
    where
      w : Word
      w = word_at sp (variable_name g k)

      U : TypeTable
      U = with_constants t (w ∷ []) None (declared_object t false (OPlain x))

      keeps : Keeps old t.types U
      keeps = keeps-decl (variable_declared g sp x k) t (new k, tt)

  formed-list : (xs : List PDecl) → AllByRecursion (λ (d : PDecl). (t : Scope) → IsFormed t → IsFormed (after_decl t d)) xs → (t : Scope) → IsFormed t → IsFormed (after_decls t (decls_of xs))
  formed-list [] h t f = f
  formed-list (d ∷ xs) h t f = formed-list xs h.1 (after_decl t d) (h.0 t f)

  pub formed-variables : ((k : ℕ) → old (variable_name g k).0 ≡ false) → (u : RewrittenUnit) → u.setting ≡ g → (b : PBody) (t : Scope) → IsFormed t → IsFormed (after_decls t (decls_of (unit_variables u b)))
  formed-variables new u e b t f =
      formed-list (unit_variables u b)
      (unit-all (λ (d : PDecl). (t : Scope) → IsFormed t → IsFormed (after_decl t d)) u (λ sp x k. subst (λ q. (t : Scope) → IsFormed t → IsFormed (after_decl t (variable_declared q sp x k))) (sym e) (formed-variable new sp x k)) b) t f

  -- ---- tasks

  module _ (placed : IsPlaced S all r S) where
    -- the entries of a unit, as they are seen there
    unit-entries : (info : TaskInfo) (h : HasUnit info) (t : Scope) → IsFormed t → map (entry_part t) h.unit.entries ≡ entries_in S h.unit
    unit-entries info h t f = sym (entries-same (old_names old) old (λ id o. o) S t (f.same S placed) h.unit.entries h.entries)

    pub task-formed : (info : TaskInfo) (h : HasUnit info) (sp : Span) (t : Scope) → IsFormed t → IsFormed (after_decl t (DTask (task_under (task_name g info) h.unit) sp))
    task-formed info h sp t f = record {
      same = λ s pl. name-right old s t (SingleTask es) w (f.same s pl) (λ o. no_values (hidden s pl o) (a_task es refl));
      main = f.main;
      own = f.own;
    }
      where
        w : Word
        w = word_at h.unit.name.span (task_name g info)

        es : List EntryPart
        es = map (entry_part t) h.unit.entries

        hidden : (s : Scope) → IsPlaced S all r s → old (task_name g info).0 ≡ true → IsNoValue (meaning s (task_name g info))
        hidden s pl o = subst (λ n. IsNoValue (meaning s record { 0 = n })) (sym (h.name o)) (seen-no-value S s info.name h.unit (h.seen s pl))

    -- the declarations of one task
    task-behind : (info : TaskInfo) (h : HasUnit info) (rest : List PDecl) (P : Scope → Type 0) (t : Scope) → ((sp : Span) → P (after_decls (after_decl t (DTask (task_under (task_name g info) h.unit) sp)) (decls_of rest))) →
        P (after_decls t (decls_of (task_declared g info ++ rest)))
    task-behind info h rest P t k =
        let d = one-under info.unit (task_name g info) (decl_list g.program.decls) h.unit h.declared in
        subst (λ (xs : List PDecl). P (after_decls t (decls_of (xs ++ rest)))) (sym d.is) (k d.place)

    pub formed-tasks : (infos : List TaskInfo) → AllByRecursion HasUnit infos → (t : Scope) → IsFormed t → IsFormed (after_decls t (decls_of (flat_map (task_declared g) infos)))
    formed-tasks [] h t f = f
    formed-tasks (info ∷ infos) h t f =
        task-behind info h.0 (flat_map (task_declared g) infos) IsFormed t (λ sp. formed-tasks infos h.1 (after_decl t (DTask (task_under (task_name g info) h.0.unit) sp)) (task-formed info h.0 sp t f))

    name-meant : (th : Thing) (w : Word) (t : Scope) (id : NameId) (b : Bool) → (w.name.0 == id.0) ≡ b → meaning (with_name th t w) id ≡ (if b then Some th else meaning t id)
    name-meant th w t id true e = ap (λ c. option_map (λ (x : NameMeaning). x.thing) (if c then Some (seen_as th w.name.0) else find (λ (x : NameMeaning). x.name == id.0) t.names)) e
    name-meant th w t id false e = ap (λ c. option_map (λ (x : NameMeaning). x.thing) (if c then Some (seen_as th w.name.0) else find (λ (x : NameMeaning). x.name == id.0) t.names)) e

    -- a name that is no task's means what it did
    pub tasks-other : (infos : List TaskInfo) → AllByRecursion HasUnit infos → (t : Scope) (id : NameId) → AllByRecursion (λ (info : TaskInfo). ((task_name g info).0 == id.0) ≡ false) infos →
        meaning (after_decls t (decls_of (flat_map (task_declared g) infos))) id ≡ meaning t id
    tasks-other [] h t id apart = refl
    tasks-other (info ∷ infos) h t id apart =
        task-behind info h.0 (flat_map (task_declared g) infos) (λ q. meaning q id ≡ meaning t id) t
        (λ sp. tasks-other infos h.1 (after_decl t (DTask (task_under (task_name g info) h.0.unit) sp)) id apart.1 ∙ name-meant _ (word_at h.0.unit.name.span (task_name g info)) t id false apart.0)

    -- tasks add no types
    pub tasks-types : (infos : List TaskInfo) → AllByRecursion HasUnit infos → (t : Scope) → (after_decls t (decls_of (flat_map (task_declared g) infos))).types ≡ t.types
    tasks-types [] h t = refl
    tasks-types (info ∷ infos) h t =
        task-behind info h.0 (flat_map (task_declared g) infos) (λ q. q.types ≡ t.types) t (λ sp. tasks-types infos h.1 (after_decl t (DTask (task_under (task_name g info) h.0.unit) sp)))

    -- tasks of one name are of one unit
    units-same : (a b : TaskInfo) (h : HasUnit a) (k : HasUnit b) → a.unit.0 ≡ b.unit.0 → h.unit ≡ k.unit
    units-same a b h k e = first-one (sym h.declared ∙ ap (λ n. filter (λ (u : PTask). u.name.name.0 == n) (tasks_of g.program)) e ∙ k.declared)
      where
        first-one : {x y : PTask} {xs ys : List PTask} → x ∷ xs ≡ y ∷ ys → x ≡ y
        first-one q = cc

    -- the task is among them, or is seen already
    pub task-there : (a : TaskInfo) (h : HasUnit a) (infos : List TaskInfo) → AllByRecursion HasUnit infos → AllByRecursion (λ (b : TaskInfo). (task_name g a).0 ≡ (task_name g b).0 → a.unit.0 ≡ b.unit.0) infos →
        (t : Scope) → IsFormed t → IsTaskIn t a h ⊎ IsAmongNames g a infos → IsTaskIn (after_decls t (decls_of (flat_map (task_declared g) infos))) a h
    task-there a h [] hs tell t f u = ⊎_elim (λ e. e) (λ no. absurd no) u
    task-there a h (b ∷ infos) hs tell t f u =
        task-behind b hs.0 (flat_map (task_declared g) infos) (λ q. IsTaskIn q a h) t
        (λ sp. task-there a h infos hs.1 tell.1 (after_decl t (DTask (task_under (task_name g b) hs.0.unit) sp)) (task-formed b hs.0 sp t f) (by_test sp ((task_name g b).0 == (task_name g a).0) refl u))
      where
        es : List EntryPart
        es = map (entry_part t) hs.0.unit.entries

        by_test : (sp : Span) (c : Bool) → ((task_name g b).0 == (task_name g a).0) ≡ c → IsTaskIn t a h ⊎ IsAmongNames g a (b ∷ infos) →
            IsTaskIn (after_decl t (DTask (task_under (task_name g b) hs.0.unit) sp)) a h ⊎ IsAmongNames g a infos
        by_test sp true e v =
            inl (name-meant (SingleTask es) (word_at hs.0.unit.name.span (task_name g b)) t (task_name g a) true e
            ∙ ap (λ l. Some (SingleTask l)) (unit-entries b hs.0 t f ∙ ap (entries_in S) (sym (units-same a b h hs.0 (tell.0 (sym (equal_is _ _ e)))))))
        by_test sp false e (inl k) = inl (name-meant (SingleTask es) (word_at hs.0.unit.name.span (task_name g b)) t (task_name g a) false e ∙ k)
        by_test sp false e (inr (inl q)) = absurd (true≢false (sym (ap (λ n. n == (task_name g a).0) q ∙ equal_self (task_name g a).0) ∙ e))
        by_test sp false e (inr (inr later)) = inr later

  -- ---- bodies

  -- a body
  abbrev pub IsBody : PDecl → Type 0
  IsBody (DTaskBody w objects its sp) = Prim.Unit {0}
  IsBody _ = ⊥

  pub formed-body : (w : Word) (objects : PDecls) (its : PBody) (sp : Span) (t : Scope) → IsFormed t → IsFormed (after_decl t (DTaskBody w objects its sp))
  formed-body w objects its sp t f = record { same = λ s pl. behind s (table-right old s t U (f.same s pl) (keeps-objects objects (in_body t w) refl)); main = f.main; own = f.own }
    where
      U : TypeTable
      U = (after_objects (in_body t w) objects).types

      behind : (s : Scope) → SameNames old s (with_types U t) → SameNames old s (after_decl t (DTaskBody w objects its sp))
      behind s n = record { types = n.types; things = n.things }

  pub formed-bodies : (xs : List PDecl) → AllByRecursion IsBody xs → (t : Scope) → IsFormed t → IsFormed (after_decls t (decls_of xs))
  formed-bodies [] h t f = f
  formed-bodies (DTaskBody w objects its sp ∷ xs) h t f = formed-bodies xs h.1 (after_decl t (DTaskBody w objects its sp)) (formed-body w objects its sp t f)
  formed-bodies (DNumber w e sp ∷ xs) h t f = absurd h.0
  formed-bodies (DObject ws c x i sp ∷ xs) h t f = absurd h.0
  formed-bodies (DEnumeration w ws sp ∷ xs) h t f = absurd h.0
  formed-bodies (DArray w q x sp ∷ xs) h t f = absurd h.0
  formed-bodies (DSubtype w x sp ∷ xs) h t f = absurd h.0
  formed-bodies (DException ws sp ∷ xs) h t f = absurd h.0
  formed-bodies (DIntIo w sp ∷ xs) h t f = absurd h.0
  formed-bodies (DPragma e sp ∷ xs) h t f = absurd h.0
  formed-bodies (DTask u sp ∷ xs) h t f = absurd h.0

  -- bodies leave names as they are
  pub bodies-other : (xs : List PDecl) → AllByRecursion IsBody xs → (t : Scope) (id : NameId) → meaning (after_decls t (decls_of xs)) id ≡ meaning t id
  bodies-other [] h t id = refl
  bodies-other (DTaskBody w objects its sp ∷ xs) h t id = bodies-other xs h.1 (after_decl t (DTaskBody w objects its sp)) id
  bodies-other (DNumber w e sp ∷ xs) h t id = absurd h.0
  bodies-other (DObject ws c x i sp ∷ xs) h t id = absurd h.0
  bodies-other (DEnumeration w ws sp ∷ xs) h t id = absurd h.0
  bodies-other (DArray w q x sp ∷ xs) h t id = absurd h.0
  bodies-other (DSubtype w x sp ∷ xs) h t id = absurd h.0
  bodies-other (DException ws sp ∷ xs) h t id = absurd h.0
  bodies-other (DIntIo w sp ∷ xs) h t id = absurd h.0
  bodies-other (DPragma e sp ∷ xs) h t id = absurd h.0
  bodies-other (DTask u sp ∷ xs) h t id = absurd h.0

  pub copies-body : (d : PDecl) → AllByRecursion IsBody (bodies_of g d)
  copies-body (DTaskBody w objects its sp) = all-mapped IsBody _ (λ (info : TaskInfo). tt) (running g w.name)
  copies-body (DNumber w e sp) = tt
  copies-body (DObject ws c x i sp) = tt
  copies-body (DEnumeration w ws sp) = tt
  copies-body (DArray w q x sp) = tt
  copies-body (DSubtype w x sp) = tt
  copies-body (DException ws sp) = tt
  copies-body (DIntIo w sp) = tt
  copies-body (DPragma e sp) = tt
  copies-body (DTask u sp) = tt

  pub all-bodies : (ds : List PDecl) → AllByRecursion IsBody (flat_map (bodies_of g) ds)
  all-bodies ds = all-flat IsBody (bodies_of g) copies-body ds
