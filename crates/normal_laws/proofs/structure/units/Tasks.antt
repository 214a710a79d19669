-- The tasks that a normal form declares.
use Rattle.std.proofs.Common.{◌≡◌, ℕ, zero, suc, ◌==◌, Bool, true, false, cond, if◌then◌else◌, List, [], ◌∷◌, ◌++◌, length, map, find, flat_map, slice_get, option_map, is_some, Option, Some, None, refl, sym, ap, ap₂, ◌∙◌, append-nil, true≢false, arith}
use Rattle.std.specs.List.{AllByRecursion, filter}
use Rattle.std.proofs.lemmas.Bool.{eqb-true, eq-eqb}
use Rattle.std.proofs.lemmas.Option.{none-some}
use Rattle.ada_tree.specs.declared.naming.NameId.{NameId}
use Rattle.ada_tree.specs.TypeTable.{TypeTable}
use Rattle.ada_tree.specs.PlainDecl.{PEntry, PTask, PDecl, DNumber, DObject, DEnumeration, DArray, DSubtype, DException, DIntIo, DPragma, DTask, DTaskBody, PDecls, no_decl, decl_then, decls_of}
use Rattle.ada_tree.specs.PlainProgram.{PProgram}
use Rattle.syn_event.specs.declared.numbering.TaskInfo.{TaskInfo}
use Rattle.syn_event.specs.Numbering.{Numbering}
use Rattle.syn_event.specs.AddedNames.{task_info}
use Rattle.syn_event.specs.NamedTasks.{type_named, with_type}
use Rattle.syn_event.specs.DeclaredTasks.{decl_list, tasks_in, tasks_of}
use Rattle.task_model.specs.Setting.{Setting, unit_named, formals_in, formals_of_unit}
use Rattle.normal_model.specs.Names.{task_name}
use Rattle.normal_model.specs.NormalTree.{mark_of, unless_left, decls_front, first_decls, tasks_beside, task_under, declared_under, task_declared, bodies_of, main_unit, main_variables, normal_tree}
use Rattle.normal_laws.specs.structure.types.Laws.{setting_of}
use Rattle.task_laws.proofs.legal.rewritten_types.Lookups.{place-all}
use Rattle.normal_laws.proofs.structure.types.Variables.{all-flat, all-mapped, unit-all}
use Rattle.normal_laws.specs.structure.units.Laws.{count_named, TasksKeepNumbers, EntriesKeepFormals}
use Rattle.common_lemmas.proofs.Options.{some_same}
use Rattle.syn_event.proofs.DeclLists.{listed_back, tasks_joined}

-- ---- lists of declarations

-- no task
abbrev pub IsNoTask : PDecl → Type 0
IsNoTask (DTask t s) = ⊥
IsNoTask _ = Unit {0}

pub no-tasks : (xs : List PDecl) → AllByRecursion IsNoTask xs → tasks_in xs ≡ []
no-tasks [] h = refl
no-tasks (DTask t s ∷ xs) h = absurd h.0
no-tasks (DTaskBody w ds b s ∷ xs) h = no-tasks xs h.1
no-tasks (DNumber w e s ∷ xs) h = no-tasks xs h.1
no-tasks (DObject ws c x i s ∷ xs) h = no-tasks xs h.1
no-tasks (DEnumeration w ws s ∷ xs) h = no-tasks xs h.1
no-tasks (DArray w r x s ∷ xs) h = no-tasks xs h.1
no-tasks (DSubtype w x s ∷ xs) h = no-tasks xs h.1
no-tasks (DException ws s ∷ xs) h = no-tasks xs h.1
no-tasks (DIntIo w s ∷ xs) h = no-tasks xs h.1
no-tasks (DPragma e s ∷ xs) h = no-tasks xs h.1

pub list-front : (ds rest : PDecls) → decl_list (decls_front ds rest) ≡ decl_list ds ++ decl_list rest
list-front no_decl rest = refl
list-front (decl_then d ds) rest = ap (λ l. d ∷ l) (list-front ds rest)

-- the first declarations are no tasks
pub first-no-task : (ds : PDecls) (kinds : List PTask) → AllByRecursion IsNoTask (decl_list (first_decls kinds ds))
first-no-task no_decl kinds = tt
first-no-task (decl_then (DTask t s) rest) kinds = first-no-task rest (with_type kinds t.of_kind t)
first-no-task (decl_then (DTaskBody w ds b s) rest) kinds = first-no-task rest kinds
first-no-task (decl_then (DObject ws c x i s) rest) kinds = by_test (is_some (type_named kinds (mark_of x))) (first-no-task rest kinds)
  where
    by_test : (b : Bool) → AllByRecursion IsNoTask (decl_list (first_decls kinds rest)) → AllByRecursion IsNoTask (decl_list (unless_left b (DObject ws c x i s) (first_decls kinds rest)))
    by_test true h = h
    by_test false h = (tt, h)
first-no-task (decl_then (DNumber w e s) rest) kinds = (tt, first-no-task rest kinds)
first-no-task (decl_then (DEnumeration w ws s) rest) kinds = (tt, first-no-task rest kinds)
first-no-task (decl_then (DArray w r x s) rest) kinds = (tt, first-no-task rest kinds)
first-no-task (decl_then (DSubtype w x s) rest) kinds = (tt, first-no-task rest kinds)
first-no-task (decl_then (DException ws s) rest) kinds = (tt, first-no-task rest kinds)
first-no-task (decl_then (DIntIo w s) rest) kinds = (tt, first-no-task rest kinds)
first-no-task (decl_then (DPragma e s) rest) kinds = (tt, first-no-task rest kinds)

copies-no-task : (g : Setting) (d : PDecl) → AllByRecursion IsNoTask (bodies_of g d)
copies-no-task g (DTaskBody w objects its s) = all-mapped IsNoTask _ (λ (info : TaskInfo). tt) _
copies-no-task g (DTask t s) = tt
copies-no-task g (DNumber w e s) = tt
copies-no-task g (DObject ws c x i s) = tt
copies-no-task g (DEnumeration w ws s) = tt
copies-no-task g (DArray w r x s) = tt
copies-no-task g (DSubtype w x s) = tt
copies-no-task g (DException ws s) = tt
copies-no-task g (DIntIo w s) = tt
copies-no-task g (DPragma e s) = tt

-- ---- the tasks

-- the test of a name
abbrev pub has_name : NameId → PTask → Bool
has_name id t = t.name.name.0 == id.0

-- the tasks that are declared for one task: one for each of its unit's name
abbrev pub tasks_made : Setting → TaskInfo → List PTask
tasks_made g info = map (task_under (task_name g info)) (filter (has_name info.unit) (tasks_of g.program))

under-tasks : (unit name : NameId) (ds : List PDecl) → tasks_in (flat_map (declared_under unit name) ds) ≡ map (task_under name) (filter (has_name unit) (tasks_in ds))
under-tasks unit name [] = refl
under-tasks unit name (DTask t s ∷ ds) = by_test (t.name.name.0 == unit.0) (under-tasks unit name ds)
  where
    by_test : (b : Bool) → tasks_in (flat_map (declared_under unit name) ds) ≡ map (task_under name) (filter (has_name unit) (tasks_in ds)) →
        tasks_in ((if b then DTask (task_under name t) s ∷ [] else []) ++ flat_map (declared_under unit name) ds) ≡ map (task_under name) (cond b (t ∷ filter (has_name unit) (tasks_in ds)) (filter (has_name unit) (tasks_in ds)))
    by_test true e = ap (λ l. task_under name t ∷ l) e
    by_test false e = e
under-tasks unit name (DTaskBody w objects its s ∷ ds) = under-tasks unit name ds
under-tasks unit name (DNumber w e s ∷ ds) = under-tasks unit name ds
under-tasks unit name (DObject ws c x i s ∷ ds) = under-tasks unit name ds
under-tasks unit name (DEnumeration w ws s ∷ ds) = under-tasks unit name ds
under-tasks unit name (DArray w r x s ∷ ds) = under-tasks unit name ds
under-tasks unit name (DSubtype w x s ∷ ds) = under-tasks unit name ds
under-tasks unit name (DException ws s ∷ ds) = under-tasks unit name ds
under-tasks unit name (DIntIo w s ∷ ds) = under-tasks unit name ds
under-tasks unit name (DPragma e s ∷ ds) = under-tasks unit name ds

pub made-tasks : (g : Setting) (infos : List TaskInfo) → tasks_in (flat_map (task_declared g) infos) ≡ flat_map (tasks_made g) infos
made-tasks g [] = refl
made-tasks g (info ∷ infos) =
    tasks_joined (task_declared g info) (flat_map (task_declared g) infos)
    ∙ ap₂ (λ (a b : List PTask). a ++ b) (under-tasks info.unit (task_name g info) (decl_list g.program.decls)) (made-tasks g infos)

module _ (p : PProgram) (types : TypeTable) (numbers : Numbering) where
  -- the tasks of the normal form
  pub tasks-of : tasks_of (normal_tree p types numbers) ≡ flat_map (tasks_made (setting_of p types numbers)) (tasks_beside (setting_of p types numbers))
  tasks-of =
      let s = setting_of p types numbers in
      let vars = main_variables s in
      let tasks = flat_map (task_declared s) (tasks_beside s) in
      let bodies = flat_map (bodies_of s) (decl_list p.decls) in
      ap tasks_in (list-front (first_decls [] p.decls) (decls_of (vars ++ tasks ++ bodies)))
      ∙ ap (λ l. tasks_in (decl_list (first_decls [] p.decls) ++ l)) (listed_back (vars ++ tasks ++ bodies))
      ∙ tasks_joined (decl_list (first_decls [] p.decls)) (vars ++ tasks ++ bodies)
      ∙ ap (λ l. l ++ tasks_in (vars ++ tasks ++ bodies)) (no-tasks (decl_list (first_decls [] p.decls)) (first-no-task p.decls []))
      ∙ tasks_joined (vars ++ tasks) bodies
      ∙ ap (λ l. tasks_in (vars ++ tasks) ++ l) (no-tasks bodies (all-flat IsNoTask (bodies_of s) (copies-no-task s) (decl_list p.decls)))
      ∙ append-nil (tasks_in (vars ++ tasks))
      ∙ tasks_joined vars tasks
      ∙ ap (λ l. l ++ tasks_in tasks) (no-tasks vars (unit-all IsNoTask (main_unit s) (λ sp x k. tt) p.body))
      ∙ made-tasks s (tasks_beside s)

-- ---- numbers

-- the name of a task
abbrev name_of : PTask → NameId
name_of t = t.name.name

one-made : (n : NameId) (xs rest : List PTask) → length xs ≡ 1 → map name_of (map (task_under n) xs ++ rest) ≡ n ∷ map name_of rest
one-made n [] rest e = let y : ⊥ = omega arith in absurd y
one-made n (x ∷ []) rest e = refl
one-made n (x ∷ y ∷ xs) rest e = let z : ⊥ = omega arith in absurd z

names-made : (g : Setting) (infos : List TaskInfo) → AllByRecursion (λ (info : TaskInfo). count_named g.program info.unit ≡ 1) infos → map name_of (flat_map (tasks_made g) infos) ≡ map (task_name g) infos
names-made g [] h = refl
names-made g (info ∷ infos) h =
    one-made (task_name g info) (filter (has_name info.unit) (tasks_of g.program)) (flat_map (tasks_made g) infos) h.0 ∙ ap (λ l. task_name g info ∷ l) (names-made g infos h.1)

mapped-twice : {A B C : Type 0} (f : B → C) (h : A → B) (xs : List A) → map (λ x. f (h x)) xs ≡ map f (map h xs)
mapped-twice f h [] = refl
mapped-twice f h (x ∷ xs) = ap (λ l. f (h x) ∷ l) (mapped-twice f h xs)

mapped-place : {A B : Type 0} (f : A → B) (xs : List A) (k : ℕ) → slice_get (map f xs) k ≡ option_map f (slice_get xs k)
mapped-place f [] k = refl
mapped-place f (x ∷ xs) zero = refl
mapped-place f (x ∷ xs) (suc k) = mapped-place f xs k

-- the task of a number beside main, for any list of names
task-place : (names : List (List ℕ)) (g : Setting) (tasks : List PTask) (infos : List TaskInfo) (t : ℕ) → map name_of tasks ≡ map (task_name g) infos →
    slice_get (map (λ (x : PTask). task_info names (name_of x)) tasks) t ≡ option_map (λ info. task_info names (task_name g info)) (slice_get infos t)
task-place names g tasks infos t e =
    ap (λ l. slice_get l t) (mapped-twice (task_info names) name_of tasks ∙ ap (map (task_info names)) e ∙ sym (mapped-twice (task_info names) (task_name g) infos))
    ∙ mapped-place (λ info. task_info names (task_name g info)) infos t

pub tasks_keep_numbers : TasksKeepNumbers
tasks_keep_numbers p types numbers tell t =
    let s = setting_of p types numbers in
    task-place (normal_tree p types numbers).names s (tasks_of (normal_tree p types numbers)) (tasks_beside s) t
    (ap (map name_of) (tasks-of p types numbers) ∙ names-made s (tasks_beside s) tell.declared)

-- ---- formals

-- the first of a list
abbrev pub first_one : {A : Type 0} → List A → Option A
first_one [] = None
first_one (x ∷ xs) = Some x

pub find-first : {A : Type 0} (test : A → Bool) (xs : List A) → find test xs ≡ first_one (filter test xs)
find-first test [] = refl
find-first test (x ∷ xs) = by_test (test x) (find-first test xs)
  where
    by_test : (b : Bool) → find test xs ≡ first_one (filter test xs) → (if b then Some x else find test xs) ≡ first_one (cond b (x ∷ filter test xs) (filter test xs))
    by_test true e = refl
    by_test false e = e

-- tasks of another name are passed over
pub skip-made : (n m : NameId) (xs ys : List PTask) → (m.0 == n.0) ≡ false → find (has_name n) (map (task_under m) xs ++ ys) ≡ find (has_name n) ys
skip-made n m [] ys e = refl
skip-made n m (x ∷ xs) ys e = ap (λ b. if b then Some (task_under m x) else find (has_name n) (map (task_under m) xs ++ ys)) e ∙ skip-made n m xs ys e

abbrev pub entries_in : Option PTask → Option (List PEntry)
entries_in o = option_map (λ (t : PTask). t.entries) o

pub first-made : (n m : NameId) (xs ys : List PTask) → length xs ≡ 1 → (m.0 == n.0) ≡ true → entries_in (find (has_name n) (map (task_under m) xs ++ ys)) ≡ entries_in (first_one xs)
first-made n m [] ys l e = let y : ⊥ = omega arith in absurd y
first-made n m (x ∷ xs) ys l e = ap (λ b. entries_in (if b then Some (task_under m x) else find (has_name n) (map (task_under m) xs ++ ys))) e

module _ (g : Setting) (info : TaskInfo) where
  -- tasks of one name have one unit
  abbrev pub Tell : List TaskInfo → Type 0
  Tell infos = AllByRecursion (λ (b : TaskInfo). (task_name g info).0 ≡ (task_name g b).0 → info.unit.0 ≡ b.unit.0) infos

  pub unit-found : (infos : List TaskInfo) (t : ℕ) → slice_get infos t ≡ Some info → AllByRecursion (λ (b : TaskInfo). count_named g.program b.unit ≡ 1) infos → Tell infos →
      entries_in (find (has_name (task_name g info)) (flat_map (tasks_made g) infos)) ≡ entries_in (first_one (filter (has_name info.unit) (tasks_of g.program)))
  unit-found [] t at one tell = absurd (none-some info at)
  unit-found (b ∷ infos) t at one tell = by_test ((task_name g b).0 == (task_name g info).0) refl t at (λ k e. unit-found infos k e one.1 tell.1)
    where
      by_test : (test : Bool) → ((task_name g b).0 == (task_name g info).0) ≡ test → (t : ℕ) → slice_get (b ∷ infos) t ≡ Some info →
          ((k : ℕ) → slice_get infos k ≡ Some info → entries_in (find (has_name (task_name g info)) (flat_map (tasks_made g) infos)) ≡ entries_in (first_one (filter (has_name info.unit) (tasks_of g.program)))) →
          entries_in (find (has_name (task_name g info)) (tasks_made g b ++ flat_map (tasks_made g) infos)) ≡ entries_in (first_one (filter (has_name info.unit) (tasks_of g.program)))
      by_test true e t at rest =
          first-made (task_name g info) (task_name g b) (filter (has_name b.unit) (tasks_of g.program)) (flat_map (tasks_made g) infos) one.0 e
          ∙ ap (λ n. entries_in (first_one (filter (λ (x : PTask). x.name.name.0 == n) (tasks_of g.program)))) (sym (tell.0 (sym (eqb-true _ _ e))))
      by_test false e zero at rest = absurd (true≢false (sym (eq-eqb _ _ refl) ∙ ap (λ (i : TaskInfo). (task_name g b).0 == (task_name g i).0) (some_same at) ∙ e))
      by_test false e (suc k) at rest =
          ap entries_in (skip-made (task_name g info) (task_name g b) (filter (has_name b.unit) (tasks_of g.program)) (flat_map (tasks_made g) infos) e) ∙ rest k at

-- a task of which nothing is known but its entries
abbrev pub with_entries : List PEntry → PTask
with_entries es = record { name = record { name = record { 0 = 0 }; span = record { start = 0; end = 0 } }; of_kind = false; entries = es; priorities = [] }

formals-by : (o : Option PTask) (name : NameId) → formals_in o name ≡ formals_in (option_map with_entries (entries_in o)) name
formals-by (Some t) name = refl
formals-by None name = refl

pub tell-at : (g : Setting) (info : TaskInfo) (all : List TaskInfo) (infos : List TaskInfo) (t : ℕ) → slice_get infos t ≡ Some info →
    AllByRecursion (λ (a : TaskInfo). AllByRecursion (λ (b : TaskInfo). (task_name g a).0 ≡ (task_name g b).0 → a.unit.0 ≡ b.unit.0) all) infos → Tell g info all
tell-at g info all infos t at h = place-all (λ (a : TaskInfo). AllByRecursion (λ (b : TaskInfo). (task_name g a).0 ≡ (task_name g b).0 → a.unit.0 ≡ b.unit.0) all) infos t info h at

pub entries_keep_formals : EntriesKeepFormals
entries_keep_formals p types numbers tell t name =
    ap (λ o. formals_of_unit (normal_tree p types numbers) o name) (tasks_keep_numbers p types numbers tell t) ∙ by_place (slice_get (tasks_beside (setting_of p types numbers)) t) refl
  where
    by_place : (o : Option TaskInfo) → slice_get (tasks_beside (setting_of p types numbers)) t ≡ o →
        formals_of_unit (normal_tree p types numbers) (option_map (λ info. task_info (normal_tree p types numbers).names (task_name (setting_of p types numbers) info)) o) name ≡ formals_of_unit p o name
    by_place None e = refl
    by_place (Some info) e =
        let s = setting_of p types numbers in
        let infos = tasks_beside s in
        formals-by (unit_named (normal_tree p types numbers) (task_name s info)) name
        ∙ ap (λ o. formals_in (option_map with_entries o) name)
        (ap (λ l. entries_in (find (has_name (task_name s info)) l)) (tasks-of p types numbers)
        ∙ unit-found s info infos t e tell.declared (tell-at s info infos infos t e tell.named)
        ∙ ap entries_in (sym (find-first (has_name info.unit) (tasks_of p))))
        ∙ sym (formals-by (unit_named p info.unit) name)
