-- The declarations of a normal form, as a list: first ones, variables, single tasks and bodies.
use Rattle.std.proofs.Common.{◌≡◌, ◌==◌, Bool, true, false, if◌then◌else◌, List, [], ◌∷◌, ◌++◌, flat_map, is_some, refl, ap, ◌∙◌}
use Rattle.std.specs.List.{AllByRecursion}
use Rattle.ada_tree.specs.declared.naming.NameId.{NameId}
use Rattle.ada_tree.specs.TypeTable.{TypeTable}
use Rattle.ada_tree.specs.PlainDecl.{PTask, PDecl, DNumber, DObject, DEnumeration, DArray, DSubtype, DException, DIntIo, DPragma, DTask, DTaskBody, PDecls, no_decl, decl_then, decls_of}
use Rattle.ada_tree.specs.PlainProgram.{PProgram}
use Rattle.syn_event.specs.declared.numbering.TaskInfo.{TaskInfo}
use Rattle.syn_event.specs.Numbering.{Numbering}
use Rattle.syn_event.specs.NamedTasks.{type_named, with_type}
use Rattle.syn_event.specs.DeclaredTasks.{decl_list}
use Rattle.task_model.specs.Setting.{Setting}
use Rattle.normal_model.specs.Names.{task_name}
use Rattle.normal_model.specs.NormalTree.{mark_of, unless_left, first_decls, tasks_beside, task_under, declared_under, task_declared, bodies_of, main_unit, main_variables, normal_tree}
use Rattle.normal_laws.specs.structure.types.Laws.{setting_of}
use Rattle.normal_laws.proofs.structure.types.Variables.{all-flat, all-mapped, unit-all}
use Rattle.normal_laws.proofs.structure.units.Tasks.{list-front}
use Rattle.syn_event.proofs.DeclLists.{listed_back}

-- ---- what declarations are

-- neither a task nor a body
abbrev pub IsPlain : PDecl → Type 0
IsPlain (DTask t s) = ⊥
IsPlain (DTaskBody w objects its s) = ⊥
IsPlain _ = Unit {0}

-- a single task, and a body
abbrev pub IsOneTask : PDecl → Type 0
IsOneTask (DTask t s) = t.of_kind ≡ false
IsOneTask _ = ⊥

abbrev pub IsOneBody : PDecl → Type 0
IsOneBody (DTaskBody w objects its s) = Prim.Unit {0}
IsOneBody _ = ⊥

-- what a normal form declares for a task is a single task, and the copies of a body are bodies
under-one : (unit name : NameId) (d : PDecl) → AllByRecursion IsOneTask (declared_under unit name d)
under-one unit name (DTask t s) = by_test (t.name.name.0 == unit.0)
  where
    by_test : (b : Bool) → AllByRecursion IsOneTask (if b then DTask (task_under name t) s ∷ [] else [])
    by_test true = (refl, tt)
    by_test false = tt
under-one unit name (DTaskBody w objects its s) = tt
under-one unit name (DNumber w e s) = tt
under-one unit name (DObject ws c x i s) = tt
under-one unit name (DEnumeration w ws s) = tt
under-one unit name (DArray w r x s) = tt
under-one unit name (DSubtype w x s) = tt
under-one unit name (DException ws s) = tt
under-one unit name (DIntIo w s) = tt
under-one unit name (DPragma e s) = tt

pub tasks-all : (g : Setting) → AllByRecursion IsOneTask (flat_map (task_declared g) (tasks_beside g))
tasks-all g = all-flat IsOneTask (task_declared g) (λ info. all-flat IsOneTask (declared_under info.unit (task_name g info)) (under-one info.unit (task_name g info)) (decl_list g.program.decls)) (tasks_beside g)

copies-all : (g : Setting) (d : PDecl) → AllByRecursion IsOneBody (bodies_of g d)
copies-all g (DTaskBody w objects its s) = all-mapped IsOneBody _ (λ (info : TaskInfo). tt) _
copies-all g (DTask t s) = tt
copies-all g (DNumber w e s) = tt
copies-all g (DObject ws c x i s) = tt
copies-all g (DEnumeration w ws s) = tt
copies-all g (DArray w r x s) = tt
copies-all g (DSubtype w x s) = tt
copies-all g (DException ws s) = tt
copies-all g (DIntIo w s) = tt
copies-all g (DPragma e s) = tt

pub bodies-all : (g : Setting) → AllByRecursion IsOneBody (flat_map (bodies_of g) (decl_list g.program.decls))
bodies-all g = all-flat IsOneBody (bodies_of g) (copies-all g) (decl_list g.program.decls)

-- the first declarations of a normal form are plain
pub first-plain : (ds : PDecls) (kinds : List PTask) → AllByRecursion IsPlain (decl_list (first_decls kinds ds))
first-plain no_decl kinds = tt
first-plain (decl_then (DTask t s) rest) kinds = first-plain rest (with_type kinds t.of_kind t)
first-plain (decl_then (DTaskBody w ds b s) rest) kinds = first-plain rest kinds
first-plain (decl_then (DObject ws c x i s) rest) kinds = by_test (is_some (type_named kinds (mark_of x))) (first-plain rest kinds)
  where
    by_test : (b : Bool) → AllByRecursion IsPlain (decl_list (first_decls kinds rest)) → AllByRecursion IsPlain (decl_list (unless_left b (DObject ws c x i s) (first_decls kinds rest)))
    by_test true h = h
    by_test false h = (tt, h)
first-plain (decl_then (DNumber w e s) rest) kinds = (tt, first-plain rest kinds)
first-plain (decl_then (DEnumeration w ws s) rest) kinds = (tt, first-plain rest kinds)
first-plain (decl_then (DArray w r x s) rest) kinds = (tt, first-plain rest kinds)
first-plain (decl_then (DSubtype w x s) rest) kinds = (tt, first-plain rest kinds)
first-plain (decl_then (DException ws s) rest) kinds = (tt, first-plain rest kinds)
first-plain (decl_then (DIntIo w s) rest) kinds = (tt, first-plain rest kinds)
first-plain (decl_then (DPragma e s) rest) kinds = (tt, first-plain rest kinds)

-- ---- the declarations of a normal form

module _ (p : PProgram) (types : TypeTable) (numbers : Numbering) where
  abbrev pub firsts : List PDecl
  firsts = decl_list (first_decls [] p.decls)

  abbrev pub vars : List PDecl
  vars = main_variables (setting_of p types numbers)

  abbrev pub tasks : List PDecl
  tasks = flat_map (task_declared (setting_of p types numbers)) (tasks_beside (setting_of p types numbers))

  abbrev pub bodies : List PDecl
  bodies = flat_map (bodies_of (setting_of p types numbers)) (decl_list p.decls)

  pub vars-plain : AllByRecursion IsPlain vars
  vars-plain = unit-all IsPlain (main_unit (setting_of p types numbers)) (λ s x k. tt) p.body

  pub normal-list : decl_list (normal_tree p types numbers).decls ≡ firsts ++ (vars ++ tasks ++ bodies)
  normal-list = list-front (first_decls [] p.decls) (decls_of (vars ++ tasks ++ bodies)) ∙ ap (λ l. firsts ++ l) (listed_back (vars ++ tasks ++ bodies))
