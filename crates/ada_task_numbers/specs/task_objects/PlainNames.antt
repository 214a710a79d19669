-- How what the checks keep of a program looks in the words of the definitions.
use Rattle.std.specs.Prelude.{◌≡◌, ℕ, List, [], map, option_map}
use Rattle.std.specs.Borrow.{Bor}
use Rattle.std.specs.List.{AllByRecursion}
use Rattle.ada_tree.specs.PlainExpr.{plain_drange}
use Rattle.ada_tree.specs.declared.declarations.TaskUnit.{TaskUnit}
use Rattle.ada_tree.specs.PlainDecl.{PTask, PDecl, DTask, DObject, plain_task}
use Rattle.ada_task_numbers.specs.declared.task_objects.extents.Extent.{Extent}
use Rattle.ada_task_numbers.specs.declared.task_objects.task_names.NamedTasks.{NamedTasks}
use Rattle.syn_event.specs.Extents as extents
use Rattle.syn_event.specs.NamedTasks as parts

abbrev pub plain_extent : Extent → extents.Extent
plain_extent x = record { first = x.first; last = x.last }

abbrev pub plain_named_tasks : NamedTasks → parts.NamedTasks
plain_named_tasks x = record { name = x.name; place = x.place; unit = plain_task x.unit.now; index_range = option_map (λ r. plain_drange r.now) x.index_range }

-- task types as they are kept, the latest first
abbrev pub plain_types : List (ℕ × Bor TaskUnit) → List PTask
plain_types names = map (λ s. plain_task s.1.now) names

-- each is kept by its name
abbrev pub AreNamed : List (ℕ × Bor TaskUnit) → Type 0
AreNamed names = AllByRecursion (λ (s : ℕ × Bor TaskUnit). s.0 ≡ s.1.now.name.name.0) names

-- ---- one declaration

-- the names of tasks that a declaration declares behind some task types
abbrev pub decl_task_names : List PTask → PDecl → List parts.NamedTasks
decl_task_names kinds (DTask t s) = parts.single_task_name t.of_kind t s
decl_task_names kinds (DObject names constant shape init s) = parts.object_task_names kinds names shape
decl_task_names kinds _ = []

-- the task types behind it
abbrev pub decl_types : List PTask → PDecl → List PTask
decl_types kinds (DTask t s) = parts.with_type kinds t.of_kind t
decl_types kinds _ = kinds
