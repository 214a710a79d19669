-- Which tasks run which bodies, as it is kept by the names of the bodies.
use Rattle.std.specs.Prelude.{◌≡◌, ◌==◌, nat_eq, map, position}
use Rattle.std.specs.HashMap.{get}
use Rattle.ada_tree.specs.declared.naming.NameId.{NameId}
use Rattle.task_model.specs.Setting.{Setting}
use Rattle.normal_model.specs.Names.{task_name}
use Rattle.normal_model.specs.NormalTree.{running}
use Rattle.normal_form.specs.declared.unit_declarations.running.Running.{Running}
use Rattle.normal_form.specs.unit_declarations.Groups.{group_at}

-- These are the tasks of a program that run the bodies of all names, under the names of its normal form, and the numbers of the first ones.
pub record AreRunning (g : Setting) (r : Running) : Type 0 where
  pub names : (q : NameId) → group_at r.names q.0 ≡ map (task_name g) (running g q)
  pub firsts : (q : NameId) → get nat_eq r.firsts q.0 ≡ position (λ info. info.unit.0 == q.0) g.numbers.tasks
