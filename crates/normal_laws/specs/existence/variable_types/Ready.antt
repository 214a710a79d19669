-- What the subtypes of the variables hang on that the normal form adds (this project's rule).
use Rattle.ada_tree.specs.NameList.{AreNames}
use Rattle.ada_tree.specs.PlainProgram.{PProgram}
use Rattle.ada_tree.specs.Every.{EveryProgram}
use Rattle.task_laws.specs.legal.rewritten_values.Values.{old_names}
use Rattle.normal_laws.specs.structure.types.Own.{own_name}
use Rattle.normal_laws.specs.structure.types.Laws.{IsOrdered}
use Rattle.task_laws.specs.legal.types.Typed.{HasTypedTasks}

-- What the subtypes of added variables hang on: the rules on types with bodies last, names, and the types of tasks.
pub record IsReady (p : PProgram) : Type 0 where
  pub names : AreNames p.names
  pub ordered : IsOrdered p
  pub own : EveryProgram (old_names (own_name p)) p
  pub tasks : HasTypedTasks p
