use Rattle.ada_tree.specs.PlainStmt.{seen_maybe}
use Rattle.task_state.specs.Plain.{plain_task}
use Rattle.task_steps.proofs.ArmLemmas.{AreBehind}
use Rattle.task_steps.proofs.choosing.arm_taken.Given as goal

-- the conditions of the arms gone by do not hold
abbrev pub invariant-loop-arm : goal.invariant-loop-arm
invariant-loop-arm l = AreBehind (plain_task l.task) l.arms (seen_maybe l.otherwise) l.arm-index
