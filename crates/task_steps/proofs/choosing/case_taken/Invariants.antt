use Rattle.ada_tree.specs.PlainStmt.{seen_maybe}
use Rattle.task_state.specs.Plain.{plain_task}
use Rattle.task_steps.proofs.ArmLemmas.{AreCasesBehind}
use Rattle.task_steps.proofs.choosing.case_taken.Given as goal

-- none of the arms gone by has a choice for the value
abbrev pub invariant-loop-case_arm : goal.invariant-loop-case_arm
invariant-loop-case_arm l = AreCasesBehind (plain_task l.task) l.value l.arms (seen_maybe l.others) l.case_arm-index
