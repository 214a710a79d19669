use Rattle.task_state.specs.Plain.{plain_task}
use Rattle.task_steps.proofs.ArmLemmas.{AreChoicesBehind}
use Rattle.task_steps.proofs.choosing.choices_fit.Given as goal

-- none of the choices gone by fits the value
abbrev pub invariant-loop-choice : goal.invariant-loop-choice
invariant-loop-choice l = AreChoicesBehind (plain_task l.task) l.value l.choices l.choice-index
