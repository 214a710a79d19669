-- A task that stands at no end of a block, where its step is one of a statement that does not synchronize.
use Rattle.std.proofs.Common.{Bool, true, false}
use Rattle.event_machine.specs.declared.CallForm.{CallForm}
use Rattle.event_machine.specs.declared.CallForm.TheVariants as form
use Rattle.task_model.specs.Stands.{Stand, Steps, Raises, At}

-- what a task stands at there is no local step of a statement that does not synchronize
abbrev pub is_plain : Stand → Bool
is_plain Steps = true
is_plain (Raises x) = false
is_plain (At offer) = false
