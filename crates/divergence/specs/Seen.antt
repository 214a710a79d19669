-- What is asked of a judge whose verdict is reported: the tasks of which the report tells are at rest (this project's rule).
use Rattle.std.specs.Prelude.{Option, Some, None, All, ⊤}
use Rattle.event_machine.specs.declared.Event.{Event}
use Rattle.syn_event.specs.Numbering.{Numbering}
use Rattle.task_model.specs.Machine.{Tasks}
use Rattle.task_machine.specs.declared.verdict.Verdict.{Verdict}
use Rattle.task_machine.specs.declared.verdict.Verdict.TheVariants.{Feasible, Infeasible, Unsettled}
use Rattle.task_machine.specs.Conditions.{needed_of}
use Rattle.feasible.specs.Keeping.{IsSettled}

-- Where an event is refused, each task that it needs is closed, served or settled.
abbrev pub AreSettled : Tasks → Numbering → Verdict → Option Event → Type 0
AreSettled tasks numbers Feasible e = ⊤
AreSettled tasks numbers (Infeasible at why) None = ⊤
AreSettled tasks numbers (Infeasible at why) (Some e) = All (IsSettled tasks) (needed_of numbers e)
AreSettled tasks numbers (Unsettled at t) e = ⊤
