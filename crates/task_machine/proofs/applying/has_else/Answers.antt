use Rattle.std.proofs.Common.{ap, ◌∙◌}
use Rattle.event_machine.specs.Offers.{waits_with, is_else}
use Rattle.task_machine.proofs.applying.has_else.Goals as goal

pub returns-in-Wait : goal.returns-in-Wait
returns-in-Wait c = c.some_is_else.ensures ∙ ap (waits_with (is_else)) c.in-Wait.ensures
