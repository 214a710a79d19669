use Rattle.std.proofs.Common.{ap, ◌∙◌}
use Rattle.event_machine.specs.Offers.{waits_with, is_terminate}
use Rattle.task_machine.proofs.applying.has_terminate.Goals as goal

pub returns-in-Wait : goal.returns-in-Wait
returns-in-Wait c = c.some_is_terminate.ensures ∙ ap (waits_with (is_terminate)) c.in-Wait.ensures
