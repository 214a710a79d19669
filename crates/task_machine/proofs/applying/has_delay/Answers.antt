use Rattle.std.proofs.Common.{ap, ◌∙◌}
use Rattle.event_machine.specs.Offers.{waits_with, is_delay}
use Rattle.task_machine.proofs.applying.has_delay.Goals as goal

pub returns-in-Wait : goal.returns-in-Wait
returns-in-Wait c = c.some_is_delay.ensures ∙ ap (waits_with (is_delay c.args.k)) c.in-Wait.ensures
