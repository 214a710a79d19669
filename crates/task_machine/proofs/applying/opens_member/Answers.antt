use Rattle.std.proofs.Common.{ap, ◌∙◌, ◌≡◌, rules}
use Rattle.std.specs.List.{list_any}
use Rattle.event_machine.specs.Offers.{waits_with, opens}
use Rattle.task_machine.proofs.applying.opens_member.Goals as goal

pub returns-in-Wait : goal.returns-in-Wait
returns-in-Wait c =
    let h : c.some_opens.result ≡ list_any (opens c.args.e c.args.i) c.in-Wait.choices.now = search rules in
    h ∙ ap (waits_with (opens c.args.e c.args.i)) c.in-Wait.ensures
