use Rattle.std.proofs.Common.{ap, map}
use Rattle.ada_tree.specs.PlainProgram.{plain_program}
use Rattle.debug_collect.proofs.loads.Ran.{opening_is, ran}
use Rattle.debug_collect.specs.loads.inner.Gathered.{Gathered}
use Rattle.debug_collect.proofs.loads.replaying.run_checked.Goals as goal

pub returns-in-Ok : goal.returns-in-Ok
returns-in-Ok c =
    ran (plain_program c.args.text.now) c.in_ok-machine.machine
    (opening_is (plain_program c.args.text.now) c.args.checked.now.types c.args.checked.now.numbers c.requires c.in_ok-links.links c.in_ok-links.ensures
    _ (ap (map (λ v. v.items)) c.new-2.ensures.items) c.in_ok-machine.machine c.in_ok-machine.ensures)
    c.new-choices.result c.args.seed c.new-choices.ensures c.most_turns.result c.most_turns.ensures record { end = c.in-Ok.report.end; events = c.count.result } c.args.checked.now.numbers c.new-lines.result.bytes c.run.new.out.bytes
    c.in-Ok.ensures.end c.count.ensures (ap (λ (g : Gathered). g.bytes) c.new-lines.ensures) c.in-Ok.ensures.lines
