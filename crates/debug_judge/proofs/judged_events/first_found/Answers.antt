use Rattle.task_machine.specs.Table.{setup_in}
use Rattle.debug_judge.proofs.Giving.{found_first}
use Rattle.debug_judge.proofs.judged_events.first_found.Goals as goal

pub returns : goal.returns
returns c =
    found_first (setup_in c.args.links.now c.args.inputs.now) c.args.links.now.numbers c.args.local_bound c.in_ok-judge.judge
    c.in_ok-judge.ensures.stands c.in_ok-judge.ensures.numbers c.in_ok-judge.ensures.bound
