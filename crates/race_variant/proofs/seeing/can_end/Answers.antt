use Rattle.race_variant.proofs.Ending.{closed_can_end}
use Rattle.race_variant.proofs.seeing.can_end.Goals as goal

pub returns-in-Closed : goal.returns-in-Closed
returns-in-Closed c = closed_can_end c.args.j.now.tasks c.args.settled.now c.args.t c.served.result c.requires.asked c.in-Closed.ensures c.served.ensures.is
