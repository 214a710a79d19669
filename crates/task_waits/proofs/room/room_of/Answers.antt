use Rattle.std.proofs.Common.{arith}
use Rattle.task_waits.proofs.Widths.{alternatives_are}
use Rattle.task_waits.proofs.room.room_of.Goals as goal

pub returns : goal.returns
returns c = omega (arith, alternatives_are c.args.alts.now)
