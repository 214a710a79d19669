use Rattle.std.proofs.Common.{ap, None}
use Rattle.task_waits.specs.Standing.{task_here}
use Rattle.task_waits.proofs.Opens.{least_of, opens_all, least_more, least_raises, least_end}
use Rattle.task_waits.proofs.choosing.least_duration.Goals as goal

pub loop-alt-init : goal.loop-alt-init
loop-alt-init c = ap (least_of None) (opens_all (task_here c.args.here.now) c.args.alts.now)

pub loop-alt-preserved : goal.loop-alt-preserved
loop-alt-preserved c = least_more (task_here c.args.here.now) c.args.alts.now c.loop-alt.alt-index c.alt-item.result c.loop-alt.least c.in-Ok.duration c.lesser-least.result _ c.loop-alt-test.true c.alt-item.is c.in-Ok.ensures c.lesser-least.ensures c.loop-alt.invariant

pub returns-in-Err : goal.returns-in-Err
returns-in-Err c = least_raises (task_here c.args.here.now) c.args.alts.now c.loop-alt.alt-index c.alt-item.result c.loop-alt.least c.in-Err.raised _ c.loop-alt-test.true c.alt-item.is c.in-Err.ensures c.loop-alt.invariant

pub returns : goal.returns
returns c = least_end (task_here c.args.here.now) c.args.alts.now c.loop-alt.alt-index c.loop-alt.least _ c.loop-alt-test.false c.loop-alt.invariant
