use Rattle.std.proofs.Common.{refl}
use Rattle.task_waits.specs.Standing.{task_here, plain_parts}
use Rattle.task_waits.proofs.Opens.{opens_all, taken_first, taken_more, taken_found, taken_none}
use Rattle.task_waits.proofs.alternatives.first_taken.Goals as goal

pub loop-alt-init : goal.loop-alt-init
loop-alt-init c = taken_first c.args.member.entry c.args.member.index _ _ c.requires (opens_all (task_here c.args.here.now) c.args.alts.now)

pub loop-alt-preserved : goal.loop-alt-preserved
loop-alt-preserved c = taken_more c.args.member.entry c.args.member.index (task_here c.args.here.now) c.args.alts.now c.loop-alt.alt-index c.alt-item.result _ _ c.loop-alt-test.true c.alt-item.is c.in-None.ensures refl c.loop-alt.invariant

pub returns-in-Some : goal.returns-in-Some
returns-in-Some c = taken_found c.args.member.entry c.args.member.index (task_here c.args.here.now) c.args.alts.now c.loop-alt.alt-index c.alt-item.result (plain_parts c.in-Some.parts) _ c.loop-alt-test.true c.alt-item.is c.in-Some.ensures c.loop-alt.invariant

pub returns : goal.returns
returns c = taken_none c.args.member.entry c.args.member.index (task_here c.args.here.now) c.args.alts.now c.loop-alt.alt-index _ _ c.loop-alt-test.false c.no_parts.ensures c.loop-alt.invariant
