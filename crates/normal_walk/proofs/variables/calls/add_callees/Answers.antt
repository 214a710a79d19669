use Rattle.normal_walk.proofs.variables.Behind.{adds_none, adds_track, callees_more}
use Rattle.normal_walk.proofs.variables.calls.add_callees.Goals as goal

pub loop-callee-init : goal.loop-callee-init
loop-callee-init c = record { adds = adds_none c.args.lookups.now c.args.span c.args.track.now c.requires; track = c.requires }

pub loop-callee-preserved : goal.loop-callee-preserved
loop-callee-preserved c = record {
  adds = callees_more c.args.lookups.now c.args.span c.args.callees.now c.loop-callee.callee-index c.callee-item.result c.args.track.now c.loop-callee.track c.add_callee.new.track c.loop-callee-test.true c.callee-item.is c.loop-callee.invariant.adds c.in_ok-add_callee.ensures;
  track = adds_track c.args.lookups.now c.args.span _ c.loop-callee.track c.add_callee.new.track c.in_ok-add_callee.ensures;
}
