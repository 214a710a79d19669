use Rattle.normal_walk.proofs.variables.Behind.{adds_none, adds_track, marks_more}
use Rattle.normal_walk.proofs.variables.adding.add_marks.Goals as goal

pub loop-mark-init : goal.loop-mark-init
loop-mark-init c = record { adds = adds_none c.args.lookups.now c.args.span c.args.track.now c.requires; track = c.requires }

pub loop-mark-preserved : goal.loop-mark-preserved
loop-mark-preserved c = record {
  adds = marks_more c.args.lookups.now c.args.span c.args.marks.now c.loop-mark.mark-index _ c.args.track.now c.loop-mark.track c.add_marked.new.track c.loop-mark-test.true c.loop-mark.invariant.adds c.in_ok-add_marked.ensures;
  track = adds_track c.args.lookups.now c.args.span _ c.loop-mark.track c.add_marked.new.track c.in_ok-add_marked.ensures;
}
