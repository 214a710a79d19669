use Rattle.std.proofs.Common.{map, take}
use Rattle.normal_model.specs.Ranges.{marked}
use Rattle.normal_walk.specs.variables.Track.{IsTrack}
use Rattle.normal_walk.specs.variables.inner.Adding.{Adds}
use Rattle.normal_walk.proofs.variables.adding.add_marks.Given as goal

-- variables of the marks so far are declared
abbrev pub invariant-loop-mark : goal.invariant-loop-mark
invariant-loop-mark l = record { adds : Adds l.lookups l.span (map marked (take l.mark-index l.marks)) l.fn.track l.track; track : IsTrack l.lookups l.track }
