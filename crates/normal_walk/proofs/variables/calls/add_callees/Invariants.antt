use Rattle.std.proofs.Common.{map, take}
use Rattle.ada_tree.specs.PlainStmt.{plain_callee}
use Rattle.normal_model.specs.Aborts.{abort_subtypes}
use Rattle.normal_walk.specs.variables.Track.{IsTrack}
use Rattle.normal_walk.specs.variables.inner.Adding.{Adds}
use Rattle.normal_walk.proofs.variables.calls.add_callees.Given as goal

-- the variables of the callees so far are declared
abbrev pub invariant-loop-callee : goal.invariant-loop-callee
invariant-loop-callee l = record { adds : Adds l.lookups l.span (abort_subtypes l.lookups l.span (map plain_callee (take l.callee-index l.callees))) l.fn.track l.track; track : IsTrack l.lookups l.track }
