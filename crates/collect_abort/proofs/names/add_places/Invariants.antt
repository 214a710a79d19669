use Rattle.std.proofs.Common.{◌≡◌}
use Rattle.collect_model.specs.aborts.Names.{with_places}
use Rattle.collect_abort.proofs.names.add_places.Given as goal

abbrev pub invariant-loop-before : goal.invariant-loop-before
invariant-loop-before l = l.names ≡ with_places l.initial.names l.before
