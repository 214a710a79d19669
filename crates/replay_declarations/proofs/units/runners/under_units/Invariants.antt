use Rattle.std.proofs.Common.{◌≡◌, map, take}
use Rattle.replay_declarations.specs.units.inner.UnderUnits.{under_unit}
use Rattle.replay_declarations.proofs.units.runners.under_units.Given as goal

abbrev pub invariant-loop-info : goal.invariant-loop-info
invariant-loop-info l = l.made.items ≡ map under_unit (take l.info-index l.tasks)
