use Rattle.std.proofs.Common.{◌+◌, ◌-◌, ◌≤◌, length, max}
use Rattle.task_model.specs.Setting.{Setting}
use Rattle.normal_lookups.specs.names.SoFar.{AreNamesOf}
use Rattle.normal_lookups.proofs.names.names.NormalNames.declare.Given as goal

-- the names stay those of the same normal form, and none gets one that comes behind this variable
abbrev pub invariant-loop-alloc : goal.invariant-loop-alloc
invariant-loop-alloc l = record {
  names : (g : Setting) → AreNamesOf g l.initial.self → AreNamesOf g l.self;
  longer : length l.initial.self.variables.items ≤ length l.self.variables.items;
  within : length l.self.variables.items ≤ max (length l.initial.self.variables.items) (l.number + 1);
}

-- each turn gives one
abbrev pub decreases-loop-alloc : goal.decreases-loop-alloc
decreases-loop-alloc l = l.number + 1 - length l.self.variables.items
