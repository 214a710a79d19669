use Rattle.std.proofs.Common.{◌≡◌, ◌++◌, ◌+◌, ◌-◌, ◌≤◌, length}
use Rattle.control_script.proofs.Writing.{closings}
use Rattle.control_script.proofs.operations.put_closing.Given as goal

-- the permits of the tasks gone by are appended, and none of another number
abbrev pub invariant-loop-t : goal.invariant-loop-t
invariant-loop-t l = record {
  written : l.ops.items ≡ l.initial.ops.items ++ closings l.progress (l.t - 1);
  below : l.t ≤ 1 + (length l.progress.parties - 1);
}
