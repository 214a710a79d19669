use Rattle.std.proofs.Common.{◌≤◌, ◌-◌, length, map}
use Rattle.input_file.proofs.Tabling.{AreEmpty}
use Rattle.input_file.proofs.table.empty_lists.Given as goal

-- the lists so far are empty
abbrev pub invariant-loop-alloc : goal.invariant-loop-alloc
invariant-loop-alloc l = record {
  within : length l.lists.items ≤ l.tasks;
  empty : AreEmpty (map (λ v. v.items) l.lists.items);
}

abbrev pub decreases-loop-alloc : goal.decreases-loop-alloc
decreases-loop-alloc l = l.tasks - length l.lists.items
