use Rattle.std.proofs.Common.{◌≡◌}
use Rattle.ada_types.proofs.tasks.hint_at_entries.Given as goal

-- nothing that is seen changes
abbrev pub invariant-loop-entry : goal.invariant-loop-entry
invariant-loop-entry l = l.scope ≡ l.fn.scope
