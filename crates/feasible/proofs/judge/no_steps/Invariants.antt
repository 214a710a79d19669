use Rattle.std.proofs.Common.{◌≡◌, ℕ, length}
use Rattle.std.specs.Prelude.{slice_index}
use Rattle.feasible.proofs.judge.no_steps.Given as goal

-- so many counts, all 0
abbrev pub invariant-loop-made : goal.invariant-loop-made
invariant-loop-made l = (length l.steps.items ≡ l._made) × ((t : ℕ) → slice_index l.steps.items t ≡ 0)
