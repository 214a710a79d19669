-- Counts of faults over several calls: a rise in one of them is a rise in all.
use Rattle.std.specs.Prelude.{◌≤◌, ℕ}
use Rattle.std.proofs.Common.{inl, inr, arith}
use Rattle.ded_io.specs.Counts.{Rose, last_count, one_more}
use Rattle.std.proofs.lemmas.Grind.{common_steps}

-- a count that rises is not smaller
pub rose_le : (old new : ℕ) → Rose old new → old ≤ new
unfolding Rose
rose_le old new h = elim h [ inl less ↦ omega arith | inr both ↦ omega arith ]

-- a rise behind a count that did not fall
pub rose_behind : (old mid new : ℕ) → old ≤ mid → Rose mid new → Rose old new
unfolding Rose
rose_behind old mid new le h = grind (arith, common_steps)

-- a rise before a count that did not fall, and that a count of 64 bits can hold
pub rose_before : (old mid new : ℕ) → Rose old mid → mid ≤ new → new ≤ last_count → Rose old new
unfolding Rose
rose_before old mid new h le top = grind (arith, common_steps)

-- one more fault is a rise
pub rose-one_more : (n : ℕ) → n ≤ last_count → Rose n (one_more n)
unfolding Rose
rose-one_more n top = grind (arith, common_steps)
