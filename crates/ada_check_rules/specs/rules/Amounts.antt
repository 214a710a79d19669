-- Counts that stop at a number beyond every limit, since a sum of many parts may be larger than any number of the machine.
use Rattle.std.specs.Prelude.{ℕ, ◌+◌, min}

-- no limit is so large
abbrev pub many : ℕ
many = 2147483648

-- a count up to there
abbrev pub capped : ℕ → ℕ
capped n = min n many

-- the sum of two counts
abbrev pub plus : ℕ → ℕ → ℕ
plus a b = capped (a + b)
