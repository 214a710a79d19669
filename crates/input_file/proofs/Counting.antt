-- How many numbers a file may have.
use Rattle.std.proofs.Common.{◌≡◌, ℕ, ◌+◌, ◌-◌, ◌≤◌, ◌<◌, true, false, sym, arith}
use Rattle.std.specs.Prelude.{nat_le}
use Rattle.std.proofs.lemmas.Bool.{le-leb, lt-leb}
use Rattle.input_file.specs.InputFiles.{most_inputs}

pub fits-more : (n m : ℕ) → n ≤ most_inputs → m ≤ most_inputs - n → true ≡ nat_le (n + m) most_inputs
fits-more n m h k = sym (le-leb (n + m) most_inputs (omega (arith, h, k)))

pub fits-not_more : (n m : ℕ) → n ≤ most_inputs → most_inputs - n < m → false ≡ nat_le (n + m) most_inputs
fits-not_more n m h k = sym (lt-leb (n + m) most_inputs (omega (arith, h, k)))

pub fits-none : (n m : ℕ) → most_inputs < n → false ≡ nat_le (n + m) most_inputs
fits-none n m h = sym (lt-leb (n + m) most_inputs (omega (arith, h)))

pub ruleset counting = (fits-more, fits-not_more, fits-none)
