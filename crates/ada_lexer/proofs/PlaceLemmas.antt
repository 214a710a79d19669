-- How many bytes stand behind the last line feed.
use Rattle.std.proofs.Common.{◌≡◌, ℕ, ◌-◌, Bool, List, length, arith}
use Rattle.std.specs.List.{after_last, suffix_len}
use Rattle.std.specs.Prelude.{not}
use Rattle.std.proofs.lemmas.List.{length-drop}
use Rattle.std.proofs.lemmas.List.Sums.{suffix_len-le-length, suffix_len-take_yes, suffix_len-take_no}

pub length-after_last : (p : ℕ → Bool) (xs : List ℕ) → length (after_last p xs) ≡ suffix_len (λ b. not (p b)) xs
length-after_last p xs =
    omega (arith, length-drop (length xs - suffix_len (λ b. not (p b)) xs) xs, suffix_len-le-length (λ b. not (p b)) xs)

pub ruleset tail_steps = (length-after_last, suffix_len-take_yes, suffix_len-take_no, suffix_len-le-length)
