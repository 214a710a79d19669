-- Small lemmas on tests: what one says of each number of a range, and of the parts of an `or`.
use Rattle.std.proofs.Common.{◌≡◌, ℕ, ◌+◌, ◌-◌, ◌<◌, ◌≤◌, Bool, true, false, ◌||◌, length, get_or, subst, ◌∙◌, arith, refl}
use Rattle.std.specs.List.{range_with_len, list_all}
use Rattle.std.proofs.lemmas.List.FromFn.{get_or-range_with_len, length-range_with_len}
use Rattle.std.proofs.lemmas.List.Sums.{AllPass-from_list_all}

pub at_number : (p : ℕ → Bool) (a n k : ℕ) → list_all p (range_with_len a n) ≡ true → a ≤ k → k < a + n → p k ≡ true
at_number p a n k h lo hi =
    let within : k - a < length (range_with_len a n) = omega (arith, length-range_with_len a n) in
    let there : get_or (range_with_len a n) (k - a) 0 ≡ k = get_or-range_with_len a n (k - a) 0 (omega arith) ∙ omega arith in
    subst (λ m. p m ≡ true) there (AllPass-from_list_all p (range_with_len a n) h (k - a) 0 within)

pub front_false : (s t : Bool) → (s || t) ≡ false → s ≡ false
front_false true t e = e
front_false false t e = refl

pub rest_false : (s t : Bool) → (s || t) ≡ false → t ≡ false
rest_false true t e = cc
rest_false false t e = e
