-- Lists that are gone through from behind.
use Rattle.std.specs.Prelude.{◌≡◌, ℕ, ◌+◌, ◌-◌, ◌<◌, ◌≤◌, List, [], ◌∷◌, length, drop, get_or}
use Rattle.std.proofs.Common.{sym, ap, ◌∙◌, arith}
use Rattle.std.proofs.lemmas.List.{drop_more, drop_all}

back_here : (n k : ℕ) → k < n → n - (k + 1) ≡ n - 1 - k
back_here n k h = omega arith

back_next : (n k : ℕ) → k < n → n - 1 - k + 1 ≡ n - k
back_next n k h = omega arith

back_within : (n k : ℕ) → k < n → n - 1 - k < n
back_within n k h = omega arith

pub back_more : {A : Type 0} (xs : List A) (k : ℕ) (d : A) → k < length xs → drop (length xs - (k + 1)) xs ≡ get_or xs (length xs - 1 - k) d ∷ drop (length xs - k) xs
back_more xs k d h =
    ap (λ i. drop i xs) (back_here (length xs) k h)
    ∙ drop_more xs (length xs - 1 - k) d (back_within (length xs) k h)
    ∙ ap (λ i. get_or xs (length xs - 1 - k) d ∷ drop i xs) (back_next (length xs) k h)

all_gone : (n : ℕ) → n ≤ n - 0
all_gone n = omega arith

pub back_init : {A : Type 0} (xs : List A) → drop (length xs - 0) xs ≡ []
back_init xs = drop_all (length xs - 0) xs (all_gone (length xs))

none_gone : (n k : ℕ) → n ≤ k → n - k ≡ 0
none_gone n k h = omega arith

pub back_end : {A : Type 0} (xs : List A) (k : ℕ) → length xs ≤ k → drop (length xs - k) xs ≡ xs
back_end xs k h = ap (λ i. drop i xs) (none_gone (length xs) k h)

pub back_cut : {A : Type 0} (xs : List A) (k : ℕ) (x : A) → k < length xs → x ≡ get_or xs (length xs - 1 - k) x → drop (length xs - (k + 1)) xs ≡ x ∷ drop (length xs - k) xs
back_cut xs k x h is_x = back_more xs k x h ∙ ap (λ y. y ∷ drop (length xs - k) xs) (sym is_x)
