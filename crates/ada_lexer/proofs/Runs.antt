-- What is left of a run from a place on.
use Rattle.std.proofs.Common.{◌≡◌, ℕ, ◌+◌, ◌<◌, ◌≤◌, Bool, true, false, cond, List, length, get_or, drop, ap, ◌∙◌, sym}
use Rattle.std.proofs.lemmas.List.{at_drop_more, at_drop_all}
use Rattle.ada_lexer.specs.Bytes.{run_len}
use Rattle.ada_lexer.specs.Strings.{string_len, string_goes_on, inside_after, ends_inside}

pub run_len-yes : (go : ℕ → List ℕ → Bool) (xs : List ℕ) (n : ℕ) → n < length xs → go (get_or xs n 0) (drop (n + 1) xs) ≡ true → run_len go (drop n xs) ≡ 1 + run_len go (drop (n + 1) xs)
run_len-yes go xs n lt h =
    at_drop_more (run_len go) xs n 0 lt ∙ ap (λ t. cond t (1 + run_len go (drop (n + 1) xs)) 0) h

pub run_len-no : (go : ℕ → List ℕ → Bool) (xs : List ℕ) (n : ℕ) → n < length xs → go (get_or xs n 0) (drop (n + 1) xs) ≡ false → run_len go (drop n xs) ≡ 0
run_len-no go xs n lt h =
    at_drop_more (run_len go) xs n 0 lt ∙ ap (λ t. cond t (1 + run_len go (drop (n + 1) xs)) 0) h

pub run_len-end : (go : ℕ → List ℕ → Bool) (xs : List ℕ) (n : ℕ) → length xs ≤ n → run_len go (drop n xs) ≡ 0
run_len-end go xs n le = at_drop_all (run_len go) xs n le

pub string_len-yes : (s : Bool) (xs : List ℕ) (n : ℕ) → n < length xs → string_goes_on s (get_or xs n 0) ≡ true → string_len s (drop n xs) ≡ 1 + string_len (inside_after s (get_or xs n 0)) (drop (n + 1) xs)
string_len-yes s xs n lt h =
    at_drop_more (string_len s) xs n 0 lt
    ∙ ap (λ t. cond t (1 + string_len (inside_after s (get_or xs n 0)) (drop (n + 1) xs)) 0) h

pub string_len-no : (s : Bool) (xs : List ℕ) (n : ℕ) → n < length xs → string_goes_on s (get_or xs n 0) ≡ false → string_len s (drop n xs) ≡ 0
string_len-no s xs n lt h =
    at_drop_more (string_len s) xs n 0 lt
    ∙ ap (λ t. cond t (1 + string_len (inside_after s (get_or xs n 0)) (drop (n + 1) xs)) 0) h

pub string_len-end : (s : Bool) (xs : List ℕ) (n : ℕ) → length xs ≤ n → string_len s (drop n xs) ≡ 0
string_len-end s xs n le = at_drop_all (string_len s) xs n le

pub ruleset run_steps = (run_len-yes, run_len-no, run_len-end, string_len-yes, string_len-no, string_len-end)

pub ends_inside-more : (s t : Bool) (xs : List ℕ) (n : ℕ) → n < length xs → ends_inside t (drop n xs) ≡ ends_inside s xs → ends_inside (inside_after t (get_or xs n 0)) (drop (n + 1) xs) ≡ ends_inside s xs
ends_inside-more s t xs n lt h = sym (at_drop_more (ends_inside t) xs n 0 lt) ∙ h
