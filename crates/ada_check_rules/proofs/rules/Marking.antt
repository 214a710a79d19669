-- Where _DED_ stands in a text.
use Rattle.std.specs.Prelude.{◌≡◌, ℕ, ◌+◌, ◌-◌, ◌<◌, ◌||◌, nat_eq, Bool, false, List, length, take, drop, codes}
use Rattle.std.specs.List.{starts_with}
use Rattle.std.proofs.Common.{sym, ap, ◌∙◌, arith}
use Rattle.std.proofs.lemmas.List.{drop_more, length-drop, take_all}
use Rattle.syn_event.specs.RuleReservedName.{has_mark}

pub mark_at : (xs : List ℕ) (i : ℕ) → i < length xs → has_mark (drop i xs) ≡ (starts_with nat_eq (drop i xs) (codes "_DED_") || has_mark (drop (i + 1) xs))
mark_at xs i h = ap has_mark (drop_more xs i 0 h) ∙ ap (λ l. starts_with nat_eq l (codes "_DED_") || has_mark (drop (i + 1) xs)) (sym (drop_more xs i 0 h))

whole : (xs : List ℕ) (i : ℕ) → take (length xs - i) (drop i xs) ≡ drop i xs
whole xs i = let many : length (drop i xs) ≡ length xs - i = length-drop i xs in take_all (length xs - i) (drop i xs) (omega (arith, many))

pub unmarked : (xs : List ℕ) (i : ℕ) (b : Bool) (mark : List ℕ) → i < length xs → b ≡ starts_with nat_eq (take (length xs - i) (drop i xs)) mark → mark ≡ codes "_DED_" → b ≡ false → has_mark (drop (i + 1) xs) ≡ has_mark (drop i xs)
unmarked xs i b mark h is same gone =
    let none : starts_with nat_eq (drop i xs) (codes "_DED_") ≡ false = ap (λ l. starts_with nat_eq l (codes "_DED_")) (sym (whole xs i)) ∙ ap (starts_with nat_eq (take (length xs - i) (drop i xs))) (sym same) ∙ sym is ∙ gone in
    sym (mark_at xs i h ∙ ap (λ x. x || has_mark (drop (i + 1) xs)) none)
