-- What has been found behind one element more of a list.
use Rattle.std.proofs.Common.{◌≡◌, ℕ, ◌+◌, ◌<◌, List, [], ◌∷◌, ◌++◌, length, map, take, get_or, Option, fold, refl, sym, ap, ◌∙◌}
use Rattle.std.proofs.lemmas.List.{take_more, map-append}
use Rattle.std.proofs.lemmas.List.Sums.{fold-append}

-- by what a row with one more at its end comes to
pub row-turn :
    {X P R S : Type 0} (view : X → P) (of : List P → R) (after : R → S → S) (behind : P → S → S) →
    ((xs : List P) (x : P) (t : S) → after (of (xs ++ x ∷ [])) t ≡ behind x (after (of xs) t)) →
    (xs : List X) (i : ℕ) (x : X) (t u v : S) →
    i < length xs →
    x ≡ get_or xs i x →
    u ≡ after (of (map view (take i xs))) t →
    v ≡ behind (view x) u →
    v ≡ after (of (map view (take (i + 1) xs))) t
row-turn view of after behind more xs i x t u v within at so_far step =
    step
    ∙ (λ j. behind (view (at j)) (so_far j))
    ∙ sym (more (map view (take i xs)) (view (get_or xs i x)) t)
    ∙ sym (ap (λ l. after (of l) t) (ap (map view) (take_more xs i x within) ∙ map-append view (take i xs) (get_or xs i x ∷ [])))

-- of a list that is gone through itself
pub fold-turn :
    {X P S : Type 0} (view : X → P) (behind : S → P → S) (xs : List X) (i : ℕ) (x : X) (t u v : S) →
    i < length xs →
    x ≡ get_or xs i x →
    u ≡ fold behind t (map view (take i xs)) →
    v ≡ behind u (view x) →
    v ≡ fold behind t (map view (take (i + 1) xs))
fold-turn view behind = row-turn view (λ l. l) (λ l t. fold behind t l) (λ x t. behind t x) (λ xs x t. fold-append behind t xs (x ∷ []))
