-- A list that grows by what a function makes of the next number.
use Rattle.std.proofs.Common.{◌≡◌, ℕ, ◌+◌, List, [], ◌∷◌, ◌++◌, map, append_assoc, arith, ◌∙◌, sym, ap}
use Rattle.std.specs.List.{range_with_len}
use Rattle.std.proofs.lemmas.List.FromFn.{map-range_with_len_more}
use Rattle.std.proofs.lemmas.List.{map-append}

pub grown :
    {X Y : Type 0} (view : X → Y) (f : ℕ → Y) (old : List Y) (before after : List X) (x : X) (k : ℕ) →
    map view before ≡ old ++ map f (range_with_len 1 k) → after ≡ before ++ x ∷ [] → view x ≡ f (k + 1) →
    map view after ≡ old ++ map f (range_with_len 1 (k + 1))
grown view f old before after x k so_far e made =
    ap (map view) e ∙ map-append view before (x ∷ []) ∙ rw (so_far, made) (append_assoc old (map f (range_with_len 1 k)) (f (k + 1) ∷ []))
    ∙ ap (λ ys. old ++ ys) (sym (map-range_with_len_more f 1 k (k + 1) (omega arith)))
