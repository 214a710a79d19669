-- One turn of a loop that puts copies behind others.
use Rattle.std.proofs.Common.{◌≡◌, ℕ, ◌+◌, ◌<◌, List, [], ◌∷◌, ◌++◌, length, map, take, get_or, Result, Ok, Err, IfOk, sym, ap, ◌∙◌, append_assoc}
use Rattle.std.proofs.lemmas.List.{take_more, map-append}
use Rattle.ada_tree.specs.declared.shortage.Memory.{Memory}
use Rattle.ada_stmt_copy.specs.expressions.Parts.{OkWith}

pub copies-turn :
    {A P : Type 0} (view : A → P) (h : P → P) (old : List P) (before behind xs : List A) (i : ℕ) (x : A) (r : Result A Memory) →
    i < length xs →
    x ≡ get_or xs i x →
    map view before ≡ old ++ map h (map view (take i xs)) →
    OkWith r (λ e. behind ≡ before ++ e ∷ []) →
    IfOk r (λ e. view e ≡ h (view x)) →
    map view behind ≡ old ++ map h (map view (take (i + 1) xs))
copies-turn view h old before behind xs i x (Err e) within at so_far pushed made = absurd pushed
copies-turn view h old before behind xs i x (Ok e) within at so_far pushed made =
    ap (map view) pushed
    ∙ map-append view before (e ∷ [])
    ∙ (λ j. so_far j ++ made j ∷ [])
    ∙ append_assoc old (map h (map view (take i xs))) (h (view x) ∷ [])
    ∙ ap (λ y. old ++ (map h (map view (take i xs)) ++ h (view y) ∷ [])) at
    ∙ ap (λ ys. old ++ ys)
    (sym
    (ap (λ ys. map h (map view ys)) (take_more xs i x within)
    ∙ ap (map h) (map-append view (take i xs) (get_or xs i x ∷ []))
    ∙ map-append h (map view (take i xs)) (view (get_or xs i x) ∷ [])))

-- where each becomes its copy
pub plain-turn :
    {A P : Type 0} (view : A → P) (old : List P) (before behind xs : List A) (i : ℕ) (x : A) (r : Result A Memory) →
    i < length xs →
    x ≡ get_or xs i x →
    map view before ≡ old ++ map view (take i xs) →
    OkWith r (λ e. behind ≡ before ++ e ∷ []) →
    IfOk r (λ e. view e ≡ view x) →
    map view behind ≡ old ++ map view (take (i + 1) xs)
plain-turn view old before behind xs i x (Err e) within at so_far pushed made = absurd pushed
plain-turn view old before behind xs i x (Ok e) within at so_far pushed made =
    ap (map view) pushed
    ∙ map-append view before (e ∷ [])
    ∙ (λ j. so_far j ++ made j ∷ [])
    ∙ append_assoc old (map view (take i xs)) (view x ∷ [])
    ∙ ap (λ y. old ++ (map view (take i xs) ++ view y ∷ [])) at
    ∙ ap (λ ys. old ++ ys) (sym (ap (map view) (take_more xs i x within) ∙ map-append view (take i xs) (get_or xs i x ∷ [])))
