-- The id of a text among names, from one name to the next.
use Rattle.std.proofs.Common.{◌≡◌, ℕ, zero, suc, ◌+◌, ◌≤◌, true, false, cond, List, [], ◌∷◌, drop, length, Some, slice_get, refl, ap, ◌∙◌, arith}
use Rattle.std.specs.Str.{bytes_eq}
use Rattle.ada_phrase_parser.specs.Spelling.{id_of}

-- the name at this place is the text
pub found_here : (names : List (List ℕ)) (i : ℕ) (t name : List ℕ) → slice_get names i ≡ Some name → bytes_eq name t ≡ true → id_of (drop i names) t ≡ 0
found_here [] i t name is same = cc
found_here (x ∷ names) zero t name is same = let e : x ≡ name = cc in rw e (ap (λ b. cond b 0 (suc (id_of names t))) same)
found_here (x ∷ names) (suc i) t name is same = found_here names i t name is same

-- it is another
not_here : (names : List (List ℕ)) (i : ℕ) (t name : List ℕ) → slice_get names i ≡ Some name → bytes_eq name t ≡ false → id_of (drop i names) t ≡ suc (id_of (drop (suc i) names) t)
not_here [] i t name is other = cc
not_here (x ∷ names) zero t name is other = let e : x ≡ name = cc in rw e (ap (λ b. cond b 0 (suc (id_of names t))) other)
not_here (x ∷ names) (suc i) t name is other = not_here names i t name is other

-- there is none
pub nowhere : (names : List (List ℕ)) (i : ℕ) (t : List ℕ) → length names ≤ i → id_of (drop i names) t ≡ 0
nowhere [] zero t past = refl
nowhere [] (suc i) t past = refl
nowhere (x ∷ names) zero t past = absurd (omega (arith, past))
nowhere (x ∷ names) (suc i) t past = nowhere names i t (omega (arith, past))

-- the same by the next place
pub later : (names : List (List ℕ)) (i : ℕ) (t name : List ℕ) → slice_get names i ≡ Some name → bytes_eq name t ≡ false → id_of (drop i names) t ≡ id_of (drop (i + 1) names) t + 1
later names i t name is other =
    let e : i + 1 ≡ suc i = omega arith in
    let next : suc (id_of (drop (suc i) names) t) ≡ id_of (drop (suc i) names) t + 1 = omega arith in
    rw e (not_here names i t name is other ∙ next)
