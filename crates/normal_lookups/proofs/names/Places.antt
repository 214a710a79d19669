-- Where a text stands among names: what is interned later changes no place.
use Rattle.std.proofs.Common.{◌≡◌, ◌<◌, ℕ, Bool, true, false, List, [], ◌∷◌, ◌++◌, length, fold, position, Some, slice_get, get_or, if◌then◌else◌, refl, sym, ap, ◌∙◌, arith, length-append}
use Rattle.std.specs.List.{list_any, position_or_len}
use Rattle.std.specs.Str.{bytes_eq}
use Rattle.std.proofs.lemmas.Bool.{lt-ltb}
use Rattle.std.proofs.lemmas.Slice.Eq.{bytes_eq-Decides}
use Rattle.std.proofs.lemmas.List.{get_or_append_left}
use Rattle.std.proofs.lemmas.List.Quantifiers.{position-Some}
use Rattle.std.proofs.lemmas.List.Sums.{position_or_len_is}
use Rattle.std.proofs.lemmas.Option.{slice_get-get_or, slice_get_within, get_or_from_slice_get}
use Rattle.ada_tree.specs.NameList.{interned, AreNames}

-- an element that passes a test which none before it passes is found
pub place_is : {X : Type 0} (p : X → Bool) (xs : List X) (i : ℕ) (d : X) → i < length xs → p (get_or xs i d) ≡ true → ((k : ℕ) → k < i → p (get_or xs k d) ≡ false) → position p xs ≡ Some i
place_is p xs i d within at before =
    let found : position_or_len p xs ≡ i = position_or_len_is p xs i d (omega arith) before (λ _. at) in
    rw (found, lt-ltb i (length xs) within) refl

-- a text of names that differ is found where it stands
pub place_of : (t : List ℕ) (ts : List (List ℕ)) (i : ℕ) → AreNames ts → slice_get ts i ≡ Some t → position (bytes_eq t) ts ≡ Some i
place_of t ts i names at =
    place_is (bytes_eq t) ts i t within ((bytes_eq-Decides t (get_or ts i t)).1 (sym (get_or_from_slice_get ts i t t at))) (λ k lt. other k (bytes_eq t (get_or ts k t)) refl lt)
  where
    within : i < length ts
    within = slice_get_within ts i t at

    other : (k : ℕ) (b : Bool) → bytes_eq t (get_or ts k t) ≡ b → k < i → b ≡ false
    other k false e lt = refl
    other k true e lt =
        let same : t ≡ get_or ts k t = (bytes_eq-Decides t (get_or ts k t)).0 e in
        let before : k < length ts = omega (arith, within, lt) in
        let there : slice_get ts k ≡ Some t = slice_get-get_or ts k t before ∙ ap Some (sym same) in
        let one : k ≡ i = names.distinct t k i there at in
        absurd (omega (arith, one, lt))

-- what is found is found there too where more follows
pub place_before : {X : Type 0} (p : X → Bool) (xs ys : List X) (i : ℕ) (d : X) → position p xs ≡ Some i → position p (xs ++ ys) ≡ Some i
place_before p xs ys i d found =
    let f = position-Some p xs i d found in
    place_is p (xs ++ ys) i d (omega (arith, length-append xs ys, f.0)) (ap p (get_or_append_left xs ys d i f.0) ∙ f.1) (λ k lt. ap p (get_or_append_left xs ys d k (omega (arith, f.0, lt))) ∙ f.2 k lt)

-- a text that is interned later changes no place
pub place_interned : (t u : List ℕ) (ts : List (List ℕ)) (i : ℕ) → position (bytes_eq t) ts ≡ Some i → position (bytes_eq t) (interned ts u) ≡ Some i
place_interned t u ts i found = by (list_any (bytes_eq u) ts)
  where
    by : (b : Bool) → position (bytes_eq t) (if b then ts else ts ++ u ∷ []) ≡ Some i
    by true = found
    by false = place_before (bytes_eq t) ts (u ∷ []) i t found

pub place_later : (t : List ℕ) (us ts : List (List ℕ)) (i : ℕ) → position (bytes_eq t) ts ≡ Some i → position (bytes_eq t) (fold interned ts us) ≡ Some i
place_later t [] ts i found = found
place_later t (u ∷ us) ts i found = place_later t us (interned ts u) i (place_interned t u ts i found)
