-- Lemmas on lists that are the same place by place, for the loops that compare them.
use Rattle.std.proofs.Common.{◌≡◌, ℕ, ◌+◌, ◌<◌, List, [], ◌∷◌, ◌++◌, length, map, take, get_or, sym, ap, subst, ◌∙◌}
use Rattle.std.proofs.lemmas.List.{take_more, map-append, length-map}
use Rattle.std.proofs.lemmas.List.Elements.{AllZip-push, AllZip-get_or, length_all_zip}
use Rattle.std.proofs.Math.ListN.{get_or-map}
use Rattle.std.specs.List.{AllZip}

module _ {A : Type 0} {X : Type 0} (R : X → X → Type 0) (f : A → X) where
  -- one place more is the same
  pub AllZip-more :
      (xs ys : List A) (i : ℕ) (x y : A) →
      i < length xs →
      i < length ys →
      x ≡ get_or xs i x →
      y ≡ get_or ys i y →
      AllZip R (map f (take i xs)) (map f (take i ys)) →
      R (f x) (f y) →
      AllZip R (map f (take (i + 1) xs)) (map f (take (i + 1) ys))
  AllZip-more xs ys i x y lx ly at_x at_y before here =
      let longer : (zs : List A) (z : A) → i < length zs → z ≡ get_or zs i z → map f (take i zs) ++ f z ∷ [] ≡ map f (take (i + 1) zs) =
      λ zs z l at. ap (λ w. map f (take i zs) ++ f w ∷ []) at ∙ sym (ap (map f) (take_more zs i z l) ∙ map-append f (take i zs) (get_or zs i z ∷ [])) in
      subst (λ us. AllZip R us (map f (take (i + 1) ys))) (longer xs x lx at_x) (subst (AllZip R (map f (take i xs) ++ f x ∷ [])) (longer ys y ly at_y) (AllZip-push R (map f (take i xs)) (map f (take i ys)) (f x) (f y) before here))

  -- a place that is not the same
  pub AllZip-at :
      (xs ys : List A) (i : ℕ) (x y : A) →
      i < length xs →
      i < length ys →
      x ≡ get_or xs i x →
      y ≡ get_or ys i y →
      AllZip R (map f xs) (map f ys) →
      R (f x) (f y)
  AllZip-at xs ys i x y lx ly at_x at_y whole =
      let inside : i < length (map f xs) = rw length-map lx in
      let here : R (get_or (map f xs) i (f x)) (get_or (map f ys) i (f y)) = AllZip-get_or R (map f xs) (map f ys) i (f x) (f y) whole inside in
      let is_x : get_or (map f xs) i (f x) ≡ f x = get_or-map f xs i x ∙ ap f (sym at_x) in
      let is_y : get_or (map f ys) i (f y) ≡ f y = get_or-map f ys i y ∙ ap f (sym at_y) in
      subst (λ u. R u (f y)) is_x (subst (R (get_or (map f xs) i (f x))) is_y here)

  -- lists of two lengths are not the same
  pub AllZip-length : (xs ys : List A) → AllZip R (map f xs) (map f ys) → length xs ≡ length ys
  AllZip-length xs ys whole = sym (length-map xs f) ∙ length_all_zip R (map f xs) (map f ys) whole ∙ length-map ys f

-- one place more is the same, in lists of numbers or of what is copied
pub AllZip-more_copied :
    {X : Type 0} (R : X → X → Type 0) (xs ys : List X) (i : ℕ) (d e : X) →
    i < length xs →
    i < length ys →
    AllZip R (take i xs) (take i ys) →
    R (get_or xs i d) (get_or ys i e) →
    AllZip R (take (i + 1) xs) (take (i + 1) ys)
AllZip-more_copied R xs ys i d e lx ly before here =
    subst (λ us. AllZip R us (take (i + 1) ys)) (sym (take_more xs i d lx)) (subst (AllZip R (take i xs ++ get_or xs i d ∷ [])) (sym (take_more ys i e ly)) (AllZip-push R (take i xs) (take i ys) (get_or xs i d) (get_or ys i e) before here))

pub ruleset places = (AllZip-more, AllZip-more_copied, AllZip-at, AllZip-length)
