-- Lists of lists, by the place of the list.
use Rattle.std.proofs.Common.{◌≡◌, ℕ, zero, suc, ◌+◌, ◌<◌, ◌≤◌, List, [], ◌∷◌, ◌++◌, length, map, get_or, set, replicate, refl, sym, ap, ◌∙◌, subst, arith}
use Rattle.std.proofs.lemmas.List.{map-set, set_past, length-map}
use Rattle.std.specs.declared.vec.Vec.{Vec}
use Rattle.std.specs.declared.alloc.Global.{Global}
use Rattle.syn_order.specs.inner.Lists.{at_place, put_behind}

pub replicate_more : {A : Type 0} (n : ℕ) (x : A) → replicate n x ++ x ∷ [] ≡ replicate (n + 1) x
replicate_more zero x = refl
replicate_more (suc n) x =
    let e : suc (n + 1) ≡ suc n + 1 = omega arith in
    ap (λ l. x ∷ l) (replicate_more n x) ∙ ap (λ k. replicate k x) e

pub empty_at : {A : Type 0} (n t : ℕ) → at_place {A = A} (replicate n []) t ≡ []
empty_at zero t = refl
empty_at (suc n) zero = refl
empty_at (suc n) (suc t) = empty_at n t

-- a vector that has this list
pub set_there : {A : Type 0} (ls : List (Vec A Global)) (k : ℕ) (l : Vec A Global) (xs : List A) → l.items ≡ xs → map (λ v. v.items) (set ls k l) ≡ set (map (λ v. v.items) ls) k xs
set_there ls k l xs h = map-set (λ v. v.items) ls k l ∙ ap (set (map (λ v. v.items) ls) k) h

pub items_there : {A : Type 0} (ls : List (Vec A Global)) (k : ℕ) (d : Vec A Global) → k < length ls → (get_or ls k d).items ≡ at_place (map (λ v. v.items) ls) k
items_there [] k d l = absurd (omega (arith, l))
items_there (m ∷ ls) zero d l = refl
items_there (m ∷ ls) (suc k) d l = items_there ls k d (omega (arith, l))

-- x behind the list at a place
pub put_there : {A : Type 0} (ls : List (Vec A Global)) (k : ℕ) (d l : Vec A Global) (x : A) → k < length ls → l.items ≡ (get_or ls k d).items ++ x ∷ [] →
    map (λ v. v.items) (set ls k l) ≡ put_behind (map (λ v. v.items) ls) k x
put_there ls k d l x m h = set_there ls k l _ (h ∙ ap (λ xs. xs ++ x ∷ []) (items_there ls k d m))

-- past the lists nothing is written
pub set_none : {A : Type 0} (ls : List (Vec A Global)) (k : ℕ) (xs : List A) → length ls ≤ k → map (λ v. v.items) ls ≡ set (map (λ v. v.items) ls) k xs
set_none ls k xs l = sym (set_past (map (λ v. v.items) ls) k xs (subst (λ n. n ≤ k) (sym (length-map ls (λ v. v.items))) l))
