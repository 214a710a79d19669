-- The id of a text in the set of the code, and the set of all names.
use Rattle.std.proofs.Common.{◌≡◌, ℕ, ◌+◌, ◌<◌, ◌≤◌, Bool, not, nat_lt, cond, List, [], ◌∷◌, length, map, take, get_or, slice_get, position, Option, Some, None, Result, Ok, Err, OnOk, fold, refl, sym, ap, ◌∙◌, arith}
use Rattle.std.specs.Prelude.{unwrap_or}
use Rattle.std.specs.List.{prefix_len}
use Rattle.std.specs.Str.{bytes_eq}
use Rattle.std.proofs.lemmas.List.{take_all, take_more, length-map}
use Rattle.std.proofs.lemmas.List.Sums.{fold-append}
use Rattle.std.proofs.lemmas.Option.{slice_get-get_or, slice_get_within}
use Rattle.ada_tree.specs.declared.naming.NameId.{NameId}
use Rattle.ada_tree.specs.declared.shortage.Memory.{Memory}
use Rattle.ada_tree.specs.NameList.{AreNames, interned}
use Rattle.ada_tree.proofs.Interning.{fold_distinct}
use Rattle.normal_model.specs.Names.{id_of}

-- ---- a search

prefix-seen : {K : Type 0} (g : K → List ℕ) (q : List ℕ → Bool) (ks : List K) → prefix_len q (map g ks) ≡ prefix_len (λ k. q (g k)) ks
prefix-seen g q [] = refl
prefix-seen g q (k ∷ ks) = ap (λ m. cond (q (g k)) (1 + m) 0) (prefix-seen g q ks)

-- a search for texts is one for keys
position-seen : {K : Type 0} (g : K → List ℕ) (p : List ℕ → Bool) (ks : List K) → position p (map g ks) ≡ position (λ k. p (g k)) ks
position-seen g p ks =
    let places = prefix-seen g (λ t. not (p t)) ks in
    let sizes = length-map ks g in
    λ i. cond (nat_lt (places i) (sizes i)) (Some (places i)) None

-- the name at a place, or the first where there is none
abbrev pub name_at : Option ℕ → NameId
name_at o = record { 0 = unwrap_or o 0 }

pub found-id : {K : Type 0} (g : K → List ℕ) (t : List ℕ) (ks : List K) (o : Option ℕ) → o ≡ position (λ k. bytes_eq t (g k)) ks → name_at o ≡ id_of (map g ks) t
found-id g t ks o is = ap name_at (is ∙ sym (position-seen g (bytes_eq t) ks))

-- ---- all names

-- the texts in front of an id, each interned
abbrev pub first_names : List (List ℕ) → ℕ → List (List ℕ)
first_names names i = fold interned [] (take i names)

same-some : (a b : List ℕ) → Some a ≡ Some b → a ≡ b
same-some a b e = cc

-- one more
pub names-more :
    (names : List (List ℕ)) (i : ℕ) (t : List ℕ) (ts new : List (List ℕ)) → Some t ≡ slice_get names i → ts ≡ first_names names i → new ≡ interned ts t → new ≡ first_names names (i + 1)
names-more names i t ts new at so_far put =
    let h : i < length names = slice_get_within names i t (sym at) in
    let is : t ≡ get_or names i t = same-some t (get_or names i t) (at ∙ slice_get-get_or names i t h) in
    put
    ∙ (λ j. interned (so_far j) (is j))
    ∙ sym (ap (fold interned []) (take_more names i t h) ∙ fold-append interned [] (take i names) (get_or names i t ∷ []))

-- all
pub all-names : (names : List (List ℕ)) (i : ℕ) (ts : List (List ℕ)) → AreNames names → length names ≤ i → ts ≡ first_names names i → ts ≡ names
all-names names i ts are h so_far = so_far ∙ ap (fold interned []) (take_all i names h) ∙ fold_distinct [] names are.distinct

-- the last that there can be
pub last-name :
    (names : List (List ℕ)) (i : ℕ) (t : List ℕ) (ts new : List (List ℕ)) (done : Result (Unit {0}) Memory) →
    AreNames names → 4294967295 ≤ i → Some t ≡ slice_get names i → ts ≡ first_names names i → OnOk done (new ≡ interned ts t) → OnOk done (new ≡ names)
last-name names i t ts new (Err e) are last at so_far put = tt
last-name names i t ts new (Ok u) are last at so_far put =
    let fits = are.fits in
    all-names names (i + 1) new are (omega (arith, fits, last)) (names-more names i t ts new at so_far put)

-- what holds anyway holds where a step went well
pub kept : {A : Type 0} (done : Result (Unit {0}) Memory) → A → OnOk done A
kept (Err e) a = tt
kept (Ok u) a = a
