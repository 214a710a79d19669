-- One turn of the loops over declarations.
use Rattle.std.proofs.Common.{◌≡◌, ℕ, zero, suc, ◌+◌, ◌<◌, ◌≤◌, Bool, List, [], ◌∷◌, ◌++◌, length, map, take, get_or, slice_set, Result, Ok, Err, IfOk, refl, sym, ap, ◌∙◌, append_assoc, add-one, arith}
use Rattle.std.specs.List.{filter}
use Rattle.std.proofs.lemmas.List.{map-append, take_more}
use Rattle.std.proofs.lemmas.List.Elements.{filter-append}
use Rattle.ada_tree.specs.declared.declarations.Decl.{Decl}
use Rattle.ada_tree.specs.declared.declarations.EntryDecl.{EntryDecl}
use Rattle.ada_tree.specs.declared.shortage.Memory.{Memory}
use Rattle.ada_tree.specs.PlainDecl.{PDecl, PEntry, plain_decl, plain_entry}
use Rattle.ada_stmt_copy.specs.expressions.Parts.{OkWith}

-- the list has its length, and what was not gone through is as it was
pub record Left (i : ℕ) (ys xs : List Decl) : Type 0 where
  pub size : length ys ≡ length xs
  pub same : (k : ℕ) (d : Decl) → i ≤ k → get_or ys k d ≡ get_or xs k d

set-length : (ys : List Decl) (i : ℕ) (y : Decl) → length (slice_set ys i y) ≡ length ys
set-length [] zero y = refl
set-length [] (suc i) y = refl
set-length (x ∷ ys) zero y = refl
set-length (x ∷ ys) (suc i) y = ap suc (set-length ys i y)

set-behind : (ys : List Decl) (i k : ℕ) (y d : Decl) → i < k → get_or (slice_set ys i y) k d ≡ get_or ys k d
set-behind [] zero k y d h = refl
set-behind [] (suc i) k y d h = refl
set-behind (x ∷ ys) zero zero y d h = absurd (omega (arith, h))
set-behind (x ∷ ys) zero (suc k) y d h = refl
set-behind (x ∷ ys) (suc i) zero y d h = absurd (omega (arith, h))
set-behind (x ∷ ys) (suc i) (suc k) y d h = set-behind ys i k y d (omega (arith, h))

pub left-turn : (xs ys : List Decl) (i : ℕ) (y : Decl) → Left i ys xs → Left (i + 1) (slice_set ys i y) xs
left-turn xs ys i y left = record {
  size = set-length ys i y ∙ left.size;
  same = λ k d h. set-behind ys i k y d (omega (arith, h)) ∙ left.same k d (omega (arith, h));
}

-- the declarations that were gone through, and one more
decls_more : (xs : List Decl) (i : ℕ) (d : Decl) → i < length xs → map plain_decl (take (i + 1) xs) ≡ map plain_decl (take i xs) ++ plain_decl (get_or xs i d) ∷ []
decls_more xs i d h = ap (map plain_decl) (take_more xs i d h) ∙ map-append plain_decl (take i xs) (get_or xs i d ∷ [])

-- those of them that pass a test
pub filtered-turn :
    (p : PDecl → Bool) (xs : List Decl) (i : ℕ) (x d : Decl) (old : List PDecl) (before behind : List Decl) →
    i < length xs →
    x ≡ get_or xs i d →
    map plain_decl before ≡ old ++ filter p (map plain_decl (take i xs)) →
    map plain_decl behind ≡ map plain_decl before ++ filter p (plain_decl x ∷ []) →
    map plain_decl behind ≡ old ++ filter p (map plain_decl (take (i + 1) xs))
filtered-turn p xs i x d old before behind h at so_far step =
    step
    ∙ (λ j. so_far j ++ filter p (plain_decl (at j) ∷ []))
    ∙ append_assoc old (filter p (map plain_decl (take i xs))) (filter p (plain_decl (get_or xs i d) ∷ []))
    ∙ ap (λ ys. old ++ ys) (sym (filter-append p (map plain_decl (take i xs)) (plain_decl (get_or xs i d) ∷ [])) ∙ ap (filter p) (sym (decls_more xs i d h)))

-- the front of a list behind a change in it
take-set : (ys : List Decl) (i : ℕ) (y : Decl) → i < length ys → take (suc i) (slice_set ys i y) ≡ take i ys ++ y ∷ []
take-set [] i y h = absurd (omega (arith, h))
take-set (x ∷ ys) zero y h = refl
take-set (x ∷ ys) (suc i) y h = ap (λ l. x ∷ l) (take-set ys i y (omega (arith, h)))

-- what they become in place
pub mapped-turn :
    (f : PDecl → PDecl) (xs ys : List Decl) (i : ℕ) (d y : Decl) →
    i < length ys →
    length ys ≡ length xs →
    get_or ys i d ≡ get_or xs i d →
    map plain_decl (take i ys) ≡ map f (map plain_decl (take i xs)) →
    plain_decl y ≡ f (plain_decl (get_or ys i d)) →
    map plain_decl (take (i + 1) (slice_set ys i y)) ≡ map f (map plain_decl (take (i + 1) xs))
mapped-turn f xs ys i d y h same at so_far step =
    ap (λ n. map plain_decl (take n (slice_set ys i y))) (add-one i)
    ∙ ap (map plain_decl) (take-set ys i y h)
    ∙ map-append plain_decl (take i ys) (y ∷ [])
    ∙ (λ j. so_far j ++ step j ∷ [])
    ∙ ap (λ x. map f (map plain_decl (take i xs)) ++ f (plain_decl x) ∷ []) at
    ∙ sym (map-append f (map plain_decl (take i xs)) (plain_decl (get_or xs i d) ∷ []))
    ∙ ap (map f) (sym (decls_more xs i d (omega (arith, h, same))))

-- one entry more
pub entries-turn :
    (h : PEntry → PEntry) (old : List PEntry) (before behind : List EntryDecl) (xs : List EntryDecl) (i : ℕ) (x : EntryDecl) (r : Result EntryDecl Memory) →
    i < length xs →
    x ≡ get_or xs i x →
    map plain_entry before ≡ old ++ map h (map plain_entry (take i xs)) →
    OkWith r (λ e. behind ≡ before ++ e ∷ []) →
    IfOk r (λ e. plain_entry e ≡ h (plain_entry x)) →
    map plain_entry behind ≡ old ++ map h (map plain_entry (take (i + 1) xs))
entries-turn h old before behind xs i x (Err e) within at so_far pushed made = absurd pushed
entries-turn h old before behind xs i x (Ok e) within at so_far pushed made =
    ap (map plain_entry) pushed
    ∙ map-append plain_entry before (e ∷ [])
    ∙ (λ j. so_far j ++ made j ∷ [])
    ∙ append_assoc old (map h (map plain_entry (take i xs))) (h (plain_entry x) ∷ [])
    ∙ ap (λ y. old ++ (map h (map plain_entry (take i xs)) ++ h (plain_entry y) ∷ [])) at
    ∙ ap (λ ys. old ++ ys)
    (sym
    (ap (λ ys. map h (map plain_entry ys)) (take_more xs i x within)
    ∙ ap (map h) (map-append plain_entry (take i xs) (get_or xs i x ∷ []))
    ∙ map-append h (map plain_entry (take i xs)) (plain_entry (get_or xs i x) ∷ [])))
