-- What is put on a page by a loop over a list: behind each turn the texts of one more member.
use Rattle.std.specs.Prelude.{◌≡◌, ◌+◌, ◌-◌, ◌<◌, ◌≤◌, ℕ, zero, suc, List, [], ◌∷◌, codes, length, map, take, drop, refl}
use Rattle.std.proofs.Common.{sym, ap, ◌∙◌, subst, get_or, add-one, arith}
use Rattle.std.proofs.Math.Seq.{take-suc, take-length}
use Rattle.std.proofs.lemmas.List.{take_all}
use Rattle.ded_io.specs.Written.{◌⧺◌, each_text}
use Rattle.ded_io.proofs.Writes.{joined, joined_nil, joined_assoc}
use Rattle.ded_io.proofs.Members.{each_text-append, each_text-one}
use Rattle.ada_printer.specs.Layout.{indent, separated}
use Rattle.ded_io.specs.pages.Pages.{Drawing, Drew}
use Rattle.ded_io.proofs.pages.Drawn.{drew_none, drew_then}

-- the texts of a front with one member more
each_text-more : (X : Type 0) (text : X → List ℕ) (xs : List X) (i : ℕ) (d : X) → i < length xs → each_text text (take (i + 1) xs) ≡ each_text text (take i xs) ⧺ text (get_or xs i d)
each_text-more X text xs i d within =
    ap (λ n. each_text text (take n xs)) (add-one i)
    ∙ ap (each_text text) (take-suc xs i d within)
    ∙ each_text-append X text (take i xs) (get_or xs i d ∷ [])
    ∙ ap (λ t. each_text text (take i xs) ⧺ t) (each_text-one X text (get_or xs i d))

pub not_below_one : (n : ℕ) → suc n < 1 → ⊥
not_below_one n h = omega arith

pub not_below_zero : 1 ≤ 0 → ⊥
not_below_zero h = omega arith

-- one member more
pub drew_member : (X : Type 0) (text : X → List ℕ) (xs : List X) (i : ℕ) (d : X) (a b c : Drawing) → i < length xs → Drew a b (each_text text (take i xs)) → Drew b c (text (get_or xs i d)) → Drew a c (each_text text (take (i + 1) xs))
drew_member X text xs i d a b c within done turn =
    subst (λ t. Drew a c t) (sym (each_text-more X text xs i d within)) (drew_then a b c _ _ done turn)

-- behind the last turn all members are there
pub drew_members : (X : Type 0) (text : X → List ℕ) (xs : List X) (a b : Drawing) → Drew a b (each_text text (take (length xs) xs)) → Drew a b (each_text text xs)
drew_members X text xs a b = subst (λ t. Drew a b t) (ap (each_text text) (take-length xs))

-- the texts of mapped members
each_text-map : (X Y : Type 0) (f : X → Y) (text : Y → List ℕ) (xs : List X) → each_text text (map f xs) ≡ each_text (λ x. text (f x)) xs
each_text-map X Y f text [] = refl
each_text-map X Y f text (x ∷ xs) = ap (λ t. text (f x) ⧺ t) (each_text-map X Y f text xs)

-- the same for a list that is seen by a function
pub drew_seen_member : (X Y : Type 0) (f : X → Y) (text : Y → List ℕ) (xs : List X) (i : ℕ) (m : X) (a b c : Drawing) → i < length xs → m ≡ get_or xs i m → Drew a b (each_text text (map f (take i xs))) → Drew b c (text (f m)) → Drew a c (each_text text (map f (take (i + 1) xs)))
drew_seen_member X Y f text xs i m a b c within is_m done turn =
    subst (λ t. Drew a c t) (sym (each_text-map X Y f text (take (i + 1) xs)))
    (drew_member X (λ x. text (f x)) xs i m a b c within (subst (λ t. Drew a b t) (each_text-map X Y f text (take i xs)) done) (subst (λ x. Drew b c (text (f x))) is_m turn))

-- what a slice's pattern calls the rest is what stands behind the first
pub rest_is : (X : Type 0) (x : X) (xs : List X) → take (length (x ∷ xs) - 1) xs ≡ xs
rest_is X x xs = take_all (length (x ∷ xs) - 1) xs (below (length xs)) where
  below : (n : ℕ) → n ≤ suc n - 1
  below n = omega arith

-- a list of one member at least: the first, and then the others with a mark before each
pub drew_seen_list : (X Y : Type 0) (f : X → Y) (mark : List ℕ) (text : Y → List ℕ) (xs rest : List X) (m : X) (a b c : Drawing) → 1 ≤ length xs → m ≡ get_or xs 0 m → rest ≡ take (length xs - 1) (drop 1 xs) → Drew a b (text (f m)) → Drew b c (each_text (λ y. mark ⧺ text y) (map f rest)) → Drew a c (separated mark text (map f xs))
drew_seen_list X Y f mark text [] rest m a b c some is_m is_rest first others = absurd (not_below_zero some)
drew_seen_list X Y f mark text (x ∷ xs) rest m a b c some is_m is_rest first others =
    drew_then a b c (text (f x)) (each_text (λ y. mark ⧺ text y) (map f xs)) (subst (λ y. Drew a b (text (f y))) is_m first)
    (subst (λ ys. Drew b c (each_text (λ y. mark ⧺ text y) (map f ys))) (is_rest ∙ rest_is X x xs) others)

-- an empty list
pub drew_seen_none : (X Y : Type 0) (f : X → Y) (mark : List ℕ) (text : Y → List ℕ) (xs : List X) (a : Drawing) → length xs < 1 → Drew a a (separated mark text (map f xs))
drew_seen_none X Y f mark text [] a none = drew_none a
drew_seen_none X Y f mark text (x ∷ xs) a none = absurd (not_below_one (length xs) none)

pub drew_seen_members : (X Y : Type 0) (f : X → Y) (text : Y → List ℕ) (xs : List X) (a b : Drawing) → Drew a b (each_text text (map f (take (length xs) xs))) → Drew a b (each_text text (map f xs))
drew_seen_members X Y f text xs a b = subst (λ t. Drew a b t) (ap (λ ys. each_text text (map f ys)) (take-length xs))

-- behind a loop that has come to the list's end
pub drew_seen_all : (X Y : Type 0) (f : X → Y) (text : Y → List ℕ) (xs : List X) (i : ℕ) (a b : Drawing) → length xs ≤ i → Drew a b (each_text text (map f (take i xs))) → Drew a b (each_text text (map f xs))
drew_seen_all X Y f text xs i a b all = subst (λ ys. Drew a b (each_text text (map f ys))) (take_all i xs all)

-- one level more of indentation
indent_next : (i : ℕ) → codes "   " ⧺ indent i ≡ indent i ⧺ codes "   "
indent_next zero = joined (codes "   ") [] ∙ sym (joined_nil (codes "   "))
indent_next (suc i) = ap (λ t. codes "   " ⧺ t) (indent_next i) ∙ sym (joined_assoc (codes "   ") (indent i) (codes "   "))

pub drew_level : (i : ℕ) (a b c : Drawing) → Drew a b (indent i) → Drew b c (codes "   ") → Drew a c (indent (i + 1))
drew_level i a b c done turn =
    subst (λ n. Drew a c (indent n)) (sym (add-one i)) (subst (λ t. Drew a c t) (sym (indent_next i)) (drew_then a b c _ _ done turn))

pub ruleset listed = (drew_none, drew_then, drew_member, drew_members, drew_seen_member, drew_seen_members, drew_seen_none, drew_level)
