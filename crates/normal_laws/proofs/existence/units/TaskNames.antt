-- The names that tasks get in the normal form tell the tasks: the text of a member's name is that of its array, a mark, and its index, in which no
-- underscore stands.
use Rattle.std.proofs.Common.{◌≡◌, ℕ, zero, suc, ◌+◌, ◌/◌, ◌%◌, ◌<◌, ◌≤◌, ◌^◌, ℤ, pos, negsuc, Bool, true, false, ◌||◌, ◌==◌, nat_eq, if◌then◌else◌, List, [], ◌∷◌, ◌++◌, length, codes, decimal, Option, Some, None, refl, sym, ap, subst, ◌∙◌, true≢false, append_assoc, length-append, arith}
use Rattle.std.specs.Fmt.{digits, digits_onto, digit_glyph}
use Rattle.std.specs.List.{AllByRecursion, starts_with}
use Rattle.std.specs.Str.{bytes_eq}
use Rattle.std.proofs.lemmas.Bool.{ne_eqb, lt-ltb, or_left, or_right}
use Rattle.std.proofs.lemmas.Fmt.{decimal_injective}
use Rattle.syn_event.specs.RuleReservedName.{has_mark, is_reserved}
use Rattle.normal_model.specs.Names.{index_text, name_of_member}
use Rattle.common_lemmas.proofs.Lists.{rest_same, first_same}

-- ---- digits

-- a byte stands nowhere in the text
abbrev Lacks : ℕ → List ℕ → Type 0
Lacks c t = AllByRecursion (λ b. (b == c) ≡ false) t

-- no underscore stands in the text
abbrev NoLine : List ℕ → Type 0
NoLine t = Lacks 95 t

module _ (c : ℕ) (above : 58 ≤ c) where
  digit-plain : (d : ℕ) → d < 10 → (digit_glyph false d == c) ≡ false
  digit-plain d l = ap (λ (b : Bool). (if b then 48 + d else 87 + d) == c) (lt-ltb d 10 l) ∙ ne_eqb (48 + d) c (λ e. omega (arith, l, e, above))

  onto-plain : (k n : ℕ) (acc : List ℕ) → Lacks c acc → Lacks c (digits_onto k 10 false n acc)
  onto-plain zero n acc h = h
  onto-plain (suc k) n acc h = by_test (n / 10 == 0) (onto-plain k (n / 10) (digit_glyph false (n % 10) ∷ acc) (digit-plain (n % 10) (omega arith), h))
    where
      by_test : (b : Bool) → Lacks c (digits_onto k 10 false (n / 10) (digit_glyph false (n % 10) ∷ acc)) →
          Lacks c (if b then digit_glyph false (n % 10) ∷ acc else digits_onto k 10 false (n / 10) (digit_glyph false (n % 10) ∷ acc))
      by_test true g = (digit-plain (n % 10) (omega arith), h)
      by_test false g = g

  -- only digits stand in a decimal
  decimal-plain : (n : ℕ) → Lacks c (decimal n)
  unfolding digits
  decimal-plain n = onto-plain 64 n [] tt

index-plain : (i : ℤ) → NoLine (index_text i)
index-plain (pos n) = decimal-plain 95 (omega arith) n
index-plain (negsuc n) = (refl, decimal-plain 95 (omega arith) (suc n))

-- ---- the last underscore

line-there : (xs j : List ℕ) → NoLine (xs ++ 95 ∷ j) → ⊥
line-there [] j h = true≢false h.0
line-there (x ∷ xs) j h = line-there xs j h.1

last-line : (xs ys i j : List ℕ) → NoLine i → NoLine j → xs ++ 95 ∷ i ≡ ys ++ 95 ∷ j → (xs ≡ ys) × (i ≡ j)
last-line [] [] i j h k e = (refl, rest_same e)
last-line [] (y ∷ ys) i j h k e = absurd (line-there ys j (subst NoLine (rest_same e) h))
last-line (x ∷ xs) [] i j h k e = absurd (line-there xs i (subst NoLine (sym (rest_same e)) k))
last-line (x ∷ xs) (y ∷ ys) i j h k e = let r = last-line xs ys i j h k (rest_same e) in (ap (λ (z : ℕ). z ∷ xs) (first_same e) ∙ ap (λ (zs : List ℕ). y ∷ zs) r.0, r.1)

-- what stands in front of the same is the same
front-same : (xs ys zs : List ℕ) → xs ++ zs ≡ ys ++ zs → xs ≡ ys
front-same [] [] zs e = refl
front-same [] (y ∷ ys) zs e = absurd (omega (arith, ap (λ (l : List ℕ). length l) e, length-append (y ∷ ys) zs))
front-same (x ∷ xs) [] zs e = absurd (omega (arith, ap (λ (l : List ℕ). length l) e, length-append (x ∷ xs) zs))
front-same (x ∷ xs) (y ∷ ys) zs e = ap (λ (z : ℕ). z ∷ xs) (first_same e) ∙ ap (λ (l : List ℕ). y ∷ l) (front-same xs ys zs (rest_same e))

-- the mark but its last underscore
abbrev mark : List ℕ
mark = 95 ∷ 68 ∷ 69 ∷ 68 ∷ []

member-joined : (a : List ℕ) (i : ℤ) → name_of_member a i ≡ (a ++ mark) ++ 95 ∷ index_text i
member-joined a i = append_assoc a (codes "_DED_") (index_text i) ∙ sym (append_assoc a mark (95 ∷ index_text i))

-- members' names are the same only where arrays and indices are
pub members-same : (a b : List ℕ) (i j : ℤ) → name_of_member a i ≡ name_of_member b j → (a ≡ b) × (index_text i ≡ index_text j)
members-same a b i j e =
    let r = last-line (a ++ mark) (b ++ mark) (index_text i) (index_text j) (index-plain i) (index-plain j) (sym (member-joined a i) ∙ e ∙ member-joined b j) in
    (front-same a b mark r.0, r.1)

-- a member's name has the mark in it
pub mark-there : (a rest : List ℕ) → has_mark (a ++ (codes "_DED_" ++ rest)) ≡ true
mark-there [] rest = refl
mark-there (x ∷ a) rest = or_right (starts_with nat_eq (x ∷ (a ++ (codes "_DED_" ++ rest))) (codes "_DED_")) (has_mark (a ++ (codes "_DED_" ++ rest))) (mark-there a rest)

pub member-reserved : (a : List ℕ) (i : ℤ) → is_reserved (name_of_member a i) ≡ true
member-reserved a i =
    or_right (starts_with nat_eq (name_of_member a i) (codes "DED_")) (has_mark (name_of_member a i) || bytes_eq (name_of_member a i) (codes "DED"))
    (or_left (has_mark (name_of_member a i)) (bytes_eq (name_of_member a i) (codes "DED")) (ap has_mark (append_assoc a (codes "_DED_") (index_text i)) ∙ mark-there a (index_text i)))

-- ---- indices

-- an index that has few digits
abbrev pub IsShort : Option ℤ → Type 0
IsShort None = Unit {0}
IsShort (Some (pos n)) = n < 2 ^ 64
IsShort (Some (negsuc n)) = suc n < 2 ^ 64

-- both have no index, or the indices have one text
abbrev pub SameIndex : Option ℤ → Option ℤ → Type 0
SameIndex None None = Unit {0}
SameIndex (Some i) (Some j) = index_text i ≡ index_text j
SameIndex i j = ⊥

no-letter : (m n : ℕ) → decimal m ≡ 77 ∷ decimal n → ⊥
no-letter m n e = let h : Lacks 77 (77 ∷ decimal n) = subst (Lacks 77) e (decimal-plain 77 (omega arith) m) in true≢false h.0

-- short indices with one text are one
pub index-same : (i j : Option ℤ) → IsShort i → IsShort j → SameIndex i j → i ≡ j
index-same None None k l e = refl
index-same None (Some j) k l e = absurd e
index-same (Some i) None k l e = absurd e
index-same (Some (pos m)) (Some (pos n)) k l e = ap (λ (x : ℕ). Some (pos x)) (decimal_injective m n k l e)
index-same (Some (pos m)) (Some (negsuc n)) k l e = absurd (no-letter m (suc n) e)
index-same (Some (negsuc m)) (Some (pos n)) k l e = absurd (no-letter n (suc m) (sym e))
index-same (Some (negsuc m)) (Some (negsuc n)) k l e = let q : suc m ≡ suc n = decimal_injective (suc m) (suc n) k l (rest_same e) in ap (λ (x : ℕ). Some (negsuc x)) (omega (arith, q))
