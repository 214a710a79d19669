-- The texts of the names that the normal form adds are identifiers.
use Rattle.std.proofs.Common.{◌≡◌, ℕ, zero, suc, ◌+◌, ◌/◌, ◌%◌, ◌<◌, ◌≤◌, ◌^◌, ℤ, pos, negsuc, Bool, true, false, not, ◌&&◌, ◌||◌, ◌==◌, nat_le, if◌then◌else◌, List, [], ◌∷◌, ◌++◌, length, codes, decimal, refl, sym, ap, ◌∙◌, true≢false, append_assoc, length-append, arith}
use Rattle.std.specs.Fmt.{digits, digits_onto, digit_glyph}
use Rattle.std.specs.List.{AllByRecursion, list_any}
use Rattle.std.specs.Str.{bytes_eq}
use Rattle.std.proofs.lemmas.Bool.{le-leb, lt-ltb, or_right}
use Rattle.std.proofs.lemmas.Fmt.{length-decimal-le}
use Rattle.std.proofs.lemmas.Bool.Decides.{nat_tests}
use Rattle.std.proofs.lemmas.Slice.Eq.{bytes_eq-Decides}
use Rattle.ada_tree.specs.Lexical.{reserved, is_upper_letter, is_digit, goes_on, is_word, IsIdentifier}
use Rattle.normal_laws.specs.structure.placed.Placeable.{IsShortIndex}
use Rattle.normal_model.specs.Names.{index_text, name_of_member, variable_text}
use Rattle.common_lemmas.proofs.Truth.{and_left, and_right, or_both}

-- ---- digits

-- digits alone stand in the text
abbrev pub AllDigits : List ℕ → Type 0
AllDigits t = AllByRecursion (λ b. is_digit b ≡ true) t

abbrev IsFilled : List ℕ → Type 0
IsFilled [] = ⊥
IsFilled (b ∷ bs) = Unit {0}

pub digit-glyph : (d : ℕ) → d < 10 → is_digit (digit_glyph false d) ≡ true
digit-glyph d l =
    ap (λ (b : Bool). is_digit (if b then 48 + d else 87 + d)) (lt-ltb d 10 l)
    ∙ ap (λ b. b && nat_le (48 + d) 57) (le-leb 48 (48 + d) (omega arith))
    ∙ le-leb (48 + d) 57 (omega (arith, l))

onto-digits : (k n : ℕ) (acc : List ℕ) → AllDigits acc → AllDigits (digits_onto k 10 false n acc)
onto-digits zero n acc h = h
onto-digits (suc k) n acc h = by_test (n / 10 == 0) (onto-digits k (n / 10) (digit_glyph false (n % 10) ∷ acc) (digit-glyph (n % 10) (omega arith), h))
  where
    by_test : (b : Bool) → AllDigits (digits_onto k 10 false (n / 10) (digit_glyph false (n % 10) ∷ acc)) →
        AllDigits (if b then digit_glyph false (n % 10) ∷ acc else digits_onto k 10 false (n / 10) (digit_glyph false (n % 10) ∷ acc))
    by_test true g = (digit-glyph (n % 10) (omega arith), h)
    by_test false g = g

onto-filled : (k n : ℕ) (acc : List ℕ) → IsFilled acc → IsFilled (digits_onto k 10 false n acc)
onto-filled zero n acc h = h
onto-filled (suc k) n acc h = by_test (n / 10 == 0) (onto-filled k (n / 10) (digit_glyph false (n % 10) ∷ acc) tt)
  where
    by_test : (b : Bool) → IsFilled (digits_onto k 10 false (n / 10) (digit_glyph false (n % 10) ∷ acc)) →
        IsFilled (if b then digit_glyph false (n % 10) ∷ acc else digits_onto k 10 false (n / 10) (digit_glyph false (n % 10) ∷ acc))
    by_test true g = tt
    by_test false g = g

one-filled : (k n : ℕ) → IsFilled (digits_onto (suc k) 10 false n [])
one-filled k n = by_test (n / 10 == 0) (onto-filled k (n / 10) (digit_glyph false (n % 10) ∷ []) tt)
  where
    by_test : (b : Bool) → IsFilled (digits_onto k 10 false (n / 10) (digit_glyph false (n % 10) ∷ [])) →
        IsFilled (if b then digit_glyph false (n % 10) ∷ [] else digits_onto k 10 false (n / 10) (digit_glyph false (n % 10) ∷ []))
    by_test true g = tt
    by_test false g = g

decimal-digits : (n : ℕ) → AllDigits (decimal n)
unfolding digits
decimal-digits n = onto-digits 64 n [] tt

decimal-filled : (n : ℕ) → IsFilled (decimal n)
unfolding digits
decimal-filled n = one-filled 63 n

decimal-short : (n : ℕ) → n < 2 ^ 64 → length (decimal n) ≤ 20
decimal-short n l = length-decimal-le 20 n (omega arith) (omega (arith, l)) l

-- ---- words

-- a digit is no underscore
pub digit-plain : (b : ℕ) → is_digit b ≡ true → (b == 95) ≡ false
digit-plain b h = by_test (b == 95) refl
  where
    by_test : (t : Bool) → (b == 95) ≡ t → t ≡ false
    by_test false e = refl
    by_test true e = grind (arith, nat_tests)

pub digits-go : (ds : List ℕ) → AllDigits ds → goes_on false ds ≡ true
digits-go [] h = refl
digits-go (d ∷ ds) h =
    ap (λ t. if t then not false && goes_on true ds else (is_upper_letter d || is_digit d) && goes_on false ds) (digit-plain d h.0)
    ∙ ap (λ t. t && goes_on false ds) (or_right (is_upper_letter d) (is_digit d) h.0)
    ∙ digits-go ds h.1

-- after an underscore a digit comes first
digits-follow : (ds : List ℕ) → IsFilled ds → AllDigits ds → goes_on true ds ≡ true
digits-follow [] f h = absurd f
digits-follow (d ∷ ds) f h =
    ap (λ t. if t then not true && goes_on true ds else (is_upper_letter d || is_digit d) && goes_on false ds) (digit-plain d h.0)
    ∙ ap (λ t. t && goes_on false ds) (or_right (is_upper_letter d) (is_digit d) h.0)
    ∙ digits-go ds h.1

index-follows : (i : ℤ) → goes_on true (index_text i) ≡ true
index-follows (pos n) = digits-follow (decimal n) (decimal-filled n) (decimal-digits n)
index-follows (negsuc n) = digits-go (decimal (suc n)) (decimal-digits (suc n))

-- what goes on stays so where more is put behind it
goes-append : (under : Bool) (bs rest : List ℕ) → goes_on under bs ≡ true → goes_on false rest ≡ true → goes_on under (bs ++ rest) ≡ true
goes-append true [] rest h g = absurd (true≢false (sym h))
goes-append false [] rest h g = g
goes-append under (b ∷ bs) rest h g = by_test (b == 95) h (λ v e. goes-append v bs rest e g)
  where
    by_test : (t : Bool) → (if t then not under && goes_on true bs else (is_upper_letter b || is_digit b) && goes_on false bs) ≡ true →
        ((v : Bool) → goes_on v bs ≡ true → goes_on v (bs ++ rest) ≡ true) →
        (if t then not under && goes_on true (bs ++ rest) else (is_upper_letter b || is_digit b) && goes_on false (bs ++ rest)) ≡ true
    by_test true e more = ap (λ c. c && goes_on true (bs ++ rest)) (and_left (not under) (goes_on true bs) e) ∙ more true (and_right (not under) (goes_on true bs) e)
    by_test false e more =
        ap (λ c. c && goes_on false (bs ++ rest)) (and_left (is_upper_letter b || is_digit b) (goes_on false bs) e)
        ∙ more false (and_right (is_upper_letter b || is_digit b) (goes_on false bs) e)

word-append : (t rest : List ℕ) → is_word t ≡ true → goes_on false rest ≡ true → is_word (t ++ rest) ≡ true
word-append [] rest h g = absurd (true≢false (sym h))
word-append (b ∷ bs) rest h g =
    ap (λ c. c && goes_on false (bs ++ rest)) (and_left (is_upper_letter b) (goes_on false bs) h) ∙ goes-append false bs rest (and_right (is_upper_letter b) (goes_on false bs) h) g

-- ---- no reserved word

has-line : (t rest : List ℕ) → list_any (λ b. b == 95) (t ++ 95 ∷ rest) ≡ true
has-line [] rest = refl
has-line (b ∷ bs) rest = or_right (b == 95) (list_any (λ c. c == 95) (bs ++ 95 ∷ rest)) (has-line bs rest)

-- a text with an underscore is none of words without one
no-word : (t : List ℕ) (ws : List (List ℕ)) → list_any (λ b. b == 95) t ≡ true → list_any (λ w. list_any (λ b. b == 95) w) ws ≡ false → list_any (bytes_eq t) ws ≡ false
no-word t [] h g = refl
no-word t (w ∷ ws) h g = by_test (bytes_eq t w) refl (no-word t ws h (or_both (list_any (λ b. b == 95) w) (list_any (λ v. list_any (λ b. b == 95) v) ws) g).1)
  where
    parts : (list_any (λ b. b == 95) w ≡ false) × (list_any (λ v. list_any (λ b. b == 95) v) ws ≡ false)
    parts = or_both (list_any (λ b. b == 95) w) (list_any (λ v. list_any (λ b. b == 95) v) ws) g

    by_test : (c : Bool) → bytes_eq t w ≡ c → list_any (bytes_eq t) ws ≡ false → (c || list_any (bytes_eq t) ws) ≡ false
    by_test true e rest = absurd (true≢false (sym h ∙ ap (list_any (λ b. b == 95)) ((bytes_eq-Decides t w).0 e) ∙ parts.0))
    by_test false e rest = rest

identifier : (t : List ℕ) → is_word t ≡ true → length t ≤ 150 → list_any (λ b. b == 95) t ≡ true → IsIdentifier t
identifier t w l h = (w, l, ap not (no-word t reserved h refl))

-- ---- the added names

pub variable-identifier : (k : ℕ) → k + 1 < 2 ^ 64 → IsIdentifier (variable_text k)
variable-identifier k l =
    let e : goes_on false (decimal (k + 1)) ≡ true = digits-go (decimal (k + 1)) (decimal-digits (k + 1)) in
    let s : length (decimal (k + 1)) ≤ 20 = decimal-short (k + 1) l in
    let m : length (variable_text k) ≤ 150 = rw length-append (omega (arith, s)) in
    identifier (variable_text k) e m (has-line (codes "DED") (86 ∷ decimal (k + 1)))

index-short : (i : ℤ) → IsShortIndex i → length (index_text i) ≤ 21
index-short (pos n) l = let s : length (decimal n) ≤ 20 = decimal-short n l in omega (arith, s)
index-short (negsuc n) l = let s : length (decimal (suc n)) ≤ 20 = decimal-short (suc n) l in omega (arith, s)

pub member-identifier : (t : List ℕ) (i : ℤ) → is_word t ≡ true → length t ≤ 120 → IsShortIndex i → IsIdentifier (name_of_member t i)
member-identifier t i w l short =
    let e : goes_on false (codes "_DED_" ++ index_text i) ≡ true = index-follows i in
    let s : length (index_text i) ≤ 21 = index-short i short in
    let q : (t ++ codes "_DED_") ++ index_text i ≡ t ++ (codes "_DED_" ++ index_text i) = append_assoc t (codes "_DED_") (index_text i) in
    let m : length (name_of_member t i) ≤ 150 = rw (length-append, length-append) (omega (arith, s, l)) in
    identifier (name_of_member t i) (ap is_word q ∙ word-append t (codes "_DED_" ++ index_text i) w e) m
    (ap (list_any (λ b. b == 95)) q ∙ has-line t (68 ∷ 69 ∷ 68 ∷ 95 ∷ index_text i))
