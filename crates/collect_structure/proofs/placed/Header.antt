-- The header of a sequence file is the content of a string literal, where it is of a name and of small numbers.
use Rattle.std.proofs.Common.{◌≡◌, ℕ, zero, suc, ◌+◌, ◌/◌, ◌%◌, ◌<◌, ◌≤◌, ◌==◌, nat_lt, ◌&&◌, ◌||◌, not, if◌then◌else◌, Bool, true, false, List, [], ◌∷◌, ◌++◌, codes, decimal, length, Option, Some, None, IsSomeAnd, slice_get, unwrap_or, refl, eqb-true, arith, length-append}
use Rattle.std.specs.Fmt.{digits, digits_onto, digit_glyph}
use Rattle.std.specs.List.{AllByRecursion}
use Rattle.std.proofs.lemmas.Bool.Decides.{nat_tests}
use Rattle.std.proofs.lemmas.Fmt.{length-decimal-le}
use Rattle.std.proofs.lemmas.List.Elements.{All-from_recursion}
use Rattle.common_lemmas.proofs.Lists.{all_joined}
use Rattle.ada_tree.specs.declared.naming.NameId.{NameId}
use Rattle.ada_tree.specs.Lexical.{is_upper_letter, is_digit, goes_on, is_word, IsIdentifier, IsStringContent}
use Rattle.syn_event.specs.DeclaredTasks.{text_of}
use Rattle.normal_laws.specs.structure.placed.Placeable.{IsName}

abbrev pub IsPrintable : ℕ → Type 0
IsPrintable b = (32 ≤ b) × (b ≤ 126)

-- ---- digits

glyph : (d : ℕ) → d < 10 → IsPrintable (digit_glyph false d)
glyph d l = by_test (nat_lt d 10) (omega (arith, l))
  where
    by_test : (b : Bool) → d ≤ 20 → IsPrintable (if b then 48 + d else 87 + d)
    by_test true le = (omega arith, omega (arith, le))
    by_test false le = (omega arith, omega (arith, le))

onto-printable : (k n : ℕ) (acc : List ℕ) → AllByRecursion IsPrintable acc → AllByRecursion IsPrintable (digits_onto k 10 false n acc)
onto-printable zero n acc h = h
onto-printable (suc k) n acc h = by_test (n / 10 == 0) (onto-printable k (n / 10) (digit_glyph false (n % 10) ∷ acc) (glyph (n % 10) (omega arith), h))
  where
    by_test : (b : Bool) → AllByRecursion IsPrintable (digits_onto k 10 false (n / 10) (digit_glyph false (n % 10) ∷ acc)) →
        AllByRecursion IsPrintable (if b then digit_glyph false (n % 10) ∷ acc else digits_onto k 10 false (n / 10) (digit_glyph false (n % 10) ∷ acc))
    by_test true g = (glyph (n % 10) (omega arith), h)
    by_test false g = g

decimal-printable : (n : ℕ) → AllByRecursion IsPrintable (decimal n)
unfolding digits
decimal-printable n = onto-printable 64 n [] tt

decimal-short : (n : ℕ) → n ≤ 2147483647 → length (decimal n) ≤ 10
decimal-short n l = length-decimal-le 10 n (omega arith) (omega (arith, l)) (omega (arith, l))

-- ---- names

word-printable : (under : Bool) (bs : List ℕ) → goes_on under bs ≡ true → AllByRecursion IsPrintable bs
word-printable under [] h = tt
word-printable under (b ∷ bs) h = by_test (b == 95) refl h (word-printable true bs) (word-printable false bs)
  where
    one : (a c : Bool) → (a && c) ≡ true → c ≡ true
    one true c e = e
    one false c e = cc

    front : (a c : Bool) → (a && c) ≡ true → a ≡ true
    front true c e = refl
    front false c e = cc

    letter : (is_upper_letter b || is_digit b) ≡ true → IsPrintable b
    letter e = let low : 32 ≤ b = grind (arith, nat_tests) in let high : b ≤ 126 = grind (arith, nat_tests) in (low, high)

    under-score : (b == 95) ≡ true → IsPrintable b
    under-score e = let same : b ≡ 95 = eqb-true b 95 e in (omega (arith, same), omega (arith, same))

    by_test : (t : Bool) → (b == 95) ≡ t → (if t then not under && goes_on true bs else (is_upper_letter b || is_digit b) && goes_on false bs) ≡ true →
        (goes_on true bs ≡ true → AllByRecursion IsPrintable bs) → (goes_on false bs ≡ true → AllByRecursion IsPrintable bs) → AllByRecursion IsPrintable (b ∷ bs)
    by_test true e f p q = (under-score e, p (one (not under) (goes_on true bs) f))
    by_test false e f p q = (letter (front (is_upper_letter b || is_digit b) (goes_on false bs) f), q (one (is_upper_letter b || is_digit b) (goes_on false bs) f))

name-printable : (t : List ℕ) → is_word t ≡ true → AllByRecursion IsPrintable t
name-printable [] h = tt
name-printable (b ∷ bs) h = (first (is_upper_letter b) refl h, word-printable false bs (behind (is_upper_letter b) h))
  where
    first : (a : Bool) → is_upper_letter b ≡ a → (a && goes_on false bs) ≡ true → IsPrintable b
    first true e f = let low : 32 ≤ b = grind (arith, nat_tests) in let high : b ≤ 126 = grind (arith, nat_tests) in (low, high)
    first false e f = cc

    behind : (a : Bool) → (a && goes_on false bs) ≡ true → goes_on false bs ≡ true
    behind true f = f
    behind false f = cc

-- the text of a name is one of at most 150 printable characters
pub name-content : (names : List (List ℕ)) (id : NameId) → IsName names id → AllByRecursion IsPrintable (text_of names id) × (length (text_of names id) ≤ 150)
name-content names id h = go (slice_get names id.0) h
  where
    go : (o : Option (List ℕ)) → IsSomeAnd o IsIdentifier → AllByRecursion IsPrintable (unwrap_or o []) × (length (unwrap_or o []) ≤ 150)
    go None i = absurd i
    go (Some t) i = (name-printable t i.0, i.1)

-- ---- the header

-- `ded-seq 1 ` a name, a blank, a number, a blank and a number
pub header-content : (t : List ℕ) (a b : ℕ) → AllByRecursion IsPrintable t → length t ≤ 150 → a ≤ 2147483647 → b ≤ 2147483647 → IsStringContent (codes "ded-seq 1 " ++ t ++ codes " " ++ decimal a ++ codes " " ++ decimal b)
header-content t a b h short first second =
    let front : List ℕ = codes "ded-seq 1 " ++ t in
    let mid : List ℕ = front ++ codes " " ++ decimal a in
    let blank : AllByRecursion IsPrintable (codes " ") = ((omega arith, omega arith), tt) in
    let start : AllByRecursion IsPrintable (codes "ded-seq 1 ") = ((omega arith, omega arith), ((omega arith, omega arith), ((omega arith, omega arith), ((omega arith, omega arith), ((omega arith, omega arith), ((omega arith, omega arith), ((omega arith, omega arith), ((omega arith, omega arith), ((omega arith, omega arith), ((omega arith, omega arith), tt)))))))))) in (
      All-from_recursion IsPrintable (mid ++ codes " " ++ decimal b)
          (all_joined IsPrintable (mid ++ codes " ") (decimal b)
          (all_joined IsPrintable mid (codes " ")
          (all_joined IsPrintable (front ++ codes " ") (decimal a) (all_joined IsPrintable front (codes " ") (all_joined IsPrintable (codes "ded-seq 1 ") t start h) blank) (decimal-printable a)) blank)
          (decimal-printable b)),
      few,
    )
  where
    few : length (codes "ded-seq 1 " ++ t ++ codes " " ++ decimal a ++ codes " " ++ decimal b) ≤ 200
    few = rw (length-append, length-append, length-append, length-append, length-append) (omega (arith, short, decimal-short a first, decimal-short b second))
