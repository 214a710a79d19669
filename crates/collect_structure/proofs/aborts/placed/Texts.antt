-- The names of the variables of a place are identifiers.
use Rattle.std.proofs.Common.{ℕ, zero, suc, ◌+◌, ◌/◌, ◌%◌, ◌≤◌, Bool, true, false, ◌==◌, if◌then◌else◌, List, [], ◌∷◌, length, decimal, refl, arith}
use Rattle.std.specs.Fmt.{digits, digits_onto, digit_glyph}
use Rattle.ada_tree.specs.Lexical.{IsIdentifier}
use Rattle.collect_model.specs.aborts.Names.{taken_text, refused_text}
use Rattle.normal_laws.proofs.structure.placed.Texts.{digit-glyph, AllDigits, digits-go}

-- as many digits at most
onto-digits : (k n : ℕ) (acc : List ℕ) → AllDigits acc → AllDigits (digits_onto k 10 false n acc) × (length (digits_onto k 10 false n acc) ≤ k + length acc)
onto-digits zero n acc h = (h, omega arith)
onto-digits (suc k) n acc h = by_test (n / 10 == 0) (onto-digits k (n / 10) (digit_glyph false (n % 10) ∷ acc) (digit-glyph (n % 10) (omega arith), h))
  where
    by_test : (b : Bool) →
        AllDigits (digits_onto k 10 false (n / 10) (digit_glyph false (n % 10) ∷ acc)) ×
        (length (digits_onto k 10 false (n / 10) (digit_glyph false (n % 10) ∷ acc)) ≤ k + length (digit_glyph false (n % 10) ∷ acc)) →
        AllDigits (if b then digit_glyph false (n % 10) ∷ acc else digits_onto k 10 false (n / 10) (digit_glyph false (n % 10) ∷ acc))
        × (length (if b then digit_glyph false (n % 10) ∷ acc else digits_onto k 10 false (n / 10) (digit_glyph false (n % 10) ∷ acc)) ≤ suc k + length acc)
    by_test true g = ((digit-glyph (n % 10) (omega arith), h), omega arith)
    by_test false g = let few = g.1 in (g.0, omega (arith, few))

pub decimal-digits : (n : ℕ) → AllDigits (decimal n) × (length (decimal n) ≤ 64)
unfolding digits
decimal-digits n = onto-digits 64 n [] tt

pub taken-identifier : (n : ℕ) → IsIdentifier (taken_text n)
taken-identifier n = let d = decimal-digits n in let few = d.1 in (digits-go (decimal n) d.0, omega (arith, few), refl)

pub refused-identifier : (n : ℕ) → IsIdentifier (refused_text n)
refused-identifier n = let d = decimal-digits n in let few = d.1 in (digits-go (decimal n) d.0, omega (arith, few), refl)
