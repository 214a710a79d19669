-- The bytes of an identifier are ASCII.
use Rattle.std.proofs.Common.{◌≡◌, ℕ, zero, suc, ◌<◌, Bool, true, false, ◌&&◌, not, cond, List, [], ◌∷◌, length, get_or, Option, Some, None, option_map, refl, ap, inl, inr, arith, nat_lt, ◌==◌, position}
use Rattle.std.specs.Str.{IsAscii}
use Rattle.std.proofs.lemmas.Bool.{and_parts, or_cases}
use Rattle.std.proofs.lemmas.Bool.Decides.{nat_tests}
use Rattle.ada_lexer.specs.declared.kinds.TokenKind.{TokenKind}
use Rattle.ada_lexer.specs.declared.kinds.TokenKind.TheVariants.{Name, Integer, Duration}
use Rattle.ada_lexer.specs.declared.kinds.TokenKind.TheVariants as kinds
use Rattle.ada_lexer.specs.declared.symbols.Symbol.{Symbol}
use Rattle.ada_lexer.specs.declared.verdicts.Verdict.{Verdict}
use Rattle.ada_lexer.specs.declared.verdicts.Verdict.TheVariants.{Gap, Kind, Fault}
use Rattle.ada_lexer.specs.declared.errors.LexError.TheVariants.{BadByte, OpenString, BadNumber, TooLong}
use Rattle.ada_lexer.specs.Bytes.{is_letter, is_digit, is_letter_or_digit, is_white, is_printable}
use Rattle.common_lemmas.specs.Following.{begins, every}
use Rattle.ada_lexer.specs.Words.{delimiter_symbol}
use Rattle.ada_lexer.specs.Numbers.{number_kind, kind_by_point, integer_value, duration_value, is_point}
use Rattle.ada_lexer.specs.Pieces.{opens_comment, is_piece, word_goes_on}
use Rattle.ada_lexer.specs.Strings.{ends_inside, content}
use Rattle.ada_lexer.specs.Verdicts.{max_content, IsToken, verdict, token_or, word_verdict, number_verdict, string_verdict, mark_verdict, text_or_bad_byte}

-- a token that is found is that of the option
found : (v : Verdict) (k : Option TokenKind) → (v ≡ Kind Name → ⊥) → (k ≡ Some Name → ⊥) → token_or v k ≡ Kind Name → ⊥
found v (Some k) other none e = none (let f : k ≡ Name = cc in ap Some f)
found v None other none e = other e

mapped : (f : ℕ → TokenKind) → ((n : ℕ) → f n ≡ Name → ⊥) → (o : Option ℕ) → option_map f o ≡ Some Name → ⊥
mapped f not_name (Some n) e = not_name n (let g : f n ≡ Name = cc in g)
mapped f not_name None e = cc

by_point : (text : List ℕ) (o : Option ℕ) → kind_by_point text o ≡ Some Name → ⊥
by_point text None e = mapped Integer (λ n h. cc) (integer_value text) e
by_point text (Some p) e = mapped Duration (λ n h. cc) (duration_value p text) e

number_is_no_name : (text : List ℕ) → number_verdict 0 text ≡ Kind Name → ⊥
unfolding number_verdict number_kind
number_is_no_name text e = found (Fault (BadNumber 0)) (number_kind text) (λ h. cc) (by_point text (position is_point text)) e

bad_byte : (o : Option ℕ) → text_or_bad_byte 1 o ≡ Kind Name → ⊥
bad_byte (Some n) e = cc
bad_byte None e = cc

choose : (b : Bool) (x y : Verdict) → (x ≡ Kind Name → ⊥) → (y ≡ Kind Name → ⊥) → cond b x y ≡ Kind Name → ⊥
choose true x y p q e = p e
choose false x y p q e = q e

string_is_no_name : (rest : List ℕ) → string_verdict 0 rest ≡ Kind Name → ⊥
unfolding string_verdict
string_is_no_name rest e =
    choose (ends_inside true rest) (Fault (OpenString 0)) _ (λ h. cc)
    (choose (nat_lt max_content (length (content true rest))) (Fault (TooLong 0)) (text_or_bad_byte 1 (position (λ b. not (is_printable b)) rest)) (λ h. cc)
    (bad_byte (position (λ b. not (is_printable b)) rest))) e

symbol_is_no_name : (o : Option Symbol) → option_map kinds.Symbol o ≡ Some Name → ⊥
symbol_is_no_name None e = cc
symbol_is_no_name (Some s) e = cc

mark_is_no_name : (text : List ℕ) → mark_verdict 0 text ≡ Kind Name → ⊥
unfolding mark_verdict
mark_is_no_name text e =
    choose (opens_comment text) Gap (token_or (Fault (BadByte 0)) (option_map kinds.Symbol (delimiter_symbol text))) (λ h. cc) (found (Fault (BadByte 0)) (option_map kinds.Symbol (delimiter_symbol text)) (λ h. cc) (symbol_is_no_name (delimiter_symbol text))) e

-- of the classes of a first byte, a name has a letter
first_of_name :
    (w l d q : Bool) (x y z u : Verdict) → (y ≡ Kind Name → ⊥) → (z ≡ Kind Name → ⊥) → (u ≡ Kind Name → ⊥) →
    cond w Gap (cond l x (cond d y (cond q z u))) ≡ Kind Name → (w ≡ false) × (l ≡ true)
first_of_name true l d q x y z u no_y no_z no_u e = cc
first_of_name false true d q x y z u no_y no_z no_u e = (refl, refl)
first_of_name false false true q x y z u no_y no_z no_u e = absurd (no_y e)
first_of_name false false false true x y z u no_y no_z no_u e = absurd (no_z e)
first_of_name false false false false x y z u no_y no_z no_u e = absurd (no_u e)

begins_with_letter : (b : ℕ) (rest : List ℕ) → verdict 0 (b ∷ rest) ≡ Kind Name → (is_white b ≡ false) × (is_letter b ≡ true)
unfolding verdict
begins_with_letter b rest e =
    first_of_name (is_white b) (is_letter b) (is_digit b) (b == 34) (word_verdict 0 (b ∷ rest)) (number_verdict 0 (b ∷ rest)) (string_verdict 0 rest) (mark_verdict 0 (b ∷ rest))
    (number_is_no_name (b ∷ rest)) (string_is_no_name rest) (mark_is_no_name (b ∷ rest)) e

word_piece : (w l : Bool) (p q r : Bool) → w ≡ false → l ≡ true → cond w p (cond l q r) ≡ true → q ≡ true
word_piece true l p q r e f h = cc
word_piece false true p q r e f h = h
word_piece false false p q r e f h = cc

goes_on_as_word : (b : ℕ) (rest : List ℕ) → is_white b ≡ false → is_letter b ≡ true → is_piece (b ∷ rest) ≡ true → every word_goes_on rest ≡ true
unfolding is_piece
goes_on_as_word b rest white letter piece = word_piece (is_white b) (is_letter b) _ (every word_goes_on rest) _ white letter piece

letter_is_small : (b : ℕ) → is_letter b ≡ true → b < 128
letter_is_small b h = grind (arith, nat_tests)

goes_on_is_small : (b : ℕ) (rest : List ℕ) → word_goes_on b rest ≡ true → b < 128
goes_on_is_small b rest h = elim (or_cases (is_letter_or_digit b) ((b == 95) && begins is_letter_or_digit rest) h) [
  | inl e ↦ elim (or_cases (is_letter b) (is_digit b) e) [ inl l ↦ letter_is_small b l | inr d ↦ digit_is_small b d ]
  | inr e ↦ underscore_is_small b (and_parts (b == 95) (begins is_letter_or_digit rest) e).0
]
  where
    digit_is_small : (b : ℕ) → is_digit b ≡ true → b < 128
    digit_is_small b d = grind (arith, nat_tests)

    underscore_is_small : (b : ℕ) → (b == 95) ≡ true → b < 128
    underscore_is_small b d = grind (arith, nat_tests)

all_small : (text : List ℕ) → every word_goes_on text ≡ true → (i : ℕ) → get_or text i 0 < 128
all_small [] h i = omega arith
all_small (b ∷ text) h zero = goes_on_is_small b text (and_parts (word_goes_on b text) (every word_goes_on text) h).0
all_small (b ∷ text) h (suc i) = all_small text (and_parts (word_goes_on b text) (every word_goes_on text) h).1 i

behind_letter : (b : ℕ) (rest : List ℕ) → is_letter b ≡ true → every word_goes_on rest ≡ true → (i : ℕ) → get_or (b ∷ rest) i 0 < 128
behind_letter b rest letter goes zero = letter_is_small b letter
behind_letter b rest letter goes (suc i) = all_small rest goes i

-- the text of a name is ASCII (2.3)
pub name_is_ascii : (text : List ℕ) → IsToken text Name → IsAscii text
name_is_ascii [] is = λ i. omega arith
name_is_ascii (b ∷ rest) is =
    let first = begins_with_letter b rest is.1 in
    behind_letter b rest first.1 (goes_on_as_word b rest first.0 first.1 is.0)
