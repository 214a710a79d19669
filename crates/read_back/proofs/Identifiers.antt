-- An identifier in upper case is a token of its own, a name (2.3, 2.9).
use Rattle.std.proofs.Common.{◌≡◌, ℕ, Bool, true, false, not, leb, List, [], ◌∷◌, ◌++◌, length, map, None, refl, ap, ◌∙◌, sym, arith, inl, inr, option_map}
use Rattle.std.proofs.lemmas.Bool.{and_parts, and_from, or_left, or_right, cond-true, cond-false, false≢true, cases_Bool, le-leb}
use Rattle.std.proofs.lemmas.Bool.Decides.{nat_tests}
use Rattle.std.specs.List.{list_any}
use Rattle.std.specs.Str.{bytes_eq}
use Rattle.std.specs.Char.{to_ascii_uppercase}
use Rattle.std.specs.Prelude.{◌&&◌, ◌||◌, ◌==◌}
use Rattle.ada_lexer.specs.declared.symbols.Symbol.{Symbol}
use Rattle.ada_lexer.specs.declared.kinds.TokenKind.TheVariants.{Name}
use Rattle.ada_lexer.specs.declared.kinds.TokenKind.TheVariants as kinds
use Rattle.ada_lexer.specs.declared.verdicts.Verdict.TheVariants.{Kind}
use Rattle.ada_lexer.specs.Bytes.{is_letter, is_letter_or_digit, is_white, in_lower_case}
use Rattle.common_lemmas.specs.Following.{begins, every}
use Rattle.ada_lexer.specs.Words.{same_text, symbol_in, two_letters, three_letters, four_letters, five_letters, six_letters, seven_letters, eight_letters, nine_letters, reserved_words, reserved_symbol}
use Rattle.ada_lexer.specs.Pieces.{word_goes_on}
use Rattle.ada_lexer.specs.Verdicts.{max_name, word_verdict, verdict}
use Rattle.ada_tree.specs.Lexical.{reserved, is_upper_letter, is_digit, goes_on, IsIdentifier}
use Rattle.read_back.proofs.Classes.{WordEnd}
use Rattle.read_back.proofs.Pieces.{Ends, word_ends}
use Rattle.common_lemmas.proofs.Truth.{not_true}

-- a byte of an identifier in upper case
abbrev is_part : ℕ → Bool
is_part b = is_upper_letter b || is_digit b || b == 95

abbrev all_parts : List ℕ → Bool
all_parts [] = true
all_parts (b ∷ bs) = is_part b && all_parts bs

part_letter : (b : ℕ) → (is_upper_letter b || is_digit b) ≡ true → is_letter_or_digit b ≡ true
part_letter b h = grind (arith, nat_tests)

-- what goes on in an identifier goes on in a word
word_on : (u : Bool) (bs : List ℕ) → goes_on u bs ≡ true → (every word_goes_on bs ≡ true) × (u ≡ true → begins is_letter_or_digit bs ≡ true) × (all_parts bs ≡ true)
word_on false [] h = (refl, λ e. absurd (false≢true e), refl)
word_on true [] h = absurd (false≢true h)
word_on u (b ∷ bs) h = elim (cases_Bool (b == 95)) [
  | inl e ↦
      (let both = and_parts (not u) (goes_on true bs) (sym (cond-true (b == 95) _ _ e) ∙ h) in
      let rest = word_on true bs both.1 in (
        and_from _ _ (or_right (is_letter_or_digit b) _ (and_from _ _ e (rest.1 refl))) rest.0,
        λ t. absurd (false≢true (sym (ap not t) ∙ both.0)),
        and_from _ _ (or_right _ _ e) rest.2,
      ))
  | inr e ↦
      (let both = and_parts (is_upper_letter b || is_digit b) (goes_on false bs) (sym (cond-false (b == 95) _ _ e) ∙ h) in
      let rest = word_on false bs both.1 in
      let letter = part_letter b both.0 in
      (and_from _ _ (or_left _ _ letter) rest.0, λ t. letter, and_from _ _ (or_left _ _ both.0) rest.2))
]

-- upper case leaves an identifier, and gives it back of its lower case
upper_part : (b : ℕ) → is_part b ≡ true → to_ascii_uppercase b ≡ b
upper_part b h = grind (arith, nat_tests)

back_part : (b : ℕ) → is_part b ≡ true → to_ascii_uppercase (in_lower_case b) ≡ b
back_part b h = grind (arith, nat_tests)

upper_parts : (bs : List ℕ) → all_parts bs ≡ true → map to_ascii_uppercase bs ≡ bs
upper_parts [] h = refl
upper_parts (b ∷ bs) h =
    let both = and_parts (is_part b) (all_parts bs) h in
    ap (λ c. c ∷ map to_ascii_uppercase bs) (upper_part b both.0) ∙ ap (λ l. b ∷ l) (upper_parts bs both.1)

back_parts : (bs : List ℕ) → all_parts bs ≡ true → map to_ascii_uppercase (map in_lower_case bs) ≡ bs
back_parts [] h = refl
back_parts (b ∷ bs) h =
    let both = and_parts (is_part b) (all_parts bs) h in
    ap (λ c. c ∷ map to_ascii_uppercase (map in_lower_case bs)) (back_part b both.0) ∙ ap (λ l. b ∷ l) (back_parts bs both.1)

same_text-true : (a b : List ℕ) → same_text a b ≡ true → a ≡ b
same_text-true [] [] h = refl
same_text-true [] (c ∷ b) h = absurd (false≢true h)
same_text-true (x ∷ a) [] h = absurd (false≢true h)
same_text-true (x ∷ a) (y ∷ b) h =
    let both = and_parts (x == y) (same_text a b) h in
    let first : x ≡ y = grind (arith, nat_tests) in
    ap (λ c. c ∷ a) first ∙ ap (λ l. y ∷ l) (same_text-true a b both.1)

-- each text of a table of words, in upper case, is reserved
abbrev are_reserved : List (List ℕ × Symbol) → Bool
are_reserved [] = true
are_reserved (entry ∷ table) = list_any (bytes_eq (map to_ascii_uppercase entry.0)) reserved && are_reserved table

are_reserved-append : (a b : List (List ℕ × Symbol)) → are_reserved a ≡ true → are_reserved b ≡ true → are_reserved (a ++ b) ≡ true
are_reserved-append [] b h k = k
are_reserved-append (entry ∷ a) b h k =
    let both = and_parts (list_any (bytes_eq (map to_ascii_uppercase entry.0)) reserved) (are_reserved a) h in
    and_from _ _ both.0 (are_reserved-append a b both.1 k)

all_reserved : are_reserved reserved_words ≡ true
unfolding reserved_words two_letters three_letters four_letters five_letters six_letters seven_letters eight_letters nine_letters
all_reserved = refl

not_in : (table : List (List ℕ × Symbol)) (w : List ℕ) → all_parts w ≡ true → list_any (bytes_eq w) reserved ≡ false → are_reserved table ≡ true → symbol_in table (map in_lower_case w) ≡ None
not_in [] w parts free all = refl
not_in (entry ∷ table) w parts free all =
    let both = and_parts (list_any (bytes_eq (map to_ascii_uppercase entry.0)) reserved) (are_reserved table) all in
    elim (cases_Bool (same_text (map in_lower_case w) entry.0)) [
      | inl e ↦
          (let word : w ≡ map to_ascii_uppercase entry.0 = sym (back_parts w parts) ∙ ap (map to_ascii_uppercase) (same_text-true (map in_lower_case w) entry.0 e) in
          absurd (false≢true (sym free ∙ ap (λ t. list_any (bytes_eq t) reserved) word ∙ both.0)))
      | inr e ↦ cond-false (same_text (map in_lower_case w) entry.0) _ _ e ∙ not_in table w parts free both.1
    ]

-- a text that is a name
pub record IsName (w : List ℕ) : Type 0 where
  pub ends : Ends WordEnd w
  pub verdict_is : (at : ℕ) → verdict at w ≡ Kind Name
  pub upper : map to_ascii_uppercase w ≡ w
  pub letter : begins is_letter w ≡ true

upper_letter : (b : ℕ) → is_upper_letter b ≡ true → (is_white b ≡ false) × (is_letter b ≡ true) × (is_part b ≡ true)
upper_letter b h = (grind (arith, nat_tests), grind (arith, nat_tests), grind (arith, nat_tests))

no_symbol : (w : List ℕ) → all_parts w ≡ true → list_any (bytes_eq w) reserved ≡ false → reserved_symbol w ≡ None
unfolding reserved_symbol
no_symbol w parts free = not_in reserved_words w parts free all_reserved

pub identifier_is : (w : List ℕ) → IsIdentifier w → IsName w
unfolding verdict word_verdict
identifier_is [] h = absurd (false≢true h.0)
identifier_is (b ∷ bs) h =
    let both = and_parts (is_upper_letter b) (goes_on false bs) h.0 in
    let first = upper_letter b both.0 in
    let rest = word_on false bs both.1 in
    let parts : all_parts (b ∷ bs) ≡ true = and_from _ _ first.2 rest.2 in
    let kind = no_symbol (b ∷ bs) parts (not_true _ h.2) in
    record {
      ends = word_ends b bs first.1 rest.0;
      verdict_is = λ at. cond-false (is_white b) _ _ first.0 ∙ cond-true (is_letter b) _ _ first.1 ∙ rw (ap (option_map kinds.Symbol) kind) (cond-true (leb (length (b ∷ bs)) max_name) _ _ (le-leb (length (b ∷ bs)) max_name h.1));
      upper = upper_parts (b ∷ bs) parts;
      letter = first.1;
    }
