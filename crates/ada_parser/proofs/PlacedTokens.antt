-- What a token of each kind is in the words of the tree: an identifier, a number within its limit, the content of a string.
use Rattle.std.proofs.Common.{◌≡◌, ℕ, suc, ◌+◌, ◌≤◌, Bool, true, false, cond, List, [], ◌∷◌, length, map, take, drop, All, Option, Some, None, option_map, position, refl, sym, ap, ap₂, ◌∙◌, subst, arith, inl, inr, true≢false, not, ◌&&◌, ◌||◌, ◌==◌, nat_le, nat_lt, is_some}
use Rattle.std.specs.Char.{to_ascii_uppercase}
use Rattle.std.specs.List.{list_any, list_all, prefix_len}
use Rattle.std.specs.Str.{bytes_eq}
use Rattle.std.proofs.lemmas.Bool.{cases_Bool, or_cases, and_parts, and_from, leb-true, ltb-false}
use Rattle.std.proofs.lemmas.Bool.Decides.{nat_tests}
use Rattle.std.proofs.lemmas.List.{length-map}
use Rattle.std.proofs.lemmas.List.Elements.{All-nil, All-cons}
use Rattle.std.proofs.lemmas.Slice.Eq.{bytes_eq-Decides}
use Rattle.ada_lexer.specs.declared.kinds.TokenKind.{TokenKind}
use Rattle.ada_lexer.specs.declared.kinds.TokenKind.TheVariants as kinds
use Rattle.ada_lexer.specs.declared.verdicts.Verdict.{Verdict}
use Rattle.ada_lexer.specs.declared.verdicts.Verdict.TheVariants.{Gap, Kind, Fault}
use Rattle.ada_lexer.specs.declared.errors.LexError.TheVariants as fault
use Rattle.ada_lexer.specs.Bytes as lex
use Rattle.common_lemmas.specs.Following.{begins, every}
use Rattle.ada_lexer.specs.declared.symbols.Symbol.{Symbol}
use Rattle.ada_lexer.specs.Words.{symbol_in, two_letters, three_letters, four_letters, five_letters, six_letters, seven_letters, eight_letters, nine_letters, reserved_words, reserved_symbol, delimiter_symbol}
use Rattle.ada_lexer.specs.Numbers.{max_integer, max_thousandths, is_numeral, decimal_from, integer_value, decimals_value, thousandths_of, duration_value, is_point, kind_by_point, number_kind}
use Rattle.ada_lexer.specs.Strings.{inside_after, ends_inside, content}
use Rattle.ada_lexer.specs.Pieces.{word_goes_on, opens_comment, is_piece}
use Rattle.ada_lexer.specs.Verdicts.{max_name, max_content, token_or, text_or_bad_byte, word_verdict, number_verdict, string_verdict, mark_verdict, verdict, IsToken}
use Rattle.ada_tree.specs.Lexical.{reserved, is_upper_letter, is_digit, goes_on, IsIdentifier, IsInteger, IsDuration, IsStringContent}

-- what is true of a text that is a token of this kind
abbrev pub Holds : List ℕ → TokenKind → Type 0
Holds text kinds.Name = IsIdentifier (map to_ascii_uppercase text)
Holds text (kinds.Integer n) = IsInteger n
Holds text (kinds.Duration n) = IsDuration n
Holds text kinds.Text = IsStringContent (content true (drop 1 text))
Holds text _ = Unit {0}

-- ---- reserved words and delimiters, of which nothing is asked

symbol_holds : (text : List ℕ) (o : Option Symbol) (k : TokenKind) → option_map kinds.Symbol o ≡ Some k → Holds text k
symbol_holds text None k is = absurd (let none : ⊥ = cc in none)
symbol_holds text (Some s) k is = (let same : kinds.Symbol s ≡ k = cc in subst (Holds text) same tt)

nothing : (o : Option Symbol) → option_map kinds.Symbol o ≡ None → o ≡ None
nothing None e = refl
nothing (Some s) e = cc

-- ---- numbers

within : (a : Bool) (v most n : ℕ) → cond (a && nat_le v most) (Some v) None ≡ Some n → n ≤ most
within a v most n e = let (low, same) = pick a (nat_le v most) e in subst (λ m. m ≤ most) same (grind (arith, nat_tests))
  where
    pick : (a b : Bool) → cond (a && b) (Some v) None ≡ Some n → (b ≡ true) × (v ≡ n)
    pick true true e = (refl, cc)
    pick true false e = absurd (let none : ⊥ = cc in none)
    pick false b e = absurd (let none : ⊥ = cc in none)

integer_limit : (text : List ℕ) (n : ℕ) → integer_value text ≡ Some n → n ≤ max_integer
unfolding integer_value
integer_limit text n e = within (is_numeral text) (decimal_from 0 text) max_integer n e

thousandths_limit : (whole part : Option ℕ) (n : ℕ) → thousandths_of whole part ≡ Some n → n ≤ max_thousandths
thousandths_limit (Some w) (Some p) n e = within true _ max_thousandths n e
thousandths_limit (Some w) None n e = cc
thousandths_limit None p n e = cc

duration_limit : (point : ℕ) (text : List ℕ) (n : ℕ) → duration_value point text ≡ Some n → n ≤ max_thousandths
unfolding duration_value
duration_limit point text n e = thousandths_limit (integer_value (take point text)) (decimals_value (drop (point + 1) text)) n e

mapped_holds : (text : List ℕ) (f : ℕ → TokenKind) (o : Option ℕ) (k : TokenKind) → ((n : ℕ) → o ≡ Some n → Holds text (f n)) → option_map f o ≡ Some k → Holds text k
mapped_holds text f None k holds e = absurd (let none : ⊥ = cc in none)
mapped_holds text f (Some n) k holds e = (let same : f n ≡ k = cc in subst (Holds text) same (holds n refl))

by_point_holds : (text : List ℕ) (o : Option ℕ) (k : TokenKind) → kind_by_point text o ≡ Some k → Holds text k
by_point_holds text None k e = mapped_holds text kinds.Integer (integer_value text) k (integer_limit text) e
by_point_holds text (Some p) k e = mapped_holds text kinds.Duration (duration_value p text) k (duration_limit p text) e

-- a token that is found is that of the option, or what stands for none
found : (v : Verdict) (o : Option TokenKind) (k : TokenKind) (A : Type 0) → token_or v o ≡ Kind k → (v ≡ Kind k → o ≡ None → A) → (o ≡ Some k → A) → A
found v None k A e other one = other e refl
found v (Some j) k A e other one = (let same : j ≡ k = cc in one (ap (λ (x : TokenKind). Some x) same))

number_holds : (text : List ℕ) (k : TokenKind) → number_verdict 0 text ≡ Kind k → Holds text k
unfolding number_verdict number_kind
number_holds text k e = found (Fault (fault.BadNumber 0)) (number_kind text) k (Holds text k) e (λ f n. absurd (let none : ⊥ = cc in none)) (by_point_holds text (position is_point text) k)

mark_holds : (text : List ℕ) (k : TokenKind) → mark_verdict 0 text ≡ Kind k → Holds text k
unfolding mark_verdict
mark_holds text k e = pick (opens_comment text) e
  where
    pick : (b : Bool) → cond b Gap (token_or (Fault (fault.BadByte 0)) (option_map kinds.Symbol (delimiter_symbol text))) ≡ Kind k → Holds text k
    pick true e = absurd (let none : ⊥ = cc in none)
    pick false e = found (Fault (fault.BadByte 0)) (option_map kinds.Symbol (delimiter_symbol text)) k (Holds text k) e (λ f n. absurd (let none : ⊥ = cc in none)) (symbol_holds text (delimiter_symbol text) k)

-- ---- strings

abbrev IsPrintable : ℕ → Type 0
IsPrintable b = (32 ≤ b) × (b ≤ 126)

printable : (b : ℕ) → lex.is_printable b ≡ true → IsPrintable b
printable b is = let (low, high) = and_parts (nat_le 32 b) (nat_le b 126) is in (leb-true 32 b low, leb-true b 126 high)

content_holds : (inside : Bool) (rest : List ℕ) → length rest ≤ prefix_len (λ b. not (not (lex.is_printable b))) rest → All IsPrintable (content inside rest)
content_holds inside [] all = All-nil IsPrintable
content_holds inside (b ∷ rest) all = first (lex.is_printable b) refl (content_holds (inside_after inside b) rest) all
  where
    kept : (c : Bool) → IsPrintable b → All IsPrintable (content (inside_after inside b) rest) → All IsPrintable (cond c (content (inside_after inside b) rest) (b ∷ content (inside_after inside b) rest))
    kept true one more = more
    kept false one more = All-cons IsPrintable b (content (inside_after inside b) rest) one more

    first : (c : Bool) → lex.is_printable b ≡ c → (length rest ≤ prefix_len (λ b. not (not (lex.is_printable b))) rest → All IsPrintable (content (inside_after inside b) rest)) →
        suc (length rest) ≤ cond (not (not c)) (1 + prefix_len (λ b. not (not (lex.is_printable b))) rest) 0 → All IsPrintable (content inside (b ∷ rest))
    first true is more long = kept (inside && b == 34) (printable b is) (more (omega (arith, long)))
    first false is more long = absurd (omega (arith, long))

string_holds : (b : ℕ) (rest : List ℕ) (k : TokenKind) → string_verdict 0 rest ≡ Kind k → Holds (b ∷ rest) k
unfolding string_verdict
string_holds b rest k e =
    let (short, none, is) = pick (ends_inside true rest) (nat_lt max_content (length (content true rest))) (position (λ b. not (lex.is_printable b)) rest) e in
    subst (Holds (b ∷ rest)) is (content_holds true rest (all_pass (nat_lt (prefix_len (λ b. not (not (lex.is_printable b))) rest) (length rest)) refl none), ltb-false max_content (length (content true rest)) short)
  where
    pick : (a c : Bool) (o : Option ℕ) → cond a (Fault (fault.OpenString 0)) (cond c (Fault (fault.TooLong 0)) (text_or_bad_byte 1 o)) ≡ Kind k → (c ≡ false) × (o ≡ None) × (kinds.Text ≡ k)
    pick true c o e = absurd (let none : ⊥ = cc in none)
    pick false true o e = absurd (let none : ⊥ = cc in none)
    pick false false (Some n) e = absurd (let none : ⊥ = cc in none)
    pick false false None e = (refl, refl, (let same : kinds.Text ≡ k = cc in same))

    all_pass : (c : Bool) → nat_lt (prefix_len (λ b. not (not (lex.is_printable b))) rest) (length rest) ≡ c → cond c (Some (prefix_len (λ b. not (not (lex.is_printable b))) rest)) None ≡ None → length rest ≤ prefix_len (λ b. not (not (lex.is_printable b))) rest
    all_pass true less e = absurd (let none : ⊥ = cc in none)
    all_pass false less e = ltb-false _ _ less

-- ---- identifiers

upper_letter : (b : ℕ) → lex.is_letter b ≡ true → is_upper_letter (to_ascii_uppercase b) ≡ true
upper_letter b e = grind (arith, nat_tests)

upper_part : (b : ℕ) → lex.is_letter_or_digit b ≡ true → (is_upper_letter (to_ascii_uppercase b) || is_digit (to_ascii_uppercase b)) ≡ true
upper_part b e = grind (arith, nat_tests)

no_underscore : (b : ℕ) → lex.is_letter_or_digit b ≡ true → (to_ascii_uppercase b == 95) ≡ false
no_underscore b e = grind (arith, nat_tests)

an_underscore : (b : ℕ) → (b == 95) ≡ true → (to_ascii_uppercase b == 95) ≡ true
an_underscore b e = grind (arith, nat_tests)

-- what goes on in a word goes on in its upper case, and where a letter or digit stands first, behind an underscore too
goes_on_upper :
    (text : List ℕ) → every word_goes_on text ≡ true →
    (goes_on false (map to_ascii_uppercase text) ≡ true) × (begins lex.is_letter_or_digit text ≡ true → goes_on true (map to_ascii_uppercase text) ≡ true)
goes_on_upper [] h = (refl, λ e. e)
goes_on_upper (b ∷ text) h =
    let upper : List ℕ = map to_ascii_uppercase text in
    let c : ℕ = to_ascii_uppercase b in
    let both = and_parts (word_goes_on b text) (every word_goes_on text) h in
    let rest = goes_on_upper text both.1 in
    elim (cases_Bool (lex.is_letter_or_digit b)) [
      | inl e ↦
          (let here : ((is_upper_letter c || is_digit c) && goes_on false upper) ≡ true = and_from _ _ (upper_part b e) rest.0 in (
            ap (λ (x : Bool). cond x (goes_on true upper) ((is_upper_letter c || is_digit c) && goes_on false upper)) (no_underscore b e) ∙ here,
            λ _. ap (λ (x : Bool). cond x false ((is_upper_letter c || is_digit c) && goes_on false upper)) (no_underscore b e) ∙ here,
          ))
      | inr e ↦
          (let under : ((b == 95) && begins lex.is_letter_or_digit text) ≡ true
          = sym (ap (λ (x : Bool). x || ((b == 95) && begins lex.is_letter_or_digit text)) e) ∙ both.0 in
          let parts = and_parts (b == 95) (begins lex.is_letter_or_digit text) under in (
            ap (λ (x : Bool). cond x (goes_on true upper) ((is_upper_letter c || is_digit c) && goes_on false upper)) (an_underscore b parts.0) ∙ rest.1 parts.1,
            λ f. absurd (true≢false (sym f ∙ e)),
          ))
    ]

-- the reserved words are those of the lexer
lower_upper : (b : ℕ) → lex.in_lower_case (to_ascii_uppercase b) ≡ lex.in_lower_case b
lower_upper b = grind (arith, nat_tests)

lower_uppers : (text : List ℕ) → map lex.in_lower_case (map to_ascii_uppercase text) ≡ map lex.in_lower_case text
lower_uppers [] = refl
lower_uppers (b ∷ text) = ap₂ (λ c rest. c ∷ rest) (lower_upper b) (lower_uppers text)

abbrev is_reserved : List ℕ → Bool
is_reserved text = is_some (symbol_in reserved_words (map lex.in_lower_case text))

all_reserved : list_all is_reserved reserved ≡ true
unfolding reserved_words two_letters three_letters four_letters five_letters six_letters seven_letters eight_letters nine_letters
all_reserved = refl

among : (test : List ℕ → Bool) (t : List ℕ) (list : List (List ℕ)) → list_all test list ≡ true → list_any (bytes_eq t) list ≡ true → test t ≡ true
among test t [] all any = absurd (true≢false (sym any))
among test t (u ∷ list) all any =
    let (one, more) = and_parts (test u) (list_all test list) all in
    elim (or_cases (bytes_eq t u) (list_any (bytes_eq t) list) any) [ inl same ↦ ap test ((bytes_eq-Decides t u).0 same) ∙ one | inr other ↦ among test t list more other ]

no_reserved : (text : List ℕ) → reserved_symbol text ≡ None → not (list_any (bytes_eq (map to_ascii_uppercase text)) reserved) ≡ true
unfolding reserved_symbol
no_reserved text none = by (list_any (bytes_eq (map to_ascii_uppercase text)) reserved) refl
  where
    by : (b : Bool) → list_any (bytes_eq (map to_ascii_uppercase text)) reserved ≡ b → not b ≡ true
    by false e = refl
    by true e = absurd (true≢false (
        sym (among is_reserved (map to_ascii_uppercase text) reserved all_reserved e) ∙ ap (λ t. is_some (symbol_in reserved_words t)) (lower_uppers text) ∙
        ap (λ (o : Option Symbol). is_some o) none
        ))

word_holds : (b : ℕ) (rest : List ℕ) (k : TokenKind) → lex.is_letter b ≡ true → every word_goes_on rest ≡ true → word_verdict 0 (b ∷ rest) ≡ Kind k → Holds (b ∷ rest) k
unfolding word_verdict
word_holds b rest k letter goes e =
    found (cond (nat_le (length (b ∷ rest)) max_name) (Kind kinds.Name) (Fault (fault.TooLong 0))) (option_map kinds.Symbol (reserved_symbol (b ∷ rest))) k (Holds (b ∷ rest) k) e
    (λ named none. (
    let (short, is) = pick (nat_le (length (b ∷ rest)) max_name) named in
    subst (Holds (b ∷ rest)) is (
      and_from _ _ (upper_letter b letter) (goes_on_upper rest goes).0,
      (let low = leb-true (length (b ∷ rest)) max_name short in let same = length-map (b ∷ rest) to_ascii_uppercase in omega (arith, low, same)),
      no_reserved (b ∷ rest) (nothing (reserved_symbol (b ∷ rest)) none),
    )
    ))
    (symbol_holds (b ∷ rest) (reserved_symbol (b ∷ rest)) k)
  where
    pick : (c : Bool) → cond c (Kind kinds.Name) (Fault (fault.TooLong 0)) ≡ Kind k → (c ≡ true) × (kinds.Name ≡ k)
    pick true e = (refl, (let same : kinds.Name ≡ k = cc in same))
    pick false e = absurd (let none : ⊥ = cc in none)

-- ---- by the class of the first byte

by_class : (w l d s : Bool) (word number string mark : Verdict) (k : TokenKind) (A : Type 0) → cond w Gap (cond l word (cond d number (cond s string mark))) ≡ Kind k →
    (w ≡ false → l ≡ true → word ≡ Kind k → A) → (number ≡ Kind k → A) → (string ≡ Kind k → A) → (mark ≡ Kind k → A) → A
by_class true l d s word number string mark k A e at_word at_number at_string at_mark = absurd (let none : ⊥ = cc in none)
by_class false true d s word number string mark k A e at_word at_number at_string at_mark = at_word refl refl e
by_class false false true s word number string mark k A e at_word at_number at_string at_mark = at_number e
by_class false false false true word number string mark k A e at_word at_number at_string at_mark = at_string e
by_class false false false false word number string mark k A e at_word at_number at_string at_mark = at_mark e

word_goes : (w l x y z : Bool) → w ≡ false → l ≡ true → cond w x (cond l y z) ≡ true → y ≡ true
word_goes true l x y z white letter e = absurd (true≢false white)
word_goes false true x y z white letter e = e
word_goes false false x y z white letter e = absurd (true≢false (sym letter))

pub token_holds : (text : List ℕ) (k : TokenKind) → IsToken text k → Holds text k
unfolding is_piece verdict
token_holds [] k (piece, is) = absurd (let none : ⊥ = cc in none)
token_holds (b ∷ rest) k (piece, is) =
    by_class (lex.is_white b) (lex.is_letter b) (lex.is_digit b) (b == 34) (word_verdict 0 (b ∷ rest)) (number_verdict 0 (b ∷ rest)) (string_verdict 0 rest) (mark_verdict 0 (b ∷ rest)) k (Holds (b ∷ rest) k) is
    (λ white letter e. word_holds b rest k letter (word_goes (lex.is_white b) (lex.is_letter b) _ (every word_goes_on rest) _ white letter piece) e)
    (number_holds (b ∷ rest) k) (string_holds b rest k) (mark_holds (b ∷ rest) k)
