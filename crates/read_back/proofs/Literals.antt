-- The texts of numbers, durations and strings are tokens with these values (2.4, 2.6).
use Rattle.std.proofs.Common.{◌≡◌, ℕ, suc, ◌+◌, ◌*◌, ◌/◌, ◌%◌, ◌<◌, ◌≤◌, Bool, true, false, not, leb, ltb, List, [], ◌∷◌, ◌++◌, length, take, drop, position, decimal, None, Some, option_map, refl, ap, ◌∙◌, sym, subst, arith, append-nil}
use Rattle.std.proofs.lemmas.Bool.{and_parts, and_from, or_left, or_right, cond-true, cond-false, le-leb, lt-ltb}
use Rattle.std.proofs.lemmas.Bool.Decides.{nat_tests}
use Rattle.std.proofs.lemmas.Fmt.{decimal_by_steps}
use Rattle.std.proofs.lemmas.List.{length-append}
use Rattle.std.proofs.Math.Seq.{take-append_seam, drop-append-add}
use Rattle.std.specs.List.{prefix_len}
use Rattle.std.specs.Prelude.{◌&&◌, ◌||◌, ◌==◌}
use Rattle.ada_lexer.specs.declared.kinds.TokenKind.TheVariants.{Integer, Duration, Text}
use Rattle.ada_lexer.specs.declared.verdicts.Verdict.TheVariants.{Kind, Fault}
use Rattle.ada_lexer.specs.declared.errors.LexError.TheVariants.{BadNumber}
use Rattle.ada_lexer.specs.Bytes.{is_letter, is_digit, is_letter_or_digit, is_white, is_printable}
use Rattle.common_lemmas.specs.Following.{begins, every}
use Rattle.ada_lexer.specs.Numbers.{max_integer, max_thousandths, numeral_goes_on, value_behind, decimal_from, is_numeral, integer_value, decimals_value, is_point, kind_by_point, duration_value, number_kind}
use Rattle.ada_lexer.specs.Strings.{inside_after, is_string_run, ends_inside, content}
use Rattle.ada_lexer.specs.Pieces.{number_goes_on}
use Rattle.ada_lexer.specs.Verdicts.{max_content, token_or, number_verdict, string_verdict, text_or_bad_byte, verdict}
use Rattle.read_back.proofs.Classes.{Stop}
use Rattle.read_back.proofs.Pieces.{Ends, digit_no_white, digit_no_letter, number_ends}

-- ---- digits

abbrev pub all_digits : List ℕ → Bool
all_digits [] = true
all_digits (b ∷ bs) = is_digit b && all_digits bs

pub record IsSpelling (n : ℕ) (ds : List ℕ) : Type 0 where
  pub some : 0 < length ds
  pub digits : all_digits ds ≡ true
  pub value : decimal_from 0 ds ≡ n

all_digits-append : (xs ys : List ℕ) → all_digits xs ≡ true → all_digits ys ≡ true → all_digits (xs ++ ys) ≡ true
all_digits-append [] ys h k = k
all_digits-append (b ∷ xs) ys h k =
    let both = and_parts (is_digit b) (all_digits xs) h in
    and_from _ _ both.0 (all_digits-append xs ys both.1 k)

decimal_from-append : (v : ℕ) (xs ys : List ℕ) → decimal_from v (xs ++ ys) ≡ decimal_from (decimal_from v xs) ys
decimal_from-append v [] ys = refl
decimal_from-append v (b ∷ xs) ys = decimal_from-append (value_behind v b) xs ys

pub a_digit : (k : ℕ) → k < 10 → is_digit (48 + k) ≡ true
a_digit k low = grind (arith, nat_tests)

value_digit : (v k : ℕ) → k < 10 → value_behind v (48 + k) ≡ v * 10 + k
value_digit v k low =
    let other : ((48 + k) == 95) ≡ false = grind (arith, nat_tests) in
    cond-false ((48 + k) == 95) v _ other ∙ omega arith

one_digit : (n : ℕ) → n < 10 → IsSpelling n ((48 + n) ∷ [])
one_digit n low = record {
  some = omega arith;
  digits = and_from _ _ (a_digit n low) refl;
  value = value_digit 0 n low ∙ omega arith;
}

more_digits : (n : ℕ) (ds : List ℕ) → 10 ≤ n → IsSpelling (n / 10) ds → IsSpelling n (ds ++ ((48 + n % 10) ∷ []))
more_digits n ds high h =
    let low : n % 10 < 10 = omega arith in
    record {
      some = omega (arith, length-append ds ((48 + n % 10) ∷ []), h.some);
      digits = all_digits-append ds _ h.digits (and_from _ _ (a_digit (n % 10) low) refl);
      value = decimal_from-append 0 ds _ ∙ ap (λ v. value_behind v (48 + n % 10)) h.value ∙ value_digit (n / 10) (n % 10) low ∙ omega arith;
    }

pub decimal_spells : (n : ℕ) → n ≤ max_integer → IsSpelling n (decimal n)
decimal_spells n le = decimal_by_steps IsSpelling one_digit more_digits n (omega arith)

digits_numeral : (ds : List ℕ) → all_digits ds ≡ true → every numeral_goes_on ds ≡ true
digits_numeral [] h = refl
digits_numeral (b ∷ ds) h =
    let both = and_parts (is_digit b) (all_digits ds) h in
    and_from _ _ (or_left (is_digit b) _ both.0) (digits_numeral ds both.1)

pub digit_goes_on : (b : ℕ) (rest : List ℕ) → is_digit b ≡ true → number_goes_on b rest ≡ true
digit_goes_on b rest h = or_left _ _ (or_left _ _ (or_right (is_letter b) (is_digit b) h))

digits_number : (ds more : List ℕ) → all_digits ds ≡ true → every number_goes_on more ≡ true → every number_goes_on (ds ++ more) ≡ true
digits_number [] more h k = k
digits_number (b ∷ ds) more h k =
    let both = and_parts (is_digit b) (all_digits ds) h in
    and_from _ _ (digit_goes_on b (ds ++ more) both.0) (digits_number ds more both.1 k)

no_point : (b : ℕ) → is_digit b ≡ true → is_point b ≡ false
no_point b h = grind (arith, nat_tests)

-- where the bytes before a place fail a test and the byte there passes it
abbrev before : (ℕ → Bool) → List ℕ → ℕ
before test bs = prefix_len (λ b. not (test b)) bs

before-pass : (test : ℕ → Bool) (b : ℕ) (bs : List ℕ) → test b ≡ false → before test (b ∷ bs) ≡ suc (before test bs)
before-pass test b bs h = cond-true (not (test b)) _ _ (ap not h) ∙ omega arith

nowhere : (test : ℕ → Bool) (bs : List ℕ) → before test bs ≡ length bs → position test bs ≡ None
nowhere test bs h = cond-false (ltb (before test bs) (length bs)) _ _ (le-leb-false _ _ h)
  where
    le-leb-false : (a b : ℕ) → a ≡ b → ltb a b ≡ false
    le-leb-false a b e = grind (arith, nat_tests)

found_at : (test : ℕ → Bool) (bs : List ℕ) (k : ℕ) → before test bs ≡ k → k < length bs → position test bs ≡ Some k
found_at test bs k h low = cond-true (ltb (before test bs) (length bs)) _ _ (rw h (lt-ltb k (length bs) low)) ∙ ap Some h

digits_before : (ds more : List ℕ) → all_digits ds ≡ true → before is_point (ds ++ more) ≡ length ds + before is_point more
digits_before [] more h = omega arith
digits_before (b ∷ ds) more h =
    let both = and_parts (is_digit b) (all_digits ds) h in
    let later = digits_before ds more both.1 in
    before-pass is_point b (ds ++ more) (no_point b both.0) ∙ omega (arith, later)

digits_no_point : (ds : List ℕ) → all_digits ds ≡ true → position is_point ds ≡ None
digits_no_point ds h = nowhere is_point ds (ap (before is_point) (sym (append-nil ds)) ∙ digits_before ds [] h ∙ omega arith)

spelled_integer : (n : ℕ) (ds : List ℕ) → n ≤ max_integer → IsSpelling n ds → integer_value ds ≡ Some n
unfolding integer_value
spelled_integer n [] le h = absurd (omega (arith, h.some))
spelled_integer n (b ∷ ds) le h =
    let both = and_parts (is_digit b) (all_digits ds) h.digits in
    let numeral : is_numeral (b ∷ ds) ≡ true = and_from _ _ both.0 (digits_numeral ds both.1) in
    cond-true _ _ _ (and_from _ _ numeral (le-leb _ _ (omega (arith, h.value)))) ∙ ap Some h.value

-- a text of the kind of numbers
pub record IsNumber (ds : List ℕ) (kind : _) : Type 0 where
  pub ends : Ends Stop ds
  pub verdict_is : (at : ℕ) → verdict at ds ≡ Kind kind
  pub digit : begins is_digit ds ≡ true

number_is : (b : ℕ) (bs : List ℕ) (kind : _) → is_digit b ≡ true → every number_goes_on bs ≡ true → number_kind (b ∷ bs) ≡ Some kind → IsNumber (b ∷ bs) kind
unfolding verdict number_verdict
number_is b bs kind digit all found = record {
  ends = number_ends b bs digit all;
  verdict_is = λ at. cond-false (is_white b) _ _ (digit_no_white b digit) ∙ cond-false (is_letter b) _ _ (digit_no_letter b digit) ∙ cond-true (is_digit b) _ _ digit ∙ ap (token_or (Fault (BadNumber at))) found;
  digit = digit;
}

number_of : (ds : List ℕ) (kind : _) → 0 < length ds → (more : List ℕ) → all_digits ds ≡ true → every number_goes_on more ≡ true → number_kind (ds ++ more) ≡ Some kind → IsNumber (ds ++ more) kind
number_of [] kind some more digits all found = absurd (omega arith)
number_of (b ∷ ds) kind some more digits all found =
    let both = and_parts (is_digit b) (all_digits ds) digits in
    number_is b (ds ++ more) kind both.0 (digits_number ds more both.1 all) found

integer_kind : (n : ℕ) (ds : List ℕ) → n ≤ max_integer → IsSpelling n ds → number_kind ds ≡ Some (Integer n)
unfolding number_kind
integer_kind n ds le h = ap (kind_by_point ds) (digits_no_point ds h.digits) ∙ ap (option_map Integer) (spelled_integer n ds le h)

pub integer_is : (n : ℕ) → n ≤ max_integer → IsNumber (decimal n) (Integer n)
integer_is n le =
    let h = decimal_spells n le in
    let found : number_kind (decimal n ++ []) ≡ Some (Integer n) = ap number_kind (append-nil (decimal n)) ∙ integer_kind n (decimal n) le h in
    subst (λ t. IsNumber t (Integer n)) (append-nil (decimal n)) (number_of (decimal n) (Integer n) h.some [] h.digits refl found)

-- ---- durations

first_point : (ds more : List ℕ) → all_digits ds ≡ true → position is_point (ds ++ 46 ∷ more) ≡ Some (length ds)
first_point ds more h =
    let place : before is_point (46 ∷ more) ≡ 0 = refl in
    found_at is_point (ds ++ 46 ∷ more) (length ds) (digits_before ds (46 ∷ more) h ∙ omega (arith, place)) (omega (arith, length-append ds (46 ∷ more)))

pub duration_from : (d whole part : ℕ) (ds more : List ℕ) → IsSpelling whole ds → decimals_value more ≡ Some part → whole * 1000 + part ≡ d → d ≤ max_thousandths → begins is_digit more ≡ true → every number_goes_on more ≡ true → IsNumber (ds ++ 46 ∷ more) (Duration d)
unfolding number_kind duration_value
duration_from d whole part ds more h decimals sum le digit all =
    let seconds : integer_value (take (length ds) (ds ++ 46 ∷ more)) ≡ Some whole = rw take-append_seam (spelled_integer whole ds (omega arith) h) in
    let behind : drop (length ds + 1) (ds ++ 46 ∷ more) ≡ more = drop-append-add ds (46 ∷ more) 1 in
    let value : duration_value (length ds) (ds ++ 46 ∷ more) ≡ Some d =
    rw (seconds, behind, decimals) (cond-true (leb (whole * 1000 + part) max_thousandths) _ _ (le-leb (whole * 1000 + part) max_thousandths (omega (arith, sum))) ∙ ap Some sum) in
    let found : number_kind (ds ++ 46 ∷ more) ≡ Some (Duration d) = ap (kind_by_point (ds ++ 46 ∷ more)) (first_point ds more h.digits) ∙ ap (option_map Duration) value in
    number_of ds (Duration d) h.some (46 ∷ more) h.digits (and_from _ _ (or_right (is_letter_or_digit 46 || (46 == 95)) _ digit) all) found

-- ---- strings

-- bytes of a string literal behind its opening mark that say this
pub record IsContent (said body : List ℕ) : Type 0 where
  pub run : is_string_run true body ≡ true
  pub closed : ends_inside true body ≡ false
  pub content_is : content true body ≡ said
  pub printable : before (λ b. not (is_printable b)) body ≡ length body

pub no_content : IsContent [] (34 ∷ [])
no_content = record { run = refl; closed = refl; content_is = refl; printable = refl }

pub content_mark : (said body : List ℕ) → IsContent said body → IsContent (34 ∷ said) (34 ∷ 34 ∷ body)
content_mark said body h = record {
  run = h.run;
  closed = h.closed;
  content_is = ap (λ l. 34 ∷ l) h.content_is;
  printable =
      before-pass (λ b. not (is_printable b)) 34 (34 ∷ body) refl ∙ ap (λ k. suc k) (before-pass (λ b. not (is_printable b)) 34 body refl ∙ ap (λ k. suc k) h.printable);
}

pub content_other : (b : ℕ) (said body : List ℕ) → (b == 34) ≡ false → 32 ≤ b → b ≤ 126 → IsContent said body → IsContent (b ∷ said) (b ∷ body)
content_other b said body other low high h =
    let line : (b == 10) ≡ false = grind (arith, nat_tests) in
    let fine : is_printable b ≡ true = grind (arith, nat_tests) in
    let inside : inside_after true b ≡ true = ap not other in
    record {
      run = and_from _ _ (ap not line) (rw inside h.run);
      closed = rw inside h.closed;
      content_is = rw other (ap (λ l. b ∷ l) h.content_is);
      printable = before-pass (λ c. not (is_printable c)) b body (ap not fine) ∙ ap (λ k. suc k) h.printable;
    }

pub string_is : (said body : List ℕ) → length said ≤ 200 → IsContent said body → (at : ℕ) → verdict at (34 ∷ body) ≡ Kind Text
unfolding verdict string_verdict
string_is said body le h at =
    let short : ltb max_content (length (content true body)) ≡ false = rw h.content_is (le-ltb (length said) le) in
    cond-false (ends_inside true body) _ _ h.closed ∙ cond-false (ltb max_content (length (content true body))) _ _ short ∙ ap (text_or_bad_byte (at + 1)) (nowhere (λ b. not (is_printable b)) body h.printable)
  where
    le-ltb : (n : ℕ) → n ≤ 200 → ltb 200 n ≡ false
    le-ltb n e = grind (arith, nat_tests)
