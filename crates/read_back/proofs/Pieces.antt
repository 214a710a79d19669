-- Pieces of each kind are the longest where what follows is of their class.
use Rattle.std.proofs.Common.{◌≡◌, ℕ, suc, ◌+◌, ◌<◌, Bool, true, false, List, [], ◌∷◌, ◌++◌, length, take, refl, ap, ◌∙◌, sym, subst, arith, inl, inr}
use Rattle.std.proofs.lemmas.Bool.{and_parts, and_from, or_left, or_right, or_cases, cond-true, cond-false, false≢true}
use Rattle.std.proofs.lemmas.Bool.Decides.{nat_tests}
use Rattle.std.proofs.lemmas.List.{length-append}
use Rattle.std.proofs.Math.Seq.{take-append_seam}
use Rattle.std.specs.Prelude.{◌&&◌, ◌||◌, ◌==◌}
use Rattle.ada_lexer.specs.Bytes.{is_letter, is_digit, is_letter_or_digit, is_white, run_len}
use Rattle.common_lemmas.specs.Following.{begins, every}
use Rattle.ada_lexer.specs.Strings.{string_goes_on, inside_after, is_string_run, string_len, ends_inside}
use Rattle.ada_lexer.specs.Pieces.{word_goes_on, number_goes_on, IsLongest}
use Rattle.ada_lexer.specs.Lengths.{piece_len}
use Rattle.ada_lexer.proofs.Longest.{piece-measured}
use Rattle.read_back.proofs.Classes.{Class, Anything, WordEnd, Stop, allows, Next}

-- the piece is the longest one wherever what follows is of the class
abbrev pub Ends : Class → List ℕ → Type 0
Ends after p = (rest : List ℕ) → Next after rest → IsLongest p (p ++ rest)

pub longest_here : (p rest : List ℕ) → 0 < length p → piece_len (p ++ rest) ≡ length p → IsLongest p (p ++ rest)
longest_here p rest some len = elim (piece-measured (p ++ rest) (omega (arith, length-append p rest))) [
  | inl h ↦
      (let front : take (piece_len (p ++ rest)) (p ++ rest) ≡ p = ap (λ n. take n (p ++ rest)) len ∙ take-append_seam p rest in
      subst (λ t. IsLongest t (p ++ rest)) front h.1.1)
  | inr h ↦ absurd (omega (arith, h.0, len, some))
]

pub white_ends : (b : ℕ) → is_white b ≡ true → Ends Anything (b ∷ [])
unfolding piece_len
white_ends b white rest next = longest_here (b ∷ []) rest (omega arith) (cond-true (is_white b) 1 _ white)

-- ---- words

no_word : (b : ℕ) (rest : List ℕ) → allows WordEnd b ≡ true → word_goes_on b rest ≡ false
no_word b rest h =
    let letter : is_letter_or_digit b ≡ false = grind (arith, nat_tests) in
    let under : (b == 95) ≡ false = grind (arith, nat_tests) in
    rw (letter, under) refl

no_number : (b : ℕ) (rest : List ℕ) → allows Stop b ≡ true → number_goes_on b rest ≡ false
no_number b rest h =
    let letter : is_letter_or_digit b ≡ false = grind (arith, nat_tests) in
    let under : (b == 95) ≡ false = grind (arith, nat_tests) in
    let point : (b == 46) ≡ false = grind (arith, nat_tests) in
    rw (letter, under, point) refl

run_ends : (go : ℕ → List ℕ → Bool) (c : Class) → ((b : ℕ) (rest : List ℕ) → allows c b ≡ true → go b rest ≡ false) → (rest : List ℕ) → Next c rest → (c ≡ Anything → ⊥) → run_len go rest ≡ 0
run_ends go Anything never rest next some = absurd (some refl)
run_ends go c never [] next some = refl
run_ends go c never (b ∷ rest) next some = cond-false (go b rest) _ _ (never b rest next)

-- what goes on in a front goes on before all that follows
abbrev Stays : (ℕ → List ℕ → Bool) → Type 0
Stays go = (b : ℕ) (xs ys : List ℕ) → go b xs ≡ true → go b (xs ++ ys) ≡ true

begins_stays : (class : ℕ → Bool) (xs ys : List ℕ) → begins class xs ≡ true → begins class (xs ++ ys) ≡ true
begins_stays class [] ys h = absurd (false≢true h)
begins_stays class (b ∷ xs) ys h = h

run_over : (go : ℕ → List ℕ → Bool) → Stays go → (xs ys : List ℕ) → every go xs ≡ true → run_len go ys ≡ 0 → run_len go (xs ++ ys) ≡ length xs
run_over go stays [] ys all end = end
run_over go stays (b ∷ xs) ys all end =
    let both = and_parts (go b xs) (every go xs) all in
    cond-true (go b (xs ++ ys)) _ _ (stays b xs ys both.0) ∙ (let more = run_over go stays xs ys both.1 end in omega (arith, more))

word_stays : Stays word_goes_on
word_stays b xs ys h = elim (or_cases (is_letter_or_digit b) ((b == 95) && begins is_letter_or_digit xs) h) [
  | inl e ↦ or_left _ _ e
  | inr e ↦ or_right _ _ (let parts = and_parts (b == 95) (begins is_letter_or_digit xs) e in and_from _ _ parts.0 (begins_stays is_letter_or_digit xs ys parts.1))
]

number_stays : Stays number_goes_on
number_stays b xs ys h = elim (or_cases (is_letter_or_digit b || (b == 95)) ((b == 46) && begins is_digit xs) h) [
  | inl e ↦ or_left _ _ e
  | inr e ↦ or_right _ _ (let parts = and_parts (b == 46) (begins is_digit xs) e in and_from _ _ parts.0 (begins_stays is_digit xs ys parts.1))
]

pub letter_no_white : (b : ℕ) → is_letter b ≡ true → is_white b ≡ false
letter_no_white b h = grind (arith, nat_tests)

pub digit_no_letter : (b : ℕ) → is_digit b ≡ true → is_letter b ≡ false
digit_no_letter b h = grind (arith, nat_tests)

pub digit_no_white : (b : ℕ) → is_digit b ≡ true → is_white b ≡ false
digit_no_white b h = grind (arith, nat_tests)

pub word_ends : (b : ℕ) (bs : List ℕ) → is_letter b ≡ true → every word_goes_on bs ≡ true → Ends WordEnd (b ∷ bs)
unfolding piece_len
word_ends b bs letter all rest next =
    let run : run_len word_goes_on (bs ++ rest) ≡ length bs = run_over word_goes_on word_stays bs rest all (run_ends word_goes_on WordEnd no_word rest next (λ e. cc)) in
    longest_here (b ∷ bs) rest (omega arith) (cond-false (is_white b) _ _ (letter_no_white b letter) ∙ cond-true (is_letter b) _ _ letter ∙ omega (arith, run))

pub number_ends : (b : ℕ) (bs : List ℕ) → is_digit b ≡ true → every number_goes_on bs ≡ true → Ends Stop (b ∷ bs)
unfolding piece_len
number_ends b bs digit all rest next =
    let run : run_len number_goes_on (bs ++ rest) ≡ length bs = run_over number_goes_on number_stays bs rest all (run_ends number_goes_on Stop no_number rest next (λ e. cc)) in
    longest_here (b ∷ bs) rest (omega arith) (cond-false (is_white b) _ _ (digit_no_white b digit) ∙ cond-false (is_letter b) _ _ (digit_no_letter b digit) ∙ cond-true (is_digit b) _ _ digit ∙ omega (arith, run))

-- ---- strings

no_mark : (b : ℕ) → allows Stop b ≡ true → string_goes_on false b ≡ false
no_mark b h = grind (arith, nat_tests)

string_over : (s : Bool) (xs ys : List ℕ) → is_string_run s xs ≡ true → ends_inside s xs ≡ false → Next Stop ys → string_len s (xs ++ ys) ≡ length xs
string_over true [] ys run end next = absurd (false≢true (sym end))
string_over false [] [] run end next = refl
string_over false [] (c ∷ ys) run end next = cond-false (string_goes_on false c) _ _ (no_mark c next)
string_over s (b ∷ xs) ys run end next =
    let both = and_parts (string_goes_on s b) (is_string_run (inside_after s b) xs) run in
    cond-true (string_goes_on s b) _ _ both.0 ∙ (let more = string_over (inside_after s b) xs ys both.1 end next in omega (arith, more))

pub string_ends : (bs : List ℕ) → is_string_run true bs ≡ true → ends_inside true bs ≡ false → Ends Stop (34 ∷ bs)
unfolding piece_len
string_ends bs run end rest next =
    let len : string_len true (bs ++ rest) ≡ length bs = string_over true bs rest run end next in
    longest_here (34 ∷ bs) rest (omega arith) (let e : string_len true (bs ++ rest) + 1 ≡ suc (length bs) = omega (arith, len) in e)
