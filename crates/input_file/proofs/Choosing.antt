-- The format of choice files keeps the laws of formats: its lines are read as they are written.
use Rattle.std.proofs.Common.{◌≡◌, ◌≢◌, ℕ, ◌+◌, ◌<◌, ◌≤◌, true, false, cond, List, [], ◌∷◌, ◌++◌, length, map, All, None, Some, refl, ap, ◌∙◌, sym, arith, inl, inr, decimal, append-nil, length-append}
use Rattle.std.specs.List.{concat}
use Rattle.std.specs.Prelude.{◌==◌, nat_le, is_some, codes}
use Rattle.std.proofs.lemmas.Bool.{cases_Bool, le-leb, leb-true}
use Rattle.std.proofs.lemmas.List.Elements.{All-nil, All-cons, All-head, All-tail, All-push}
use Rattle.std.proofs.lemmas.List.Folds.{concat-append}
use Rattle.std.proofs.lemmas.List.Sums.{sum_by-append, sum_by-cons, sum_by_push}
use Rattle.seq_file.specs.text_lines.Lines.{words_of, all_of}
use Rattle.seq_file.specs.text_lines.Numerals.{small_number, is_small_number}
use Rattle.seq_file.proofs.text_lines.Filing.{Laws}
use Rattle.seq_file.proofs.text_lines.Joining.{joined-free, joined-words, words-joined, has-words, all-written, AreSpelled, all-spelled}
use Rattle.seq_file.proofs.text_lines.Marking.{IsFreeOf, free-prefix, decimal-free}
use Rattle.seq_file.proofs.text_lines.Narrowing.{number-small, small_number-of_decimal, word-of_small_number}
use Rattle.input_file.specs.declared.errors.InputError.TheVariants.{TooMany}
use Rattle.input_file.specs.ChoiceFiles.{most_choices, choices_line, choices_of_line, IsChoiceLine, choice_count, AreChoices, choice_fault, choice_format}
use Rattle.common_lemmas.proofs.Truth.{clash}

-- the count is within the limit exactly where the line has no fault
within-sound : (n : ℕ) → n ≤ most_choices → cond (nat_le n most_choices) None (Some (TooMany most_choices)) ≡ None
within-sound n h = ap (λ b. cond b None (Some (TooMany most_choices))) (le-leb n most_choices h)

pub sound-within : (n : ℕ) → cond (nat_le n most_choices) None (Some (TooMany most_choices)) ≡ None → n ≤ most_choices
sound-within n h = elim (cases_Bool (nat_le n most_choices)) [
  | inl e ↦ leb-true n most_choices e
  | inr e ↦ clash (sym (ap is_some (sym (ap (λ b. cond b None (Some (TooMany most_choices))) e) ∙ h)))
]

there : (xs : List (List ℕ)) (y : List ℕ) (ys : List (List ℕ)) → AreChoices (xs ++ (y ∷ ys)) → choice_fault xs (Some y) ≡ None
there xs y ys fit = within-sound (choice_count xs + length y) (omega (arith, fit.few, sum_by-append length xs (y ∷ ys), sum_by-cons length y ys))

-- a line that is read has some choices, of 32 bits, and is their text
spelled : (line y : List ℕ) → choices_of_line line ≡ Some y → AreSpelled decimal (λ n. is_small_number n ≡ true) (words_of line) y
spelled line y h = all-spelled small_number decimal (λ n. is_small_number n ≡ true) word-of_small_number (words_of line) y h

good : (line y : List ℕ) → choices_of_line line ≡ Some y → IsChoiceLine y
good line y h =
    let is : AreSpelled decimal (λ n. is_small_number n ≡ true) (words_of line) y = spelled line y h in
    record { some = λ e. has-words line (is.texts ∙ ap (map decimal) e); small = is.good }

one_more : (xs : List (List ℕ)) (y line : List ℕ) → AreChoices xs → choices_of_line line ≡ Some y → choice_fault xs (Some y) ≡ None → AreChoices (xs ++ (y ∷ []))
one_more xs y line fit read sound = record {
  each = All-push IsChoiceLine xs y fit.each (good line y read);
  few = omega (arith, sound-within (choice_count xs + length y) sound, sum_by_push length xs y);
}

-- no mark below the digits stands in a number of 32 bits
numbers-free : (m : ℕ) → m < 45 → (ns : List ℕ) → All (λ n. is_small_number n ≡ true) ns → All (IsFreeOf m) (map decimal ns)
numbers-free m h [] small = All-nil (IsFreeOf m)
numbers-free m h (n ∷ ns) small =
    All-cons (IsFreeOf m) (decimal n) (map decimal ns) (decimal-free m n h (number-small n (All-head (λ n. is_small_number n ≡ true) n ns small)))
    (numbers-free m h ns (All-tail (λ n. is_small_number n ≡ true) n ns small))

free : (y : List ℕ) → IsChoiceLine y → IsFreeOf 10 (choices_line y)
free y line = joined-free 10 (map decimal y) refl (numbers-free 10 (omega arith) y line.small)

words-written : (y : List ℕ) → y ≢ [] → All (IsFreeOf 32) (map decimal y) → words_of (choices_line y) ≡ map decimal y
words-written [] some words = absurd (some refl)
words-written (n ∷ ns) some words = joined-words (decimal n) (map decimal ns) words

written : (y : List ℕ) → IsChoiceLine y → choices_of_line (choices_line y) ≡ Some y
written y line =
    ap (all_of small_number) (words-written y line.some (numbers-free 32 (omega arith) y line.small))
    ∙ all-written small_number decimal (λ n. is_small_number n ≡ true) small_number-of_decimal y line.small

pub choice-laws : Laws choice_format IsChoiceLine
choice-laws = record {
  header = free-prefix 10 (codes "ded-choices 1") [] refl (All-nil (λ b. (b == 10) ≡ false));
  empty = record { each = All-nil IsChoiceLine; few = omega arith };
  there = there;
  one_more = one_more;
  all_good = λ xs fit. fit.each;
  next_good = λ xs y line read sound. good line y read;
  free = free;
  written = written;
  spelled = λ line y read line-good. words-joined line (map decimal y) (spelled line y read).texts;
}

-- the choices of one more line
pub concat-push : (xs : List (List ℕ)) (y : List ℕ) → concat (xs ++ (y ∷ [])) ≡ concat xs ++ y
concat-push xs y = concat-append xs (y ∷ []) ∙ ap (λ t. concat xs ++ t) (append-nil y)

-- the lines have as many choices as they say
pub concat-length : (xs : List (List ℕ)) → length (concat xs) ≡ choice_count xs
concat-length [] = refl
concat-length (x ∷ xs) = length-append x (concat xs) ∙ ap (λ n. length x + n) (concat-length xs) ∙ sym (sum_by-cons length x xs)
