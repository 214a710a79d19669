-- The format of input files keeps the laws of formats: its lines are read as they are written.
use Rattle.std.proofs.Common.{◌≡◌, ℕ, ℤ, ◌+◌, ◌^◌, ◌<◌, ◌≤◌, Bool, true, false, cond, List, [], ◌∷◌, ◌++◌, length, map, All, Option, None, Some, refl, ap, ◌∙◌, sym, subst, arith, decimal}
use Rattle.std.specs.Fmt.{signed_decimal}
use Rattle.std.specs.Prelude.{◌==◌, ◌||◌, nat_le, is_some, codes}
use Rattle.std.proofs.lemmas.Bool.{le-leb, leb-true, ltb-true}
use Rattle.std.proofs.lemmas.List.Elements.{All-nil, All-cons, All-head, All-tail, All-push}
use Rattle.std.proofs.lemmas.List.Sums.{sum_by-append, sum_by-cons, sum_by_push}
use Rattle.syn_event.specs.Numbering.{Numbering}
use Rattle.seq_file.specs.text_lines.Lines.{words_of, with_two, all_of}
use Rattle.seq_file.specs.text_lines.Numerals.{count, small_integer, is_small_integer}
use Rattle.seq_file.proofs.text_lines.Filing.{Laws}
use Rattle.seq_file.proofs.text_lines.Joining.{joined-free, joined-words, words-joined, all-written, AreSpelled, all-spelled, two-case}
use Rattle.seq_file.proofs.text_lines.Marking.{IsFreeOf, free-prefix, decimal-free, signed-free}
use Rattle.seq_file.proofs.text_lines.Narrowing.{integer-small, small_integer-of_signed, word-of_small_integer}
use Rattle.seq_file.proofs.text_lines.Spelling.{count-of_decimal, word-of_count}
use Rattle.input_file.specs.declared.errors.InputError.{InputError}
use Rattle.input_file.specs.declared.errors.InputError.TheVariants.{BadLine, UnknownTask, TooMany}
use Rattle.input_file.specs.InputFiles.{most_inputs, InputLine, input_with, input_text, input_of_words, input_of_line, has_line, input_count, has_task, AreApart, IsInputLine, AreInputLines, input_fault, input_format}
use Rattle.common_lemmas.proofs.Numbers.{unequal_turned}
use Rattle.common_lemmas.proofs.Truth.{clash, or_left, or_right}

or-none : (a b : Bool) → a ≡ false → b ≡ false → (a || b) ≡ false
or-none a b h k = ap (λ t. t || b) h ∙ k

-- no two of the lines are those of one task: the lines before the next, and the next
middle-other : (t : ℕ) (xs : List InputLine) (y : InputLine) (ys : List InputLine) → has_line t (xs ++ (y ∷ ys)) ≡ false → (y.task == t) ≡ false
middle-other t [] y ys h = or_left (y.task == t) (has_line t ys) h
middle-other t (x ∷ xs) y ys h = middle-other t xs y ys (or_right (x.task == t) (has_line t (xs ++ (y ∷ ys))) h)

apart-there : (xs : List InputLine) (y : InputLine) (ys : List InputLine) → AreApart (xs ++ (y ∷ ys)) → has_line y.task xs ≡ false
apart-there [] y ys h = refl
apart-there (x ∷ xs) y ys h =
    or-none (x.task == y.task) (has_line y.task xs) (unequal_turned y.task x.task (middle-other x.task xs y ys h.0)) (apart-there xs y ys h.1)

pub has-push_other : (t : ℕ) (xs : List InputLine) (y : InputLine) → (y.task == t) ≡ false → has_line t (xs ++ (y ∷ [])) ≡ has_line t xs
has-push_other t [] y h = ap (λ b. b || false) h
has-push_other t (x ∷ xs) y h = ap (λ b. (x.task == t) || b) (has-push_other t xs y h)

apart-push : (xs : List InputLine) (y : InputLine) → AreApart xs → has_line y.task xs ≡ false → AreApart (xs ++ (y ∷ []))
apart-push [] y h k = (refl, tt)
apart-push (x ∷ xs) y h k =
    (has-push_other x.task xs y (unequal_turned x.task y.task (or_left (x.task == y.task) (has_line y.task xs) k)) ∙ h.0, apart-push xs y h.1 (or_right (x.task == y.task) (has_line y.task xs) k))

-- what it means that a line has no fault
pub record IsSoundBehind (numbers : Numbering) (before : List InputLine) (line : InputLine) : Type 0 where
  pub first : has_line line.task before ≡ false
  pub known : has_task numbers line.task ≡ true
  pub few : input_count before + length line.values ≤ most_inputs

sound-from : (numbers : Numbering) (before : List InputLine) (line : InputLine) → IsSoundBehind numbers before line → input_fault numbers before (Some line) ≡ None
sound-from numbers before line sound =
    let many : Option InputError = cond (nat_le (input_count before + length line.values) most_inputs) None (Some (TooMany most_inputs)) in
    ap (λ b. cond b (Some (BadLine (length before + 2))) (cond (has_task numbers line.task) many (Some (UnknownTask (length before + 2))))) sound.first
    ∙ ap (λ b. cond b many (Some (UnknownTask (length before + 2)))) sound.known
    ∙ ap (λ b. cond b None (Some (TooMany most_inputs))) (le-leb (input_count before + length line.values) most_inputs sound.few)

none-not : {X A : Type 0} (x : X) → Some x ≡ None → A
none-not x h = clash (sym (ap is_some h))

sound-tests : {X : Type 0} (a b c : Bool) (x y z : X) → cond a (Some x) (cond b (cond c None (Some y)) (Some z)) ≡ None → (a ≡ false) × (b ≡ true) × (c ≡ true)
sound-tests true b c x y z h = none-not x h
sound-tests false false c x y z h = none-not z h
sound-tests false true false x y z h = none-not y h
sound-tests false true true x y z h = (refl, refl, refl)

pub sound-to : (numbers : Numbering) (before : List InputLine) (line : InputLine) → input_fault numbers before (Some line) ≡ None → IsSoundBehind numbers before line
sound-to numbers before line h =
    let all = sound-tests (has_line line.task before) (has_task numbers line.task) (nat_le (input_count before + length line.values) most_inputs) (BadLine (length before + 2)) (TooMany most_inputs) (UnknownTask (length before + 2)) h in
    record { first = all.0; known = all.1; few = leb-true (input_count before + length line.values) most_inputs all.2 }

known-there : (numbers : Numbering) (xs : List InputLine) (y : InputLine) (ys : List InputLine) → All (IsInputLine numbers) (xs ++ (y ∷ ys)) → IsInputLine numbers y
known-there numbers [] y ys h = All-head (IsInputLine numbers) y ys h
known-there numbers (x ∷ xs) y ys h = known-there numbers xs y ys (All-tail (IsInputLine numbers) x (xs ++ (y ∷ ys)) h)

abbrev values_count : InputLine → ℕ
values_count line = length line.values

there : (numbers : Numbering) (xs : List InputLine) (y : InputLine) (ys : List InputLine) → AreInputLines numbers (xs ++ (y ∷ ys)) → input_fault numbers xs (Some y) ≡ None
there numbers xs y ys fit =
    let line : IsInputLine numbers y = known-there numbers xs y ys fit.each in
    sound-from numbers xs y record {
      first = apart-there xs y ys fit.apart;
      known = line.known;
      few = omega (arith, fit.few, sum_by-append values_count xs (y ∷ ys), sum_by-cons values_count y ys);
    }

small-task : (numbers : Numbering) → length numbers.tasks < 2 ^ 32 → (task : ℕ) → has_task numbers task ≡ true → task < 2 ^ 64
small-task numbers short task h = omega (arith, short, ltb-true task (length numbers.tasks) h)

-- what the words of a line that is read are
record IsSpelled (words : List (List ℕ)) (line : InputLine) : Type 0 where
  word : List ℕ
  others : List (List ℕ)
  is : words ≡ word ∷ others
  task : count word ≡ Some line.task
  values : AreSpelled signed_decimal (λ z. is_small_integer z ≡ true) others line.values

spelled : (words : List (List ℕ)) (line : InputLine) → input_of_words words ≡ Some line → IsSpelled words line
spelled [] line h = clash (ap is_some h)
spelled (word ∷ others) line h =
    let (task, values, first, behind, same) = two-case input_with (count word) (all_of small_integer others) line h in
    record {
      word = word;
      others = others;
      is = refl;
      task = first ∙ ap (λ l. Some l.task) same;
      values = subst (AreSpelled signed_decimal (λ z. is_small_integer z ≡ true) others) (ap (λ l. l.values) same)
          (all-spelled small_integer signed_decimal (λ z. is_small_integer z ≡ true) word-of_small_integer others values behind);
    }

good : (numbers : Numbering) (xs : List InputLine) (y : InputLine) (line : List ℕ) → input_of_line line ≡ Some y → input_fault numbers xs (Some y) ≡ None → IsInputLine numbers y
good numbers xs y line read h =
    let sound : IsSoundBehind numbers xs y = sound-to numbers xs y h in
    let is : IsSpelled (words_of line) y = spelled (words_of line) y read in
    record { known = sound.known; small = is.values.good }

one_more : (numbers : Numbering) (xs : List InputLine) (y : InputLine) (line : List ℕ) → AreInputLines numbers xs → input_of_line line ≡ Some y → input_fault numbers xs (Some y) ≡ None → AreInputLines numbers (xs ++ (y ∷ []))
one_more numbers xs y line fit read h =
    let sound : IsSoundBehind numbers xs y = sound-to numbers xs y h in
    record {
      each = All-push (IsInputLine numbers) xs y fit.each (good numbers xs y line read h);
      apart = apart-push xs y fit.apart sound.first;
      few = omega (arith, sound.few, sum_by_push values_count xs y);
    }

-- no mark below the minus stands in an integer of 32 bits
integers-free : (m : ℕ) → m < 45 → (zs : List ℤ) → All (λ z. is_small_integer z ≡ true) zs → All (IsFreeOf m) (map signed_decimal zs)
integers-free m h [] small = All-nil (IsFreeOf m)
integers-free m h (z ∷ zs) small =
    All-cons (IsFreeOf m) (signed_decimal z) (map signed_decimal zs) (signed-free m z h (integer-small z (All-head (λ z. is_small_integer z ≡ true) z zs small)))
    (integers-free m h zs (All-tail (λ z. is_small_integer z ≡ true) z zs small))

words-free : (numbers : Numbering) → length numbers.tasks < 2 ^ 32 → (m : ℕ) → m < 45 → (y : InputLine) → IsInputLine numbers y → All (IsFreeOf m) (decimal y.task ∷ map signed_decimal y.values)
words-free numbers short m h y line =
    All-cons (IsFreeOf m) (decimal y.task) (map signed_decimal y.values) (decimal-free m y.task h (small-task numbers short y.task line.known)) (integers-free m h y.values line.small)

written : (numbers : Numbering) → length numbers.tasks < 2 ^ 32 → (y : InputLine) → IsInputLine numbers y → input_of_line (input_text y) ≡ Some y
written numbers short y line =
    ap input_of_words (joined-words (decimal y.task) (map signed_decimal y.values) (words-free numbers short 32 (omega arith) y line))
    ∙ ap (λ o. with_two input_with o (all_of small_integer (map signed_decimal y.values))) (count-of_decimal y.task (small-task numbers short y.task line.known))
    ∙ ap (λ o. with_two input_with (Some y.task) o) (all-written small_integer signed_decimal (λ z. is_small_integer z ≡ true) small_integer-of_signed y.values line.small)

is-text : (numbers : Numbering) → length numbers.tasks < 2 ^ 32 → (line : List ℕ) (y : InputLine) → input_of_line line ≡ Some y → IsInputLine numbers y → line ≡ input_text y
is-text numbers short line y read fits =
    let is : IsSpelled (words_of line) y = spelled (words_of line) y read in
    words-joined line (decimal y.task ∷ map signed_decimal y.values)
    (is.is ∙ ap (λ t. t ∷ is.others) (word-of_count is.word y.task is.task (small-task numbers short y.task fits.known)) ∙ ap (λ t. decimal y.task ∷ t) is.values.texts)

pub input-laws : (numbers : Numbering) → length numbers.tasks < 2 ^ 32 → Laws (input_format numbers) (IsInputLine numbers)
input-laws numbers short = record {
  header = free-prefix 10 (codes "ded-in 1") [] refl (All-nil (λ b. (b == 10) ≡ false));
  empty = record { each = All-nil (IsInputLine numbers); apart = tt; few = omega arith };
  there = there numbers;
  one_more = one_more numbers;
  all_good = λ xs fit. fit.each;
  next_good = λ xs y line read sound. good numbers xs y line read sound;
  free = λ y line. joined-free 10 (decimal y.task ∷ map signed_decimal y.values) refl (words-free numbers short 10 (omega arith) y line);
  written = written numbers short;
  spelled = is-text numbers short;
}
