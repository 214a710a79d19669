-- The lines of a constraint file, as texts and as what their words write (this project's format).
use Rattle.std.specs.Prelude.{ℕ, Bool, true, false, ◌&&◌, nat_le, nat_lt, bytes_eq, List, [], ◌∷◌, ◌++◌, codes, decimal, map, take, Option, Some, None, option_map, option_and_then, if◌then◌else◌}
use Rattle.std.specs.Fmt.{signed_decimal}
use Rattle.std.specs.List.{join_with_byte, find}
use Rattle.seq_file.specs.text_lines.Lines.{words_of}
use Rattle.seq_file.specs.text_lines.Numerals.{integer, small_number, only_if}
use Rattle.syn_constraint.specs.declared.constraints.Num.{Num}
use Rattle.syn_constraint.specs.declared.constraints.Num.TheVariants.{Every, Same, Exact}
use Rattle.syn_constraint.specs.declared.constraints.Letter.{Letter}
use Rattle.syn_constraint.specs.declared.constraints.Letter.TheVariants.{R, E, S, D, C, T, F, X, B, Z, Whole}
use Rattle.syn_constraint.specs.declared.constraints.Pattern.{Pattern}
use Rattle.syn_constraint.specs.declared.constraints.Constraint.{Constraint}
use Rattle.syn_constraint.specs.declared.constraints.Constraint.TheVariants.{Before, Most}
use Rattle.syn_constraint.specs.Matching.{asked_of}

-- What a line says.
pub data Line : Type 0 where
  -- `before A B`
  BeforeLine : Pattern → Pattern → Line
  -- `never X A B`
  NeverLine : Pattern → Pattern → Pattern → Line
  -- `most N X A B`
  MostLine : ℕ → Pattern → Pattern → Pattern → Line

-- the constraint of a line; `never` is `most 0`
abbrev pub constraint_of : Line → Constraint
constraint_of (BeforeLine early late) = Before early late
constraint_of (NeverLine counted opens closes) = Most 0 counted opens closes
constraint_of (MostLine limit counted opens closes) = Most limit counted opens closes

-- the largest N of a line (this project's limit)
abbrev pub largest_limit : ℕ
largest_limit = 200000

-- ---- texts

-- the word of a letter, and of every event
abbrev pub letter_text : Letter → List ℕ
letter_text R = codes "R"
letter_text E = codes "E"
letter_text S = codes "S"
letter_text D = codes "D"
letter_text C = codes "C"
letter_text T = codes "T"
letter_text F = codes "F"
letter_text X = codes "X"
letter_text B = codes "B"
letter_text Z = codes "Z"
letter_text Whole = codes "any"

-- how many numbers an event of the letter has
abbrev pub number_count : Letter → ℕ
number_count R = 3
number_count E = 1
number_count S = 1
number_count D = 2
number_count C = 3
number_count T = 3
number_count F = 3
number_count X = 1
number_count B = 2
number_count Z = 0
number_count Whole = 0

-- the word of a number
abbrev pub num_text : Num → List ℕ
num_text Every = codes "*"
num_text Same = codes "?"
num_text (Exact z) = signed_decimal z

-- the words of a pattern: its letter, and the numbers that this has
abbrev pub pattern_words : Pattern → List (List ℕ)
pattern_words pattern = letter_text pattern.letter ∷ map num_text (take (number_count pattern.letter) (asked_of pattern))

-- the words of a line
abbrev pub line_words : Line → List (List ℕ)
line_words (BeforeLine early late) = codes "before" ∷ (pattern_words early ++ pattern_words late)
line_words (NeverLine counted opens closes) = codes "never" ∷ (pattern_words counted ++ (pattern_words opens ++ pattern_words closes))
line_words (MostLine limit counted opens closes) =
    codes "most" ∷ (decimal limit ∷ (pattern_words counted ++ (pattern_words opens ++ pattern_words closes)))

-- The text of a line: its words, with a blank between each two.
abbrev pub line_text : Line → List ℕ
line_text line = join_with_byte 32 (line_words line)

-- ---- what words write

-- all letters, and every event
abbrev pub letters : List Letter
letters = R ∷ E ∷ S ∷ D ∷ C ∷ T ∷ F ∷ X ∷ B ∷ Z ∷ Whole ∷ []

-- the letter whose word this is
abbrev pub letter_of_word : List ℕ → Option Letter
letter_of_word word = find (λ letter. bytes_eq word (letter_text letter)) letters

-- what a pattern asks by a word, with exact numbers of any size
abbrev pub num_of_word : List ℕ → Option Num
num_of_word word =
    if bytes_eq word (codes "*") then Some Every else (if bytes_eq word (codes "?") then Some Same else option_map Exact (integer word))

-- the N of a line, in decimal and without a sign
abbrev pub limit_of_word : List ℕ → Option ℕ
limit_of_word word = option_and_then (only_if (λ n. nat_le n largest_limit)) (small_number word)

-- something that words begin with, and the words behind it
abbrev pub Front : Type 0 → Type 0
Front A = Option (A × List (List ℕ))

-- what is made of the front and of the words behind it
abbrev pub on_front : {A X : Type 0} → (A → List (List ℕ) → Option X) → Front A → Option X
on_front make None = None
on_front make (Some x) = make x.0 x.1

-- what the first word writes
abbrev pub first_by : {A : Type 0} → (List ℕ → Option A) → List (List ℕ) → Front A
first_by read [] = None
first_by {A} read (word ∷ rest) = option_map {U = A × List (List ℕ)} (λ x. (x, rest)) (read word)

-- what the first word asks of a number, where the letter has that number; where it has not, every number will do
abbrev pub num_front : Bool → List (List ℕ) → Front Num
num_front true words = first_by num_of_word words
num_front false words = Some (Every, words)

-- a pattern
abbrev pub pattern_with : Letter → Num → Num → Num → Pattern
pattern_with letter one two three = record { letter = letter; one = one; two = two; three = three }

-- the pattern with the letter whose numbers the words begin with
abbrev pub numbers_front : Letter → List (List ℕ) → Front Pattern
numbers_front letter words =
    on_front (λ one a. on_front (λ two b. on_front (λ three c. Some (pattern_with letter one two three, c))
    (num_front (nat_lt 2 (number_count letter)) b))
    (num_front (nat_lt 1 (number_count letter)) a))
    (num_front (nat_lt 0 (number_count letter)) words)

-- the pattern that the words begin with
abbrev pub pattern_front : List (List ℕ) → Front Pattern
pattern_front words = on_front numbers_front (first_by letter_of_word words)

-- the value, where no words are left
abbrev pub at_end : {X : Type 0} → X → List (List ℕ) → Option X
at_end x [] = Some x
at_end x (word ∷ rest) = None

-- the pattern that the words write
abbrev pub pattern_of : List (List ℕ) → Option Pattern
pattern_of words = on_front at_end (pattern_front words)

-- what is made of the two patterns that the words write
abbrev pub of_two : {X : Type 0} → (Pattern → Pattern → X) → List (List ℕ) → Option X
of_two make words = on_front (λ a behind. option_map (make a) (pattern_of behind)) (pattern_front words)

-- what is made of the three patterns that the words write
abbrev pub of_three : {X : Type 0} → (Pattern → Pattern → Pattern → X) → List (List ℕ) → Option X
of_three make words = on_front (λ a behind. of_two (make a) behind) (pattern_front words)

-- the line that the words write
abbrev pub line_of_words : List (List ℕ) → Option Line
line_of_words [] = None
line_of_words (word ∷ rest) =
    if bytes_eq word (codes "before") then of_two BeforeLine rest
    else (if bytes_eq word (codes "never") then of_three NeverLine rest
    else (if bytes_eq word (codes "most") then on_front (λ limit behind. of_three (MostLine limit) behind) (first_by limit_of_word rest) else None))

-- The line that a text writes, with exact numbers of any size; none where the text is not in the grammar.
abbrev pub line_of_text : List ℕ → Option Line
line_of_text text = line_of_words (words_of text)
