-- The lines of a sequence file: the header, and one line for each event (this project's format).
use Rattle.std.specs.Prelude.{ℕ, ℤ, Bool, false, ◌&&◌, ◌||◌, ◌==◌, nat_le, bytes_eq, List, [], ◌∷◌, codes, Option, Some, None, option_map, if◌then◌else◌}
use Rattle.event_machine.specs.declared.Event.{Event}
use Rattle.event_machine.specs.declared.Event.TheVariants.{R, E, S, D, C, T, F, X, B, Z}
use Rattle.common_lemmas.specs.Following.{begins, every}
use Rattle.seq_file.specs.text_lines.Lines.{words_of}
use Rattle.seq_file.specs.text_lines.Numerals.{is_digit, count, integer}

-- both numbers, where both words are numbers
abbrev pub with_two : {A B X : Type 0} → (A → B → X) → Option A → Option B → Option X
with_two make (Some a) (Some b) = Some (make a b)
with_two make (Some a) None = None
with_two make None b = None

-- what is made of three values, where all three are there
abbrev pub with_three : {A B C X : Type 0} → (A → B → C → X) → Option A → Option B → Option C → Option X
with_three make (Some a) b c = with_two (make a) b c
with_three make None b c = None

-- the event of a letter alone
abbrev pub lone_event : List ℕ → Option Event
lone_event letter = if bytes_eq letter (codes "Z") then Some Z else None

-- the event of a letter and one task
abbrev pub task_event : List ℕ → Option ℕ → Option Event
task_event letter a =
    if bytes_eq letter (codes "E") then option_map E a
    else (if bytes_eq letter (codes "S") then option_map S a
    else (if bytes_eq letter (codes "X") then option_map X a else None))

-- the event of a letter and two numbers
abbrev pub pair_event : List ℕ → Option ℕ → Option ℕ → Option Event
pair_event letter a b =
    if bytes_eq letter (codes "D") then with_two D a b
    else (if bytes_eq letter (codes "B") then with_two B a b else None)

-- the event of a letter, a caller, an entry and an index
abbrev pub call_event : List ℕ → Option ℕ → Option ℕ → Option ℤ → Option Event
call_event letter c e i =
    if bytes_eq letter (codes "R") then with_three R c e i
    else (if bytes_eq letter (codes "C") then with_three C c e i
    else (if bytes_eq letter (codes "T") then with_three T c e i
    else (if bytes_eq letter (codes "F") then with_three F c e i else None)))

-- the event that the words of a line write
abbrev pub event_of_words : List (List ℕ) → Option Event
event_of_words (letter ∷ []) = lone_event letter
event_of_words (letter ∷ a ∷ []) = task_event letter (count a)
event_of_words (letter ∷ a ∷ b ∷ []) = pair_event letter (count a) (count b)
event_of_words (letter ∷ a ∷ b ∷ c ∷ []) = call_event letter (count a) (count b) (integer c)
event_of_words _ = None

-- The event that a line writes, with numbers of any size; none where the line is not in the grammar.
abbrev pub event_of_line : List ℕ → Option Event
event_of_line line = event_of_words (words_of line)

-- a letter of upper case
abbrev pub is_capital : ℕ → Bool
is_capital b = nat_le 65 b && nat_le b 90

-- a letter of upper case or a digit
abbrev pub is_name_part : ℕ → Bool
is_name_part b = is_capital b || is_digit b

-- a letter or a digit, or an underscore with one of these behind it (2.3)
abbrev pub name_goes_on : ℕ → List ℕ → Bool
name_goes_on b rest = is_name_part b || (b == 95 && begins is_name_part rest)

-- an identifier in upper case: a letter, then letters, digits and single underscores between them (2.3)
abbrev pub is_upper_name : List ℕ → Bool
is_upper_name [] = false
is_upper_name (b ∷ rest) = is_capital b && every name_goes_on rest

-- What a header says: the name of a program, and how many tasks beside main and entries it has.
pub record Header : Type 0 where
  pub main : List ℕ
  pub tasks : ℕ
  pub entries : ℕ

-- a header with the name of a program, its tasks beside main and its entries
abbrev pub header_with : List ℕ → ℕ → ℕ → Header
header_with main tasks entries = record { main = main; tasks = tasks; entries = entries }

-- the word, where it is an identifier in upper case (2.3)
abbrev pub upper_name : List ℕ → Option (List ℕ)
upper_name word = if is_upper_name word then Some word else None

-- the header that the words of a line write in the format of this number
abbrev pub header_of_format : List ℕ → List (List ℕ) → Option Header
header_of_format number (format ∷ version ∷ main ∷ tasks ∷ entries ∷ []) =
    if bytes_eq format (codes "ded-seq") && bytes_eq version number
    then with_three header_with (upper_name main) (count tasks) (count entries) else None
header_of_format number _ = None

-- the header that the words of a line write
abbrev pub header_of_words : List (List ℕ) → Option Header
header_of_words words = header_of_format (codes "1") words

-- The header that a line writes, with counts of any size; none where the line is not in the grammar.
abbrev pub header_of_line : List ℕ → Option Header
header_of_line line = header_of_words (words_of line)
