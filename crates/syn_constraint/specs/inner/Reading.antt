-- What the reader has of a line, and what it finds next in a file.
use Rattle.std.specs.Prelude.{◌≡◌, ℕ, ℤ, pos, negsuc, List, [], ◌∷◌, Option, Some, None, option_map, option_copied}
use Rattle.std.specs.Borrow.{Bor}
use Rattle.syn_event.specs.declared.numbering.EntryInfo.{EntryInfo}
use Rattle.syn_event.specs.Numbering.{Numbering, entry_at}
use Rattle.seq_file.specs.text_lines.Lines.{is_line_end, cut, words_of}
use Rattle.seq_file.specs.text_lines.Capped.{capped_integer}
use Rattle.syn_constraint.specs.declared.constraints.Num.{Num}
use Rattle.syn_constraint.specs.declared.constraints.Num.TheVariants.{Every, Same, Exact}
use Rattle.syn_constraint.specs.declared.constraints.Pattern.{Pattern}
use Rattle.syn_constraint.specs.declared.constraints.Constraint.{Constraint}
use Rattle.syn_constraint.specs.declared.constraints.Constraint.TheVariants.{Before, Most}
use Rattle.syn_constraint.specs.Lines.{Line, Front, constraint_of, pattern_with, line_of_text}
use Rattle.syn_constraint.specs.Files.{fault_behind}

-- the entry of an exact number
abbrev pub entry_of : Numbering → ℤ → Option EntryInfo
entry_of numbers (pos e) = entry_at numbers e
entry_of numbers (negsuc e) = None

-- the words that are left of a line, given what stands behind those that were read
abbrev pub words_left : Option (List ℕ) → List (List ℕ)
words_left (Some rest) = words_of rest
words_left None = []

-- what the reader found at the front of words, with the words behind it
abbrev pub told : {A : Type 0} → Option (A × Option (Bor (List ℕ))) → Front A
told {A} found = option_map {U = A × List (List ℕ)} (λ x. (x.0, words_left (option_copied x.1))) found

-- the front with another value
abbrev pub front_with : {A : Type 0} → (A → A) → Front A → Front A
front_with {A} f front = option_map {U = A × List (List ℕ)} (λ x. (f x.0, x.1)) front

-- numbers up to the cap, as the reader has them
abbrev pub capped_num : Num → Num
capped_num Every = Every
capped_num Same = Same
capped_num (Exact z) = Exact (capped_integer z)

-- a pattern with numbers up to the cap
abbrev pub capped_pattern : Pattern → Pattern
capped_pattern pattern = pattern_with pattern.letter (capped_num pattern.one) (capped_num pattern.two) (capped_num pattern.three)

-- a constraint with numbers up to the cap
abbrev pub capped_constraint : Constraint → Constraint
capped_constraint (Before early late) = Before (capped_pattern early) (capped_pattern late)
capped_constraint (Most limit counted opens closes) = Most limit (capped_pattern counted) (capped_pattern opens) (capped_pattern closes)

-- the rest of a file begins with a line that has no fault behind so many, and writes the constraint; and it goes on with the bytes behind it
pub record IsNextConstraint (numbers : Numbering) (count : ℕ) (rest : List ℕ) (constraint : Constraint) (behind : List ℕ) : Type 0 where
  pub text : List ℕ
  pub line : Line
  pub cuts : cut is_line_end rest ≡ Some (text, behind)
  pub writes : line_of_text text ≡ Some line
  pub sound : fault_behind numbers count (Some line) ≡ None
  pub is : constraint ≡ constraint_of line
