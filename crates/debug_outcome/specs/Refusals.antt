-- Why the program ends with another status than that of what it was asked for: the status of each refusal, and its line on the error output (this project's rules).
use Rattle.std.specs.Prelude.{ℕ, List, codes, decimal}
use Rattle.ded_io.specs.Written.{◌⧺◌}
use Rattle.ada_static_rules.specs.declared.refusals.Rule.{Rule as TypeRule}
use Rattle.ada_static_rules.specs.declared.refusals.Rule.TheVariants as typing
use Rattle.ada_check_rules.specs.declared.rules.refusals.Rule.{Rule as CheckRule}
use Rattle.ada_check_rules.specs.declared.rules.refusals.Rule.TheVariants as checking
use Rattle.syn_event.specs.declared.limits.What.{What}
use Rattle.syn_event.specs.declared.limits.What.TheVariants as counted
use Rattle.debug_outcome.specs.declared.refusal.Refusal.{Refusal}
use Rattle.debug_outcome.specs.declared.refusal.Refusal.TheVariants.{BadText, BadProgram, Usage, BadSequence, NoOrder, BadInputs, BadChoices, BadConstraints, Unreadable, TooLong, TooMany, LongText}
use Rattle.debug_outcome.specs.declared.refusal.TextFault.{TextFault}
use Rattle.debug_outcome.specs.declared.refusal.TextFault.TheVariants.{Misspelled, LongToken, TooNested}
use Rattle.debug_outcome.specs.declared.refusal.Misspelling.{Misspelling}
use Rattle.debug_outcome.specs.declared.refusal.Misspelling.TheVariants as misspelling
use Rattle.debug_outcome.specs.declared.refusal.RuleFault.{RuleFault}
use Rattle.debug_outcome.specs.declared.refusal.RuleFault.TheVariants.{Broken, Passed}
use Rattle.debug_outcome.specs.declared.refusal.Rule.{Rule}
use Rattle.debug_outcome.specs.declared.refusal.Rule.TheVariants.{OfTypes, OfCheck}
use Rattle.debug_outcome.specs.declared.refusal.SequenceFault.{SequenceFault}
use Rattle.debug_outcome.specs.declared.refusal.SequenceFault.TheVariants as fault
use Rattle.debug_outcome.specs.declared.refusal.InputFault.{InputFault}
use Rattle.debug_outcome.specs.declared.refusal.InputFault.TheVariants as input
use Rattle.debug_outcome.specs.declared.refusal.ConstraintFault.{ConstraintFault}
use Rattle.debug_outcome.specs.declared.refusal.ConstraintFault.TheVariants as asked
use Rattle.debug_outcome.specs.declared.refusal.Listed.TheVariants as listed

-- a text that has a fault is refused, and one that passes a limit is told so
abbrev pub text_status : TextFault → ℕ
text_status (Misspelled what line column) = 1
text_status (LongToken limit) = 8
text_status (TooNested limit) = 8

-- a program that breaks a rule is refused, and one that passes a limit is told so
abbrev pub rule_status : RuleFault → ℕ
rule_status (Broken rule line column) = 1
rule_status (Passed what limit) = 8

-- the status of a refusal
abbrev pub refusal_status : Refusal → ℕ
refusal_status (BadText found) = text_status found
refusal_status (BadProgram found) = rule_status found
refusal_status Usage = 2
refusal_status (BadSequence found line) = 3
refusal_status (NoOrder task) = 3
refusal_status (BadInputs found line) = 12
refusal_status (BadChoices found line) = 12
refusal_status (BadConstraints found line) = 15
refusal_status (Unreadable name) = 6
refusal_status (TooLong limit) = 8
refusal_status (TooMany what limit) = 8
refusal_status (LongText limit) = 8

-- the words before the name of a file that cannot be read; they stay shut, so that they do not compute away
unfoldable pub unread_words : List ℕ
unread_words = codes "ded: cannot read "

-- the words that the line of a refusal begins with, or all of it; they stay shut too
unfoldable pub first_words : Refusal → List ℕ
first_words (BadText (Misspelled what line column)) = codes "ded: program refused: "
first_words (BadText (LongToken limit)) = codes "ded: limit token "
first_words (BadText (TooNested limit)) = codes "ded: limit nesting "
first_words (BadProgram (Broken rule line column)) = codes "ded: program refused: "
first_words (BadProgram (Passed what limit)) = codes "ded: limit "
first_words Usage = codes "ded: usage\n"
first_words (BadSequence found line) = codes "ded: sequence refused: "
first_words (NoOrder task) = codes "ded: sequence refused: NoOrder at task "
first_words (BadInputs found line) = codes "ded: inputs refused: "
first_words (BadChoices found line) = codes "ded: choices refused: "
first_words (BadConstraints found line) = codes "ded: constraints refused: "
first_words (Unreadable name) = unread_words
first_words (TooLong limit) = codes "ded: limit file "
first_words (TooMany listed.Events limit) = codes "ded: limit events "
first_words (TooMany listed.Inputs limit) = codes "ded: limit inputs "
first_words (TooMany listed.Choices limit) = codes "ded: limit choices "
first_words (TooMany listed.Constraints limit) = codes "ded: limit constraints "
first_words (LongText limit) = codes "ded: limit text "

-- the line where there was no memory; it stays shut too
unfoldable pub memory_line : List ℕ
memory_line = codes "ded: out of memory\n"

-- the name of what is wrong at a place of a text
abbrev pub misspelling_name : Misspelling → List ℕ
misspelling_name misspelling.BadByte = codes "BadByte"
misspelling_name misspelling.OpenString = codes "OpenString"
misspelling_name misspelling.BadNumber = codes "BadNumber"
misspelling_name misspelling.Syntax = codes "Syntax"

-- the name of a rule on names and types
abbrev pub type_rule_name : TypeRule → List ℕ
type_rule_name typing.Unknown = codes "Unknown"
type_rule_name typing.Duplicate = codes "Duplicate"
type_rule_name typing.Mismatch = codes "Mismatch"
type_rule_name typing.NotStatic = codes "NotStatic"
type_rule_name typing.RangeBad = codes "RangeBad"
type_rule_name typing.NotVariable = codes "NotVariable"
type_rule_name typing.ReadOut = codes "ReadOut"
type_rule_name typing.ArgCount = codes "ArgCount"
type_rule_name typing.ChoiceBad = codes "ChoiceBad"
type_rule_name typing.ArrayUse = codes "ArrayUse"
type_rule_name typing.TextUse = codes "TextUse"
type_rule_name typing.NotException = codes "NotException"

-- the name of a rule after those
abbrev pub check_rule_name : CheckRule → List ℕ
check_rule_name checking.SharedVariable = codes "SharedVariable"
check_rule_name checking.AcceptPlace = codes "AcceptPlace"
check_rule_name checking.SelectForm = codes "SelectForm"
check_rule_name checking.SameEntryTwice = codes "SameEntryTwice"
check_rule_name checking.ReservedName = codes "ReservedName"
check_rule_name checking.MainEntry = codes "MainEntry"
check_rule_name checking.AbortOrder = codes "AbortOrder"
check_rule_name checking.BodyMissing = codes "BodyMissing"
check_rule_name checking.ExitPlace = codes "ExitPlace"
check_rule_name checking.RaisePlace = codes "RaisePlace"
check_rule_name (checking.Limit what limit) = codes "Limit"

-- the name of a rule
abbrev pub rule_name : Rule → List ℕ
rule_name (OfTypes rule) = type_rule_name rule
rule_name (OfCheck rule) = check_rule_name rule

-- the word for what a limit counts
abbrev pub what_word : What → List ℕ
what_word counted.Name = codes "name"
what_word counted.Nesting = codes "nesting"
what_word counted.Tasks = codes "tasks"
what_word counted.Entries = codes "entries"
what_word counted.Members = codes "members"
what_word counted.Components = codes "components"
what_word counted.Alternatives = codes "alternatives"
what_word counted.Formals = codes "formals"
what_word counted.Copies = codes "copies"

-- the name of what is wrong with a line of a sequence
abbrev pub fault_name : SequenceFault → List ℕ
fault_name fault.BadLine = codes "BadLine"
fault_name fault.OtherProgram = codes "OtherProgram"
fault_name fault.BadNumber = codes "BadNumber"
fault_name fault.AfterEnd = codes "AfterEnd"
fault_name fault.BadOrder = codes "BadOrder"

-- the name of what is wrong with a line of inputs or choices
abbrev pub input_fault_name : InputFault → List ℕ
input_fault_name input.BadLine = codes "BadLine"
input_fault_name input.UnknownTask = codes "UnknownTask"

-- the name of what is wrong with a line of constraints
abbrev pub constraint_fault_name : ConstraintFault → List ℕ
constraint_fault_name asked.BadLine = codes "BadLine"
constraint_fault_name asked.BadNumber = codes "BadNumber"

-- words, a name and the end of the line
abbrev pub named_line : List ℕ → List ℕ → List ℕ
named_line words name = words ⧺ (name ⧺ codes "\n")

-- words, the name of what is wrong, and the number of the line
abbrev pub fault_line : List ℕ → List ℕ → ℕ → List ℕ
fault_line words name line = words ⧺ (name ⧺ (codes " at line " ⧺ (decimal line ⧺ codes "\n")))

-- words, the name of what is wrong or in the way, and its place
abbrev pub place_line : List ℕ → List ℕ → ℕ → ℕ → List ℕ
place_line words name line column = words ⧺ (name ⧺ (codes " at " ⧺ (decimal line ⧺ (codes ":" ⧺ (decimal column ⧺ codes "\n")))))

-- words, what a limit counts, and the limit
abbrev pub passed_line : List ℕ → What → ℕ → List ℕ
passed_line words what limit = words ⧺ (what_word what ⧺ (codes " " ⧺ (decimal limit ⧺ codes "\n")))

-- the line for a text's fault
abbrev pub text_line : TextFault → List ℕ
text_line (Misspelled what line column) = place_line (first_words (BadText (Misspelled what line column))) (misspelling_name what) line column
text_line (LongToken limit) = named_line (first_words (BadText (LongToken limit))) (decimal limit)
text_line (TooNested limit) = named_line (first_words (BadText (TooNested limit))) (decimal limit)

-- the line for a program's fault
abbrev pub rule_line : RuleFault → List ℕ
rule_line (Broken rule line column) = place_line (first_words (BadProgram (Broken rule line column))) (rule_name rule) line column
rule_line (Passed what limit) = passed_line (first_words (BadProgram (Passed what limit))) what limit

-- The line that a refusal puts on the error output, with the name of the file of which it speaks.
abbrev pub refusal_line : Refusal → List ℕ
refusal_line (BadText found) = text_line found
refusal_line (BadProgram found) = rule_line found
refusal_line Usage = first_words Usage
refusal_line (BadSequence found line) = fault_line (first_words (BadSequence found line)) (fault_name found) line
refusal_line (NoOrder task) = named_line (first_words (NoOrder task)) (decimal task)
refusal_line (BadInputs found line) = fault_line (first_words (BadInputs found line)) (input_fault_name found) line
refusal_line (BadChoices found line) = fault_line (first_words (BadChoices found line)) (input_fault_name found) line
refusal_line (BadConstraints found line) = fault_line (first_words (BadConstraints found line)) (constraint_fault_name found) line
refusal_line (Unreadable name) = named_line unread_words name.now
refusal_line (TooLong limit) = named_line (first_words (TooLong limit)) (decimal limit)
refusal_line (TooMany what limit) = named_line (first_words (TooMany what limit)) (decimal limit)
refusal_line (LongText limit) = named_line (first_words (LongText limit)) (decimal limit)
