-- The laws of the collecting text of each legal program in which abort statements can stand (this project's rule). They are told of programs without abort statements too.
use Rattle.std.specs.Prelude.{◌≡◌}
use Rattle.ada_tree.specs.PlainProgram.{PProgram}
use Rattle.ada_tree.specs.WellPlaced.{IsWellPlaced}
use Rattle.ada_static_rules.specs.Refusals.{types_in, MeetsTypeRules}
use Rattle.syn_event.specs.declared.numbering.Mode.TheVariants.{Any}
use Rattle.syn_event.specs.AllNumbers.{all_numbers}
use Rattle.syn_event.specs.CheckRefusals.{MeetsCheckRules}
use Rattle.syn_event.specs.Legal.{Legal}
use Rattle.task_laws.specs.legal.literals.Colours.{coloured}
use Rattle.normal_laws.specs.runs.forms.Choosing.{choosing}
use Rattle.normal_laws.specs.runs.forms.Normalisable.{numbers_of}
use Rattle.normal_laws.specs.existence.Laws.{IsLegalOriginal}
use Rattle.collect_model.specs.aborts.AbortTree.{abort_tree}
use Rattle.collect_model.specs.aborts.AbortNumbers.{abort_numbers}
use Rattle.collect_model.specs.aborts.Promised.{IsAbortText}

-- the text of a program, by its own types and numbers
abbrev pub text_for : PProgram → PProgram
text_for p = abort_tree p (types_in p) (numbers_of p)

-- The text of a legal program is well placed.
abbrev pub AbortIsPlaced : Type 0
AbortIsPlaced = (p : PProgram) → IsLegalOriginal p → IsWellPlaced (text_for p)

-- It has the numbers of the definition.
abbrev pub AbortHasNumbers : Type 0
AbortHasNumbers = (p : PProgram) → IsLegalOriginal p → all_numbers (types_in (text_for p)) (text_for p) ≡ abort_numbers p (types_in p) (numbers_of p)

-- It meets the first twelve rules.
abbrev pub AbortMeetsTypes : Type 0
AbortMeetsTypes = (p : PProgram) → IsLegalOriginal p → MeetsTypeRules (text_for p)

-- It meets the rules 13 to 23 as a rewritten text.
abbrev pub AbortMeetsChecks : Type 0
AbortMeetsChecks = (p : PProgram) → IsLegalOriginal p → MeetsCheckRules (text_for p) Any

-- So it is legal as a text of any kind.
abbrev pub AbortIsLegal : Type 0
AbortIsLegal = (p : PProgram) → IsLegalOriginal p → Legal (text_for p) (types_in (text_for p)) (abort_numbers p (types_in p) (numbers_of p)) Any

-- So it is all that is promised of these texts.
abbrev pub AbortIsAsPromised : Type 0
AbortIsAsPromised = (p : PProgram) → IsLegalOriginal p → IsAbortText p (types_in p) (numbers_of p) (text_for p)

-- Two programs are legal: one in which a variable chooses a member of an array of tasks, and one with an array of tasks whose index is an enumeration.
abbrev pub IsMet : Type 0
IsMet = IsLegalOriginal choosing × IsLegalOriginal coloured
