-- The law that the collecting text of each legal program is legal as a text of any kind (this project's rule).
use Rattle.std.specs.Prelude.{◌≡◌}
use Rattle.ada_tree.specs.PlainProgram.{PProgram}
use Rattle.ada_tree.specs.WellPlaced.{IsWellPlaced}
use Rattle.ada_static_rules.specs.Refusals.{types_in, MeetsTypeRules}
use Rattle.syn_event.specs.declared.numbering.Mode.TheVariants.{Any}
use Rattle.syn_event.specs.AllNumbers.{all_numbers}
use Rattle.syn_event.specs.CheckRefusals.{MeetsCheckRules}
use Rattle.syn_event.specs.Legal.{Legal}
use Rattle.task_laws.specs.legal.literals.Colours.{coloured}
use Rattle.normal_laws.specs.runs.forms.Choosing.{choosing}
use Rattle.normal_laws.specs.runs.forms.Normalisable.{numbers_of}
use Rattle.normal_laws.specs.existence.Laws.{IsLegalOriginal}
use Rattle.collect_model.specs.CollectTree.{collect_tree}
use Rattle.collect_model.specs.CollectNumbers.{collect_numbers}
use Rattle.collect_model.specs.Collected.{IsCollectingText}

-- the collecting text of a program, by its own types and numbers
abbrev pub text_for : PProgram → PProgram
text_for p = collect_tree p (types_in p) (numbers_of p)

-- The collecting text of a legal program is well placed.
abbrev pub CollectIsPlaced : Type 0
CollectIsPlaced = (p : PProgram) → IsLegalOriginal p → IsWellPlaced (text_for p)

-- It has the numbers of the definition.
abbrev pub CollectHasNumbers : Type 0
CollectHasNumbers = (p : PProgram) → IsLegalOriginal p → all_numbers (types_in (text_for p)) (text_for p) ≡ collect_numbers p (types_in p) (numbers_of p)

-- It meets the first twelve rules.
abbrev pub CollectMeetsTypes : Type 0
CollectMeetsTypes = (p : PProgram) → IsLegalOriginal p → MeetsTypeRules (text_for p)

-- It meets the rules 13 to 23 as a rewritten text.
abbrev pub CollectMeetsChecks : Type 0
CollectMeetsChecks = (p : PProgram) → IsLegalOriginal p → MeetsCheckRules (text_for p) Any

-- So it is legal as a text of any kind.
abbrev pub CollectIsLegal : Type 0
CollectIsLegal = (p : PProgram) → IsLegalOriginal p → Legal (text_for p) (types_in (text_for p)) (collect_numbers p (types_in p) (numbers_of p)) Any

-- So it is all that is promised of collecting texts.
abbrev pub CollectIsAsPromised : Type 0
CollectIsAsPromised = (p : PProgram) → IsLegalOriginal p → IsCollectingText p (types_in p) (numbers_of p) (text_for p)

-- Two programs are legal: one in which a variable chooses a member of an array of tasks, and one with an array of tasks whose index is an enumeration.
abbrev pub IsMet : Type 0
IsMet = IsLegalOriginal choosing × IsLegalOriginal coloured
