-- The laws of the types of legal programs.
use Rattle.ada_tree.specs.PlainProgram.{PProgram}
use Rattle.ada_static_rules.specs.Refusals.{MeetsTypeRules, types_in}
use Rattle.ada_tree.specs.WellPlaced.{IsWellPlaced}
use Rattle.task_laws.specs.legal.types.Typed.{IsSmall, HasTypedTasks}
use Rattle.task_laws.specs.legal.literals.Colours.{coloured}

-- In a well placed program that meets the rules on types, whose enumerations are small, the tasks have types.
abbrev pub TasksHaveTypes : Type 0
TasksHaveTypes = (p : PProgram) → MeetsTypeRules p → IsWellPlaced p → IsSmall (types_in p) → HasTypedTasks p

-- A program with an array of tasks over an enumeration is so.
abbrev pub IsMet : Type 0
IsMet = MeetsTypeRules coloured × IsWellPlaced coloured × IsSmall (types_in coloured)
