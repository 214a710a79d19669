-- The laws of the literals of legal programs.
use Rattle.std.specs.Prelude.{IfSome}
use Rattle.std.specs.List.{AllByRecursion}
use Rattle.ada_tree.specs.PlainProgram.{PProgram}
use Rattle.ada_static_rules.specs.Refusals.{MeetsTypeRules, types_in}
use Rattle.ada_tree.specs.WellPlaced.{IsWellPlaced}
use Rattle.syn_event.specs.NamedTasks.{task_names_of}
use Rattle.task_laws.specs.legal.types.Typed.{IsSmall}
use Rattle.task_laws.specs.legal.literals.Literals.{LiteralsStand, HasIndexLiterals}
use Rattle.task_laws.specs.legal.literals.Colours.{coloured}

-- What is asked of a program: it meets the rules on types, is well placed, and has small enumerations (this project's rule).
pub record HasRules (p : PProgram) : Type 0 where
  pub rules : MeetsTypeRules p
  pub placed : IsWellPlaced p
  pub small : IsSmall (types_in p)

-- In such a program each literal of each enumeration stands for itself.
abbrev pub LiteralsHaveValues : Type 0
LiteralsHaveValues = (p : PProgram) → HasRules p → LiteralsStand (types_in p)

-- Each index in the range of an array of tasks over an enumeration is the position of a literal.
abbrev pub IndicesAreLiterals : Type 0
IndicesAreLiterals = (p : PProgram) → HasRules p → AllByRecursion (λ x. IfSome x.index_range (HasIndexLiterals (types_in p))) (task_names_of p)

-- One such program has an array of tasks over an enumeration.
abbrev pub IsMet : Type 0
IsMet = HasRules coloured
