-- What a program with abort statements is, and what its collecting text owes beside being the text (9.10; this project's rule).
use Rattle.std.specs.Prelude.{◌≡◌, Bool, is_some}
use Rattle.ada_tree.specs.TypeTable.{TypeTable}
use Rattle.ada_tree.specs.WellPlaced.{IsWellPlaced}
use Rattle.ada_static_rules.specs.Refusals.{types_in}
use Rattle.ada_tree.specs.PlainProgram.{PProgram}
use Rattle.syn_event.specs.declared.numbering.Mode.TheVariants as mode
use Rattle.syn_event.specs.Numbering.{Numbering}
use Rattle.syn_event.specs.Legal.{Legal}
use Rattle.collect_model.specs.FirstAbort.{first_abort}
use Rattle.collect_model.specs.aborts.AbortTree.{abort_tree}
use Rattle.collect_model.specs.aborts.AbortNumbers.{abort_numbers}

-- An abort statement stands in the program, also in the body of a task type without objects.
abbrev pub has_abort : PProgram → Bool
has_abort p = is_some (first_abort p)

-- What is promised of the text q: it is that of the definition, it meets the static rules of a rewritten text with the numbers of the definition, and it can be printed.
pub record IsAbortText (p : PProgram) (types : TypeTable) (numbers : Numbering) (q : PProgram) : Type 0 where
  pub text : q ≡ abort_tree p types numbers
  pub legal : Legal q (types_in q) (abort_numbers p types numbers) mode.Any
  pub placed : IsWellPlaced q
