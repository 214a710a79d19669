-- What the collecting text of a program owes beside being the text (this project's rule).
use Rattle.std.specs.Prelude.{◌≡◌}
use Rattle.ada_tree.specs.TypeTable.{TypeTable}
use Rattle.ada_tree.specs.WellPlaced.{IsWellPlaced}
use Rattle.ada_static_rules.specs.Refusals.{types_in}
use Rattle.ada_tree.specs.PlainProgram.{PProgram}
use Rattle.syn_event.specs.declared.numbering.Mode.TheVariants as mode
use Rattle.syn_event.specs.Numbering.{Numbering}
use Rattle.syn_event.specs.Legal.{Legal}
use Rattle.collect_model.specs.CollectTree.{collect_tree}
use Rattle.collect_model.specs.CollectNumbers.{collect_numbers}

-- What is promised of the text q of a program without abort statements: it is the collecting text, it meets the static rules of a rewritten text with the numbers of the definition, and it can be printed.
pub record IsCollectingText (p : PProgram) (types : TypeTable) (numbers : Numbering) (q : PProgram) : Type 0 where
  pub text : q ≡ collect_tree p types numbers
  pub legal : Legal q (types_in q) (collect_numbers p types numbers) mode.Any
  pub placed : IsWellPlaced q
