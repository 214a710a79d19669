-- What a replay text owes beside being the text (this project's rule).
use Rattle.std.specs.Prelude.{◌≡◌, ◌≤◌, ⊤, List}
use Rattle.event_machine.specs.declared.Event.{Event}
use Rattle.ada_tree.specs.TypeTable.{TypeTable}
use Rattle.ada_tree.specs.WellPlaced.{IsWellPlaced}
use Rattle.ada_static_rules.specs.Refusals.{types_in}
use Rattle.ada_tree.specs.PlainProgram.{PProgram}
use Rattle.syn_event.specs.declared.numbering.Mode.TheVariants as mode
use Rattle.syn_event.specs.Numbering.{Numbering}
use Rattle.syn_event.specs.Legal.{Legal}
use Rattle.control_script.specs.declared.Op.{Op}
use Rattle.control_script.specs.declared.Op.TheVariants.{Go, Done, Join, Hold}
use Rattle.replay_model.specs.ReplayTree.{replay_tree}
use Rattle.replay_model.specs.ReplayNumbers.{replay_numbers}

-- an entry, delay alternative or task in a permit has a literal (2.4)
abbrev pub HasLiteral : Op → Type 0
HasLiteral (Go t kind arg index) = arg ≤ 2147483647
HasLiteral (Done t) = ⊤
HasLiteral (Join t) = ⊤
HasLiteral Hold = ⊤

-- What is promised of the answer q: it is the replay text, it meets the static rules of a rewritten text with the numbers of the definition, and it can be printed.
pub record IsReplayText (p : PProgram) (types : TypeTable) (numbers : Numbering) (events : List Event) (q : PProgram) : Type 0 where
  pub text : q ≡ replay_tree p types numbers events
  pub legal : Legal q (types_in q) (replay_numbers p types numbers) mode.Any
  pub placed : IsWellPlaced q
