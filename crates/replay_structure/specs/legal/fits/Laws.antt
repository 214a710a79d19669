-- The laws of normal forms that have replay texts, and of the replay texts of originals.
use Rattle.std.specs.Prelude.{◌≤◌, List, length}
use Rattle.std.specs.List.{AllByRecursion}
use Rattle.event_machine.specs.declared.Event.{Event}
use Rattle.ada_tree.specs.NameList.{AreNames}
use Rattle.ada_tree.specs.PlainProgram.{PProgram}
use Rattle.ada_static_rules.specs.Refusals.{types_in}
use Rattle.ada_tree.specs.WellPlaced.{IsWellPlaced}
use Rattle.syn_event.specs.AllNumbers.{all_numbers}
use Rattle.syn_event.specs.CheckRefusals.{MeetsCheckRules}
use Rattle.syn_event.specs.declared.numbering.Mode.TheVariants.{Original}
use Rattle.task_model.specs.Setting.{Setting}
use Rattle.normal_laws.specs.structure.placed.Placeable.{HasRoom, IsPlaceable}
use Rattle.normal_laws.specs.structure.placed.Example.{passing_set}
use Rattle.replay_model.specs.Promised.{HasLiteral}
use Rattle.replay_model.specs.ReplayTree.{script_of, replay_tree}
use Rattle.replay_structure.specs.placed.Placeable.{HasSmallIndices, IsReplayPlaceable}
use Rattle.replay_structure.specs.legal.fits.Ready.{normal_of, IsReady}

-- The normal form of a program that is as `normal_laws: structure/placed` asks and ready is as `replay_structure: placed` asks.
abbrev pub NormalFits : Type 0
NormalFits = (g : Setting) → IsPlaceable g → IsReady g → IsReplayPlaceable (normal_of g)

-- an original with its own types and numbers
abbrev pub original_set : PProgram → Setting
original_set p = record { program = p; types = types_in p; numbers = all_numbers (types_in p) p }

-- The replay text of an original that meets the rules 13 to 23, is well placed, has room and is ready is well placed, where a text can hold the
-- numbers of the sequence, which has at most 200,000 events.
abbrev pub OriginalReplayIsPlaced : Type 0
OriginalReplayIsPlaced =
    (p : PProgram) (events : List Event) → MeetsCheckRules p Original → IsWellPlaced p → AreNames p.names → HasRoom (original_set p) → IsReady (original_set p) →
    AllByRecursion HasSmallIndices events → AllByRecursion HasLiteral (script_of (all_numbers (types_in p) p) events) → length events ≤ 200000 →
    IsWellPlaced (replay_tree p (types_in p) (all_numbers (types_in p) p) events)

-- A program is as asked.
abbrev pub IsMet : Type 0
IsMet = IsPlaceable passing_set × IsReady passing_set
