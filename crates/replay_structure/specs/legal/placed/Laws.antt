-- The law of places in the replay texts of legal programs.
use Rattle.std.specs.Prelude.{◌≤◌, List, length}
use Rattle.std.specs.List.{AllByRecursion}
use Rattle.event_machine.specs.declared.Event.{Event}
use Rattle.ada_tree.specs.PlainProgram.{PProgram}
use Rattle.ada_static_rules.specs.Refusals.{types_in}
use Rattle.ada_tree.specs.WellPlaced.{IsWellPlaced}
use Rattle.normal_laws.specs.runs.forms.Choosing.{choosing}
use Rattle.normal_laws.specs.runs.forms.Normalisable.{numbers_of}
use Rattle.normal_laws.specs.existence.Laws.{IsLegalOriginal}
use Rattle.replay_model.specs.Promised.{HasLiteral}
use Rattle.replay_model.specs.ReplayTree.{script_of, replay_tree}
use Rattle.replay_structure.specs.placed.Placeable.{HasSmallIndices}

-- The replay text of a legal program and a sequence is well placed, where a text can hold the numbers of the sequence, which has at most 200,000
-- events.
abbrev pub LegalReplayIsPlaced : Type 0
LegalReplayIsPlaced =
    (p : PProgram) (events : List Event) → IsLegalOriginal p → AllByRecursion HasSmallIndices events → AllByRecursion HasLiteral (script_of (numbers_of p) events) → length events ≤ 200000 →
    IsWellPlaced (replay_tree p (types_in p) (numbers_of p) events)

-- A legal program is so.
abbrev pub IsMet : Type 0
IsMet = IsLegalOriginal choosing
