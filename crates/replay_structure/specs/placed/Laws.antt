-- The laws of places in a replay text.
use Rattle.std.specs.Prelude.{◌≤◌, List, length}
use Rattle.std.specs.List.{AllByRecursion}
use Rattle.event_machine.specs.declared.Event.{Event}
use Rattle.ada_tree.specs.TypeTable.{TypeTable}
use Rattle.ada_tree.specs.PlainProgram.{PProgram}
use Rattle.ada_tree.specs.Lexical.{IsInteger}
use Rattle.ada_tree.specs.WellPlaced.{IsWellPlaced}
use Rattle.syn_event.specs.Numbering.{Numbering}
use Rattle.control_script.specs.declared.Op.{Op}
use Rattle.task_model.specs.Setting.{Setting}
use Rattle.normal_laws.specs.structure.placed.Example.{passing_set}
use Rattle.replay_model.specs.Promised.{HasLiteral}
use Rattle.replay_model.specs.ReplayTree.{normal_setting, script_of, replay_of, replay_tree}
use Rattle.replay_structure.specs.placed.Placeable.{HasLiterals, HasSmallIndices, IsReplayPlaceable}

-- The replay text of a normal form that is as asked is well placed, for any operations that have literals, one at least and no more than a literal can
-- tell.
abbrev pub ReplayIsPlaced : Type 0
ReplayIsPlaced = (g : Setting) (ops : List Op) → IsReplayPlaceable g → 1 ≤ length ops → IsInteger (length ops) → AllByRecursion HasLiterals ops → IsWellPlaced (replay_of g ops)

-- The replay text of a program and a sequence is well placed, where the program's normal form is as asked, and a text can hold the numbers of the
-- sequence: the indices of its events, and what its script has of entries, delays and tasks, and how many operations there are.
abbrev pub ScriptIsPlaced : Type 0
ScriptIsPlaced =
    (p : PProgram) (types : TypeTable) (numbers : Numbering) (events : List Event) → IsReplayPlaceable (normal_setting p types numbers) → IsInteger (length numbers.tasks) →
    AllByRecursion HasSmallIndices events → AllByRecursion HasLiteral (script_of numbers events) → IsInteger (length (script_of numbers events)) →
    IsWellPlaced (replay_tree p types numbers events)

-- The normal form of a program is as asked.
abbrev pub IsMet : Type 0
IsMet = IsReplayPlaceable (normal_setting passing_set.program passing_set.types passing_set.numbers)
