-- The laws of events that a file can hold for a program: a text can hold their numbers, so that the replay text is well placed (this project's rule).
use Rattle.std.specs.Prelude.{◌≡◌, ◌≤◌, true, List, length, All}
use Rattle.std.specs.List.{AllByRecursion}
use Rattle.event_machine.specs.declared.Event.{Event}
use Rattle.ada_tree.specs.PlainProgram.{PProgram}
use Rattle.ada_static_rules.specs.Refusals.{types_in}
use Rattle.ada_tree.specs.WellPlaced.{IsWellPlaced}
use Rattle.syn_event.specs.CheckRefusals.{MeetsCheckRules}
use Rattle.syn_event.specs.declared.numbering.Mode.TheVariants.{Original}
use Rattle.seq_file.specs.Known.{is_known}
use Rattle.replay_model.specs.Promised.{HasLiteral}
use Rattle.replay_model.specs.ReplayTree.{script_of, replay_tree}
use Rattle.replay_structure.specs.placed.Placeable.{HasSmallIndices}
use Rattle.normal_laws.specs.structure.placed.Example.{passing}
use Rattle.normal_laws.specs.runs.forms.Normalisable.{numbers_of}
use Rattle.normal_laws.specs.existence.Laws.{IsLegalOriginal}
use Rattle.replay_structure.specs.checked.Example.{example_events}

-- each number of these events is one that the program has, and they are at most 200,000
pub record AreKnown (p : PProgram) (events : List Event) : Type 0 where
  pub each : All (λ e. is_known (numbers_of p) e ≡ true) events
  pub few : length events ≤ 200000

-- Of an original, whatever events have known numbers: their indices have literals, and so have the entries, delays and tasks in their script.
abbrev pub KnownHaveLiterals : Type 0
KnownHaveLiterals =
    (p : PProgram) (events : List Event) → MeetsCheckRules p Original → AreKnown p events →
    AllByRecursion HasSmallIndices events × AllByRecursion HasLiteral (script_of (numbers_of p) events)

-- So the replay text of a legal program and of such events is well placed.
abbrev pub KnownReplayIsPlaced : Type 0
KnownReplayIsPlaced = (p : PProgram) (events : List Event) → IsLegalOriginal p → AreKnown p events → IsWellPlaced (replay_tree p (types_in p) (numbers_of p) events)

-- The numbers of a whole run of a program with a task and a call are known, and the program meets the rules.
abbrev pub IsMet : Type 0
IsMet = MeetsCheckRules passing Original × AreKnown passing example_events
