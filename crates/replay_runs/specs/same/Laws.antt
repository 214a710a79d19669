-- The laws of programs that are the same (this project's rule).
use Rattle.std.specs.Prelude.{◌↔◌, ◌≡◌, List, Some, length, slice_get, take, ℕ, ℤ}
use Rattle.ada_tree.specs.NameList.{AreNames, predefined}
use Rattle.ada_tree.specs.PlainProgram.{PProgram}
use Rattle.ada_tree.specs.Same.{Same}
use Rattle.ada_tree.specs.TypeTable.{TypeTable}
use Rattle.ada_tree.specs.WellPlaced.{HasTokens, IsWellPlaced}
use Rattle.event_machine.specs.declared.Event.{Event}
use Rattle.syn_event.specs.Numbering.{Numbering}
use Rattle.replay_model.specs.Promised.{IsReplayText}
use Rattle.replay_runs.specs.same.Alike.{RunAlike}
use Rattle.replay_runs.specs.same.Example.{first_program, second_program}
use Rattle.replay_runs.specs.controls.replayed.Replaying.{IsFeasible, ReplaysProgram, starting}

-- what is asked of the names of a program: the first ids are those of the predefined names, and no text has two ids
pub record IsNameTable (texts : List (List ℕ)) : Type 0 where
  pub begins : take (length predefined) texts ≡ predefined
  pub distinct : (t : List ℕ) (i j : ℕ) → slice_get texts i ≡ Some t → slice_get texts j ≡ Some t → i ≡ j

-- What is asked of a program: so are its names, and each name, number and string in it is one that the source can hold.
pub record IsNamed (p : PProgram) : Type 0 where
  pub names : IsNameTable p.names
  pub tokens : HasTokens p

-- Two programs that are the same run alike, with the same inputs.
abbrev pub SameRunAlike : Type 0
SameRunAlike = (p q : PProgram) → IsNamed p → IsNameTable q.names → Same p q → (inputs : List (List ℤ)) → RunAlike (starting p inputs) (starting q inputs)

-- So a list of events is feasible in both or in neither.
abbrev pub SameAreFeasible : Type 0
SameAreFeasible = (p q : PProgram) → IsNamed p → IsNameTable q.names → Same p q → (inputs : List (List ℤ)) (events : List Event) →
    IsFeasible (starting p inputs) events ↔ IsFeasible (starting q inputs) events

-- A text that replays a sequence of a program does so where it is read again, as a program that is the same.
abbrev pub SameReplays : Type 0
SameReplays = (p text again : PProgram) → IsNamed text → IsNameTable again.names → Same text again → (s : List Event) → ReplaysProgram p text s → ReplaysProgram p again s

-- So does a replay text.
abbrev pub ReadTextReplays : Type 0
ReadTextReplays = (p : PProgram) (types : TypeTable) (numbers : Numbering) (events : List Event) (text again : PProgram) →
    AreNames p.names → IsReplayText p types numbers events text → AreNames again.names → Same text again → ReplaysProgram p text events → ReplaysProgram p again events

-- The premises are met by each well placed program with names, beside itself.
pub record IsMetBy (p : PProgram) : Type 0 where
  pub named : IsNamed p
  pub names : IsNameTable p.names
  pub same : Same p p

abbrev pub MetByPlaced : Type 0
MetByPlaced = (p : PProgram) → AreNames p.names → IsWellPlaced p → IsMetBy p

-- So are two programs whose ids differ.
pub record ExampleIsMet : Type 0 where
  pub named : IsNamed first_program
  pub names : IsNameTable second_program.names
  pub same : Same first_program second_program
