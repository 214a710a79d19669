-- The laws that a replay text is legal, and that it is read back as it is printed (this project's rule).
use Rattle.std.specs.Prelude.{◌≡◌, ℕ, List, Ok}
use Rattle.ada_tree.specs.PlainProgram.{PProgram}
use Rattle.ada_static_rules.specs.Refusals.{types_in}
use Rattle.ada_tree.specs.Same.{Same}
use Rattle.ada_parser.specs.Reads.{Reads}
use Rattle.ada_printer.specs.ProgramText.{program_text}
use Rattle.event_machine.specs.declared.Event.{Event}
use Rattle.seq_file.specs.Files.{SeqReads}
use Rattle.replay_model.specs.ReplayTree.{replay_tree, replayed}
use Rattle.normal_laws.specs.runs.forms.Normalisable.{numbers_of}
use Rattle.text_laws.specs.normal.Example.{calling_text, calling}
use Rattle.text_laws.specs.normal.Laws.{IsOriginalText}
use Rattle.text_laws.specs.replay_read_back.Example.{calling_events, calling_lines}
use Rattle.replay_model.specs.Promised.{IsReplayText}

-- The bytes are the text of a legal program within the limit; the lines are a file of these events for it, no more than are replayed; and this is the
-- replay text.
pub record IsReplay (bytes : List ℕ) (p : PProgram) (lines : List ℕ) (events : List Event) (text : PProgram) : Type 0 where
  pub legal : IsOriginalText bytes p
  pub sequence : SeqReads lines (numbers_of p) p.names events
  pub is : replayed p (types_in p) (numbers_of p) events ≡ Ok text

-- It is the replay text of the program and the events, legal as a text of any kind, with the numbers of the definition, and well placed.
abbrev pub ReplayIsPromised : Type 0
ReplayIsPromised =
    (bytes : List ℕ) (p : PProgram) (lines : List ℕ) (events : List Event) (text : PProgram) → IsReplay bytes p lines events text →
    IsReplayText p (types_in p) (numbers_of p) events text

-- What is printed of it is read, as a program that is the same.
abbrev pub ReplayIsReadBack : Type 0
ReplayIsReadBack =
    (bytes : List ℕ) (p : PProgram) (lines : List ℕ) (events : List Event) (text : PProgram) → IsReplay bytes p lines events text →
    (q : PProgram) × Reads (program_text text) q × Same text q

-- A text with a task and a call, and a sequence of it, are so.
abbrev pub IsMet : Type 0
IsMet = IsReplay calling_text calling calling_lines calling_events (replay_tree calling (types_in calling) (numbers_of calling) calling_events)
