-- What a recorder writes is the text of a sequence file (this project's rule).
use Rattle.std.specs.Prelude.{◌≡◌, ℕ, List}
use Rattle.event_machine.specs.declared.Event.{Event}
use Rattle.syn_event.specs.Numbering.{Numbering}
use Rattle.run_laws.specs.collecting.Notes.{text}
use Rattle.seq_file.specs.Files.{SeqText, AreFit, SeqReads}
use Rattle.collect_model.specs.Lines.{header_text}
use Rattle.collect_runs.specs.lines.Pieces.{lines_with}

-- what it has written where it has recorded these events of a program with these names and numbers
abbrev pub recorded_text : List (List ℕ) → Numbering → List Event → List ℕ
recorded_text names numbers events = text (lines_with (header_text names numbers)) events

-- It is the text of the events.
abbrev pub RecordsAreTexts : Type 0
RecordsAreTexts = (names : List (List ℕ)) (numbers : Numbering) (events : List Event) → recorded_text names numbers events ≡ SeqText names numbers events

-- So it is a file of these events, where they may stand in a file.
abbrev pub RecordsAreFiles : Type 0
RecordsAreFiles = (names : List (List ℕ)) (numbers : Numbering) (events : List Event) → AreFit numbers events → SeqReads (recorded_text names numbers events) numbers names events
