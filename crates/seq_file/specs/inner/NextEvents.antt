-- What the reader finds next in a file: the header, and each event (this project's format).
use Rattle.std.specs.Prelude.{◌≡◌, ◌<◌, ℕ, Bool, true, false, List, Some, None}
use Rattle.event_machine.specs.declared.Event.{Event}
use Rattle.syn_event.specs.Numbering.{Numbering}
use Rattle.seq_file.specs.Files.{most_events, header_fault}
use Rattle.seq_file.specs.Known.{is_known}
use Rattle.seq_file.specs.text_lines.Lines.{is_line_end, cut}
use Rattle.seq_file.specs.Lines.{event_of_line}

-- the rest of a file begins with the line of an event that the program has, and goes on with the bytes behind it
pub record IsNextEvent (numbers : Numbering) (ended : Bool) (count : ℕ) (rest : List ℕ) (event : Event) (behind : List ℕ) : Type 0 where
  pub line : List ℕ
  pub going : ended ≡ false
  pub few : count < most_events
  pub cuts : cut is_line_end rest ≡ Some (line, behind)
  pub writes : event_of_line line ≡ Some event
  pub known : is_known numbers event ≡ true

-- the header has no fault, and these bytes stand behind it
pub record IsBehindHeader (names : List (List ℕ)) (numbers : Numbering) (bytes behind : List ℕ) : Type 0 where
  pub line : List ℕ
  pub cuts : cut is_line_end bytes ≡ Some (line, behind)
  pub sound : header_fault names numbers bytes ≡ None

-- the first line of a text is that of an event that the program has, and these bytes stand behind it
pub record IsEventLine (numbers : Numbering) (text : List ℕ) (event : Event) (behind : List ℕ) : Type 0 where
  pub line : List ℕ
  pub cuts : cut is_line_end text ≡ Some (line, behind)
  pub writes : event_of_line line ≡ Some event
  pub known : is_known numbers event ≡ true
