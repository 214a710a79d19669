-- What the reader finds next in a file by tasks: the header, the list of each task, and each event (this project's format, number 2).
use Rattle.std.specs.Prelude.{◌≡◌, ◌≤◌, ◌<◌, ◌+◌, ℕ, false, List, ◌++◌, length, ◌⊎◌, Some, None}
use Rattle.event_machine.specs.declared.Event.{Event}
use Rattle.syn_event.specs.Numbering.{Numbering}
use Rattle.seq_file.specs.text_lines.Capped.{capped}
use Rattle.seq_file.specs.text_lines.Lines.{is_line_end, cut}
use Rattle.seq_file.specs.declared.errors.SeqError.{SeqError}
use Rattle.seq_file.specs.declared.list_reading.Place.{Place}
use Rattle.seq_file.specs.Files.{is_end, has_ended}
use Rattle.seq_file.specs.Lists.{most_listed, list_text, list_count, list_header_fault, asked_by_line, IsListFit, IsInList, next_list_fault, next_event_fault}
use Rattle.seq_file.specs.inner.NextEvents.{IsEventLine}

-- the header has no fault, and these bytes stand behind it
pub record IsBehindListHeader (names : List (List ℕ)) (numbers : Numbering) (bytes behind : List ℕ) : Type 0 where
  pub line : List ℕ
  pub cuts : cut is_line_end bytes ≡ Some (line, behind)
  pub sound : list_header_fault names numbers bytes ≡ None

-- the rest of a file begins with the line of this task's list, which asks for so many event lines, up to the cap, and goes on with the bytes behind it
pub record IsListHead (task : ℕ) (rest : List ℕ) (asked : ℕ) (behind : List ℕ) : Type 0 where
  pub line : List ℕ
  pub number : ℕ
  pub cuts : cut is_line_end rest ≡ Some (line, behind)
  pub asks : asked_by_line task line ≡ Some number
  pub cap : asked ≡ capped number

-- one event line behind a place stands another, where these bytes are left
pub record IsBehindEvent (place : Place) (event : Event) (left : List ℕ) (behind : Place) : Type 0 where
  pub rest : behind.rest.now ≡ left
  pub line : behind.line ≡ place.line + 1
  pub events : behind.events ≡ place.events + 1
  pub ended : behind.ended ≡ is_end event

-- at a place stands the line of an event that the program has, and another place is the one behind it
pub record IsNextListed (numbers : Numbering) (place : Place) (event : Event) (behind : Place) : Type 0 where
  pub going : place.ended ≡ false
  pub few : place.events < most_listed
  pub next : IsEventLine numbers place.rest.now event behind.rest.now
  pub line : behind.line ≡ place.line + 1
  pub events : behind.events ≡ place.events + 1
  pub ended : behind.ended ≡ is_end event

-- at a place stands the list of this task with these events, and another place is the one behind it
pub record IsNextList (numbers : Numbering) (task : ℕ) (place : Place) (events : List Event) (behind : Place) : Type 0 where
  pub text : place.rest.now ≡ list_text task events ++ behind.rest.now
  pub fit : IsListFit numbers events
  pub few : place.events + length events ≤ most_listed
  pub line : behind.line ≡ place.line + length events + 1
  pub count : behind.events ≡ place.events + length events
  pub ended : behind.ended ≡ has_ended events
  pub room : behind.line + length behind.rest.now ≤ place.line + length place.rest.now

-- at a place begins the list of this task, and has this fault behind these events
pub record FailsInside (numbers : Numbering) (task : ℕ) (place : Place) (error : SeqError) : Type 0 where
  pub asked : ℕ
  pub events : List Event
  pub rest : List ℕ
  pub at : IsInList numbers task place.events place.rest.now asked events rest
  pub fault : next_event_fault numbers task (has_ended events) (place.events + length events) (place.line + length events + 1) rest ≡ Some error

-- at a place the list of this task should stand, and there is this fault
abbrev pub FailsAtList : Numbering → ℕ → Place → SeqError → Type 0
FailsAtList numbers task place error =
    (next_list_fault (list_count numbers) task place.ended place.line place.rest.now ≡ Some error) ⊎ FailsInside numbers task place error
