-- Sequence files: the text of a list of events, which events a file is read as, and the first fault of a file (this project's format).
use Rattle.std.specs.Prelude.{◌≡◌, ◌≢◌, ◌≤◌, ◌+◌, ℕ, Bool, true, false, ◌&&◌, nat_lt, nat_eq, bytes_eq, List, [], ◌∷◌, ◌++◌, length, codes, decimal, All, ◌⊎◌, Option, Some, None, option_and_then, if◌then◌else◌, ⊤}
use Rattle.std.specs.List.{list_any}
use Rattle.ded_io.specs.Written.{◌⧺◌, each_text}
use Rattle.event_machine.specs.declared.Event.{Event}
use Rattle.event_machine.specs.declared.Event.TheVariants.{Z}
use Rattle.syn_event.specs.EventText.{event_text}
use Rattle.syn_event.specs.Numbering.{Numbering, original_tasks, original_entries}
use Rattle.syn_event.specs.DeclaredTasks.{text_of}
use Rattle.seq_file.specs.declared.errors.SeqError.{SeqError}
use Rattle.seq_file.specs.declared.errors.SeqError.TheVariants.{BadLine, OtherProgram, BadNumber, AfterEnd, TooMany}
use Rattle.seq_file.specs.text_lines.Lines.{first_line}
use Rattle.seq_file.specs.Lines.{Header, header_of_line, event_of_line}
use Rattle.seq_file.specs.Known.{is_known}

-- a file has at most this many events (this project's limit)
abbrev pub most_events : ℕ
most_events = 200000

-- a first line behind its format: the name of the program, and how many tasks beside main and entries the original has
abbrev pub header_end : List (List ℕ) → Numbering → List ℕ
header_end names numbers =
    text_of names numbers.main ⧺ (codes " " ⧺ (decimal (original_tasks numbers) ⧺ (codes " " ⧺ (decimal (original_entries numbers) ⧺ codes "\n"))))

-- the first line: the format, the name of the program, and how many tasks beside main and entries the original has
abbrev pub header_line : List (List ℕ) → Numbering → List ℕ
header_line names numbers = codes "ded-seq 1 " ⧺ header_end names numbers

-- the line of an event
abbrev pub event_line : Event → List ℕ
event_line event = event_text event ⧺ codes "\n"

-- The text of a list of events: the header, then one line for each event, in order.
abbrev pub SeqText : List (List ℕ) → Numbering → List Event → List ℕ
SeqText names numbers events = header_line names numbers ⧺ each_text event_line events

-- the event is Z, the end of the program
abbrev pub is_end : Event → Bool
is_end Z = true
is_end _ = false

-- Z is among the events
abbrev pub has_ended : List Event → Bool
has_ended events = list_any is_end events

-- no event follows Z
abbrev pub NothingFollowsEnd : List Event → Type 0
NothingFollowsEnd [] = ⊤
NothingFollowsEnd (event ∷ rest) = (is_end event ≡ true → rest ≡ []) × NothingFollowsEnd rest

-- the events may stand in a file of a program with these numbers
pub record AreFit (numbers : Numbering) (events : List Event) : Type 0 where
  -- every number is one that the program has
  pub known : All (λ event. is_known numbers event ≡ true) events
  pub end : NothingFollowsEnd events
  pub few : length events ≤ most_events

-- The bytes are a file of these events: they are the text of the events, and the events may stand in a file.
pub record SeqReads (bytes : List ℕ) (numbers : Numbering) (names : List (List ℕ)) (events : List Event) : Type 0 where
  pub text : bytes ≡ SeqText names numbers events
  pub fit : AreFit numbers events

-- the bytes begin with the text of these events, which may stand in a file but for their number, and these bytes are left
pub record IsReadBehind (bytes : List ℕ) (numbers : Numbering) (names : List (List ℕ)) (events : List Event) (rest : List ℕ) : Type 0 where
  pub text : bytes ≡ SeqText names numbers events ++ rest
  pub known : All (λ event. is_known numbers event ≡ true) events
  pub end : NothingFollowsEnd events

-- a header is that of a program with this name and these counts
abbrev pub is_header_of : List ℕ → ℕ → ℕ → Header → Bool
is_header_of main tasks entries header =
    bytes_eq header.main main && (nat_eq header.tasks tasks && nat_eq header.entries entries)

-- the fault of a first line that writes this header, if any: it is out of the grammar, or another program's
abbrev pub fault_of_header : List ℕ → ℕ → ℕ → Option Header → Option SeqError
fault_of_header main tasks entries (Some header) = if is_header_of main tasks entries header then None else Some (OtherProgram 1)
fault_of_header main tasks entries None = Some (BadLine 1)

-- the fault of the first line of a file, if it has one: it is in the grammar, and names the program and the original's counts
abbrev pub header_fault : List (List ℕ) → Numbering → List ℕ → Option SeqError
header_fault names numbers bytes =
    fault_of_header (text_of names numbers.main) (original_tasks numbers) (original_entries numbers)
    (option_and_then header_of_line (first_line bytes))

-- the fault of a line that writes this event, if any: it is out of the grammar, or has a number that the program has not
abbrev pub fault_of_event : Numbering → ℕ → Option Event → Option SeqError
fault_of_event numbers line (Some event) = if is_known numbers event then None else Some (BadNumber line)
fault_of_event numbers line None = Some (BadLine line)

-- the fault of the line that the rest of a file begins with, behind the header and so many events, given whether Z is among them
abbrev pub line_fault : Numbering → Bool → ℕ → List ℕ → Option SeqError
line_fault numbers ended count rest =
    if ended then Some (AfterEnd (count + 2))
    else (if nat_lt count most_events then fault_of_event numbers (count + 2) (option_and_then event_of_line (first_line rest))
    else Some (TooMany most_events))

-- the fault of the line that the rest of a file begins with, behind the header and so many events, whatever their number
abbrev pub open_fault : Numbering → Bool → ℕ → List ℕ → Option SeqError
open_fault numbers ended count rest =
    if ended then Some (AfterEnd (count + 2)) else fault_of_event numbers (count + 2) (option_and_then event_of_line (first_line rest))

-- the lines before are the header and those of some events, and the next one has this fault
pub record FailsBehind (bytes : List ℕ) (numbers : Numbering) (names : List (List ℕ)) (error : SeqError) : Type 0 where
  pub events : List Event
  pub rest : List ℕ
  pub text : bytes ≡ SeqText names numbers events ++ rest
  pub fit : AreFit numbers events
  pub more : rest ≢ []
  pub fault : line_fault numbers (has_ended events) (length events) rest ≡ Some error

-- The first bad line of a file has this fault: it is the header, or it stands behind the header and good events.
abbrev pub HasFirstFault : List ℕ → Numbering → List (List ℕ) → SeqError → Type 0
HasFirstFault bytes numbers names error =
    (header_fault names numbers bytes ≡ Some error) ⊎ FailsBehind bytes numbers names error
