-- A sequence file read line by line: how far it is read, and its first bad line, whatever the number of its events (this project's format).
use Rattle.std.specs.Prelude.{◌≡◌, ◌≢◌, ◌≤◌, ◌<◌, ℕ, List, [], ◌∷◌, ◌++◌, length, Option, Some, None, Result, Ok, Err, ⊤}
use Rattle.event_machine.specs.declared.Event.{Event}
use Rattle.syn_event.specs.Numbering.{Numbering}
use Rattle.seq_file.specs.declared.errors.SeqError.{SeqError}
use Rattle.seq_file.specs.declared.stepping.SeqLines.{SeqLines}
use Rattle.seq_file.specs.Files.{most_events, IsReadBehind, has_ended, SeqReads, HasFirstFault, open_fault}
use Rattle.seq_file.specs.Short.{IsShort}

-- the reader stands behind the lines of these events, and has met no bad line
pub record StandsBehind (bytes : List ℕ) (numbers : Numbering) (names : List (List ℕ)) (events : List Event) (lines : SeqLines) : Type 0 where
  pub short : IsShort numbers
  pub read : IsReadBehind bytes numbers names events lines.rest.now
  pub same : lines.numbers.now ≡ numbers
  pub count : lines.count ≡ length events
  pub ended : lines.ended ≡ has_ended events
  pub going : lines.refusal ≡ None

-- behind the lines of these events stands a bad one, with this fault
pub record IsRefusedBehind (bytes : List ℕ) (numbers : Numbering) (names : List (List ℕ)) (events : List Event) (error : SeqError) : Type 0 where
  pub rest : List ℕ
  pub read : IsReadBehind bytes numbers names events rest
  pub more : rest ≢ []
  pub fault : open_fault numbers (has_ended events) (length events) rest ≡ Some error

-- What the reader answers behind the lines of these events: the event of the next line, behind which it then stands; nothing, where no bytes are left;
-- or the fault of the next line, which it keeps.
abbrev pub AnswersBehind : List ℕ → Numbering → List (List ℕ) → List Event → Result (Option Event) SeqError → SeqLines → Type 0
AnswersBehind bytes numbers names events (Ok (Some event)) lines = StandsBehind bytes numbers names (events ++ (event ∷ [])) lines
AnswersBehind bytes numbers names events (Ok None) lines = IsReadBehind bytes numbers names events [] × StandsBehind bytes numbers names events lines
AnswersBehind bytes numbers names events (Err error) lines = IsRefusedBehind bytes numbers names events error × (lines.refusal ≡ Some error)

-- What the reader answers is what is true of the whole file, as far as that has no more events than a file may have: at the end the events are its events,
-- and a fault is its first.
abbrev pub AgreesOnFile : List ℕ → Numbering → List (List ℕ) → List Event → Result (Option Event) SeqError → Type 0
AgreesOnFile bytes numbers names events (Ok (Some event)) = ⊤
AgreesOnFile bytes numbers names events (Ok None) = length events ≤ most_events → SeqReads bytes numbers names events
AgreesOnFile bytes numbers names events (Err error) = length events < most_events → HasFirstFault bytes numbers names error
