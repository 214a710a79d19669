-- What the tasks of a collecting program tell the recorder, what it keeps of it, and the lines that it writes (this project's rule).
use Rattle.std.specs.Prelude.{ℕ, ℤ, Bool, true, false, ◌==◌, if◌then◌else◌, List, [], ◌++◌, Option, Some, None, option_to_list}
use Rattle.std.specs.List.{concat, flat_map}
use Rattle.event_machine.specs.declared.Event.{Event}
use Rattle.event_machine.specs.declared.Event.TheVariants.{R, E, S, D, C, T, F, X}

-- A note: what a task tells the recorder, with the task's number first. The kinds are numbered from 0 on, in this order.
pub data Note : Type 0 where
  -- it is before a call
  BeforeCall : ℕ → Note
  -- this caller's rendezvous at the member i of the entry e has begun: its acceptor says so, first thing in the accept body
  HasBegun : ℕ → ℕ → ℤ → Note
  -- it is at the end of an accept body
  AtFinish : ℕ → Note
  -- it has taken the else part of its wait
  HasElse : ℕ → Note
  -- it has taken the k-th delay alternative of its wait
  HasDelay : ℕ → ℕ → Note
  -- it has taken the else part of its call of the member i of e, which this task owns
  HasCallElse : ℕ → ℕ → ℤ → ℕ → Note
  -- it has taken the delay alternative of its call of the member i of e, which this task owns
  HasExpired : ℕ → ℕ → ℤ → ℕ → Note
  -- TASKING_ERROR has been raised at its call of the member i of e
  HasFailed : ℕ → ℕ → ℤ → Note
  -- it is at its end
  AtEnd : ℕ → Note

-- What the recorder keeps: the tasks that are at their end, those whose call has been accepted since they last were before one, and the events that it
-- has written.
pub record Book : Type 0 where
  pub gone : ℕ → Bool
  pub met : ℕ → Bool
  pub events : List Event

abbrev pub empty_book : Book
empty_book = record { gone = λ t. false; met = λ t. false; events = [] }

-- the event that it writes a line of as it hears the note, if it writes one: the other part of a call is too late where the owner is at its end
abbrev pub line_of : Book → Note → Option Event
line_of b (BeforeCall c) = None
line_of b (HasBegun c e i) = Some (R c e i)
line_of b (AtFinish a) = Some (E a)
line_of b (HasElse a) = Some (S a)
line_of b (HasDelay a k) = Some (D a k)
line_of b (HasCallElse c e i o) = Some (if b.gone o then F c e i else C c e i)
line_of b (HasExpired c e i o) = Some (if b.gone o then F c e i else T c e i)
line_of b (HasFailed c e i) = if b.met c then None else Some (F c e i)
line_of b (AtEnd a) = Some (X a)

-- what it answers: the other part of the call is too late
abbrev pub answer_of : Book → Note → Bool
answer_of b (BeforeCall c) = false
answer_of b (HasBegun c e i) = false
answer_of b (AtFinish a) = false
answer_of b (HasElse a) = false
answer_of b (HasDelay a k) = false
answer_of b (HasCallElse c e i o) = b.gone o
answer_of b (HasExpired c e i o) = b.gone o
answer_of b (HasFailed c e i) = false
answer_of b (AtEnd a) = false

-- the flags with that of one task
abbrev pub flagged : (ℕ → Bool) → ℕ → Bool → ℕ → Bool
flagged flags t flag u = if u == t then flag else flags u

abbrev pub gone_after : Book → Note → ℕ → Bool
gone_after b (BeforeCall c) = b.gone
gone_after b (HasBegun c e i) = b.gone
gone_after b (AtFinish a) = b.gone
gone_after b (HasElse a) = b.gone
gone_after b (HasDelay a k) = b.gone
gone_after b (HasCallElse c e i o) = b.gone
gone_after b (HasExpired c e i o) = b.gone
gone_after b (HasFailed c e i) = b.gone
gone_after b (AtEnd a) = flagged b.gone a true

abbrev pub met_after : Book → Note → ℕ → Bool
met_after b (BeforeCall c) = flagged b.met c false
met_after b (HasBegun c e i) = flagged b.met c true
met_after b (AtFinish a) = b.met
met_after b (HasElse a) = b.met
met_after b (HasDelay a k) = b.met
met_after b (HasCallElse c e i o) = b.met
met_after b (HasExpired c e i o) = b.met
met_after b (HasFailed c e i) = b.met
met_after b (AtEnd a) = b.met

-- what it keeps then
abbrev pub recorded : Book → Note → Book
recorded b note = record { gone = gone_after b note; met = met_after b note; events = b.events ++ option_to_list (line_of b note) }

-- How it writes: the header, the pieces of an event's line before the line's end, and that end.
pub record Lines : Type 0 where
  pub header : List ℕ
  pub front : Event → List (List ℕ)
  pub line_end : List ℕ

-- the line of an event
abbrev pub line : Lines → Event → List ℕ
line lines e = concat (lines.front e) ++ lines.line_end

-- the header and the lines of the events, in order
abbrev pub text : Lines → List Event → List ℕ
text lines events = lines.header ++ flat_map (line lines) events

-- the pieces that stand before the line's end, where a line is written
abbrev pub pieces : Lines → Option Event → List (List ℕ)
pieces lines None = []
pieces lines (Some e) = lines.front e
