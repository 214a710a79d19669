-- How a task of a collecting text with abort statements tells the recorder: with which values it calls NOTE (9.5, 9.10; this project's rule).
use Rattle.std.specs.Prelude.{◌≡◌, ℕ, ℤ, pos, ◌≤◌, ◌<◌}
use Rattle.ada_value.specs.declared.values.Value.{Value}
use Rattle.ada_value.specs.Values.{position_of}
use Rattle.task_model.specs.Tasks.{Task}
use Rattle.task_model.specs.Calls.{values_handed}
use Rattle.collect_model.specs.Noting.{before_call, has_begun, at_finish, has_else, has_delay, has_call_else, has_expired, has_failed, at_end}
use Rattle.collect_runs.specs.recorder.Telling.{Spelled, note_values}
use Rattle.collect_model.specs.aborts.Noting.{at_abort, has_returned}
use Rattle.run_laws.specs.aborts.Notes.{Note, BeforeCall, HasBegun, HasFinished, HasElse, HasDelay, HasCallElse, HasExpired, HasFailed, AtEnd, ToAbort}
use Rattle.run_laws.specs.aborts.Notes.{HasReturned}

-- the member that a note names; 0 where it names none
abbrev pub member_of : Note → ℤ
member_of (HasBegun c e i a) = i
member_of (HasCallElse c e i w) = i
member_of (HasExpired c e i w) = i
member_of (HasFailed c e i) = i
member_of _ = pos 0

-- A note in numbers, with this value for the member. The owner is named by the note of an other part; where a call is accepted it is the acceptor, and
-- with another note the last number is this. The argument of the end of a rendezvous is the caller, and that of an abort who is aborted.
abbrev pub spelled : Note → ℕ → Value → Spelled
spelled (BeforeCall c) o v = record { kind = before_call; subject = c; argument = 0; index = v; owner = o }
spelled (HasBegun c e i a) o v = record { kind = has_begun; subject = c; argument = e; index = v; owner = a }
spelled (HasFinished a c) o v = record { kind = at_finish; subject = a; argument = c; index = v; owner = o }
spelled (HasElse a) o v = record { kind = has_else; subject = a; argument = 0; index = v; owner = o }
spelled (HasDelay a k) o v = record { kind = has_delay; subject = a; argument = k; index = v; owner = o }
spelled (HasCallElse c e i w) o v = record { kind = has_call_else; subject = c; argument = e; index = v; owner = w }
spelled (HasExpired c e i w) o v = record { kind = has_expired; subject = c; argument = e; index = v; owner = w }
spelled (HasFailed c e i) o v = record { kind = has_failed; subject = c; argument = e; index = v; owner = o }
spelled (AtEnd a) o v = record { kind = at_end; subject = a; argument = 0; index = v; owner = o }
spelled (ToAbort t w) o v = record { kind = at_abort; subject = t; argument = w; index = v; owner = o }
spelled (HasReturned c) o v = record { kind = has_returned; subject = c; argument = 0; index = v; owner = o }

-- The task is at a call with the values of this note: the member is told by a value at its position.
pub record Tells (t : Task) (n : Note) : Type 0 where
  pub other : ℕ
  pub index : Value
  pub member : position_of index ≡ member_of n
  pub opens_with : Value
  pub values : values_handed t ≡ note_values (spelled n other index) opens_with

-- The recorder keeps something of each task that it looks up as it hears the note: none is behind the last. Who is aborted is not main.
abbrev pub IsWithin : ℕ → Note → Type 0
IsWithin last (BeforeCall c) = c ≤ last
IsWithin last (HasBegun c e i a) = (c ≤ last) × (a ≤ last)
IsWithin last (HasFinished a c) = c ≤ last
IsWithin last (HasElse a) = Unit {0}
IsWithin last (HasDelay a k) = Unit {0}
IsWithin last (HasCallElse c e i w) = w ≤ last
IsWithin last (HasExpired c e i w) = w ≤ last
IsWithin last (HasFailed c e i) = c ≤ last
IsWithin last (AtEnd a) = a ≤ last
IsWithin last (ToAbort t v) = (0 < v) × (v ≤ last)
IsWithin last (HasReturned c) = c ≤ last
