-- How a task tells the recorder: with which values it calls NOTE (9.5; this project's rule).
use Rattle.std.specs.Prelude.{◌≡◌, ℕ, ℤ, pos, ◌≤◌, List, [], ◌∷◌}
use Rattle.ada_value.specs.declared.values.Value.{Value}
use Rattle.ada_value.specs.declared.values.Value.TheVariants.{Number}
use Rattle.ada_value.specs.Values.{position_of}
use Rattle.task_model.specs.Tasks.{Task}
use Rattle.task_model.specs.Calls.{values_handed}
use Rattle.run_laws.specs.collecting.Notes.{Note, BeforeCall, HasBegun, AtFinish, HasElse, HasDelay, HasCallElse, HasExpired, HasFailed, AtEnd}
use Rattle.collect_model.specs.Noting.{before_call, has_begun, at_finish, has_else, has_delay, has_call_else, has_expired, has_failed, at_end}

-- What a note says: its kind, the task that it is about, an entry or a delay alternative, the member of a family, and the owner of the entry. The
-- member is a value, of which the recorder looks at the position alone (3.5.5).
pub record Spelled : Type 0 where
  pub kind : ℕ
  pub subject : ℕ
  pub argument : ℕ
  pub index : Value
  pub owner : ℕ

-- the member that a note names; 0 where it names none
abbrev pub member_of : Note → ℤ
member_of (HasBegun c e i) = i
member_of (HasCallElse c e i w) = i
member_of (HasExpired c e i w) = i
member_of (HasFailed c e i) = i
member_of _ = pos 0

-- a note in numbers, with this value for the member; only that of an other part names the owner, and with another note the last number is this
abbrev pub spelled : Note → ℕ → Value → Spelled
spelled (BeforeCall c) o v = record { kind = before_call; subject = c; argument = 0; index = v; owner = o }
spelled (HasBegun c e i) o v = record { kind = has_begun; subject = c; argument = e; index = v; owner = o }
spelled (AtFinish a) o v = record { kind = at_finish; subject = a; argument = 0; index = v; owner = o }
spelled (HasElse a) o v = record { kind = has_else; subject = a; argument = 0; index = v; owner = o }
spelled (HasDelay a k) o v = record { kind = has_delay; subject = a; argument = k; index = v; owner = o }
spelled (HasCallElse c e i w) o v = record { kind = has_call_else; subject = c; argument = e; index = v; owner = w }
spelled (HasExpired c e i w) o v = record { kind = has_expired; subject = c; argument = e; index = v; owner = w }
spelled (HasFailed c e i) o v = record { kind = has_failed; subject = c; argument = e; index = v; owner = o }
spelled (AtEnd a) o v = record { kind = at_end; subject = a; argument = 0; index = v; owner = o }

-- the values of a call of NOTE, where the answer's variable opens with this one
abbrev pub note_values : Spelled → Value → List Value
note_values s g = Number (pos s.kind) ∷ Number (pos s.subject) ∷ Number (pos s.argument) ∷ s.index ∷ Number (pos s.owner) ∷ g ∷ []

-- The task is at a call with the values of this note: the member is told by a value at its position.
pub record Tells (t : Task) (n : Note) : Type 0 where
  pub other : ℕ
  pub index : Value
  pub member : position_of index ≡ member_of n
  pub opens_with : Value
  pub values : values_handed t ≡ note_values (spelled n other index) opens_with

-- The recorder keeps something of the task that the note is about, or of the owner that it names, which is none behind the last.
abbrev pub IsWithin : ℕ → Note → Type 0
IsWithin last (BeforeCall c) = c ≤ last
IsWithin last (HasBegun c e i) = c ≤ last
IsWithin last (AtFinish a) = Unit {0}
IsWithin last (HasElse a) = Unit {0}
IsWithin last (HasDelay a k) = Unit {0}
IsWithin last (HasCallElse c e i w) = w ≤ last
IsWithin last (HasExpired c e i w) = w ≤ last
IsWithin last (HasFailed c e i) = c ≤ last
IsWithin last (AtEnd a) = a ≤ last
