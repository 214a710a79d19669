-- Permits, and what a controller does: it lets the tasks go on one event at a time, in the order of a sequence (this project's rule).
use Rattle.std.specs.Prelude.{ℕ, ℤ, Bool, not, ◌&&◌, ◌||◌, ◌==◌, if◌then◌else◌}
use Rattle.event_machine.specs.declared.Event.{Event}
use Rattle.event_machine.specs.declared.Event.TheVariants.{R, E, S, D, C, T, F, X, B, Z}
use Rattle.event_machine.specs.Offers.{Offer, calls_in, is_any_form, is_conditional, is_timed, waits_with, is_finish, is_end, opens, is_else, is_delay, is_terminate}
use Rattle.event_machine.specs.Worlds.{aborts}

-- A permit: an event without its tasks.
pub data Permit : Type 0 where
  ToMeet : ℕ → ℤ → Permit
  ToFinish : Permit
  ToElse : Permit
  ToDelay : ℕ → Permit
  ToCallElse : ℕ → ℤ → Permit
  ToExpire : ℕ → ℤ → Permit
  ToFail : ℕ → ℤ → Permit
  ToEnd : Permit
  ToAbort : ℕ → Permit
  ToClose : Permit

-- the permit for an event
abbrev pub permit_of : Event → Permit
permit_of (R c e i) = ToMeet e i
permit_of (E a) = ToFinish
permit_of (S a) = ToElse
permit_of (D a k) = ToDelay k
permit_of (C c e i) = ToCallElse e i
permit_of (T c e i) = ToExpire e i
permit_of (F c e i) = ToFail e i
permit_of (X a) = ToEnd
permit_of (B t x) = ToAbort x
permit_of Z = ToClose

-- One operation of the controller.
pub data Op : Type 0 where
  -- it hands a permit to a task
  Go : ℕ → Permit → Op
  -- it hears from a task that it has done what the permit was for
  Done : ℕ → Op
  -- it waits for a task to be closed
  Join : ℕ → Op
  -- it waits for ever
  Hold : Op

-- A task that offers this can use the permit (the main program, task 0, ends by the last event alone).
abbrev pub wants : ℕ → Permit → Offer → Bool
wants t (ToMeet e i) offer = calls_in is_any_form e i offer || waits_with (opens e i) offer
wants t ToFinish offer = is_finish offer
wants t ToElse offer = waits_with is_else offer
wants t (ToDelay k) offer = waits_with (is_delay k) offer
wants t (ToCallElse e i) offer = calls_in is_conditional e i offer
wants t (ToExpire e i) offer = calls_in is_timed e i offer
wants t (ToFail e i) offer = calls_in is_any_form e i offer
wants t ToEnd offer = not (t == 0) && is_end offer
wants t (ToAbort x) offer = aborts x offer
wants t ToClose offer = if t == 0 then is_end offer else waits_with is_terminate offer
