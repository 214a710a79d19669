-- What the tasks of a collecting program with abort statements tell the recorder, what it keeps of it, and the lines that it writes (this project's rule).
-- An abort may come between an event and its note. So the recorder aborts itself, as it hears the note of an abort; the end of a rendezvous is told behind
-- the rendezvous, by whichever of its two tasks comes first; and a rendezvous whose caller is aborted before it is told is refused.
use Rattle.std.specs.Prelude.{ℕ, ℤ, Bool, true, false, ◌==◌, ◌&&◌, ◌||◌, if◌then◌else◌, List, [], ◌++◌, Option, Some, None, option_to_list}
use Rattle.event_machine.specs.declared.Event.{Event}
use Rattle.event_machine.specs.declared.Event.TheVariants.{R, E, S, D, C, T, F, X, B}
use Rattle.run_laws.specs.collecting.Notes.{flagged}

-- A note: what a task tells the recorder, with the task's number first. The kinds are numbered from 0 on, in this order.
pub data Note : Type 0 where
  -- it is before a call
  BeforeCall : ℕ → Note
  -- this caller's rendezvous at the member i of the entry e has begun: its acceptor, the last number, says so, first thing in the accept body
  HasBegun : ℕ → ℕ → ℤ → ℕ → Note
  -- it is behind its rendezvous with this caller
  HasFinished : ℕ → ℕ → Note
  -- it has taken the else part of its wait
  HasElse : ℕ → Note
  -- it has taken the k-th delay alternative of its wait
  HasDelay : ℕ → ℕ → Note
  -- it has taken the else part of its call of the member i of e, which this task owns
  HasCallElse : ℕ → ℕ → ℤ → ℕ → Note
  -- it has taken the delay alternative of its call of the member i of e, which this task owns
  HasExpired : ℕ → ℕ → ℤ → ℕ → Note
  -- an exception has been raised at its call of the member i of e
  HasFailed : ℕ → ℕ → ℤ → Note
  -- it is at its end
  AtEnd : ℕ → Note
  -- it is to abort this task
  ToAbort : ℕ → ℕ → Note
  -- it is behind its call
  HasReturned : ℕ → Note

-- What the recorder keeps: the tasks that are at their end or aborted; how far the call of each task is, and with which acceptor; and the events that it
-- has written. A call is at 0 before its rendezvous is told, at 1 from then on, at 2 where its end is told, and at 3 where its acceptor was aborted first.
pub record Book : Type 0 where
  pub gone : ℕ → Bool
  pub met : ℕ → ℕ
  pub acceptor : ℕ → ℕ
  pub events : List Event

abbrev pub empty_book : Book
empty_book = record { gone = λ t. false; met = λ t. 0; acceptor = λ t. 0; events = [] }

-- the rendezvous of c with the acceptor a is told, and neither its end nor an abort of a
abbrev pub are_met : Book → ℕ → ℕ → Bool
are_met b a c = (b.met c == 1) && (b.acceptor c == a)

-- the event that it writes a line of as it hears the note, if it writes one
abbrev pub line_of : Book → Note → Option Event
line_of b (BeforeCall c) = None
-- a caller that is aborted is in no rendezvous that was not told before
line_of b (HasBegun c e i a) = if b.gone c then None else Some (R c e i)
-- the caller may have told the end, and be in another call
line_of b (HasFinished a c) = if are_met b a c then Some (E a) else None
line_of b (HasElse a) = Some (S a)
line_of b (HasDelay a k) = Some (D a k)
-- the other part of a call is too late where the owner is gone
line_of b (HasCallElse c e i o) = Some (if b.gone o then F c e i else C c e i)
line_of b (HasExpired c e i o) = Some (if b.gone o then F c e i else T c e i)
-- the acceptor may not have told the end; and a call that no rendezvous was told of has failed
line_of b (HasFailed c e i) = if b.met c == 1 then Some (E (b.acceptor c)) else (if b.met c == 0 then Some (F c e i) else None)
line_of b (AtEnd a) = Some (X a)
line_of b (ToAbort t v) = Some (B t v)
line_of b (HasReturned c) = if b.met c == 1 then Some (E (b.acceptor c)) else None

-- what it answers: the rendezvous is refused; or TASKING_ERROR is to be raised at the call
abbrev pub answer_of : Book → Note → Bool
answer_of b (BeforeCall c) = false
answer_of b (HasBegun c e i a) = b.gone c
answer_of b (HasFinished a c) = false
answer_of b (HasElse a) = false
answer_of b (HasDelay a k) = false
answer_of b (HasCallElse c e i o) = b.gone o
answer_of b (HasExpired c e i o) = b.gone o
answer_of b (HasFailed c e i) = (b.met c == 3) || (b.met c == 0)
answer_of b (AtEnd a) = false
answer_of b (ToAbort t v) = false
answer_of b (HasReturned c) = b.met c == 3

-- the numbers with that of one task
abbrev pub numbered_so : (ℕ → ℕ) → ℕ → ℕ → ℕ → ℕ
numbered_so numbers t number u = if u == t then number else numbers u

-- the end of the rendezvous is told
abbrev pub ended_met : Book → ℕ → ℕ → ℕ
ended_met b c = if b.met c == 1 then numbered_so b.met c 2 else b.met

abbrev pub gone_after : Book → Note → ℕ → Bool
gone_after b (BeforeCall c) = b.gone
gone_after b (HasBegun c e i a) = b.gone
gone_after b (HasFinished a c) = b.gone
gone_after b (HasElse a) = b.gone
gone_after b (HasDelay a k) = b.gone
gone_after b (HasCallElse c e i o) = b.gone
gone_after b (HasExpired c e i o) = b.gone
gone_after b (HasFailed c e i) = b.gone
gone_after b (AtEnd a) = flagged b.gone a true
gone_after b (ToAbort t v) = flagged b.gone v true
gone_after b (HasReturned c) = b.gone

abbrev pub met_after : Book → Note → ℕ → ℕ
met_after b (BeforeCall c) = numbered_so b.met c 0
met_after b (HasBegun c e i a) = if b.gone c then b.met else numbered_so b.met c 1
met_after b (HasFinished a c) = if are_met b a c then numbered_so b.met c 2 else b.met
met_after b (HasElse a) = b.met
met_after b (HasDelay a k) = b.met
met_after b (HasCallElse c e i o) = b.met
met_after b (HasExpired c e i o) = b.met
met_after b (HasFailed c e i) = ended_met b c
met_after b (AtEnd a) = b.met
-- the rendezvous of the task that is aborted are over
met_after b (ToAbort t v) = λ u. if are_met b v u then 3 else b.met u
met_after b (HasReturned c) = ended_met b c

abbrev pub acceptor_after : Book → Note → ℕ → ℕ
acceptor_after b (BeforeCall c) = b.acceptor
acceptor_after b (HasBegun c e i a) = if b.gone c then b.acceptor else numbered_so b.acceptor c a
acceptor_after b (HasFinished a c) = b.acceptor
acceptor_after b (HasElse a) = b.acceptor
acceptor_after b (HasDelay a k) = b.acceptor
acceptor_after b (HasCallElse c e i o) = b.acceptor
acceptor_after b (HasExpired c e i o) = b.acceptor
acceptor_after b (HasFailed c e i) = b.acceptor
acceptor_after b (AtEnd a) = b.acceptor
acceptor_after b (ToAbort t v) = b.acceptor
acceptor_after b (HasReturned c) = b.acceptor

-- what it keeps then
abbrev pub recorded : Book → Note → Book
recorded b note = record {
  gone = gone_after b note;
  met = met_after b note;
  acceptor = acceptor_after b note;
  events = b.events ++ option_to_list (line_of b note);
}
