-- What a part of a command comes to, from that of a smaller part, and how the whole call ends by it.
use Rattle.std.proofs.Common.{◌≡◌, ◌≢◌, ℕ, List, [], Option, Some, None, Result, Ok, Err, inl, inr, refl, sym, ◌∙◌}
use Rattle.ded_io.specs.Counts.{Rose}
use Rattle.ded_io.specs.Written.{appended, Wrote, ◌⧺◌}
use Rattle.ded_io.proofs.Writes.{appended-nil}
use Rattle.debug_outcome.specs.Outcomes.{Outcome, writes, refuses}
use Rattle.debug_outcome.specs.Delivery.{Sides, IsDelivered, Ends}
use Rattle.debug_outcome.specs.Coming.{IsRefusal, stop_by, Stops, HasPut, HasBroken, Comes, Tells}
use Rattle.debug_outcome.specs.Refusals.{refusal_line, first_words, unread_words, memory_line}
use Rattle.debug_outcome.specs.declared.refusal.Refusal.{Refusal}
use Rattle.debug_outcome.specs.declared.refusal.Refusal.TheVariants.{BadText, BadProgram, Usage, BadSequence, NoOrder, BadInputs, BadChoices, BadConstraints, Unreadable, TooLong, TooMany, LongText}
use Rattle.debug_outcome.specs.declared.refusal.Listed.TheVariants.{Events, Inputs, Choices, Constraints}
use Rattle.debug_outcome.specs.declared.refusal.TextFault.TheVariants.{Misspelled, LongToken, TooNested}
use Rattle.debug_outcome.specs.declared.refusal.RuleFault.TheVariants.{Broken, Passed}
use Rattle.debug_outcome.specs.declared.stopping.Stop.{Stop}
use Rattle.debug_outcome.specs.declared.stopping.Stop.TheVariants.{Refused, OutputFailed, Memory}

-- a stop by which a part calls for an outcome, where the whole calls for it too
pub stops_more : (A B : Outcome → Type 0) (stop : Stop) → ((o : Outcome) → A o → B o) → Stops A stop → Stops B stop
stops_more A B (Refused refusal) more h = more (refuses refusal) h
stops_more A B OutputFailed more h = h
stops_more A B Memory more h = h

-- a stop for what calls for a refusal
pub stops_by : (A : Outcome → Type 0) (r : Option Refusal) → ((o : Outcome) → IsRefusal r o → A o) → Stops A (stop_by r)
stops_by A (Some refusal) told = told (refuses refusal) refl
stops_by A None told = tt

-- two outcomes that tell one refusal are one
pub one_refusal : (r : Option Refusal) (o q : Outcome) → IsRefusal r o → IsRefusal r q → o ≡ q
one_refusal (Some refusal) o q h k = h ∙ sym k
one_refusal None o q h k = absurd h

-- a stop before anything was put
pub stops_come : (A G : Outcome → Type 0) (out : Option (List ℕ)) (faults : ℕ) (stop : Stop) → Stops A stop → Comes A G out out faults faults (Err stop)
stops_come A G out faults (Refused refusal) h = (h, (refl, refl))
stops_come A G out faults OutputFailed h = absurd h
stops_come A G out faults Memory h = inl (refl, refl)

-- what a part comes to, where the whole calls for all that the part does
pub comes_more :
    (A B G H : Outcome → Type 0) (out out' : Option (List ℕ)) (faults faults' : ℕ) (r : Result ℕ Stop) → ((o : Outcome) → A o → B o) → ((o : Outcome) → G o → H o) → Comes A G out out' faults faults' r →
    Comes B H out out' faults faults' r
comes_more A B G H out out' faults faults' (Ok status) more grown h = record { text = h.text; called = more (writes h.text status) h.called; put = h.put }
comes_more A B G H out out' faults faults' (Err (Refused refusal)) more grown h = (more (refuses refusal) h.0, h.1)
comes_more A B G H out out' faults faults' (Err OutputFailed) more grown h = record { text = h.text; status = h.status; called = more (writes h.text h.status) h.called; put = h.put }
comes_more A B G H out out' faults faults' (Err Memory) more grown (inl h) = inl h
comes_more A B G H out out' faults faults' (Err Memory) more grown (inr h) =
    inr (record { text = h.text; status = h.status; called = grown (writes h.text h.status) h.called; front = h.front; no_fault = h.no_fault })

-- a text that is called for was put whole
pub has_put : (A E : Type 0) (x : A) (C : Outcome → Type 0) (text : List ℕ) (status : ℕ) (out out' : Option (List ℕ)) (faults faults' : ℕ) → C (writes text status) →
    Wrote {E = E} (Ok x) out out' text → faults' ≡ faults → HasPut C out out' faults faults' status
unfolding Wrote
has_put A E x C text status out out' faults faults' called wrote still = record { text = text; called = called; put = (wrote, still) }

-- or a front of it was
pub has_broken : (A E : Type 0) (e : E) (C : Outcome → Type 0) (text : List ℕ) (status : ℕ) (out out' : Option (List ℕ)) (faults faults' : ℕ) → C (writes text status) →
    Wrote {A = A} (Err e) out out' text → Rose faults faults' → HasBroken C out out' faults faults'
unfolding Wrote
has_broken A E e C text status out out' faults faults' called wrote rose = record { text = text; status = status; called = called; put = (wrote, rose) }

-- nothing was put, so all of no bytes
all_of_none : (told told' : Option (List ℕ)) → told' ≡ told → told' ≡ appended told []
all_of_none told told' same = same ∙ sym (appended-nil told)

-- no line is empty
pub line_is_some : (refusal : Refusal) → refusal_line refusal ≢ []
unfolding first_words unread_words ◌⧺◌
line_is_some (BadText (Misspelled what line column)) e = cc
line_is_some (BadText (LongToken limit)) e = cc
line_is_some (BadText (TooNested limit)) e = cc
line_is_some (BadProgram (Broken rule line column)) e = cc
line_is_some (BadProgram (Passed what limit)) e = cc
line_is_some Usage e = cc
line_is_some (BadSequence found line) e = cc
line_is_some (NoOrder task) e = cc
line_is_some (BadInputs found line) e = cc
line_is_some (BadChoices found line) e = cc
line_is_some (BadConstraints found line) e = cc
line_is_some (Unreadable name) e = cc
line_is_some (TooLong limit) e = cc
line_is_some (TooMany Events limit) e = cc
line_is_some (TooMany Inputs limit) e = cc
line_is_some (TooMany Choices limit) e = cc
line_is_some (TooMany Constraints limit) e = cc
line_is_some (LongText limit) e = cc

pub memory_is_some : memory_line ≢ []
unfolding memory_line
memory_is_some e = cc

-- the text was put whole, and the error output was not touched
pub ends_done : (A G : Outcome → Type 0) (s : Sides) (status : ℕ) → Comes A G s.out s.out' s.out_faults s.out_faults' (Ok status) → s.err' ≡ s.err → s.err_faults' ≡ s.err_faults → Ends A G s status
ends_done A G s status h same still =
    record { outcome = writes h.text status; called = inl h.called; delivered = inl (record { out = h.put; err = (all_of_none s.err s.err' same, still); is = refl }) }

-- a refusal that was told, with nothing else touched, is delivered
pub told_alone : (refusal : Refusal) (s : Sides) (status : ℕ) → s.out' ≡ s.out → s.out_faults' ≡ s.out_faults → Tells (Refused refusal) s.err s.err' s.err_faults s.err_faults' status → IsDelivered (refuses refusal) s status
told_alone refusal s status same still (inl told) = inl (record { out = (all_of_none s.out s.out' same, still); err = told.1; is = told.0 })
told_alone refusal s status same still (inr told) = inr (record { where_it_failed = inr (line_is_some refusal, (all_of_none s.out s.out' same, still), told.1); is = told.0 })

-- the command stopped, and that was told
pub ends_stopped : (A G : Outcome → Type 0) (s : Sides) (stop : Stop) (status : ℕ) → Comes A G s.out s.out' s.out_faults s.out_faults' (Err stop) → Tells stop s.err s.err' s.err_faults s.err_faults' status → Ends A G s status
ends_stopped A G s (Refused refusal) status h (inl told) = record {
  outcome = refuses refusal;
  called = inl h.0;
  delivered = inl (record { out = (all_of_none s.out s.out' h.1.0, h.1.1); err = told.1; is = told.0 });
}
ends_stopped A G s (Refused refusal) status h (inr told) = record {
  outcome = refuses refusal;
  called = inl h.0;
  delivered = inr (record { where_it_failed = inr (line_is_some refusal, (all_of_none s.out s.out' h.1.0, h.1.1), told.1); is = told.0 });
}
ends_stopped A G s OutputFailed status h told = record {
  outcome = writes h.text h.status;
  called = inl h.called;
  delivered = inr (record { where_it_failed = inl (refl, h.put, told.1); is = told.0 });
}
ends_stopped A G s Memory status (inl h) (inl told) = record {
  outcome = record { out = []; err = memory_line; status = 9 };
  called = inr (record { front = inl refl; line = refl; is = refl });
  delivered = inl (record { out = (all_of_none s.out s.out' h.0, h.1); err = told.1; is = told.0 });
}
ends_stopped A G s Memory status (inl h) (inr told) = record {
  outcome = record { out = []; err = memory_line; status = 9 };
  called = inr (record { front = inl refl; line = refl; is = refl });
  delivered = inr (record { where_it_failed = inr (memory_is_some, (all_of_none s.out s.out' h.0, h.1), told.1); is = told.0 });
}
ends_stopped A G s Memory status (inr h) (inl told) =
    let (front, rest, text, put) = h.front in record {
      outcome = record { out = front; err = memory_line; status = 9 };
      called = inr (record { front = inr (record { whole = writes h.text h.status; called = h.called; rest = rest; text = text }); line = refl; is = refl });
      delivered = inl (record { out = (put, h.no_fault); err = told.1; is = told.0 });
    }
ends_stopped A G s Memory status (inr h) (inr told) =
    let (front, rest, text, put) = h.front in record {
      outcome = record { out = front; err = memory_line; status = 9 };
      called = inr (record { front = inr (record { whole = writes h.text h.status; called = h.called; rest = rest; text = text }); line = refl; is = refl });
      delivered = inr (record { where_it_failed = inr (memory_is_some, (put, h.no_fault), told.1); is = told.0 });
    }
