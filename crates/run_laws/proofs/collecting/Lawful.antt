-- The tasks of the copy keep the rules of tasks.
use Rattle.std.proofs.Common.{◌≡◌, ℕ, Bool, true, false, ◌==◌, if◌then◌else◌, [], ◌∷◌, refl, sym, ap, ◌∙◌, true≢false}
use Rattle.std.specs.Prelude.{ℤ}
use Rattle.event_machine.specs.declared.CallForm.{CallForm}
use Rattle.event_machine.specs.declared.CallForm.TheVariants.{Plain, Conditional, Timed}
use Rattle.event_machine.specs.declared.Choice.{Choice}
use Rattle.event_machine.specs.Offers.{Offer, Nothing, Calls, Waits, Finishes, Ends, Aborts, waits_with, is_finish, is_end, opens}
use Rattle.event_machine.specs.Lawful.{IsLawful, Keeps}
use Rattle.event_machine.proofs.Offering.{end_is}
use Rattle.run_laws.specs.imitation.Imitations.{Original}
use Rattle.run_laws.specs.collecting.Copies.{Due, Begun, TookElse, TookDelay, TookOther, Failed, Upset, Copy, Based, Calling, Owing, Ending, Leaving, Opening, Recording, Writing, Noted, due_callers, under, telling, based_offer, told, upset, call_owes, wait_owes, copy_steps, copy_stepped, copy_callers, other_in, other_part, done_by, answered, copy_finished, copy_passed, copy_offer, copy_accepted, returned, copy_resumed}
use Rattle.run_laws.specs.collecting.Settings.{Setting, twin, is_call, IsProperDue, IsProperCopy}

-- what neither a note nor nothing passes, a task of the copy offers only where the original does
pub based_passes : (note : ℕ) (test : Offer → Bool) (t : ℕ) (offer : Offer) → test (telling note) ≡ false → test (based_offer note t offer) ≡ true → test offer ≡ true
based_passes note test t Nothing tells h = h
based_passes note test t (Calls form e i) tells h = absurd (true≢false (sym h ∙ tells))
based_passes note test t (Waits choices) tells h = h
based_passes note test t Finishes tells h = absurd (true≢false (sym h ∙ tells))
based_passes note test t Ends tells h = go (t == 0) h
  where
    go : (b : Bool) → test (if b then Ends else telling note) ≡ true → test Ends ≡ true
    go true k = k
    go false k = absurd (true≢false (sym k ∙ tells))
based_passes note test t (Aborts x) tells h = h

-- it does not end a rendezvous before it has told so
pub based_no_finish : (note t : ℕ) (offer : Offer) → is_finish (based_offer note t offer) ≡ false
based_no_finish note t Nothing = refl
based_no_finish note t (Calls form e i) = refl
based_no_finish note t (Waits choices) = refl
based_no_finish note t Finishes = refl
based_no_finish note t Ends = go (t == 0)
  where
    go : (b : Bool) → is_finish (if b then Ends else telling note) ≡ false
    go true = refl
    go false = refl
based_no_finish note t (Aborts x) = refl

-- a call is no wait
pub call_no_wait : (test : Choice → Bool) (offer : Offer) → is_call offer ≡ true → waits_with test offer ≡ true → ⊥
call_no_wait test (Waits choices) q h = true≢false (sym q)
call_no_wait test offer q h = true≢false (sym h)

module _ {o : Original} (x : Setting o) where
  abbrev KeepsCopy : Copy o.L → Copy o.L → Type 0
  KeepsCopy k after = Keeps (twin x).ops (IsProperCopy o) k after

  keeps_same : (k : Copy o.L) → IsProperCopy o k → KeepsCopy k k
  keeps_same k proper = (proper, refl)

  pub copy_rests : (k : Copy o.L) → copy_steps o.p k ≡ true → copy_offer o.p x.note k ≡ Nothing
  copy_rests (Based t l) h = ap (based_offer x.note t) (o.lawful.rests l h)
  copy_rests Opening h = refl
  copy_rests (Writing c b n done left) h = refl
  copy_rests k h = absurd (true≢false (sym h))

  keeps_stepped : (k : Copy o.L) → IsProperCopy o k → copy_steps o.p k ≡ true → KeepsCopy k (copy_stepped o.p k)
  keeps_stepped (Based t l) proper h = o.lawful.stepped l proper h
  keeps_stepped Opening proper h = (tt, refl)
  keeps_stepped (Writing c b n done []) proper h = (tt, refl)
  keeps_stepped (Writing c b n done (piece ∷ left)) proper h = (tt, refl)
  keeps_stepped k proper h = absurd (true≢false (sym h))

  -- ---- as a rendezvous ends

  keeps_upset : (t : ℕ) (offer : Offer) (l m : o.L) → Keeps o.p.ops o.IsProper l m → KeepsCopy (Calling t l) (upset t offer m)
  keeps_upset t (Calls form e i) l m h = ((h.0, tt), h.1)
  keeps_upset t offer l m h = h

  keeps_returned : (acceptor : o.L) (k : Copy o.L) → o.IsProper acceptor → IsProperCopy o k → KeepsCopy k (returned o.p x.pends acceptor k)
  keeps_returned acceptor (Calling t l) there proper = go (x.pends acceptor)
    where
      go : (b : Bool) → KeepsCopy (Calling t l) (if b then upset t (o.p.ops.offer l) (o.p.ops.resumed acceptor l) else Based t (o.p.ops.resumed acceptor l))
      go true = keeps_upset t (o.p.ops.offer l) l (o.p.ops.resumed acceptor l) (o.lawful.resumed acceptor l there proper.0)
      go false = o.lawful.resumed acceptor l there proper.0
  keeps_returned acceptor k there proper = keeps_same k proper

  keeps_told : (t : ℕ) (offer : Offer) (l : o.L) → o.p.ops.offer l ≡ offer → o.IsProper l → KeepsCopy (Based t l) (told t offer l)
  keeps_told t (Calls form e i) l q proper = ((proper, ap is_call q), refl)
  keeps_told t Finishes l q proper = ((proper, q), refl)
  keeps_told t Ends l q proper = ((proper, q), refl)
  keeps_told t offer l q proper = (proper, refl)

  -- what the original has done keeps the callers, but the one that it has accepted
  keeps_done : (answer : Bool) (due : Due o.L) (l : o.L) → o.IsProper l → IsProperDue o due l →
      o.IsProper (done_by o.p answer due l) × (o.p.ops.callers (done_by o.p answer due l) ≡ due_callers due (o.p.ops.callers l))
  keeps_done answer (Begun c e i v) l proper due = o.lawful.accepted e i c v l due.0 proper due.1
  keeps_done answer TookElse l proper due = o.lawful.took_else l proper
  keeps_done answer (TookDelay k) l proper due = o.lawful.took_delay k l proper
  keeps_done true TookOther l proper due = o.lawful.raised l proper
  keeps_done false TookOther l proper due = go (o.p.ops.offer l)
    where
      form_part : (form : CallForm) → Keeps o.p.ops o.IsProper l (other_in o.p form l)
      form_part Plain = (proper, refl)
      form_part Conditional = o.lawful.took_else l proper
      form_part Timed = o.lawful.took_delay 1 l proper

      go : (offer : Offer) → Keeps o.p.ops o.IsProper l (other_part o.p offer l)
      go (Calls form e i) = form_part form
      go offer = (proper, refl)
  keeps_done answer Failed l proper due = o.lawful.raised l proper
  keeps_done answer (Upset e i) l proper due = (proper, refl)

  keeps_answered : (answer : Bool) (k : Copy o.L) → IsProperCopy o k → KeepsCopy k (answered o.p answer k)
  keeps_answered answer (Based t l) proper = keeps_told t (o.p.ops.offer l) l refl proper
  keeps_answered answer (Owing t due l) proper = keeps_done answer due l proper.0 proper.1
  keeps_answered answer k proper = keeps_same k proper

  keeps_resumed : (acceptor k : Copy o.L) → IsProperCopy o acceptor → IsProperCopy o k → KeepsCopy k (copy_resumed o.p x.pends acceptor k)
  keeps_resumed (Ending t l) k there proper = keeps_returned l k there.0 proper
  keeps_resumed (Noted c answer b) k there proper = keeps_answered answer k proper
  keeps_resumed acceptor k there proper = keeps_same k proper

  -- ---- as another event comes

  keeps_raised : (k : Copy o.L) → IsProperCopy o k → KeepsCopy k (call_owes Failed k)
  keeps_raised (Calling t l) proper = ((proper.0, tt), refl)
  keeps_raised k proper = keeps_same k proper

  keeps_else : (k : Copy o.L) → IsProperCopy o k → KeepsCopy k (wait_owes TookElse TookOther k)
  keeps_else (Based t l) proper = ((proper, tt), refl)
  keeps_else (Calling t l) proper = ((proper.0, tt), refl)
  keeps_else k proper = keeps_same k proper

  keeps_delay : (d : ℕ) (k : Copy o.L) → IsProperCopy o k → KeepsCopy k (wait_owes (TookDelay d) TookOther k)
  keeps_delay d (Based t l) proper = ((proper, tt), refl)
  keeps_delay d (Calling t l) proper = ((proper.0, tt), refl)
  keeps_delay d k proper = keeps_same k proper

  keeps_passed : (k : Copy o.L) → IsProperCopy o k → KeepsCopy k (copy_passed o.p k)
  keeps_passed (Based t l) proper = o.lawful.passed l proper
  keeps_passed k proper = keeps_same k proper

  -- ---- as a rendezvous starts, and where one ends

  under_proper : (l : o.L) (k : Copy o.L) → o.IsProper l → IsProperCopy o k → o.IsProper (under l k)
  under_proper l (Based t m) other proper = proper
  under_proper l (Calling t m) other proper = proper.0
  under_proper l (Owing t due m) other proper = proper.0
  under_proper l (Ending t m) other proper = proper.0
  under_proper l (Leaving t m) other proper = proper.0
  under_proper l k other proper = other

  accepts : (e : ℕ) (i : ℤ) (c : ℕ) (caller k : Copy o.L) → IsProperCopy o caller → IsProperCopy o k → waits_with (opens e i) (copy_offer o.p x.note k) ≡ true →
      IsProperCopy o (copy_accepted o.p x.lines e i c caller k) × (copy_callers o.p (copy_accepted o.p x.lines e i c caller k) ≡ c ∷ copy_callers o.p k)
  accepts e i c caller (Based t l) there proper h =
      ((proper, (under_proper l caller proper there, based_passes x.note (waits_with (opens e i)) t (o.p.ops.offer l) refl h)), refl)
  accepts e i c caller (Calling t l) there proper h = absurd (call_no_wait (opens e i) (o.p.ops.offer l) proper.1 h)
  accepts e i c caller (Recording b) there proper h = (tt, refl)
  accepts e i c caller k there proper h = absurd (true≢false (sym h))

  finishes : (k : Copy o.L) → IsProperCopy o k → copy_offer o.p x.note k ≡ Finishes →
      (c : ℕ) × IsProperCopy o (copy_finished o.p k) × (copy_callers o.p k ≡ c ∷ copy_callers o.p (copy_finished o.p k))
  finishes (Based t l) proper h = absurd (true≢false (sym (ap is_finish h) ∙ based_no_finish x.note t (o.p.ops.offer l)))
  finishes (Calling t l) proper h = absurd (true≢false (sym proper.1 ∙ ap is_call h))
  finishes (Ending t l) proper h = o.lawful.finished l proper.0 proper.1
  finishes (Noted c answer b) proper h = (c, tt, refl)
  finishes k proper h = absurd (true≢false (ap is_finish (sym h)))

  ends : (k : Copy o.L) → IsProperCopy o k → copy_offer o.p x.note k ≡ Ends → copy_callers o.p k ≡ []
  ends (Based t l) proper h = o.lawful.ended l proper (end_is (o.p.ops.offer l) (based_passes x.note is_end t (o.p.ops.offer l) refl (ap is_end h)))
  ends (Calling t l) proper h = absurd (true≢false (sym proper.1 ∙ ap is_call h))
  ends (Leaving t l) proper h = o.lawful.ended l proper.0 proper.1
  ends k proper h = absurd (true≢false (ap is_end (sym h)))

  -- The tasks of the copy keep the rules of tasks.
  pub copy_lawful : IsLawful (twin x).ops (IsProperCopy o)
  copy_lawful = record {
    rests = copy_rests;
    stepped = keeps_stepped;
    resumed = keeps_resumed;
    raised = keeps_raised;
    took_else = keeps_else;
    took_delay = keeps_delay;
    passed = keeps_passed;
    accepted = accepts;
    finished = finishes;
    ended = ends;
  }
