-- The tasks of the copy keep the rules of tasks.
use Rattle.std.proofs.Common.{◌≡◌, ℕ, Bool, true, false, ◌==◌, if◌then◌else◌, [], ◌∷◌, refl, sym, ap, ◌∙◌, true≢false}
use Rattle.std.specs.Prelude.{ℤ}
use Rattle.event_machine.specs.declared.CallForm.{CallForm}
use Rattle.event_machine.specs.declared.CallForm.TheVariants.{Plain, Conditional, Timed}
use Rattle.event_machine.specs.Offers.{Offer, Nothing, Calls, Waits, Finishes, Ends, Aborts, waits_with, is_finish, is_end, opens}
use Rattle.event_machine.specs.Lawful.{IsLawful, Keeps}
use Rattle.event_machine.proofs.Offering.{finish_is, end_is}
use Rattle.run_laws.specs.imitation.Imitations.{Original}
use Rattle.run_laws.specs.collecting.Copies.{telling, other_in, other_part}
use Rattle.run_laws.specs.collecting.Settings.{is_call}
use Rattle.run_laws.specs.aborts.Notes.{Note, ToAbort, Book}
use Rattle.run_laws.specs.aborts.Copies.{Due, Begun, TookElse, TookDelay, TookOther, Failed, Returned, Over, Copy, Based, Calling, Owing, Refusing, Leaving, Opening, Recording, Writing, Striking, Noted, under, based_offer, line_ends, told, call_owes, wait_owes, first_caller, copy_steps, copy_stepped, copy_callers, done_by, answered, copy_finished, copy_passed, copy_offer, copy_accepted, copy_resumed}
use Rattle.run_laws.specs.aborts.Settings.{Setting, twin, IsProperDue, IsProperCopy}
use Rattle.run_laws.proofs.collecting.Lawful.{call_no_wait}

-- what no note passes, a task of the copy offers only where the original does
pub based_passes : (note : ℕ) (test : Offer → Bool) (t : ℕ) (offer : Offer) → test (telling note) ≡ false → test (based_offer note t offer) ≡ true → test offer ≡ true
based_passes note test t Nothing tells h = h
based_passes note test t (Calls form e i) tells h = absurd (true≢false (sym h ∙ tells))
based_passes note test t (Waits choices) tells h = h
based_passes note test t Finishes tells h = h
based_passes note test t Ends tells h = go (t == 0) h
  where
    go : (b : Bool) → test (if b then Ends else telling note) ≡ true → test Ends ≡ true
    go true k = k
    go false k = absurd (true≢false (sym k ∙ tells))
based_passes note test t (Aborts v) tells h = absurd (true≢false (sym h ∙ tells))

module _ {o : Original} (x : Setting o) where
  abbrev KeepsCopy : Copy o.L → Copy o.L → Type 0
  KeepsCopy k after = Keeps (twin x).ops (IsProperCopy o) k after

  keeps_same : (k : Copy o.L) → IsProperCopy o k → KeepsCopy k k
  keeps_same k proper = (proper, refl)

  pub copy_rests : (k : Copy o.L) → copy_steps o.p k ≡ true → copy_offer o.p x.note k ≡ Nothing
  copy_rests (Based t l) h = ap (based_offer x.note t) (o.lawful.rests l h)
  copy_rests Opening h = refl
  copy_rests (Writing c b n done left) h = refl
  copy_rests k h = absurd (true≢false (sym h))

  keeps_line : (c : ℕ) (b : Book) (n : Note) → IsProperCopy o (line_ends c b n) × (copy_callers o.p (line_ends c b n) ≡ c ∷ [])
  keeps_line c b (ToAbort t v) = (tt, refl)
  keeps_line c b n = (tt, refl)

  keeps_stepped : (k : Copy o.L) → IsProperCopy o k → copy_steps o.p k ≡ true → KeepsCopy k (copy_stepped o.p k)
  keeps_stepped (Based t l) proper h = o.lawful.stepped l proper h
  keeps_stepped Opening proper h = (tt, refl)
  keeps_stepped (Writing c b n done []) proper h = keeps_line c b n
  keeps_stepped (Writing c b n done (piece ∷ left)) proper h = (tt, refl)
  keeps_stepped k proper h = absurd (true≢false (sym h))

  -- ---- as a rendezvous ends

  keeps_told : (t : ℕ) (offer : Offer) (l : o.L) → o.p.ops.offer l ≡ offer → o.IsProper l → KeepsCopy (Based t l) (told o.p t offer l)
  keeps_told t (Calls form e i) l q proper = ((proper, ap is_call q), refl)
  keeps_told t Ends l q proper = ((proper, q), refl)
  keeps_told t (Aborts v) l q proper = o.lawful.passed l proper
  keeps_told t offer l q proper = (proper, refl)

  -- what the original has done keeps the callers, but the one that it has accepted, or with which it is done
  keeps_done : (t : ℕ) (answer : Bool) (due : Due o.L) (l : o.L) → o.IsProper l → IsProperDue o due l → KeepsCopy (Owing t due l) (done_by o.p t answer due l)
  keeps_done t true (Begun c e i v) l proper due = (proper, refl)
  keeps_done t false (Begun c e i v) l proper due = o.lawful.accepted e i c v l due.0 proper due.1
  keeps_done t answer TookElse l proper due = o.lawful.took_else l proper
  keeps_done t answer (TookDelay k) l proper due = o.lawful.took_delay k l proper
  keeps_done t true TookOther l proper due = o.lawful.raised l proper
  keeps_done t false TookOther l proper due = go (o.p.ops.offer l)
    where
      form_part : (form : CallForm) → Keeps o.p.ops o.IsProper l (other_in o.p form l)
      form_part Plain = (proper, refl)
      form_part Conditional = o.lawful.took_else l proper
      form_part Timed = o.lawful.took_delay 1 l proper

      go : (offer : Offer) → Keeps o.p.ops o.IsProper l (other_part o.p offer l)
      go (Calls form e i) = form_part form
      go offer = (proper, refl)
  keeps_done t answer Failed l proper due = o.lawful.raised l proper
  keeps_done t true (Returned m) l proper due = o.lawful.raised l proper
  keeps_done t false (Returned m) l proper due = o.lawful.resumed m l due proper
  keeps_done t answer (Over c) l proper due = ((o.lawful.finished l proper due.0).1, refl)

  keeps_answered : (answer : Bool) (k : Copy o.L) → IsProperCopy o k → KeepsCopy k (answered o.p answer k)
  keeps_answered answer (Based t l) proper = keeps_told t (o.p.ops.offer l) l refl proper
  keeps_answered answer (Owing t due l) proper = keeps_done t answer due l proper.0 proper.1
  keeps_answered answer k proper = keeps_same k proper

  keeps_returned : (acceptor : o.L) (k : Copy o.L) → o.IsProper acceptor → IsProperCopy o k → KeepsCopy k (call_owes (Returned acceptor) k)
  keeps_returned acceptor (Calling t l) there proper = ((proper.0, there), refl)
  keeps_returned acceptor k there proper = keeps_same k proper

  keeps_resumed : (acceptor k : Copy o.L) → IsProperCopy o acceptor → IsProperCopy o k → KeepsCopy k (copy_resumed o.p acceptor k)
  keeps_resumed (Based t l) k there proper = keeps_returned l k there proper
  keeps_resumed (Noted c answer b) k there proper = keeps_answered answer k proper
  keeps_resumed acceptor k there proper = keeps_same k proper

  -- ---- as another event comes

  keeps_raised : (k : Copy o.L) → IsProperCopy o k → KeepsCopy k (call_owes Failed k)
  keeps_raised (Calling t l) proper = ((proper.0, tt), refl)
  keeps_raised k proper = keeps_same k proper

  keeps_else : (k : Copy o.L) → IsProperCopy o k → KeepsCopy k (wait_owes TookElse TookOther k)
  keeps_else (Based t l) proper = ((proper, tt), refl)
  keeps_else (Calling t l) proper = ((proper.0, tt), refl)
  keeps_else k proper = keeps_same k proper

  keeps_delay : (d : ℕ) (k : Copy o.L) → IsProperCopy o k → KeepsCopy k (wait_owes (TookDelay d) TookOther k)
  keeps_delay d (Based t l) proper = ((proper, tt), refl)
  keeps_delay d (Calling t l) proper = ((proper.0, tt), refl)
  keeps_delay d k proper = keeps_same k proper

  keeps_passed : (k : Copy o.L) → IsProperCopy o k → KeepsCopy k (copy_passed k)
  keeps_passed (Striking c b t v) proper = (tt, refl)
  keeps_passed k proper = keeps_same k proper

  -- ---- as a rendezvous starts, and where one ends

  under_proper : (l : o.L) (k : Copy o.L) → o.IsProper l → IsProperCopy o k → o.IsProper (under l k)
  under_proper l (Based t m) other proper = proper
  under_proper l (Calling t m) other proper = proper.0
  under_proper l (Owing t due m) other proper = proper.0
  under_proper l (Refusing t c m) other proper = proper
  under_proper l (Leaving t m) other proper = proper.0
  under_proper l k other proper = other

  accepts : (e : ℕ) (i : ℤ) (c : ℕ) (caller k : Copy o.L) → IsProperCopy o caller → IsProperCopy o k → waits_with (opens e i) (copy_offer o.p x.note k) ≡ true →
      IsProperCopy o (copy_accepted o.p x.pends x.lines e i c caller k) × (copy_callers o.p (copy_accepted o.p x.pends x.lines e i c caller k) ≡ c ∷ copy_callers o.p k)
  accepts e i c caller (Based t l) there proper h =
      ((proper, (under_proper l caller proper there, based_passes x.note (waits_with (opens e i)) t (o.p.ops.offer l) refl h)), refl)
  accepts e i c caller (Calling t l) there proper h = absurd (call_no_wait (opens e i) (o.p.ops.offer l) proper.1 h)
  accepts e i c caller (Recording b) there proper h = (tt, refl)
  accepts e i c caller k there proper h = absurd (true≢false (sym h))

  finishes : (k : Copy o.L) → IsProperCopy o k → copy_offer o.p x.note k ≡ Finishes →
      (c : ℕ) × IsProperCopy o (copy_finished o.p k) × (copy_callers o.p k ≡ c ∷ copy_callers o.p (copy_finished o.p k))
  finishes (Based t l) proper h =
      let q : o.p.ops.offer l ≡ Finishes = finish_is (o.p.ops.offer l) (based_passes x.note is_finish t (o.p.ops.offer l) refl (ap is_finish h)) in
      let (c, proper', has) = o.lawful.finished l proper q in
      (c, (proper, (q, has ∙ ap (λ d. d ∷ o.p.ops.callers (o.p.ops.finished l)) (sym (ap first_caller has)))), has)
  finishes (Calling t l) proper h = absurd (true≢false (sym proper.1 ∙ ap is_call h))
  finishes (Refusing t c l) proper h = (c, proper, refl)
  finishes (Noted c answer b) proper h = (c, tt, refl)
  finishes k proper h = absurd (true≢false (ap is_finish (sym h)))

  ends : (k : Copy o.L) → IsProperCopy o k → copy_offer o.p x.note k ≡ Ends → copy_callers o.p k ≡ []
  ends (Based t l) proper h = o.lawful.ended l proper (end_is (o.p.ops.offer l) (based_passes x.note is_end t (o.p.ops.offer l) refl (ap is_end h)))
  ends (Calling t l) proper h = absurd (true≢false (sym proper.1 ∙ ap is_call h))
  ends (Leaving t l) proper h = o.lawful.ended l proper.0 proper.1
  ends k proper h = absurd (true≢false (ap is_end (sym h)))

  -- The tasks of the copy keep the rules of tasks.
  pub copy_lawful : IsLawful (twin x).ops (IsProperCopy o)
  copy_lawful = record {
    rests = copy_rests;
    stepped = keeps_stepped;
    resumed = keeps_resumed;
    raised = keeps_raised;
    took_else = keeps_else;
    took_delay = keeps_delay;
    passed = keeps_passed;
    accepted = accepts;
    finished = finishes;
    ended = ends;
  }
