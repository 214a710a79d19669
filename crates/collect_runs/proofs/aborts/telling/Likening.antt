-- What the image does beside a task it does beside each that is like it.
use Rattle.std.proofs.Common.{◌≡◌, ℕ, ℤ, Bool, true, false, ◌∷◌, refl, sym, ap, subst, ◌∙◌, true≢false}
use Rattle.std.specs.Prelude.{pos}
use Rattle.event_machine.specs.declared.CallForm.TheVariants.{Plain, Conditional, Timed}
use Rattle.event_machine.specs.Offers.{Offer, Nothing, Calls, Waits, Finishes, Ends, Aborts, calls_in, is_conditional, is_timed, waits_with, opens, is_else, is_delay}
use Rattle.event_machine.specs.Programs.{Program}
use Rattle.ada_value.specs.declared.values.Value.TheVariants.{Number}
use Rattle.task_model.specs.Tasks.{Task}
use Rattle.task_model.specs.Stands.{offered, offer_of}
use Rattle.task_model.specs.Rendezvous.{finished}
use Rattle.normal_laws.specs.runs.floors.Meetings.{AreValues}
use Rattle.table_law.specs.States.{Offers}
use Rattle.run_laws.specs.collecting.Copies.{other_part}
use Rattle.run_laws.specs.collecting.Settings.{is_call}
use Rattle.collect_runs.specs.telling.Meetings.{ComesTo, HandBackAlike}
use Rattle.run_laws.specs.aborts.Notes.{Note}
use Rattle.run_laws.specs.aborts.Copies.{Due, Begun, TookElse, TookDelay, TookOther, Failed, Returned, Over, based_offer, due_note, due_callers, done_by}
use Rattle.collect_runs.specs.aborts.telling.Texts.{Texts, program_of}
use Rattle.collect_runs.specs.aborts.telling.Forms.{ComesBack, GoAlike, Form}
use Rattle.collect_runs.specs.aborts.telling.Meetings.{pends, IsBased, IsNoting, IsRefusing, IsBehind, IsOwing, IsCalling, IsLeaving, ActsAlike}
use Rattle.collect_runs.proofs.aborts.likeness.Chains.{back-too}

pub mapped : {A B : Task → Type 0} → ((κ : Task) → A κ → B κ) → {κ : Task} → ComesTo A κ → ComesTo B κ
mapped h c = record { reached = c.reached; reach = c.reach; is = h c.reached c.is }

module _ {x : Texts} (f : Form x) (t : ℕ) where
  abbrev P : Program Task
  P = program_of x

  pub noting-like : {A B : Bool → Task → Type 0} → ((b : Bool) (κ : Task) → A b κ → B b κ) → {n : Note} {κ : Task} → IsNoting f n A κ → IsNoting f n B κ
  noting-like h s = record { offers = s.offers; tells = s.tells; answered = λ b j pending finals. mapped (h b) (s.answered b j pending finals) }

  -- ---- where it is based

  pub based-like : (σ τ κ : Task) → f.IsLike t σ τ → IsBased f t τ κ → IsBased f t σ κ
  based-like σ τ κ h b = record { opened = b.opened; like = b.like; is_like = f.like_through t σ τ b.like h b.is_like; stands = b.stands }

  module _ (σ τ : Task) (like : f.IsLike t σ τ) where
    abbrev g : GoAlike (f.IsLike t) σ τ
    g = f.like_goes t σ τ like

    same-offer : offer_of τ ≡ offer_of σ
    same-offer = ap offered g.stands

    -- ---- what is owed

    owing-like : (due : Due Task) → due_callers (program_of x) due τ ≡ due_callers (program_of x) due σ →
        ((b : Bool) (κ : Task) → IsBehind f (done_by (program_of x) t b due τ) κ → IsBehind f (done_by (program_of x) t b due σ) κ) → (κ : Task) →
        IsOwing f t due τ κ → IsOwing f t due σ κ
    owing-like due callers behind κ o = record {
      output = o.output ∙ g.output;
      callers = o.callers ∙ callers;
      notes = noting-like behind (subst (λ z. IsNoting f (due_note P pends t due z) (λ b. IsBehind f (done_by P t b due τ)) κ) same-offer o.notes);
    }

    refusing-like : (c : ℕ) (κ : Task) → IsRefusing f t c τ κ → IsRefusing f t c σ κ
    refusing-like c κ r = record {
      output = r.output ∙ g.output;
      offers = r.offers;
      callers = r.callers ∙ ap (λ cs. c ∷ cs) g.callers;
      tries_again = mapped (λ k. based-like σ τ k like) r.tries_again;
    }

    begun-like : (c e : ℕ) (i : ℤ) (v κ : Task) → waits_with (opens e i) (offer_of σ) ≡ true → IsOwing f t (Begun c e i v) τ κ → IsOwing f t (Begun c e i v) σ κ
    begun-like c e i v κ h = owing-like (Begun c e i v) (ap (λ cs. c ∷ cs) g.callers) by κ
      where
        by : (b : Bool) (k : Task) → IsBehind f (done_by P t b (Begun c e i v) τ) k → IsBehind f (done_by P t b (Begun c e i v) σ) k
        by true k r = refusing-like c k r
        by false k r = based-like _ _ k (g.accepted e i c v v h refl) r

    failed-like : (κ : Task) → is_call (offer_of σ) ≡ true → IsOwing f t Failed τ κ → IsOwing f t Failed σ κ
    failed-like κ h = owing-like Failed g.callers (λ b k r. based-like _ _ k (g.raised h) r) κ

    returned-like : (m κ : Task) → is_call (offer_of σ) ≡ true → ComesBack σ m → IsOwing f t (Returned m) τ κ → IsOwing f t (Returned m) σ κ
    returned-like m κ h back = owing-like (Returned m) g.callers by κ
      where
        by : (b : Bool) (k : Task) → IsBehind f (done_by P t b (Returned m) τ) k → IsBehind f (done_by P t b (Returned m) σ) k
        by true k r = based-like _ _ k (g.raised h) r
        by false k r = based-like _ _ k (g.resumed m m h back refl refl) r

    over-like : (c : ℕ) (κ : Task) → offer_of σ ≡ Finishes → IsOwing f t (Over c) τ κ → IsOwing f t (Over c) σ κ
    over-like c κ h = owing-like (Over c) (f.like_goes t (finished σ) (finished τ) (g.finished h)).callers (λ b k r. based-like _ _ k (g.finished h) r) κ

    -- the other part of a call
    abbrev other : Offer → Task → Task
    other z l = other_part (program_of x) z l

    other-else : (z : Offer) (e : ℕ) (i : ℤ) → z ≡ offer_of σ → calls_in is_conditional e i z ≡ true → f.IsLike t (other z σ) (other z τ)
    other-else Nothing e i same h = absurd (true≢false (sym h))
    other-else (Calls Plain e1 i1) e i same h = absurd (true≢false (sym h))
    other-else (Calls Conditional e1 i1) e i same h = g.call_else e i (subst (λ z. calls_in is_conditional e i z ≡ true) same h)
    other-else (Calls Timed e1 i1) e i same h = absurd (true≢false (sym h))
    other-else (Waits cs) e i same h = absurd (true≢false (sym h))
    other-else Finishes e i same h = absurd (true≢false (sym h))
    other-else Ends e i same h = absurd (true≢false (sym h))
    other-else (Aborts v) e i same h = absurd (true≢false (sym h))

    other-delay : (z : Offer) (e : ℕ) (i : ℤ) → z ≡ offer_of σ → calls_in is_timed e i z ≡ true → f.IsLike t (other z σ) (other z τ)
    other-delay Nothing e i same h = absurd (true≢false (sym h))
    other-delay (Calls Plain e1 i1) e i same h = absurd (true≢false (sym h))
    other-delay (Calls Conditional e1 i1) e i same h = absurd (true≢false (sym h))
    other-delay (Calls Timed e1 i1) e i same h = g.expired e i (subst (λ z. calls_in is_timed e i z ≡ true) same h)
    other-delay (Waits cs) e i same h = absurd (true≢false (sym h))
    other-delay Finishes e i same h = absurd (true≢false (sym h))
    other-delay Ends e i same h = absurd (true≢false (sym h))
    other-delay (Aborts v) e i same h = absurd (true≢false (sym h))

    other-like : is_call (offer_of σ) ≡ true → f.IsLike t (other (offer_of σ) σ) (other (offer_of σ) τ) → (κ : Task) → IsOwing f t TookOther τ κ →
        IsOwing f t TookOther σ κ
    other-like h part κ = owing-like TookOther g.callers by κ
      where
        by : (b : Bool) (k : Task) → IsBehind f (done_by P t b TookOther τ) k → IsBehind f (done_by P t b TookOther σ) k
        by true k r = based-like _ _ k (g.raised h) r
        by false k r = based-like _ _ k part (subst (λ z. IsBased f t (other z τ) k) same-offer r)

    -- ---- at its call

    calling-like : (κ : Task) → is_call (offer_of σ) ≡ true → IsCalling f t τ κ → IsCalling f t σ κ
    calling-like κ h c = record {
      output = c.output ∙ g.output;
      offers = subst (Offers κ) same-offer c.offers;
      callers = c.callers ∙ g.callers;
      over = record {
        fits = c.over.fits;
        same = c.over.same ∙ ap (λ vs. Number (pos t) ∷ vs) g.handed;
        known = subst
            (AreValues x.programs) g.handed c.over.known;
      };
      returned = λ m j handed back. mapped (λ k. returned-like m k h back) (c.returned m j handed (back-too (f.IsLike t) σ τ g m m refl back));
      took_else = λ e i so.
          mapped (λ k. other-like h (other-else (offer_of σ) e i refl so) k) (c.took_else e i (ap (calls_in is_conditional e i) same-offer ∙ so));
      expired = λ e i so. mapped (λ k. other-like h (other-delay (offer_of σ) e i refl so) k) (c.expired e i (ap (calls_in is_timed e i) same-offer ∙ so));
      failed = mapped (λ k. failed-like k h) c.failed;
    }

    -- ---- all of it

    pub acts-like : (κ : Task) → ActsAlike f t τ κ → ActsAlike f t σ κ
    acts-like κ a = record {
      offers = subst (λ z. Offers κ (based_offer x.note t z)) same-offer a.offers;
      callers = a.callers ∙ g.callers;
      at_call = λ form e i h. noting-like (λ b k. calling-like k (ap is_call h)) (a.at_call form e i (same-offer ∙ h));
      at_abort = λ v h. noting-like (λ b k. based-like _ _ k (g.passed v h)) (a.at_abort v (same-offer ∙ h));
      at_end = λ h task. noting-like (λ b k (l : IsLeaving f t τ k). record { output = l.output ∙ g.output; offers = l.offers })
          (a.at_end (same-offer ∙ h) task);
      back = λ h. let b : HandBackAlike f.plainly τ κ = a.back (same-offer ∙ h) in
          record { pending = b.pending ∙ g.pending; finals = b.finals ∙ g.finals; known = subst (AreValues x.programs) g.finals b.known };
      over = λ h c outer serves. mapped (λ k. over-like c k h) (a.over (same-offer ∙ h) c outer (g.callers ∙ serves));
      accepted = λ e i h c v j hands. mapped (λ k. begun-like c e i v k h) (a.accepted e i (ap (waits_with (opens e i)) same-offer ∙ h) c v j hands);
      took_else = λ h. mapped (λ k. owing-like TookElse g.callers (λ b l r. based-like _ _ l (g.took_else h) r) k)
          (a.took_else (ap (waits_with is_else) same-offer ∙ h));
      took_delay = λ n h. mapped (λ k. owing-like (TookDelay n) g.callers (λ b l r. based-like _ _ l (g.took_delay n h) r) k)
          (a.took_delay n (ap (waits_with (is_delay n)) same-offer ∙ h));
    }
