-- What is known of the statements of a task stays known, whatever it does and whatever is done to it; and main has no callers.
use Rattle.std.proofs.Common.{◌≡◌, ◌<◌, ℕ, zero, suc, ℤ, Bool, true, List, [], ◌∷◌, refl, sym, ◌∙◌, subst, true≢false, arith}
use Rattle.std.specs.Prelude.{nat_lt}
use Rattle.std.specs.List.{list_all}
use Rattle.std.proofs.lemmas.Bool.{and_parts}
use Rattle.common_lemmas.proofs.Numbers.{lt_is}
use Rattle.event_machine.specs.declared.Choice.{Choice}
use Rattle.event_machine.specs.Offers as offers
use Rattle.event_machine.specs.Lawful.{IsLawful, Keeps}
use Rattle.syn_event.specs.Numbering.{Numbering}
use Rattle.seq_file.specs.Known.{is_task, is_task_beside_main}
use Rattle.task_model.specs.Setting.{Setting}
use Rattle.task_model.specs.Frames.{callers_in}
use Rattle.task_model.specs.Tasks.{Task}
use Rattle.task_model.specs.Stands.{offer_of, stepped}
use Rattle.task_model.specs.Rendezvous as rendezvous
use Rattle.task_model.specs.TaskOps.{task_ops}
use Rattle.task_model.specs.Laws.{IsProper}
use Rattle.task_model.proofs.Lawful.{lawful}
use Rattle.task_laws.specs.statements.Each.{HoldsOf}
use Rattle.task_laws.specs.statements.Laws.{StaysSo}
use Rattle.task_laws.proofs.statements.Carried.{stays-so}
use Rattle.replay_runs.proofs.controls.replayed.Settings.{stepped-same, accepted-same, finished-same, resumed-same, failed-same, else-same, delay-same, passed-same}
use Rattle.replay_runs.proofs.controls.meanings.Numbered.{has_stepped, has_accepted, has_finished, has_resumed, has_took_else, has_took_delay, has_passed}
use Rattle.race_variant.specs.KnownOffers.{is_known_choice, is_known_offer}
use Rattle.progress_law.specs.offers.inner.Stated.{IsKnownAt, HasFewDelays}
use Rattle.progress_law.proofs.offers.Offering.{offer-known}

-- main waits for nothing
waits-beside : (numbers : Numbering) (n : ℕ) (test : Choice → Bool) (o : offers.Offer) → is_known_offer numbers n o ≡ true → offers.waits_with test o ≡ true → 0 < n
waits-beside numbers n test (offers.Waits choices) h w =
    let beside : is_task_beside_main numbers n ≡ true = (and_parts (is_task_beside_main numbers n) (list_all is_known_choice choices) h).0 in
    lt_is 0 n (and_parts (is_task numbers n) (nat_lt 0 n) beside).1
waits-beside numbers n test offers.Nothing h w = absurd (true≢false (sym w))
waits-beside numbers n test (offers.Calls form e i) h w = absurd (true≢false (sym w))
waits-beside numbers n test offers.Finishes h w = absurd (true≢false (sym w))
waits-beside numbers n test offers.Ends h w = absurd (true≢false (sym w))
waits-beside numbers n test (offers.Aborts x) h w = absurd (true≢false (sym w))

no-caller : (c : ℕ) (cs ds : List ℕ) → cs ≡ [] → cs ≡ c ∷ ds → ⊥
no-caller c cs ds e f = cc

module _ (g : Setting) where
  -- What is known of a task of the program.
  pub record Known (l : Task) : Type 0 where
    pub proper : IsProper l
    pub setting : l.setting ≡ g
    pub there : is_task g.numbers l.number ≡ true
    pub known : HoldsOf (IsKnownAt g l.number) l
    pub few : HoldsOf HasFewDelays l
    pub main : l.number ≡ 0 → callers_in l.control ≡ []

  -- main finishes no rendezvous
  finishes-beside : (l : Task) → Known l → offer_of l ≡ offers.Finishes → 0 < l.number
  finishes-beside l k fin = by_number l.number refl
    where
      by_number : (n : ℕ) → l.number ≡ n → 0 < n
      by_number zero z = let (c, proper, same) = lawful.finished l k.proper fin in absurd (no-caller c (callers_in l.control) (callers_in (rendezvous.finished l).control) (k.main z) same)
      by_number (suc n) z = omega arith

  -- so what it offers is known
  pub known-offer : (l : Task) → Known l → is_known_offer g.numbers l.number (offer_of l) ≡ true
  known-offer l k =
      subst (λ (s : Setting). is_known_offer s.numbers l.number (offer_of l) ≡ true) k.setting
      (offer-known l (subst (λ (s : Setting). is_task s.numbers l.number ≡ true) (sym k.setting) k.there) (subst (λ (s : Setting). HoldsOf (IsKnownAt s l.number) l) (sym k.setting) k.known) k.few
      (finishes-beside l k))

  known-so : (l : Task) → Known l → StaysSo (IsKnownAt g l.number) l
  known-so l k = stays-so (IsKnownAt g l.number) (λ loops c d cs s h. h.1) l k.known

  few-so : (l : Task) → Known l → StaysSo HasFewDelays l
  few-so l k = stays-so HasFewDelays (λ loops c d cs s h. tt) l k.few

  -- of a task after something was done to it
  after : (l u : Task) → Known l → IsProper u → u.setting ≡ l.setting → u.number ≡ l.number → HoldsOf (IsKnownAt g l.number) u → HoldsOf HasFewDelays u →
      (l.number ≡ 0 → callers_in u.control ≡ []) → Known u
  after l u k proper setting number known few main = record {
    proper = proper;
    setting = setting ∙ k.setting;
    there = subst (λ n. is_task g.numbers n ≡ true) (sym number) k.there;
    known = subst (λ n. HoldsOf (IsKnownAt g n) u) (sym number) known;
    few = few;
    main = λ z. main (sym number ∙ z);
  }

  -- where its callers are the same
  kept : (l u : Task) → Known l → Keeps task_ops IsProper l u → u.setting ≡ l.setting → u.number ≡ l.number → HoldsOf (IsKnownAt g l.number) u → HoldsOf HasFewDelays u → Keeps task_ops Known l u
  kept l u k keeps setting number known few = (after l u k keeps.0 setting number known few (λ z. keeps.1 ∙ k.main z), keeps.1)

  pub known-lawful : IsLawful task_ops Known
  known-lawful = record {
    rests = lawful.rests;
    stepped = λ l k can. kept l (stepped l) k (lawful.stepped l k.proper can) (stepped-same l) (has_stepped l.number l refl) (known-so l k).stepped (few-so l k).stepped;
    resumed = λ acceptor l other k.
        kept l (rendezvous.resumed acceptor l) k (lawful.resumed acceptor l other.proper k.proper) (resumed-same acceptor l) (has_resumed l.number acceptor l refl) ((known-so l k).resumed acceptor) ((few-so l k).resumed acceptor);
    raised = λ l k. kept l (rendezvous.call_failed l) k (lawful.raised l k.proper) (failed-same l) refl (known-so l k).raised (few-so l k).raised;
    took_else = λ l k. kept l (rendezvous.took_else l) k (lawful.took_else l k.proper) (else-same l) (has_took_else l.number l refl) (known-so l k).took_else (few-so l k).took_else;
    took_delay = λ n l k. kept l (rendezvous.took_delay n l) k (lawful.took_delay n l k.proper) (delay-same n l) (has_took_delay l.number n l refl) ((known-so l k).took_delay n) ((few-so l k).took_delay n);
    passed = λ l k. kept l (rendezvous.past_name l) k (lawful.passed l k.proper) (passed-same l) (has_passed l.number l refl) (known-so l k).passed (few-so l k).passed;
    accepted = λ e i c caller l other k waits. accepts e i c caller l other k waits;
    finished = λ l k fin. finishes l k fin;
    ended = λ l k ends. lawful.ended l k.proper ends;
  }
    where
      accepts : (e : ℕ) (i : ℤ) (c : ℕ) (caller l : Task) → Known caller → Known l → offers.waits_with (offers.opens e i) (offer_of l) ≡ true →
          Known (rendezvous.accepted e i c caller l) × (callers_in (rendezvous.accepted e i c caller l).control ≡ c ∷ callers_in l.control)
      accepts e i c caller l other k waits =
          let b = lawful.accepted e i c caller l other.proper k.proper waits in
          let more : 0 < l.number = waits-beside g.numbers l.number (offers.opens e i) (offer_of l) (known-offer l k) waits in (
            after l (rendezvous.accepted e i c caller l) k b.0 (accepted-same e i c caller l) (has_accepted l.number e i c caller l refl) ((known-so l k).accepted e i c caller) ((few-so l k).accepted e i c caller)
                (λ z. absurd (omega (arith, more, z))),
            b.1,
          )

      finishes : (l : Task) → Known l → offer_of l ≡ offers.Finishes → (c : ℕ) × Known (rendezvous.finished l) × (callers_in l.control ≡ c ∷ callers_in (rendezvous.finished l).control)
      finishes l k fin =
          let (c, proper, same) = lawful.finished l k.proper fin in
          let more : 0 < l.number = finishes-beside l k fin in (
            c,
            after l (rendezvous.finished l) k proper (finished-same l) (has_finished l.number l refl) (known-so l k).finished (few-so l k).finished (λ z. absurd (omega (arith, more, z))),
            same,
          )
