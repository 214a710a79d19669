-- What can come next has numbers that the program has, where its offers are known.
use Rattle.std.proofs.Common.{◌≡◌, ℕ, ℤ, Bool, true, not, ◌&&◌, ◌==◌, List, [], ◌∷◌, refl, sym, ap, ◌∙◌, subst, true≢false, ⊎_elim, arith}
use Rattle.std.specs.Prelude.{All, nat_lt}
use Rattle.std.specs.List.{list_all, list_any}
use Rattle.std.proofs.lemmas.Bool.{and_parts, and_from, eqb-true, or_cases}
use Rattle.std.proofs.lemmas.List.Elements.{All-head}
use Rattle.event_machine.specs.declared.CallForm.{CallForm}
use Rattle.event_machine.specs.declared.Choice.{Choice}
use Rattle.event_machine.specs.declared.Choice.TheVariants.{Accept, Else, Delay, Terminate}
use Rattle.event_machine.specs.declared.Event.{Event}
use Rattle.event_machine.specs.declared.Event.TheVariants.{R, E, S, D, C, T, F, X, B, Z}
use Rattle.event_machine.specs.Offers.{Offer, Nothing, Calls, Waits, Finishes, Ends, Aborts, calls_in, same_member, is_any_form, is_conditional, is_timed, waits_with, is_else, is_delay, is_finish, is_end}
use Rattle.event_machine.specs.Worlds.{aborts}
use Rattle.event_machine.proofs.Basics.{same_member-true}
use Rattle.seq_file.specs.Known.{is_task, is_task_beside_main, is_alternative, is_known_member, is_call, is_known}
use Rattle.syn_event.specs.Numbering.{Numbering}
use Rattle.task_model.specs.Machine.{ProgramWithInputs}
use Rattle.task_machine.specs.Conditions.{needed_of, all_hold}
use Rattle.task_machine.specs.Judging.{AreViews}
use Rattle.task_machine.specs.Views.{View, Completed, Abnormal, Busy, At, ViewIs}
use Rattle.task_machine.proofs.Judged.{by_table}
use Rattle.race_variant.specs.GoingLaws.{VariantsAreKnown}
use Rattle.race_variant.specs.KnownOffers.{is_known_choice, is_known_offer, OffersAreKnown}
use Rattle.race_variant.specs.inner.Passing.{offer_seen}
use Rattle.race_variant.proofs.Offers.{holds_R, holds_E, holds_S, holds_D, holds_C, holds_T, holds_F, holds_X, holds_B}
use Rattle.common_lemmas.proofs.Truth.{and_left as first_part}

module _ (numbers : Numbering) (t : ℕ) where
  -- ---- offers that pass a test

  call_known : (test : CallForm → Bool) (e : ℕ) (i : ℤ) (o : Offer) → is_known_offer numbers t o ≡ true → calls_in test e i o ≡ true → is_call numbers t e i ≡ true
  call_known test e i Nothing h k = absurd (true≢false (sym k))
  call_known test e i (Calls form f j) h k =
      let same = same_member-true e f i j (and_parts (test form) (same_member e i f j) k).1 in
      ap (λ n. is_task numbers t && is_known_member numbers n i) same.0 ∙ ap (λ z. is_task numbers t && is_known_member numbers f z) same.1 ∙ h
  call_known test e i (Waits choices) h k = absurd (true≢false (sym k))
  call_known test e i Finishes h k = absurd (true≢false (sym k))
  call_known test e i Ends h k = absurd (true≢false (sym k))
  call_known test e i (Aborts x) h k = absurd (true≢false (sym k))

  wait_known : (test : Choice → Bool) (o : Offer) → is_known_offer numbers t o ≡ true → waits_with test o ≡ true → is_task_beside_main numbers t ≡ true
  wait_known test Nothing h k = absurd (true≢false (sym k))
  wait_known test (Calls form e i) h k = absurd (true≢false (sym k))
  wait_known test (Waits choices) h k = first_part (is_task_beside_main numbers t) (list_all is_known_choice choices) h
  wait_known test Finishes h k = absurd (true≢false (sym k))
  wait_known test Ends h k = absurd (true≢false (sym k))
  wait_known test (Aborts x) h k = absurd (true≢false (sym k))

  choice_known : (k : ℕ) (c : Choice) → is_known_choice c ≡ true → is_delay k c ≡ true → is_alternative k ≡ true
  choice_known k (Accept e i) h is = absurd (true≢false (sym is))
  choice_known k Else h is = absurd (true≢false (sym is))
  choice_known k (Delay l) h is = ap is_alternative (eqb-true k l is) ∙ h
  choice_known k Terminate h is = absurd (true≢false (sym is))

  choices_known : (k : ℕ) (choices : List Choice) → list_all is_known_choice choices ≡ true → list_any (is_delay k) choices ≡ true → is_alternative k ≡ true
  choices_known k [] h is = absurd (true≢false (sym is))
  choices_known k (c ∷ choices) h is =
      let parts = and_parts (is_known_choice c) (list_all is_known_choice choices) h in
      ⊎_elim (λ here. choice_known k c parts.0 here) (λ later. choices_known k choices parts.1 later) (or_cases (is_delay k c) (list_any (is_delay k) choices) is)

  delay_known : (k : ℕ) (o : Offer) → is_known_offer numbers t o ≡ true → waits_with (is_delay k) o ≡ true → is_alternative k ≡ true
  delay_known k Nothing h is = absurd (true≢false (sym is))
  delay_known k (Calls form e i) h is = absurd (true≢false (sym is))
  delay_known k (Waits choices) h is = choices_known k choices (and_parts (is_task_beside_main numbers t) (list_all is_known_choice choices) h).1 is
  delay_known k Finishes h is = absurd (true≢false (sym is))
  delay_known k Ends h is = absurd (true≢false (sym is))
  delay_known k (Aborts x) h is = absurd (true≢false (sym is))

  finish_known : (o : Offer) → is_known_offer numbers t o ≡ true → is_finish o ≡ true → is_task_beside_main numbers t ≡ true
  finish_known Nothing h k = absurd (true≢false (sym k))
  finish_known (Calls form e i) h k = absurd (true≢false (sym k))
  finish_known (Waits choices) h k = absurd (true≢false (sym k))
  finish_known Finishes h k = h
  finish_known Ends h k = absurd (true≢false (sym k))
  finish_known (Aborts x) h k = absurd (true≢false (sym k))

  end_known : (o : Offer) → is_known_offer numbers t o ≡ true → is_end o ≡ true → is_task numbers t ≡ true
  end_known Nothing h k = absurd (true≢false (sym k))
  end_known (Calls form e i) h k = absurd (true≢false (sym k))
  end_known (Waits choices) h k = absurd (true≢false (sym k))
  end_known Finishes h k = absurd (true≢false (sym k))
  end_known Ends h k = h
  end_known (Aborts x) h k = absurd (true≢false (sym k))

  abort_known : (x : ℕ) (o : Offer) → is_known_offer numbers t o ≡ true → aborts x o ≡ true → (is_task numbers t && is_task_beside_main numbers x) ≡ true
  abort_known x Nothing h k = absurd (true≢false (sym k))
  abort_known x (Calls form e i) h k = absurd (true≢false (sym k))
  abort_known x (Waits choices) h k = absurd (true≢false (sym k))
  abort_known x Finishes h k = absurd (true≢false (sym k))
  abort_known x Ends h k = absurd (true≢false (sym k))
  abort_known x (Aborts y) h k = ap (λ n. is_task numbers t && is_task_beside_main numbers n) (eqb-true x y k) ∙ h

-- a number that is not 0 is above it
above_zero : (a : ℕ) → not (a == 0) ≡ true → nat_lt 0 a ≡ true
above_zero a h = grind arith

-- ---- events

module _ (setup : ProgramWithInputs) (numbers : Numbering) (offers : OffersAreKnown setup numbers) (events : List Event) (views : ℕ → View) where
  seen_known : (t : ℕ) (v : View) → ViewIs setup numbers events t v → is_known_offer numbers t (offer_seen v) ≡ true
  seen_known t Completed is = refl
  seen_known t Abnormal is = refl
  seen_known t Busy is = refl
  seen_known t (At offer) is = offers events t offer is

  module _ (e : Event) (seen : AreViews setup numbers events e views) where
    -- the first task that the event needs
    first_known : (t : ℕ) (others : List ℕ) → needed_of numbers e ≡ (t ∷ others) → is_known_offer numbers t (offer_seen (views t)) ≡ true
    first_known t others is =
        seen_known t (views t) (All-head (λ u. ViewIs setup numbers events u (views u)) t others (subst (λ ts. All (λ u. ViewIs setup numbers events u (views u)) ts) is seen.needed))

  pub event_known : (e : Event) → AreViews setup numbers events e views → all_hold numbers views e ≡ true → is_known numbers e ≡ true
  event_known (R c e i) seen h = call_known numbers c is_any_form e i (offer_seen (views c)) (first_known (R c e i) seen c _ refl) (first_part _ _ (sym (holds_R numbers views c e i) ∙ h))
  event_known (E a) seen h = finish_known numbers a (offer_seen (views a)) (first_known (E a) seen a _ refl) (sym (holds_E numbers views a) ∙ h)
  event_known (S a) seen h = wait_known numbers a is_else (offer_seen (views a)) (first_known (S a) seen a _ refl) (sym (holds_S numbers views a) ∙ h)
  event_known (D a k) seen h =
      let known = first_known (D a k) seen a _ refl in
      let waits = sym (holds_D numbers views a k) ∙ h in
      and_from (is_task_beside_main numbers a) (is_alternative k) (wait_known numbers a (is_delay k) (offer_seen (views a)) known waits) (delay_known numbers a k (offer_seen (views a)) known waits)
  event_known (C c e i) seen h = call_known numbers c is_conditional e i (offer_seen (views c)) (first_known (C c e i) seen c _ refl) (first_part _ _ (sym (holds_C numbers views c e i) ∙ h))
  event_known (T c e i) seen h = call_known numbers c is_timed e i (offer_seen (views c)) (first_known (T c e i) seen c _ refl) (first_part _ _ (sym (holds_T numbers views c e i) ∙ h))
  event_known (F c e i) seen h = call_known numbers c is_any_form e i (offer_seen (views c)) (first_known (F c e i) seen c _ refl) (first_part _ _ (sym (holds_F numbers views c e i) ∙ h))
  event_known (X a) seen h =
      let parts = and_parts (not (a == 0)) (is_end (offer_seen (views a))) (sym (holds_X numbers views a) ∙ h) in
      and_from (is_task numbers a) (nat_lt 0 a) (end_known numbers a (offer_seen (views a)) (first_known (X a) seen a _ refl) parts.1) (above_zero a parts.0)
  event_known (B t x) seen h = abort_known numbers t x (offer_seen (views t)) (first_known (B t x) seen t _ refl) (sym (holds_B numbers views t x) ∙ h)
  event_known Z seen h = refl

pub variants_known : VariantsAreKnown
variants_known setup numbers offers bound events e (more, well) =
    let (views, seen, holds) = (by_table setup numbers events e more).0 (well events [] e refl).1 in
    event_known setup numbers offers events views e seen holds
