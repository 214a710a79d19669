-- What comes next after feasible events, in words of runs: an event does where its conditions hold of what is seen, and an open task holds some event up.
use Rattle.std.proofs.Common.{◌≡◌, ◌↔◌, ℕ, zero, suc, pred, ◌+◌, ◌<◌, ◌≤◌, true, false, not, ◌&&◌, ◌||◌, List, [], ◌∷◌, ◌++◌, length, refl, sym, ap, ◌∙◌, subst, arith, true≢false, ⊎_elim, ◌⊎◌}
use Rattle.std.specs.Prelude.{All}
use Rattle.std.specs.List.{list_all}
use Rattle.std.proofs.lemmas.Bool.{and_parts, cases_lt}
use Rattle.std.proofs.lemmas.List.Elements.{All-nil, All-cons, All-weaker, All-contains, Contains-append_right}
use Rattle.std.proofs.lemmas.List.Folds.{list_all-append}
use Rattle.common_lemmas.proofs.Numbers.{le_is, lt_true}
use Rattle.event_machine.proofs.Basics.{both}
use Rattle.event_machine.specs.declared.Event.{Event}
use Rattle.event_machine.specs.declared.Event.TheVariants.{R, E, S, D, C, T, F, X, B, Z}
use Rattle.event_machine.specs.declared.Standing.{Standing}
use Rattle.event_machine.specs.declared.Standing.TheVariants.{Live, Waiting, Queued, Served, Completed as Over, Killed}
use Rattle.event_machine.specs.Offers.{Offer, Nothing, waits_with, is_terminate, is_end}
use Rattle.event_machine.specs.States.{is_closed}
use Rattle.event_machine.specs.Tallies.{HasNoEnd}
use Rattle.syn_event.specs.Numbering.{Numbering, owner_of}
use Rattle.task_model.specs.Machine.{ProgramWithInputs}
use Rattle.task_model.specs.Stands.{offer_of}
use Rattle.task_machine.specs.declared.verdict.Verdict.TheVariants.{Feasible}
use Rattle.task_machine.specs.Conditions.{is_closed_view, is_served_view, is_completed_view, is_at, holds, others_may_end, not_served, may_end, needed_of, all_hold}
use Rattle.task_machine.specs.Judging.{AreViews, NoneOpen, VerdictIs}
use Rattle.task_machine.specs.Views.{IsOpenAt, StandsInSomeRun, View, At, ViewIs, view_in}
use Rattle.task_machine.proofs.Judged.{judged, rest_stands, view_seat}
use Rattle.task_machine.proofs.OneVerdict.{two_splits}
use Rattle.task_machine.proofs.Tabled.{needed_all}
use Rattle.task_machine.proofs.Verdicts.{verdict_on, verdict_held}
use Rattle.feasible.proofs.Running.{tasks_from}
use Rattle.race_variant.specs.Variants.{HoldsUp}
use Rattle.race_variant.specs.inner.Passing.{offer_seen}
use Rattle.race_variant.proofs.Choices.{past_last}
use Rattle.race_variant.proofs.Offers.{acting, accepting, holds_Z}

closed_view : (z : Standing) (o : Offer) → is_closed_view (view_in z o) ≡ is_closed z
closed_view Live o = refl
closed_view Waiting o = refl
closed_view Queued o = refl
closed_view (Served by true) o = refl
closed_view (Served by false) o = refl
closed_view Over o = refl
closed_view Killed o = refl

-- ---- no needed task offers nothing

module _ (numbers : Numbering) (views : ℕ → View) where
  -- the task is not seen to offer nothing
  abbrev Offers : ℕ → Type 0
  Offers t = views t ≡ At Nothing → ⊥

  not_nothing : (t : ℕ) → (offer_seen (views t) ≡ Nothing → ⊥) → Offers t
  not_nothing t h is = h (ap offer_seen is)

  -- none of the others does, where they can end
  others_offer : (n : ℕ) → list_all (holds views) (others_may_end n) ≡ true → (t : ℕ) → suc t ≤ n → Offers (suc t)
  others_offer zero h t le is = absurd (omega arith)
  others_offer (suc n) h t le is =
      let parts = and_parts (list_all (holds views) (others_may_end n)) (list_all (holds views) (not_served (suc n) ∷ may_end (suc n) ∷ []))
      (sym (list_all-append (holds views) (others_may_end n) (not_served (suc n) ∷ may_end (suc n) ∷ [])) ∙ h) in
      ⊎_elim
      (λ (k : suc t < suc n). others_offer n parts.0 t (omega arith) is)
      (λ (k : suc n ≤ suc t). let same : suc t ≡ suc n = omega arith in
      true≢false (sym parts.1 ∙ ap (λ v. not (is_served_view v) && ((is_completed_view v || is_at (waits_with is_terminate) v) && true)) (sym (ap views same) ∙ is)))
      (cases_lt (suc t) (suc n))

  one : (t : ℕ) → Offers t → All (λ t. Offers t) (t ∷ [])
  one t h = All-cons (λ t. Offers t) t [] h (All-nil (λ t. Offers t))

  -- Where its conditions hold, no task that an event needs offers nothing.
  needed_offer : (e : Event) → all_hold numbers views e ≡ true → All (λ t. Offers t) (needed_of numbers e)
  needed_offer (R c e i) h = All-cons (λ t. Offers t) c (owner_of numbers e ∷ []) (not_nothing c (acting numbers views (R c e i) h))
      (one (owner_of numbers e) (not_nothing (owner_of numbers e) (accepting numbers views c e i h)))
  needed_offer (E a) h = one a (not_nothing a (acting numbers views (E a) h))
  needed_offer (S a) h = one a (not_nothing a (acting numbers views (S a) h))
  needed_offer (D a k) h = one a (not_nothing a (acting numbers views (D a k) h))
  needed_offer (C c e i) h = one c (not_nothing c (acting numbers views (C c e i) h))
  needed_offer (T c e i) h = one c (not_nothing c (acting numbers views (T c e i) h))
  needed_offer (F c e i) h = one c (not_nothing c (acting numbers views (F c e i) h))
  needed_offer (X a) h = one a (not_nothing a (acting numbers views (X a) h))
  needed_offer (B t x) h = one t (not_nothing t (acting numbers views (B t x) h))
  needed_offer Z h = needed_all numbers (length numbers.tasks) refl (λ t. Offers t) Z (λ t need. at t (le_is t (pred (length numbers.tasks)) need))
    where
      at : (t : ℕ) → t ≤ pred (length numbers.tasks) → Offers t
      at zero le = not_nothing 0 (acting numbers views Z h)
      at (suc t) le = others_offer (pred (length numbers.tasks)) (and_parts (is_end (offer_seen (views 0))) _ (sym (holds_Z numbers views) ∙ h)).1 t le

-- ---- after feasible events

module _ (setup : ProgramWithInputs) (numbers : Numbering) (bound : ℕ) (events : List Event) where
  -- What is seen of a task: it is open and offers nothing, or it is not, and this is its view.
  abbrev pub IsSeen : ℕ → View → Type 0
  IsSeen t v = (IsOpenAt setup numbers events t bound × (v ≡ At Nothing)) ⊎ ((IsOpenAt setup numbers events t bound → ⊥) × ViewIs setup numbers events t v)

  module _ (well : VerdictIs setup numbers bound events Feasible) (more : HasNoEnd events) where
    module _ (views : ℕ → View) (seen : (t : ℕ) → IsSeen t (views t)) where
      closed_at : (t : ℕ) → (z : Standing) × StandsInSomeRun setup numbers events t z × (is_closed z ≡ is_closed_view (views t))
      closed_at t = ⊎_elim
          (λ (k : IsOpenAt setup numbers events t bound × (views t ≡ At Nothing)).
          (Live, rest_stands setup numbers events t bound k.0.0 k.0.1, sym (ap is_closed_view k.1)))
          (λ (k : (IsOpenAt setup numbers events t bound → ⊥) × ViewIs setup numbers events t (views t)).
          let (seat, is, same) = view_seat setup numbers events t (views t) k.1 in
          (seat.standing, is.standing, sym (closed_view seat.standing (offer_of seat.local)) ∙ ap is_closed_view (sym same)))
          (seen t)

      view_there : (t : ℕ) → (IsOpenAt setup numbers events t bound → ⊥) → ViewIs setup numbers events t (views t)
      view_there t shut = ⊎_elim
          (λ (k : IsOpenAt setup numbers events t bound × (views t ≡ At Nothing)). absurd (shut k.0))
          (λ (k : (IsOpenAt setup numbers events t bound → ⊥) × ViewIs setup numbers events t (views t)). k.1)
          (seen t)

      shut_there : (t : ℕ) → (views t ≡ At Nothing → ⊥) → IsOpenAt setup numbers events t bound → ⊥
      shut_there t offers opened = ⊎_elim
          (λ (k : IsOpenAt setup numbers events t bound × (views t ≡ At Nothing)). offers k.1)
          (λ (k : (IsOpenAt setup numbers events t bound → ⊥) × ViewIs setup numbers events t (views t)). k.0 opened)
          (seen t)

      all_seen : (e : Event) → NoneOpen setup numbers bound events (needed_of numbers e) → AreViews setup numbers events e views
      all_seen e none = record {
        needed = All-weaker (λ t. IsOpenAt setup numbers events t bound → ⊥) (λ t. ViewIs setup numbers events t (views t)) view_there (needed_of numbers e) none;
        closed = closed_at;
      }

      none_open : (e : Event) → all_hold numbers views e ≡ true → NoneOpen setup numbers bound events (needed_of numbers e)
      none_open e h = All-weaker (λ t. views t ≡ At Nothing → ⊥) (λ t. IsOpenAt setup numbers events t bound → ⊥) shut_there (needed_of numbers e) (needed_offer numbers views e h)

      -- An event can come next exactly where its conditions hold of what is seen.
      pub next_exactly : (e : Event) → VerdictIs setup numbers bound (events ++ e ∷ []) Feasible ↔ (all_hold numbers views e ≡ true)
      next_exactly e = (
        λ (v : VerdictIs setup numbers bound (events ++ e ∷ []) Feasible).
            let k = v events [] e refl in (judged setup numbers events e views more (all_seen e k.0)).0 k.1,
        λ h. verdict_on setup numbers bound events e well (none_open e h) ((judged setup numbers events e views more (all_seen e (none_open e h))).1 h),
      )

    -- An open task holds an event up.
    pub open_holds : (t : ℕ) → t < length numbers.tasks → IsOpenAt setup numbers events t bound → HoldsUp setup numbers bound events t
    open_holds zero within opened =
        let (later, order) = tasks_from (pred (length numbers.tasks)) 0 (omega arith) in
        (more, Z, refl, length events + 1, verdict_held setup numbers bound events Z 0 [] later well order (All-nil (λ t. IsOpenAt setup numbers events t bound → ⊥)) opened)
    open_holds (suc t) within opened = (
      more,
      S (suc t),
      both (lt_true (suc t) (length numbers.tasks) within) (lt_true 0 (suc t) (omega arith)),
      length events + 1,
      verdict_held setup numbers bound events (S (suc t)) (suc t) [] [] well refl (All-nil (λ t. IsOpenAt setup numbers events t bound → ⊥)) opened,
    )

    at_split : (P : ℕ → Type 0) (xs rest : List ℕ) (x : ℕ) → All P (xs ++ x ∷ rest) → P x
    at_split P xs rest x h = All-contains P (xs ++ x ∷ rest) x h (Contains-append_right xs (x ∷ rest) x (0, omega arith, refl))

    -- A task that holds an event up is open.
    pub holds_open : (t : ℕ) → HoldsUp setup numbers bound events t → IsOpenAt setup numbers events t bound
    holds_open t (going, e, known, at, v) = ⊎_elim
        (λ (k : (events ≡ v.before) × (e ≡ v.event)). subst (λ es. IsOpenAt setup numbers es t bound) (sym k.0) v.stays_open)
        (⊎_elim
        (λ (k : (mid : List Event) × (v.before ≡ (events ++ e ∷ mid))). absurd (past_last events k.0 v.reached.rest e v.event (v.reached.splits ∙ ap (λ es. es ++ v.event ∷ v.reached.rest) k.1)))
        (λ (k : (mid : List Event) × (events ≡ (v.before ++ v.event ∷ mid))).
        absurd (at_split (λ u. IsOpenAt setup numbers v.before u bound → ⊥) v.earlier v.later t
        (subst (λ ts. NoneOpen setup numbers bound v.before ts) v.order (well v.before k.0 v.event k.1).0) v.stays_open)))
        (two_splits events v.before [] v.reached.rest e v.event v.reached.splits)
