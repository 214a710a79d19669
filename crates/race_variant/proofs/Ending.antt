-- The tasks beside the main program, asked one after the other whether they can end.
use Rattle.std.proofs.Common.{◌≡◌, ℕ, zero, suc, pred, ◌+◌, ◌<◌, ◌≤◌, Bool, true, false, not, true≢false, ◌&&◌, refl, sym, ap, ◌∙◌, subst, arith, ⊎_elim, List, ◌∷◌, [], length, Option, Some, None}
use Rattle.std.specs.Prelude.{slice_get}
use Rattle.std.specs.List.{list_all}
use Rattle.std.proofs.lemmas.Bool.{cases_lt}
use Rattle.std.proofs.lemmas.List.Folds.{list_all-append}
use Rattle.event_machine.specs.declared.Standing.{Standing}
use Rattle.event_machine.specs.declared.Standing.TheVariants.{Live, Waiting, Queued, Served, Completed as Over, Killed}
use Rattle.event_machine.specs.Offers.{Offer}
use Rattle.event_machine.specs.States.{is_served}
use Rattle.task_model.specs.Machine.{Tasks}
use Rattle.task_model.specs.Stands.{offer_of}
use Rattle.task_machine.specs.Conditions.{holds, others_may_end, not_served, may_end, is_closed_view}
use Rattle.task_machine.specs.Table.{seat_of}
use Rattle.task_machine.specs.Views.{View, Completed, Abnormal, Busy, At, view_in}
use Rattle.feasible.specs.Failing.{view_at}
use Rattle.feasible.specs.declared.showing.TaskView.TheVariants as shown
use Rattle.feasible.specs.Shown.{Shows}
use Rattle.race_variant.specs.inner.Ending.{can_end_view}
use Rattle.race_variant.specs.inner.Passing.{seen_by, seen_at}
use Rattle.race_variant.proofs.Telling.{get_not}
use Rattle.common_lemmas.proofs.Truth.{and_false as no_more}

module _ (views : ℕ → View) where
  -- the first n of them can end
  abbrev Ends : ℕ → Bool
  Ends n = list_all (holds views) (others_may_end n)

  one_more : (t : ℕ) → Ends (suc t) ≡ (Ends t && can_end_view (views (suc t)))
  one_more t = list_all-append (holds views) (others_may_end t) (not_served (suc t) ∷ may_end (suc t) ∷ [])

  -- the next of them can end, too
  pub ends_next : (t : ℕ) → 1 ≤ t → Ends (pred t) ≡ true → can_end_view (views t) ≡ true → Ends (pred (t + 1)) ≡ true
  ends_next zero le h k = absurd (omega arith)
  ends_next (suc t) le h k =
      let e : suc t ≡ pred (suc t + 1) = omega arith in
      subst (λ n. Ends n ≡ true) e (one_more t ∙ ap (λ b. b && can_end_view (views (suc t))) h ∙ k)

  -- one of them can't
  pub ends_not : (n t : ℕ) → 1 ≤ t → t ≤ n → can_end_view (views t) ≡ false → Ends n ≡ false
  ends_not zero t le l k = absurd (omega arith)
  ends_not (suc n) t le l k = ⊎_elim
      (λ (q : t < suc n). one_more n ∙ ap (λ b. b && can_end_view (views (suc n))) (ends_not n t le (omega arith) k))
      (λ (q : suc n ≤ t). let e : t ≡ suc n = omega arith in
      one_more n ∙ ap (λ b. Ends n && b) (ap (λ u. can_end_view (views u)) (sym e) ∙ k) ∙ no_more (Ends n))
      (cases_lt t (suc n))

-- a closed task, by whether it is a caller in a rendezvous
closed_ends : (z : Standing) (o : Offer) → is_closed_view (view_in z o) ≡ true → can_end_view (view_in z o) ≡ not (is_served z)
closed_ends (Served by true) o h = refl
closed_ends Over o h = refl
closed_ends Killed o h = refl
closed_ends Live o h = absurd (true≢false (sym h))
closed_ends Waiting o h = absurd (true≢false (sym h))
closed_ends Queued o h = absurd (true≢false (sym h))
closed_ends (Served by false) o h = absurd (true≢false (sym h))

shows_closed : (v : View) → Shows v shown.Closed → is_closed_view v ≡ true
shows_closed Completed h = refl
shows_closed Abnormal h = refl
shows_closed Busy h = absurd (let e : shown.Closed ≡ shown.Busy = h in cc)
shows_closed (At offer) h = absurd h

seen_ends : (tasks : Tasks) (o : Option Bool) (t : ℕ) → (o ≡ None → ⊥) → Shows (seen_by o (view_at tasks t)) shown.Closed → not (is_served (seat_of tasks t).standing) ≡ can_end_view (seen_by o (view_at tasks t))
seen_ends tasks None t some h = absurd (some refl)
seen_ends tasks (Some true) t some h = sym (closed_ends (seat_of tasks t).standing (offer_of (seat_of tasks t).local) (shows_closed (view_at tasks t) h))
seen_ends tasks (Some false) t some h = absurd h

-- A task that is seen closed can end where it is no caller in a rendezvous.
pub closed_can_end : (tasks : Tasks) (settled : List Bool) (t : ℕ) (served : Bool) → t < length settled → Shows (seen_at tasks settled t) shown.Closed → served ≡ is_served (seat_of tasks t).standing →
    not served ≡ can_end_view (seen_at tasks settled t)
closed_can_end tasks settled t served less h is = ap not is ∙ seen_ends tasks (slice_get settled t) t (λ none. get_not settled t less none) h
