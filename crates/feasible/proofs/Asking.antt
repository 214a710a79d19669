-- The conditions as the code asks them, task by task, are those of the table.
use Rattle.std.proofs.Common.{◌≡◌, ℕ, zero, suc, pred, ◌<◌, ◌≤◌, Bool, true, false, not, if◌then◌else◌, List, [], ◌∷◌, ◌++◌, length, refl, sym, ap, ap₂, ◌∙◌, subst, ⊎_elim, true≢false, arith, Option, Some, None}
use Rattle.std.specs.Prelude.{find, option_map}
use Rattle.std.proofs.lemmas.Bool.{cases_lt}
use Rattle.event_machine.specs.declared.Event.{Event}
use Rattle.event_machine.specs.declared.Event.TheVariants.{R, E, S, D, C, T, F, X, B, Z}
use Rattle.event_machine.specs.declared.Standing.{Standing}
use Rattle.event_machine.specs.declared.Standing.TheVariants.{Live, Waiting, Queued, Served, Completed as Over, Killed}
use Rattle.event_machine.specs.Offers.{Offer, calls_in, is_any_form, is_conditional, is_timed, waits_with, opens, is_else, is_delay, is_terminate, is_finish, is_end}
use Rattle.event_machine.specs.Worlds.{aborts}
use Rattle.syn_event.specs.Numbering.{Numbering, owner_of}
use Rattle.task_model.specs.Machine.{Tasks}
use Rattle.task_model.specs.Stands.{offer_of}
use Rattle.task_machine.specs.declared.verdict.Cause.TheVariants as cause
use Rattle.task_machine.specs.declared.verdict.Why.{Why}
use Rattle.task_machine.specs.Conditions.{Condition, holds, why_of, failing_in, first_failing, acts, not_served, not_closed, closed, at_offer, may_end, others_may_end, is_end_of}
use Rattle.task_machine.specs.Table.{seat_of}
use Rattle.task_machine.specs.Views.{View, Completed, Abnormal, Busy, At, view_in}
use Rattle.feasible.specs.Failing.{why, first_of, act_fails, closed_fails, open_fails, main_fails, other_fails, view_at, act_asked, asked}

-- ---- lists of conditions

pub failing_append : (views : ℕ → View) (xs ys : List Condition) → failing_in views (xs ++ ys) ≡ first_of (failing_in views xs) (failing_in views ys)
failing_append views [] ys = refl
failing_append views (x ∷ xs) ys = go (not (holds views x)) (failing_append views xs ys)
  where
    go : (b : Bool) → failing_in views (xs ++ ys) ≡ first_of (failing_in views xs) (failing_in views ys) →
        option_map why_of (if b then Some x else find (λ c. not (holds views c)) (xs ++ ys)) ≡ first_of (option_map why_of (if b then Some x else find (λ c. not (holds views c)) xs)) (failing_in views ys)
    go true h = refl
    go false h = h

-- what is asked of an offer holds of the view that shows it
abbrev Fits : View → (Offer → Bool) → Bool → Type 0
Fits Completed test passes = Unit {0}
Fits Abnormal test passes = Unit {0}
Fits Busy test passes = Unit {0}
Fits (At offer) test passes = passes ≡ test offer

fits : (z : Standing) (offer : Offer) (test : Offer → Bool) → Fits (view_in z offer) test (test offer)
fits Live offer test = refl
fits Waiting offer test = refl
fits Queued offer test = refl
fits (Served by true) offer test = tt
fits (Served by false) offer test = tt
fits Over offer test = tt
fits Killed offer test = tt

-- ---- one task

acts_asked : (v : View) (t : ℕ) (test : Offer → Bool) (passes : Bool) → Fits v test passes → failing_in (λ u. v) (acts t test) ≡ act_fails v t passes
acts_asked Completed t test passes h = refl
acts_asked Abnormal t test passes h = refl
acts_asked Busy t test passes h = refl
acts_asked (At offer) t test passes h = go (test offer) passes h
  where
    go : (b c : Bool) → c ≡ b → option_map why_of (if not b then Some (at_offer t test) else None) ≡ (if c then None else why cause.Offer t)
    go true true e = refl
    go true false e = absurd (true≢false (sym e))
    go false true e = absurd (true≢false e)
    go false false e = refl

open_asked : (v : View) (t : ℕ) → failing_in (λ u. v) (not_closed t ∷ []) ≡ closed_fails v t
open_asked Completed t = refl
open_asked Abnormal t = refl
open_asked Busy t = refl
open_asked (At offer) t = refl

closed_asked : (v : View) (t : ℕ) → failing_in (λ u. v) (closed t ∷ []) ≡ open_fails v t
closed_asked Completed t = refl
closed_asked Abnormal t = refl
closed_asked Busy t = refl
closed_asked (At offer) t = refl

main_asked : (v : View) (passes : Bool) → Fits v is_end passes → failing_in (λ u. v) (not_served 0 ∷ at_offer 0 is_end ∷ []) ≡ main_fails v passes
main_asked Completed passes h = refl
main_asked Abnormal passes h = refl
main_asked Busy passes h = refl
main_asked (At offer) passes h = go (is_end offer) passes h
  where
    go : (b c : Bool) → c ≡ b → option_map why_of (if not b then Some (at_offer 0 is_end) else None) ≡ (if c then None else why cause.Offer 0)
    go true true e = refl
    go true false e = absurd (true≢false (sym e))
    go false true e = absurd (true≢false e)
    go false false e = refl

pub other_asked : (v : View) (t : ℕ) (passes : Bool) → Fits v (waits_with is_terminate) passes → failing_in (λ u. v) (not_served t ∷ may_end t ∷ []) ≡ other_fails v t passes
other_asked Completed t passes h = refl
other_asked Abnormal t passes h = refl
other_asked Busy t passes h = refl
other_asked (At offer) t passes h = go (waits_with is_terminate offer) passes h
  where
    go : (b c : Bool) → c ≡ b → option_map why_of (if not b then Some (may_end t) else None) ≡ (if c then None else why cause.Offer t)
    go true true e = refl
    go true false e = absurd (true≢false (sym e))
    go false true e = absurd (true≢false e)
    go false false e = refl

-- ---- the tasks of a list

module _ (tasks : Tasks) where
  pub acting : (t : ℕ) (test : Offer → Bool) → failing_in (view_at tasks) (acts t test) ≡ act_asked tasks t test
  acting t test = acts_asked (view_at tasks t) t test (test (offer_of (seat_of tasks t).local)) (fits (seat_of tasks t).standing (offer_of (seat_of tasks t).local) test)

  -- a further task is asked whether it can end
  pub others_more : (t : ℕ) → failing_in (view_at tasks) (others_may_end (suc t)) ≡
      first_of (failing_in (view_at tasks) (others_may_end t)) (other_fails (view_at tasks (suc t)) (suc t) (waits_with is_terminate (offer_of (seat_of tasks (suc t)).local)))
  others_more t = failing_append (view_at tasks) (others_may_end t) (not_served (suc t) ∷ may_end (suc t) ∷ []) ∙
      ap (first_of (failing_in (view_at tasks) (others_may_end t)))
      (other_asked (view_at tasks (suc t)) (suc t) (waits_with is_terminate (offer_of (seat_of tasks (suc t)).local))
      (fits (seat_of tasks (suc t)).standing (offer_of (seat_of tasks (suc t)).local) (waits_with is_terminate)))

  -- what is found at the next of them
  pub others_at : (t : ℕ) (o : Option Why) → 1 ≤ t → failing_in (view_at tasks) (others_may_end (pred t)) ≡ None →
      o ≡ other_fails (view_at tasks t) t (waits_with is_terminate (offer_of (seat_of tasks t).local)) → failing_in (view_at tasks) (others_may_end t) ≡ o
  others_at zero o l h e = absurd (omega arith)
  others_at (suc t) o l h e =
      others_more t ∙ ap (λ x. first_of x (other_fails (view_at tasks (suc t)) (suc t) (waits_with is_terminate (offer_of (seat_of tasks (suc t)).local)))) h ∙ sym e

  -- what fails among fewer is what fails among all
  pub others_first : (n t : ℕ) (w : Why) → t ≤ n → failing_in (view_at tasks) (others_may_end t) ≡ Some w → failing_in (view_at tasks) (others_may_end n) ≡ Some w
  others_first zero t w l h = let e : t ≡ 0 = omega arith in subst (λ u. failing_in (view_at tasks) (others_may_end u) ≡ Some w) e h
  others_first (suc n) t w l h = ⊎_elim
      (λ (k : t < suc n). others_more n ∙ ap (λ o. first_of o (other_fails (view_at tasks (suc n)) (suc n) (waits_with is_terminate (offer_of (seat_of tasks (suc n)).local)))) (others_first n t w (omega arith) h))
      (λ (k : suc n ≤ t). let e : t ≡ suc n = omega arith in subst (λ u. failing_in (view_at tasks) (others_may_end u) ≡ Some w) e h)
      (cases_lt t (suc n))

  two : (xs ys : List Condition) (a b : Option Why) → failing_in (view_at tasks) xs ≡ a → failing_in (view_at tasks) ys ≡ b → failing_in (view_at tasks) (xs ++ ys) ≡ first_of a b
  two xs ys a b e f = failing_append (view_at tasks) xs ys ∙ ap₂ first_of e f

  -- The code asks the conditions of the table.
  pub asked_all : (numbers : Numbering) (e : Event) → length tasks ≡ length numbers.tasks → asked numbers tasks e ≡ first_failing numbers (view_at tasks) e
  asked_all numbers (R c e i) size = sym (two (acts c (calls_in is_any_form e i)) (acts (owner_of numbers e) (waits_with (opens e i))) _ _
      (acting c (calls_in is_any_form e i)) (acting (owner_of numbers e) (waits_with (opens e i))))
  asked_all numbers (E a) size = sym (acting a is_finish)
  asked_all numbers (S a) size = sym (acting a (waits_with is_else))
  asked_all numbers (D a k) size = sym (acting a (waits_with (is_delay k)))
  asked_all numbers (C c e i) size = sym (two (acts c (calls_in is_conditional e i)) (not_closed (owner_of numbers e) ∷ []) _ _
      (acting c (calls_in is_conditional e i)) (open_asked (view_at tasks (owner_of numbers e)) (owner_of numbers e)))
  asked_all numbers (T c e i) size = sym (two (acts c (calls_in is_timed e i)) (not_closed (owner_of numbers e) ∷ []) _ _
      (acting c (calls_in is_timed e i)) (open_asked (view_at tasks (owner_of numbers e)) (owner_of numbers e)))
  asked_all numbers (F c e i) size = sym (two (acts c (calls_in is_any_form e i)) (closed (owner_of numbers e) ∷ []) _ _
      (acting c (calls_in is_any_form e i)) (closed_asked (view_at tasks (owner_of numbers e)) (owner_of numbers e)))
  asked_all numbers (X a) size = sym (acting a (is_end_of a))
  asked_all numbers (B t x) size = sym (acting t (aborts x))
  asked_all numbers Z size = sym (two (not_served 0 ∷ at_offer 0 is_end ∷ []) (others_may_end (pred (length numbers.tasks))) _ _
      (main_asked (view_at tasks 0) (is_end (offer_of (seat_of tasks 0).local)) (fits (seat_of tasks 0).standing (offer_of (seat_of tasks 0).local) is_end))
      (ap (λ n. failing_in (view_at tasks) (others_may_end (pred n))) (sym size)))
