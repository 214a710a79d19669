-- A rendezvous that ends first for its caller and then for its acceptor ends on both sides.
use Rattle.std.proofs.Common.{◌≡◌, ℕ, zero, suc, ◌<◌, ◌≤◌, Bool, true, false, ◌==◌, if◌then◌else◌, List, [], ◌∷◌, length, slice_set, refl, sym, ap, ◌∙◌, subst, Option, Some, None, true≢false, ⊎_elim}
use Rattle.std.proofs.lemmas.Bool.{eq-eqb, eqb-true, cases_lt}
use Rattle.std.proofs.lemmas.List.{get_or-set_other, get_or-set_same, set-get_or, get_or_past, set_past}
use Rattle.ada_value.specs.declared.values.Value.{Value}
use Rattle.ada_value.specs.declared.values.Raised.{Raised}
use Rattle.event_machine.specs.States.{Seat, completed, live, is_served_by, is_abnormal}
use Rattle.event_machine.specs.Effects.{freed, parted, parted_both, released_first}
use Rattle.syn_event.specs.Numbering.{Numbering}
use Rattle.task_model.specs.Frames.{callers_in}
use Rattle.task_model.specs.Tasks.{Task}
use Rattle.task_model.specs.Rendezvous.{pending_of, finals_of, finished, resumed, resumed_with}
use Rattle.task_local.specs.rendezvous.Handed.{handed_back, unless_pending}
use Rattle.task_model.specs.Starting.{nobody}
use Rattle.task_model.specs.TaskOps.{task_ops}
use Rattle.task_model.specs.Machine.{Tasks, rules_of}
use Rattle.task_machine.specs.Table.{store, seat_of, offer_in_seat, parted_with, first_parted}

-- two writes at different places come to the same in either order
set_apart : {A : Type 0} (xs : List A) (i j : ℕ) (a b : A) → (i ≡ j → ⊥) → slice_set (slice_set xs i a) j b ≡ slice_set (slice_set xs j b) i a
set_apart [] i j a b h = refl
set_apart (x ∷ xs) zero zero a b h = absurd (h refl)
set_apart (x ∷ xs) zero (suc j) a b h = refl
set_apart (x ∷ xs) (suc i) zero a b h = refl
set_apart (x ∷ xs) (suc i) (suc j) a b h = ap (λ ys. x ∷ ys) (set_apart xs i j a b (λ e. h (ap suc e)))

differ : (a c : ℕ) → (c == a) ≡ false → c ≡ a → ⊥
differ a c h e = true≢false (sym (eq-eqb c a e) ∙ h)

-- what comes back is what the acceptor hands back
comes_back : (acceptor task : Task) (pending : Option Raised) (values : List Value) → pending ≡ pending_of acceptor → values ≡ handed_back acceptor →
    resumed_with pending values task ≡ resumed acceptor task
comes_back acceptor task pending values h k = (λ i. resumed_with (h i) (k i) task) ∙ by (pending_of acceptor)
  where
    by : (is : Option Raised) → resumed_with is (unless_pending is (finals_of acceptor)) task ≡ resumed_with is (finals_of acceptor) task
    by None = refl
    by (Some x) = refl

parted_same : (a : ℕ) (acceptor : Task) (pending : Option Raised) (values : List Value) (seat : Seat Task) → pending ≡ pending_of acceptor →
    values ≡ handed_back acceptor → parted_with a pending values seat ≡ parted task_ops a acceptor seat
parted_same a acceptor pending values seat h k =
    ap (λ t. if is_served_by a seat.standing then (if is_abnormal seat.standing then completed seat.local else live t) else seat) (comes_back acceptor seat.local pending values h k)

-- who is not served by the acceptor stays as it is
parted_unserved : (a : ℕ) (acceptor : Task) (seat : Seat Task) → is_served_by a seat.standing ≡ false → parted task_ops a acceptor seat ≡ seat
parted_unserved a acceptor seat h = ap (λ b. if b then (if is_abnormal seat.standing then completed seat.local else live (resumed acceptor seat.local)) else seat) h

module _ (numbers : Numbering) (tasks : Tasks) (a : ℕ) (pending : Option Raised) (values : List Value)
    (h : pending ≡ pending_of (seat_of tasks a).local) (k : values ≡ handed_back (seat_of tasks a).local) where
  abbrev closed : Tasks
  closed = freed store finished tasks a

  -- another caller
  other_apart : (c : ℕ) (y : Seat Task) → (c ≡ a → ⊥) → freed store finished (slice_set tasks c y) a ≡ slice_set closed c y
  other_apart c y apart =
      ap (λ (x : Seat Task). slice_set (slice_set tasks c y) a (live (finished x.local))) (get_or-set_other tasks c a y (completed nobody) (λ e. apart (sym e)))
      ∙ set_apart tasks c a y (live (finished (seat_of tasks a).local)) apart

  seen_same : (c : ℕ) → (c ≡ a → ⊥) → seat_of tasks c ≡ seat_of closed c
  seen_same c apart = sym (get_or-set_other tasks a c (live (finished (seat_of tasks a).local)) (completed nobody) apart)

  -- the acceptor, which is live, is served by nobody
  unserved : is_served_by a (seat_of closed a).standing ≡ false
  unserved = ⊎_elim
      (λ (l : a < length tasks). ap (λ (x : Seat Task). is_served_by a x.standing) (get_or-set_same tasks a (live (finished (seat_of tasks a).local)) (completed nobody) l))
      (λ (l : length tasks ≤ a).
      ap (λ (xs : Tasks). is_served_by a (seat_of xs a).standing) (set_past tasks a (live (finished (seat_of tasks a).local)) l)
      ∙ ap (λ (x : Seat Task). is_served_by a x.standing) (get_or_past tasks a (completed nobody) l))
      (cases_lt a (length tasks))

  other_then : (c : ℕ) (callers : List ℕ) (b : Bool) → (c == a) ≡ b →
      freed store finished (if b then tasks else slice_set tasks c (parted_with a pending values (seat_of tasks c))) a
      ≡ released_first (rules_of numbers) a (seat_of tasks a).local (c ∷ callers) closed
  other_then c callers true e =
      let same : c ≡ a = eqb-true c a e in
      sym (set-get_or closed c (completed nobody))
      ∙ ap (λ y. slice_set closed c y) (sym (parted_unserved a (seat_of tasks a).local (seat_of closed c) (subst (λ d. is_served_by a (seat_of closed d).standing ≡ false) (sym same) unserved)))
  other_then c callers false e =
      other_apart c (parted_with a pending values (seat_of tasks c)) (differ a c e)
      ∙ ap (λ y. slice_set closed c y)
      (parted_same a (seat_of tasks a).local pending values (seat_of tasks c) h k ∙ ap (parted task_ops a (seat_of tasks a).local) (seen_same c (differ a c e)))

  ends_by : (callers : List ℕ) → freed store finished (first_parted a pending values callers tasks) a ≡ released_first (rules_of numbers) a (seat_of tasks a).local callers closed
  ends_by [] = refl
  ends_by (c ∷ callers) = other_then c callers (c == a) refl

  pub ends_both : freed store finished (first_parted a pending values (callers_in (seat_of tasks a).local.control) tasks) a ≡ parted_both (rules_of numbers) tasks a
  ends_both = ends_by (callers_in (seat_of tasks a).local.control)

  offer_by : (callers : List ℕ) → offer_in_seat (seat_of (first_parted a pending values callers tasks) a) ≡ offer_in_seat (seat_of tasks a)
  offer_by [] = refl
  offer_by (c ∷ callers) = at (c == a) refl
    where
      at : (b : Bool) → (c == a) ≡ b →
          offer_in_seat (seat_of (if b then tasks else slice_set tasks c (parted_with a pending values (seat_of tasks c))) a) ≡ offer_in_seat (seat_of tasks a)
      at true e = refl
      at false e = ap offer_in_seat (get_or-set_other tasks c a (parted_with a pending values (seat_of tasks c)) (completed nobody) (λ q. differ a c e (sym q)))

  -- the acceptor still stands at the end of its accept body
  pub stays_there : offer_in_seat (seat_of (first_parted a pending values (callers_in (seat_of tasks a).local.control) tasks) a) ≡ offer_in_seat (seat_of tasks a)
  stays_there = offer_by (callers_in (seat_of tasks a).local.control)
