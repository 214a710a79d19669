-- The enabled list goes by what is looked at of each task, its standing, whether it has a local step and its offer: after a local step of a task that
-- has another one it is the same.
use Rattle.std.proofs.Common.{◌≡◌, ℕ, zero, suc, pred, ◌<◌, Bool, true, false, not, ◌&&◌, ◌||◌, ◌==◌, filter, List, [], ◌∷◌, ◌++◌, refl, sym, ap, ◌∙◌, subst, length, slice_index_or, slice_set}
use Rattle.std.proofs.lemmas.Bool.{eqb-true, eqb-false, and_parts}
use Rattle.std.proofs.lemmas.List.{get_or-set_same, get_or-set_other}
use Rattle.std.proofs.Math.ListN.{length-set}
use Rattle.event_machine.specs.declared.CallForm.{CallForm}
use Rattle.event_machine.specs.declared.Choice.{Choice}
use Rattle.event_machine.specs.declared.Choice.TheVariants.{Accept, Else as ElseChoice, Delay as DelayChoice, Terminate}
use Rattle.event_machine.specs.declared.Standing.TheVariants.{Live}
use Rattle.event_machine.specs.declared.Action.{Action}
use Rattle.event_machine.specs.declared.Action.TheVariants.{Local, Arrive, Start, Finish, Else, Delay, CallElse, Expire, Fail, Complete, Abort, End}
use Rattle.event_machine.specs.Effects.{after}
use Rattle.event_machine.specs.Offers.{Offer, Nothing, Calls, Waits, Finishes, Ends, Aborts, is_conditional, is_timed, is_any_form, waits_with, is_else, is_delay, is_end}
use Rattle.event_machine.specs.Programs.{Program, listed}
use Rattle.event_machine.specs.Applying.{action_applies, can, arrives, starts, has_caller, has_no_caller, calls_owner, same, others_can_end, can_end, actions_of, actions_below, enabled_of}
use Rattle.event_machine.specs.States.{Ops, Seat, State, Rules, Seen, seen, live, completed, is_live, is_waiting, is_queued, is_completed}
use Rattle.event_machine.proofs.Basics.{split}
use Rattle.event_machine.proofs.Listing.{in_list}
use Rattle.event_machine.proofs.Standings.{is-Live}

-- What is looked at of a task's state.
pub record Look : Type 0 where
  pub steps : Bool
  pub offer : Offer

-- a task that is only looked at
abbrev look_ops : Ops Look
look_ops = record {
  can_step = λ l. l.steps;
  stepped = λ l. l;
  offer = λ l. l.offer;
  callers = λ l. [];
  accepted = λ e i c caller l. l;
  finished = λ l. l;
  resumed = λ acceptor l. l;
  raised = λ l. l;
  took_else = λ l. l;
  took_delay = λ k l. l;
  passed = λ l. l;
  nobody = record { steps = false; offer = Nothing };
}

-- the enabled list of what is looked at
abbrev enabled_in : (ℕ → ℕ) → Seen Look → Bool → List Action
enabled_in owner s ended = filter (λ a. not ended && action_applies look_ops owner s a) (actions_below look_ops s s.size ++ End ∷ [])

module _ {L : Type 0} (ops : Ops L) where
  abbrev pub look : Seat L → Seat Look
  look seat = record { local = record { steps = ops.can_step seat.local; offer = ops.offer seat.local }; standing = seat.standing }

  abbrev pub looked : Seen L → Seen Look
  looked s = record { tasks = λ t. look (s.tasks t); size = s.size; line = s.line }

  -- ---- conditions

  arrives_looked : (owner : ℕ → ℕ) (s : Seen L) (o : Offer) → arrives owner s o ≡ arrives owner (looked s) o
  arrives_looked owner s Nothing = refl
  arrives_looked owner s (Calls form e i) = refl
  arrives_looked owner s (Waits choices) = refl
  arrives_looked owner s Finishes = refl
  arrives_looked owner s Ends = refl
  arrives_looked owner s (Aborts x) = refl

  starts_looked : (owner : ℕ → ℕ) (s : Seen L) (c : ℕ) (o : Offer) → starts ops owner s c o ≡ starts look_ops owner (looked s) c o
  starts_looked owner s c Nothing = refl
  starts_looked owner s c (Calls form e i) = refl
  starts_looked owner s c (Waits choices) = refl
  starts_looked owner s c Finishes = refl
  starts_looked owner s c Ends = refl
  starts_looked owner s c (Aborts x) = refl

  caller_looked : (s : Seen L) (choice : Choice) → has_caller ops s choice ≡ has_caller look_ops (looked s) choice
  caller_looked s (Accept e i) = refl
  caller_looked s ElseChoice = refl
  caller_looked s (DelayChoice k) = refl
  caller_looked s Terminate = refl

  no_caller_looked : (s : Seen L) (o : Offer) → has_no_caller ops s o ≡ has_no_caller look_ops (looked s) o
  no_caller_looked s o = λ i. not (waits_with (λ choice. caller_looked s choice i) o)

  owner_looked : (form_test : CallForm → Bool) (closed_test : Bool → Bool) (owner : ℕ → ℕ) (s : Seen L) (o : Offer) →
      calls_owner form_test closed_test owner s o ≡ calls_owner form_test closed_test owner (looked s) o
  owner_looked form_test closed_test owner s Nothing = refl
  owner_looked form_test closed_test owner s (Calls form e i) = refl
  owner_looked form_test closed_test owner s (Waits choices) = refl
  owner_looked form_test closed_test owner s Finishes = refl
  owner_looked form_test closed_test owner s Ends = refl
  owner_looked form_test closed_test owner s (Aborts x) = refl

  others_looked : (s : Seen L) (n : ℕ) → others_can_end ops s n ≡ others_can_end look_ops (looked s) n
  others_looked s zero = refl
  others_looked s (suc n) = ap (λ b. b && can_end ops (s.tasks (suc n))) (others_looked s n)

  applies_looked : (owner : ℕ → ℕ) (s : Seen L) (action : Action) → action_applies ops owner s action ≡ action_applies look_ops owner (looked s) action
  applies_looked owner s (Local t) = refl
  applies_looked owner s (Arrive t) = λ i. is_live (s.tasks t).standing && arrives_looked owner s (ops.offer (s.tasks t).local) i
  applies_looked owner s (Start c) = starts_looked owner s c (ops.offer (s.tasks c).local)
  applies_looked owner s (Finish a) = refl
  applies_looked owner s (Else a) =
      λ i. is_waiting (s.tasks a).standing && (waits_with is_else (ops.offer (s.tasks a).local) && no_caller_looked s (ops.offer (s.tasks a).local) i)
  applies_looked owner s (Delay a k) =
      λ i. is_waiting (s.tasks a).standing && (waits_with (is_delay k) (ops.offer (s.tasks a).local) && no_caller_looked s (ops.offer (s.tasks a).local) i)
  applies_looked owner s (CallElse c) =
      let o : Offer = ops.offer (s.tasks c).local in
      λ i. is_live (s.tasks c).standing && (owner_looked is_conditional not owner s o i && not (starts_looked owner s c o i))
  applies_looked owner s (Expire c) = λ i. is_queued (s.tasks c).standing && owner_looked is_timed not owner s (ops.offer (s.tasks c).local) i
  applies_looked owner s (Fail c) =
      λ i. (is_live (s.tasks c).standing || is_queued (s.tasks c).standing) && owner_looked is_any_form same owner s (ops.offer (s.tasks c).local) i
  applies_looked owner s (Complete a) = refl
  applies_looked owner s (Abort t) = refl
  applies_looked owner s End = λ i. is_live (s.tasks 0).standing && (is_end (ops.offer (s.tasks 0).local) && others_looked s (pred s.size) i)

  actions_looked : (s : Seen L) (n : ℕ) → actions_below ops s n ≡ actions_below look_ops (looked s) n
  actions_looked s zero = refl
  actions_looked s (suc n) = ap (λ actions. actions ++ actions_of ops s n) (actions_looked s n)

-- The enabled list goes by what is looked at.
enabled_looked : {L C : Type 0} (rules : Rules L C) (s : State C) → enabled_of rules s ≡ enabled_in rules.owner (looked rules.ops (seen rules s)) s.ended
enabled_looked rules s =
    λ i. filter (λ a. not s.ended && applies_looked rules.ops rules.owner (seen rules s) a i) (actions_looked rules.ops (seen rules s) (seen rules s).size i ++ End ∷ [])

-- Two states in which each task looks the same.
pub record LookSame {L C : Type 0} (rules : Rules L C) (s s' : State C) : Type 0 where
  pub tasks : (t : ℕ) → look rules.ops (rules.store.at s'.seats t) ≡ look rules.ops (rules.store.at s.seats t)
  pub size : rules.store.size s'.seats ≡ rules.store.size s.seats
  pub line : s'.line ≡ s.line
  pub ended : s'.ended ≡ s.ended

-- they have the same enabled list
pub enabled_same : {L C : Type 0} (rules : Rules L C) (s s' : State C) → LookSame rules s s' → enabled_of rules s' ≡ enabled_of rules s
enabled_same rules s s' h =
    enabled_looked rules s'
    ∙ (λ i. enabled_in rules.owner (record { tasks = λ t. h.tasks t i; size = h.size i; line = h.line i }) (h.ended i))
    ∙ sym (enabled_looked rules s)

module _ {L : Type 0} (p : Program L) (rests : (l : L) → p.ops.can_step l ≡ true → p.ops.offer l ≡ Nothing) where
  abbrev gone : Seat L
  gone = completed p.ops.nobody

  -- what is looked at of a live task that has a local step
  look_stepping : (seat : Seat L) → is_live seat.standing ≡ true → p.ops.can_step seat.local ≡ true →
      look p.ops seat ≡ record { local = record { steps = true; offer = Nothing }; standing = Live }
  look_stepping seat live steps =
      λ i. record { local = record { steps = steps i; offer = rests seat.local steps i }; standing = is-Live seat.standing live i }

  -- a task that makes a local step is live and has one
  steps_at : (s : State (List (Seat L))) (t : ℕ) → can (listed p) s (Local t) ≡ true →
      (is_live (slice_index_or s.seats t gone).standing ≡ true) × (p.ops.can_step (slice_index_or s.seats t gone).local ≡ true)
  steps_at s t h = split (and_parts (not s.ended) _ h).1

  -- After a local step of a task that has another one each task looks the same.
  local_same : (s : State (List (Seat L))) (t : ℕ) → can (listed p) s (Local t) ≡ true → can (listed p) (after (listed p) s (Local t)) (Local t) ≡ true →
      LookSame (listed p) s (after (listed p) s (Local t))
  local_same s t first again = record { tasks = λ u. go u (u == t) refl; size = length-set s.seats t next; line = refl; ended = refl }
    where
      seat : Seat L
      seat = slice_index_or s.seats t gone

      next : Seat L
      next = live (p.ops.stepped seat.local)

      it : (is_live seat.standing ≡ true) × (p.ops.can_step seat.local ≡ true)
      it = steps_at s t first

      inside : t < length s.seats
      inside = in_list p s.seats t (ap is_completed (is-Live seat.standing it.0))

      there : slice_index_or (slice_set s.seats t next) t gone ≡ next
      there = get_or-set_same s.seats t next gone inside

      more : p.ops.can_step next.local ≡ true
      more = ap (λ (x : Seat L). p.ops.can_step x.local) (sym there) ∙ (steps_at (after (listed p) s (Local t)) t again).1

      go : (u : ℕ) (b : Bool) → (u == t) ≡ b → look p.ops (slice_index_or (slice_set s.seats t next) u gone) ≡ look p.ops (slice_index_or s.seats u gone)
      go u true q = subst (λ v. look p.ops (slice_index_or (slice_set s.seats t next) v gone) ≡ look p.ops (slice_index_or s.seats v gone)) (sym (eqb-true u t q))
          (ap (look p.ops) there ∙ look_stepping next refl more ∙ sym (look_stepping seat it.0 it.1))
      go u false q = ap (look p.ops) (get_or-set_other s.seats t u next gone (eqb-false u t q))

  -- After a local step of a task that has another one the enabled list is the same.
  pub enabled_kept : (s : State (List (Seat L))) (t : ℕ) → can (listed p) s (Local t) ≡ true → can (listed p) (after (listed p) s (Local t)) (Local t) ≡ true →
      enabled_of (listed p) (after (listed p) s (Local t)) ≡ enabled_of (listed p) s
  enabled_kept s t first again = enabled_same (listed p) s (after (listed p) s (Local t)) (local_same s t first again)
