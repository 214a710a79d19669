-- Two programs whose tasks are alike at each number run alike.
use Rattle.std.proofs.Common.{◌&&◌, ◌++◌, ◌==◌, ◌∙◌, ◌∷◌, ◌≡◌, Bool, List, None, Option, Some, [], ap, false, if◌then◌else◌, not, option_to_list, pred, refl, subst, suc, sym, true, zero, ℕ, ℤ}
use Rattle.event_machine.specs.Applying.{action_applies, can, can_end, offer_at, others_can_end}
use Rattle.event_machine.specs.Effects.{abort_event, abort_seats, aborted, after, after_abort, arrived_line, arrived_standing, call_event, event_of, fallen, freed, met, met_at, parted, parted_both, released, released_first, stand, went_on, without}
use Rattle.event_machine.specs.Laws.{IsQuiet}
use Rattle.event_machine.specs.Offers.{Aborts, Calls, Ends, Finishes, Nothing, Offer, Waits, aborted_by, is_end}
use Rattle.event_machine.specs.Programs.{Program, numbered}
use Rattle.event_machine.specs.Runs.{IsRun, end_of, events_of}
use Rattle.event_machine.specs.States.{Ops, Seat, Seen, State, is_abnormal, is_closed, is_live, is_served_by, live, on_numbers, seen}
use Rattle.event_machine.specs.declared.Action.{Action}
use Rattle.event_machine.specs.declared.Standing.{Standing}
use Rattle.run_laws.specs.imitation.Shown.{Opened}
use Rattle.replay_runs.specs.same.Alike.{ProgramsAlike, RunAlike, SeatsAlike, StatesAlike}
use Rattle.event_machine.specs.declared.Action.TheVariants.{Local, Arrive, Start, Finish, Else, Delay, CallElse, Expire, Fail, Complete, Abort, End}
use Rattle.event_machine.specs.declared.Event.TheVariants.{R as RendezvousEvent, C as CallElseEvent, T as ExpireEvent, F}
use Rattle.event_machine.specs.declared.Standing.TheVariants.{Served, Completed, Killed}

-- ---- what is asked of a task

-- what conditions of actions read of a task: whether it has a local step, and what it offers
record View : Type 0 where
  pub steps : Bool
  pub offers : Offer

-- views as states of tasks; nothing is done to them
abbrev views : Ops View
views = record {
  can_step = λ v. v.steps;
  stepped = λ v. v;
  offer = λ v. v.offers;
  callers = λ v. [];
  accepted = λ e i c a v. v;
  finished = λ v. v;
  resumed = λ a v. v;
  raised = λ v. v;
  took_else = λ v. v;
  took_delay = λ k v. v;
  passed = λ v. v;
  nobody = record { steps = false; offers = Nothing };
}

abbrev viewed : {L : Type 0} → Ops L → Seen L → Seen View
viewed ops s = record {
  tasks = λ t. record { local = record { steps = ops.can_step (s.tasks t).local; offers = ops.offer (s.tasks t).local }; standing = (s.tasks t).standing };
  size = s.size;
  line = s.line;
}

others_viewed : {L : Type 0} (ops : Ops L) (s : Seen L) (n : ℕ) → others_can_end ops s n ≡ others_can_end views (viewed ops s) n
others_viewed ops s zero = refl
others_viewed ops s (suc n) = ap (λ b. b && can_end ops (s.tasks (suc n))) (others_viewed ops s n)

applies_viewed : {L : Type 0} (ops : Ops L) (owner : ℕ → ℕ) (s : Seen L) (action : Action) → action_applies ops owner s action ≡ action_applies views owner (viewed ops s) action
applies_viewed ops owner s (Local t) = refl
applies_viewed ops owner s (Arrive t) = refl
applies_viewed ops owner s (Start c) = refl
applies_viewed ops owner s (Finish a) = refl
applies_viewed ops owner s (Else a) = refl
applies_viewed ops owner s (Delay a k) = refl
applies_viewed ops owner s (CallElse c) = refl
applies_viewed ops owner s (Expire c) = refl
applies_viewed ops owner s (Fail c) = refl
applies_viewed ops owner s (Complete a) = refl
applies_viewed ops owner s (Abort t) = refl
applies_viewed ops owner s End = ap (λ b. is_live (s.tasks 0).standing && (is_end (offer_at ops s 0) && b)) (others_viewed ops s (pred s.size))

module _ {L K : Type 0} (R : L → K → Type 0) (p : Program L) (q : Program K) (alike : ProgramsAlike R p q) where
  abbrev Seats : (ℕ → Seat L) → (ℕ → Seat K) → Type 0
  Seats s u = (t : ℕ) → SeatsAlike R (s t) (u t)

  views_same : (s : State (ℕ → Seat L)) (u : State (ℕ → Seat K)) → StatesAlike R s u → viewed p.ops (seen (numbered p) s) ≡ viewed q.ops (seen (numbered q) u)
  views_same s u h = λ i. record {
    tasks = λ t. record {
      local = record { steps = alike.ops.can_step (s.seats t).local (u.seats t).local (h.seats t).local i; offers = alike.ops.offer (s.seats t).local (u.seats t).local (h.seats t).local i };
      standing = (h.seats t).standing i;
    };
    size = alike.size i;
    line = h.line i;
  }

  pub can_same : (s : State (ℕ → Seat L)) (u : State (ℕ → Seat K)) → StatesAlike R s u → (action : Action) → can (numbered p) s action ≡ can (numbered q) u action
  can_same s u h action =
      ap (λ b. not s.ended && b) (applies_viewed p.ops p.owner (seen (numbered p) s) action)
      ∙ ((λ i. not (h.ended i) && action_applies views (λ e. alike.owner e i) (views_same s u h i) action)
      ∙ ap (λ b. not u.ended && b) (sym (applies_viewed q.ops q.owner (seen (numbered q) u) action)))

  offer_same : (s : ℕ → Seat L) (u : ℕ → Seat K) → Seats s u → (t : ℕ) → p.ops.offer (s t).local ≡ q.ops.offer (u t).local
  offer_same s u h t = alike.ops.offer (s t).local (u t).local (h t).local

  -- ---- the tasks after an action

  if_alike : (b c : Bool) → b ≡ c → {x z : Seat L} {y w : Seat K} → SeatsAlike R x y → SeatsAlike R z w → SeatsAlike R (if b then x else z) (if c then y else w)
  if_alike b c e {x} {z} {y} {w} h k = subst (λ d. SeatsAlike R (if b then x else z) (if d then y else w)) e (go b)
    where
      go : (d : Bool) → SeatsAlike R (if d then x else z) (if d then y else w)
      go true = h
      go false = k

  if_seats : (b c : Bool) → b ≡ c → {s z : ℕ → Seat L} {u w : ℕ → Seat K} → Seats s u → Seats z w → Seats (if b then s else z) (if c then u else w)
  if_seats b c e {s} {z} {u} {w} h k = subst (λ d. Seats (if b then s else z) (if d then u else w)) e (go b)
    where
      go : (d : Bool) → Seats (if d then s else z) (if d then u else w)
      go true = h
      go false = k

  put_alike : (s : ℕ → Seat L) (u : ℕ → Seat K) → Seats s u → (t : ℕ) (a : Seat L) (b : Seat K) → SeatsAlike R a b → Seats ((on_numbers p.size).put s t a) ((on_numbers q.size).put u t b)
  put_alike s u h t a b k n = if_alike (n == t) (n == t) refl k (h n)

  freed_alike : (s : ℕ → Seat L) (u : ℕ → Seat K) → Seats s u → (t : ℕ) (f : L → L) (g : K → K) → ((l : L) (k : K) → R l k → R (f l) (g k)) →
      Seats (freed (on_numbers p.size) f s t) (freed (on_numbers q.size) g u t)
  freed_alike s u h t f g k = put_alike s u h t _ _ (record { local = k (s t).local (u t).local (h t).local; standing = refl })

  stand_alike : (s : ℕ → Seat L) (u : ℕ → Seat K) → Seats s u → (t : ℕ) (x y : Standing) → x ≡ y → Seats (stand (on_numbers p.size) s t x) (stand (on_numbers q.size) u t y)
  stand_alike s u h t x y e = put_alike s u h t _ _ (record { local = (h t).local; standing = e })

  met_at_alike : (s : ℕ → Seat L) (u : ℕ → Seat K) → Seats s u → (c e : ℕ) (i : ℤ) → Seats (met_at (numbered p) s c e i) (met_at (numbered q) u c e i)
  met_at_alike s u h c e i = subst (λ n. Seats (met_at (numbered p) s c e i)
      (stand (on_numbers q.size) (freed (on_numbers q.size) (λ k. q.ops.accepted e i c (u c).local k) u n) c (Served n false))) (alike.owner e)
      (stand_alike _ _ (freed_alike s u h (p.owner e) _ _ (λ l k r. alike.ops.accepted e i c (s c).local (u c).local l k (h c).local r)) c _ _ refl)

  met_by : (s : ℕ → Seat L) (u : ℕ → Seat K) → Seats s u → (c : ℕ) (offer : Offer) → Seats (met (numbered p) s c offer) (met (numbered q) u c offer)
  met_by s u h c Nothing = h
  met_by s u h c (Calls form e i) = met_at_alike s u h c e i
  met_by s u h c (Waits choices) = h
  met_by s u h c Finishes = h
  met_by s u h c Ends = h
  met_by s u h c (Aborts x) = h

  met_alike : (s : ℕ → Seat L) (u : ℕ → Seat K) → Seats s u → (c : ℕ) (o o' : Offer) → o ≡ o' → Seats (met (numbered p) s c o) (met (numbered q) u c o')
  met_alike s u h c o o' e = subst (λ x. Seats (met (numbered p) s c o) (met (numbered q) u c x)) e (met_by s u h c o)

  parted_alike : (a : ℕ) (x : L) (y : K) → R x y → (b : Seat L) (d : Seat K) → SeatsAlike R b d → SeatsAlike R (parted p.ops a x b) (parted q.ops a y d)
  parted_alike a x y r b d h = if_alike (is_served_by a b.standing) (is_served_by a d.standing) (ap (is_served_by a) h.standing)
      (if_alike (is_abnormal b.standing) (is_abnormal d.standing) (ap is_abnormal h.standing)
      (record { local = h.local; standing = refl }) (record { local = alike.ops.resumed x y b.local d.local r h.local; standing = refl }))
      h

  first_released : (a : ℕ) (x : L) (y : K) → R x y → (callers : List ℕ) (s : ℕ → Seat L) (u : ℕ → Seat K) → Seats s u →
      Seats (released_first (numbered p) a x callers s) (released_first (numbered q) a y callers u)
  first_released a x y r [] s u h = h
  first_released a x y r (c ∷ callers) s u h = put_alike s u h c _ _ (parted_alike a x y r (s c) (u c) (h c))

  parted_both_alike : (s : ℕ → Seat L) (u : ℕ → Seat K) → Seats s u → (a : ℕ) → Seats (parted_both (numbered p) s a) (parted_both (numbered q) u a)
  parted_both_alike s u h a =
      subst (λ callers. Seats (parted_both (numbered p) s a) (released_first (numbered q) a (u a).local callers (freed (on_numbers q.size) q.ops.finished u a)))
      (alike.ops.callers (s a).local (u a).local (h a).local)
      (first_released a (s a).local (u a).local (h a).local (p.ops.callers (s a).local) _ _ (freed_alike s u h a _ _ alike.ops.finished))

  released_alike : (x : ℕ) (b : Seat L) (d : Seat K) → SeatsAlike R b d → SeatsAlike R (released p.ops x b) (released q.ops x d)
  released_alike x b d h = if_alike (is_served_by x b.standing) (is_served_by x d.standing) (ap (is_served_by x) h.standing)
      (if_alike (is_abnormal b.standing) (is_abnormal d.standing) (ap is_abnormal h.standing)
      (record { local = h.local; standing = refl }) (record { local = alike.ops.raised b.local d.local h.local; standing = refl }))
      h

  aborted_alike : (s : ℕ → Seat L) (u : ℕ → Seat K) → Seats s u → (x : ℕ) (closing : Standing) → Seats (aborted (numbered p) s x closing) (aborted (numbered q) u x closing)
  aborted_alike s u h x closing = stand_alike (λ t. released p.ops x (s t)) (λ t. released q.ops x (u t)) freed_callers x _ _ (ap (fallen closing) (freed_callers x).standing)
    where
      freed_callers : Seats (λ t. released p.ops x (s t)) (λ t. released q.ops x (u t))
      freed_callers t = released_alike x (s t) (u t) (h t)

  went_alike : (s : ℕ → Seat L) (u : ℕ → Seat K) → Seats s u → (t x : ℕ) → Seats (went_on (numbered p) s t x) (went_on (numbered q) u t x)
  went_alike s u h t x = if_seats (x == t) (x == t) refl h (freed_alike s u h t _ _ alike.ops.passed)

  abort_alike : (s : ℕ → Seat L) (u : ℕ → Seat K) → Seats s u → (t x : ℕ) → Seats (abort_seats (numbered p) s t x) (abort_seats (numbered q) u t x)
  abort_alike s u h t x = if_seats (is_closed (s x).standing) (is_closed (u x).standing) (ap is_closed (h x).standing)
      (went_alike s u h t x)
      (aborted_alike _ _ (went_alike s u h t x) x (if x == t then Completed else Killed))

  -- ---- the state after an action

  after_aborting : (s : State (ℕ → Seat L)) (u : State (ℕ → Seat K)) → StatesAlike R s u → (t : ℕ) (named : Option ℕ) →
      StatesAlike R (after_abort (numbered p) s t named) (after_abort (numbered q) u t named)
  after_aborting s u h t None = h
  after_aborting s u h t (Some x) = record {
    seats = abort_alike s.seats u.seats h.seats t x;
    line = λ i. if is_closed ((h.seats x).standing i) then h.line i else without x (h.line i);
    ended = h.ended;
  }

  freed_state : (s : State (ℕ → Seat L)) (u : State (ℕ → Seat K)) → StatesAlike R s u → (t : ℕ) (f : L → L) (g : K → K) → ((l : L) (k : K) → R l k → R (f l) (g k)) →
      StatesAlike R (record { seats = freed (on_numbers p.size) f s.seats t; line = s.line; ended = s.ended })
      (record { seats = freed (on_numbers q.size) g u.seats t; line = u.line; ended = u.ended })
  freed_state s u h t f g k = record { seats = freed_alike s.seats u.seats h.seats t f g k; line = h.line; ended = h.ended }

  left_state : (s : State (ℕ → Seat L)) (u : State (ℕ → Seat K)) → StatesAlike R s u → (t : ℕ) (f : L → L) (g : K → K) → ((l : L) (k : K) → R l k → R (f l) (g k)) →
      StatesAlike R (record { seats = freed (on_numbers p.size) f s.seats t; line = without t s.line; ended = s.ended })
      (record { seats = freed (on_numbers q.size) g u.seats t; line = without t u.line; ended = u.ended })
  left_state s u h t f g k = record { seats = freed_alike s.seats u.seats h.seats t f g k; line = ap (without t) h.line; ended = h.ended }

  after_alike : (s : State (ℕ → Seat L)) (u : State (ℕ → Seat K)) → StatesAlike R s u → (action : Action) → StatesAlike R (after (numbered p) s action) (after (numbered q) u action)
  after_alike s u h (Local t) = freed_state s u h t _ _ alike.ops.stepped
  after_alike s u h (Arrive t) = record {
    seats = stand_alike s.seats u.seats h.seats t _ _ (ap arrived_standing (offer_same s.seats u.seats h.seats t));
    line = λ i. arrived_line t (offer_same s.seats u.seats h.seats t i) (h.line i);
    ended = h.ended;
  }
  after_alike s u h (Start c) = record {
    seats = met_alike s.seats u.seats h.seats c _ _ (offer_same s.seats u.seats h.seats c);
    line = ap (without c) h.line;
    ended = h.ended;
  }
  after_alike s u h (Finish a) = record { seats = parted_both_alike s.seats u.seats h.seats a; line = h.line; ended = h.ended }
  after_alike s u h (Else a) = freed_state s u h a _ _ alike.ops.took_else
  after_alike s u h (Delay a k) = freed_state s u h a _ _ (alike.ops.took_delay k)
  after_alike s u h (CallElse c) = freed_state s u h c _ _ alike.ops.took_else
  after_alike s u h (Expire c) = left_state s u h c _ _ (alike.ops.took_delay 1)
  after_alike s u h (Fail c) = left_state s u h c _ _ alike.ops.raised
  after_alike s u h (Complete a) = record { seats = stand_alike s.seats u.seats h.seats a Completed Completed refl; line = h.line; ended = h.ended }
  after_alike s u h (Abort t) = subst (λ named. StatesAlike R (after (numbered p) s (Abort t)) (after_abort (numbered q) u t named)) (ap aborted_by (offer_same s.seats u.seats h.seats t))
      (after_aborting s u h t (aborted_by (p.ops.offer (s.seats t).local)))
  after_alike s u h End = record { seats = h.seats; line = h.line; ended = refl }

  event_same : (s : State (ℕ → Seat L)) (u : State (ℕ → Seat K)) → StatesAlike R s u → (action : Action) → event_of (numbered p) s action ≡ event_of (numbered q) u action
  event_same s u h (Local t) = refl
  event_same s u h (Arrive t) = refl
  event_same s u h (Start c) = ap (call_event (λ e i. RendezvousEvent c e i)) (offer_same s.seats u.seats h.seats c)
  event_same s u h (Finish a) = refl
  event_same s u h (Else a) = refl
  event_same s u h (Delay a k) = refl
  event_same s u h (CallElse c) = ap (call_event (λ e i. CallElseEvent c e i)) (offer_same s.seats u.seats h.seats c)
  event_same s u h (Expire c) = ap (call_event (λ e i. ExpireEvent c e i)) (offer_same s.seats u.seats h.seats c)
  event_same s u h (Fail c) = ap (call_event (λ e i. F c e i)) (offer_same s.seats u.seats h.seats c)
  event_same s u h (Complete a) = refl
  event_same s u h (Abort t) = ap (λ o. abort_event t (aborted_by o)) (offer_same s.seats u.seats h.seats t)
  event_same s u h End = refl

  -- ---- whole runs

  end_alike : (s : State (ℕ → Seat L)) (u : State (ℕ → Seat K)) → StatesAlike R s u → (actions : List Action) → StatesAlike R (end_of (numbered p) s actions) (end_of (numbered q) u actions)
  end_alike s u h [] = h
  end_alike s u h (action ∷ actions) = end_alike (after (numbered p) s action) (after (numbered q) u action) (after_alike s u h action) actions

  run_forth : (s : State (ℕ → Seat L)) (u : State (ℕ → Seat K)) → StatesAlike R s u → (actions : List Action) → IsRun (numbered p) s actions → IsRun (numbered q) u actions
  run_forth s u h [] k = tt
  run_forth s u h (action ∷ actions) k = (sym (can_same s u h action) ∙ k.0, run_forth (after (numbered p) s action) (after (numbered q) u action) (after_alike s u h action) actions k.1)

  run_back : (s : State (ℕ → Seat L)) (u : State (ℕ → Seat K)) → StatesAlike R s u → (actions : List Action) → IsRun (numbered q) u actions → IsRun (numbered p) s actions
  run_back s u h [] k = tt
  run_back s u h (action ∷ actions) k = (can_same s u h action ∙ k.0, run_back (after (numbered p) s action) (after (numbered q) u action) (after_alike s u h action) actions k.1)

  events_same : (s : State (ℕ → Seat L)) (u : State (ℕ → Seat K)) → StatesAlike R s u → (actions : List Action) → events_of (numbered p) s actions ≡ events_of (numbered q) u actions
  events_same s u h [] = refl
  events_same s u h (action ∷ actions) = λ i. option_to_list (event_same s u h action i) ++ events_same (after (numbered p) s action) (after (numbered q) u action) (after_alike s u h action) actions i

  quiet_forth : (s : ℕ → Seat L) (u : ℕ → Seat K) → Seats s u → IsQuiet p.ops s → IsQuiet q.ops u
  quiet_forth s u h quiet t live = sym (alike.ops.can_step (s t).local (u t).local (h t).local) ∙ quiet t (ap is_live (h t).standing ∙ live)

  quiet_back : (s : ℕ → Seat L) (u : ℕ → Seat K) → Seats s u → IsQuiet q.ops u → IsQuiet p.ops s
  quiet_back s u h quiet t live = alike.ops.can_step (s t).local (u t).local (h t).local ∙ quiet t (sym (ap is_live (h t).standing) ∙ live)

-- Where their tasks are alike as they start, and related states have the same output, two programs run alike.
pub run_alike : {L K : Type 0} (R : L → K → Type 0) (one : Opened L) (other : Opened K) → ProgramsAlike R one.program other.program → StatesAlike R one.at other.at →
    ((l : L) (k : K) → R l k → one.out l ≡ other.out k) → RunAlike one other
run_alike R one other alike h outs = record {
  size = alike.size;
  run = λ actions. (run_forth R one.program other.program alike one.at other.at h actions, run_back R one.program other.program alike one.at other.at h actions);
  events = λ actions. events_same R one.program other.program alike one.at other.at h actions;
  outputs = λ actions t. outs _ _ ((end_alike R one.program other.program alike one.at other.at h actions).seats t).local;
  applies = λ actions action. can_same R one.program other.program alike _ _ (end_alike R one.program other.program alike one.at other.at h actions) action;
  further = λ actions more. (
    run_forth R one.program other.program alike _ _ (end_alike R one.program other.program alike one.at other.at h actions) more,
    run_back R one.program other.program alike _ _ (end_alike R one.program other.program alike one.at other.at h actions) more,
  );
  further_events = λ actions more. events_same R one.program other.program alike _ _ (end_alike R one.program other.program alike one.at other.at h actions) more;
  quiet = λ actions. (
    quiet_forth R one.program other.program alike _ _ (end_alike R one.program other.program alike one.at other.at h actions).seats,
    quiet_back R one.program other.program alike _ _ (end_alike R one.program other.program alike one.at other.at h actions).seats,
  );
}
