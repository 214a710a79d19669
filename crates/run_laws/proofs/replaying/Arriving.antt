-- From a tidy world each event can be had, whoever waits or is queued: its parties arrive, and then it is an action of the table.
use Rattle.std.proofs.Common.{◌≡◌, ℕ, zero, suc, pred, ◌+◌, ◌<◌, ◌≤◌, Bool, true, false, not, ◌&&◌, ◌||◌, ◌==◌, if◌then◌else◌, cond, List, [], ◌∷◌, ◌++◌, Option, Some, option_to_list, filter, refl, sym, ap, ap₂, ◌∙◌, subst, inl, inr, ◌⊎◌, ⊎_elim, true≢false, arith}
use Rattle.std.specs.Prelude.{ℤ, is_some}
use Rattle.std.specs.List.{list_any}
use Rattle.std.proofs.lemmas.Bool.{eqb-true, eqb-false, and_parts, or_cases, or_left, or_right, cases_Bool, ne_eqb, false_from_ne_true}
use Rattle.event_machine.specs.declared.CallForm.{CallForm}
use Rattle.event_machine.specs.declared.CallForm.TheVariants.{Plain, Conditional, Timed}
use Rattle.event_machine.specs.declared.Choice.{Choice}
use Rattle.event_machine.specs.declared.Choice.TheVariants.{Accept, Else as ElseChoice, Delay as DelayChoice, Terminate}
use Rattle.event_machine.specs.declared.Standing.{Standing}
use Rattle.event_machine.specs.declared.Standing.TheVariants.{Live, Waiting, Queued, Served, Completed, Killed}
use Rattle.event_machine.specs.declared.Action.{Action}
use Rattle.event_machine.specs.declared.Action.TheVariants.{Local, Arrive, Start, Finish, Else, Delay, CallElse, Expire, Fail, Complete, Abort, End}
use Rattle.event_machine.specs.declared.Event.{Event}
use Rattle.event_machine.specs.declared.Event.TheVariants.{R, E, S, D, C, T, F, X, B, Z}
use Rattle.event_machine.specs.Offers.{Offer, Nothing, Calls, Waits, Finishes, Ends, Aborts, aborted_by, calls_in, is_any_form, is_conditional, is_timed, queues_up, waits_with, is_finish, is_end, opens, is_else, is_delay, is_terminate}
use Rattle.event_machine.specs.States.{Seat, State, seen, is_live, is_waiting, is_queued, is_completed, is_closed}
use Rattle.event_machine.specs.Applying.{can, starts, queue_of, queues_at, is_first, is_empty, has_caller, has_no_caller, calls_owner, same, arrives, can_end, others_can_end}
use Rattle.event_machine.specs.Effects.{after, event_of, call_event, abort_event, arrived_standing}
use Rattle.event_machine.specs.Runs.{IsRun, end_of, events_of}
use Rattle.event_machine.specs.Programs.{Program, numbered}
use Rattle.event_machine.specs.Queues.{suits, IsSuited, IsLined}
use Rattle.event_machine.specs.Soundness.{times}
use Rattle.event_machine.specs.Worlds.{World, Step, Happen, still, world_of, happens, offers, others_end, aborts, can_move, moved}
use Rattle.event_machine.proofs.Basics.{both, same_member-refl}
use Rattle.event_machine.proofs.Standings.{is-Live}
use Rattle.event_machine.proofs.Stills.{still_freed, still_closed, still_completed}
use Rattle.event_machine.proofs.Updates.{stand_self, stand_other}
use Rattle.event_machine.proofs.Offering.{calls_is, waits_is, finish_is, end_is, aborts_is, timed_queues, else_conditional, calls_waits}
use Rattle.event_machine.proofs.Erasing.{event_applies, event_world, arrive_world}
use Rattle.event_machine.proofs.Appends.{run_append, end_append, events_append}
use Rattle.event_machine.proofs.Queues.{run_suited, run_lined}
use Rattle.common_lemmas.proofs.Numbers.{equal_self, unequal_turned}
use Rattle.common_lemmas.proofs.Truth.{not_true}

-- In a world nobody is in anybody's way: a member that is accepted has one caller, a wait with an else part or a delay has none, and nobody accepts
-- what a conditional call calls.
pub record IsTidy {L : Type 0} (p : Program L) (v : World L) : Type 0 where
  pub one : (c u e : ℕ) (i : ℤ) → offers p.ops (waits_with (opens e i)) (v.tasks (p.owner e)) ≡ true → offers p.ops (calls_in is_any_form e i) (v.tasks c) ≡ true →
      offers p.ops (calls_in is_any_form e i) (v.tasks u) ≡ true → u ≡ c
  pub lone_else : (a u e : ℕ) (i : ℤ) → offers p.ops (waits_with is_else) (v.tasks a) ≡ true → offers p.ops (waits_with (opens e i)) (v.tasks a) ≡ true →
      offers p.ops (calls_in is_any_form e i) (v.tasks u) ≡ true → ⊥
  pub lone_delay : (a k u e : ℕ) (i : ℤ) → offers p.ops (waits_with (is_delay k)) (v.tasks a) ≡ true → offers p.ops (waits_with (opens e i)) (v.tasks a) ≡ true →
      offers p.ops (calls_in is_any_form e i) (v.tasks u) ≡ true → ⊥
  pub unmet : (c e : ℕ) (i : ℤ) → offers p.ops (calls_in is_conditional e i) (v.tasks c) ≡ true → offers p.ops (waits_with (opens e i)) (v.tasks (p.owner e)) ≡ true → ⊥

-- ---- queues

none_pass : (test : ℕ → Bool) (line : List ℕ) → ((u : ℕ) → test u ≡ true → ⊥) → filter test line ≡ []
none_pass test [] h = refl
none_pass test (u ∷ line) h = ap (λ b. cond b (u ∷ filter test line) (filter test line)) (false_from_ne_true (test u) (h u)) ∙ none_pass test line h

none_else : (test : ℕ → Bool) (line : List ℕ) (c : ℕ) → ((u : ℕ) → test u ≡ true → u ≡ c) → times c line ≡ 0 → filter test line ≡ []
none_else test [] c h n = refl
none_else test (u ∷ line) c h n = go (u == c) refl n (none_else test line c h)
  where
    go : (b : Bool) → (u == c) ≡ b → (if b then 1 else 0) + times c line ≡ 0 → (times c line ≡ 0 → filter test line ≡ []) → filter test (u ∷ line) ≡ []
    go true q k rec = absurd (let e : 1 + times c line ≡ 0 = k in omega (arith, e))
    go false q k rec = ap (λ b. cond b (u ∷ filter test line) (filter test line)) (false_from_ne_true (test u) (λ r. eqb-false u c q (h u r))) ∙
        rec (let e : 0 + times c line ≡ 0 = k in omega (arith, e))

alone : (test : ℕ → Bool) (line : List ℕ) (c : ℕ) → ((u : ℕ) → test u ≡ true → u ≡ c) → test c ≡ true → times c line ≡ 1 → filter test line ≡ c ∷ []
alone test [] c h passes n = absurd (omega (arith, n))
alone test (u ∷ line) c h passes n = go (u == c) refl n (alone test line c h passes)
  where
    go : (b : Bool) → (u == c) ≡ b → (if b then 1 else 0) + times c line ≡ 1 → (times c line ≡ 1 → filter test line ≡ c ∷ []) → filter test (u ∷ line) ≡ c ∷ []
    go true q k rec =
        let e : 1 + times c line ≡ 1 = k in
        ap (λ b. cond b (u ∷ filter test line) (filter test line)) (ap test (eqb-true u c q) ∙ passes) ∙
        ap₂ (λ v vs. v ∷ vs) (eqb-true u c q) (none_else test line c h (omega (arith, e)))
    go false q k rec = ap (λ b. cond b (u ∷ filter test line) (filter test line)) (false_from_ne_true (test u) (λ r. eqb-false u c q (h u r))) ∙
        rec (let e : 0 + times c line ≡ 1 = k in omega (arith, e))

some_pass : (test : ℕ → Bool) (line : List ℕ) → not (is_empty (filter test line)) ≡ true → (u : ℕ) × (test u ≡ true)
some_pass test [] h = absurd (true≢false (sym h))
some_pass test (u ∷ line) h = go (test u) refl h (some_pass test line)
  where
    go : (b : Bool) → test u ≡ b → not (is_empty (cond b (u ∷ filter test line) (filter test line))) ≡ true →
        (not (is_empty (filter test line)) ≡ true → (v : ℕ) × (test v ≡ true)) → (v : ℕ) × (test v ≡ true)
    go true q k rec = (u, q)
    go false q k rec = rec k

-- one that passes, and whatever test it passes some one passes
any_is : (test : Choice → Bool) (choices : List Choice) → list_any test choices ≡ true → (y : Choice) × (test y ≡ true) × ((other : Choice → Bool) → other y ≡ true → list_any other choices ≡ true)
any_is test [] h = absurd (true≢false (sym h))
any_is test (y ∷ choices) h = ⊎_elim
    (λ k. (y, k, λ other r. or_left (other y) (list_any other choices) r))
    (λ k. let (z, a, b) = any_is test choices k in (z, a, λ other r. or_right (other y) (list_any other choices) (b other r)))
    (or_cases (test y) (list_any test choices) h)

module _ {L : Type 0} (p : Program L) (rests : (l : L) → p.ops.can_step l ≡ true → p.ops.offer l ≡ Nothing) where
  -- An action with the event, after actions without one.
  pub record Had (s : State (ℕ → Seat L)) (e : Event) : Type 0 where
    pub actions : List Action
    pub run : IsRun (numbered p) s actions
    pub events : events_of (numbered p) s actions ≡ e ∷ []
    pub world : world_of (end_of (numbered p) s actions) ≡ moved p (world_of s) (Happen e)

  -- Arrivals, after which the world is as it was.
  record Arrived (s : State (ℕ → Seat L)) : Type 0 where
    actions : List Action
    run : IsRun (numbered p) s actions
    silent : events_of (numbered p) s actions ≡ []
    world : world_of (end_of (numbered p) s actions) ≡ world_of s

  abbrev behind : (s : State (ℕ → Seat L)) → Arrived s → State (ℕ → Seat L)
  behind s a = end_of (numbered p) s a.actions

  same_local : (s : State (ℕ → Seat L)) (a : Arrived s) (u : ℕ) → ((behind s a).seats u).local ≡ (s.seats u).local
  same_local s a u = ap (λ (v : World L). (v.tasks u).local) a.world

  same_still : (s : State (ℕ → Seat L)) (a : Arrived s) (u : ℕ) → still ((behind s a).seats u).standing ≡ still (s.seats u).standing
  same_still s a u = ap (λ (v : World L). (v.tasks u).standing) a.world

  same_ended : (s : State (ℕ → Seat L)) (a : Arrived s) → (behind s a).ended ≡ s.ended
  same_ended s a = ap (λ (v : World L). v.ended) a.world

  abbrev nothing : (s : State (ℕ → Seat L)) → Arrived s
  nothing s = record { actions = []; run = tt; silent = refl; world = refl }

  abbrev then' : (s : State (ℕ → Seat L)) (a : Arrived s) → Arrived (behind s a) → Arrived s
  then' s a b = record {
    actions = a.actions ++ b.actions;
    run = run_append (numbered p) s a.actions b.actions a.run b.run;
    silent = events_append (numbered p) s a.actions b.actions ∙ ap₂ (λ xs ys. xs ++ ys) a.silent b.silent;
    world = ap world_of (end_append (numbered p) s a.actions b.actions) ∙ b.world ∙ a.world;
  }

  then_end : (s : State (ℕ → Seat L)) (a : Arrived s) (b : Arrived (behind s a)) → behind s (then' s a b) ≡ behind (behind s a) b
  then_end s a b = end_append (numbered p) s a.actions b.actions

  had_by : (s : State (ℕ → Seat L)) (a : Arrived s) (action : Action) (e : Event) → can (numbered p) (behind s a) action ≡ true → event_of (numbered p) (behind s a) action ≡ Some e → Had s e
  had_by s a action e h q = record {
    actions = a.actions ++ (action ∷ []);
    run = run_append (numbered p) s a.actions (action ∷ []) a.run (h, tt);
    events = events_append (numbered p) s a.actions (action ∷ []) ∙ ap₂ (λ (xs : List Event) (o : Option Event). xs ++ (option_to_list o ++ [])) a.silent q;
    world = ap world_of (end_append (numbered p) s a.actions (action ∷ [])) ∙ sym (event_world p (behind s a) action e (event_applies p (behind s a) action e h q)) ∙
        ap (λ v. moved p v (Happen e)) a.world;
  }

  -- ---- one task arrives

  -- it stands so then, and the others as before
  record ArrivedAs (s : State (ℕ → Seat L)) (t : ℕ) (z : Standing) : Type 0 where
    arrived : Arrived s
    at : ((behind s arrived).seats t).standing ≡ z
    others : (u : ℕ) → (u == t) ≡ false → (behind s arrived).seats u ≡ s.seats u

  -- a free task that stands so, or arrives
  arrive_as : (s : State (ℕ → Seat L)) (t : ℕ) (o : Offer) (z : Standing) → s.ended ≡ false → p.ops.offer (s.seats t).local ≡ o → arrived_standing o ≡ z →
      arrives p.owner (seen (numbered p) s) o ≡ true → (s.seats t).standing ≡ Live → ArrivedAs s t z
  arrive_as s t o z runs q stands ok free = record {
    arrived = record { actions = Arrive t ∷ []; run = (can_arrive, tt); silent = refl; world = sym (arrive_world p s t can_arrive) };
    at = ap (λ (y : Seat L). y.standing) (stand_self p s.seats t (arrived_standing (p.ops.offer (s.seats t).local))) ∙ ap arrived_standing q ∙ stands;
    others = λ u r. stand_other p s.seats t u (arrived_standing (p.ops.offer (s.seats t).local)) r;
  }
    where
      can_arrive : can (numbered p) s (Arrive t) ≡ true
      can_arrive = both (ap not runs) (both (ap is_live free) (ap (arrives p.owner (seen (numbered p) s)) q ∙ ok))

  arrive_wait : (s : State (ℕ → Seat L)) (t : ℕ) (choices : List Choice) → IsSuited p.ops s.seats → s.ended ≡ false → still (s.seats t).standing ≡ Live →
      p.ops.offer (s.seats t).local ≡ Waits choices → ArrivedAs s t Waiting
  arrive_wait s t choices suited runs free q = go (s.seats t).standing refl free
    where
      suits' : {z : Standing} → (s.seats t).standing ≡ z → suits z (Waits choices) ≡ true
      suits' {z} e = ap₂ (λ y o. suits y o) (sym e) (sym q) ∙ suited t

      go : (z : Standing) → (s.seats t).standing ≡ z → still z ≡ Live → ArrivedAs s t Waiting
      go Live e f = arrive_as s t (Waits choices) Waiting runs q refl refl e
      go Waiting e f = record { arrived = nothing s; at = e; others = λ u r. refl }
      go Queued e f = absurd (true≢false (sym (suits' e)))
      go (Served by abnormal) e f = absurd (let k : Served by abnormal ≡ Live = f in cc)
      go Completed e f = absurd (let k : Completed ≡ Live = f in cc)
      go Killed e f = absurd (let k : Killed ≡ Live = f in cc)

  arrive_call : (s : State (ℕ → Seat L)) (t : ℕ) (form : CallForm) (e : ℕ) (i : ℤ) → IsSuited p.ops s.seats → s.ended ≡ false → still (s.seats t).standing ≡ Live →
      p.ops.offer (s.seats t).local ≡ Calls form e i → queues_up form ≡ true → is_closed (s.seats (p.owner e)).standing ≡ false → ArrivedAs s t Queued
  arrive_call s t form e i suited runs free q queues open' = go (s.seats t).standing refl free
    where
      suits' : {z : Standing} → (s.seats t).standing ≡ z → suits z (Calls form e i) ≡ true
      suits' {z} r = ap₂ (λ y o. suits y o) (sym r) (sym q) ∙ suited t

      go : (z : Standing) → (s.seats t).standing ≡ z → still z ≡ Live → ArrivedAs s t Queued
      go Live r f = arrive_as s t (Calls form e i) Queued runs q refl (both queues (ap not open')) r
      go Waiting r f = absurd (true≢false (sym (suits' r)))
      go Queued r f = record { arrived = nothing s; at = r; others = λ u w. refl }
      go (Served by abnormal) r f = absurd (let k : Served by abnormal ≡ Live = f in cc)
      go Completed r f = absurd (let k : Completed ≡ Live = f in cc)
      go Killed r f = absurd (let k : Killed ≡ Live = f in cc)

  -- a free task whose offer neither waits nor queues is live
  stands_live : (s : State (ℕ → Seat L)) (t : ℕ) (o : Offer) → IsSuited p.ops s.seats → still (s.seats t).standing ≡ Live → p.ops.offer (s.seats t).local ≡ o →
      suits Waiting o ≡ false → suits Queued o ≡ false → (s.seats t).standing ≡ Live
  stands_live s t o suited free q no_wait no_queue = go (s.seats t).standing refl free
    where
      suits' : {z : Standing} → (s.seats t).standing ≡ z → suits z o ≡ true
      suits' {z} e = ap₂ (λ y v. suits y v) (sym e) (sym q) ∙ suited t

      go : (z : Standing) → (s.seats t).standing ≡ z → still z ≡ Live → (s.seats t).standing ≡ Live
      go Live e f = e
      go Waiting e f = absurd (true≢false (sym (suits' e) ∙ no_wait))
      go Queued e f = absurd (true≢false (sym (suits' e) ∙ no_queue))
      go (Served by abnormal) e f = absurd (let k : Served by abnormal ≡ Live = f in cc)
      go Completed e f = absurd (let k : Completed ≡ Live = f in cc)
      go Killed e f = absurd (let k : Killed ≡ Live = f in cc)

  -- ---- events

  module _ (s : State (ℕ → Seat L)) (suited : IsSuited p.ops s.seats) (lined : IsLined s) (runs : s.ended ≡ false) where
    -- what a test on the offer of a free task says
    free_of : (test : Offer → Bool) (t : ℕ) → offers p.ops test ((world_of s).tasks t) ≡ true → still (s.seats t).standing ≡ Live
    free_of test t h = is-Live (still (s.seats t).standing) (and_parts (is_live (still (s.seats t).standing)) (test (p.ops.offer (s.seats t).local)) h).0

    test_of : (test : Offer → Bool) (t : ℕ) → offers p.ops test ((world_of s).tasks t) ≡ true → test (p.ops.offer (s.seats t).local) ≡ true
    test_of test t h = (and_parts (is_live (still (s.seats t).standing)) (test (p.ops.offer (s.seats t).local)) h).1

    suited_behind : (a : Arrived s) → IsSuited p.ops (behind s a).seats
    suited_behind a = run_suited p a.actions s a.run suited

    lined_behind : (a : Arrived s) → IsLined (behind s a)
    lined_behind a = run_lined p a.actions s a.run lined

    -- who is queued at a member calls it
    queued_calls : (a : Arrived s) (e : ℕ) (i : ℤ) (u : ℕ) → queues_at p.ops (seen (numbered p) (behind s a)) e i u ≡ true →
        (is_queued ((behind s a).seats u).standing ≡ true) × (offers p.ops (calls_in is_any_form e i) ((world_of s).tasks u) ≡ true)
    queued_calls a e i u h =
        let k = and_parts (is_queued ((behind s a).seats u).standing) (calls_in is_any_form e i (p.ops.offer ((behind s a).seats u).local)) h in
        (k.0, both (ap is_live (sym (same_still s a u)) ∙ queued_still ((behind s a).seats u).standing k.0) (ap (λ l. calls_in is_any_form e i (p.ops.offer l)) (sym (same_local s a u)) ∙ k.1))
      where
        queued_still : (z : Standing) → is_queued z ≡ true → is_live (still z) ≡ true
        queued_still Live q = absurd (true≢false (sym q))
        queued_still Waiting q = absurd (true≢false (sym q))
        queued_still Queued q = refl
        queued_still (Served by abnormal) q = absurd (true≢false (sym q))
        queued_still Completed q = absurd (true≢false (sym q))
        queued_still Killed q = absurd (true≢false (sym q))

    -- a wait that accepts nobody who calls has no caller
    no_caller_there : (a : Arrived s) (t : ℕ) (choices : List Choice) → p.ops.offer (s.seats t).local ≡ Waits choices →
        ((u e : ℕ) (i : ℤ) → waits_with (opens e i) (p.ops.offer (s.seats t).local) ≡ true → offers p.ops (calls_in is_any_form e i) ((world_of s).tasks u) ≡ true → ⊥) →
        has_no_caller p.ops (seen (numbered p) (behind s a)) (p.ops.offer ((behind s a).seats t).local) ≡ true
    no_caller_there a t choices q lone =
        ap (λ l. has_no_caller p.ops (seen (numbered p) (behind s a)) (p.ops.offer l)) (same_local s a t) ∙
        ap (has_no_caller p.ops (seen (numbered p) (behind s a))) q ∙
        ap not (false_from_ne_true (list_any (has_caller p.ops (seen (numbered p) (behind s a))) choices)
        (λ h. let (y, passes, more) = any_is (has_caller p.ops (seen (numbered p) (behind s a))) choices h in here y passes more))
      where
        here : (y : Choice) → has_caller p.ops (seen (numbered p) (behind s a)) y ≡ true → ((other : Choice → Bool) → other y ≡ true → list_any other choices ≡ true) → ⊥
        here (Accept e i) h more =
            let (u, k) = some_pass (queues_at p.ops (seen (numbered p) (behind s a)) e i) (behind s a).line h in
            lone u e i (ap (waits_with (opens e i)) q ∙ more (opens e i) (same_member-refl e i)) (queued_calls a e i u k).1
        here ElseChoice h more = true≢false (sym h)
        here (DelayChoice k) h more = true≢false (sym h)
        here Terminate h more = true≢false (sym h)

    -- the condition of an else part or a delay
    wait_applies : (t : ℕ) (test : Choice → Bool) (choices : List Choice) → p.ops.offer (s.seats t).local ≡ Waits choices → waits_with test (p.ops.offer (s.seats t).local) ≡ true →
        (w : ArrivedAs s t Waiting) →
        ((u e : ℕ) (i : ℤ) → waits_with (opens e i) (p.ops.offer (s.seats t).local) ≡ true → offers p.ops (calls_in is_any_form e i) ((world_of s).tasks u) ≡ true → ⊥) →
        (not (behind s w.arrived).ended && (is_waiting ((behind s w.arrived).seats t).standing && (waits_with test (p.ops.offer ((behind s w.arrived).seats t).local) &&
        has_no_caller p.ops (seen (numbered p) (behind s w.arrived)) (p.ops.offer ((behind s w.arrived).seats t).local)))) ≡ true
    wait_applies t test choices q h w lone = both (ap not (same_ended s w.arrived ∙ runs)) (both (ap is_waiting w.at)
        (both (ap (λ l. waits_with test (p.ops.offer l)) (same_local s w.arrived t) ∙ h) (no_caller_there w.arrived t choices q lone)))

    module _ (tidy : IsTidy p (world_of s)) where
      had_else : (a : ℕ) → happens p (world_of s).tasks (S a) ≡ true → Had s (S a)
      had_else a h =
          let q = waits_is is_else (p.ops.offer (s.seats a).local) (test_of (waits_with is_else) a h) in
          let w : ArrivedAs s a Waiting = arrive_wait s a q.0 suited runs (free_of (waits_with is_else) a h) q.1 in
          had_by s w.arrived (Else a) (S a)
          (wait_applies a is_else q.0 q.1 (test_of (waits_with is_else) a h) w
          (λ u e i opened called. tidy.lone_else a u e i h (both (ap is_live (free_of (waits_with is_else) a h)) opened) called)) refl

      had_delay : (a k : ℕ) → happens p (world_of s).tasks (D a k) ≡ true → Had s (D a k)
      had_delay a k h =
          let q = waits_is (is_delay k) (p.ops.offer (s.seats a).local) (test_of (waits_with (is_delay k)) a h) in
          let w : ArrivedAs s a Waiting = arrive_wait s a q.0 suited runs (free_of (waits_with (is_delay k)) a h) q.1 in
          had_by s w.arrived (Delay a k) (D a k)
          (wait_applies a (is_delay k) q.0 q.1 (test_of (waits_with (is_delay k)) a h) w
          (λ u e i opened called. tidy.lone_delay a k u e i h (both (ap is_live (free_of (waits_with (is_delay k)) a h)) opened) called)) refl

      had_end : (a : ℕ) → happens p (world_of s).tasks (E a) ≡ true → Had s (E a)
      had_end a h =
          let q = finish_is (p.ops.offer (s.seats a).local) (test_of is_finish a h) in
          had_by s (nothing s) (Finish a) (E a)
          (both (ap not runs) (both (ap is_live (stands_live s a Finishes suited (free_of is_finish a h) q refl refl)) (test_of is_finish a h))) refl

      had_complete : (a : ℕ) → happens p (world_of s).tasks (X a) ≡ true → Had s (X a)
      had_complete a h =
          let k = and_parts (not (a == 0)) (offers p.ops is_end ((world_of s).tasks a)) h in
          let q = end_is (p.ops.offer (s.seats a).local) (test_of is_end a k.1) in
          had_by s (nothing s) (Complete a) (X a)
          (both (ap not runs) (both k.0 (both (ap is_live (stands_live s a Ends suited (free_of is_end a k.1) q refl refl)) (test_of is_end a k.1)))) refl

      had_abort : (t v : ℕ) → happens p (world_of s).tasks (B t v) ≡ true → Had s (B t v)
      had_abort t v h =
          let q = aborts_is v (p.ops.offer (s.seats t).local) (test_of (aborts v) t h) in
          had_by s (nothing s) (Abort t) (B t v)
          (both (ap not runs) (both (ap is_live (stands_live s t (Aborts v) suited (free_of (aborts v) t h) q refl refl)) (ap (λ o. is_some (aborted_by o)) q)))
          (ap (λ o. abort_event t (aborted_by o)) q)

      had_fail : (c e : ℕ) (i : ℤ) → happens p (world_of s).tasks (F c e i) ≡ true → Had s (F c e i)
      had_fail c e i h =
          let k = and_parts (offers p.ops (calls_in is_any_form e i) ((world_of s).tasks c)) (is_closed (still (s.seats (p.owner e)).standing)) h in
          let (form, q, passes) = calls_is is_any_form e i (p.ops.offer (s.seats c).local) (test_of (calls_in is_any_form e i) c k.0) in
          had_by s (nothing s) (Fail c) (F c e i)
          (both (ap not runs) (both (free_or_queued (s.seats c).standing refl (free_of (calls_in is_any_form e i) c k.0) form q)
          (ap (calls_owner is_any_form same p.owner (seen (numbered p) s)) q ∙ both passes (sym (still_closed (s.seats (p.owner e)).standing) ∙ k.1))))
          (ap (call_event (λ f j. F c f j)) q)
        where
          free_or_queued : (z : Standing) → (s.seats c).standing ≡ z → still z ≡ Live → (form : CallForm) → p.ops.offer (s.seats c).local ≡ Calls form e i →
              (is_live (s.seats c).standing || is_queued (s.seats c).standing) ≡ true
          free_or_queued Live r f form q = or_left (is_live (s.seats c).standing) (is_queued (s.seats c).standing) (ap is_live r)
          free_or_queued Waiting r f form q = absurd (true≢false (sym (ap₂ (λ y o. suits y o) (sym r) (sym q) ∙ suited c)))
          free_or_queued Queued r f form q = or_right (is_live (s.seats c).standing) (is_queued (s.seats c).standing) (ap is_queued r)
          free_or_queued (Served by abnormal) r f form q = absurd (let k : Served by abnormal ≡ Live = f in cc)
          free_or_queued Completed r f form q = absurd (let k : Completed ≡ Live = f in cc)
          free_or_queued Killed r f form q = absurd (let k : Killed ≡ Live = f in cc)

      conditional_waits : (form : CallForm) → is_conditional form ≡ true → queues_up form ≡ false
      conditional_waits Plain h = absurd (true≢false (sym h))
      conditional_waits Conditional h = refl
      conditional_waits Timed h = absurd (true≢false (sym h))

      had_call_else : (c e : ℕ) (i : ℤ) → happens p (world_of s).tasks (C c e i) ≡ true → Had s (C c e i)
      had_call_else c e i h =
          let k = and_parts (offers p.ops (calls_in is_conditional e i) ((world_of s).tasks c)) (not (is_closed (still (s.seats (p.owner e)).standing))) h in
          let (form, q, conditional) = calls_is is_conditional e i (p.ops.offer (s.seats c).local) (test_of (calls_in is_conditional e i) c k.0) in
          had_by s (nothing s) (CallElse c) (C c e i)
          (both (ap not runs) (both (ap is_live (stands_live s c (Calls form e i) suited (free_of (calls_in is_conditional e i) c k.0) q refl (conditional_waits form conditional)))
          (both (ap (calls_owner is_conditional not p.owner (seen (numbered p) s)) q ∙ both conditional (ap not (sym (still_closed (s.seats (p.owner e)).standing)) ∙ k.1))
          (ap not (ap (starts p.ops p.owner (seen (numbered p) s) c) q ∙ false_from_ne_true
          ((is_waiting (s.seats (p.owner e)).standing && waits_with (opens e i) (p.ops.offer (s.seats (p.owner e)).local)) &&
          (is_first c (queue_of p.ops (seen (numbered p) s) e i) || ((is_live (s.seats c).standing && is_conditional form) && is_empty (queue_of p.ops (seen (numbered p) s) e i))))
          (λ r. let w = and_parts (is_waiting (s.seats (p.owner e)).standing) (waits_with (opens e i) (p.ops.offer (s.seats (p.owner e)).local))
          (and_parts (is_waiting (s.seats (p.owner e)).standing && waits_with (opens e i) (p.ops.offer (s.seats (p.owner e)).local)) _ r).0 in
          tidy.unmet c e i k.0 (both (waiting_still (s.seats (p.owner e)).standing w.0) w.1)))))))
          (ap (call_event (λ f j. C c f j)) q)
        where
          waiting_still : (z : Standing) → is_waiting z ≡ true → is_live (still z) ≡ true
          waiting_still Live r = absurd (true≢false (sym r))
          waiting_still Waiting r = refl
          waiting_still Queued r = absurd (true≢false (sym r))
          waiting_still (Served by abnormal) r = absurd (true≢false (sym r))
          waiting_still Completed r = absurd (true≢false (sym r))
          waiting_still Killed r = absurd (true≢false (sym r))

      had_expire : (c e : ℕ) (i : ℤ) → happens p (world_of s).tasks (T c e i) ≡ true → Had s (T c e i)
      had_expire c e i h =
          let k = and_parts (offers p.ops (calls_in is_timed e i) ((world_of s).tasks c)) (not (is_closed (still (s.seats (p.owner e)).standing))) h in
          let (form, q, timed) = calls_is is_timed e i (p.ops.offer (s.seats c).local) (test_of (calls_in is_timed e i) c k.0) in
          let w : ArrivedAs s c Queued = arrive_call s c form e i suited runs (free_of (calls_in is_timed e i) c k.0) q (timed_queues form timed)
          (sym (still_closed (s.seats (p.owner e)).standing) ∙ not_true (is_closed (still (s.seats (p.owner e)).standing)) k.1) in
          let now : p.ops.offer ((behind s w.arrived).seats c).local ≡ Calls form e i = ap p.ops.offer (same_local s w.arrived c) ∙ q in
          had_by s w.arrived (Expire c) (T c e i)
          (both (ap not (same_ended s w.arrived ∙ runs)) (both (ap is_queued w.at)
          (ap (calls_owner is_timed not p.owner (seen (numbered p) (behind s w.arrived))) now ∙
          both timed (ap not (sym (still_closed ((behind s w.arrived).seats (p.owner e)).standing) ∙ ap is_closed (same_still s w.arrived (p.owner e))) ∙ k.1))))
          (ap (call_event (λ f j. T c f j)) now)

      -- ---- a rendezvous starts

      module _ (c e : ℕ) (i : ℤ) (h : happens p (world_of s).tasks (R c e i) ≡ true) where
        called : offers p.ops (calls_in is_any_form e i) ((world_of s).tasks c) ≡ true
        called = (and_parts (offers p.ops (calls_in is_any_form e i) ((world_of s).tasks c)) (offers p.ops (waits_with (opens e i)) ((world_of s).tasks (p.owner e))) h).0

        waited : offers p.ops (waits_with (opens e i)) ((world_of s).tasks (p.owner e)) ≡ true
        waited = (and_parts (offers p.ops (calls_in is_any_form e i) ((world_of s).tasks c)) (offers p.ops (waits_with (opens e i)) ((world_of s).tasks (p.owner e))) h).1

        other : (c == p.owner e) ≡ false
        other = ne_eqb c (p.owner e) (λ q. calls_waits is_any_form (opens e i) e i (p.ops.offer (s.seats c).local) (test_of (calls_in is_any_form e i) c called)
            (subst (λ v. waits_with (opens e i) (p.ops.offer (s.seats v).local) ≡ true) (sym q) (test_of (waits_with (opens e i)) (p.owner e) waited)))

        other' : (p.owner e == c) ≡ false
        other' = unequal_turned c (p.owner e) other

        owner_waits : ArrivedAs s (p.owner e) Waiting
        owner_waits =
            let q = waits_is (opens e i) (p.ops.offer (s.seats (p.owner e)).local) (test_of (waits_with (opens e i)) (p.owner e) waited) in
            arrive_wait s (p.owner e) q.0 suited runs (free_of (waits_with (opens e i)) (p.owner e) waited) q.1

        -- the condition, where the caller is first or calls at a condition
        start_applies : (a : Arrived s) (form : CallForm) → p.ops.offer (s.seats c).local ≡ Calls form e i → ((behind s a).seats (p.owner e)).standing ≡ Waiting →
            (is_first c (queue_of p.ops (seen (numbered p) (behind s a)) e i) || ((is_live ((behind s a).seats c).standing && is_conditional form) && is_empty (queue_of p.ops (seen (numbered p) (behind s a)) e i))) ≡ true →
            Had s (R c e i)
        start_applies a form q waits serves =
            let now : p.ops.offer ((behind s a).seats c).local ≡ Calls form e i = ap p.ops.offer (same_local s a c) ∙ q in
            had_by s a (Start c) (R c e i)
            (both (ap not (same_ended s a ∙ runs)) (ap (starts p.ops p.owner (seen (numbered p) (behind s a)) c) now ∙
            both (both (ap is_waiting waits) (ap (λ l. waits_with (opens e i) (p.ops.offer l)) (same_local s a (p.owner e)) ∙ test_of (waits_with (opens e i)) (p.owner e) waited)) serves))
            (ap (call_event (λ f j. R c f j)) now)

        -- only c is queued there
        only_caller : (a : Arrived s) (u : ℕ) → queues_at p.ops (seen (numbered p) (behind s a)) e i u ≡ true → u ≡ c
        only_caller a u r = tidy.one c u e i waited called (queued_calls a e i u r).1

        had_start : Had s (R c e i)
        had_start = go (calls_is is_any_form e i (p.ops.offer (s.seats c).local) (test_of (calls_in is_any_form e i) c called))
          where
            queued : (form : CallForm) → p.ops.offer (s.seats c).local ≡ Calls form e i → queues_up form ≡ true → Had s (R c e i)
            queued form q queues =
                let a : Arrived s = owner_waits.arrived in
                let mid : State (ℕ → Seat L) = behind s a in
                let w : ArrivedAs mid c Queued = arrive_call mid c form e i (suited_behind a) (same_ended s a ∙ runs) (same_still s a c ∙ free_of (calls_in is_any_form e i) c called)
                (ap p.ops.offer (same_local s a c) ∙ q) queues (ap is_closed owner_waits.at) in
                let b : Arrived s = then' s a w.arrived in
                let at : ((behind s b).seats c).standing ≡ Queued = ap (λ (z : State (ℕ → Seat L)). (z.seats c).standing) (then_end s a w.arrived) ∙ w.at in
                let waits : ((behind s b).seats (p.owner e)).standing ≡ Waiting =
                ap (λ (z : State (ℕ → Seat L)). (z.seats (p.owner e)).standing) (then_end s a w.arrived) ∙ ap (λ (y : Seat L). y.standing) (w.others (p.owner e) other') ∙ owner_waits.at in
                start_applies b form q waits (or_left _ _ (ap (is_first c) (alone (queues_at p.ops (seen (numbered p) (behind s b)) e i) (behind s b).line c (only_caller b)
                (both (ap is_queued at) (ap (λ l. calls_in is_any_form e i (p.ops.offer l)) (same_local s b c) ∙ test_of (calls_in is_any_form e i) c called))
                (lined_behind b c ∙ ap (λ z. if is_queued z then 1 else 0) at)) ∙ equal_self c))

            conditional : (form : CallForm) → p.ops.offer (s.seats c).local ≡ Calls form e i → queues_up form ≡ false → Had s (R c e i)
            conditional form q none =
                let a : Arrived s = owner_waits.arrived in
                let free : (s.seats c).standing ≡ Live = stands_live s c (Calls form e i) suited (free_of (calls_in is_any_form e i) c called) q refl none in
                let at : ((behind s a).seats c).standing ≡ Live = ap (λ (y : Seat L). y.standing) (owner_waits.others c other) ∙ free in
                start_applies a form q owner_waits.at (or_right _ _ (both (both (ap is_live at) (else_conditional form none))
                (ap is_empty (none_pass (queues_at p.ops (seen (numbered p) (behind s a)) e i) (behind s a).line
                (λ u r. true≢false (sym (queued_calls a e i u r).0 ∙ ap (λ v. is_queued ((behind s a).seats v).standing) (only_caller a u r) ∙ ap is_queued at))))))

            go : (form : CallForm) × (p.ops.offer (s.seats c).local ≡ Calls form e i) × (is_any_form form ≡ true) → Had s (R c e i)
            go (form, q, passes) = ⊎_elim (queued form q) (conditional form q) (cases_Bool (queues_up form))

      -- ---- the end of the program

      record AllEnd (n : ℕ) : Type 0 where
        arrived : Arrived s
        ends : others_can_end p.ops (seen (numbered p) (behind s arrived)) n ≡ true
        later : (u : ℕ) → n < u → (behind s arrived).seats u ≡ s.seats u
        main : (behind s arrived).seats 0 ≡ s.seats 0

      others_same : (z y : State (ℕ → Seat L)) (n : ℕ) → ((u : ℕ) → u ≤ n → z.seats u ≡ y.seats u) → others_can_end p.ops (seen (numbered p) z) n ≡ others_can_end p.ops (seen (numbered p) y) n
      others_same z y zero h = refl
      others_same z y (suc n) h = ap₂ (λ a b. a && b) (others_same z y n (λ u l. h u (omega (arith, l)))) (ap (can_end p.ops) (h (suc n) (omega arith)))

      all_end : (n : ℕ) → others_end p.ops (world_of s).tasks n ≡ true → AllEnd n
      all_end zero h = record { arrived = nothing s; ends = refl; later = λ u l. refl; main = refl }
      all_end (suc n) h = go (all_end n parts.0) (or_cases (is_completed (still (s.seats (suc n)).standing)) (offers p.ops (waits_with is_terminate) ((world_of s).tasks (suc n))) parts.1)
        where
          parts : (others_end p.ops (world_of s).tasks n ≡ true) × ((is_completed (still (s.seats (suc n)).standing) || offers p.ops (waits_with is_terminate) ((world_of s).tasks (suc n))) ≡ true)
          parts = and_parts (others_end p.ops (world_of s).tasks n) (is_completed (still (s.seats (suc n)).standing) || offers p.ops (waits_with is_terminate) ((world_of s).tasks (suc n))) h

          go : AllEnd n → (is_completed (still (s.seats (suc n)).standing) ≡ true) ⊎ (offers p.ops (waits_with is_terminate) ((world_of s).tasks (suc n)) ≡ true) → AllEnd (suc n)
          go r (inl k) = record {
            arrived = r.arrived;
            ends = both r.ends (or_left (is_completed ((behind s r.arrived).seats (suc n)).standing)
                (is_waiting ((behind s r.arrived).seats (suc n)).standing && waits_with is_terminate (p.ops.offer ((behind s r.arrived).seats (suc n)).local))
                (ap (λ (y : Seat L). is_completed y.standing) (r.later (suc n) (omega arith)) ∙ sym (still_completed (s.seats (suc n)).standing) ∙ k));
            later = λ u l. r.later u (omega (arith, l));
            main = r.main;
          }
          go r (inr k) =
              let q = waits_is is_terminate (p.ops.offer (s.seats (suc n)).local) (test_of (waits_with is_terminate) (suc n) k) in
              let mid : State (ℕ → Seat L) = behind s r.arrived in
              let w : ArrivedAs mid (suc n) Waiting = arrive_wait mid (suc n) q.0 (suited_behind r.arrived) (same_ended s r.arrived ∙ runs)
              (same_still s r.arrived (suc n) ∙ free_of (waits_with is_terminate) (suc n) k) (ap p.ops.offer (same_local s r.arrived (suc n)) ∙ q.1) in
              let b : Arrived s = then' s r.arrived w.arrived in
              let end' : behind s b ≡ behind mid w.arrived = then_end s r.arrived w.arrived in
              record {
                arrived = b;
                ends = both (others_same (behind s b) mid n (λ u l. ap (λ (z : State (ℕ → Seat L)). z.seats u) end' ∙ w.others u (ne_eqb u (suc n) (λ e. omega (arith, l, e)))) ∙ r.ends)
                    (or_right (is_completed ((behind s b).seats (suc n)).standing) (is_waiting ((behind s b).seats (suc n)).standing && waits_with is_terminate (p.ops.offer ((behind s b).seats (suc n)).local))
                    (both (ap (λ (z : State (ℕ → Seat L)). is_waiting (z.seats (suc n)).standing) end' ∙ ap is_waiting w.at)
                    (ap (λ l. waits_with is_terminate (p.ops.offer l)) (same_local s b (suc n)) ∙ test_of (waits_with is_terminate) (suc n) k)));
                later = λ u l. ap (λ (z : State (ℕ → Seat L)). z.seats u) end' ∙ w.others u (ne_eqb u (suc n) (λ e. omega (arith, l, e))) ∙ r.later u (omega (arith, l));
                main = ap (λ (z : State (ℕ → Seat L)). z.seats 0) end' ∙ w.others 0 (ne_eqb 0 (suc n) (λ e. omega (arith, e))) ∙ r.main;
              }

      had_last : happens p (world_of s).tasks Z ≡ true → Had s Z
      had_last h =
          let k = and_parts (offers p.ops is_end ((world_of s).tasks 0)) (others_end p.ops (world_of s).tasks (pred p.size)) h in
          let q = end_is (p.ops.offer (s.seats 0).local) (test_of is_end 0 k.0) in
          let r : AllEnd (pred p.size) = all_end (pred p.size) k.1 in
          had_by s r.arrived End Z
          (both (ap not (same_ended s r.arrived ∙ runs)) (both (ap (λ (y : Seat L). is_live y.standing) r.main ∙ ap is_live (stands_live s 0 Ends suited (free_of is_end 0 k.0) q refl refl))
          (both (ap (λ l. is_end (p.ops.offer l)) (same_local s r.arrived 0) ∙ test_of is_end 0 k.0) r.ends))) refl

      -- Each event can be had.
      pub had : (e : Event) → happens p (world_of s).tasks e ≡ true → Had s e
      had (R c e i) h = had_start c e i h
      had (E a) h = had_end a h
      had (S a) h = had_else a h
      had (D a k) h = had_delay a k h
      had (C c e i) h = had_call_else c e i h
      had (T c e i) h = had_expire c e i h
      had (F c e i) h = had_fail c e i h
      had (X a) h = had_complete a h
      had (B t v) h = had_abort t v h
      had Z h = had_last h

    -- A local step is an action.
    pub had_step : (t : ℕ) → can_move p (world_of s) (Step t) ≡ true → can (numbered p) s (Local t) ≡ true
    had_step t h =
        let k = and_parts (not s.ended) (is_live (still (s.seats t).standing) && p.ops.can_step (s.seats t).local) h in
        let l = and_parts (is_live (still (s.seats t).standing)) (p.ops.can_step (s.seats t).local) k.1 in
        both k.0 (both (ap is_live (stands_live s t Nothing suited (is-Live (still (s.seats t).standing) l.0) (rests (s.seats t).local l.1) refl refl)) l.1)

  -- the world after it
  pub step_world : (s : State (ℕ → Seat L)) (t : ℕ) → world_of (after (numbered p) s (Local t)) ≡ moved p (world_of s) (Step t)
  step_world s t = λ i. record { tasks = still_freed p p.ops.stepped s.seats t i; ended = s.ended }
