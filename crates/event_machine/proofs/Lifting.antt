-- Each list of moves without queues is a run of the table: before an event its parties arrive, and then nobody else waits or is queued.
use Rattle.std.proofs.Common.{◌≡◌, ℕ, zero, suc, pred, ◌<◌, ◌≤◌, Bool, true, false, not, ◌&&◌, ◌||◌, ◌==◌, if◌then◌else◌, cond, List, [], ◌∷◌, ◌++◌, Option, Some, option_to_list, refl, sym, ap, ap₂, ◌∙◌, subst, filter, inl, inr, ◌⊎◌, ⊎_elim, true≢false, arith}
use Rattle.std.specs.Prelude.{ℤ, is_some}
use Rattle.std.proofs.lemmas.Bool.{ne_eqb, and_parts, or_cases, or_left, or_right, cases_Bool}
use Rattle.event_machine.specs.declared.CallForm.{CallForm}
use Rattle.event_machine.specs.declared.Standing.{Standing}
use Rattle.event_machine.specs.declared.Standing.TheVariants.{Live, Waiting, Queued, Served, Completed, Killed}
use Rattle.event_machine.specs.declared.Action.{Action}
use Rattle.event_machine.specs.declared.Action.TheVariants.{Local, Arrive, Start, Finish, Else, Delay, CallElse, Expire, Fail, Complete, Abort, End}
use Rattle.event_machine.specs.declared.Event.{Event}
use Rattle.event_machine.specs.declared.Event.TheVariants.{R, E, S, D, C, T, F, X, B, Z}
use Rattle.event_machine.specs.Offers.{Calls, Waits, aborted_by, is_any_form, is_conditional, is_timed, queues_up, waits_with, is_terminate, opens, calls_in, is_end, is_else, is_delay}
use Rattle.event_machine.specs.States.{Seat, State, seen, live, is_live, is_waiting, is_queued, is_completed, is_closed}
use Rattle.event_machine.specs.Applying.{can, starts, queue_of, queues_at, is_first, is_empty, calls_owner, same, arrives, can_end, others_can_end}
use Rattle.event_machine.specs.Effects.{after, event_of, met, met_at, call_event, after_abort, abort_event, stand, freed, without, arrived_standing, arrived_line}
use Rattle.event_machine.specs.Runs.{IsRun, end_of, events_of}
use Rattle.event_machine.specs.Programs.{Program, numbered}
use Rattle.event_machine.specs.Worlds.{World, still, world_of, state_of, IsStill, acted, happens, offers, others_end, Move, Step, Happen, can_move, moved, AreMoves, recount}
use Rattle.event_machine.specs.Tallies.{tallied, tallies}
use Rattle.event_machine.specs.Laws.{IsLifted, Lifting}
use Rattle.event_machine.proofs.Basics.{split, both, seat_path, same_member-refl}
use Rattle.event_machine.proofs.Standings.{is-Live}
use Rattle.event_machine.proofs.Stills.{still_acted, still_freed}
use Rattle.event_machine.proofs.Updates.{stand_self, stand_local, stand_other}
use Rattle.event_machine.proofs.Offering.{calls_is, waits_is, aborts_is, timed_queues, else_conditional, no_caller, calls_waits}
use Rattle.event_machine.proofs.Erasing.{IsEvent, event_applies, event_world, event_counts, arrive_world}
use Rattle.event_machine.proofs.Appends.{run_append, end_append, events_append, tallies_append, happened_append}
use Rattle.common_lemmas.proofs.Numbers.{equal_self}
use Rattle.common_lemmas.proofs.Truth.{not_true}

module _ {L : Type 0} (p : Program L) where
  -- ---- arrivals

  abbrev arrive_all : List ℕ → List Action
  arrive_all [] = []
  arrive_all (t ∷ ts) = Arrive t ∷ arrive_all ts

  arrivals_events : (s : State (ℕ → Seat L)) (ts : List ℕ) → events_of (numbered p) s (arrive_all ts) ≡ []
  arrivals_events s [] = refl
  arrivals_events s (t ∷ ts) = arrivals_events (after (numbered p) s (Arrive t)) ts

  arrivals_tallies : (s : State (ℕ → Seat L)) (ts : List ℕ) (tally : ℕ → ℕ) → tallies (numbered p) s (arrive_all ts) tally ≡ tally
  arrivals_tallies s [] tally = refl
  arrivals_tallies s (t ∷ ts) tally = arrivals_tallies (after (numbered p) s (Arrive t)) ts tally

  arrivals_world : (s : State (ℕ → Seat L)) (ts : List ℕ) → IsRun (numbered p) s (arrive_all ts) → world_of (end_of (numbered p) s (arrive_all ts)) ≡ world_of s
  arrivals_world s [] h = refl
  arrivals_world s (t ∷ ts) h = arrivals_world (after (numbered p) s (Arrive t)) ts h.1 ∙ sym (arrive_world p s t h.0)

  still_world : (w : World L) → IsStill w → world_of (state_of w) ≡ w
  still_world w still' = λ i. record { tasks = λ t. record { local = (w.tasks t).local; standing = still' t i }; ended = w.ended }

  -- An action that is the event, after arrivals.
  lift_event : (w : World L) (e : Event) (ts : List ℕ) (action : Action) → IsStill w → IsRun (numbered p) (state_of w) (arrive_all ts) →
      can (numbered p) (end_of (numbered p) (state_of w) (arrive_all ts)) action ≡ true →
      event_of (numbered p) (end_of (numbered p) (state_of w) (arrive_all ts)) action ≡ Some e →
      ((moved p w (Happen e)).ended ≡ false → after (numbered p) (end_of (numbered p) (state_of w) (arrive_all ts)) action ≡ state_of (moved p w (Happen e))) →
      IsLifted p w (Happen e ∷ [])
  lift_event w e ts action still' run h q exact =
      let s : State (ℕ → Seat L) = end_of (numbered p) (state_of w) (arrive_all ts) in
      let k : IsEvent p s action e = event_applies p s action e h q in
      let back : world_of s ≡ w = arrivals_world (state_of w) ts run ∙ still_world w still' in
      record {
        actions = arrive_all ts ++ action ∷ [];
        applies = run_append (numbered p) (state_of w) (arrive_all ts) (action ∷ []) run (h, tt);
        events = events_append (numbered p) (state_of w) (arrive_all ts) (action ∷ []) ∙
            ap₂ (λ (xs : List Event) (o : Option Event). xs ++ (option_to_list o ++ [])) (arrivals_events (state_of w) ts) q;
        world = ap world_of (end_append (numbered p) (state_of w) (arrive_all ts) (action ∷ [])) ∙ sym (event_world p s action e k) ∙
            ap (λ v. moved p v (Happen e)) back;
        exact = λ runs. end_append (numbered p) (state_of w) (arrive_all ts) (action ∷ []) ∙ exact runs;
        counts = λ count. tallies_append (numbered p) (state_of w) (arrive_all ts) (action ∷ []) count ∙
            ap (λ c. tallied (numbered p) s action c) (arrivals_tallies (state_of w) ts count) ∙
            sym (event_counts p s action e k count) ∙
            ap (λ v. recount p v (Happen e) count) back;
      }

  -- the same, where the state after the arrivals is known
  lift_from : (w : World L) (e : Event) (ts : List ℕ) (action : Action) → IsStill w → IsRun (numbered p) (state_of w) (arrive_all ts) →
      (s : State (ℕ → Seat L)) → end_of (numbered p) (state_of w) (arrive_all ts) ≡ s →
      can (numbered p) s action ≡ true → event_of (numbered p) s action ≡ Some e →
      ((moved p w (Happen e)).ended ≡ false → after (numbered p) s action ≡ state_of (moved p w (Happen e))) →
      IsLifted p w (Happen e ∷ [])
  lift_from w e ts action still' run s at h q exact =
      lift_event w e ts action still' run
      (subst (λ z. can (numbered p) z action ≡ true) (sym at) h)
      (subst (λ z. event_of (numbered p) z action ≡ Some e) (sym at) q)
      (subst (λ z. (moved p w (Happen e)).ended ≡ false → after (numbered p) z action ≡ state_of (moved p w (Happen e))) (sym at) exact)

  -- ---- tasks that stand otherwise

  stand_open : (tasks : ℕ → Seat L) (t u : ℕ) (z : Standing) → is_closed z ≡ false → not (is_closed (tasks u).standing) ≡ true →
      not (is_closed (stand (numbered p).store tasks t z u).standing) ≡ true
  stand_open tasks t u z open' h = go (u == t)
    where
      go : (b : Bool) → not (is_closed (if b then record { local = (tasks t).local; standing = z } else tasks u).standing) ≡ true
      go true = ap not open'
      go false = h

  freed_stand : (f : L → L) (tasks : ℕ → Seat L) (t : ℕ) (z : Standing) →
      freed (numbered p).store f (stand (numbered p).store tasks t z) t ≡ freed (numbered p).store f tasks t
  freed_stand f tasks t z = λ i u. go u (u == t) i
    where
      go : (u : ℕ) (b : Bool) →
          (if b then live (f (stand (numbered p).store tasks t z t).local) else (if b then record { local = (tasks t).local; standing = z } else tasks u)) ≡
          (if b then live (f (tasks t).local) else tasks u)
      go u true = ap (λ l. live (f l)) (stand_local p tasks t t z)
      go u false = refl

  -- who starts a rendezvous may have stood anyhow
  met_same : (tasks others : ℕ → Seat L) (c e : ℕ) (i : ℤ) →
      ((u : ℕ) → (others u).local ≡ (tasks u).local) → ((u : ℕ) → (u == c) ≡ false → (u == p.owner e) ≡ false → others u ≡ tasks u) →
      met_at (numbered p) others c e i ≡ met_at (numbered p) tasks c e i
  met_same tasks others c e i locals rest = λ j u. go u (u == c) refl (u == p.owner e) refl j
    where
      opened : (ℕ → Seat L) → Seat L
      opened w = live (p.ops.accepted e i c (w c).local (w (p.owner e)).local)

      the_opened : opened others ≡ opened tasks
      the_opened = λ j. live (p.ops.accepted e i c (locals c j) (locals (p.owner e) j))

      caller : (b : Bool) → (if b then opened others else others c).local ≡ (if b then opened tasks else tasks c).local
      caller true = ap (λ x. x.local) the_opened
      caller false = locals c

      go : (u : ℕ) (b : Bool) → (u == c) ≡ b → (d : Bool) → (u == p.owner e) ≡ d →
          (if b then record { local = (if c == p.owner e then opened others else others c).local; standing = Served (p.owner e) false }
          else (if d then opened others else others u)) ≡
          (if b then record { local = (if c == p.owner e then opened tasks else tasks c).local; standing = Served (p.owner e) false }
          else (if d then opened tasks else tasks u))
      go u true q d r = seat_path (caller (c == p.owner e)) refl
      go u false q true r = the_opened
      go u false q false r = rest u q r

  without_self : (c : ℕ) → without c (c ∷ []) ≡ []
  without_self c = ap (λ b. cond (not b) (c ∷ []) []) (equal_self c)

  -- ---- events at which one task waits

  abbrev waiting_state : World L → ℕ → State (ℕ → Seat L)
  waiting_state w a = record { seats = stand (numbered p).store w.tasks a Waiting; line = []; ended = w.ended }

  lift_else : (w : World L) (a : ℕ) → IsStill w → w.ended ≡ false → happens p w.tasks (S a) ≡ true → IsLifted p w (Happen (S a) ∷ [])
  lift_else w a still' runs h =
      let q = waits_is is_else (p.ops.offer (w.tasks a).local) (split h).1 in
      lift_from w (S a) (a ∷ []) (Else a) still'
      (both (ap not runs) (both (split h).0 (ap (arrives p.owner (seen (numbered p) (state_of w))) q.1)), tt)
      (waiting_state w a)
      (λ i. record { seats = stand (numbered p).store w.tasks a (arrived_standing (q.1 i)); line = arrived_line a (q.1 i) []; ended = w.ended })
      (both (ap not runs) (both (ap (λ x. is_waiting x.standing) (stand_self p w.tasks a Waiting))
      (both (ap (λ x. waits_with is_else (p.ops.offer x.local)) (stand_self p w.tasks a Waiting) ∙ (split h).1) (no_caller p.ops (seen (numbered p) (waiting_state w a)) refl (p.ops.offer (stand (numbered p).store w.tasks a Waiting a).local)))))
      refl
      (λ r i. record { seats = freed_stand p.ops.took_else w.tasks a Waiting i; line = []; ended = w.ended })

  lift_delay : (w : World L) (a k : ℕ) → IsStill w → w.ended ≡ false → happens p w.tasks (D a k) ≡ true → IsLifted p w (Happen (D a k) ∷ [])
  lift_delay w a k still' runs h =
      let q = waits_is (is_delay k) (p.ops.offer (w.tasks a).local) (split h).1 in
      lift_from w (D a k) (a ∷ []) (Delay a k) still'
      (both (ap not runs) (both (split h).0 (ap (arrives p.owner (seen (numbered p) (state_of w))) q.1)), tt)
      (waiting_state w a)
      (λ i. record { seats = stand (numbered p).store w.tasks a (arrived_standing (q.1 i)); line = arrived_line a (q.1 i) []; ended = w.ended })
      (both (ap not runs) (both (ap (λ x. is_waiting x.standing) (stand_self p w.tasks a Waiting))
      (both (ap (λ x. waits_with (is_delay k) (p.ops.offer x.local)) (stand_self p w.tasks a Waiting) ∙ (split h).1) (no_caller p.ops (seen (numbered p) (waiting_state w a)) refl (p.ops.offer (stand (numbered p).store w.tasks a Waiting a).local)))))
      refl
      (λ r i. record { seats = freed_stand (p.ops.took_delay k) w.tasks a Waiting i; line = []; ended = w.ended })

  -- ---- events of a call

  lift_timed : (w : World L) (c e : ℕ) (j : ℤ) → IsStill w → w.ended ≡ false → happens p w.tasks (T c e j) ≡ true → IsLifted p w (Happen (T c e j) ∷ [])
  lift_timed w c e j still' runs h =
      let (form, q, timed) = calls_is is_timed e j (p.ops.offer (w.tasks c).local) (split (split h).0).1 in
      lift_from w (T c e j) (c ∷ []) (Expire c) still'
      (both (ap not runs) (both (split (split h).0).0 (ap (arrives p.owner (seen (numbered p) (state_of w))) q ∙ both (timed_queues form timed) (split h).1)), tt)
      (record { seats = stand (numbered p).store w.tasks c Queued; line = c ∷ []; ended = w.ended })
      (λ i. record { seats = stand (numbered p).store w.tasks c (arrived_standing (q i)); line = arrived_line c (q i) []; ended = w.ended })
      (both (ap not runs) (both (ap (λ x. is_queued x.standing) (stand_self p w.tasks c Queued))
      (ap (calls_owner is_timed not p.owner (record { tasks = stand (numbered p).store w.tasks c Queued; size = p.size; line = c ∷ [] }))
      (ap p.ops.offer (stand_local p w.tasks c c Queued) ∙ q) ∙
      both timed (stand_open w.tasks c (p.owner e) Queued refl (split h).1))))
      (ap (call_event (λ f i. T c f i)) (ap p.ops.offer (stand_local p w.tasks c c Queued) ∙ q))
      (λ r i. record { seats = freed_stand (p.ops.took_delay 1) w.tasks c Queued i; line = without_self c i; ended = w.ended })

  -- a rendezvous can start of a caller that is alone in its queue, or calls at a condition where nobody is queued
  can_start : (s : State (ℕ → Seat L)) (c e : ℕ) (j : ℤ) (form : CallForm) → s.ended ≡ false → p.ops.offer (s.seats c).local ≡ Calls form e j →
      is_waiting (s.seats (p.owner e)).standing ≡ true → waits_with (opens e j) (p.ops.offer (s.seats (p.owner e)).local) ≡ true →
      ((is_queued (s.seats c).standing ≡ true) × (s.line ≡ c ∷ [])) ⊎ ((is_live (s.seats c).standing ≡ true) × (is_conditional form ≡ true) × (s.line ≡ [])) →
      can (numbered p) s (Start c) ≡ true
  can_start s c e j form runs q waits opened h =
      both (ap not runs) (ap (starts p.ops p.owner (seen (numbered p) s) c) q ∙ both (both waits opened) (⊎_elim queued conditional h))
    where
      in_queue : is_queued (s.seats c).standing ≡ true → queues_at p.ops (seen (numbered p) s) e j c ≡ true
      in_queue k = both k (ap (calls_in is_any_form e j) q ∙ same_member-refl e j)

      queued : (is_queued (s.seats c).standing ≡ true) × (s.line ≡ c ∷ []) →
          (is_first c (queue_of p.ops (seen (numbered p) s) e j) || ((is_live (s.seats c).standing && is_conditional form) && is_empty (queue_of p.ops (seen (numbered p) s) e j))) ≡ true
      queued (k, alone) = or_left _ _ (ap (λ xs. is_first c (filter (queues_at p.ops (seen (numbered p) s) e j) xs)) alone ∙
          ap (λ b. is_first c (cond b (c ∷ []) [])) (in_queue k) ∙ equal_self c)

      conditional : (is_live (s.seats c).standing ≡ true) × (is_conditional form ≡ true) × (s.line ≡ []) →
          (is_first c (queue_of p.ops (seen (numbered p) s) e j) || ((is_live (s.seats c).standing && is_conditional form) && is_empty (queue_of p.ops (seen (numbered p) s) e j))) ≡ true
      conditional (k, l, nobody) = or_right _ _ (both (both k l) (ap (λ xs. is_empty (filter (queues_at p.ops (seen (numbered p) s) e j) xs)) nobody))

  abbrev queued_state : World L → ℕ → State (ℕ → Seat L)
  queued_state w c = record { seats = stand (numbered p).store w.tasks c Queued; line = c ∷ []; ended = w.ended }

  abbrev meeting_state : World L → ℕ → ℕ → State (ℕ → Seat L)
  meeting_state w c o = record { seats = stand (numbered p).store (stand (numbered p).store w.tasks c Queued) o Waiting; line = c ∷ []; ended = w.ended }

  module _ (w : World L) (c e : ℕ) (j : ℤ) (still' : IsStill w) (runs : w.ended ≡ false) (h : happens p w.tasks (R c e j) ≡ true) where
    abbrev o : ℕ
    o = p.owner e

    called : calls_in is_any_form e j (p.ops.offer (w.tasks c).local) ≡ true
    called = (and_parts (is_live (w.tasks c).standing) _ (split h).0).1

    waited : waits_with (opens e j) (p.ops.offer (w.tasks o).local) ≡ true
    waited = (and_parts (is_live (w.tasks o).standing) _ (and_parts (offers p.ops (calls_in is_any_form e j) (w.tasks c)) _ h).1).1

    caller_free : is_live (w.tasks c).standing ≡ true
    caller_free = (and_parts (is_live (w.tasks c).standing) _ (split h).0).0

    owner_free : is_live (w.tasks o).standing ≡ true
    owner_free = (and_parts (is_live (w.tasks o).standing) _ (and_parts (offers p.ops (calls_in is_any_form e j) (w.tasks c)) _ h).1).0

    same_task : c ≡ o → ⊥
    same_task q = calls_waits is_any_form (opens e j) e j (p.ops.offer (w.tasks c).local) called
        (subst (λ v. waits_with (opens e j) (p.ops.offer (w.tasks v).local) ≡ true) (sym q) waited)

    caller_other : (c == o) ≡ false
    caller_other = ne_eqb c o same_task

    owner_other : (o == c) ≡ false
    owner_other = ne_eqb o c (λ q. same_task (sym q))

    owner_open : not (is_closed (w.tasks o).standing) ≡ true
    owner_open = ap (λ z. not (is_closed z)) (is-Live (w.tasks o).standing owner_free)

    lift_conditional : (form : CallForm) → p.ops.offer (w.tasks c).local ≡ Calls form e j → is_conditional form ≡ true → IsLifted p w (Happen (R c e j) ∷ [])
    lift_conditional form q conditional =
        let k = waits_is (opens e j) (p.ops.offer (w.tasks o).local) waited in
        lift_from w (R c e j) (o ∷ []) (Start c) still'
        (both (ap not runs) (both owner_free (ap (arrives p.owner (seen (numbered p) (state_of w))) k.1)), tt)
        (waiting_state w o)
        (λ i. record { seats = stand (numbered p).store w.tasks o (arrived_standing (k.1 i)); line = arrived_line o (k.1 i) []; ended = w.ended })
        (can_start (waiting_state w o) c e j form runs
        (ap p.ops.offer (stand_local p w.tasks o c Waiting) ∙ q)
        (ap (λ x. is_waiting x.standing) (stand_self p w.tasks o Waiting))
        (ap (λ l. waits_with (opens e j) (p.ops.offer l)) (stand_local p w.tasks o o Waiting) ∙ waited)
        (inr (ap (λ x. is_live x.standing) (stand_other p w.tasks o c Waiting caller_other) ∙ caller_free, conditional, refl)))
        (ap (call_event (λ f i. R c f i)) (ap p.ops.offer (stand_local p w.tasks o c Waiting) ∙ q))
        (λ r. (λ i. record {
          seats = met (numbered p) (stand (numbered p).store w.tasks o Waiting) c ((ap p.ops.offer (stand_local p w.tasks o c Waiting) ∙ q) i);
          line = [];
          ended = w.ended;
        }) ∙ (λ i. record {
          seats = met_same w.tasks (stand (numbered p).store w.tasks o Waiting) c e j (λ u. stand_local p w.tasks o u Waiting) (λ u x y. stand_other p w.tasks o u Waiting y) i;
          line = [];
          ended = w.ended;
        }))

    lift_queued : (form : CallForm) → p.ops.offer (w.tasks c).local ≡ Calls form e j → queues_up form ≡ true → IsLifted p w (Happen (R c e j) ∷ [])
    lift_queued form q queues =
        lift_from w (R c e j) (c ∷ o ∷ []) (Start c) still'
        (first, subst (λ s. IsRun (numbered p) s (Arrive o ∷ [])) (sym arrived) (second, tt))
        (meeting_state w c o)
        (ap (λ s. after (numbered p) s (Arrive o)) arrived ∙ (λ i. record {
          seats = stand (numbered p).store queued o (arrived_standing (offer_there i));
          line = arrived_line o (offer_there i) (c ∷ []);
          ended = w.ended;
        }))
        (can_start (meeting_state w c o) c e j form runs
        (ap p.ops.offer (locals c) ∙ q)
        (ap (λ x. is_waiting x.standing) (stand_self p queued o Waiting))
        (ap (λ l. waits_with (opens e j) (p.ops.offer l)) (locals o) ∙ waited)
        (inl (ap (λ x. is_queued x.standing) (stand_other p queued o c Waiting caller_other ∙ stand_self p w.tasks c Queued), refl)))
        (ap (call_event (λ f i. R c f i)) (ap p.ops.offer (locals c) ∙ q))
        (λ r. (λ i. record {
          seats = met (numbered p) (stand (numbered p).store queued o Waiting) c ((ap p.ops.offer (locals c) ∙ q) i);
          line = without_self c i;
          ended = w.ended;
        }) ∙ (λ i. record {
          seats = met_same w.tasks (stand (numbered p).store queued o Waiting) c e j locals
              (λ u x y. stand_other p queued o u Waiting y ∙ stand_other p w.tasks c u Queued x) i;
          line = [];
          ended = w.ended;
        }))
      where
        queued : ℕ → Seat L
        queued = stand (numbered p).store w.tasks c Queued

        first : can (numbered p) (state_of w) (Arrive c) ≡ true
        first = both (ap not runs) (both caller_free (ap (arrives p.owner (seen (numbered p) (state_of w))) q ∙ both queues owner_open))

        arrived : after (numbered p) (state_of w) (Arrive c) ≡ queued_state w c
        arrived = λ i. record { seats = stand (numbered p).store w.tasks c (arrived_standing (q i)); line = arrived_line c (q i) []; ended = w.ended }

        offer_there : p.ops.offer (queued o).local ≡ Waits (waits_is (opens e j) (p.ops.offer (w.tasks o).local) waited).0
        offer_there = ap p.ops.offer (stand_local p w.tasks c o Queued) ∙ (waits_is (opens e j) (p.ops.offer (w.tasks o).local) waited).1

        second : can (numbered p) (queued_state w c) (Arrive o) ≡ true
        second = both (ap not runs) (both (ap (λ x. is_live x.standing) (stand_other p w.tasks c o Queued owner_other) ∙ owner_free)
            (ap (arrives p.owner (seen (numbered p) (queued_state w c))) offer_there))

        locals : (u : ℕ) → (stand (numbered p).store queued o Waiting u).local ≡ (w.tasks u).local
        locals u = stand_local p queued o u Waiting ∙ stand_local p w.tasks c u Queued

    lift_start : IsLifted p w (Happen (R c e j) ∷ [])
    lift_start =
        let (form, q, passes) = calls_is is_any_form e j (p.ops.offer (w.tasks c).local) called in
        ⊎_elim (lift_queued form q) (λ k. lift_conditional form q (else_conditional form k)) (cases_Bool (queues_up form))

  -- ---- events without arrivals

  not_waiting : (z : Standing) → still z ≡ z → is_waiting z ≡ false
  not_waiting Live h = refl
  not_waiting Waiting h = let e : ◌≡◌ {A = Standing} Live Waiting = h in absurd (cc)
  not_waiting Queued h = refl
  not_waiting (Served by abnormal) h = refl
  not_waiting Completed h = refl
  not_waiting Killed h = refl

  lift_call_else : (w : World L) (c e : ℕ) (j : ℤ) → IsStill w → w.ended ≡ false → happens p w.tasks (C c e j) ≡ true → IsLifted p w (Happen (C c e j) ∷ [])
  lift_call_else w c e j still' runs h =
      let (form, q, conditional) = calls_is is_conditional e j (p.ops.offer (w.tasks c).local) (split (split h).0).1 in
      lift_from w (C c e j) [] (CallElse c) still' tt (state_of w) refl
      (both (ap not runs) (both (split (split h).0).0 (both
      (ap (calls_owner is_conditional not p.owner (seen (numbered p) (state_of w))) q ∙ both conditional (split h).1)
      (ap not (ap (starts p.ops p.owner (seen (numbered p) (state_of w)) c) q ∙
      ap (λ b. (b && waits_with (opens e j) (p.ops.offer (w.tasks (p.owner e)).local)) &&
      (is_first c [] || ((is_live (w.tasks c).standing && is_conditional form) && is_empty [])))
      (not_waiting (w.tasks (p.owner e)).standing (still' (p.owner e))))))))
      (ap (call_event (λ f i. C c f i)) q)
      (λ r. refl)

  lift_fail : (w : World L) (c e : ℕ) (j : ℤ) → IsStill w → w.ended ≡ false → happens p w.tasks (F c e j) ≡ true → IsLifted p w (Happen (F c e j) ∷ [])
  lift_fail w c e j still' runs h =
      let (form, q, passes) = calls_is is_any_form e j (p.ops.offer (w.tasks c).local) (split (split h).0).1 in
      lift_from w (F c e j) [] (Fail c) still' tt (state_of w) refl
      (both (ap not runs) (both (or_left (is_live (w.tasks c).standing) (is_queued (w.tasks c).standing) (split (split h).0).0)
      (ap (calls_owner is_any_form same p.owner (seen (numbered p) (state_of w))) q ∙ (split h).1)))
      (ap (call_event (λ f i. F c f i)) q)
      (λ r. refl)

  lift_abort : (w : World L) (t x : ℕ) → IsStill w → w.ended ≡ false → happens p w.tasks (B t x) ≡ true → IsLifted p w (Happen (B t x) ∷ [])
  lift_abort w t x still' runs h =
      let q = aborts_is x (p.ops.offer (w.tasks t).local) (split h).1 in
      lift_from w (B t x) [] (Abort t) still' tt (state_of w) refl
      (both (ap not runs) (both (split h).0 (ap (λ o. is_some (aborted_by o)) q)))
      (ap (λ o. abort_event t (aborted_by o)) q)
      (λ r. ap (λ o. after_abort (numbered p) (state_of w) t (aborted_by o)) q ∙
      (λ i. record { seats = acted (numbered p) w.tasks (B t x); line = empty (is_closed (w.tasks x).standing) i; ended = w.ended }))
    where
      empty : (b : Bool) → if◌then◌else◌ {A = List ℕ} b [] [] ≡ []
      empty true = refl
      empty false = refl

  -- ---- the end of the program: the others that are free arrive

  -- the tasks from 1 up and below 1 + m have arrived where they are free, and the others are as they were
  record IsReady (w : World L) (m : ℕ) : Type 0 where
    arrived : List ℕ
    run : IsRun (numbered p) (state_of w) (arrive_all arrived)
    ended : (end_of (numbered p) (state_of w) (arrive_all arrived)).ended ≡ false
    ready : others_can_end p.ops (seen (numbered p) (end_of (numbered p) (state_of w) (arrive_all arrived))) m ≡ true
    first : (end_of (numbered p) (state_of w) (arrive_all arrived)).seats 0 ≡ w.tasks 0
    later : (u : ℕ) → m < u → (end_of (numbered p) (state_of w) (arrive_all arrived)).seats u ≡ w.tasks u

  -- who can end goes by the tasks up to m
  same_others : (tasks others : ℕ → Seat L) (line : List ℕ) (m : ℕ) → ((u : ℕ) → u ≤ m → others u ≡ tasks u) →
      others_can_end p.ops (record { tasks = tasks; size = p.size; line = line }) m ≡ true →
      others_can_end p.ops (record { tasks = others; size = p.size; line = line }) m ≡ true
  same_others tasks others line zero e h = refl
  same_others tasks others line (suc m) e h =
      both (same_others tasks others line m (λ u l. e u (omega arith)) (split h).0) (ap (can_end p.ops) (e (suc m) (omega arith)) ∙ (split h).1)

  arrive_append : (xs : List ℕ) (t : ℕ) → arrive_all (xs ++ t ∷ []) ≡ arrive_all xs ++ Arrive t ∷ []
  arrive_append [] t = refl
  arrive_append (x ∷ xs) t = ap (λ ys. Arrive x ∷ ys) (arrive_append xs t)

  ready_arrives : (w : World L) (m : ℕ) → IsReady w m → is_live (w.tasks (suc m)).standing ≡ true →
      waits_with is_terminate (p.ops.offer (w.tasks (suc m)).local) ≡ true → IsReady w (suc m)
  ready_arrives w m r free h = record {
    arrived = r.arrived ++ suc m ∷ [];
    run = subst (IsRun (numbered p) (state_of w)) (sym (arrive_append r.arrived (suc m)))
        (run_append (numbered p) (state_of w) (arrive_all r.arrived) (Arrive (suc m) ∷ []) r.run (arrives_now, tt));
    ended = ap (λ z. z.ended) ends ∙ r.ended;
    ready = both
        (subst (λ z. others_can_end p.ops (seen (numbered p) z) m ≡ true) (sym ends)
        (same_others s.seats (stand (numbered p).store s.seats (suc m) Waiting) s.line m
        (λ u l. stand_other p s.seats (suc m) u Waiting (ne_eqb u (suc m) (λ e. omega arith))) r.ready))
        (ap (λ z. can_end p.ops (z.seats (suc m))) ends ∙
        or_right _ _ (both (ap (λ x. is_waiting x.standing) (stand_self p s.seats (suc m) Waiting))
        (ap (λ l. waits_with is_terminate (p.ops.offer l)) (stand_local p s.seats (suc m) (suc m) Waiting ∙ ap (λ x. x.local) here) ∙ h)));
    first = ap (λ z. z.seats 0) ends ∙ stand_other p s.seats (suc m) 0 Waiting (ne_eqb 0 (suc m) (λ e. omega arith)) ∙ r.first;
    later = λ u l. ap (λ z. z.seats u) ends ∙ stand_other p s.seats (suc m) u Waiting (ne_eqb u (suc m) (λ e. omega arith)) ∙ r.later u (omega arith);
  }
    where
      s : State (ℕ → Seat L)
      s = end_of (numbered p) (state_of w) (arrive_all r.arrived)

      here : s.seats (suc m) ≡ w.tasks (suc m)
      here = r.later (suc m) (omega arith)

      offer_there : p.ops.offer (s.seats (suc m)).local ≡ Waits (waits_is is_terminate (p.ops.offer (w.tasks (suc m)).local) h).0
      offer_there = ap (λ x. p.ops.offer x.local) here ∙ (waits_is is_terminate (p.ops.offer (w.tasks (suc m)).local) h).1

      arrives_now : can (numbered p) s (Arrive (suc m)) ≡ true
      arrives_now = both (ap not r.ended) (both (ap (λ x. is_live x.standing) here ∙ free) (ap (arrives p.owner (seen (numbered p) s)) offer_there))

      ends : end_of (numbered p) (state_of w) (arrive_all (r.arrived ++ suc m ∷ [])) ≡
          record { seats = stand (numbered p).store s.seats (suc m) Waiting; line = s.line; ended = s.ended }
      ends = ap (end_of (numbered p) (state_of w)) (arrive_append r.arrived (suc m)) ∙
          end_append (numbered p) (state_of w) (arrive_all r.arrived) (Arrive (suc m) ∷ []) ∙
          (λ i. record {
            seats = stand (numbered p).store s.seats (suc m) (arrived_standing (offer_there i));
            line = arrived_line (suc m) (offer_there i) s.line;
            ended = s.ended;
          })

  ready_completed : (w : World L) (m : ℕ) → IsReady w m → is_completed (w.tasks (suc m)).standing ≡ true → IsReady w (suc m)
  ready_completed w m r h = record {
    arrived = r.arrived;
    run = r.run;
    ended = r.ended;
    ready = both r.ready (or_left _ _ (ap (λ x. is_completed x.standing) (r.later (suc m) (omega arith)) ∙ h));
    first = r.first;
    later = λ u l. r.later u (omega arith);
  }

  all_ready : (w : World L) (m : ℕ) → w.ended ≡ false → others_end p.ops w.tasks m ≡ true → IsReady w m
  all_ready w zero runs h = record { arrived = []; run = tt; ended = runs; ready = refl; first = refl; later = λ u l. refl }
  all_ready w (suc m) runs h =
      let r = all_ready w m runs (split h).0 in
      ⊎_elim (ready_completed w m r) (λ k. ready_arrives w m r (split k).0 (split k).1)
      (or_cases (is_completed (w.tasks (suc m)).standing) (offers p.ops (waits_with is_terminate) (w.tasks (suc m))) (split h).1)

  lift_end : (w : World L) → IsStill w → w.ended ≡ false → happens p w.tasks Z ≡ true → IsLifted p w (Happen Z ∷ [])
  lift_end w still' runs h =
      let main = and_parts (is_live (w.tasks 0).standing) (is_end (p.ops.offer (w.tasks 0).local)) (split h).0 in
      let r = all_ready w (pred p.size) runs (and_parts (offers p.ops is_end (w.tasks 0)) _ h).1 in
      lift_event w Z r.arrived End still' r.run
      (both (ap not r.ended) (both (ap (λ x. is_live x.standing) r.first ∙ main.0) (both (ap (λ x. is_end (p.ops.offer x.local)) r.first ∙ main.1) r.ready)))
      refl
      (λ k. absurd (true≢false k))

  -- ---- all moves

  lift_happen : (w : World L) (e : Event) → IsStill w → w.ended ≡ false → happens p w.tasks e ≡ true → IsLifted p w (Happen e ∷ [])
  lift_happen w (R c e i) still' runs h = lift_start w c e i still' runs h
  lift_happen w (E a) still' runs h = lift_from w (E a) [] (Finish a) still' tt (state_of w) refl (both (ap not runs) h) refl (λ r. refl)
  lift_happen w (S a) still' runs h = lift_else w a still' runs h
  lift_happen w (D a k) still' runs h = lift_delay w a k still' runs h
  lift_happen w (C c e i) still' runs h = lift_call_else w c e i still' runs h
  lift_happen w (T c e i) still' runs h = lift_timed w c e i still' runs h
  lift_happen w (F c e i) still' runs h = lift_fail w c e i still' runs h
  lift_happen w (X a) still' runs h = lift_from w (X a) [] (Complete a) still' tt (state_of w) refl (both (ap not runs) h) refl (λ r. refl)
  lift_happen w (B t x) still' runs h = lift_abort w t x still' runs h
  lift_happen w Z still' runs h = lift_end w still' runs h

  pub still_moved : (w : World L) (move : Move) → IsStill w → IsStill (moved p w move)
  still_moved w (Step t) still' u = ap (λ (f : ℕ → Seat L). (f u).standing) (still_freed p p.ops.stepped w.tasks t ∙
      ap (λ f. freed (numbered p).store p.ops.stepped f t) (λ i v. record { local = (w.tasks v).local; standing = still' v i }))
  still_moved w (Happen e) still' u = ap (λ (f : ℕ → Seat L). (f u).standing) (still_acted p w.tasks e ∙
      ap (λ f. acted (numbered p) f e) (λ i v. record { local = (w.tasks v).local; standing = still' v i }))

  lift_move : (w : World L) (move : Move) → IsStill w → can_move p w move ≡ true → IsLifted p w (move ∷ [])
  lift_move w (Step t) still' h = record {
    actions = Local t ∷ [];
    applies = (h, tt);
    events = refl;
    world = still_world (moved p w (Step t)) (still_moved w (Step t) still');
    exact = λ r. refl;
    counts = λ count. refl;
  }
  lift_move w (Happen e) still' h = lift_happen w e still' (not_true _ (split h).0) (split h).1

  -- after the end of the program nothing moves
  ended_last : (w : World L) (moves : List Move) → w.ended ≡ true → AreMoves p w moves → moves ≡ []
  ended_last w [] e h = refl
  ended_last w (move ∷ moves) e h = absurd (stuck move h.0)
    where
      stuck : (move : Move) → can_move p w move ≡ true → ⊥
      stuck (Step t) k = true≢false (sym e ∙ not_true _ (split k).0)
      stuck (Happen f) k = true≢false (sym e ∙ not_true _ (split k).0)

  lift_more : (w : World L) (move : Move) (moves : List Move) (first : IsLifted p w (move ∷ [])) → IsLifted p (moved p w move) moves →
      (moved p w move).ended ≡ false → IsLifted p w (move ∷ moves)
  lift_more w move moves first rest e = record {
    actions = first.actions ++ rest.actions;
    applies = run_append (numbered p) (state_of w) first.actions rest.actions first.applies
        (subst (λ s. IsRun (numbered p) s rest.actions) (sym (first.exact e)) rest.applies);
    events = events_append (numbered p) (state_of w) first.actions rest.actions ∙
        ap₂ (λ xs ys. xs ++ ys) first.events (ap (λ s. events_of (numbered p) s rest.actions) (first.exact e) ∙ rest.events) ∙
        sym (happened_append (move ∷ []) moves);
    world = ap world_of ends ∙ rest.world;
    exact = λ r. ends ∙ rest.exact r;
    counts = λ count. tallies_append (numbered p) (state_of w) first.actions rest.actions count ∙
        ap₂ (λ s c. tallies (numbered p) s rest.actions c) (first.exact e) (first.counts count) ∙
        rest.counts (recount p w move count);
  }
    where
      ends : end_of (numbered p) (state_of w) (first.actions ++ rest.actions) ≡ end_of (numbered p) (state_of (moved p w move)) rest.actions
      ends = end_append (numbered p) (state_of w) first.actions rest.actions ∙ ap (λ s. end_of (numbered p) s rest.actions) (first.exact e)

  pub lifting : Lifting p
  lifting w [] still' h =
      record { actions = []; applies = tt; events = refl; world = still_world w still'; exact = λ r. refl; counts = λ count. refl }
  lifting w (move ∷ moves) still' h =
      let first : IsLifted p w (move ∷ []) = lift_move w move still' h.0 in
      ⊎_elim
      (λ e. subst (λ ms. IsLifted p w (move ∷ ms)) (sym (ended_last (moved p w move) moves e h.1)) first)
      (lift_more w move moves first (lifting (moved p w move) moves (still_moved w move still') h.1))
      (cases_Bool (moved p w move).ended)
