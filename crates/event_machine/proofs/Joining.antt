-- A run of the tasks in a list is one of the tasks by their numbers, and back.
use Rattle.std.proofs.Common.{◌≡◌, ℕ, suc, ◌<◌, Bool, true, false, not, ◌&&◌, ◌==◌, if◌then◌else◌, List, [], ◌∷◌, ◌++◌, length, map, Option, Some, None, option_to_list, refl, sym, ap, ap₂, ◌∙◌, subst, ⊎_elim, true≢false}
use Rattle.std.specs.Prelude.{ℤ}
use Rattle.std.proofs.lemmas.Bool.{and_parts}
use Rattle.std.proofs.Math.ListN.{length-set, length-map}
use Rattle.event_machine.specs.declared.Standing.{Standing}
use Rattle.event_machine.specs.declared.Standing.TheVariants.{Served, Completed, Killed}
use Rattle.event_machine.specs.declared.Action.{Action}
use Rattle.event_machine.specs.declared.Action.TheVariants.{Local, Arrive, Start, Finish, Else, Delay, CallElse, Expire, Fail, Complete, Abort, End}
use Rattle.event_machine.specs.declared.Event.{Event}
use Rattle.event_machine.specs.declared.Event.TheVariants.{R, E, S, D, C, T, F, X, B, Z}
use Rattle.event_machine.specs.Offers.{Offer, Nothing, Calls, Waits, Finishes, Ends, Aborts, aborted_by, calls_in, is_any_form}
use Rattle.event_machine.specs.States.{Seat, State, Rules, live, is_live, is_completed, is_closed}
use Rattle.event_machine.specs.Applying.{can, action_applies}
use Rattle.event_machine.specs.Effects.{after, event_of, met, call_event, after_abort, abort_event, offer_of_task, arrived_standing, freed, stand, parted, released_first, released, fallen, aborted, went_on}
use Rattle.event_machine.specs.Runs.{IsRun, end_of, events_of}
use Rattle.event_machine.specs.Programs.{Program, numbered, listed, by_number}
use Rattle.event_machine.specs.Worlds.{still, still_seat, acted, happens, offers}
use Rattle.event_machine.specs.Tallies.{tallied, tallies, ComesTo, is_changed, is_step_of}
use Rattle.event_machine.specs.Laws.{Joined}
use Rattle.event_machine.proofs.Basics.{split, none_some, some_path}
use Rattle.event_machine.proofs.Standings.{is-Live}
use Rattle.event_machine.proofs.Stills.{still_completed}
use Rattle.event_machine.proofs.Erasing.{IsEvent, event_or_silent, is_silent}
use Rattle.event_machine.proofs.Listing.{view, in_list, view_freed, view_stand, view_met, view_both, view_abort}

-- ---- an action with an event acts as the event, however the tasks are kept

module _ {L K : Type 0} (rules : Rules L K) (s : State K) where
  call_acts : (c : ℕ) (make : ℕ → ℤ → Event) (o : Offer) (e : Event) → call_event make o ≡ Some e → (form_entry : ℕ) × (index : ℤ) × (e ≡ make form_entry index)
  call_acts c make Nothing e h = absurd (none_some h)
  call_acts c make (Calls form f j) e h = (f, j, sym (some_path h))
  call_acts c make (Waits choices) e h = absurd (none_some h)
  call_acts c make Finishes e h = absurd (none_some h)
  call_acts c make Ends e h = absurd (none_some h)
  call_acts c make (Aborts x) e h = absurd (none_some h)

  start_acts : (c : ℕ) (o : Offer) (e : Event) → call_event (λ f j. R c f j) o ≡ Some e → met rules s.seats c o ≡ acted rules s.seats e
  start_acts c Nothing e h = absurd (none_some h)
  start_acts c (Calls form f j) e h = ap (acted rules s.seats) (some_path h)
  start_acts c (Waits choices) e h = absurd (none_some h)
  start_acts c Finishes e h = absurd (none_some h)
  start_acts c Ends e h = absurd (none_some h)
  start_acts c (Aborts x) e h = absurd (none_some h)

  abort_acts : (t : ℕ) (o : Option ℕ) (e : Event) → abort_event t o ≡ Some e → (after_abort rules s t o).seats ≡ acted rules s.seats e
  abort_acts t None e h = absurd (none_some h)
  abort_acts t (Some x) e h = ap (acted rules s.seats) (some_path h)

  pub after_acts : (action : Action) (e : Event) → event_of rules s action ≡ Some e → (after rules s action).seats ≡ acted rules s.seats e
  after_acts (Local t) e h = absurd (none_some h)
  after_acts (Arrive t) e h = absurd (none_some h)
  after_acts (Start c) e h = start_acts c (offer_of_task rules s c) e h
  after_acts (Finish a) e h = ap (acted rules s.seats) (some_path h)
  after_acts (Else a) e h = ap (acted rules s.seats) (some_path h)
  after_acts (Delay a k) e h = ap (acted rules s.seats) (some_path h)
  after_acts (CallElse c) e h = let (f, j, q) = call_acts c (λ f j. C c f j) (offer_of_task rules s c) e h in ap (acted rules s.seats) (sym q)
  after_acts (Expire c) e h = let (f, j, q) = call_acts c (λ f j. T c f j) (offer_of_task rules s c) e h in ap (acted rules s.seats) (sym q)
  after_acts (Fail c) e h = let (f, j, q) = call_acts c (λ f j. F c f j) (offer_of_task rules s c) e h in ap (acted rules s.seats) (sym q)
  after_acts (Complete a) e h = ap (acted rules s.seats) (some_path h)
  after_acts (Abort t) e h = abort_acts t (aborted_by (offer_of_task rules s t)) e h
  after_acts End e h = ap (acted rules s.seats) (some_path h)

module _ {L : Type 0} (p : Program L) where
  -- ---- one event

  -- a task that is free stands in the list
  free_in : (seats : List (Seat L)) (t : ℕ) → is_live (still (view p seats t).standing) ≡ true → t < length seats
  free_in seats t h = in_list p seats t (sym (still_completed (view p seats t).standing) ∙ ap is_completed (is-Live (still (view p seats t).standing) h))

  pub view_acted : (e : Event) (seats : List (Seat L)) → happens p (λ t. still_seat (view p seats t)) e ≡ true → view p (acted (listed p) seats e) ≡ acted (numbered p) (view p seats) e
  view_acted (R c e i) seats h = view_met p seats c e i
      (free_in seats c (and_parts (is_live (still (view p seats c).standing)) _ (split h).0).0)
      (free_in seats (p.owner e) (and_parts (is_live (still (view p seats (p.owner e)).standing)) _
      (and_parts (offers p.ops (calls_in is_any_form e i) (still_seat (view p seats c))) _ h).1).0)
  view_acted (E a) seats h = view_both p seats a (free_in seats a (split h).0)
  view_acted (S a) seats h = view_freed p p.ops.took_else seats a (free_in seats a (split h).0)
  view_acted (D a k) seats h = view_freed p (p.ops.took_delay k) seats a (free_in seats a (split h).0)
  view_acted (C c e i) seats h = view_freed p p.ops.took_else seats c (free_in seats c (and_parts (is_live (still (view p seats c).standing)) _ (split h).0).0)
  view_acted (T c e i) seats h = view_freed p (p.ops.took_delay 1) seats c (free_in seats c (and_parts (is_live (still (view p seats c).standing)) _ (split h).0).0)
  view_acted (F c e i) seats h = view_freed p p.ops.raised seats c (free_in seats c (and_parts (is_live (still (view p seats c).standing)) _ (split h).0).0)
  view_acted (X a) seats h = view_stand p seats a Completed
      (free_in seats a (and_parts (is_live (still (view p seats a).standing)) _ (and_parts (not (a == 0)) _ h).1).0)
  view_acted (B t x) seats h = view_abort p seats t x (free_in seats t (split h).0)
  view_acted Z seats h = refl

  -- ---- one action

  same_line : (s : State (List (Seat L))) (action : Action) → (after (listed p) s action).line ≡ (after (numbered p) (by_number p s) action).line
  same_line s (Local t) = refl
  same_line s (Arrive t) = refl
  same_line s (Start c) = refl
  same_line s (Finish a) = refl
  same_line s (Else a) = refl
  same_line s (Delay a k) = refl
  same_line s (CallElse c) = refl
  same_line s (Expire c) = refl
  same_line s (Fail c) = refl
  same_line s (Complete a) = refl
  same_line s (Abort t) = go (aborted_by (offer_of_task (listed p) s t))
    where
      go : (o : Option ℕ) → (after_abort (listed p) s t o).line ≡ (after_abort (numbered p) (by_number p s) t o).line
      go None = refl
      go (Some x) = refl
  same_line s End = refl

  same_end : (s : State (List (Seat L))) (action : Action) → (after (listed p) s action).ended ≡ (after (numbered p) (by_number p s) action).ended
  same_end s (Local t) = refl
  same_end s (Arrive t) = refl
  same_end s (Start c) = refl
  same_end s (Finish a) = refl
  same_end s (Else a) = refl
  same_end s (Delay a k) = refl
  same_end s (CallElse c) = refl
  same_end s (Expire c) = refl
  same_end s (Fail c) = refl
  same_end s (Complete a) = refl
  same_end s (Abort t) = go (aborted_by (offer_of_task (listed p) s t))
    where
      go : (o : Option ℕ) → (after_abort (listed p) s t o).ended ≡ (after_abort (numbered p) (by_number p s) t o).ended
      go None = refl
      go (Some x) = refl
  same_end s End = refl

  -- the action applies to both
  pub same_can : (s : State (List (Seat L))) → length s.seats ≡ p.size → (action : Action) → can (listed p) s action ≡ can (numbered p) (by_number p s) action
  same_can s e action = λ i. not s.ended && action_applies p.ops p.owner (record { tasks = view p s.seats; size = e i; line = s.line }) action

  silent_seats : (s : State (List (Seat L))) (action : Action) → is_silent action ≡ true → can (numbered p) (by_number p s) action ≡ true →
      view p (after (listed p) s action).seats ≡ (after (numbered p) (by_number p s) action).seats
  silent_seats s (Local t) k h = view_freed p p.ops.stepped s.seats t (live_in t (split (split h).1).0)
    where
      live_in : (t : ℕ) → is_live (view p s.seats t).standing ≡ true → t < length s.seats
      live_in t q = in_list p s.seats t (ap is_completed (is-Live (view p s.seats t).standing q))
  silent_seats s (Arrive t) k h = view_stand p s.seats t (arrived_standing (p.ops.offer (view p s.seats t).local)) (live_in t (split (split h).1).0)
    where
      live_in : (t : ℕ) → is_live (view p s.seats t).standing ≡ true → t < length s.seats
      live_in t q = in_list p s.seats t (ap is_completed (is-Live (view p s.seats t).standing q))
  silent_seats s (Start c) k h = absurd (true≢false (sym k))
  silent_seats s (Finish a) k h = absurd (true≢false (sym k))
  silent_seats s (Else a) k h = absurd (true≢false (sym k))
  silent_seats s (Delay a j) k h = absurd (true≢false (sym k))
  silent_seats s (CallElse c) k h = absurd (true≢false (sym k))
  silent_seats s (Expire c) k h = absurd (true≢false (sym k))
  silent_seats s (Fail c) k h = absurd (true≢false (sym k))
  silent_seats s (Complete a) k h = absurd (true≢false (sym k))
  silent_seats s (Abort t) k h = absurd (true≢false (sym k))
  silent_seats s End k h = absurd (true≢false (sym k))

  -- it has the same event
  pub same_event : (s : State (List (Seat L))) (action : Action) → event_of (listed p) s action ≡ event_of (numbered p) (by_number p s) action
  same_event s (Local t) = refl
  same_event s (Arrive t) = refl
  same_event s (Start c) = refl
  same_event s (Finish a) = refl
  same_event s (Else a) = refl
  same_event s (Delay a k) = refl
  same_event s (CallElse c) = refl
  same_event s (Expire c) = refl
  same_event s (Fail c) = refl
  same_event s (Complete a) = refl
  same_event s (Abort t) = refl
  same_event s End = refl

  event_seats : (s : State (List (Seat L))) (action : Action) (e : Event) → IsEvent p (by_number p s) action e →
      view p (after (listed p) s action).seats ≡ (after (numbered p) (by_number p s) action).seats
  event_seats s action e k = ap (view p) (after_acts (listed p) s action e (same_event s action ∙ k.event)) ∙ view_acted e s.seats k.holds ∙ sym k.seats

  -- An action does the same to both.
  pub same_after : (s : State (List (Seat L))) (action : Action) → can (numbered p) (by_number p s) action ≡ true →
      by_number p (after (listed p) s action) ≡ after (numbered p) (by_number p s) action
  same_after s action h =
      let seats : view p (after (listed p) s action).seats ≡ (after (numbered p) (by_number p s) action).seats =
      ⊎_elim (λ k. event_seats s action k.0 k.1) (λ k. silent_seats s action k h) (event_or_silent p (by_number p s) action (split h).1) in
      λ i. record { seats = seats i; line = same_line s action i; ended = same_end s action i }

  -- ---- the number of tasks

  length_first : (a : ℕ) (acceptor : L) (callers : List ℕ) (seats : List (Seat L)) → length (released_first (listed p) a acceptor callers seats) ≡ length seats
  length_first a acceptor [] seats = refl
  length_first a acceptor (c ∷ callers) seats = length-set seats c (parted p.ops a acceptor (view p seats c))

  length_freed : (f : L → L) (seats : List (Seat L)) (t : ℕ) → length (freed (listed p).store f seats t) ≡ length seats
  length_freed f seats t = length-set seats t (live (f (view p seats t).local))

  length_stand : (seats : List (Seat L)) (t : ℕ) (z : Standing) → length (stand (listed p).store seats t z) ≡ length seats
  length_stand seats t z = length-set seats t (record { local = (view p seats t).local; standing = z })

  length_went : (seats : List (Seat L)) (t x : ℕ) → length (went_on (listed p) seats t x) ≡ length seats
  length_went seats t x = go (x == t)
    where
      go : (b : Bool) → length (if◌then◌else◌ {A = List (Seat L)} b seats (freed (listed p).store p.ops.passed seats t)) ≡ length seats
      go true = refl
      go false = length_freed p.ops.passed seats t

  length_aborted : (seats : List (Seat L)) (x : ℕ) (closing : Standing) → length (aborted (listed p) seats x closing) ≡ length seats
  length_aborted seats x closing =
      let let_go : List (Seat L) = map (released p.ops x) seats in
      length_stand let_go x (fallen closing (view p let_go x).standing) ∙ length-map seats (released p.ops x)

  pub length_acted : (e : Event) (seats : List (Seat L)) → length (acted (listed p) seats e) ≡ length seats
  length_acted (R c e i) seats =
      length_stand (freed (listed p).store (p.ops.accepted e i c (view p seats c).local) seats (p.owner e)) c (Served (p.owner e) false) ∙
      length_freed (p.ops.accepted e i c (view p seats c).local) seats (p.owner e)
  length_acted (E a) seats = length_first a (view p seats a).local (p.ops.callers (view p seats a).local) (freed (listed p).store p.ops.finished seats a) ∙ length_freed p.ops.finished seats a
  length_acted (S a) seats = length_freed p.ops.took_else seats a
  length_acted (D a k) seats = length_freed (p.ops.took_delay k) seats a
  length_acted (C c e i) seats = length_freed p.ops.took_else seats c
  length_acted (T c e i) seats = length_freed (p.ops.took_delay 1) seats c
  length_acted (F c e i) seats = length_freed p.ops.raised seats c
  length_acted (X a) seats = length_stand seats a Completed
  length_acted (B t x) seats = go (is_closed (view p seats x).standing)
    where
      go : (b : Bool) →
          length (if◌then◌else◌ {A = List (Seat L)} b (went_on (listed p) seats t x) (aborted (listed p) (went_on (listed p) seats t x) x (if x == t then Completed else Killed))) ≡ length seats
      go true = length_went seats t x
      go false = length_aborted (went_on (listed p) seats t x) x (if x == t then Completed else Killed) ∙ length_went seats t x
  length_acted Z seats = refl

  length_silent : (s : State (List (Seat L))) (action : Action) → is_silent action ≡ true → length (after (listed p) s action).seats ≡ length s.seats
  length_silent s (Local t) k = length_freed p.ops.stepped s.seats t
  length_silent s (Arrive t) k = length_stand s.seats t (arrived_standing (p.ops.offer (view p s.seats t).local))
  length_silent s (Start c) k = absurd (true≢false (sym k))
  length_silent s (Finish a) k = absurd (true≢false (sym k))
  length_silent s (Else a) k = absurd (true≢false (sym k))
  length_silent s (Delay a j) k = absurd (true≢false (sym k))
  length_silent s (CallElse c) k = absurd (true≢false (sym k))
  length_silent s (Expire c) k = absurd (true≢false (sym k))
  length_silent s (Fail c) k = absurd (true≢false (sym k))
  length_silent s (Complete a) k = absurd (true≢false (sym k))
  length_silent s (Abort t) k = absurd (true≢false (sym k))
  length_silent s End k = absurd (true≢false (sym k))

  same_length : (s : State (List (Seat L))) (action : Action) → can (numbered p) (by_number p s) action ≡ true → length (after (listed p) s action).seats ≡ length s.seats
  same_length s action h = ⊎_elim
      (λ k. ap length (after_acts (listed p) s action k.0 (same_event s action ∙ k.1.event)) ∙ length_acted k.0 s.seats)
      (λ k. length_silent s action k)
      (event_or_silent p (by_number p s) action (split h).1)

  -- ---- runs

  -- The same run of the tasks by their numbers.
  record IsJoined (s : State (List (Seat L))) (actions : List Action) : Type 0 where
    applies : IsRun (numbered p) (by_number p s) actions
    ends : by_number p (end_of (listed p) s actions) ≡ end_of (numbered p) (by_number p s) actions
    events : events_of (listed p) s actions ≡ events_of (numbered p) (by_number p s) actions
    counts : (tally : ℕ → ℕ) → tallies (listed p) s actions tally ≡ tallies (numbered p) (by_number p s) actions tally

  -- the same tallies behind one action
  same_tally : (s : State (List (Seat L))) (action : Action) (tally : ℕ → ℕ) → tallied (listed p) s action tally ≡ tallied (numbered p) (by_number p s) action tally
  same_tally s action tally = λ i t.
      if is_changed p.ops p.owner (view p s.seats) (same_event s action i) t then 0 else (if is_step_of t action then suc (tally t) else tally t)

  join_more : (s : State (List (Seat L))) (action : Action) (actions : List Action) → can (numbered p) (by_number p s) action ≡ true → IsJoined (after (listed p) s action) actions →
      IsJoined s (action ∷ actions)
  join_more s action actions h r = record {
    applies = (h, subst (λ z. IsRun (numbered p) z actions) (same_after s action h) r.applies);
    ends = r.ends ∙ ap (λ z. end_of (numbered p) z actions) (same_after s action h);
    events = ap₂ (λ o es. option_to_list o ++ es) (same_event s action) (r.events ∙ ap (λ z. events_of (numbered p) z actions) (same_after s action h));
    counts = λ tally. r.counts (tallied (listed p) s action tally) ∙
        ap₂ (λ z c. tallies (numbered p) z actions c) (same_after s action h) (same_tally s action tally);
  }

  join_run : (actions : List Action) (s : State (List (Seat L))) → length s.seats ≡ p.size → IsRun (listed p) s actions → IsJoined s actions
  join_run [] s e run = record { applies = tt; ends = refl; events = refl; counts = λ tally. refl }
  join_run (action ∷ actions) s e run =
      let h : can (numbered p) (by_number p s) action ≡ true = sym (same_can s e action) ∙ run.0 in
      join_more s action actions h (join_run actions (after (listed p) s action) (same_length s action h ∙ e) run.1)

  back_run : (actions : List Action) (s : State (List (Seat L))) → length s.seats ≡ p.size → IsRun (numbered p) (by_number p s) actions → IsRun (listed p) s actions
  back_run [] s e run = tt
  back_run (action ∷ actions) s e run = (
    same_can s e action ∙ run.0,
    back_run actions (after (listed p) s action) (same_length s action run.0 ∙ e) (subst (λ z. IsRun (numbered p) z actions) (sym (same_after s action run.0)) run.1),
  )

  -- a run of the list, as one by numbers, and its end
  pub same_run : (actions : List Action) (s : State (List (Seat L))) → length s.seats ≡ p.size → IsRun (listed p) s actions →
      IsRun (numbered p) (by_number p s) actions × (by_number p (end_of (listed p) s actions) ≡ end_of (numbered p) (by_number p s) actions)
  same_run actions s e run = let j : IsJoined s actions = join_run actions s e run in (j.applies, j.ends)

  pub joined : (s : State (List (Seat L))) → length s.seats ≡ p.size → Joined p s
  joined s e events tasks tally = (there, back)
    where
      there : ComesTo (listed p) s events tasks tally → ComesTo (numbered p) (by_number p s) events tasks tally
      there r =
          let j : IsJoined s r.actions = join_run r.actions s e r.applies in
          record {
            actions = r.actions;
            applies = j.applies;
            has_events = sym j.events ∙ r.has_events;
            leaves = λ t. ap (λ (z : State (ℕ → Seat L)). z.seats t) (sym j.ends) ∙ r.leaves t;
            counts = λ t. ap (λ (c : ℕ → ℕ). c t) (sym (j.counts (λ u. 0))) ∙ r.counts t;
          }

      back : ComesTo (numbered p) (by_number p s) events tasks tally → ComesTo (listed p) s events tasks tally
      back r =
          let run : IsRun (listed p) s r.actions = back_run r.actions s e r.applies in
          let j : IsJoined s r.actions = join_run r.actions s e run in
          record {
            actions = r.actions;
            applies = run;
            has_events = j.events ∙ r.has_events;
            leaves = λ t. ap (λ (z : State (ℕ → Seat L)). z.seats t) j.ends ∙ r.leaves t;
            counts = λ t. ap (λ (c : ℕ → ℕ). c t) (j.counts (λ u. 0)) ∙ r.counts t;
          }
