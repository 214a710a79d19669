-- Each run of the table is a list of moves without queues: what each action is there.
use Rattle.std.proofs.Common.{◌≡◌, ℕ, zero, suc, pred, Bool, true, false, not, ◌&&◌, ◌||◌, ◌==◌, if◌then◌else◌, List, [], ◌∷◌, ◌++◌, Some, None, option_to_list, refl, sym, ap, ap₂, ◌∙◌, subst, inl, inr, ◌⊎◌, ⊎_elim, true≢false}
use Rattle.std.specs.Prelude.{ℤ, is_some}
use Rattle.std.proofs.lemmas.Bool.{eqb-true, and_parts, or_cases, or_left, or_right}
use Rattle.event_machine.specs.declared.CallForm.{CallForm}
use Rattle.event_machine.specs.declared.Standing.{Standing}
use Rattle.event_machine.specs.declared.Standing.TheVariants.{Live}
use Rattle.event_machine.specs.declared.Action.{Action}
use Rattle.event_machine.specs.declared.Action.TheVariants.{Local, Arrive, Start, Finish, Else, Delay, CallElse, Expire, Fail, Complete, Abort, End}
use Rattle.event_machine.specs.declared.Event.{Event}
use Rattle.event_machine.specs.declared.Event.TheVariants.{R, E, S, D, C, T, F, X, B, Z}
use Rattle.event_machine.specs.Offers.{Offer, Nothing, Calls, Waits, Finishes, Ends, Aborts, aborted_by, is_any_form, is_conditional, is_timed, calls_in, is_end}
use Rattle.event_machine.specs.States.{Seat, State, seen, is_live, is_closed}
use Rattle.event_machine.specs.Applying.{can, action_applies, starts, queue_of, queues_at, is_first, is_empty, calls_owner, same, others_can_end}
use Rattle.event_machine.specs.Effects.{after, event_of, met, call_event, after_abort, abort_event, stand, arrived_standing}
use Rattle.event_machine.specs.Programs.{Program, numbered}
use Rattle.event_machine.specs.Worlds.{still, still_seat, world_of, acted, happens, offers, others_end, aborts, is_last, Move, Step, Happen, moved, AreMoves, world_after, happened, counts_after, recount}
use Rattle.event_machine.specs.Tallies.{tallied, is_changed, is_step_of}
use Rattle.event_machine.specs.Laws.{IsErased, Erasing}
use Rattle.event_machine.proofs.Basics.{split, both, seat_path, same_member-refl, none_some, some_path}
use Rattle.event_machine.proofs.Standings.{is-Live, still_live, still_waiting, still_queued, first_passes}
use Rattle.event_machine.proofs.Stills.{still_acted, still_changes, still_freed, still_closed, still_completed}
use Rattle.event_machine.proofs.Appends.{moves_append, world_append, happened_append, counts_append}
use Rattle.common_lemmas.proofs.Numbers.{equal_self}
use Rattle.common_lemmas.proofs.Truth.{not_true}

-- a local step, or an arrival
abbrev pub is_silent : Action → Bool
is_silent (Local t) = true
is_silent (Arrive t) = true
is_silent (Start c) = false
is_silent (Finish a) = false
is_silent (Else a) = false
is_silent (Delay a k) = false
is_silent (CallElse c) = false
is_silent (Expire c) = false
is_silent (Fail c) = false
is_silent (Complete a) = false
is_silent (Abort t) = false
is_silent End = false

module _ {L : Type 0} (p : Program L) where
  -- The action is this event, in a state.
  pub record IsEvent (s : State (ℕ → Seat L)) (action : Action) (e : Event) : Type 0 where
    pub event : event_of (numbered p) s action ≡ Some e
    pub seats : (after (numbered p) s action).seats ≡ acted (numbered p) s.seats e
    pub ended : (after (numbered p) s action).ended ≡ (is_last e || s.ended)
    pub holds : happens p (λ t. still_seat (s.seats t)) e ≡ true
    pub no_step : (t : ℕ) → is_step_of t action ≡ false

  -- the moves of one action
  pub record IsErasedStep (s : State (ℕ → Seat L)) (action : Action) : Type 0 where
    pub moves : List Move
    pub made : AreMoves p (world_of s) moves
    pub events : happened moves ≡ option_to_list (event_of (numbered p) s action)
    pub ends : world_after p (world_of s) moves ≡ world_of (after (numbered p) s action)
    pub counts : (count : ℕ → ℕ) → counts_after p (world_of s) moves count ≡ tallied (numbered p) s action count

  -- the call of an action that asks for the call's form, and for its owner's being closed
  record IsCallAt (form_test : CallForm → Bool) (closed_test : Bool → Bool) (s : State (ℕ → Seat L)) (o : Offer) : Type 0 where
    form : CallForm
    entry : ℕ
    index : ℤ
    is : o ≡ Calls form entry index
    form_passes : form_test form ≡ true
    owner_passes : closed_test (is_closed (s.seats (p.owner entry)).standing) ≡ true

  call_parts : (form_test : CallForm → Bool) (closed_test : Bool → Bool) (s : State (ℕ → Seat L)) (o : Offer) →
      calls_owner form_test closed_test p.owner (seen (numbered p) s) o ≡ true → IsCallAt form_test closed_test s o
  call_parts form_test closed_test s Nothing k = absurd (true≢false (sym k))
  call_parts form_test closed_test s (Calls form e i) k =
      record { form = form; entry = e; index = i; is = refl; form_passes = (split k).0; owner_passes = (split k).1 }
  call_parts form_test closed_test s (Waits choices) k = absurd (true≢false (sym k))
  call_parts form_test closed_test s Finishes k = absurd (true≢false (sym k))
  call_parts form_test closed_test s Ends k = absurd (true≢false (sym k))
  call_parts form_test closed_test s (Aborts x) k = absurd (true≢false (sym k))

  -- what a task that stands at such a call offers
  call_offers : (form_test : CallForm → Bool) (closed_test : Bool → Bool) (s : State (ℕ → Seat L)) (c : ℕ) →
      (k : IsCallAt form_test closed_test s (p.ops.offer (s.seats c).local)) → is_live (still (s.seats c).standing) ≡ true →
      offers p.ops (calls_in form_test k.entry k.index) (still_seat (s.seats c)) ≡ true
  call_offers form_test closed_test s c k free =
      both free (ap (calls_in form_test k.entry k.index) k.is ∙ both k.form_passes (same_member-refl k.entry k.index))

  -- ---- actions with an event

  start_applies : (s : State (ℕ → Seat L)) (c : ℕ) → starts p.ops p.owner (seen (numbered p) s) c (p.ops.offer (s.seats c).local) ≡ true →
      (e : Event) × IsEvent s (Start c) e
  start_applies s c h = go (p.ops.offer (s.seats c).local) refl h
    where
      free : (form : CallForm) (e : ℕ) (i : ℤ) →
          (is_first c (queue_of p.ops (seen (numbered p) s) e i) || ((is_live (s.seats c).standing && is_conditional form) && is_empty (queue_of p.ops (seen (numbered p) s) e i))) ≡ true →
          is_live (still (s.seats c).standing) ≡ true
      free form e i k = ⊎_elim
          (λ f. still_queued (s.seats c).standing (split (first_passes (queues_at p.ops (seen (numbered p) s) e i) c s.line f)).0)
          (λ f. still_live (s.seats c).standing (split (split f).0).0)
          (or_cases _ _ k)

      go : (o : Offer) → p.ops.offer (s.seats c).local ≡ o → starts p.ops p.owner (seen (numbered p) s) c o ≡ true → (e : Event) × IsEvent s (Start c) e
      go Nothing q k = absurd (true≢false (sym k))
      go (Calls form e i) q k = (
        R c e i,
        record {
          event = ap (call_event (λ f j. R c f j)) q;
          seats = ap (met (numbered p) s.seats c) q;
          ended = refl;
          holds = both
              (both (free form e i (split k).1) (ap (calls_in is_any_form e i) q ∙ same_member-refl e i))
              (both (still_waiting (s.seats (p.owner e)).standing (split (split k).0).0) (split (split k).0).1);
          no_step = λ t. refl;
        },
      )
      go (Waits choices) q k = absurd (true≢false (sym k))
      go Finishes q k = absurd (true≢false (sym k))
      go Ends q k = absurd (true≢false (sym k))
      go (Aborts x) q k = absurd (true≢false (sym k))

  else_applies : (s : State (ℕ → Seat L)) (c : ℕ) → action_applies p.ops p.owner (seen (numbered p) s) (CallElse c) ≡ true → (e : Event) × IsEvent s (CallElse c) e
  else_applies s c h =
      let k = call_parts is_conditional not s (p.ops.offer (s.seats c).local) (split (split h).1).0 in (
        C c k.entry k.index,
        record {
          event = ap (call_event (λ f j. C c f j)) k.is;
          seats = refl;
          ended = refl;
          holds = both (call_offers is_conditional not s c k (still_live (s.seats c).standing (split h).0))
              (ap not (still_closed (s.seats (p.owner k.entry)).standing) ∙ k.owner_passes);
          no_step = λ t. refl;
        },
      )

  expire_applies : (s : State (ℕ → Seat L)) (c : ℕ) → action_applies p.ops p.owner (seen (numbered p) s) (Expire c) ≡ true → (e : Event) × IsEvent s (Expire c) e
  expire_applies s c h =
      let k = call_parts is_timed not s (p.ops.offer (s.seats c).local) (split h).1 in (
        T c k.entry k.index,
        record {
          event = ap (call_event (λ f j. T c f j)) k.is;
          seats = refl;
          ended = refl;
          holds = both (call_offers is_timed not s c k (still_queued (s.seats c).standing (split h).0))
              (ap not (still_closed (s.seats (p.owner k.entry)).standing) ∙ k.owner_passes);
          no_step = λ t. refl;
        },
      )

  fail_applies : (s : State (ℕ → Seat L)) (c : ℕ) → action_applies p.ops p.owner (seen (numbered p) s) (Fail c) ≡ true → (e : Event) × IsEvent s (Fail c) e
  fail_applies s c h =
      let k = call_parts is_any_form same s (p.ops.offer (s.seats c).local) (split h).1 in
      let free : is_live (still (s.seats c).standing) ≡ true =
      ⊎_elim (still_live (s.seats c).standing) (still_queued (s.seats c).standing) (or_cases _ _ (split h).0) in (
        F c k.entry k.index,
        record {
          event = ap (call_event (λ f j. F c f j)) k.is;
          seats = refl;
          ended = refl;
          holds = both (call_offers is_any_form same s c k free)
              (still_closed (s.seats (p.owner k.entry)).standing ∙ k.owner_passes);
          no_step = λ t. refl;
        },
      )

  abort_applies : (s : State (ℕ → Seat L)) (t : ℕ) → action_applies p.ops p.owner (seen (numbered p) s) (Abort t) ≡ true → (e : Event) × IsEvent s (Abort t) e
  abort_applies s t h = go (p.ops.offer (s.seats t).local) refl (split h).1
    where
      go : (o : Offer) → p.ops.offer (s.seats t).local ≡ o → is_some (aborted_by o) ≡ true → (e : Event) × IsEvent s (Abort t) e
      go Nothing q k = absurd (true≢false (sym k))
      go (Calls form e i) q k = absurd (true≢false (sym k))
      go (Waits choices) q k = absurd (true≢false (sym k))
      go Finishes q k = absurd (true≢false (sym k))
      go Ends q k = absurd (true≢false (sym k))
      go (Aborts x) q k = (
        B t x,
        record {
          event = ap (λ o. abort_event t (aborted_by o)) q;
          seats = ap (λ o. (after_abort (numbered p) s t (aborted_by o)).seats) q;
          ended = ap (λ o. (after_abort (numbered p) s t (aborted_by o)).ended) q;
          holds = both (still_live (s.seats t).standing (split h).0) (ap (aborts x) q ∙ equal_self x);
          no_step = λ u. refl;
        },
      )

  others_apply : (s : State (ℕ → Seat L)) (n : ℕ) → others_can_end p.ops (seen (numbered p) s) n ≡ true → others_end p.ops (λ t. still_seat (s.seats t)) n ≡ true
  others_apply s zero h = refl
  others_apply s (suc n) h = both (others_apply s n (split h).0) (⊎_elim
      (λ k. or_left _ _ (still_completed (s.seats (suc n)).standing ∙ k))
      (λ k. or_right _ _ (both (still_waiting (s.seats (suc n)).standing (split k).0) (split k).1))
      (or_cases _ _ (split h).1))

  simple : (s : State (ℕ → Seat L)) (action : Action) (e : Event) →
      event_of (numbered p) s action ≡ Some e → (after (numbered p) s action).seats ≡ acted (numbered p) s.seats e →
      (after (numbered p) s action).ended ≡ (is_last e || s.ended) → happens p (λ t. still_seat (s.seats t)) e ≡ true →
      ((t : ℕ) → is_step_of t action ≡ false) → (e : Event) × IsEvent s action e
  simple s action e event seats ended holds no_step =
      (e, record { event = event; seats = seats; ended = ended; holds = holds; no_step = no_step })

  -- a local step and an arrival have no event
  silent_event : (s : State (ℕ → Seat L)) (action : Action) → is_silent action ≡ true → event_of (numbered p) s action ≡ None
  silent_event s (Local t) h = refl
  silent_event s (Arrive t) h = refl
  silent_event s (Start c) h = absurd (true≢false (sym h))
  silent_event s (Finish a) h = absurd (true≢false (sym h))
  silent_event s (Else a) h = absurd (true≢false (sym h))
  silent_event s (Delay a k) h = absurd (true≢false (sym h))
  silent_event s (CallElse c) h = absurd (true≢false (sym h))
  silent_event s (Expire c) h = absurd (true≢false (sym h))
  silent_event s (Fail c) h = absurd (true≢false (sym h))
  silent_event s (Complete a) h = absurd (true≢false (sym h))
  silent_event s (Abort t) h = absurd (true≢false (sym h))
  silent_event s End h = absurd (true≢false (sym h))

  -- ---- the moves of an action

  pub event_world : (s : State (ℕ → Seat L)) (action : Action) (e : Event) → IsEvent s action e →
      moved p (world_of s) (Happen e) ≡ world_of (after (numbered p) s action)
  event_world s action e k = λ i. record {
    tasks = (sym (still_acted p s.seats e) ∙ ap {B = ℕ → Seat L} (λ (w : ℕ → Seat L) t. still_seat (w t)) (sym k.seats)) i;
    ended = (sym k.ended) i;
  }

  pub event_counts : (s : State (ℕ → Seat L)) (action : Action) (e : Event) → IsEvent s action e → (count : ℕ → ℕ) →
      recount p (world_of s) (Happen e) count ≡ tallied (numbered p) s action count
  event_counts s action e k count = λ i t. (
      ap (λ b. if b then 0 else count t) (still_changes p s.seats e t) ∙
      (λ j. if is_changed p.ops p.owner s.seats ((sym k.event) j) t then 0 else (if (sym (k.no_step t)) j then suc (count t) else count t))) i

  event_step : (s : State (ℕ → Seat L)) (action : Action) → s.ended ≡ false → (e : Event) × IsEvent s action e → IsErasedStep s action
  event_step s action runs (e, k) = record {
    moves = Happen e ∷ [];
    made = (both (ap not runs) k.holds, tt);
    events = sym (ap option_to_list k.event);
    ends = event_world s action e k;
    counts = event_counts s action e k;
  }

  local_step : (s : State (ℕ → Seat L)) (t : ℕ) → can (numbered p) s (Local t) ≡ true → IsErasedStep s (Local t)
  local_step s t h = record {
    moves = Step t ∷ [];
    made = (both (split h).0 (both (still_live (s.seats t).standing (split (split h).1).0) (split (split h).1).1), tt);
    events = refl;
    ends = λ i. record { tasks = (sym (still_freed p p.ops.stepped s.seats t)) i; ended = s.ended };
    counts = λ count. refl;
  }

  arriving : (o : Offer) → still (arrived_standing o) ≡ Live
  arriving Nothing = refl
  arriving (Calls form e i) = refl
  arriving (Waits choices) = refl
  arriving Finishes = refl
  arriving Ends = refl
  arriving (Aborts x) = refl

  -- a task that stands otherwise, but is free as before
  pub free_still : (seats : ℕ → Seat L) (t : ℕ) (z : Standing) → still z ≡ still (seats t).standing →
      (u : ℕ) → still_seat (stand (numbered p).store seats t z u) ≡ still_seat (seats u)
  free_still seats t z e u = go (u == t) refl
    where
      go : (b : Bool) → (u == t) ≡ b → still_seat (if b then record { local = (seats t).local; standing = z } else seats u) ≡ still_seat (seats u)
      go true q = seat_path (ap (λ v. (seats v).local) (sym (eqb-true u t q))) (e ∙ ap (λ v. still (seats v).standing) (sym (eqb-true u t q)))
      go false q = refl

  pub arrive_world : (s : State (ℕ → Seat L)) (t : ℕ) → can (numbered p) s (Arrive t) ≡ true → world_of s ≡ world_of (after (numbered p) s (Arrive t))
  arrive_world s t h = λ i. record {
    tasks = λ u. (sym (free_still s.seats t (arrived_standing (p.ops.offer (s.seats t).local))
        (arriving (p.ops.offer (s.seats t).local) ∙ ap still (sym (is-Live (s.seats t).standing (split (split h).1).0))) u)) i;
    ended = s.ended;
  }

  arrive_step : (s : State (ℕ → Seat L)) (t : ℕ) → can (numbered p) s (Arrive t) ≡ true → IsErasedStep s (Arrive t)
  arrive_step s t h = record { moves = []; made = tt; events = refl; ends = arrive_world s t h; counts = λ count. refl }

  finish_applies : (s : State (ℕ → Seat L)) (a : ℕ) → action_applies p.ops p.owner (seen (numbered p) s) (Finish a) ≡ true → (e : Event) × IsEvent s (Finish a) e
  finish_applies s a h = simple s (Finish a) (E a) refl refl refl (both (still_live (s.seats a).standing (split h).0) (split h).1) (λ t. refl)

  take_else_applies : (s : State (ℕ → Seat L)) (a : ℕ) → action_applies p.ops p.owner (seen (numbered p) s) (Else a) ≡ true → (e : Event) × IsEvent s (Else a) e
  take_else_applies s a h =
      simple s (Else a) (S a) refl refl refl (both (still_waiting (s.seats a).standing (split h).0) (split (split h).1).0) (λ t. refl)

  delay_applies : (s : State (ℕ → Seat L)) (a k : ℕ) → action_applies p.ops p.owner (seen (numbered p) s) (Delay a k) ≡ true → (e : Event) × IsEvent s (Delay a k) e
  delay_applies s a k h =
      simple s (Delay a k) (D a k) refl refl refl (both (still_waiting (s.seats a).standing (split h).0) (split (split h).1).0) (λ t. refl)

  complete_applies : (s : State (ℕ → Seat L)) (a : ℕ) → action_applies p.ops p.owner (seen (numbered p) s) (Complete a) ≡ true → (e : Event) × IsEvent s (Complete a) e
  complete_applies s a h =
      let k = and_parts (not (a == 0)) _ h in
      let l = and_parts (is_live (s.seats a).standing) _ k.1 in
      simple s (Complete a) (X a) refl refl refl (both k.0 (both (still_live (s.seats a).standing l.0) l.1)) (λ t. refl)

  end_applies : (s : State (ℕ → Seat L)) → action_applies p.ops p.owner (seen (numbered p) s) End ≡ true → (e : Event) × IsEvent s End e
  end_applies s h =
      let k = and_parts (is_live (s.seats 0).standing) _ h in
      let l = and_parts (is_end (p.ops.offer (s.seats 0).local)) _ k.1 in
      simple s End Z refl refl refl (both (both (still_live (s.seats 0).standing k.0) l.0) (others_apply s (pred p.size) l.1)) (λ t. refl)

  -- each action but a local step and an arrival has an event
  pub event_or_silent : (s : State (ℕ → Seat L)) (action : Action) → action_applies p.ops p.owner (seen (numbered p) s) action ≡ true →
      ((e : Event) × IsEvent s action e) ⊎ (is_silent action ≡ true)
  event_or_silent s (Local t) h = inr refl
  event_or_silent s (Arrive t) h = inr refl
  event_or_silent s (Start c) h = inl (start_applies s c h)
  event_or_silent s (Finish a) h = inl (finish_applies s a h)
  event_or_silent s (Else a) h = inl (take_else_applies s a h)
  event_or_silent s (Delay a k) h = inl (delay_applies s a k h)
  event_or_silent s (CallElse c) h = inl (else_applies s c h)
  event_or_silent s (Expire c) h = inl (expire_applies s c h)
  event_or_silent s (Fail c) h = inl (fail_applies s c h)
  event_or_silent s (Complete a) h = inl (complete_applies s a h)
  event_or_silent s (Abort t) h = inl (abort_applies s t h)
  event_or_silent s End h = inl (end_applies s h)

  -- the events of the actions that have one
  pub event_applies : (s : State (ℕ → Seat L)) (action : Action) (e : Event) → can (numbered p) s action ≡ true → event_of (numbered p) s action ≡ Some e →
      IsEvent s action e
  event_applies s action e h q = ⊎_elim the_same (λ k. absurd (none_some (sym (silent_event s action k) ∙ q))) (event_or_silent s action (split h).1)
    where
      the_same : (f : Event) × IsEvent s action f → IsEvent s action e
      the_same (f, k) = let r : f ≡ e = some_path (sym k.event ∙ q) in subst (IsEvent s action) r k

  pub erased_step : (s : State (ℕ → Seat L)) (action : Action) → can (numbered p) s action ≡ true → IsErasedStep s action
  erased_step s (Local t) h = local_step s t h
  erased_step s (Arrive t) h = arrive_step s t h
  erased_step s (Start c) h = event_step s (Start c) (not_true _ (split h).0) (start_applies s c (split h).1)
  erased_step s (Finish a) h = event_step s (Finish a) (not_true _ (split h).0) (finish_applies s a (split h).1)
  erased_step s (Else a) h = event_step s (Else a) (not_true _ (split h).0) (take_else_applies s a (split h).1)
  erased_step s (Delay a k) h = event_step s (Delay a k) (not_true _ (split h).0) (delay_applies s a k (split h).1)
  erased_step s (CallElse c) h = event_step s (CallElse c) (not_true _ (split h).0) (else_applies s c (split h).1)
  erased_step s (Expire c) h = event_step s (Expire c) (not_true _ (split h).0) (expire_applies s c (split h).1)
  erased_step s (Fail c) h = event_step s (Fail c) (not_true _ (split h).0) (fail_applies s c (split h).1)
  erased_step s (Complete a) h = event_step s (Complete a) (not_true _ (split h).0) (complete_applies s a (split h).1)
  erased_step s (Abort t) h = event_step s (Abort t) (not_true _ (split h).0) (abort_applies s t (split h).1)
  erased_step s End h = event_step s End (not_true _ (split h).0) (end_applies s (split h).1)

  -- ---- the moves of a run

  pub erasing : Erasing p
  erasing s [] h = record { moves = []; made = tt; events = refl; ends = refl; counts = λ count. refl }
  erasing s (action ∷ actions) h = go (erased_step s action h.0) (erasing (after (numbered p) s action) actions h.1)
    where
      go : IsErasedStep s action → IsErased p (after (numbered p) s action) actions → IsErased p s (action ∷ actions)
      go k r = record {
        moves = k.moves ++ r.moves;
        made = moves_append p (world_of s) k.moves r.moves k.made (subst (λ w. AreMoves p w r.moves) (sym k.ends) r.made);
        events = happened_append k.moves r.moves ∙ ap₂ (λ xs ys. xs ++ ys) k.events r.events;
        ends = world_append p (world_of s) k.moves r.moves ∙ ap (λ w. world_after p w r.moves) k.ends ∙ r.ends;
        counts = λ count.
            counts_append p (world_of s) k.moves r.moves count ∙
            ap₂ (λ w c. counts_after p w r.moves c) k.ends (k.counts count) ∙
            r.counts (tallied (numbered p) s action count);
      }
