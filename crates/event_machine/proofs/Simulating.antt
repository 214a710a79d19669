-- Each action of the table is nothing, one local step or one event of the bases, and each event of the bases is a short run of the table.
use Rattle.std.proofs.Common.{◌≡◌, ℕ, true, false, not, ◌||◌, if◌then◌else◌, [], ◌∷◌, Option, MatchOption, refl, sym, ap, ◌∙◌, subst, ⊎_elim, true≢false}
use Rattle.event_machine.specs.declared.Standing.{Standing}
use Rattle.event_machine.specs.declared.Standing.TheVariants.{Live, Waiting, Queued, Served, Completed, Killed}
use Rattle.event_machine.specs.declared.Action.{Action}
use Rattle.event_machine.specs.declared.Action.TheVariants.{Local, Arrive, Start, Finish, Else, Delay, CallElse, Expire, Fail, Complete, Abort, End}
use Rattle.event_machine.specs.declared.Event.{Event}
use Rattle.event_machine.specs.States.{Seat, State}
use Rattle.event_machine.specs.Lawful.{IsLawful}
use Rattle.event_machine.specs.Applying.{can}
use Rattle.event_machine.specs.Effects.{after, event_of}
use Rattle.event_machine.specs.Runs.{end_of}
use Rattle.event_machine.specs.Programs.{Program, numbered}
use Rattle.event_machine.specs.Worlds.{World, Step, Happen, still, still_seat, world_of, state_of, is_last, moved, world_after, recount}
use Rattle.event_machine.specs.Settling.{ran, Fires, CountsFor, IsRunOn, Follows}
use Rattle.event_machine.specs.Soundness.{IsSound}
use Rattle.event_machine.specs.Tallies.{tallied, tallies}
use Rattle.event_machine.specs.Laws.{Forward, Backward, IsLifted}
use Rattle.event_machine.proofs.Basics.{both, split, seat_path}
use Rattle.event_machine.proofs.Stills.{still_closed, still_served_by, still_freed}
use Rattle.event_machine.proofs.Standings.{still_live}
use Rattle.event_machine.proofs.Erasing.{IsEvent, event_or_silent, is_silent, event_world, event_counts, arrive_world}
use Rattle.event_machine.proofs.Lifting.{lifting}
use Rattle.event_machine.proofs.Following.{follow_step, follow_event}
use Rattle.event_machine.proofs.Walking.{follows_self}
use Rattle.event_machine.proofs.Bases.{IsBase, base_fires}
use Rattle.event_machine.proofs.Returning.{Return, lead_back}

module _ {L : Type 0} (p : Program L) (IsProper : L → Type 0) (lawful : IsLawful p.ops IsProper) where
  -- ---- forward

  -- what is served does not hang on who waits
  pub sound_still : (seats : ℕ → Seat L) → IsSound p.ops IsProper seats → IsSound p.ops IsProper (λ t. still_seat (seats t))
  sound_still seats sound = record {
    closed = λ a c k. still_served_by a (seats c).standing ∙ sound.closed a c (sym (still_closed (seats a).standing) ∙ k);
    callers = λ a c k. sound.callers a c (sym (still_closed (seats a).standing) ∙ k) ∙ ap (λ b. if b then 1 else 0) (sym (still_served_by a (seats c).standing));
    itself = λ a. still_served_by a (seats a).standing ∙ sound.itself a;
    proper = λ a k. sound.proper a (sym (still_closed (seats a).standing) ∙ k);
  }

  -- what the action does to the bases
  abbrev Leaves : State (ℕ → Seat L) → World L → (ℕ → ℕ) → Action → Option Event → Type 0
  Leaves s bases tally action event = MatchOption event
      (Follows p bases (world_of (after (numbered p) s action)) (tallied (numbered p) s action tally))
      (λ e. (next : World L) × Fires p bases e next × Follows p next (world_of (after (numbered p) s action)) (tallied (numbered p) s action tally))

  forward_event : (s : State (ℕ → Seat L)) (bases : World L) (tally : ℕ → ℕ) (action : Action) → IsSound p.ops IsProper s.seats → Follows p bases (world_of s) tally →
      can (numbered p) s action ≡ true → (e : Event) → IsEvent p s action e → Leaves s bases tally action (event_of (numbered p) s action)
  forward_event s bases tally action sound f h e k =
      let (next, fires, follows) = follow_event p IsProper lawful bases (world_of s) tally e f (sound_still s.seats sound) (both (split h).0 k.holds) in
      subst (Leaves s bases tally action) (sym k.event) (
        next,
        fires,
        subst (λ w. Follows p next w (tallied (numbered p) s action tally)) (event_world p s action e k)
            (subst (Follows p next (moved p (world_of s) (Happen e))) (event_counts p s action e k tally) follows),
      )

  forward_silent : (s : State (ℕ → Seat L)) (bases : World L) (tally : ℕ → ℕ) (action : Action) → Follows p bases (world_of s) tally → can (numbered p) s action ≡ true →
      is_silent action ≡ true → Leaves s bases tally action (event_of (numbered p) s action)
  forward_silent s bases tally (Local t) f h k =
      subst (λ w. Follows p bases w (recount p (world_of s) (Step t) tally)) (λ i. record { tasks = (sym (still_freed p p.ops.stepped s.seats t)) i; ended = s.ended })
      (follow_step p bases (world_of s) tally t f (both (split h).0 (both (still_live (s.seats t).standing (split (split h).1).0) (split (split h).1).1)))
  forward_silent s bases tally (Arrive t) f h k = subst (λ w. Follows p bases w tally) (arrive_world p s t h) f
  forward_silent s bases tally (Start c) f h k = absurd (true≢false (sym k))
  forward_silent s bases tally (Finish a) f h k = absurd (true≢false (sym k))
  forward_silent s bases tally (Else a) f h k = absurd (true≢false (sym k))
  forward_silent s bases tally (Delay a j) f h k = absurd (true≢false (sym k))
  forward_silent s bases tally (CallElse c) f h k = absurd (true≢false (sym k))
  forward_silent s bases tally (Expire c) f h k = absurd (true≢false (sym k))
  forward_silent s bases tally (Fail c) f h k = absurd (true≢false (sym k))
  forward_silent s bases tally (Complete a) f h k = absurd (true≢false (sym k))
  forward_silent s bases tally (Abort t) f h k = absurd (true≢false (sym k))
  forward_silent s bases tally End f h k = absurd (true≢false (sym k))

  pub forward : Forward p IsProper
  forward s bases tally action sound f h = ⊎_elim
      (λ k. forward_event s bases tally action sound f h k.0 k.1)
      (λ k. forward_silent s bases tally action f h k)
      (event_or_silent p s action (split h).1)

  -- ---- backward

  -- a task that stands at its base is its base
  at_base : (base seat : Seat L) → IsRunOn p.ops base 0 seat → (base.standing ≡ Killed → seat.local ≡ base.local) → still base.standing ≡ base.standing → seat ≡ base
  at_base base seat r killed still' = seat_path (go base.standing refl) r.standing
    where
      steps : CountsFor base.standing 0 r.steps → (z : Standing) → base.standing ≡ z → CountsFor z 0 r.steps
      steps c z e = subst (λ y. CountsFor y 0 r.steps) e c

      go : (z : Standing) → base.standing ≡ z → seat.local ≡ base.local
      go Live e = r.local ∙ ap (λ n. ran p.ops n base.local) (steps r.counted Live e)
      go Waiting e = r.local ∙ ap (λ n. ran p.ops n base.local) (steps r.counted Waiting e)
      go Queued e = r.local ∙ ap (λ n. ran p.ops n base.local) (steps r.counted Queued e)
      go (Served by abnormal) e = r.local ∙ ap (λ n. ran p.ops n base.local) (steps r.counted (Served by abnormal) e)
      go Completed e = r.local ∙ ap (λ n. ran p.ops n base.local) (steps r.counted Completed e)
      go Killed e = killed e

  pub backward : Backward p IsProper
  backward w next e still' sound beyond f =
      let none : ℕ → ℕ = λ t. 0 in
      let base : IsBase p IsProper lawful w = record { sound = sound; still' = still'; beyond = beyond } in
      let r : Return p IsProper lawful none w next (e ∷ []) =
      lead_back p IsProper lawful none (e ∷ []) w next w (next, f, refl) ((λ t k l. tt), tt) base (follows_self p w) sound (λ t k. refl) in
      let l : IsLifted p w r.moves = lifting p w r.moves still' r.made in
      record {
        actions = l.actions;
        applies = l.applies;
        events = l.events ∙ r.events_are;
        follows = subst (λ v. Follows p next v (tallies (numbered p) (state_of w) l.actions none)) (sym l.world)
            (subst (Follows p next (world_after p w r.moves)) (sym (l.counts none)) r.follows);
        exact = λ more. exact base r l more;
      }
    where
      exact : (base : IsBase p IsProper lawful w) (r : Return p IsProper lawful (λ t. 0) w next (e ∷ [])) (l : IsLifted p w r.moves) → is_last e ≡ false →
          end_of (numbered p) (state_of w) l.actions ≡ state_of next
      exact base r l more = l.exact ended ∙ ap state_of (λ i. record { tasks = same_tasks i; ended = r.follows.ended i })
        where
          ended : (world_after p w r.moves).ended ≡ false
          ended = r.follows.ended ∙ ap (λ (v : World L). v.ended) f.becomes ∙ ap (λ b. b || w.ended) more ∙ f.runs

          same_tasks : (world_after p w r.moves).tasks ≡ next.tasks
          same_tasks = λ i t. at_base (next.tasks t) ((world_after p w r.moves).tasks t)
              (subst (λ n. IsRunOn p.ops (next.tasks t) n ((world_after p w r.moves).tasks t)) (r.zero_counts (both (ap not more) refl) t) (r.follows.each t))
              (λ k. r.numbers t k) ((base_fires p IsProper lawful f base).still' t) i
