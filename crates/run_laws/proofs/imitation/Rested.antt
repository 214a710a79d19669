-- Tasks at rest: past the last task nobody lives, where a program has ended its tasks rest, and a quiet end leaves no free task with a local step.
use Rattle.std.proofs.Common.{◌≡◌, ℕ, ◌<◌, Bool, true, false, not, ◌&&◌, ◌==◌, if◌then◌else◌, List, [], ◌∷◌, refl, sym, ap, ◌∙◌, ⊎_elim, true≢false, arith}
use Rattle.std.specs.Prelude.{pred}
use Rattle.std.proofs.lemmas.Bool.{eqb-true, and_parts, le-leb}
use Rattle.event_machine.specs.declared.Standing.TheVariants.{Live}
use Rattle.event_machine.specs.declared.Event.TheVariants.{R, E, S, D, C, T, F, X, B, Z}
use Rattle.event_machine.specs.Offers.{Nothing}
use Rattle.event_machine.specs.States.{Seat, live, is_live, is_completed}
use Rattle.event_machine.specs.Programs.{Program}
use Rattle.event_machine.specs.Queues.{IsSuited}
use Rattle.event_machine.specs.Laws.{IsQuiet}
use Rattle.event_machine.specs.Worlds.{World, Move, Step, Happen, still, can_move, moved, happens, AreMoves, world_after}
use Rattle.event_machine.proofs.Standings.{is-Live}
use Rattle.event_machine.proofs.Agreeing.{happens_free}
use Rattle.event_machine.proofs.Effected.{unchanged}
use Rattle.event_machine.proofs.Following.{serving}
use Rattle.event_machine.proofs.Killing.{completed_stays}
use Rattle.event_machine.proofs.Queues.{suited_patient}
use Rattle.run_laws.specs.imitation.Imitations.{Original, IsComeTo}
use Rattle.run_laws.proofs.imitation.Following.{IsOver, come_on}

module _ (x : Original) where
  pub over_on : (w : World x.L) (move : Move) → IsComeTo x w → IsOver x w → can_move x.p w move ≡ true → IsOver x (moved x.p w move)
  over_on w (Step t) come over h u l = go (u == t) refl
    where
      parts : (not w.ended ≡ true) × ((is_live (w.tasks t).standing && x.p.ops.can_step (w.tasks t).local) ≡ true)
      parts = and_parts (not w.ended) (is_live (w.tasks t).standing && x.p.ops.can_step (w.tasks t).local) h

      free : (w.tasks t).standing ≡ Live
      free = is-Live (w.tasks t).standing (and_parts (is_live (w.tasks t).standing) (x.p.ops.can_step (w.tasks t).local) parts.1).0

      go : (b : Bool) → (u == t) ≡ b → is_completed (if b then live (x.p.ops.stepped (w.tasks t).local) else w.tasks u).standing ≡ true
      go true q = absurd (true≢false (sym (over u l) ∙ ap (λ v. is_completed (w.tasks v).standing) (eqb-true u t q) ∙ ap is_completed free))
      go false q = over u l
  over_on w (Happen e) come over h u l =
      ap (λ (y : Seat x.L). is_completed y.standing)
      (unchanged x.p e w.tasks u (completed_stays x.p e w.tasks (and_parts (not w.ended) (happens x.p w.tasks e) h).1 (serving x.p x.IsProper w.tasks come.sound) u (over u l))) ∙
      over u l

  pub over_after : (moves : List Move) (w : World x.L) → IsComeTo x w → IsOver x w → AreMoves x.p w moves → IsOver x (world_after x.p w moves)
  over_after [] w come over h = over
  over_after (move ∷ moves) w come over h = over_after moves (moved x.p w move) (come_on x w move come h.0) (over_on w move come over h.0) h.1

module _ {L : Type 0} (p : Program L) (rests : (l : L) → p.ops.can_step l ≡ true → p.ops.offer l ≡ Nothing) where
  -- at the end of the program each free task rests
  at_end : (tasks : ℕ → Seat L) → happens p tasks Z ≡ true → (t : ℕ) → t < p.size → (tasks t).standing ≡ Live → p.ops.can_step (tasks t).local ≡ false
  at_end tasks h t l free = go (p.ops.can_step (tasks t).local) refl
    where
      go : (b : Bool) → p.ops.can_step (tasks t).local ≡ b → p.ops.can_step (tasks t).local ≡ false
      go true q =
          let (test, none, some') = happens_free p Z tasks h t (le-leb t (pred p.size) (omega (arith, l))) free in
          absurd (true≢false (sym some' ∙ ap test (rests (tasks t).local q) ∙ none))
      go false q = q

  -- Where the program has ended its tasks rest.
  pub rests_over : (moves : List Move) (d : World L) → AreMoves p d moves → d.ended ≡ false → (world_after p d moves).ended ≡ true → (t : ℕ) → t < p.size →
      ((world_after p d moves).tasks t).standing ≡ Live → p.ops.can_step ((world_after p d moves).tasks t).local ≡ false
  rests_over [] d h runs over t m free = absurd (true≢false (sym over ∙ runs))
  rests_over (Step u ∷ moves) d h runs over t m free = rests_over moves (moved p d (Step u)) h.1 runs over t m free
  rests_over (Happen (R c e i) ∷ moves) d h runs over t m free = rests_over moves (moved p d (Happen (R c e i))) h.1 runs over t m free
  rests_over (Happen (E a) ∷ moves) d h runs over t m free = rests_over moves (moved p d (Happen (E a))) h.1 runs over t m free
  rests_over (Happen (S a) ∷ moves) d h runs over t m free = rests_over moves (moved p d (Happen (S a))) h.1 runs over t m free
  rests_over (Happen (D a k) ∷ moves) d h runs over t m free = rests_over moves (moved p d (Happen (D a k))) h.1 runs over t m free
  rests_over (Happen (C c e i) ∷ moves) d h runs over t m free = rests_over moves (moved p d (Happen (C c e i))) h.1 runs over t m free
  rests_over (Happen (T c e i) ∷ moves) d h runs over t m free = rests_over moves (moved p d (Happen (T c e i))) h.1 runs over t m free
  rests_over (Happen (F c e i) ∷ moves) d h runs over t m free = rests_over moves (moved p d (Happen (F c e i))) h.1 runs over t m free
  rests_over (Happen (X a) ∷ moves) d h runs over t m free = rests_over moves (moved p d (Happen (X a))) h.1 runs over t m free
  rests_over (Happen (B u v) ∷ moves) d h runs over t m free = rests_over moves (moved p d (Happen (B u v))) h.1 runs over t m free
  rests_over (Happen Z ∷ []) d h runs over t m free = at_end d.tasks (and_parts (not d.ended) (happens p d.tasks Z) h.0).1 t m free
  rests_over (Happen Z ∷ (Step u ∷ moves)) d h runs over t m free = absurd (true≢false (sym h.1.0))
  rests_over (Happen Z ∷ (Happen e ∷ moves)) d h runs over t m free = absurd (true≢false (sym h.1.0))

  -- Where the live tasks rest each free one does: who waits or is queued has an offer.
  pub quiet_rests : (tasks : ℕ → Seat L) → IsSuited p.ops tasks → IsQuiet p.ops tasks → (t : ℕ) → still (tasks t).standing ≡ Live → p.ops.can_step (tasks t).local ≡ false
  quiet_rests tasks suited quiet t free = ⊎_elim (λ q. quiet t (ap is_live (sym q ∙ free))) (λ q. q) (suited_patient p rests (tasks t) (suited t))
