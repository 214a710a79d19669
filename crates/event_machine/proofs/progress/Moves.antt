-- What is known goes with the moves of the machine without queues.
use Rattle.std.proofs.Common.{◌≡◌, ℕ, true, false, not, ◌&&◌, ◌||◌, List, [], ◌∷◌, ◌++◌, refl, ap, ◌∙◌, subst}
use Rattle.std.proofs.lemmas.Bool.{and_parts}
use Rattle.event_machine.specs.declared.Event.{Event}
use Rattle.event_machine.specs.States.{is_live, is_closed}
use Rattle.event_machine.specs.Lawful.{IsLawful}
use Rattle.event_machine.specs.Programs.{Program}
use Rattle.event_machine.specs.Worlds.{World, Move, Step, Happen, moved, AreMoves, world_after, happened, happens, is_last}
use Rattle.event_machine.specs.Soundness.{IsSound}
use Rattle.event_machine.proofs.Standings.{is-Live}
use Rattle.event_machine.proofs.Sound.{sound_moved}
use Rattle.event_machine.specs.progress.Known.{Known, advanced, known_from}
use Rattle.event_machine.proofs.progress.Parties.{advanced_ended}
use Rattle.event_machine.proofs.progress.Telling.{Tells, tells_freed, tells_acted}
use Rattle.common_lemmas.proofs.Truth.{not_true}

-- what is known after the events, and one more
pub known_last : (owner : ℕ → ℕ) (k : Known) (events : List Event) (e : Event) → known_from owner k (events ++ e ∷ []) ≡ advanced owner (known_from owner k events) e
known_last owner k [] e = refl
known_last owner k (d ∷ events) e = known_last owner (advanced owner k d) events e

module _ {L : Type 0} (p : Program L) (IsProper : L → Type 0) (lawful : IsLawful p.ops IsProper) where
  -- What is known of a world.
  pub record Knows (k : Known) (w : World L) : Type 0 where
    pub sound : IsSound p.ops IsProper w.tasks
    pub tells : Tells p.ops k w.tasks
    pub ended : k.ended ≡ w.ended

  pub knows_moves : (moves : List Move) (k : Known) (w : World L) → Knows k w → AreMoves p w moves → Knows (known_from p.owner k (happened moves)) (world_after p w moves)
  knows_moves [] k w knows h = knows
  knows_moves (Step t ∷ moves) k w knows h = knows_moves moves k (moved p w (Step t)) after_step h.1
    where
      more : (is_live (w.tasks t).standing ≡ true) × (p.ops.can_step (w.tasks t).local ≡ true)
      more = and_parts (is_live (w.tasks t).standing) (p.ops.can_step (w.tasks t).local) (and_parts (not w.ended) (is_live (w.tasks t).standing && p.ops.can_step (w.tasks t).local) h.0).1

      after_step : Knows k (moved p w (Step t))
      after_step = record {
        sound = sound_moved p IsProper lawful w (Step t) knows.sound h.0;
        tells = tells_freed p IsProper lawful k w.tasks knows.sound knows.tells p.ops.stepped t (is-Live (w.tasks t).standing more.0)
            (lawful.stepped (w.tasks t).local (knows.sound.proper t (ap is_closed (is-Live (w.tasks t).standing more.0))) more.1).1;
        ended = knows.ended;
      }
  knows_moves (Happen e ∷ moves) k w knows h = knows_moves moves (advanced p.owner k e) (moved p w (Happen e)) (record {
    sound = sound_moved p IsProper lawful w (Happen e) knows.sound h.0;
    tells = tells_acted p IsProper lawful k w.tasks knows.sound knows.tells e (and_parts (not w.ended) (happens p w.tasks e) h.0).1;
    ended = advanced_ended p.owner k e ∙ ap (λ b. is_last e || b) knows.ended;
  }) h.1

  -- Moves with one event more than these lead over a world in which it can happen.
  pub record Comes (w : World L) (events : List Event) (e : Event) : Type 0 where
    pub moves : List Move
    pub made : AreMoves p w moves
    pub before : happened moves ≡ events
    pub runs : (world_after p w moves).ended ≡ false
    pub holds : happens p (world_after p w moves).tasks e ≡ true

  pub last_comes : (moves : List Move) (w : World L) (events : List Event) (e : Event) → AreMoves p w moves → happened moves ≡ events ++ e ∷ [] → Comes w events e
  last_comes [] w [] e h q = absurd (let k : ◌≡◌ {A = List Event} [] (e ∷ []) = q in cc)
  last_comes [] w (d ∷ events) e h q = absurd (let k : ◌≡◌ {A = List Event} [] (d ∷ (events ++ e ∷ [])) = q in cc)
  last_comes (Step t ∷ moves) w events e h q =
      let r = last_comes moves (moved p w (Step t)) events e h.1 q in
      record { moves = Step t ∷ r.moves; made = (h.0, r.made); before = r.before; runs = r.runs; holds = r.holds }
  last_comes (Happen d ∷ moves) w [] e h q =
      let parts = and_parts (not w.ended) (happens p w.tasks d) h.0 in
      record { moves = []; made = tt; before = refl; runs = not_true w.ended parts.0; holds = subst (λ f. happens p w.tasks f ≡ true) (head_is q) parts.1 }
    where
      head_is : d ∷ happened moves ≡ e ∷ [] → d ≡ e
      head_is k = cc
  last_comes (Happen d ∷ moves) w (f ∷ events) e h q =
      let r = last_comes moves (moved p w (Happen d)) events e h.1 (tail_is q) in
      record { moves = Happen d ∷ r.moves; made = (h.0, r.made); before = both_are (head_is q) r.before; runs = r.runs; holds = r.holds }
    where
      head_is : d ∷ happened moves ≡ f ∷ (events ++ e ∷ []) → d ≡ f
      head_is k = cc

      tail_is : d ∷ happened moves ≡ f ∷ (events ++ e ∷ []) → happened moves ≡ events ++ e ∷ []
      tail_is k = cc

      both_are : {xs ys : List Event} → d ≡ f → xs ≡ ys → d ∷ xs ≡ f ∷ ys
      both_are r s = λ i. r i ∷ s i
