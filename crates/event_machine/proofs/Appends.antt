-- Runs and moves one after the other.
use Rattle.std.proofs.Common.{◌≡◌, ℕ, List, [], ◌∷◌, ◌++◌, option_to_list, refl, sym, ap, ◌∙◌, append_assoc}
use Rattle.event_machine.specs.declared.Action.{Action}
use Rattle.event_machine.specs.States.{State, Rules}
use Rattle.event_machine.specs.Effects.{after, event_of}
use Rattle.event_machine.specs.Runs.{IsRun, end_of, events_of}
use Rattle.event_machine.specs.Programs.{Program}
use Rattle.event_machine.specs.Worlds.{World, Move, Step, Happen, moved, AreMoves, world_after, happened, counts_after, recount}
use Rattle.event_machine.specs.Tallies.{tallies, tallied}

-- ---- runs

module _ {L C : Type 0} (rules : Rules L C) where
  pub run_append : (s : State C) (xs ys : List Action) → IsRun rules s xs → IsRun rules (end_of rules s xs) ys → IsRun rules s (xs ++ ys)
  run_append s [] ys h k = k
  run_append s (x ∷ xs) ys h k = (h.0, run_append (after rules s x) xs ys h.1 k)

  pub end_append : (s : State C) (xs ys : List Action) → end_of rules s (xs ++ ys) ≡ end_of rules (end_of rules s xs) ys
  end_append s [] ys = refl
  end_append s (x ∷ xs) ys = end_append (after rules s x) xs ys

  pub events_append : (s : State C) (xs ys : List Action) → events_of rules s (xs ++ ys) ≡ events_of rules s xs ++ events_of rules (end_of rules s xs) ys
  events_append s [] ys = refl
  events_append s (x ∷ xs) ys =
      ap (λ es. option_to_list (event_of rules s x) ++ es) (events_append (after rules s x) xs ys) ∙
      sym (append_assoc (option_to_list (event_of rules s x)) (events_of rules (after rules s x) xs) (events_of rules (end_of rules (after rules s x) xs) ys))

  pub tallies_append : (s : State C) (xs ys : List Action) (tally : ℕ → ℕ) →
      tallies rules s (xs ++ ys) tally ≡ tallies rules (end_of rules s xs) ys (tallies rules s xs tally)
  tallies_append s [] ys tally = refl
  tallies_append s (x ∷ xs) ys tally = tallies_append (after rules s x) xs ys (tallied rules s x tally)

-- ---- moves

pub happened_append : (xs ys : List Move) → happened (xs ++ ys) ≡ happened xs ++ happened ys
happened_append [] ys = refl
happened_append (Step t ∷ xs) ys = happened_append xs ys
happened_append (Happen e ∷ xs) ys = ap (λ es. e ∷ es) (happened_append xs ys)

module _ {L : Type 0} (p : Program L) where
  pub moves_append : (w : World L) (xs ys : List Move) → AreMoves p w xs → AreMoves p (world_after p w xs) ys → AreMoves p w (xs ++ ys)
  moves_append w [] ys h k = k
  moves_append w (x ∷ xs) ys h k = (h.0, moves_append (moved p w x) xs ys h.1 k)

  pub world_append : (w : World L) (xs ys : List Move) → world_after p w (xs ++ ys) ≡ world_after p (world_after p w xs) ys
  world_append w [] ys = refl
  world_append w (x ∷ xs) ys = world_append (moved p w x) xs ys

  pub counts_append : (w : World L) (xs ys : List Move) (count : ℕ → ℕ) →
      counts_after p w (xs ++ ys) count ≡ counts_after p (world_after p w xs) ys (counts_after p w xs count)
  counts_append w [] ys count = refl
  counts_append w (x ∷ xs) ys count = counts_append (moved p w x) xs ys (recount p w x count)
