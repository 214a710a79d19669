-- What stands in front of feasible events is feasible.
use Rattle.std.proofs.Common.{◌≡◌, true, List, [], ◌∷◌, ◌++◌, Option, Some, None, refl, ap, ◌∙◌}
use Rattle.std.specs.Prelude.{option_to_list}
use Rattle.event_machine.specs.declared.Action.{Action}
use Rattle.event_machine.specs.declared.Event.{Event}
use Rattle.event_machine.specs.States.{Rules, State}
use Rattle.event_machine.specs.Applying.{can}
use Rattle.event_machine.specs.Effects.{after, event_of}
use Rattle.event_machine.specs.Runs.{Feasible, IsRun, events_of}

-- lists that are the same have the same first member, and the same others
same_first : {A : Type 0} (x y : A) (xs ys : List A) → x ∷ xs ≡ y ∷ ys → (x ≡ y) × (xs ≡ ys)
same_first x y xs ys e = (cc, cc)

module _ {L C : Type 0} (rules : Rules L C) where
  -- an action in front of such a run
  one_more : (s : State C) (action : Action) (later : List Event) (xs ys : List Event) (x : Event) (o : Option Event) → event_of rules s action ≡ o → can rules s action ≡ true →
      ((zs : List Event) → later ≡ zs ++ ys → Feasible rules (after rules s action) zs) → option_to_list o ++ later ≡ x ∷ (xs ++ ys) → Feasible rules s (x ∷ xs)
  one_more s action later xs ys x None e applies rest is =
      let (actions, run, events) = rest (x ∷ xs) is in (action ∷ actions, (applies, run), ap (λ o. option_to_list o ++ events_of rules (after rules s action) actions) e ∙ events)
  one_more s action later xs ys x (Some y) e applies rest is =
      let (first, others) = same_first y x later (xs ++ ys) is in
      let (actions, run, events) = rest xs others in (action ∷ actions, (applies, run), ap (λ o. option_to_list o ++ events_of rules (after rules s action) actions) e ∙ (λ i. first i ∷ events i))

  front_run : (actions : List Action) (s : State C) (xs ys : List Event) → IsRun rules s actions → events_of rules s actions ≡ xs ++ ys → Feasible rules s xs
  front_run actions s [] ys run is = ([], tt, refl)
  front_run [] s (x ∷ xs) ys run is = absurd (differ is)
    where
      differ : (let none : List Event = [] in none) ≡ x ∷ (xs ++ ys) → ⊥
      differ e = cc
  front_run (action ∷ actions) s (x ∷ xs) ys run is =
      one_more s action (events_of rules (after rules s action) actions) xs ys x (event_of rules s action) refl run.0
      (λ zs same. front_run actions (after rules s action) zs ys run.1 same) is

  pub front_feasible : (s : State C) (events xs ys : List Event) → events ≡ xs ++ ys → Feasible rules s events → Feasible rules s xs
  front_feasible s events xs ys split h = front_run h.0 s xs ys h.1 (h.2 ∙ split)
