-- The first event that breaks a constraint stands at its place.
use Rattle.std.proofs.Common.{◌≡◌, ℕ, ℤ, List, Option, Some, option_map, sym, subst}
use Rattle.event_machine.specs.declared.Event.{Event}
use Rattle.syn_constraint.specs.declared.constraints.Constraint.{Constraint}
use Rattle.syn_constraint.specs.declared.constraints.Constraint.TheVariants.{Before, Most}
use Rattle.syn_constraint.specs.Breaking.{event_at, BreaksWith, IsFirstBreak}
use Rattle.debug_sequence.specs.RequireOutcomes.{IsFirstBroken}
use Rattle.debug_sequence.specs.inner.Placing.{broken_with, broken_at}

-- an event that breaks a constraint is there
there : (constraint : Constraint) (events : List Event) (value : Option ℤ) (k : ℕ) → BreaksWith constraint events value k → (event : Event) × (event_at events k ≡ Some event)
there (Before early late) events value k h = (h.comes.event, h.comes.there)
there (Most limit counted opens closes) events value k h = (h.counts.event, h.counts.there)

pub first_placed : (events : List Event) (constraint : Constraint) (k : ℕ) → IsFirstBreak constraint events (Some k) → IsFirstBroken events constraint (broken_at events k)
first_placed events constraint k first =
    let (value, among, breaks) = first.0 in
    let (event, at) = there constraint events value k breaks in
    subst (λ (o : Option Event). IsFirstBroken events constraint (option_map (broken_with k) o)) (sym at) (first, at)
