-- The first task that runs a body, found by the names of bodies.
use Rattle.std.proofs.Common.{◌≡◌, ◌==◌, ◌+◌, Bool, cond, nat_lt, List, [], ◌∷◌, map, not, Some, None, position, refl, ap, ◌∙◌}
use Rattle.std.specs.List.{prefix_len}
use Rattle.std.proofs.lemmas.List.{length-map}
use Rattle.ada_tree.specs.declared.naming.NameId.{NameId}
use Rattle.syn_event.specs.Numbering.{Numbering, task_named}
use Rattle.replay_declarations.specs.units.inner.UnderUnits.{under_unit, by_units}

front-map : {X Y : Type 0} (f : X → Y) (p : Y → Bool) (xs : List X) → prefix_len p (map f xs) ≡ prefix_len (λ x. p (f x)) xs
front-map f p [] = refl
front-map f p (x ∷ xs) = ap (λ n. cond (p (f x)) (1 + n) 0) (front-map f p xs)

-- what is found in a list that goes through a function
pub position-map : {X Y : Type 0} (f : X → Y) (p : Y → Bool) (xs : List X) → position p (map f xs) ≡ position (λ x. p (f x)) xs
position-map f p xs = λ i. cond (nat_lt (front-map f (λ y. not (p y)) xs i) (length-map xs f i)) (Some (front-map f (λ y. not (p y)) xs i)) None

-- by the tasks under the names of their bodies
pub running : (numbers runners : Numbering) (name : NameId) → runners ≡ by_units numbers → task_named runners name ≡ position (λ info. info.unit.0 == name.0) numbers.tasks
running numbers runners name is = ap (λ n. task_named n name) is ∙ position-map under_unit (λ info. info.name.0 == name.0) numbers.tasks

pub ruleset lengths = (length-map)
