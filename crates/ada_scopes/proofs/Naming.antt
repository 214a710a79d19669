-- Names as they are kept, and as the rules see them.
use Rattle.std.specs.Prelude.{◌≡◌, ◌==◌, ℕ, Bool, true, false, if◌then◌else◌, List, [], ◌∷◌, find, Option, Some, None, option_map, refl}
use Rattle.ada_scopes.specs.declared.denotations.Thing.{Thing}
use Rattle.ada_scopes.specs.Denotations.{plain_thing, plain_names}
use Rattle.scoped_names.specs.Meaning.{meaning_in}

at_test : (s : ℕ × Thing) (rest : List (ℕ × Thing)) (name : ℕ) (b : Bool)
    → option_map (λ x. x.thing) (find (λ x. x.name == name) (plain_names rest)) ≡ option_map plain_thing (meaning_in rest name)
    → option_map (λ x. x.thing) (if b then Some record { name = s.0; thing = plain_thing s.1 } else find (λ x. x.name == name) (plain_names rest))
    ≡ option_map plain_thing (option_map (λ x. x.1) (if b then Some s else find (λ x. x.0 == name) rest))
at_test s rest name true h = refl
at_test s rest name false h = h

pub meaning_seen : (names : List (ℕ × Thing)) (name : ℕ) → option_map (λ x. x.thing) (find (λ x. x.name == name) (plain_names names)) ≡ option_map plain_thing (meaning_in names name)
meaning_seen [] name = refl
meaning_seen (s ∷ rest) name = at_test s rest name (s.0 == name) (meaning_seen rest name)

pub map_twice : {A B C : Type 0} (f : A → B) (g : B → C) (o : Option A) → option_map (λ x. g (f x)) o ≡ option_map g (option_map f o)
map_twice f g None = refl
map_twice f g (Some x) = refl
