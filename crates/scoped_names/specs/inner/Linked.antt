-- What is true of the names of a scope as they are kept.
use Rattle.std.specs.Prelude.{◌≡◌, ℕ, List, reverse, nat_eq}
use Rattle.std.specs.HashMap.{HashMap, get}
use Rattle.scoped_names.specs.declared.Slot.{Slot}
use Rattle.scoped_names.specs.inner.Places.{latest_in, AllHide}

pub record Linked {T S : Type 0} (slots : List (Slot T)) (latest : HashMap ℕ ℕ S) : Type 0 where
  -- each slot keeps the place of the one that it hides
  pub hide : AllHide (reverse slots)
  -- for each name the place of its latest slot
  pub found : (name : ℕ) → get nat_eq latest name ≡ latest_in (reverse slots) name
