-- What stands around a place within another one.
use Rattle.std.specs.Prelude.{◌≡◌, ℕ, List, ◌++◌, length, reverse}
use Rattle.syn_event.specs.declared.meanings.Meant.{Meant}
use Rattle.syn_event.specs.CheckScope.{CheckScope}
use Rattle.ada_check_rules.specs.declared.scopes.check_scopes.OutsideAccept.{OutsideAccept}

-- names are declared behind those of another place
abbrev pub IsWithin : CheckScope → CheckScope → Type 0
IsWithin inside outside = (names : List (ℕ × Meant)) × (inside.names ≡ names ++ outside.names)

-- what is kept of the place of an accept: how many names there are, and the loops
pub record IsOutside (around : CheckScope) (outside : OutsideAccept) : Type 0 where
  pub count_is : outside.count ≡ length around.names
  pub loops_are : reverse outside.loops.items ≡ around.loops
