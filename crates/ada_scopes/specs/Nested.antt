-- A scope within another one.
use Rattle.std.specs.Prelude.{◌≡◌, ◌≤◌, ◌-◌, ◌++◌, List, length, map, take}
use Rattle.ada_static_rules.specs.Scope.{Scope, NameMeaning}
use Rattle.ada_scopes.specs.declared.scope.Outer.{Outer}
use Rattle.ada_scopes.specs.declared.scope.Outside.{Outside}

-- the numbers of a scope's names: of all, and of those that stand before its own
pub record IsOuter (scope : Scope) (outer : Outer) : Type 0 where
  pub count_is : outer.count ≡ length scope.names
  pub here_is : scope.here ≡ map (λ s. s.name) (take (outer.count - outer.base) scope.names)
  pub base_within : outer.base ≤ outer.count

-- names are declared behind those of another scope
abbrev pub IsWithin : Scope → Scope → Type 0
IsWithin inner outer = (names : List NameMeaning) × (inner.names ≡ names ++ outer.names)

-- what is left for a task body: the numbers of names, whether it was in main, and the entries of the task in whose body it was
pub record IsOutside (scope : Scope) (outside : Outside) : Type 0 where
  pub outer_is : IsOuter scope outside.outer
  pub main_is : outside.in_main ≡ scope.in_main
  pub own_is : outside.own.value ≡ scope.own
