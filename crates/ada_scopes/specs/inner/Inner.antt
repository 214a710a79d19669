-- An inner scope, and the formals of an accept in it.
use Rattle.std.specs.Prelude.{◌≡◌, ℕ, Option, Some, None}
use Rattle.ada_tree.specs.declared.statements.ParMode.{ParMode}
use Rattle.ada_static_rules.specs.Scope.{Scope, Thing, Parameter, Unclear}
use Rattle.ada_scopes.specs.Nested.{IsWithin}

-- a formal by its mark, where that is a scalar one
abbrev pub formal_at : ParMode → Option ℕ → Thing
formal_at mode (Some m) = Parameter mode m
formal_at mode None = Unclear

-- what is an inner scope of another one differs from it in names alone
pub record IsInner (inner outer : Scope) : Type 0 where
  pub types_are : inner.types ≡ outer.types
  pub main_is : inner.in_main ≡ outer.in_main
  pub own_are : inner.own ≡ outer.own
  pub bodies_are : inner.bodies ≡ outer.bodies
  pub instance_is : inner.has_instance ≡ outer.has_instance
  pub within : IsWithin inner outer
