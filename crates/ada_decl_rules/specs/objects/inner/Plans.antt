-- What a declaration of objects is to make, and what its initial value is for.
use Rattle.std.specs.Prelude.{◌≡◌, Bool, List, [], ◌∷◌, ◌++◌, Option, Some, None, option_map}
use Rattle.ada_tree.specs.PlainDecl.{PShape, PInit}
use Rattle.ada_static_rules.specs.Scope as scope
use Rattle.ada_static_rules.specs.Scope.{Scope}
use Rattle.ada_static_rules.specs.Demand.{for_scalar, for_array, initializes, Site}
use Rattle.ada_static_rules.specs.Declaring.{Declared, task_object, task_array, of_made, made_array, declared_object}
use Rattle.ada_static_rules.specs.Sites.{site, scalar_init_sites, array_init_sites, all_init_sites, init_sites, object_marking}
use Rattle.ada_static_rules.specs.RefusedFirst.{refused_first}
use Rattle.ada_scopes.specs.Entries.{plain_range}
use Rattle.ada_decl_rules.specs.objects.inner.Initials.{holder_sites}
use Rattle.ada_expr_rules.specs.Ranges.{made_as}
use Rattle.ada_decl_rules.specs.declared.objects.plans.Plan.{Plan}
use Rattle.ada_decl_rules.specs.declared.objects.plans.Plan.TheVariants.{Task, TaskArray, Object, ConstrainedArray}
use Rattle.ada_decl_rules.specs.declared.objects.plans.Planned.{Planned}
use Rattle.ada_decl_rules.specs.declared.objects.plans.WalkedShape.{WalkedShape}

-- the table that a plan leaves, and what its objects are
abbrev pub declared_as : Scope → Bool → Plan → Declared
declared_as scope constant (Task entries) = record { types = scope.types; thing = task_object scope.in_main entries.value }
declared_as scope constant (TaskArray range entries) = record { types = scope.types; thing = task_array scope.in_main (option_map plain_range range) entries.value }
declared_as scope constant (Object making) = of_made constant (made_as scope.types making)
declared_as scope constant (ConstrainedArray index making) = of_made constant (made_array None (made_as scope.types making).types (option_map plain_range index) (made_as scope.types making).mark)

-- the places of an initial value of a scalar, by its range where that is known
abbrev pub scalar_sites : Scope → Option scope.Range → PInit → List Site
scalar_sites scope (Some range) value = scalar_init_sites scope (Some range) value ++ site scope (initializes for_scalar value) ∷ []
scalar_sites scope None value = all_init_sites scope value

-- those of an array, by the ranges of its index and of its components where both are known
abbrev pub array_sites : Scope → Option scope.Range → Option scope.Range → PInit → List Site
array_sites scope (Some index) (Some part) value = array_init_sites scope (Some part) value ++ site scope (initializes (for_array index) value) ∷ []
array_sites scope (Some index) None value = all_init_sites scope value
array_sites scope None part value = all_init_sites scope value

-- the plan makes what the objects are declared as, and the initial value stands at the places of one of theirs
pub record IsPlanned (scope : Scope) (constant : Bool) (shape : PShape) (planned : Planned) : Type 0 where
  pub declared_is : declared_as scope constant planned.plan ≡ declared_object scope constant shape
  pub holder_is : (value : PInit) → holder_sites scope planned.holder value ≡ init_sites scope (declared_object scope constant shape).types (object_marking (declared_object scope constant shape)) value

-- a plan, and the first refusal at the places
pub record IsShape (sites : List Site) (scope : Scope) (constant : Bool) (shape : PShape) (w : WalkedShape) : Type 0 where
  pub planned_is : IsPlanned scope constant shape w.planned
  pub refusal_is : w.refusal ≡ refused_first sites
