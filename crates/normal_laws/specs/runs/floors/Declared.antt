-- The variables that a unit gets, by their declarations (3.2.1; this project's rule).
use Rattle.std.specs.Prelude.{◌≡◌, ℕ, ◌+◌, ◌<◌, ◌≤◌, List, [], ◌∷◌, length, slice_get, Option, Some, None}
use Rattle.ada_tree.specs.declared.naming.Span.{Span}
use Rattle.ada_tree.specs.PlainExpr.{PExpr, PSubind}
use Rattle.normal_model.specs.Variables.{variable_declared}
use Rattle.task_laws.specs.translation.Translations.{Programs, types_after}
use Rattle.normal_laws.specs.runs.floors.Suited.{declared_limits, Rewritten}
use Rattle.normal_laws.specs.runs.floors.Preludes.{Added}

-- The added variables are those of the unit, each with the subtype of its declaration.
pub record AreDeclared (w : Rewritten) (added : Added w.programs w.programs.original) : Type 0 where
  pub count : added.count ≡ length w.vars
  pub bounds : (k : ℕ) (s : Span) (x : PSubind) → slice_get w.vars k ≡ Some (variable_declared w.programs.original s x k) → added.bounds k ≡ declared_limits (types_after w.programs) x

-- The variables from a number on have these subtypes.
pub data HaveSubtypes (b : Programs) (added : Added b b.original) : List PSubind → ℕ → Type 0 where
  no_subtype : (k : ℕ) → k ≤ added.count → HaveSubtypes b added [] k
  subtype_then : (x : PSubind) (xs : List PSubind) (k : ℕ) → k < added.count → added.bounds k ≡ declared_limits (types_after b) x → HaveSubtypes b added xs (k + 1) → HaveSubtypes b added (x ∷ xs) k

-- one expression goes to a variable, or none does
abbrev pub dues_of : Option PExpr → List (Option PExpr)
dues_of None = []
dues_of (Some e) = Some e ∷ []
