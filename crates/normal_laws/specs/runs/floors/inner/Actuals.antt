-- The actual parameters of a call in the normal form: which of them go to variables in front of the call, and what the formals open with (6.2, 6.4.1).
use Rattle.std.specs.Prelude.{◌≡◌, ℕ, ◌+◌, List, [], ◌∷◌, Option, Some, None}
use Rattle.ada_tree.specs.declared.statements.ParMode.{ParMode}
use Rattle.ada_tree.specs.declared.statements.ParMode.TheVariants.{Take, Give, Both}
use Rattle.ada_tree.specs.TypeTable.{TypeTable}
use Rattle.ada_tree.specs.PlainExpr.{PExpr}
use Rattle.ada_value.specs.declared.values.Value.{Value}
use Rattle.ada_value.specs.declared.values.Limits.{Limits}
use Rattle.ada_value.specs.Values.{lower_bound}
use Rattle.task_model.specs.declared.parameters.FormalParameter.{FormalParameter}
use Rattle.normal_model.specs.Calls.{Slot}

-- an `in` or `in out` actual goes to its variable; that of an `out` one is only passed
abbrev pub due_of : ParMode → PExpr → Option PExpr
due_of Take e = Some e
due_of Give e = None
due_of Both e = Some e

-- those of actuals, one for each that has a formal
abbrev pub actual_dues : List Slot → List PExpr → List (Option PExpr)
actual_dues [] es = []
actual_dues (x ∷ xs) [] = []
actual_dues (x ∷ xs) (e ∷ es) = due_of x.mode e ∷ actual_dues xs es

-- the opening value of a formal, by what went to its variable: without a value the lower bound of its subtype
abbrev pub opening_value : TypeTable → Limits → Option Value → Value
opening_value types limits None = lower_bound types limits
opening_value types limits (Some v) = v

-- The opening values of formals, by what went to their variables.
abbrev pub opening_values : TypeTable → List FormalParameter → List (Option Value) → List Value
opening_values types [] vs = []
opening_values types (f ∷ fs) [] = lower_bound types f.limits ∷ opening_values types fs []
opening_values types (f ∷ fs) (v ∷ vs) = opening_value types f.limits v ∷ opening_values types fs vs

-- formals with their modes, whose subtypes are those of the variables from number k on
pub data AreSlots (bounds : ℕ → Limits) : List FormalParameter → List Slot → ℕ → Type 0 where
  no_slots : (k : ℕ) → AreSlots bounds [] [] k
  slot_then : (f : FormalParameter) (x : Slot) (fs : List FormalParameter) (xs : List Slot) (k : ℕ) → f.mode ≡ x.mode → f.limits ≡ bounds k → AreSlots bounds fs xs (k + 1) →
      AreSlots bounds (f ∷ fs) (x ∷ xs) k
