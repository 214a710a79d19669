-- What stands in front of a synchronizing statement in the normal form: values that go to variables, one after the other (5.2; this project's rule).
use Rattle.std.specs.Prelude.{◌≡◌, ℕ, ◌+◌, ◌<◌, ℤ, true, false, ◌==◌, List, [], ◌∷◌, Option, Some, None, Result, Ok, Err}
use Rattle.ada_tree.specs.declared.naming.NameId.{NameId}
use Rattle.ada_tree.specs.declared.naming.Span.{Span}
use Rattle.ada_tree.specs.TypeTable.{TypeTable}
use Rattle.ada_tree.specs.PlainExpr.{PExpr}
use Rattle.ada_tree.specs.PlainStmt.{PStmts, no_stmt, stmt_then}
use Rattle.ada_value.specs.declared.values.Value.{Value}
use Rattle.ada_value.specs.declared.values.Raised.{Raised}
use Rattle.ada_value.specs.declared.values.Limits.{Limits}
use Rattle.ada_value.specs.Values.{and_then, checked, lies_in, position_of}
use Rattle.ada_value.specs.Variables.{Object, Variables, object_named}
use Rattle.ada_value.specs.Evaluating.{evaluated}
use Rattle.task_model.specs.Setting.{Setting}
use Rattle.task_model.specs.Frames.{Around, PFrame, control}
use Rattle.task_model.specs.Tasks.{Task, raised_there}
use Rattle.task_model.specs.Stands.{Steps, stand_of, stepped}
use Rattle.normal_model.specs.Names.{variable_name}
use Rattle.normal_model.specs.Making.{assignment}
use Rattle.task_laws.specs.translation.Translations.{Programs, Translation, types_before}
use Rattle.task_laws.specs.translation.OldNames.{OldExpr}
use Rattle.task_laws.specs.translation.Controls.{task_in, Under}

-- ---- local steps that write nothing

-- After finitely many local steps at statements that do not synchronize, which write nothing, the task is that one.
pub data Reaches : Task → Task → Type 0 where
  reaches_here : (κ : Task) → Reaches κ κ
  reaches_by : (κ κ' : Task) → stand_of κ ≡ Steps → (stepped κ).output ≡ κ.output → Reaches (stepped κ) κ' → Reaches κ κ'

-- ---- variables of one value

-- a variable of one value, of this subtype
abbrev pub cell : NameId → Limits → Value → Object
cell name limits v = record { name = name; limits = limits; index = None; values = v ∷ [] }

-- The name means a variable of this subtype that holds this value.
pub record IsCell (W : Variables) (id : NameId) (limits : Limits) (v : Value) : Type 0 where
  pub name : NameId
  pub found : object_named W id ≡ Some (cell name limits v)

-- The unit's variables: how many it has, and of which subtypes; their names are added ones, each of its own.
pub record Added (b : Programs) (g : Setting) : Type 0 where
  pub count : ℕ
  pub bounds : ℕ → Limits
  pub new : (k : ℕ) → k < count → b.is_old (variable_name g k).0 ≡ false
  pub apart : (j k : ℕ) → j < count → k < count → (j == k) ≡ false → ((variable_name g j).0 == (variable_name g k).0) ≡ false

-- each of them is there, with some value
abbrev pub AreThere : {b : Programs} {g : Setting} → Added b g → Variables → Type 0
AreThere {b} {g} added W = (k : ℕ) → k < added.count → (v : Value) × IsCell W (variable_name g k) (added.bounds k) v

-- ---- values that go to variables

-- The assignments to variables from number k on, of these expressions in order; where there is none the variable is only passed.
abbrev pub due_before : Setting → Span → List (Option PExpr) → ℕ → PStmts
due_before g s [] k = no_stmt
due_before g s (None ∷ ds) k = due_before g s ds (k + 1)
due_before g s (Some e ∷ ds) k = stmt_then (assignment g s k e) (due_before g s ds (k + 1))

-- a value in front of others
abbrev pub worth_then : Result (Option Value) Raised → Result (List (Option Value)) Raised → Result (List (Option Value)) Raised
worth_then r rs = and_then r (λ v. and_then rs (λ vs. Ok (v ∷ vs)))

-- a value that comes out
abbrev pub as_some : Result Value Raised → Result (Option Value) Raised
as_some r = and_then r (λ v. Ok (Some v))

-- the value of an expression, checked against a subtype
abbrev pub due_one : TypeTable → Variables → Limits → Option PExpr → Result (Option Value) Raised
due_one types V limits None = Ok None
due_one types V limits (Some e) = as_some (and_then (evaluated types V e) (λ v. checked limits v))

-- What they come to, each checked against the subtype of its variable before the next, from number k on.
abbrev pub due_worth : TypeTable → Variables → (ℕ → Limits) → List (Option PExpr) → ℕ → Result (List (Option Value)) Raised
due_worth types V bounds [] k = Ok []
due_worth types V bounds (d ∷ ds) k = worth_then (due_one types V (bounds k) d) (due_worth types V bounds ds (k + 1))

-- expressions with old names alone
pub data OldDues (b : Programs) : List (Option PExpr) → Type 0 where
  old_no_due : OldDues b []
  old_passed : (ds : List (Option PExpr)) → OldDues b ds → OldDues b (None ∷ ds)
  old_due : (e : PExpr) (ds : List (Option PExpr)) → OldExpr b e → OldDues b ds → OldDues b (Some e ∷ ds)

-- The variables from number k on hold these values, which lie in their subtypes, one for each expression that went to one; of one that is only passed
-- nothing is said.
pub data Hold {b : Programs} {g : Setting} (added : Added b g) (W : Variables) : ℕ → List (Option PExpr) → List (Option Value) → Type 0 where
  hold_none : (k : ℕ) → Hold added W k [] []
  hold_passed : (k : ℕ) (ds : List (Option PExpr)) (vs : List (Option Value)) → Hold added W (k + 1) ds vs → Hold added W k (None ∷ ds) (None ∷ vs)
  hold_value : (k : ℕ) (e : PExpr) (v : Value) (ds : List (Option PExpr)) (vs : List (Option Value)) → IsCell W (variable_name g k) (added.bounds k) v →
      lies_in (added.bounds k) (position_of v) ≡ true → Hold added W (k + 1) ds vs → Hold added W k (Some e ∷ ds) (Some v ∷ vs)

-- What becomes of a task of the normal form that stands before the assignments of these expressions to the variables from number k on, in front of
-- these statements.
pub data Prelude (x : Translation) {g : Setting} (added : Added x.text.programs g) (n : ℕ) (input : List ℤ) (output : List ℕ) (p : Around) (o : List PFrame) (V : Variables) (p' : Around) (o' : List PFrame)
    (from : Task) (goal : PStmts) (k : ℕ) (W : Variables) (ds : List (Option PExpr)) : Type 0 where
  -- they come to these: it comes before the statements, with the values in their variables, and the variables below as they were
  given : (vs : List (Option Value)) (W' : Variables) → due_worth (types_before x.text.programs) V added.bounds ds k ≡ Ok vs → Under x p o V p' o' W' →
      Reaches from (task_in x.text.programs.made n input output (control goal p' o' W')) → AreThere added W' → Hold added W' k ds vs →
      ((j : ℕ) → j < k → object_named W' (variable_name g j) ≡ object_named W (variable_name g j)) → Prelude x added n input output p o V p' o' from goal k W ds
  -- one of them raises this: it comes to a step at a statement that does not synchronize, which raises it in the same frames
  stopped : (e : Raised) (r : PStmts) (W' : Variables) → due_worth (types_before x.text.programs) V added.bounds ds k ≡ Err e → Under x p o V p' o' W' →
      Reaches from (task_in x.text.programs.made n input output (control r p' o' W')) →
      stand_of (task_in x.text.programs.made n input output (control r p' o' W')) ≡ Steps →
      stepped (task_in x.text.programs.made n input output (control r p' o' W')) ≡ raised_there e (task_in x.text.programs.made n input output (control r p' o' W')) → AreThere added W' →
      Prelude x added n input output p o V p' o' from goal k W ds
