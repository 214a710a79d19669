-- What a task does with what it has heard, and with the part of a call that came: assignments to its variables and tests of them.
use Rattle.std.proofs.Common.{◌≡◌, ℕ, ℤ, pos, int_eq, Bool, true, false, if◌then◌else◌, List, Ok, Err, refl, ap, ◌∙◌}
use Rattle.ada_tree.specs.declared.naming.Span.{Span}
use Rattle.ada_tree.specs.declared.naming.NameId.{NameId}
use Rattle.ada_tree.specs.declared.expressions.BinaryOp.TheVariants.{Equal}
use Rattle.ada_tree.specs.TypeTable.{TypeTable}
use Rattle.ada_tree.specs.PlainExpr.{PExpr, EInteger, EName, EBinary}
use Rattle.ada_tree.specs.PlainStmt.{SIf, PStmts, stmt_then, no_arm, arm_then, arm, PMaybe, present}
use Rattle.ada_value.specs.declared.values.Limits.{Limits}
use Rattle.ada_value.specs.declared.values.Value.{Value}
use Rattle.ada_value.specs.declared.values.Value.TheVariants.{Number, Truth}
use Rattle.ada_value.specs.declared.values.Raised.TheVariants as raised
use Rattle.ada_value.specs.Values.{and_then, is_true_value, integer_limits}
use Rattle.ada_value.specs.Variables.{Variables, object_named, checked_for, set_value}
use Rattle.ada_value.specs.Evaluating.{name_value, evaluated, operated}
use Rattle.task_model.specs.Frames.{Around, PFrame, control, in_front, settled}
use Rattle.task_model.specs.Tasks.{Task, with_vars, gone_to, stmts_or_none, entered, or_raised}
use Rattle.task_model.specs.Stands.{stepped}
use Rattle.task_laws.specs.translation.Controls.{task_in}
use Rattle.normal_laws.specs.runs.floors.Preludes.{Reaches, reaches_here, IsCell}
use Rattle.normal_laws.proofs.runs.floors.Preludes.{reaches_to}
use Rattle.collect_model.specs.Noting.{number}
use Rattle.collect_model.specs.Calling.{part_is}
use Rattle.collect_runs.specs.translation.Floors.{IsVariableOf}
use Rattle.collect_runs.specs.telling.Texts.{Texts, text, teller, IsInteger}
use Rattle.collect_runs.proofs.telling.Noting.{literal}

-- a name that means a variable of one value is worth that value
pub cell-worth : (T : TypeTable) (V : Variables) (id : NameId) (limits : Limits) (v : Value) (s : Span) → IsCell V id limits v → evaluated T V (EName id s) ≡ Ok v
cell-worth T V id limits v s c = ap (λ o. Ok (name_value T o id)) c.found

-- the test which part of a call came
pub part-test : (T : TypeTable) (V : Variables) (id : NameId) (m : ℕ) (s : Span) → IsCell V id integer_limits (Number (pos m)) →
    evaluated T V (EBinary Equal (EName id s) (number s 1) s) ≡ Ok (Truth (int_eq (pos m) (pos 1)))
part-test T V id m s c = ap (λ r. operated Equal r (evaluated T V (EInteger 1 s))) (cell-worth T V id integer_limits (Number (pos m)) s c)

-- the variables with the part that came
abbrev pub parted : Texts → ℕ → Variables → Variables
parted x m V = set_value V x.main.added.part 0 (Number (pos m))

module _ (x : Texts) (t : ℕ) (i : List ℤ) (w : List ℕ) (q : Around) (o : List PFrame) where
  abbrev T : TypeTable
  T = (text x).types

  -- the image before these statements, and as it goes on with these
  abbrev stood : PStmts → Variables → Task
  stood r V = task_in (text x) t i w (control r q o V)

  abbrev gone : PStmts → Variables → Task
  gone r V = task_in (text x) t i w (settled (control r q o V))

  pub part-goes : (m : ℕ) (V : Variables) (s : Span) (rest : PStmts) → IsInteger m → IsVariableOf integer_limits x.main.added.part V →
      Reaches (task_in (text x) t i w (control (in_front (part_is (teller x t) s m) rest) q o V)) (task_in (text x) t i w (settled (control rest q o (parted x m V))))
  part-goes m V s rest fits part = reaches_to refl path refl (reaches_here (gone rest (parted x m V)))
    where
      path : stepped (stood (in_front (part_is (teller x t) s m) rest) V) ≡ gone rest (parted x m V)
      path =
          ap (λ r. or_raised (λ vars. gone_to rest (with_vars (stood (in_front (part_is (teller x t) s m) rest) V) vars)) (stood (in_front (part_is (teller x t) s m) rest) V)
          (and_then r (λ v. and_then (checked_for (object_named V x.main.added.part) v) (λ u. Ok (set_value V x.main.added.part 0 u))))) (literal T V m s fits)
          ∙ ap (λ ob. or_raised (λ vars. gone_to rest (with_vars (stood (in_front (part_is (teller x t) s m) rest) V) vars)) (stood (in_front (part_is (teller x t) s m) rest) V)
          (and_then (checked_for ob (Number (pos m))) (λ u. Ok (set_value V x.main.added.part 0 u)))) part.1.found
          ∙ ap (λ c. or_raised (λ vars. gone_to rest (with_vars (stood (in_front (part_is (teller x t) s m) rest) V) vars)) (stood (in_front (part_is (teller x t) s m) rest) V)
          (and_then (if c then Ok (Number (pos m)) else Err raised.Constraint) (λ u. Ok (set_value V x.main.added.part 0 u)))) fits

  -- an if statement with one condition
  pub if-goes : (e : PExpr) (l : PStmts) (other : PMaybe) (s : Span) (rest : PStmts) (V : Variables) (b : Bool) → evaluated (text x).types V e ≡ Ok (Truth b) →
      Reaches (task_in (text x) t i w (control (stmt_then (SIf (arm_then (arm e l) no_arm) other s) rest) q o V))
      (task_in (text x) t i w (settled (control (in_front (if b then l else stmts_or_none other) rest) q o V)))
  if-goes e l other s rest V b worth = reaches_to refl (path b worth) refl (reaches_here _)
    where
      path : (b : Bool) → evaluated (text x).types V e ≡ Ok (Truth b) →
          stepped (stood (stmt_then (SIf (arm_then (arm e l) no_arm) other s) rest) V) ≡ gone (in_front (if b then l else stmts_or_none other) rest) V
      path true k =
          ap (λ r. or_raised (λ branch. entered (stmts_or_none branch) rest (stood (stmt_then (SIf (arm_then (arm e l) no_arm) other s) rest) V)) (stood (stmt_then (SIf (arm_then (arm e l) no_arm) other s) rest) V)
          (and_then (and_then r (λ v. Ok (is_true_value v))) (λ c. if c then Ok (present l) else Ok other))) k
      path false k =
          ap (λ r. or_raised (λ branch. entered (stmts_or_none branch) rest (stood (stmt_then (SIf (arm_then (arm e l) no_arm) other s) rest) V)) (stood (stmt_then (SIf (arm_then (arm e l) no_arm) other s) rest) V)
          (and_then (and_then r (λ v. Ok (is_true_value v))) (λ c. if c then Ok (present l) else Ok other))) k
