-- What the conditions of the recorder are worth, among any variables in which its names mean what they are to.
use Rattle.std.proofs.Common.{◌≡◌, ℕ, ◌==◌, ◌≤◌, Bool, if◌then◌else◌, Option, Some, ap, ap₂, ◌∙◌, arith}
use Rattle.std.specs.Prelude.{pos, ◌&&◌, Result, Ok, Err}
use Rattle.table_law.proofs.Numbers.{fitted-ok}
use Rattle.ada_tree.specs.declared.naming.NameId.{NameId}
use Rattle.ada_tree.specs.declared.expressions.BinaryOp.TheVariants.{And, Equal}
use Rattle.ada_tree.specs.PlainExpr.{PExpr, EName, EBinary}
use Rattle.ada_tree.specs.PlainStmt.{PStmts, PMaybe, present, PArms, arm_then, arm}
use Rattle.ada_value.specs.declared.values.Limits.{Limits}
use Rattle.ada_value.specs.declared.values.Value.{Value}
use Rattle.ada_value.specs.declared.values.Value.TheVariants.{Number, Truth}
use Rattle.ada_value.specs.declared.values.Raised.{Raised}
use Rattle.ada_value.specs.declared.values.Raised.TheVariants as raised
use Rattle.ada_value.specs.Values.{and_then, is_true_value, integer_limits, checked}
use Rattle.ada_value.specs.Variables.{Object, Variables, object_named}
use Rattle.ada_value.specs.Evaluating.{evaluated, component_value, operated}
use Rattle.task_model.specs.Tasks.{Task, vars_of}
use Rattle.task_model.specs.Steps.{arm_taken}
use Rattle.collect_model.specs.Noting.{number}
use Rattle.collect_model.specs.aborts.Recording.{entry_for, stands, is_meeting}
use Rattle.collect_runs.specs.aborts.recorder.Recorders.{Recorder, names_of, last_of}
use Rattle.collect_runs.specs.aborts.recorder.States.{table_object, numbers_object}
use Rattle.collect_runs.proofs.aborts.recorder.Tables.{table-read}
use Rattle.normal_laws.proofs.runs.waits.Choices.{truth-of}
use Rattle.ada_value.proofs.StaticLaws.{natural_integer as small}
use Rattle.replay_runs.proofs.controls.permits.Tests.{same-number}

-- an arm is taken, or not, by its condition
pub arm-by : (t : Task) (e : PExpr) (stmts : PStmts) (rest : PArms) (otherwise : PMaybe) (b : Bool) → evaluated t.setting.types (vars_of t) e ≡ Ok (Truth b) →
    arm_taken t (arm_then (arm e stmts) rest) otherwise ≡ (if b then Ok (present stmts) else arm_taken t rest otherwise)
arm-by t e stmts rest otherwise b is =
    ap (λ (r : Result Value Raised). and_then (and_then r (λ v. Ok (is_true_value v))) (λ c. if c then Ok (present stmts) else arm_taken t rest otherwise)) is
    ∙ ap (λ (c : Bool). if c then Ok (present stmts) else arm_taken t rest otherwise) (truth-of b)

-- a number goes to an array of INTEGER
pub number-fits : (n : ℕ) → n ≤ 2147483647 → checked integer_limits (Number (pos n)) ≡ Ok (Number (pos n))
number-fits n l = ap (λ (b : Bool). if b then Ok (Number (pos n)) else Err raised.Constraint) (small n l)

module _ (k : Recorder) (vars : Variables) where
  abbrev worth : PExpr → Result Value Raised
  worth e = evaluated k.setting.types vars e

  pub literal-is : (n : ℕ) → n ≤ 2147483647 → evaluated k.setting.types vars (number k.span n) ≡ Ok (Number (pos n))
  literal-is n l = fitted-ok (pos n) (small n l)

  -- the value of the task that a variable names
  pub entry-is : (table task : NameId) (limits : Limits) (f : ℕ → Value) (u : ℕ) → object_named vars table ≡ Some (table_object k table limits f) →
      evaluated k.setting.types vars (EName task k.span) ≡ Ok (Number (pos u)) → u ≤ last_of k → evaluated k.setting.types vars (entry_for k.span table task) ≡ Ok (f u)
  entry-is table task limits f u named at l =
      ap (λ (r : Result Value Raised). and_then r (λ v. component_value (object_named vars table) v)) at
      ∙ ap (λ (o : Option Object). component_value o (Number (pos u))) named
      ∙ table-read k table limits f u l

  -- how the call of that task stands
  pub stands-is : (task : NameId) (f : ℕ → ℕ) (u m : ℕ) → object_named vars (names_of k).met ≡ Some (numbers_object k (names_of k).met f) →
      evaluated k.setting.types vars (EName task k.span) ≡ Ok (Number (pos u)) → u ≤ last_of k → m ≤ 2147483647 →
      evaluated k.setting.types vars (stands (names_of k) k.span task m) ≡ Ok (Truth (f u == m))
  stands-is task f u m named at l few =
      ap (λ (r : Result Value Raised). operated Equal r (worth (number k.span m))) (entry-is (names_of k).met task integer_limits (λ t. Number (pos (f t))) u named at l)
      ∙ ap (λ (r : Result Value Raised). operated Equal (Ok (Number (pos (f u)))) r) (literal-is m few)
      ∙ ap (λ (x : Bool). Ok (Truth x)) (same-number (f u) m)

  -- it is in a rendezvous with the acceptor that another variable names
  pub meeting-is : (task acceptor : NameId) (f a : ℕ → ℕ) (u v : ℕ) → object_named vars (names_of k).met ≡ Some (numbers_object k (names_of k).met f) →
      object_named vars k.teller.acceptors ≡ Some (numbers_object k k.teller.acceptors a) →
      evaluated k.setting.types vars (EName task k.span) ≡ Ok (Number (pos u)) → u ≤ last_of k → evaluated k.setting.types vars (EName acceptor k.span) ≡ Ok (Number (pos v)) →
      evaluated k.setting.types vars (is_meeting k.teller k.span task acceptor) ≡ Ok (Truth ((f u == 1) && (a u == v)))
  meeting-is task acceptor f a u v met acceptors at l by =
      ap (λ (r : Result Value Raised). operated And r (worth (EBinary Equal (entry_for k.span k.teller.acceptors task) (EName acceptor k.span) k.span))) (stands-is task f u 1 met at l (few 1))
      ∙ ap (λ (r : Result Value Raised). operated And (Ok (Truth (f u == 1))) (operated Equal r (worth (EName acceptor k.span))))
      (entry-is k.teller.acceptors task integer_limits (λ t. Number (pos (a t))) u acceptors at l)
      ∙ ap (λ (r : Result Value Raised). operated And (Ok (Truth (f u == 1))) (operated Equal (Ok (Number (pos (a u)))) r)) by
      ∙ ap (λ (x : Bool). operated And (Ok (Truth (f u == 1))) (Ok (Truth x))) (same-number (a u) v)
      ∙ ap₂ (λ (x y : Bool). Ok (Truth (x && y))) (truth-of (f u == 1)) (truth-of (a u == v))
    where
      few : (n : ℕ) → 1 ≤ 2147483647
      few n = omega arith
