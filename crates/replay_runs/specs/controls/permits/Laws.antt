-- What the tests of a permit evaluate to, where the variables of the permit hold it, and which branch of an if statement is taken then (4.5, 3.5.5,
-- 5.3; this project's rule).
use Rattle.std.specs.Prelude.{◌≡◌, ℕ, ℤ, pos, ◌≤◌, Bool, true, false, not, ◌&&◌, ◌==◌, List, [], ◌∷◌, Option, Some, None, Ok}
use Rattle.std.specs.Ordering.{int_eq}
use Rattle.event_machine.specs.declared.Event.{Event}
use Rattle.ada_tree.specs.declared.naming.Span.{Span}
use Rattle.ada_tree.specs.declared.expressions.BinaryOp.TheVariants.{NotEqual}
use Rattle.ada_tree.specs.TypeTable.{TypeTable}
use Rattle.ada_tree.specs.PlainExpr.{PExpr, EInteger, EBinary}
use Rattle.ada_tree.specs.PlainStmt.{SIf, PStmts, stmt_then, PMaybe, PArms, no_arm, arm_then, arm}
use Rattle.ada_tree.specs.PlainProgram.{PProgram}
use Rattle.ada_static_rules.specs.Refusals.{types_in}
use Rattle.ada_static_rules.specs.StaticValue.{is_integer_value}
use Rattle.ada_value.specs.declared.values.Value.{Value}
use Rattle.ada_value.specs.declared.values.Value.TheVariants.{Number, Truth}
use Rattle.ada_value.specs.Values.{position_of}
use Rattle.ada_value.specs.Variables.{Variables}
use Rattle.ada_value.specs.Evaluating.{evaluated}
use Rattle.task_model.specs.Tasks.{Task, stmts_or_none, entered}
use Rattle.task_model.specs.Rendezvous.{resumed, pending_of, finals_of}
use Rattle.normal_laws.specs.runs.floors.Preludes.{Reaches}
use Rattle.normal_laws.specs.existence.Laws.{IsLegalOriginal}
use Rattle.replay_model.specs.Names.{kind_text}
use Rattle.replay_model.specs.Asking.{ask, permit_part, both, permit_is_kind, permit_is_for, permit_is_at}
use Rattle.replay_model.specs.ReplayTree.{last_task}
use Rattle.replay_runs.specs.starts.Laws.{form_in, text_in}
use Rattle.replay_runs.specs.translation.Floors.{HasPermit}
use Rattle.replay_runs.specs.controls.Asking.{unit_of_task, Surroundings, with_next, having, permit_stored, HoldsPermit}

-- a number that INTEGER has and an integer literal can write (2.4; INTEGER has 32 bits by this project's rule)
abbrev pub FitsInteger : ℕ → Type 0
FitsInteger n = n ≤ 2147483647

-- the expression evaluates to this truth value
abbrev pub EvaluatesTo : TypeTable → Variables → PExpr → Bool → Type 0
EvaluatesTo T V e b = evaluated T V e ≡ Ok (Truth b)

-- The index evaluates to a value whose position lies in INTEGER. A plain entry has no index, and its number is 0.
pub data IndexIs (T : TypeTable) (V : Variables) : Option PExpr → ℤ → Type 0 where
  no_index : IndexIs T V None (pos 0)
  index_is : (e : PExpr) (v : Value) → evaluated T V e ≡ Ok v → is_integer_value (position_of v) ≡ true → IndexIs T V (Some e) (position_of v)

-- The tests of a task whose variables hold the permit of this kind, for this argument and this index: of the kind, of its being another one, of kind
-- and argument, and of all three.
pub record TestsEvaluate (p : PProgram) (t : ℕ) (T : TypeTable) (V : Variables) (k a : ℕ) (i : ℤ) : Type 0 where
  pub kind : (s : Span) (n : ℕ) → FitsInteger n → EvaluatesTo T V (permit_is_kind (unit_of_task p t) s n) (k == n)
  pub other_kind : (s : Span) (n : ℕ) → FitsInteger n → EvaluatesTo T V (EBinary NotEqual (permit_part (unit_of_task p t) s kind_text) (EInteger n s) s) (not (k == n))
  pub kind_and_argument : (s : Span) (n m : ℕ) → FitsInteger n → FitsInteger m → EvaluatesTo T V (permit_is_for (unit_of_task p t) s n m) ((k == n) && (a == m))
  pub member : (s : Span) (n e : ℕ) (index : Option PExpr) (j : ℤ) → FitsInteger n → FitsInteger e → IndexIs T V index j →
      EvaluatesTo T V (permit_is_at (unit_of_task p t) s n e index) ((k == n) && (a == e) && int_eq i j)

-- This holds whatever the table of types.
abbrev pub TestsOfPermits : Type 0
TestsOfPermits = (p : PProgram) (t : ℕ) (T : TypeTable) (V : Variables) (k a : ℕ) (i : ℤ) → HoldsPermit p V k a i → TestsEvaluate p t T V k a i

-- Two tests joined by `and` evaluate to TRUE exactly where both do.
abbrev pub BothEvaluate : Type 0
BothEvaluate = (T : TypeTable) (V : Variables) (s : Span) (d e : PExpr) (b c : Bool) → EvaluatesTo T V d b → EvaluatesTo T V e c → EvaluatesTo T V (both s d e) (b && c)

-- ---- branches

-- The statements of the branch that an if statement takes, by what its conditions say (5.3).
pub data TakesBranch (T : TypeTable) (V : Variables) : PArms → PMaybe → PStmts → Type 0 where
  takes_other : (o : PMaybe) → TakesBranch T V no_arm o (stmts_or_none o)
  takes_this : (e : PExpr) (l : PStmts) (rest : PArms) (o : PMaybe) → EvaluatesTo T V e true → TakesBranch T V (arm_then (arm e l) rest) o l
  takes_later : (e : PExpr) (l : PStmts) (rest : PArms) (o : PMaybe) (m : PStmts) → EvaluatesTo T V e false → TakesBranch T V rest o m → TakesBranch T V (arm_then (arm e l) rest) o m

-- A task asks before an if statement, and these three numbers come back to it. Then it comes, by finitely many local steps that write nothing, to the
-- branch that is taken with them.
abbrev pub PermitsDecide : Type 0
PermitsDecide =
    (p : PProgram) (events : List Event) (t : ℕ) → IsLegalOriginal p → t ≤ last_task (form_in p).numbers →
    (s : Span) (arms : PArms) (o : PMaybe) (r m : PStmts) (x : Surroundings) (j : Task) (kind argument : ℕ) (index : ℤ) → HasPermit (unit_of_task p t) x.vars → FitsInteger kind → FitsInteger argument → is_integer_value index ≡ true →
    pending_of j ≡ None → finals_of j ≡ Number (pos kind) ∷ Number (pos argument) ∷ Number index ∷ [] →
    TakesBranch (types_in (text_in p events)) (permit_stored p x.vars kind argument index) arms o m →
    Reaches (resumed j (with_next p events (stmt_then (ask (unit_of_task p t) s) (stmt_then (SIf arms o s) r)) x)) (entered m r (with_next p events r (having x (permit_stored p x.vars kind argument index))))
