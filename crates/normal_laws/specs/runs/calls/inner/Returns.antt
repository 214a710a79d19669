-- Values that come back from a plain call in the normal form: to the variables, and from them to the actuals by the assignments behind the call (6.2, 6.4.1).
use Rattle.std.specs.Prelude.{◌≡◌, ℕ, ◌+◌, ◌<◌, true, List, [], ◌∷◌, Option, Some, None}
use Rattle.ada_tree.specs.declared.naming.NameId.{NameId}
use Rattle.ada_tree.specs.declared.naming.Span.{Span}
use Rattle.ada_tree.specs.declared.statements.ParMode.TheVariants.{Take, Give, Both}
use Rattle.ada_tree.specs.PlainExpr.{PExpr, EName}
use Rattle.ada_tree.specs.PlainStmt.{PCall, PStmt, SCall, SConditional, STimed, PStmts, no_stmt}
use Rattle.ada_value.specs.declared.values.Value.{Value}
use Rattle.ada_value.specs.declared.values.Raised.{Raised}
use Rattle.ada_value.specs.Values.{lies_in, position_of}
use Rattle.ada_value.specs.Variables.{Variables}
use Rattle.task_model.specs.declared.parameters.FormalParameter.{FormalParameter}
use Rattle.task_model.specs.Setting.{Setting}
use Rattle.task_model.specs.Tasks.{Task, with_vars, gone_to, raised_there}
use Rattle.normal_model.specs.Names.{variable_name}
use Rattle.normal_model.specs.Calls.{Slot}
use Rattle.task_laws.specs.translation.Translations.{Programs, IsOld, IsKnown}
use Rattle.normal_laws.specs.runs.floors.Preludes.{IsCell, Added}

-- The variables of a call hold the values that came back: from number k on, one for each actual that is a variable of an old name and whose formal's
-- value comes back.
pub data HoldBack {b : Programs} {g : Setting} (added : Added b g) (W : Variables) : List FormalParameter → List Slot → List PExpr → List Value → ℕ → Type 0 where
  back_over : (fs : List FormalParameter) (xs : List Slot) (vs : List Value) (k : ℕ) → HoldBack added W fs xs [] vs k
  back_done : (es : List PExpr) (vs : List Value) (k : ℕ) → HoldBack added W [] [] es vs k
  back_in : (f : FormalParameter) (x : Slot) (fs : List FormalParameter) (xs : List Slot) (e : PExpr) (es : List PExpr) (vs : List Value) (k : ℕ) → f.mode ≡ Take → x.mode ≡ Take →
      HoldBack added W fs xs es vs (k + 1) → HoldBack added W (f ∷ fs) (x ∷ xs) (e ∷ es) vs k
  back_give : (f : FormalParameter) (x : Slot) (fs : List FormalParameter) (xs : List Slot) (id : NameId) (at : Span) (es : List PExpr) (v : Value) (vs : List Value) (k : ℕ) → f.mode ≡ Give → x.mode ≡ Give →
      k < added.count → IsOld b id → IsKnown b v → IsCell W (variable_name g k) (added.bounds k) v → HoldBack added W fs xs es vs (k + 1) → HoldBack added W (f ∷ fs) (x ∷ xs) (EName id at ∷ es) (v ∷ vs) k
  back_both : (f : FormalParameter) (x : Slot) (fs : List FormalParameter) (xs : List Slot) (id : NameId) (at : Span) (es : List PExpr) (v : Value) (vs : List Value) (k : ℕ) → f.mode ≡ Both → x.mode ≡ Both →
      k < added.count → IsOld b id → IsKnown b v → IsCell W (variable_name g k) (added.bounds k) v → HoldBack added W fs xs es vs (k + 1) → HoldBack added W (f ∷ fs) (x ∷ xs) (EName id at ∷ es) (v ∷ vs) k

-- Values that come back to a call whose actuals' variables are numbered from k on: of known kinds, and in the subtypes of these variables; one for
-- each actual that is a variable of an old name and whose formal's value comes back.
pub data AreFinals {b : Programs} {g : Setting} (added : Added b g) : List FormalParameter → List Slot → List PExpr → List Value → ℕ → Type 0 where
  finals_over : (fs : List FormalParameter) (xs : List Slot) (vs : List Value) (k : ℕ) → AreFinals added fs xs [] vs k
  finals_done : (es : List PExpr) (vs : List Value) (k : ℕ) → AreFinals added [] [] es vs k
  final_in : (f : FormalParameter) (x : Slot) (fs : List FormalParameter) (xs : List Slot) (e : PExpr) (es : List PExpr) (vs : List Value) (k : ℕ) → f.mode ≡ Take → x.mode ≡ Take →
      AreFinals added fs xs es vs (k + 1) → AreFinals added (f ∷ fs) (x ∷ xs) (e ∷ es) vs k
  final_give : (f : FormalParameter) (x : Slot) (fs : List FormalParameter) (xs : List Slot) (id : NameId) (at : Span) (es : List PExpr) (v : Value) (vs : List Value) (k : ℕ) → f.mode ≡ Give → x.mode ≡ Give →
      k < added.count → IsOld b id → IsKnown b v → lies_in (added.bounds k) (position_of v) ≡ true → AreFinals added fs xs es vs (k + 1) → AreFinals added (f ∷ fs) (x ∷ xs) (EName id at ∷ es) (v ∷ vs) k
  final_both : (f : FormalParameter) (x : Slot) (fs : List FormalParameter) (xs : List Slot) (id : NameId) (at : Span) (es : List PExpr) (v : Value) (vs : List Value) (k : ℕ) → f.mode ≡ Both → x.mode ≡ Both →
      k < added.count → IsOld b id → IsKnown b v → lies_in (added.bounds k) (position_of v) ≡ true → AreFinals added fs xs es vs (k + 1) → AreFinals added (f ∷ fs) (x ∷ xs) (EName id at ∷ es) (v ∷ vs) k

-- a task with the variables to which values came back: on with these statements, or as the exception that stopped it is raised
abbrev pub gone_back : PStmts → Task → Variables → Option Raised → Task
gone_back q t vars None = gone_to q (with_vars t vars)
gone_back q t vars (Some e) = raised_there e (with_vars t vars)

-- A call's statement, with the statements behind the call in it.
pub data HasCall : PStmt → PCall → PStmts → Type 0 where
  has_plain : (c : PCall) (s : Span) → HasCall (SCall c s) c no_stmt
  has_conditional : (c : PCall) (l m : PStmts) (s : Span) → HasCall (SConditional c l m s) c l
  has_timed : (c : PCall) (l : PStmts) (d : ℕ) (m : PStmts) (s : Span) → HasCall (STimed c l d m s) c l
