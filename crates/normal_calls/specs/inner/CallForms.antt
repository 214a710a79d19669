-- The three forms of an entry call, and what a branch of a case over members holds (9.5, 9.7.2, 9.7.3).
use Rattle.std.specs.Prelude.{ℕ, [], ◌∷◌, None}
use Rattle.ada_tree.specs.declared.naming.NameId.{NameId}
use Rattle.ada_tree.specs.declared.naming.Span.{Span}
use Rattle.ada_tree.specs.declared.naming.Word.{Word}
use Rattle.ada_tree.specs.PlainExpr.{PExpr}
use Rattle.ada_tree.specs.PlainStmt.{PCall, PStmt, SCall, SConditional, STimed, PStmts, PCaseArm, case_arm}
use Rattle.task_model.specs.Setting.{Setting}
use Rattle.normal_model.specs.Ranges.{word_at}
use Rattle.normal_model.specs.Calls.{call_to, flagged}
use Rattle.normal_calls.specs.declared.call_forms.Form.{Form}
use Rattle.normal_calls.specs.declared.call_forms.Form.TheVariants.{Plain, Conditional, Timed}

-- a call of this form, with the statements behind it and those of its other part, of which a plain call has none
abbrev pub formed : Form → Span → PCall → PStmts → PStmts → PStmt
formed Plain s call met other = SCall call s
formed Conditional s call met other = SConditional call met other s
formed (Timed duration) s call met other = STimed call met duration other s

-- the call in the branch of a member: its parts tell which of them came
abbrev pub branch : Form → Setting → Span → PCall → ℕ → Word → PStmt
branch form g s c n w = formed form s (call_to g s c n w) (flagged g s c n 1) (flagged g s c n 2)

-- the branch of a member that is known by its index and its name
abbrev pub arm_for : Span → (Word → PStmts) → PExpr × NameId → PCaseArm
arm_for s what m = case_arm (record { first = m.0; last = None } ∷ []) (what (word_at s m.1))
