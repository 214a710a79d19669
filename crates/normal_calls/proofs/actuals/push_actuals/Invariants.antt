use Rattle.std.proofs.Common.{◌≡◌, map}
use Rattle.ada_tree.specs.PlainExpr.{plain_expr}
use Rattle.ada_tree.specs.PlainStmt.{seen}
use Rattle.task_model.specs.Frames.{in_front}
use Rattle.normal_model.specs.Calls.{actual_before}
use Rattle.normal_calls.specs.inner.Modes.{each_actual}
use Rattle.normal_calls.proofs.Around.{left_of}
use Rattle.normal_calls.proofs.actuals.push_actuals.Given as goal

-- what stands there, in front of what is left
abbrev pub invariant-loop-place : goal.invariant-loop-place
invariant-loop-place g l =
    in_front (seen l.initial.out.items) (each_actual (actual_before (g.M.Meanings.setting l.m) l.span) l.modes (map plain_expr l.actuals) l.number)
    ≡ in_front (seen l.out.items) (left_of (actual_before (g.M.Meanings.setting l.m) l.span) l.modes l.actuals l.number l.place)
