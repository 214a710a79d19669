use Rattle.std.proofs.Common.{◌≡◌, map}
use Rattle.ada_tree.specs.PlainExpr.{plain_expr}
use Rattle.task_model.specs.Calls.{copied_back}
use Rattle.task_waits.proofs.calls.Returning.{left_to_copy}
use Rattle.task_waits.proofs.calls.returns.copy_back.Given as goal

-- what is left comes to the whole
abbrev pub invariant-loop-place : goal.invariant-loop-place
invariant-loop-place l =
    copied_back l.formals (map plain_expr l.actuals) l.values l.fn.objects
    ≡ left_to_copy l.formals (map plain_expr l.actuals) l.values l.place l.taken l.objects
