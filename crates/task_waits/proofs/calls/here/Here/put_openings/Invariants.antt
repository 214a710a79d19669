use Rattle.std.proofs.Common.{◌≡◌, drop, map}
use Rattle.ada_tree.specs.PlainExpr.{plain_expr}
use Rattle.task_model.specs.Calls.{openings}
use Rattle.task_waits.proofs.calls.Opening.{behind_values}
use Rattle.task_waits.proofs.calls.here.Here.put_openings.Given as goal

-- the opening values so far, in front of those that are left
abbrev pub invariant-loop-place : goal.invariant-loop-place
invariant-loop-place l =
    openings l.self.links.now.types l.self.objects.now l.formals (map plain_expr l.actuals)
    ≡ behind_values l.values.items (openings l.self.links.now.types l.self.objects.now (drop l.place l.formals) (drop l.place (map plain_expr l.actuals)))
