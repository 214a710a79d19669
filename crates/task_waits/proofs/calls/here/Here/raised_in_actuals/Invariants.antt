use Rattle.std.proofs.Common.{◌≡◌, drop, map}
use Rattle.ada_tree.specs.PlainExpr.{plain_expr}
use Rattle.task_model.specs.Calls.{openings}
use Rattle.task_waits.specs.calls.Looks.{raised_by}
use Rattle.task_waits.proofs.calls.here.Here.raised_in_actuals.Given as goal

-- the actuals gone by raise nothing
abbrev pub invariant-loop-place : goal.invariant-loop-place
invariant-loop-place l =
    raised_by (openings l.self.links.now.types l.self.objects.now l.formals (map plain_expr l.actuals))
    ≡ raised_by (openings l.self.links.now.types l.self.objects.now (drop l.place l.formals) (drop l.place (map plain_expr l.actuals)))
