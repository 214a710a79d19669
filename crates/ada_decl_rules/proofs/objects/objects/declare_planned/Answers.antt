use Rattle.ada_decl_rules.specs.objects.inner.Plans.{declared_as}
use Rattle.ada_decl_rules.proofs.objects.Objecting.{plan_left}
use Rattle.ada_decl_rules.proofs.objects.objects.declare_planned.Goals as goal

pub returns-clause-scope : goal.returns-clause-scope
returns-clause-scope c =
    plan_left c.args.scope c.in_ok-scope.scope c.in_ok-scope-2.scope _ c.args.names.now (declared_as c.args.scope c.args.constant c.args.plan) c.in_ok-scope.thing c.args.known
    c.in_ok-scope.ensures c.in_ok-scope-2.ensures c.in_ok-declare_all.ensures
