use Rattle.std.proofs.Common.{sym, subst}
use Rattle.ada_decl_rules.specs.objects.inner.Plans.{declared_as}
use Rattle.ada_decl_rules.specs.objects.inner.Objects.{IsDeclared}
use Rattle.ada_decl_rules.proofs.objects.Objecting.{array_declared}
use Rattle.ada_decl_rules.proofs.objects.objects.make_objects.Goals as goal

pub returns-in_ok-scope-in-ConstrainedArray-2 : goal.returns-in_ok-scope-in-ConstrainedArray-2
returns-in_ok-scope-in-ConstrainedArray-2 c =
    subst (λ p. IsDeclared c.args.scope (declared_as c.args.scope c.args.constant p) c.in_ok-scope-in-ConstrainedArray-2.scope c.object-in-ConstrainedArray.result) (sym c.in-ConstrainedArray.is)
    (array_declared c.args.scope c.in_ok-scope-in-ConstrainedArray.scope c.in_ok-scope-in-ConstrainedArray-2.scope c.args.constant c.in-ConstrainedArray.index c.in-ConstrainedArray.making c.in_ok-scope-in-ConstrainedArray.part c.in_ok-scope-in-ConstrainedArray-2.mark c.object-in-ConstrainedArray.result
    c.in_ok-scope-in-ConstrainedArray.ensures c.in_ok-scope-in-ConstrainedArray-2.ensures c.object-in-ConstrainedArray.ensures)
