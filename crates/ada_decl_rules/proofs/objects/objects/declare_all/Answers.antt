use Rattle.ada_scopes.proofs.Inner.{name_declared}
use Rattle.ada_decl_rules.proofs.objects.objects.declare_all.Goals as goal

pub loop-name-preserved : goal.loop-name-preserved
loop-name-preserved c = name_declared _ _ _ _ _ c.args.names.now _ _ c.loop-name-test.true c.in_ok-declare.ensures.ok c.in_ok-shared.ensures c.loop-name.invariant
