use Rattle.syn_event.specs.declared.meanings.Meant.TheVariants.{Inner}
use Rattle.ada_check_rules.proofs.scopes.Leaving.{name_more}
use Rattle.ada_check_rules.proofs.scopes.inner.declare_inner.Goals as goal

pub loop-name-preserved : goal.loop-name-preserved
loop-name-preserved c = name_more Inner _ _ _ c.args.names.now c.loop-name.name-index _ c.loop-name-test.true c.loop-name.invariant c.in_ok-declare.ensures
