use Rattle.std.proofs.Common.{◌∙◌}
use Rattle.ada_types.proofs.Lists.{exceptions_all, exceptions_more}
use Rattle.ada_types.proofs.statements.walk_exceptions.Goals as goal

pub loop-name-preserved : goal.loop-name-preserved
loop-name-preserved c = c.first-refusal.ensures ∙ exceptions_more c.args.scope.now c.args.names.now c.loop-name.name-index _ _ _ c.loop-name-test.true c.loop-name.invariant c.refuse_no_exception.ensures

pub returns : goal.returns
returns c = λ before. exceptions_all c.args.scope.now before c.args.names.now c.loop-name.name-index _ c.loop-name-test.false c.loop-name.invariant
