use Rattle.normal_lookups.proofs.Statics.{kinds_step}
use Rattle.normal_lookups.proofs.static_names.know_kinds.Goals as goal

pub loop-kind-preserved : goal.loop-kind-preserved
loop-kind-preserved c =
    kinds_step c.args.kinds.now c.loop-kind.kind-index c.kind-item.result c.args.known.now c.loop-kind.known c.know_kind.new.known c.loop-kind-test.true c.kind-item.is c.in_ok-know_kind.ensures c.loop-kind.invariant
