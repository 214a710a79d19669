use Rattle.task_links.proofs.KeepingLemmas.{constant_step}
use Rattle.task_links.proofs.type_names.keep_constants.Goals as goal

pub loop-constant-preserved : goal.loop-constant-preserved
loop-constant-preserved c =
    constant_step c.args.types.now c.args.map.now c.loop-constant.map c.keep_first.new.map c.args.constants.now c.loop-constant.constant-index _ c.constant_value.result
    c.loop-constant-test.true c.constant_value.ensures c.loop-constant.invariant c.in_ok-keep_first.ensures
