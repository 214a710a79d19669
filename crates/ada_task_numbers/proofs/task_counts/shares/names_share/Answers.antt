use Rattle.std.proofs.Common.{◌∙◌, ap, sym, map}
use Rattle.ada_tree.specs.PlainStmt.{plain_callee}
use Rattle.ada_task_numbers.specs.task_counts.inner.Shares.{shared}
use Rattle.ada_task_numbers.proofs.task_counts.Sharing.{itself, share_more, share_end, names_flat, shared_one}
use Rattle.ada_task_numbers.proofs.task_counts.shares.names_share.Goals as goal

pub loop-name-preserved : goal.loop-name-preserved
loop-name-preserved c = share_more c.args.rates.now itself plain_callee c.args.names.now c.loop-name.name-index c.name-item.result _ _ _ c.loop-name-test.true c.name-item.is c.loop-name.invariant (c.callee.ensures ∙ sym (shared_one c.args.rates.now (plain_callee c.name-item.result))) c.plus-share.ensures

pub returns : goal.returns
returns c = share_end c.args.rates.now itself plain_callee c.args.names.now c.loop-name.name-index _ c.loop-name-test.false c.loop-name.invariant ∙ ap (shared c.args.rates.now) (names_flat (map plain_callee c.args.names.now))
