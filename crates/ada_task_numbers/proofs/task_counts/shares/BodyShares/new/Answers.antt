use Rattle.ada_task_numbers.proofs.task_counts.Copying.{shares_back}
use Rattle.ada_task_numbers.proofs.task_counts.shares.BodyShares.new.Goals as goal

pub loop-done-preserved : goal.loop-done-preserved
loop-done-preserved c = shares_back c.args.rates.now c.args.decls.now c.loop-done.done c.index-decls-place.result _ _ c.loop-done-test.true c.index-decls-place.is c.loop-done.invariant c.in_ok-add_share.ensures
