use Rattle.std.proofs.Common.{[], ◌∙◌}
use Rattle.replay_asking.proofs.names.Places.{interned_more}
use Rattle.collect_xform.proofs.names.intern_all.Goals as goal

pub loop-text-preserved : goal.loop-text-preserved
loop-text-preserved c =
    c.in_ok-intern.ensures.texts ∙
    interned_more (λ t. t.now) c.args.names.now c.args.texts.now c.loop-text.text-index record { ref_ptr = (0, 0); now = [] } _ c.loop-text-test.true c.loop-text.invariant
