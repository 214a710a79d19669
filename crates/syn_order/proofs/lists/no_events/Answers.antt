use Rattle.std.proofs.Common.{[], ◌∷◌, ◌++◌, ap, ◌∙◌}
use Rattle.syn_order.proofs.Placing.{replicate_more}
use Rattle.syn_order.proofs.lists.no_events.Goals as goal

pub loop-place-preserved : goal.loop-place-preserved
loop-place-preserved c = c.in_ok-add_no_events.ensures ∙ ap (λ ls. ls ++ [] ∷ []) c.loop-place.invariant ∙ replicate_more c.loop-place.place []
