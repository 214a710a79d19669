use Rattle.std.proofs.Common.{[], ◌∷◌, ◌++◌, ap, ◌∙◌}
use Rattle.replay_xform.proofs.numbering.Owned.{replicate-more}
use Rattle.replay_xform.proofs.numbering.owners.empty_lists.Goals as goal

pub loop-place-preserved : goal.loop-place-preserved
loop-place-preserved c = c.in_ok-add_empty.ensures ∙ ap (λ ls. ls ++ [] ∷ []) c.loop-place.invariant ∙ replicate-more c.loop-place.place []
