use Rattle.std.proofs.Common.{[], ◌∷◌, ◌++◌, ap, ◌∙◌}
use Rattle.replay_xform.proofs.numbering.Owned.{set-at}
use Rattle.replay_xform.proofs.numbering.owners.push_at.Goals as goal

pub returns : goal.returns
returns c =
    set-at c.args.lists.now.items c.args.place c.index_mut.result.now c.push.new.self c.args.info c.requires
    (c.in_ok-push.ensures.items ∙ ap (λ l. l.items ++ c.args.info ∷ []) c.index_mut.ensures.value)
