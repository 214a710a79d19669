use Rattle.std.proofs.Common.{map, sym, ◌∙◌}
use Rattle.replay_xform.proofs.numbering.Owned.{none-yet, lists-turn}
use Rattle.replay_xform.proofs.numbering.owners.lists_of.Goals as goal

pub loop-info-init : goal.loop-info-init
loop-info-init c = c.in_ok-lists.ensures ∙ sym (none-yet c.args.count 1)

pub loop-info-preserved : goal.loop-info-preserved
loop-info-preserved c =
    lists-turn c.args.entries.now c.loop-info.info-index c.args.count _ (map (λ l. l.items) c.loop-info.lists.items) (map (λ l. l.items) c.put_for.new.lists.items) c.loop-info-test.true c.loop-info.invariant c.in_ok-put_for.ensures
