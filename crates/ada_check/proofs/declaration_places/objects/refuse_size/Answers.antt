use Rattle.std.proofs.Common.{ap, ◌∙◌}
use Rattle.ada_tree.specs.PlainExpr.{plain_drange}
use Rattle.syn_event.specs.Extents.{size}
use Rattle.ada_check_rules.specs.rules.Amounts.{capped}
use Rattle.ada_check_rules.proofs.rules.CountLaws.{sized}
use Rattle.ada_check.proofs.declaration_places.objects.refuse_size.Goals as goal

pub returns : goal.returns
returns c =
    c.refuse_count.ensures c.args.around.now
    ∙ sized c.args.by.now c.args.around.now c.args.what _ _ _ _ (c.size.ensures ∙ ap (λ t. capped (size t (plain_drange c.args.range.now))) c.types.ensures) c.range_start.ensures
