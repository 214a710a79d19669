use Rattle.std.proofs.Common.{sym, ◌∙◌}
use Rattle.ada_tree.specs.PlainExpr.{plain_expr}
use Rattle.ada_types.proofs.Writing.{alone_met, image_alone_met, other_met}
use Rattle.ada_types.proofs.written_parts.refuse_plain.Goals as goal

pub returns-then-is_image : goal.returns-then-is_image
returns-then-is_image c = image_alone_met c.args.scope.now c.args.alone (plain_expr c.args.e.now) c.if-alone.true (sym c.is_image.ensures ∙ c.if-is_image.true)

pub returns-else-is_image : goal.returns-else-is_image
returns-else-is_image c = alone_met c.args.scope.now c.args.alone (plain_expr c.args.e.now) _ c.if-alone.true (sym c.is_image.ensures ∙ c.if-is_image.false) c.refuse_kind.ensures

pub returns-else-alone : goal.returns-else-alone
returns-else-alone c = other_met c.args.scope.now c.args.alone (plain_expr c.args.e.now) c.if-alone.false
