use Rattle.std.proofs.Common.{◌∙◌}
use Rattle.ada_tree.specs.PlainStmt.{plain_part}
use Rattle.ada_static_rules.specs.Sites.{part_sites}
use Rattle.ada_static_rules.proofs.Listing.{met_more}
use Rattle.ada_types.proofs.statements.walk_text.Goals as goal

pub loop-part-preserved : goal.loop-part-preserved
loop-part-preserved c = c.first-refusal.ensures ∙ met_more (part_sites c.args.scope.now c.args.alone) plain_part c.args.parts.now c.loop-part.part-index c.part-item.result c.part-item.result _ _ c.loop-part-test.true c.part-item.is c.loop-part.invariant c.walk_part.ensures
