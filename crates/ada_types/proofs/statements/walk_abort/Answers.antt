use Rattle.std.proofs.Common.{◌∙◌}
use Rattle.ada_tree.specs.PlainStmt.{plain_callee}
use Rattle.ada_static_rules.specs.Sites.{callee_sites}
use Rattle.ada_static_rules.proofs.Listing.{met_more}
use Rattle.ada_types.proofs.statements.walk_abort.Goals as goal

pub loop-name-preserved : goal.loop-name-preserved
loop-name-preserved c = c.first-refusal.ensures ∙ met_more (callee_sites c.args.scope.now) plain_callee c.args.names.now c.loop-name.name-index c.name-item.result c.name-item.result _ _ c.loop-name-test.true c.name-item.is c.loop-name.invariant c.walk_callee.ensures
