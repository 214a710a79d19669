use Rattle.std.proofs.Common.{◌∙◌}
use Rattle.ada_tree.specs.PlainStmt.{plain_target}
use Rattle.ada_static_rules.specs.Demand.{gets}
use Rattle.ada_static_rules.specs.Sites.{target_sites}
use Rattle.ada_static_rules.proofs.Meeting.{behind}
use Rattle.ada_entry_rules.proofs.targets.walk_get.Goals as goal

pub returns : goal.returns
returns c =
    c.first.ensures
    ∙ behind (target_sites c.args.scope.now (plain_target c.args.target.now)) c.args.scope.now (gets (plain_target c.args.target.now)) _ _ c.walk_target-walked.ensures.refusal_is c.refuse_get-other.ensures
