use Rattle.std.proofs.Common.{map}
use Rattle.ada_tree.specs.PlainStmt.{plain_formal}
use Rattle.ada_entry_rules.proofs.Accepting.{formals_met}
use Rattle.ada_entry_rules.proofs.accept_heads.walk_formals.Goals as goal

pub returns : goal.returns
returns c = formals_met c.args.scope.now (map plain_formal c.args.formals.now) _ c.walk_marks.ensures
