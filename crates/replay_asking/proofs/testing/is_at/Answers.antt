use Rattle.ada_tree.specs.PlainExpr.{plain_expr}
use Rattle.replay_asking.specs.Spoken.{both, is_value}
use Rattle.replay_asking.proofs.Made.{made-of_one, made-of_two}
use Rattle.replay_asking.proofs.testing.is_at.Goals as goal

pub returns : goal.returns
returns c =
    made-of_two plain_expr plain_expr plain_expr (both c.args.s) c.both_of.result c.is_for.result c.is_value-member.result _ _ c.both_of.ensures c.is_for.ensures
    (made-of_one plain_expr plain_expr (is_value c.args.s c.args.x.now.tables.now.added.index) c.is_value-member.result c.member_number-member.result _ c.is_value-member.ensures c.member_number-member.ensures)
