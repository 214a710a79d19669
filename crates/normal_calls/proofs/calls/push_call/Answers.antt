use Rattle.ada_tree.specs.PlainStmt.{seen}
use Rattle.normal_calls.proofs.Kept.{sequels}
use Rattle.normal_calls.proofs.calls.push_call.Goals as goal

pub returns : goal.returns
returns g c =
    sequels c.push_behind.result (seen c.args.out.now.items) (seen c.push_before.new.out.items) (seen c.push_chosen.new.out.items) (seen c.push_behind.new.out.items) _ _ _
    c.in_ok-push_before.ensures c.in_ok-push_chosen.ensures c.push_behind.ensures
