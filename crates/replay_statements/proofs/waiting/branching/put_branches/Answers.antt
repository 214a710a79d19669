use Rattle.std.proofs.Common.{◌≡◌, get_or, map, arith, rules}
use Rattle.ada_tree.specs.PlainStmt.{plain_arm}
use Rattle.replay_asking.specs.Looked.{voice_of}
use Rattle.replay_statements.specs.waiting.Waited.{plain_pause}
use Rattle.replay_statements.proofs.waiting.Turning.{branches-turn, number-turn, left-turn}
use Rattle.replay_statements.proofs.waiting.branching.put_branches.Goals as goal

pub loop-alt-preserved : goal.loop-alt-preserved
loop-alt-preserved c =
    let xs = c.deref_mut-alt-items.result.now in
    let d = c.alt-item.result in
    let i = c.loop-alt.alt-index in
    let x = get_or c.loop-alt.alt-items i d in
    let at : x ≡ get_or xs i d = c.loop-alt.invariant.left.same i d (omega arith) in
    record {
      arms = branches-turn (voice_of c.args.x.now) (map plain_pause c.args.pauses.now) xs i c.loop-alt.k x d (map plain_arm c.args.out.now.items) c.loop-alt.out.items c.push_arm.new.list.items c.branch_of.result (search rules) at c.loop-alt.invariant.arms c.loop-alt.invariant.number c.in_ok-push_arm.ensures c.branch_of.ensures;
      number = number-turn xs i c.loop-alt.k c.in_ok-next.next x d (search rules) at c.loop-alt.invariant.number c.in_ok-next.ensures;
      left = left-turn xs c.loop-alt.alt-items i c.branch_of.new.alt c.loop-alt.invariant.left;
    }
