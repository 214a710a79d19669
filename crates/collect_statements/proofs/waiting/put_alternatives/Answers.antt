use Rattle.std.proofs.Common.{◌≡◌, get_or, map, arith, rules}
use Rattle.ada_tree.specs.PlainStmt.{plain_alt}
use Rattle.collect_statements.specs.Looked.{teller_of}
use Rattle.collect_statements.proofs.Turning.{alternatives-turn, number-turn, left-turn}
use Rattle.collect_statements.proofs.waiting.put_alternatives.Goals as goal

pub loop-alt-preserved : goal.loop-alt-preserved
loop-alt-preserved c =
    let xs = c.deref_mut-alt-items.result.now in
    let d = c.alt-item.result in
    let i = c.loop-alt.alt-index in
    let x = get_or c.loop-alt.alt-items i d in
    let at : x ≡ get_or xs i d = c.loop-alt.invariant.left.same i d (omega arith) in
    record {
      told = alternatives-turn (teller_of c.args.x.now) xs i c.loop-alt.k x d (map plain_alt c.args.out.now.items) c.loop-alt.out.items c.push_alt.new.list.items c.alternative_told.result (search rules) at c.loop-alt.invariant.told c.loop-alt.invariant.number c.in_ok-push_alt.ensures c.alternative_told.ensures;
      number = number-turn xs i c.loop-alt.k c.in_ok-next.next x d (search rules) at c.loop-alt.invariant.number c.in_ok-next.ensures;
      left = left-turn xs c.loop-alt.alt-items i c.alternative_told.new.alt c.loop-alt.invariant.left;
    }
