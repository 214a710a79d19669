use Rattle.std.proofs.Common.{◌≡◌, ◌+◌, get_or, length, map, take, arith}
use Rattle.std.proofs.lemmas.List.{length-map, length-take}
use Rattle.ada_tree.specs.PlainStmt.{plain_alt, plain_arm}
use Rattle.normal_parts.proofs.Turning.{left-turn}
use Rattle.collect_abort.specs.Looked.{told_of}
use Rattle.collect_abort.proofs.Waiting.{told-turn, arms-turn, number-turn}
use Rattle.collect_abort.proofs.waits.put_alternatives.Goals as goal

pub loop-alt-preserved : goal.loop-alt-preserved
loop-alt-preserved c =
    let v = told_of c.args.x.now in
    let n = c.args.place in
    let xs = c.deref_mut-alt-items.result.now in
    let d = c.alt-item.result in
    let i = c.loop-alt.alt-index in
    let x = get_or c.loop-alt.alt-items i d in
    let h = c.loop-alt-test.true in
    let at : x ≡ get_or xs i d = c.loop-alt.invariant.left.same i d (omega arith) in
    let so_far = c.loop-alt.invariant.part in
    let size : c.loop-alt.part ≡ 1 + length (map plain_alt (take i xs)) = omega (arith, so_far, h, length-map (take i xs) plain_alt, length-take i xs) in
    record {
      told = told-turn v n xs i c.loop-alt.part c.loop-alt.k x d (map plain_alt c.args.told.now.items) (map plain_alt c.loop-alt.told.items) (map plain_alt c.put_alternative.new.told.items) h at c.loop-alt.invariant.told size c.loop-alt.invariant.number c.in_ok-put_alternative.ensures.told;
      arms = arms-turn v n xs i c.loop-alt.part x d (map plain_arm c.args.arms.now.items) (map plain_arm c.loop-alt.arms.items) (map plain_arm c.put_alternative.new.arms.items) h at c.loop-alt.invariant.arms size c.in_ok-put_alternative.ensures.arms;
      part = let step = c.in_ok-part.ensures in omega (arith, step, so_far);
      number = number-turn xs i c.loop-alt.k c.in_ok-next.next x d h at c.loop-alt.invariant.number c.in_ok-next.ensures;
      left = left-turn xs c.loop-alt.alt-items i c.put_alternative.new.alt c.loop-alt.invariant.left;
    }
