use Rattle.std.proofs.Common.{◌≡◌, ◌||◌, not, map, get_or, arith, rules}
use Rattle.ada_tree.specs.PlainDecl.{plain_decl}
use Rattle.replay_model.specs.ReplayTree.{is_task, is_body}
use Rattle.normal_parts.proofs.Turning.{filtered-turn, left-turn}
use Rattle.normal_parts.proofs.sorting.sort_decls.Goals as goal

pub loop-decl-preserved : goal.loop-decl-preserved
loop-decl-preserved c =
    let xs = c.deref_mut-decl-items.result.now in
    let d = c.decl-item.result in
    let i = c.loop-decl.decl-index in
    let x = get_or c.loop-decl.decl-items i d in
    let at : x ≡ get_or xs i d = c.loop-decl.invariant.left.same i d (omega arith) in
    record {
      objects = filtered-turn (λ d. not (is_task d || is_body d)) xs i x d (map plain_decl c.args.objects.now.items) c.loop-decl.objects.items c.sort_decl.new.objects.items (search rules) at c.loop-decl.invariant.objects c.in_ok-sort_decl.ensures.objects;
      tasks = filtered-turn is_task xs i x d (map plain_decl c.args.tasks.now.items) c.loop-decl.tasks.items c.sort_decl.new.tasks.items (search rules) at c.loop-decl.invariant.tasks c.in_ok-sort_decl.ensures.tasks;
      bodies = filtered-turn is_body xs i x d (map plain_decl c.args.bodies.now.items) c.loop-decl.bodies.items c.sort_decl.new.bodies.items (search rules) at c.loop-decl.invariant.bodies c.in_ok-sort_decl.ensures.bodies;
      left = left-turn xs c.loop-decl.decl-items i c.sort_decl.new.decl c.loop-decl.invariant.left;
    }
