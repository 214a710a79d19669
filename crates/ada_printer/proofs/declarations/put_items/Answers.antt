use Rattle.ada_tree.specs.PlainDecl.{plain_entry, plain_priority}
use Rattle.ded_io.proofs.pages.Drawn.{drew_then}
use Rattle.ada_printer.proofs.Declared.{front_none, front_more, front_all, items_parted, items_end}
use Rattle.ada_printer.proofs.declarations.put_items.Goals as goal

pub loop-before-init : goal.loop-before-init
loop-before-init g c = front_none _ _

pub loop-before-preserved : goal.loop-before-preserved
loop-before-preserved g c =
    front_more _ _ _ _ _ _ _ c.loop-before.invariant
    (items_parted plain_entry plain_priority c.args.names.now c.args.level c.args.entries.now c.loop-before.before c.index-entries-before.result c.loop-before.rest.now c.split_at.result.0.now c.split_at.result.1.now c.standing.result
    c.loop-before-test.true c.index-entries-before.is c.standing.ensures.value c.split_at.ensures.front c.split_at.ensures.back)
    (drew_then _ _ _ _ _ c.put_priorities.ensures c.put_entry.ensures)

pub returns : goal.returns
returns g c =
    front_all _ _ _ _ _ _ c.loop-before.invariant (items_end plain_entry plain_priority c.args.names.now c.args.level c.args.entries.now c.loop-before.before c.loop-before.rest.now c.loop-before-test.false) c.put_priorities-2.ensures
