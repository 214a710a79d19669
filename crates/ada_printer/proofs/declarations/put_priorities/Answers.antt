use Rattle.ada_tree.specs.PlainDecl.{plain_priority}
use Rattle.ada_printer.specs.DeclText.{priority_text}
use Rattle.ded_io.proofs.pages.Drawn.{drew_then}
use Rattle.ada_printer.proofs.Listed.{drew_seen_member}
use Rattle.ada_printer.proofs.declarations.put_priorities.Goals as goal

pub loop-priority-preserved : goal.loop-priority-preserved
loop-priority-preserved g c =
    drew_seen_member _ _ plain_priority (priority_text c.args.names.now c.args.level) c.args.priorities.now c.loop-priority.priority-index c.priority-item.result _ _ _ c.loop-priority-test.true c.priority-item.is c.loop-priority.invariant
    (drew_then _ _ _ _ _ c.put_indent.ensures c.put_pragma.ensures)
