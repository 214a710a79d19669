use Rattle.ada_tree.specs.PlainDecl.{plain_task}
use Rattle.ada_printer.proofs.Declared.{rest_there}
use Rattle.ada_printer.proofs.declarations.put_task_rest.Goals as goal

pub returns : goal.returns
returns g c =
    rest_there c.args.names.now c.args.level c.deeper.result (plain_task c.args.task.now) c.args.task.now.entries.items c.deref.result.now c.deref-3.result.now c.args.task.now.priorities.items c.deref-2.result.now c.deref-4.result.now _ _ _ _
    (c.is_bare.ensures.some c.if-is_bare.false) c.deref.ensures.value c.deref-2.ensures.value c.deref-3.ensures.value c.deref-4.ensures.value c.deeper.ensures c.put-2.ensures c.put_items.ensures c.put_end.ensures
