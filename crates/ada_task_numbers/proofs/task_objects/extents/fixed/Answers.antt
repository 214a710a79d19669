use Rattle.std.proofs.Common.{◌≡◌, Some, rules}
use Rattle.ada_tree.specs.PlainExpr.{plain_expr}
use Rattle.syn_event.specs.Extents.{fixed}
use Rattle.ada_task_numbers.proofs.task_objects.Reaching.{fixed_there, fixed_not}
use Rattle.ada_task_numbers.proofs.task_objects.extents.fixed.Goals as goal

pub returns-in-Ok : goal.returns-in-Ok
returns-in-Ok c =
    let told : Some c.in-Ok.value ≡ fixed c.args.types.now (plain_expr c.args.e.now) = fixed_there c.args.types.now (plain_expr c.args.e.now) c.in-Ok.value c.in-Ok.ensures in
    search (rules, told)

pub returns-in-Err : goal.returns-in-Err
returns-in-Err c = fixed_not c.args.types.now (plain_expr c.args.e.now) c.in-Err.field-0 c.in-Err.ensures
