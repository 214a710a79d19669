use Rattle.ada_tree.specs.PlainStmt.{plain_call}
use Rattle.task_waits.proofs.calls.Opening.{call_by_owner, call_by_none}
use Rattle.task_waits.proofs.calls.here.Here.called.Goals as goal

pub returns-in-Ok : goal.returns-in-Ok
returns-in-Ok c = call_by_owner c.args.self.now.links.now c.args.self.now.objects.now (plain_call c.args.call.now) c.in-Ok.owner c.entry_of.result c.called_with.result c.in-Ok.ensures c.entry_of.ensures c.called_with.ensures

pub returns-in-Err : goal.returns-in-Err
returns-in-Err c = call_by_none c.args.self.now.links.now c.args.self.now.objects.now (plain_call c.args.call.now) c.in-Err.raised c.in-Err.ensures
