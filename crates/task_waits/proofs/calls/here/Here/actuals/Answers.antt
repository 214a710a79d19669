use Rattle.ada_tree.specs.PlainStmt.{plain_call}
use Rattle.task_waits.proofs.calls.Opening.{values_by_owner, values_by_none}
use Rattle.common_lemmas.proofs.Results.{on_ok}
use Rattle.task_waits.proofs.calls.here.Here.actuals.Goals as goal

pub returns-in-Ok-clause-ok : goal.returns-in-Ok-clause-ok
returns-in-Ok-clause-ok c =
    on_ok c.put_actuals.result
    (λ is. values_by_owner c.args.self.now.links.now c.args.self.now.objects.now (plain_call c.args.call.now) c.in-Ok.owner c.entry_of-entry.result c.put_actuals.new.values.items c.in-Ok.ensures c.entry_of-entry.ensures is)
    c.put_actuals.ensures.ok

pub returns-in-Err-clause-ok : goal.returns-in-Err-clause-ok
returns-in-Err-clause-ok c = values_by_none c.args.self.now.links.now c.args.self.now.objects.now (plain_call c.args.call.now) c.in-Err.field-0 c.clear.new.self.items c.in-Err.ensures c.clear.ensures.items
