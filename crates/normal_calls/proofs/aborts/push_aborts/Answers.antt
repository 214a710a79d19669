use Rattle.std.proofs.Common.{◌≡◌, OnOk, subst}
use Rattle.ada_tree.specs.PlainStmt.{PStmts, seen}
use Rattle.task_model.specs.Frames.{in_front}
use Rattle.normal_calls.proofs.Ending.{abort-some, abort-empty}
use Rattle.normal_calls.proofs.aborts.push_aborts.Goals as goal

pub returns-then-is_empty : goal.returns-then-is_empty
returns-then-is_empty g c =
    abort-empty (g.M.Meanings.setting c.args.m.now) c.args.span c.args.callees.now c.new.result.items c.args.number c.is_empty.result c.abort_of.result c.push_made.result (seen c.args.out.now.items) (seen c.push_made.new.out.items)
    c.is_empty.ensures c.if-is_empty.true c.new.ensures.items c.abort_of.ensures c.push_made.ensures

pub returns-else-is_empty : goal.returns-else-is_empty
returns-else-is_empty g c =
    subst (λ (x : PStmts). OnOk c.push_each.result (seen c.push_each.new.out.items ≡ in_front (seen c.args.out.now.items) x))
    (abort-some (g.M.Meanings.setting c.args.m.now) c.args.span c.args.callees.now c.args.number c.is_empty.result c.is_empty.ensures c.if-is_empty.false)
    c.push_each.ensures
