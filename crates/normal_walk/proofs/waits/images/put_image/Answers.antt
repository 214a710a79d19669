use Rattle.std.proofs.Common.{rules, ◌≡◌}
use Rattle.ada_tree.proofs.Rows.{rows}
use Rattle.ada_tree.specs.PlainStmt.{SCall, SConditional, STimed, plain_call, plain_stmt, seen}
use Rattle.normal_walk.proofs.waits.Placed.{call-image, conditional-image, timed-image}
use Rattle.normal_walk.proofs.waits.images.put_image.Goals as goal

pub returns-in-Call : goal.returns-in-Call
returns-in-Call g c =
    let whole : plain_stmt c.args.stmt.now ≡ SCall (plain_call c.in-Call.call) c.args.stmt.now.span = search (rules, rows) in
    call-image c.push_call.result (g.M.Meanings.setting c.args.m.now) c.args.number (plain_stmt c.args.stmt.now) c.args.stmt.now.span c.in-Call.call _ (seen c.args.out.now.items) (seen c.push_call.new.out.items)
    c.in-Call.call-is whole c.push_call.ensures

pub returns-in-Conditional : goal.returns-in-Conditional
returns-in-Conditional g c =
    let whole : plain_stmt c.args.stmt.now ≡ SConditional (plain_call c.in-Conditional.call) (seen c.in-Conditional.behind.items) (seen c.in-Conditional.otherwise.items) c.args.stmt.now.span = search (rules, rows) in
    conditional-image c.push_conditional.result (g.M.Meanings.setting c.args.m.now) c.args.number (plain_stmt c.args.stmt.now) c.args.stmt.now.span c.in-Conditional.call _ c.in-Conditional.behind _ c.in-Conditional.otherwise _ (seen c.args.out.now.items) (seen c.push_conditional.new.out.items)
    c.in-Conditional.call-is c.in-Conditional.behind-is c.in-Conditional.otherwise-is whole c.push_conditional.ensures

pub returns-in-Timed : goal.returns-in-Timed
returns-in-Timed g c =
    let whole : plain_stmt c.args.stmt.now ≡ STimed (plain_call c.in-Timed.call) (seen c.in-Timed.behind.items) c.in-Timed.thousandths (seen c.in-Timed.after.items) c.args.stmt.now.span = search (rules, rows) in
    timed-image c.push_timed.result (g.M.Meanings.setting c.args.m.now) c.args.number (plain_stmt c.args.stmt.now) c.args.stmt.now.span c.in-Timed.call _ c.in-Timed.behind _ c.in-Timed.after _ c.in-Timed.thousandths _ (seen c.args.out.now.items) (seen c.push_timed.new.out.items)
    c.in-Timed.call-is c.in-Timed.behind-is c.in-Timed.thousandths-is c.in-Timed.after-is whole c.push_timed.ensures
