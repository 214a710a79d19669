use Rattle.std.proofs.Common.{◌≡◌, ◌≤◌, ◌<◌, Some, None, sym, map, option_map, length, refl, rules, arith}
use denote.Param.Weighed.{most}
use Rattle.ada_tree.proofs.Rows.{rows}
use Rattle.ada_tree.proofs.statements.Stmt.TheLaws.{the_size}
use Rattle.ada_tree.specs.declared.statements.Stmt.{Stmt}
use Rattle.ada_tree.specs.declared.statements.Accept.{out-Accept}
use Rattle.ada_tree.specs.declared.statements.Arm.{out-Arm}
use Rattle.ada_tree.specs.declared.statements.Body.{out-Body}
use Rattle.ada_tree.specs.declared.statements.Handler.{out-Handler}
use Rattle.ada_tree.specs.PlainExpr.{plain_expr}
use Rattle.ada_tree.specs.PlainStmt.{SNull, SAssign, SDelay, SExit, SRaise, SAbort, SCall, SAccept, SWait, SConditional, STimed, SPut, SPutLine, SNewLine, SGet, SIf, SCase, SBlock, SLoop, present, absent, accepting, alternative, AAccept, ADelay, ATerminate, arm, case_arm, body, handler, alts_of, arms_of, case_arms_of, handlers_of, seen, plain_target, plain_callee, plain_call, plain_formal, plain_part, plain_choice, plain_scheme, plain_stmt, plain_accept, plain_alt, plain_alt_kind, plain_arm, plain_case_arm, plain_body, plain_handler}
use Rattle.ada_printer.specs.StmtText.{stmt_text, later_alt_text, later_arm_text, case_arm_text, handler_text}
use Rattle.ded_io.proofs.pages.Drawn.{drew_none}
use Rattle.ada_printer.proofs.Listed.{drew_seen_member, drew_seen_all}
use Rattle.ada_printer.proofs.Rowed.{drew_as, stmts_row, case_arms_row, handlers_row, alts_there, alts_none, arms_there, arms_none}
use Rattle.ada_printer.proofs.Formed as formed
use Rattle.ada_printer.proofs.nesting.+put.Goals as goal

pub put_stmts-loop-stmt-preserved : goal.put_stmts-loop-stmt-preserved
put_stmts-loop-stmt-preserved g t c =
    drew_seen_member _ _ plain_stmt (stmt_text c.args.names.now c.args.level) c.args.stmts.now c.loop-stmt.stmt-index c.stmt-item.result _ _ _ c.loop-stmt-test.true c.stmt-item.is c.loop-stmt.invariant
    c.put_stmt.ensures

pub put_stmts-returns : goal.put_stmts-returns
put_stmts-returns g t c =
    drew_as _ _ _ _ (sym (stmts_row c.args.names.now c.args.level (map plain_stmt c.args.stmts.now)))
    (drew_seen_all _ _ plain_stmt (stmt_text c.args.names.now c.args.level) c.args.stmts.now _ _ _ c.loop-stmt-test.false c.loop-stmt.invariant)

pub put_case_arms-loop-arm-preserved : goal.put_case_arms-loop-arm-preserved
put_case_arms-loop-arm-preserved g t c =
    let is : plain_case_arm c.arm-item.result ≡ case_arm (map plain_choice c.deref.result.now) (seen c.deref-in-loop-arm.result.now) = grind (arith, rows) in
    drew_seen_member _ _ plain_case_arm (case_arm_text c.args.names.now c.args.level) c.args.arms.now c.loop-arm.arm-index c.arm-item.result _ _ _ c.loop-arm-test.true c.arm-item.is c.loop-arm.invariant
    (formed.case_arm_there c.args.names.now c.args.level _ _ _ _ _ _ _ c.deeper-inner.ensures is c.put_case_line.ensures c.put_stmts.ensures)

pub put_case_arms-returns : goal.put_case_arms-returns
put_case_arms-returns g t c =
    drew_as _ _ _ _ (sym (case_arms_row c.args.names.now c.args.level (map plain_case_arm c.args.arms.now)))
    (drew_seen_all _ _ plain_case_arm (case_arm_text c.args.names.now c.args.level) c.args.arms.now _ _ _ c.loop-arm-test.false c.loop-arm.invariant)

pub put_handlers-loop-handler-preserved : goal.put_handlers-loop-handler-preserved
put_handlers-loop-handler-preserved g t c =
    let is : plain_handler c.handler-item.result ≡ handler c.deref.result.now (seen c.deref-in-loop-handler.result.now) (out-Handler c.handler-item.result).span = grind (arith, rows) in
    drew_seen_member _ _ plain_handler (handler_text c.args.names.now c.args.level) c.args.handlers.now c.loop-handler.handler-index c.handler-item.result _ _ _ c.loop-handler-test.true c.handler-item.is c.loop-handler.invariant
    (formed.handler_there c.args.names.now c.args.level _ _ _ _ _ _ _ _ c.deeper-inner.ensures is c.put_handler_line.ensures c.put_stmts.ensures)

pub put_handlers-returns : goal.put_handlers-returns
put_handlers-returns g t c =
    drew_as _ _ _ _ (sym (handlers_row c.args.names.now c.args.level (map plain_handler c.args.handlers.now)))
    (drew_seen_all _ _ plain_handler (handler_text c.args.names.now c.args.level) c.args.handlers.now _ _ _ c.loop-handler-test.false c.loop-handler.invariant)

pub put_alts-loop-alt-preserved : goal.put_alts-loop-alt-preserved
put_alts-loop-alt-preserved g t c =
    drew_seen_member _ _ plain_alt (later_alt_text c.args.names.now c.args.level) _ c.loop-alt.alt-index c.alt-item.result _ _ _ c.loop-alt-test.true c.alt-item.is c.loop-alt.invariant
    (formed.later_alt_there c.args.names.now c.args.level (plain_alt c.alt-item.result) _ _ _ _ c.deeper-inner.ensures c.put_line.ensures c.put_alt-in-loop-alt.ensures)

pub put_alts-returns-after-loop-alt : goal.put_alts-returns-after-loop-alt
put_alts-returns-after-loop-alt g t c =
    alts_there _ plain_alt c.args.names.now c.args.level _ c.args.alts.now _ c.first-item.result _ _ _ c.deeper-inner.ensures c.in-len1-up.len_at_least c.first-item.is refl c.put_alt.ensures
    (drew_seen_all _ _ plain_alt (later_alt_text c.args.names.now c.args.level) _ _ _ _ c.loop-alt-test.false c.loop-alt.invariant)

pub put_alts-returns-in-empty : goal.put_alts-returns-in-empty
put_alts-returns-in-empty g t c =
    alts_none _ plain_alt c.args.names.now c.args.level c.args.alts.now _ c.in-empty.len_below

pub put_arms-loop-arm-preserved : goal.put_arms-loop-arm-preserved
put_arms-loop-arm-preserved g t c =
    drew_seen_member _ _ plain_arm (later_arm_text c.args.names.now c.args.level) _ c.loop-arm.arm-index c.arm-item.result _ _ _ c.loop-arm-test.true c.arm-item.is c.loop-arm.invariant
    (formed.later_arm_there c.args.names.now c.args.level (plain_arm c.arm-item.result) _ _ _ c.put_line.ensures c.put_arm-in-loop-arm.ensures)

pub put_arms-returns-after-loop-arm : goal.put_arms-returns-after-loop-arm
put_arms-returns-after-loop-arm g t c =
    arms_there _ plain_arm c.args.names.now c.args.level c.args.arms.now _ c.first-item.result _ _ _ _ c.in-len1-up.len_at_least c.first-item.is refl c.put.ensures c.put_arm.ensures
    (drew_seen_all _ _ plain_arm (later_arm_text c.args.names.now c.args.level) _ _ _ _ c.loop-arm-test.false c.loop-arm.invariant)

pub put_arms-returns-in-empty : goal.put_arms-returns-in-empty
put_arms-returns-in-empty g t c =
    arms_none _ plain_arm c.args.names.now c.args.level c.args.arms.now _ c.in-empty.len_below

pub put_arm-returns : goal.put_arm-returns
put_arm-returns g t c =
    let is : plain_arm c.args.arm.now ≡ arm (plain_expr (out-Arm c.args.arm.now).test) (seen c.deref.result.now) = grind (arith, rows) in
    formed.arm_there c.args.names.now c.args.level _ _ _ _ _ _ _ _ c.deeper-inner.ensures is c.put_expr.ensures c.put.ensures c.put_stmts.ensures

pub put_body-returns-then-not-is_empty : goal.put_body-returns-then-not-is_empty
put_body-returns-then-not-is_empty g t c =
    let is : plain_body c.args.body.now ≡ body (seen c.deref.result.now) (handlers_of (map plain_handler c.deref-then-not-is_empty.result.now)) = grind (arith, rows) in
    let some : 1 ≤ length c.deref-then-not-is_empty.result.now = grind (arith, c.is_empty.ensures, c.if-not-is_empty.true, c.deref-then-not-is_empty.ensures.value) in
    formed.handled_there c.args.names.now c.args.level _ plain_handler _ _ _ c.deref-then-not-is_empty.result.now _ _ _ _ _ c.deeper-inner.ensures is some c.put.ensures c.put_stmts.ensures c.put_line.ensures c.put_handlers.ensures

pub put_body-returns-else-not-is_empty : goal.put_body-returns-else-not-is_empty
put_body-returns-else-not-is_empty g t c =
    let is : plain_body c.args.body.now ≡ body (seen c.deref.result.now) (handlers_of (map plain_handler (out-Body c.args.body.now).handlers.items)) = grind (arith, rows) in
    let none : length (out-Body c.args.body.now).handlers.items < 1 = grind (arith, c.is_empty.ensures, c.if-not-is_empty.false) in
    formed.unhandled_there c.args.names.now c.args.level _ plain_handler _ _ _ (out-Body c.args.body.now).handlers.items _ _ _ c.deeper-inner.ensures is none c.put.ensures c.put_stmts.ensures

pub put_accept-returns-in-Some : goal.put_accept-returns-in-Some
put_accept-returns-in-Some g t c =
    let is : plain_accept c.args.accept.now ≡ accepting record { entry = (out-Accept c.args.accept.now).entry; index = option_map plain_expr (out-Accept c.args.accept.now).index; formals = map plain_formal c.deref.result.now; span = (out-Accept c.args.accept.now).span } (present (seen c.deref-in-Some.result.now)) = grind (arith, rows) in
    formed.accept_there c.args.names.now c.args.level _ _ _ _ _ _ _ _ _ c.deeper-inner.ensures is c.put_head.ensures c.put.ensures c.put_stmts.ensures c.put_end.ensures

pub put_accept-returns-in-None : goal.put_accept-returns-in-None
put_accept-returns-in-None g t c =
    let is : plain_accept c.args.accept.now ≡ accepting record { entry = (out-Accept c.args.accept.now).entry; index = option_map plain_expr (out-Accept c.args.accept.now).index; formals = map plain_formal c.deref.result.now; span = (out-Accept c.args.accept.now).span } absent = grind (arith, rows) in
    formed.bare_accept_there c.args.names.now c.args.level _ _ _ _ _ is c.put_head.ensures c.put-in-None.ensures

pub put_alt_kind-returns-in-Accept : goal.put_alt_kind-returns-in-Accept
put_alt_kind-returns-in-Accept g t c =
    let is : plain_alt_kind c.args.kind.now ≡ AAccept (plain_accept c.in-Accept.accept) (seen c.deref.result.now) = grind (arith, rows) in
    formed.alt_accept_there c.args.names.now c.args.level _ _ _ _ _ _ _ is c.put_indent.ensures c.put_accept.ensures c.put_stmts.ensures

pub put_alt_kind-returns-in-Delay : goal.put_alt_kind-returns-in-Delay
put_alt_kind-returns-in-Delay g t c =
    let is : plain_alt_kind c.args.kind.now ≡ ADelay c.in-Delay.thousandths (seen c.deref-in-Delay.result.now) = grind (arith, rows) in
    formed.alt_delay_there c.args.names.now c.args.level _ _ _ _ _ _ is c.put_delay_line.ensures c.put_stmts-in-Delay.ensures

pub put_alt_kind-returns-in-Terminate : goal.put_alt_kind-returns-in-Terminate
put_alt_kind-returns-in-Terminate g t c =
    let is : plain_alt_kind c.args.kind.now ≡ ATerminate = grind (arith, rows) in
    formed.terminate_there c.args.names.now c.args.level _ _ _ is c.put_line.ensures

pub put_alt-returns-in-Some : goal.put_alt-returns-in-Some
put_alt-returns-in-Some g t c =
    let is : plain_alt c.args.alt.now ≡ alternative (Some (plain_expr c.in-Some.guard)) (plain_alt_kind c.args.alt.now.kind) c.args.alt.now.span = grind (arith, rows) in
    formed.guarded_there c.args.names.now c.args.level _ _ _ _ _ _ _ _ c.deeper-inner.ensures is c.put_guard.ensures c.put_alt_kind.ensures

pub put_alt-returns-in-None : goal.put_alt-returns-in-None
put_alt-returns-in-None g t c =
    let is : plain_alt c.args.alt.now ≡ alternative None (plain_alt_kind c.args.alt.now.kind) c.args.alt.now.span = grind (arith, rows) in
    formed.unguarded_there c.args.names.now c.args.level _ _ _ _ _ is c.put_alt_kind-in-None.ensures

pub put_stmt-returns-in-Null : goal.put_stmt-returns-in-Null
put_stmt-returns-in-Null g t c =
    let is : plain_stmt c.args.stmt.now ≡ SNull c.args.stmt.now.span = grind (arith, rows) in
    formed.simple_there c.args.names.now c.args.level _ _ _ _ _ is c.put_indent.ensures c.put.ensures

pub put_stmt-returns-in-Assign : goal.put_stmt-returns-in-Assign
put_stmt-returns-in-Assign g t c =
    let is : plain_stmt c.args.stmt.now ≡ SAssign (plain_target c.in-Assign.target) (plain_expr c.in-Assign.value) c.args.stmt.now.span = grind (arith, rows) in
    formed.simple_there c.args.names.now c.args.level _ _ _ _ _ is c.put_indent.ensures c.put_assign.ensures

pub put_stmt-returns-in-Delay : goal.put_stmt-returns-in-Delay
put_stmt-returns-in-Delay g t c =
    let is : plain_stmt c.args.stmt.now ≡ SDelay c.in-Delay.thousandths c.args.stmt.now.span = grind (arith, rows) in
    formed.simple_there c.args.names.now c.args.level _ _ _ _ _ is c.put_indent.ensures c.put_delay.ensures

pub put_stmt-returns-in-Exit : goal.put_stmt-returns-in-Exit
put_stmt-returns-in-Exit g t c =
    let is : plain_stmt c.args.stmt.now ≡ SExit c.in-Exit.name (option_map plain_expr c.in-Exit.test) c.args.stmt.now.span = grind (arith, rows) in
    formed.simple_there c.args.names.now c.args.level _ _ _ _ _ is c.put_indent.ensures c.put_exit.ensures

pub put_stmt-returns-in-Raise : goal.put_stmt-returns-in-Raise
put_stmt-returns-in-Raise g t c =
    let is : plain_stmt c.args.stmt.now ≡ SRaise c.in-Raise.name c.args.stmt.now.span = grind (arith, rows) in
    formed.simple_there c.args.names.now c.args.level _ _ _ _ _ is c.put_indent.ensures c.put_raise.ensures

pub put_stmt-returns-in-Abort : goal.put_stmt-returns-in-Abort
put_stmt-returns-in-Abort g t c =
    let is : plain_stmt c.args.stmt.now ≡ SAbort (map plain_callee c.deref.result.now) c.args.stmt.now.span = grind (arith, rows) in
    formed.simple_there c.args.names.now c.args.level _ _ _ _ _ is c.put_indent.ensures c.put_abort.ensures

pub put_stmt-returns-in-Call : goal.put_stmt-returns-in-Call
put_stmt-returns-in-Call g t c =
    let is : plain_stmt c.args.stmt.now ≡ SCall (plain_call c.in-Call.call) c.args.stmt.now.span = grind (arith, rows) in
    formed.simple_there c.args.names.now c.args.level _ _ _ _ _ is c.put_indent.ensures c.put_call.ensures

pub put_stmt-returns-in-Accept : goal.put_stmt-returns-in-Accept
put_stmt-returns-in-Accept g t c =
    let is : plain_stmt c.args.stmt.now ≡ SAccept (plain_accept c.in-Accept.accept) c.args.stmt.now.span = grind (arith, rows) in
    formed.simple_there c.args.names.now c.args.level _ _ _ _ _ is c.put_indent.ensures c.put_accept.ensures

pub put_stmt-returns-in-Put : goal.put_stmt-returns-in-Put
put_stmt-returns-in-Put g t c =
    let is : plain_stmt c.args.stmt.now ≡ SPut (map plain_part c.deref-in-Put.result.now) c.args.stmt.now.span = grind (arith, rows) in
    formed.simple_there c.args.names.now c.args.level _ _ _ _ _ is c.put_indent.ensures c.put_printed.ensures

pub put_stmt-returns-in-PutLine : goal.put_stmt-returns-in-PutLine
put_stmt-returns-in-PutLine g t c =
    let is : plain_stmt c.args.stmt.now ≡ SPutLine (map plain_part c.deref-in-PutLine.result.now) c.args.stmt.now.span = grind (arith, rows) in
    formed.simple_there c.args.names.now c.args.level _ _ _ _ _ is c.put_indent.ensures c.put_printed-in-PutLine.ensures

pub put_stmt-returns-in-NewLine : goal.put_stmt-returns-in-NewLine
put_stmt-returns-in-NewLine g t c =
    let is : plain_stmt c.args.stmt.now ≡ SNewLine c.args.stmt.now.span = grind (arith, rows) in
    formed.simple_there c.args.names.now c.args.level _ _ _ _ _ is c.put_indent.ensures c.put-in-NewLine.ensures

pub put_stmt-returns-in-Get : goal.put_stmt-returns-in-Get
put_stmt-returns-in-Get g t c =
    let is : plain_stmt c.args.stmt.now ≡ SGet (plain_target c.in-Get.target) c.args.stmt.now.span = grind (arith, rows) in
    formed.simple_there c.args.names.now c.args.level _ _ _ _ _ is c.put_indent.ensures c.put_get.ensures

pub put_stmt-returns-in-Conditional : goal.put_stmt-returns-in-Conditional
put_stmt-returns-in-Conditional g t c =
    let is : plain_stmt c.args.stmt.now ≡ SConditional (plain_call c.in-Conditional.call) (seen c.deref-in-Conditional.result.now) (seen c.deref-in-Conditional-2.result.now) c.args.stmt.now.span = grind (arith, rows) in
    formed.conditional_there c.args.names.now c.args.level _ _ _ _ _ _ _ _ _ _ _ _ _ _ c.deeper-inner.ensures is c.put_indent.ensures c.put-in-Conditional.ensures c.put_call_line.ensures c.put_stmts-in-Conditional.ensures c.put_line-in-Conditional.ensures c.put_stmts-in-Conditional-2.ensures c.put_line-in-Conditional-2.ensures

pub put_stmt-returns-in-Timed : goal.put_stmt-returns-in-Timed
put_stmt-returns-in-Timed g t c =
    let is : plain_stmt c.args.stmt.now ≡ STimed (plain_call c.in-Timed.call) (seen c.deref-in-Timed.result.now) c.in-Timed.thousandths (seen c.deref-in-Timed-2.result.now) c.args.stmt.now.span = grind (arith, rows) in
    formed.timed_there c.args.names.now c.args.level _ _ _ _ _ _ _ _ _ _ _ _ _ _ _ _ c.deeper-inner.ensures is c.put_indent.ensures c.put-in-Timed.ensures c.put_call_line-in-Timed.ensures c.put_stmts-in-Timed.ensures c.put_line-in-Timed.ensures c.put_delay_line.ensures c.put_stmts-in-Timed-2.ensures c.put_line-in-Timed-2.ensures

pub put_stmt-returns-in-Block : goal.put_stmt-returns-in-Block
put_stmt-returns-in-Block g t c =
    let is : plain_stmt c.args.stmt.now ≡ SBlock (plain_body c.in-Block.body) c.args.stmt.now.span = grind (arith, rows) in
    formed.block_there c.args.names.now c.args.level _ _ _ _ _ _ _ is c.put_indent.ensures c.put_body.ensures c.put_line-in-Block.ensures

pub put_stmt-returns-in-Loop : goal.put_stmt-returns-in-Loop
put_stmt-returns-in-Loop g t c =
    let is : plain_stmt c.args.stmt.now ≡ SLoop c.in-Loop.name (option_map plain_scheme c.in-Loop.scheme) (seen c.deref-in-Loop.result.now) c.args.stmt.now.span = grind (arith, rows) in
    formed.loop_there c.args.names.now c.args.level _ _ _ _ _ _ _ _ _ _ _ c.deeper-inner.ensures is c.put_indent.ensures c.put_loop_head.ensures c.put_stmts-in-Loop.ensures c.put_loop_end.ensures

pub put_stmt-returns-in-Some : goal.put_stmt-returns-in-Some
put_stmt-returns-in-Some g t c =
    let is : plain_stmt c.args.stmt.now ≡ SWait (alts_of (map plain_alt c.deref-in-Wait.result.now)) (present (seen c.deref-in-Some.result.now)) c.args.stmt.now.span = grind (arith, rows) in
    formed.wait_there c.args.names.now c.args.level _ _ (present (seen c.deref-in-Some.result.now)) _ _ _ _ _ _ _ is c.put_indent.ensures c.put-in-Wait.ensures c.put_alts.ensures
    (formed.else_there c.args.names.now c.args.level (present (seen c.deref-in-Some.result.now)) _ (seen c.deref-in-Some.result.now) _ _ _ c.deeper-inner.ensures refl c.put_line.ensures c.put_stmts.ensures) c.put_line-in-Some.ensures

pub put_stmt-returns-in-None : goal.put_stmt-returns-in-None
put_stmt-returns-in-None g t c =
    let is : plain_stmt c.args.stmt.now ≡ SWait (alts_of (map plain_alt c.deref-in-Wait.result.now)) absent c.args.stmt.now.span = grind (arith, rows) in
    formed.wait_there c.args.names.now c.args.level _ _ absent _ _ _ _ _ _ _ is c.put_indent.ensures c.put-in-Wait.ensures c.put_alts.ensures (formed.else_none c.args.names.now c.args.level absent _ refl) c.put_line-in-None.ensures

pub put_stmt-returns-in-Some-otherwise : goal.put_stmt-returns-in-Some-otherwise
put_stmt-returns-in-Some-otherwise g t c =
    let is : plain_stmt c.args.stmt.now ≡ SIf (arms_of (map plain_arm c.deref-in-If.result.now)) (present (seen c.deref-in-Some-otherwise.result.now)) c.args.stmt.now.span = grind (arith, rows) in
    formed.if_there c.args.names.now c.args.level _ _ (present (seen c.deref-in-Some-otherwise.result.now)) _ _ _ _ _ _ is c.put_indent.ensures c.put_arms.ensures
    (formed.else_there c.args.names.now c.args.level (present (seen c.deref-in-Some-otherwise.result.now)) _ (seen c.deref-in-Some-otherwise.result.now) _ _ _ c.deeper-inner.ensures refl c.put_line-in-Some-otherwise.ensures c.put_stmts-in-Some-otherwise.ensures) c.put_line-in-Some-otherwise-2.ensures

pub put_stmt-returns-in-None-otherwise : goal.put_stmt-returns-in-None-otherwise
put_stmt-returns-in-None-otherwise g t c =
    let is : plain_stmt c.args.stmt.now ≡ SIf (arms_of (map plain_arm c.deref-in-If.result.now)) absent c.args.stmt.now.span = grind (arith, rows) in
    formed.if_there c.args.names.now c.args.level _ _ absent _ _ _ _ _ _ is c.put_indent.ensures c.put_arms.ensures (formed.else_none c.args.names.now c.args.level absent _ refl) c.put_line-in-None-otherwise.ensures

pub put_stmt-returns-in-Some-others : goal.put_stmt-returns-in-Some-others
put_stmt-returns-in-Some-others g t c =
    let is : plain_stmt c.args.stmt.now ≡ SCase (plain_expr c.in-Case.selector) (case_arms_of (map plain_case_arm c.deref-in-Case.result.now)) (present (seen c.deref-in-Some-others.result.now)) c.args.stmt.now.span = grind (arith, rows) in
    formed.case_there c.args.names.now c.args.level _ _ _ _ (present (seen c.deref-in-Some-others.result.now)) _ _ _ _ _ _ _ c.deeper-inner.ensures is c.put_indent.ensures c.put_selector.ensures c.put_case_arms.ensures
    (formed.others_there c.args.names.now c.deeper-inner.result (present (seen c.deref-in-Some-others.result.now)) _ (seen c.deref-in-Some-others.result.now) _ _ _ c.deeper.ensures refl c.put_line-in-Some-others.ensures c.put_stmts-in-Some-others.ensures) c.put_line-in-Some-others-2.ensures

pub put_stmt-returns-in-None-others : goal.put_stmt-returns-in-None-others
put_stmt-returns-in-None-others g t c =
    let is : plain_stmt c.args.stmt.now ≡ SCase (plain_expr c.in-Case.selector) (case_arms_of (map plain_case_arm c.deref-in-Case.result.now)) absent c.args.stmt.now.span = grind (arith, rows) in
    formed.case_there c.args.names.now c.args.level _ _ _ _ absent _ _ _ _ _ _ _ c.deeper-inner.ensures is c.put_indent.ensures c.put_selector.ensures c.put_case_arms.ensures (formed.others_none c.args.names.now c.deeper-inner.result absent _ refl) c.put_line-in-None-others.ensures

pub put_alts-loop-alt-init : goal.put_alts-loop-alt-init
put_alts-loop-alt-init g t c = drew_none _

pub put_arms-loop-arm-init : goal.put_arms-loop-arm-init
put_arms-loop-arm-init g t c = drew_none _

pub put_case_arms-loop-arm-init : goal.put_case_arms-loop-arm-init
put_case_arms-loop-arm-init g t c = drew_none _

pub put_handlers-loop-handler-init : goal.put_handlers-loop-handler-init
put_handlers-loop-handler-init g t c = drew_none _

pub put_stmts-loop-stmt-init : goal.put_stmts-loop-stmt-init
put_stmts-loop-stmt-init g t c = drew_none _

pub put_stmt-put_stmts-requires : goal.put_stmt-put_stmts-requires
put_stmt-put_stmts-requires g t c κs within =
    let h : most {X = Stmt} (λ x. the_size x) c.deref-in-Some.result.now < the_size c.args.stmt.now = grind (arith, rows) in
    search (rules, h)

pub put_stmt-put_stmts-requires-in-Conditional : goal.put_stmt-put_stmts-requires-in-Conditional
put_stmt-put_stmts-requires-in-Conditional g t c κs within =
    let h : most {X = Stmt} (λ x. the_size x) c.deref-in-Conditional.result.now < the_size c.args.stmt.now = grind (arith, rows) in
    search (rules, h)

pub put_stmt-put_stmts-requires-in-Conditional-2 : goal.put_stmt-put_stmts-requires-in-Conditional-2
put_stmt-put_stmts-requires-in-Conditional-2 g t c κs within =
    let h : most {X = Stmt} (λ x. the_size x) c.deref-in-Conditional-2.result.now < the_size c.args.stmt.now = grind (arith, rows) in
    search (rules, h)

pub put_stmt-put_stmts-requires-in-Timed : goal.put_stmt-put_stmts-requires-in-Timed
put_stmt-put_stmts-requires-in-Timed g t c κs within =
    let h : most {X = Stmt} (λ x. the_size x) c.deref-in-Timed.result.now < the_size c.args.stmt.now = grind (arith, rows) in
    search (rules, h)

pub put_stmt-put_stmts-requires-in-Timed-2 : goal.put_stmt-put_stmts-requires-in-Timed-2
put_stmt-put_stmts-requires-in-Timed-2 g t c κs within =
    let h : most {X = Stmt} (λ x. the_size x) c.deref-in-Timed-2.result.now < the_size c.args.stmt.now = grind (arith, rows) in
    search (rules, h)

pub put_stmt-put_stmts-requires-in-Some-otherwise : goal.put_stmt-put_stmts-requires-in-Some-otherwise
put_stmt-put_stmts-requires-in-Some-otherwise g t c κs within =
    let h : most {X = Stmt} (λ x. the_size x) c.deref-in-Some-otherwise.result.now < the_size c.args.stmt.now = grind (arith, rows) in
    search (rules, h)

pub put_stmt-put_stmts-requires-in-Some-others : goal.put_stmt-put_stmts-requires-in-Some-others
put_stmt-put_stmts-requires-in-Some-others g t c κs within =
    let h : most {X = Stmt} (λ x. the_size x) c.deref-in-Some-others.result.now < the_size c.args.stmt.now = grind (arith, rows) in
    search (rules, h)
