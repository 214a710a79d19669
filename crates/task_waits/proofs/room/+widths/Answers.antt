use Rattle.std.proofs.Common.{◌∙◌, ap}
use Rattle.ada_tree.specs.PlainStmt.{plain_stmt, seen}
use Rattle.task_waits.specs.Room.{widest_stmts}
use Rattle.task_waits.proofs.Widths.{width_more, width_end, stmt_one, stmt_all, stmt_widths, alt_one, alt_all, alt_widths, arm_one, arm_all, arm_widths, case_arm_one, case_arm_all, case_arm_widths, handler_one, handler_all, handler_widths, widest_of}
use Rattle.task_waits.proofs.room.+widths.Goals as goal

pub widest_among-loop-stmt-preserved : goal.widest_among-loop-stmt-preserved
widest_among-loop-stmt-preserved t c = width_more stmt_one stmt_all stmt_widths c.args.list.now c.loop-stmt.stmt-index c.stmt-item.result c.loop-stmt.width c.widest_stmt-found.result c.wider-width.result _ c.loop-stmt-test.true c.stmt-item.is c.widest_stmt-found.ensures c.wider-width.ensures c.loop-stmt.invariant

pub widest_among-returns : goal.widest_among-returns
widest_among-returns t c = width_end stmt_one stmt_all stmt_widths c.args.list.now c.loop-stmt.stmt-index c.loop-stmt.width _ c.loop-stmt-test.false c.loop-stmt.invariant

pub widest_alts-loop-alt-preserved : goal.widest_alts-loop-alt-preserved
widest_alts-loop-alt-preserved t c = width_more alt_one alt_all alt_widths c.args.alts.now c.loop-alt.alt-index c.alt-item.result c.loop-alt.width c.widest_kind-found.result c.wider-width.result _ c.loop-alt-test.true c.alt-item.is c.widest_kind-found.ensures c.wider-width.ensures c.loop-alt.invariant

pub widest_alts-returns : goal.widest_alts-returns
widest_alts-returns t c = width_end alt_one alt_all alt_widths c.args.alts.now c.loop-alt.alt-index c.loop-alt.width _ c.loop-alt-test.false c.loop-alt.invariant

pub widest_arms-loop-arm-preserved : goal.widest_arms-loop-arm-preserved
widest_arms-loop-arm-preserved t c = width_more arm_one arm_all arm_widths c.args.arms.now c.loop-arm.arm-index c.arm-item.result c.loop-arm.width c.widest_among-found.result c.wider-width.result _ c.loop-arm-test.true c.arm-item.is (c.widest_among-found.ensures ∙ ap (λ x. widest_stmts (seen x)) c.deref.ensures.value) c.wider-width.ensures c.loop-arm.invariant

pub widest_arms-returns : goal.widest_arms-returns
widest_arms-returns t c = width_end arm_one arm_all arm_widths c.args.arms.now c.loop-arm.arm-index c.loop-arm.width _ c.loop-arm-test.false c.loop-arm.invariant

pub widest_case_arms-loop-arm-preserved : goal.widest_case_arms-loop-arm-preserved
widest_case_arms-loop-arm-preserved t c = width_more case_arm_one case_arm_all case_arm_widths c.args.arms.now c.loop-arm.arm-index c.arm-item.result c.loop-arm.width c.widest_among-found.result c.wider-width.result _ c.loop-arm-test.true c.arm-item.is (c.widest_among-found.ensures ∙ ap (λ x. widest_stmts (seen x)) c.deref.ensures.value) c.wider-width.ensures c.loop-arm.invariant

pub widest_case_arms-returns : goal.widest_case_arms-returns
widest_case_arms-returns t c = width_end case_arm_one case_arm_all case_arm_widths c.args.arms.now c.loop-arm.arm-index c.loop-arm.width _ c.loop-arm-test.false c.loop-arm.invariant

pub widest_handlers-loop-handler-preserved : goal.widest_handlers-loop-handler-preserved
widest_handlers-loop-handler-preserved t c = width_more handler_one handler_all handler_widths c.args.handlers.now c.loop-handler.handler-index c.handler-item.result c.loop-handler.width c.widest_among-found.result c.wider-width.result _ c.loop-handler-test.true c.handler-item.is (c.widest_among-found.ensures ∙ ap (λ x. widest_stmts (seen x)) c.deref.ensures.value) c.wider-width.ensures c.loop-handler.invariant

pub widest_handlers-returns : goal.widest_handlers-returns
widest_handlers-returns t c = width_end handler_one handler_all handler_widths c.args.handlers.now c.loop-handler.handler-index c.loop-handler.width _ c.loop-handler-test.false c.loop-handler.invariant

pub widest_stmt-returns : goal.widest_stmt-returns
widest_stmt-returns t c = widest_of (plain_stmt c.args.stmt.now) c.room_at-own.result c.inner_width-inner.result c.rest_width-rest.result c.wider.result _ c.room_at-own.ensures c.inner_width-inner.ensures c.rest_width-rest.ensures c.wider.ensures c.wider-2.ensures
