use Rattle.std.proofs.Common.{◌∙◌, sym, ap, map}
use Rattle.ada_tree.specs.PlainStmt.{plain_stmt, plain_alt, plain_arm, plain_case_arm, plain_handler}
use Rattle.syn_event.specs.Callees.{stmt_callees}
use Rattle.ada_task_numbers.specs.task_counts.inner.Shares.{shared}
use Rattle.ada_task_numbers.specs.task_counts.inner.Copied.{each_alt, each_arm, each_case_arm, each_handler}
use Rattle.ada_task_numbers.proofs.task_counts.Sharing.{share_more, share_end, stmts_flat, alts_flat, arms_flat, case_arms_flat, handlers_flat, arm_told, case_arm_told, handler_told, stmt_told}
use Rattle.ada_task_numbers.proofs.task_counts.shares.+shares.Goals as goal

pub stmts_share-loop-stmt-preserved : goal.stmts_share-loop-stmt-preserved
stmts_share-loop-stmt-preserved t c = share_more c.args.rates.now stmt_callees plain_stmt c.args.list.now c.loop-stmt.stmt-index c.stmt-item.result _ _ _ c.loop-stmt-test.true c.stmt-item.is c.loop-stmt.invariant c.stmt_share.ensures c.plus-share.ensures

pub stmts_share-returns : goal.stmts_share-returns
stmts_share-returns t c = share_end c.args.rates.now stmt_callees plain_stmt c.args.list.now c.loop-stmt.stmt-index _ c.loop-stmt-test.false c.loop-stmt.invariant ∙ ap (shared c.args.rates.now) (sym (stmts_flat (map plain_stmt c.args.list.now)))

pub alts_share-loop-alt-preserved : goal.alts_share-loop-alt-preserved
alts_share-loop-alt-preserved t c = share_more c.args.rates.now each_alt plain_alt c.args.alts.now c.loop-alt.alt-index c.alt-item.result _ _ _ c.loop-alt-test.true c.alt-item.is c.loop-alt.invariant c.alt_share.ensures c.plus-share.ensures

pub alts_share-returns : goal.alts_share-returns
alts_share-returns t c = share_end c.args.rates.now each_alt plain_alt c.args.alts.now c.loop-alt.alt-index _ c.loop-alt-test.false c.loop-alt.invariant ∙ ap (shared c.args.rates.now) (sym (alts_flat (map plain_alt c.args.alts.now)))

pub arms_share-loop-arm-preserved : goal.arms_share-loop-arm-preserved
arms_share-loop-arm-preserved t c = share_more c.args.rates.now each_arm plain_arm c.args.arms.now c.loop-arm.arm-index c.arm-item.result _ _ _ c.loop-arm-test.true c.arm-item.is c.loop-arm.invariant (arm_told c.args.rates.now c.arm-item.result c.deref.result.now _ c.deref.ensures.value c.stmts_share.ensures) c.plus-share.ensures

pub arms_share-returns : goal.arms_share-returns
arms_share-returns t c = share_end c.args.rates.now each_arm plain_arm c.args.arms.now c.loop-arm.arm-index _ c.loop-arm-test.false c.loop-arm.invariant ∙ ap (shared c.args.rates.now) (sym (arms_flat (map plain_arm c.args.arms.now)))

pub case_arms_share-loop-arm-preserved : goal.case_arms_share-loop-arm-preserved
case_arms_share-loop-arm-preserved t c = share_more c.args.rates.now each_case_arm plain_case_arm c.args.arms.now c.loop-arm.arm-index c.arm-item.result _ _ _ c.loop-arm-test.true c.arm-item.is c.loop-arm.invariant (case_arm_told c.args.rates.now c.arm-item.result c.deref.result.now _ c.deref.ensures.value c.stmts_share.ensures) c.plus-share.ensures

pub case_arms_share-returns : goal.case_arms_share-returns
case_arms_share-returns t c = share_end c.args.rates.now each_case_arm plain_case_arm c.args.arms.now c.loop-arm.arm-index _ c.loop-arm-test.false c.loop-arm.invariant ∙ ap (shared c.args.rates.now) (sym (case_arms_flat (map plain_case_arm c.args.arms.now)))

pub handlers_share-loop-handler-preserved : goal.handlers_share-loop-handler-preserved
handlers_share-loop-handler-preserved t c = share_more c.args.rates.now each_handler plain_handler c.args.handlers.now c.loop-handler.handler-index c.handler-item.result _ _ _ c.loop-handler-test.true c.handler-item.is c.loop-handler.invariant (handler_told c.args.rates.now c.handler-item.result c.deref.result.now _ c.deref.ensures.value c.stmts_share.ensures) c.plus-share.ensures

pub handlers_share-returns : goal.handlers_share-returns
handlers_share-returns t c = share_end c.args.rates.now each_handler plain_handler c.args.handlers.now c.loop-handler.handler-index _ c.loop-handler-test.false c.loop-handler.invariant ∙ ap (shared c.args.rates.now) (sym (handlers_flat (map plain_handler c.args.handlers.now)))

pub stmt_share-returns : goal.stmt_share-returns
stmt_share-returns t c = stmt_told c.args.rates.now (plain_stmt c.args.stmt.now) _ _ _ _ _ c.plus-inner.ensures c.plus.ensures c.own_share.ensures c.inner_share.ensures c.rest_share.ensures
