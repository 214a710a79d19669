use Rattle.std.proofs.Common.{sym, ap, ◌∙◌}
use Rattle.ada_tree.proofs.Rows.{plain_arm-out, plain_case_arm-out, plain_handler-out}
use Rattle.ada_tree.specs.PlainStmt.{plain_stmt, plain_alt, plain_arm, plain_case_arm, plain_handler, stmts_of, alts_of, arms_of, case_arms_of, handlers_of, seen}
use Rattle.normal_model.specs.Walk.{after_parts, after_stmts, after_alts, after_arms, after_case_arms, after_handlers}
use Rattle.tree_rewriting.specs.walking.Rules.{after_arm, after_case_arm, after_handler, behind_alt}
use Rattle.tree_rewriting.proofs.walking.Rows.{after-more, alts-behind, arms-behind, case_arms-behind, handlers-behind}
use Rattle.collect_model.specs.FirstAbort.{abort_finder, with_stmt}
use Rattle.collect_xform.proofs.Finding.{row-turn}
use Rattle.collect_xform.proofs.aborts.+finding.Goals as goal

pub behind_stmts-loop-stmt-preserved : goal.behind_stmts-loop-stmt-preserved
behind_stmts-loop-stmt-preserved t c =
    row-turn plain_stmt stmts_of (after_stmts abort_finder) (λ x found. after_parts abort_finder x (with_stmt found x)) (after-more abort_finder) c.args.stmts.now c.loop-stmt.stmt-index c.stmt-item.result c.args.found c.loop-stmt.found c.behind_stmt-found.result c.loop-stmt-test.true c.stmt-item.is c.loop-stmt.invariant c.behind_stmt-found.ensures

pub behind_alts-loop-alt-preserved : goal.behind_alts-loop-alt-preserved
behind_alts-loop-alt-preserved t c =
    row-turn plain_alt alts_of (after_alts abort_finder) (behind_alt abort_finder) (alts-behind abort_finder) c.args.alts.now c.loop-alt.alt-index c.alt-item.result c.args.found c.loop-alt.found c.behind_alternative-found.result c.loop-alt-test.true c.alt-item.is c.loop-alt.invariant c.behind_alternative-found.ensures

pub behind_arms-loop-arm-preserved : goal.behind_arms-loop-arm-preserved
behind_arms-loop-arm-preserved t c =
    row-turn plain_arm arms_of (after_arms abort_finder) (after_arm abort_finder) (arms-behind abort_finder) c.args.arms.now c.loop-arm.arm-index c.arm-item.result c.args.found c.loop-arm.found c.behind_stmts-found.result c.loop-arm-test.true c.arm-item.is c.loop-arm.invariant (c.behind_stmts-found.ensures ∙ ap (λ xs. after_stmts abort_finder (seen xs) c.loop-arm.found) c.deref.ensures.value ∙ ap (λ y. after_arm abort_finder y c.loop-arm.found) (sym (plain_arm-out c.arm-item.result)))

pub behind_case_arms-loop-arm-preserved : goal.behind_case_arms-loop-arm-preserved
behind_case_arms-loop-arm-preserved t c =
    row-turn plain_case_arm case_arms_of (after_case_arms abort_finder) (after_case_arm abort_finder) (case_arms-behind abort_finder) c.args.arms.now c.loop-arm.arm-index c.arm-item.result c.args.found c.loop-arm.found c.behind_stmts-found.result c.loop-arm-test.true c.arm-item.is c.loop-arm.invariant (c.behind_stmts-found.ensures ∙ ap (λ xs. after_stmts abort_finder (seen xs) c.loop-arm.found) c.deref.ensures.value ∙ ap (λ y. after_case_arm abort_finder y c.loop-arm.found) (sym (plain_case_arm-out c.arm-item.result)))

pub behind_handlers-loop-handler-preserved : goal.behind_handlers-loop-handler-preserved
behind_handlers-loop-handler-preserved t c =
    row-turn plain_handler handlers_of (after_handlers abort_finder) (after_handler abort_finder) (handlers-behind abort_finder) c.args.handlers.now c.loop-handler.handler-index c.handler-item.result c.args.found c.loop-handler.found c.behind_stmts-found.result c.loop-handler-test.true c.handler-item.is c.loop-handler.invariant (c.behind_stmts-found.ensures ∙ ap (λ xs. after_stmts abort_finder (seen xs) c.loop-handler.found) c.deref.ensures.value ∙ ap (λ y. after_handler abort_finder y c.loop-handler.found) (sym (plain_handler-out c.handler-item.result)))
