use Rattle.std.proofs.Common.{◌≡◌, ◌∙◌, sym, ap, map, option_map, arith, true, false, is_some, []}
use Rattle.ada_tree.specs.declared.statements.Accept.{out-Accept}
use Rattle.ada_tree.specs.PlainExpr.{plain_expr}
use Rattle.ada_tree.specs.PlainStmt.{SConditional, STimed, SCase, absent, present, plain_stmt, plain_alt, plain_arm, plain_case_arm, plain_handler, plain_call, plain_formal, stmts_of, case_arms_of}
use Rattle.ada_static_rules.specs.Declaring.{with_name, with_formals}
use Rattle.ada_static_rules.specs.Sites.{stmt_sites}
use Rattle.ada_tree.proofs.Rows.{rows}
use Rattle.ada_static_rules.specs.RefusedFirst.{refused_first}
use Rattle.ada_scopes.specs.Entries.{plain_range}
use Rattle.ada_scopes.specs.Denotations.{plain_thing}
use Rattle.ada_types.specs.inner.SitesOfMembers.{each_alt, each_arm, each_case_arm, each_handler}
use Rattle.ada_scopes.proofs.Inner.{left, room, inner_parameter, inner_formals}
use Rattle.ada_static_rules.proofs.Listing.{turn, met_all}
use Rattle.ada_types.proofs.Lists.{stmts_flat, alts_flat, arms_flat, case_arms_flat, handlers_flat, arm_told, handler_told, accept_told, head_told, branches_told, case_others, case_alone}
use Rattle.ada_types.proofs.statements.+statements.Goals as goal

pub walk_stmts-loop-stmt-preserved : goal.walk_stmts-loop-stmt-preserved
walk_stmts-loop-stmt-preserved t c = record {
  same = c.in_ok-found.ensures.kept ∙ c.loop-stmt.invariant.same;
  told = turn stmt_sites plain_stmt c.args.list.now c.loop-stmt.stmt-index c.stmt-item.result c.args.scope.now c.loop-stmt.scope _ _ _ c.loop-stmt-test.true c.stmt-item.is c.loop-stmt.invariant.same c.first-refusal.ensures c.loop-stmt.invariant.told c.in_ok-found.ensures.told;
}

pub walk_stmts-returns : goal.walk_stmts-returns
walk_stmts-returns t c = record {
  kept = c.loop-stmt.invariant.same;
  told = met_all (stmt_sites c.args.scope.now) plain_stmt c.args.list.now c.loop-stmt.stmt-index _ c.loop-stmt-test.false c.loop-stmt.invariant.told ∙ ap refused_first (sym (stmts_flat c.args.scope.now (map plain_stmt c.args.list.now)));
}

pub walk_alts-loop-alt-preserved : goal.walk_alts-loop-alt-preserved
walk_alts-loop-alt-preserved t c = record {
  same = c.in_ok-found.ensures.kept ∙ c.loop-alt.invariant.same;
  told = turn each_alt plain_alt c.args.alts.now c.loop-alt.alt-index c.alt-item.result c.args.scope.now c.loop-alt.scope _ _ _ c.loop-alt-test.true c.alt-item.is c.loop-alt.invariant.same c.first-refusal.ensures c.loop-alt.invariant.told c.in_ok-found.ensures.told;
}

pub walk_alts-returns : goal.walk_alts-returns
walk_alts-returns t c = record {
  kept = c.loop-alt.invariant.same;
  told = met_all (each_alt c.args.scope.now) plain_alt c.args.alts.now c.loop-alt.alt-index _ c.loop-alt-test.false c.loop-alt.invariant.told ∙ ap refused_first (sym (alts_flat c.args.scope.now (map plain_alt c.args.alts.now)));
}

pub walk_arms-loop-arm-preserved : goal.walk_arms-loop-arm-preserved
walk_arms-loop-arm-preserved t c = record {
  same = c.in_ok-found.ensures.kept ∙ c.loop-arm.invariant.same;
  told = turn each_arm plain_arm c.args.arms.now c.loop-arm.arm-index c.arm-item.result c.args.scope.now c.loop-arm.scope _ _ _ c.loop-arm-test.true c.arm-item.is c.loop-arm.invariant.same c.first-refusal.ensures c.loop-arm.invariant.told c.in_ok-found.ensures.told;
}

pub walk_arms-returns : goal.walk_arms-returns
walk_arms-returns t c = record {
  kept = c.loop-arm.invariant.same;
  told = met_all (each_arm c.args.scope.now) plain_arm c.args.arms.now c.loop-arm.arm-index _ c.loop-arm-test.false c.loop-arm.invariant.told ∙ ap refused_first (sym (arms_flat c.args.scope.now (map plain_arm c.args.arms.now)));
}

pub walk_case_arms-loop-arm-preserved : goal.walk_case_arms-loop-arm-preserved
walk_case_arms-loop-arm-preserved t c = record {
  same = c.in_ok-found.ensures.kept ∙ c.loop-arm.invariant.same;
  told = turn (λ s. each_case_arm s c.args.kind (option_map plain_range c.args.values)) plain_case_arm c.args.arms.now c.loop-arm.arm-index c.arm-item.result c.args.scope.now c.loop-arm.scope _ _ _ c.loop-arm-test.true c.arm-item.is c.loop-arm.invariant.same c.first-refusal.ensures c.loop-arm.invariant.told c.in_ok-found.ensures.told;
}

pub walk_case_arms-returns : goal.walk_case_arms-returns
walk_case_arms-returns t c = record {
  kept = c.loop-arm.invariant.same;
  told = met_all (each_case_arm c.args.scope.now c.args.kind (option_map plain_range c.args.values)) plain_case_arm c.args.arms.now c.loop-arm.arm-index _ c.loop-arm-test.false c.loop-arm.invariant.told ∙ ap refused_first (sym (case_arms_flat c.args.scope.now c.args.kind (option_map plain_range c.args.values) (map plain_case_arm c.args.arms.now)));
}

pub walk_handlers-loop-handler-preserved : goal.walk_handlers-loop-handler-preserved
walk_handlers-loop-handler-preserved t c = record {
  same = c.in_ok-found.ensures.kept ∙ c.loop-handler.invariant.same;
  told = turn each_handler plain_handler c.args.handlers.now c.loop-handler.handler-index c.handler-item.result c.args.scope.now c.loop-handler.scope _ _ _ c.loop-handler-test.true c.handler-item.is c.loop-handler.invariant.same c.first-refusal.ensures c.loop-handler.invariant.told c.in_ok-found.ensures.told;
}

pub walk_handlers-returns : goal.walk_handlers-returns
walk_handlers-returns t c = record {
  kept = c.loop-handler.invariant.same;
  told = met_all (each_handler c.args.scope.now) plain_handler c.args.handlers.now c.loop-handler.handler-index _ c.loop-handler-test.false c.loop-handler.invariant.told ∙ sym (handlers_flat c.args.scope.now _ (map plain_handler c.args.handlers.now));
}

pub walk_arm-returns-clause-told : goal.walk_arm-returns-clause-told
walk_arm-returns-clause-told t c = arm_told c.args.scope.now c.args.arm.now _ _ _ _ c.first.ensures c.deref.ensures.value c.walk_condition-test.ensures c.in_ok-behind.ensures.told

pub walk_handler-returns-clause-told : goal.walk_handler-returns-clause-told
walk_handler-returns-clause-told t c = handler_told c.args.scope.now c.args.handler.now c.deref.result.now c.deref-2.result.now _ _ _ c.first.ensures c.deref.ensures.value c.deref-2.ensures.value (c.walk_exceptions-names.ensures []) c.in_ok-behind.ensures.told

pub walk_accept-returns-in_ok-inner-in-Some-clause-told : goal.walk_accept-returns-in_ok-inner-in-Some-clause-told
walk_accept-returns-in_ok-inner-in-Some-clause-told t c =
    accept_told c.args.scope.now c.args.accept.now c.in-Some.list c.deref.result.now c.deref-in-Some.result.now c.deref-in-Some-2.result.now c.first.result c.walk_head-head.result c.in_ok-inner-in-Some.inner c.in-Some.is c.first.ensures
    c.deref.ensures.value c.deref-in-Some.ensures.value c.deref-in-Some-2.ensures.value (c.walk_head-head.ensures (out-Accept c.args.accept.now).span) c.in_ok-inner-in-Some.ensures.told

pub walk_accept-returns-in-None-clause-told : goal.walk_accept-returns-in-None-clause-told
walk_accept-returns-in-None-clause-told t c = head_told c.args.scope.now c.args.accept.now c.deref.result.now c.walk_head-head.result c.in-None.is c.deref.ensures.value (c.walk_head-head.ensures (out-Accept c.args.accept.now).span)

pub walk_stmt-returns-in_ok-other-in-Conditional-clause-told : goal.walk_stmt-returns-in_ok-other-in-Conditional-clause-told
walk_stmt-returns-in_ok-other-in-Conditional-clause-told t c =
    let shape : plain_stmt c.args.stmt.now ≡ SConditional (plain_call c.in-Conditional.call) (stmts_of (map plain_stmt c.in-Conditional.behind.items)) (stmts_of (map plain_stmt c.in-Conditional.otherwise.items)) c.args.stmt.now.span = grind (arith, rows) in
    branches_told c.args.scope.now c.walk_stmts-in-Conditional.new.scope (plain_call c.in-Conditional.call) c.in-Conditional.behind.items c.in-Conditional.otherwise.items c.deref-in-Conditional.result.now c.deref-in-Conditional-2.result.now _ _ _ _ _
    c.first-in-Conditional-2.ensures c.first-in-Conditional.ensures c.in_ok-behind-in-Conditional.ensures.kept c.deref-in-Conditional.ensures.value c.deref-in-Conditional-2.ensures.value c.walk_call-head.ensures c.in_ok-behind-in-Conditional.ensures.told c.in_ok-other-in-Conditional.ensures.told
    ∙ ap (λ p. refused_first (stmt_sites c.args.scope.now p)) (sym shape)

pub walk_stmt-returns-in_ok-other-in-Timed-clause-told : goal.walk_stmt-returns-in_ok-other-in-Timed-clause-told
walk_stmt-returns-in_ok-other-in-Timed-clause-told t c =
    let shape : plain_stmt c.args.stmt.now ≡ STimed (plain_call c.in-Timed.call) (stmts_of (map plain_stmt c.in-Timed.behind.items)) c.in-Timed.thousandths (stmts_of (map plain_stmt c.in-Timed.after.items)) c.args.stmt.now.span = grind (arith, rows) in
    branches_told c.args.scope.now c.walk_stmts-in-Timed.new.scope (plain_call c.in-Timed.call) c.in-Timed.behind.items c.in-Timed.after.items c.deref-in-Timed.result.now c.deref-in-Timed-2.result.now _ _ _ _ _
    c.first-in-Timed-2.ensures c.first-in-Timed.ensures c.in_ok-behind-in-Timed.ensures.kept c.deref-in-Timed.ensures.value c.deref-in-Timed-2.ensures.value c.walk_call-head-in-Timed.ensures c.in_ok-behind-in-Timed.ensures.told c.in_ok-other-in-Timed.ensures.told
    ∙ ap (λ p. refused_first (stmt_sites c.args.scope.now p)) (sym shape)

pub walk_stmt-returns-in_ok-rest-in-Some-others-clause-told : goal.walk_stmt-returns-in_ok-rest-in-Some-others-clause-told
walk_stmt-returns-in_ok-rest-in-Some-others-clause-told t c =
    let shape : plain_stmt c.args.stmt.now ≡ SCase (plain_expr c.in-Case.selector) (case_arms_of (map plain_case_arm c.in-Case.arms.items)) (present (stmts_of (map plain_stmt c.in-Some-others.list.items))) c.args.stmt.now.span = grind (arith, rows) in
    let others : c.is_some.result ≡ true = c.is_some.ensures ∙ ap is_some c.in-Some-others.is in
    case_others c.args.scope.now c.walk_case_arms.new.scope (plain_expr c.in-Case.selector) c.in-Case.arms.items c.deref-in-Case.result.now c.deref-in-Case-2.result.now c.in-Some-others.list.items c.deref-in-Some-others.result.now c.is_some.result c.args.stmt.now.span c.in_ok-head-in-Case.head _ _ _ _
    c.first-in-Some-others-2.ensures c.first-in-Some-others.ensures c.deref-in-Case.ensures.value c.deref-in-Case-2.ensures.value c.deref-in-Some-others.ensures.value others c.in_ok-inner-in-Case.ensures.kept c.in_ok-head-in-Case.ensures c.in_ok-inner-in-Case.ensures.told c.in_ok-rest-in-Some-others.ensures.told
    ∙ ap (λ p. refused_first (stmt_sites c.args.scope.now p)) (sym shape)

pub walk_stmt-returns-in-None-others-clause-told : goal.walk_stmt-returns-in-None-others-clause-told
walk_stmt-returns-in-None-others-clause-told t c =
    let shape : plain_stmt c.args.stmt.now ≡ SCase (plain_expr c.in-Case.selector) (case_arms_of (map plain_case_arm c.in-Case.arms.items)) absent c.args.stmt.now.span = grind (arith, rows) in
    let others : c.is_some.result ≡ false = c.is_some.ensures ∙ ap is_some c.in-None-others.is in
    case_alone c.args.scope.now (plain_expr c.in-Case.selector) c.in-Case.arms.items c.deref-in-Case.result.now c.deref-in-Case-2.result.now c.is_some.result c.args.stmt.now.span c.in_ok-head-in-Case.head _ _
    c.first-in-None-others.ensures c.deref-in-Case.ensures.value c.deref-in-Case-2.ensures.value others c.in_ok-head-in-Case.ensures c.in_ok-inner-in-Case.ensures.told
    ∙ ap (λ p. refused_first (stmt_sites c.args.scope.now p)) (sym shape)

pub walk_counted-returns-clause-kept : goal.walk_counted-returns-clause-kept
walk_counted-returns-clause-kept t c =
    left c.args.scope.now _ c.walk_stmts.new.scope c.leave.new.self c.enter-outer.result c.enter-outer.ensures.outer (inner_parameter (plain_thing c.parameter-thing.result) c.args.scope.now c.args.name)
    (c.in_ok-inner.ensures.kept ∙ c.in_ok-declare.ensures.ok ∙ ap (λ s. with_name (plain_thing c.parameter-thing.result) s c.args.name) c.enter-outer.ensures.scope) c.leave.ensures

pub walk_inner-leave-requires-clause-within : goal.walk_inner-leave-requires-clause-within
walk_inner-leave-requires-clause-within t c =
    room c.args.scope.now _ c.walk_stmts.new.scope c.enter-outer.result c.enter-outer.ensures.outer (inner_formals c.args.scope.now (map plain_formal c.args.formals.now))
    (c.in_ok-refusal.ensures.kept ∙ c.in_ok-declare_formals.ensures ∙ ap (λ s. with_formals s (map plain_formal c.args.formals.now)) c.enter-outer.ensures.scope)

pub walk_inner-returns-clause-kept : goal.walk_inner-returns-clause-kept
walk_inner-returns-clause-kept t c =
    left c.args.scope.now _ c.walk_stmts.new.scope c.leave.new.self c.enter-outer.result c.enter-outer.ensures.outer (inner_formals c.args.scope.now (map plain_formal c.args.formals.now))
    (c.in_ok-refusal.ensures.kept ∙ c.in_ok-declare_formals.ensures ∙ ap (λ s. with_formals s (map plain_formal c.args.formals.now)) c.enter-outer.ensures.scope) c.leave.ensures
