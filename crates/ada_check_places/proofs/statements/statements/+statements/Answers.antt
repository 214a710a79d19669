use Rattle.std.proofs.Common.{◌≡◌, ◌∙◌, ap, refl, map, option_map}
use Rattle.ada_tree.specs.PlainStmt.{plain_scheme, plain_stmt, plain_alt, plain_arm, plain_case_arm, plain_handler, plain_formal, stmts_of, alts_of, arms_of, case_arms_of, handlers_of}
use Rattle.ada_tree.specs.declared.statements.Accept.{out-Accept}
use Rattle.syn_event.specs.declared.meanings.Meant.TheVariants.{Inner}
use Rattle.syn_event.specs.CheckSites.{with_meant, formal_names, with_parameter, stmts_sites, alts_sites, arms_sites, case_arms_sites, handlers_sites}
use Rattle.ada_check_places.specs.statements.inner.Walked.{stmt_met, alt_met, arm_met, case_arm_met, handler_met}
use Rattle.ada_check_rules.proofs.rules.Listing.{turn, row_end}
use Rattle.ada_check_rules.proofs.scopes.Leaving.{room, accepting_in, within_accept, left_accept, left_loop, left_handler}
use Rattle.ada_check_places.proofs.statements.Stating.{arm_told, case_arm_told, handler_told, stmt_next, alts_next, arms_next, case_arms_next, handlers_next}
use Rattle.ada_check_places.proofs.statements.statements.+statements.Goals as goal

pub walk_stmts-loop-stmt-preserved : goal.walk_stmts-loop-stmt-preserved
walk_stmts-loop-stmt-preserved t c = record {
  same = c.in_ok-found.ensures.kept ∙ c.loop-stmt.invariant.same;
  told =
      turn c.args.by.now plain_stmt (λ s xs. stmts_sites s c.args.k (stmts_of xs)) (λ s x. stmt_met c.args.by.now s c.args.k x) (λ s x xs. stmt_next c.args.by.now s c.args.k x (stmts_of xs)) c.args.list.now
      c.loop-stmt.stmt-index c.stmt-item.result c.args.around.now c.loop-stmt.around _ _ _ _ c.loop-stmt-test.true c.stmt-item.is c.loop-stmt.invariant.same c.loop-stmt.invariant.told c.in_ok-found.ensures.told c.first-refusal.ensures;
}

pub walk_stmts-returns : goal.walk_stmts-returns
walk_stmts-returns t c = record {
  kept = c.loop-stmt.invariant.same;
  told =
      row_end c.args.by.now plain_stmt (λ xs. stmts_sites c.args.around.now c.args.k (stmts_of xs)) (λ x. stmt_met c.args.by.now c.args.around.now c.args.k x) (λ x xs. stmt_next c.args.by.now c.args.around.now c.args.k x (stmts_of xs)) c.args.list.now
      c.loop-stmt.stmt-index _ _ c.loop-stmt-test.false refl c.loop-stmt.invariant.told;
}

pub walk_alts-loop-alt-preserved : goal.walk_alts-loop-alt-preserved
walk_alts-loop-alt-preserved t c = record {
  same = c.in_ok-found.ensures.kept ∙ c.loop-alt.invariant.same;
  told =
      turn c.args.by.now plain_alt (λ s xs. alts_sites s c.args.k (alts_of xs)) (λ s x. alt_met c.args.by.now s c.args.k x) (λ s x xs. alts_next c.args.by.now s c.args.k x (alts_of xs)) c.args.alts.now
      c.loop-alt.alt-index c.alt-item.result c.args.around.now c.loop-alt.around _ _ _ _ c.loop-alt-test.true c.alt-item.is c.loop-alt.invariant.same c.loop-alt.invariant.told c.in_ok-found.ensures.told c.first-refusal.ensures;
}

pub walk_alts-returns : goal.walk_alts-returns
walk_alts-returns t c = record {
  kept = c.loop-alt.invariant.same;
  told =
      row_end c.args.by.now plain_alt (λ xs. alts_sites c.args.around.now c.args.k (alts_of xs)) (λ x. alt_met c.args.by.now c.args.around.now c.args.k x) (λ x xs. alts_next c.args.by.now c.args.around.now c.args.k x (alts_of xs)) c.args.alts.now
      c.loop-alt.alt-index _ _ c.loop-alt-test.false refl c.loop-alt.invariant.told;
}

pub walk_arms-returns : goal.walk_arms-returns
walk_arms-returns t c = record {
  kept = c.loop-arm.invariant.same;
  told =
      row_end c.args.by.now plain_arm (λ xs. arms_sites c.args.around.now c.args.k (arms_of xs)) (λ x. arm_met c.args.by.now c.args.around.now c.args.k x) (λ x xs. arms_next c.args.by.now c.args.around.now c.args.k x (arms_of xs)) c.args.arms.now
      c.loop-arm.arm-index _ _ c.loop-arm-test.false refl c.loop-arm.invariant.told;
}

pub walk_case_arms-returns : goal.walk_case_arms-returns
walk_case_arms-returns t c = record {
  kept = c.loop-arm.invariant.same;
  told =
      row_end c.args.by.now plain_case_arm (λ xs. case_arms_sites c.args.around.now c.args.k (case_arms_of xs)) (λ x. case_arm_met c.args.by.now c.args.around.now c.args.k x) (λ x xs. case_arms_next c.args.by.now c.args.around.now c.args.k x (case_arms_of xs)) c.args.arms.now
      c.loop-arm.arm-index _ _ c.loop-arm-test.false refl c.loop-arm.invariant.told;
}

pub walk_handlers-returns : goal.walk_handlers-returns
walk_handlers-returns t c = record {
  kept = c.loop-handler.invariant.same;
  told =
      row_end c.args.by.now plain_handler (λ xs. handlers_sites c.args.around.now c.args.k (handlers_of xs)) (λ x. handler_met c.args.by.now c.args.around.now c.args.k x) (λ x xs. handlers_next c.args.by.now c.args.around.now c.args.k x (handlers_of xs)) c.args.handlers.now
      c.loop-handler.handler-index _ _ c.loop-handler-test.false refl c.loop-handler.invariant.told;
}

pub walk_loop-returns-clause-kept : goal.walk_loop-returns-clause-kept
walk_loop-returns-clause-kept t c =
    let scheme = option_map plain_scheme c.args.scheme.now in
    left_loop c.args.around.now c.walk_stmts.new.around c.leave_loop.new.self (option_map (λ w. w.name) c.args.name) scheme c.in_ok-count.count c.in_ok-count.ensures.count
    (c.in_ok-inner.ensures.kept ∙ c.in_ok-declare_parameter.ensures ∙ ap (λ s. with_parameter s scheme) c.in_ok-count.ensures.around)
    c.leave_loop.ensures

pub walk_arms-loop-arm-preserved : goal.walk_arms-loop-arm-preserved
walk_arms-loop-arm-preserved t c = record {
  same = c.in_ok-behind.ensures.kept ∙ c.loop-arm.invariant.same;
  told =
      turn c.args.by.now plain_arm (λ s xs. arms_sites s c.args.k (arms_of xs)) (λ s x. arm_met c.args.by.now s c.args.k x) (λ s x xs. arms_next c.args.by.now s c.args.k x (arms_of xs)) c.args.arms.now
      c.loop-arm.arm-index c.arm-item.result c.args.around.now c.loop-arm.around _ _ _ _ c.loop-arm-test.true c.arm-item.is c.loop-arm.invariant.same c.loop-arm.invariant.told
      (arm_told c.args.by.now c.loop-arm.around c.args.k c.arm-item.result c.deref.result.now _ _ _ c.first-found.ensures c.in_ok-test.ensures c.in_ok-behind.ensures.told c.deref.ensures.value)
      c.first-refusal.ensures;
}

pub walk_case_arms-loop-arm-preserved : goal.walk_case_arms-loop-arm-preserved
walk_case_arms-loop-arm-preserved t c = record {
  same = c.in_ok-behind.ensures.kept ∙ c.loop-arm.invariant.same;
  told =
      turn c.args.by.now plain_case_arm (λ s xs. case_arms_sites s c.args.k (case_arms_of xs)) (λ s x. case_arm_met c.args.by.now s c.args.k x) (λ s x xs. case_arms_next c.args.by.now s c.args.k x (case_arms_of xs)) c.args.arms.now
      c.loop-arm.arm-index c.arm-item.result c.args.around.now c.loop-arm.around _ _ _ _ c.loop-arm-test.true c.arm-item.is c.loop-arm.invariant.same c.loop-arm.invariant.told
      (case_arm_told c.args.by.now c.loop-arm.around c.args.k c.arm-item.result c.deref.result.now c.deref-in-loop-arm.result.now _ _ _ c.first-found.ensures c.in_ok-choices.ensures c.deref.ensures.value c.in_ok-behind.ensures.told c.deref-in-loop-arm.ensures.value)
      c.first-refusal.ensures;
}

pub walk_handlers-loop-handler-preserved : goal.walk_handlers-loop-handler-preserved
walk_handlers-loop-handler-preserved t c = record {
  same =
      left_handler c.loop-handler.around c.walk_stmts.new.around c.leave_handler.new.self c.enter_handler-before.result (c.in_ok-behind.ensures.kept ∙ c.enter_handler-before.ensures.around) c.enter_handler-before.ensures.before c.leave_handler.ensures
      ∙ c.loop-handler.invariant.same;
  told =
      turn c.args.by.now plain_handler (λ s xs. handlers_sites s c.args.k (handlers_of xs)) (λ s x. handler_met c.args.by.now s c.args.k x) (λ s x xs. handlers_next c.args.by.now s c.args.k x (handlers_of xs)) c.args.handlers.now
      c.loop-handler.handler-index c.handler-item.result c.args.around.now c.loop-handler.around _ _ _ _ c.loop-handler-test.true c.handler-item.is c.loop-handler.invariant.same c.loop-handler.invariant.told
      (handler_told c.args.by.now c.loop-handler.around c.enter_handler-before.new.self c.args.k c.in_ok-inner.inner c.handler-item.result c.deref.result.now _ _ _ c.first-found.ensures (c.refuse_deep-deep.ensures c.loop-handler.around) c.in_ok-behind.ensures.told c.enter_handler-before.ensures.around c.in_ok-inner.ensures c.deref.ensures.value)
      c.first-refusal.ensures;
}

pub walk_within-leave_accept-requires : goal.walk_within-leave_accept-requires
walk_within-leave_accept-requires t c =
    let e = (out-Accept c.args.accept.now).entry.name in
    let ws = formal_names (map plain_formal c.deref.result.now) in
    let same : c.walk_stmts.new.around ≡ with_meant Inner (accepting_in c.args.around.now e) ws =
    c.in_ok-refusal-in-Some.ensures.kept ∙ c.in_ok-declare_formals-in-Some.ensures ∙ ap (λ s. with_meant Inner s ws) c.in_ok-outside-in-Some.ensures.around in
    room c.args.around.now c.walk_stmts.new.around c.in_ok-outside-in-Some.outside.count c.in_ok-outside-in-Some.ensures.outside.count_is (within_accept c.args.around.now c.walk_stmts.new.around e ws same)

pub walk_within-returns-in_ok-refusal-in-Some-clause-kept : goal.walk_within-returns-in_ok-refusal-in-Some-clause-kept
walk_within-returns-in_ok-refusal-in-Some-clause-kept t c =
    let e = (out-Accept c.args.accept.now).entry.name in
    let ws = formal_names (map plain_formal c.deref.result.now) in
    let same : c.walk_stmts.new.around ≡ with_meant Inner (accepting_in c.args.around.now e) ws =
    c.in_ok-refusal-in-Some.ensures.kept ∙ c.in_ok-declare_formals-in-Some.ensures ∙ ap (λ s. with_meant Inner s ws) c.in_ok-outside-in-Some.ensures.around in
    left_accept c.args.around.now c.walk_stmts.new.around c.leave_accept.new.self e ws c.in_ok-outside-in-Some.outside c.in_ok-outside-in-Some.ensures.outside same c.leave_accept.ensures
