use Rattle.std.proofs.Common.{◌≡◌, ◌∙◌, ◌+◌, ap, subst, map, drop, option_map, refl, arith}
use Rattle.ada_tree.specs.PlainStmt.{plain_stmt, plain_accept, plain_alt, plain_alt_kind, plain_arm, plain_case_arm, plain_handler, stmts_of, alts_of, arms_of, case_arms_of, handlers_of}
use Rattle.ada_tree.specs.PlainExpr.{plain_expr}
use Rattle.ada_tree.specs.PlainStmt.{plain_scheme, plain_call, stmt_at, seen_maybe, SWait, SConditional, STimed, SIf, SCase, SLoop, AAccept, ADelay, ATerminate}
use Rattle.ada_tree.specs.declared.statements.Accept.{out-Accept}
use Rattle.ada_tree.proofs.Rows.{rows}
use Rattle.ada_static_rules.specs.Sites.{stmt_sites, stmts_sites, alts_sites, arms_sites, case_arms_sites, handlers_sites, with_words}
use Rattle.scoped_names.specs.name_sets.Numbers.{numbers_in}
use Rattle.ada_decl_rules.specs.duplicates.NamingsInOrder.{Named}
use Rattle.ada_decl_rules.specs.duplicates.inner.Noted.{alt_places, arm_places, case_arm_places, handler_places, handler_words}
use Rattle.ada_decl_rules.proofs.duplicates.Noting.{is_leaf, leaf_named, stmt_is, loop_is, alts_are, arms_are, case_arms_are, wait_named, branches_named, if_named, case_of, accept_of, with_list, without_list, alt_is, list_is, kind_of_accept, none_named, loop_named, member_named, members_over, alt_of, arm_of, case_arm_of, handler_of, words_of, body_of, alts_law, arms_law, case_arms_law, handlers_law}
use Rattle.common_lemmas.proofs.Results.{on_ok}
use Rattle.ada_decl_rules.proofs.duplicates.namings_in_order.+namings.Goals as goal

pub note_stmts-loop-stmt-preserved : goal.note_stmts-loop-stmt-preserved
note_stmts-loop-stmt-preserved t c = λ new q.
    c.loop-stmt.invariant new
    (member_named plain_stmt (λ s. stmt_sites s (plain_stmt c.stmt-item.result)) (λ s ps. stmts_sites s (stmts_of ps)) (λ s ps. stmts_sites s (stmts_of ps)) c.args.list.now c.loop-stmt.stmt-index c.stmt-item.result c.loop-stmt-test.true c.stmt-item.is (λ s ps. refl)
    c.loop-stmt.namings.items c.note_stmt.new.namings.items new c.in_ok-note_stmt.ensures q)

pub note_stmts-returns : goal.note_stmts-returns
note_stmts-returns t c = c.loop-stmt.invariant c.loop-stmt.namings.items (members_over plain_stmt (λ s ps. stmts_sites s (stmts_of ps)) c.args.list.now c.loop-stmt.stmt-index c.loop-stmt-test.false (λ s. refl) c.loop-stmt.namings.items)

pub note_alts-loop-alt-preserved : goal.note_alts-loop-alt-preserved
note_alts-loop-alt-preserved t c = λ new q.
    c.loop-alt.invariant new
    (member_named plain_alt (λ s. alt_places s (plain_alt c.alt-item.result)) (λ s ps. alts_sites s (alts_of ps)) (λ s ps. alts_sites s (alts_of ps)) c.args.alts.now c.loop-alt.alt-index c.alt-item.result c.loop-alt-test.true c.alt-item.is (alts_law (plain_alt c.alt-item.result))
    c.loop-alt.namings.items c.note_kind.new.namings.items new (alt_of _ _ c.alt-item.result c.in_ok-note_kind.ensures) q)

pub note_alts-returns : goal.note_alts-returns
note_alts-returns t c = c.loop-alt.invariant c.loop-alt.namings.items (members_over plain_alt (λ s ps. alts_sites s (alts_of ps)) c.args.alts.now c.loop-alt.alt-index c.loop-alt-test.false (λ s. refl) c.loop-alt.namings.items)

pub note_arms-loop-arm-preserved : goal.note_arms-loop-arm-preserved
note_arms-loop-arm-preserved t c = λ new q.
    c.loop-arm.invariant new
    (member_named plain_arm (λ s. arm_places s (plain_arm c.arm-item.result)) (λ s ps. arms_sites s (arms_of ps)) (λ s ps. arms_sites s (arms_of ps)) c.args.arms.now c.loop-arm.arm-index c.arm-item.result c.loop-arm-test.true c.arm-item.is (arms_law (plain_arm c.arm-item.result))
    c.loop-arm.namings.items c.note_stmts.new.namings.items new (arm_of _ _ c.arm-item.result c.deref.result.now c.deref.ensures.value c.in_ok-note_stmts.ensures) q)

pub note_arms-returns : goal.note_arms-returns
note_arms-returns t c = c.loop-arm.invariant c.loop-arm.namings.items (members_over plain_arm (λ s ps. arms_sites s (arms_of ps)) c.args.arms.now c.loop-arm.arm-index c.loop-arm-test.false (λ s. refl) c.loop-arm.namings.items)

pub note_case_arms-loop-arm-preserved : goal.note_case_arms-loop-arm-preserved
note_case_arms-loop-arm-preserved t c = λ k range new q.
    c.loop-arm.invariant k range new
    (member_named plain_case_arm (λ s. case_arm_places k range s (plain_case_arm c.arm-item.result)) (λ s ps. case_arms_sites s k range (case_arms_of ps)) (λ s ps. case_arms_sites s k range (case_arms_of ps)) c.args.arms.now c.loop-arm.arm-index c.arm-item.result c.loop-arm-test.true c.arm-item.is (case_arms_law k range (plain_case_arm c.arm-item.result))
    c.loop-arm.namings.items c.note_stmts.new.namings.items new (case_arm_of _ _ k range c.arm-item.result c.deref.result.now c.deref.ensures.value c.in_ok-note_stmts.ensures) q)

pub note_case_arms-returns : goal.note_case_arms-returns
note_case_arms-returns t c = λ k range. c.loop-arm.invariant k range c.loop-arm.namings.items (members_over plain_case_arm (λ s ps. case_arms_sites s k range (case_arms_of ps)) c.args.arms.now c.loop-arm.arm-index c.loop-arm-test.false (λ s. refl) c.loop-arm.namings.items)

pub note_handlers-loop-handler-preserved : goal.note_handlers-loop-handler-preserved
note_handlers-loop-handler-preserved t c = λ new q.
    c.loop-handler.invariant new
    (member_named plain_handler (λ s. handler_places s (numbers_in c.loop-handler.names) (plain_handler c.handler-item.result)) (λ s ps. handlers_sites s (numbers_in c.loop-handler.names) (handlers_of ps)) (λ s ps. handlers_sites s (with_words (numbers_in c.loop-handler.names) (handler_words (plain_handler c.handler-item.result))) (handlers_of ps)) c.args.handlers.now c.loop-handler.handler-index c.handler-item.result c.loop-handler-test.true c.handler-item.is (handlers_law (numbers_in c.loop-handler.names) (plain_handler c.handler-item.result))
    c.loop-handler.namings.items c.note_handler.new.namings.items new c.in_ok-note_handler.ensures.namings
    (subst (λ names. Named c.note_handler.new.namings.items new (λ s. handlers_sites s names (handlers_of (map plain_handler (drop (c.loop-handler.handler-index + 1) c.args.handlers.now))))) c.in_ok-note_handler.ensures.names q))

pub note_handlers-returns : goal.note_handlers-returns
note_handlers-returns t c = c.loop-handler.invariant c.loop-handler.namings.items (members_over plain_handler (λ s ps. handlers_sites s (numbers_in c.loop-handler.names) (handlers_of ps)) c.args.handlers.now c.loop-handler.handler-index c.loop-handler-test.false (λ s. refl) c.loop-handler.namings.items)

pub note_handler-returns-clause-namings : goal.note_handler-returns-clause-namings
note_handler-returns-clause-namings t c =
    on_ok c.note_stmts.result (λ q. handler_of c.args.namings.now.items c.note_exceptions.new.namings.items c.note_stmts.new.namings.items (numbers_in c.args.names.now) c.args.handler.now c.deref.result.now c.deref-2.result.now c.deref.ensures.value c.deref-2.ensures.value c.in_ok-note_exceptions.ensures.namings q) c.note_stmts.ensures

pub note_handler-returns-clause-names : goal.note_handler-returns-clause-names
note_handler-returns-clause-names t c =
    on_ok c.note_stmts.result (λ q. c.in_ok-note_exceptions.ensures.names ∙ words_of (numbers_in c.args.names.now) c.args.handler.now c.deref.result.now c.deref.ensures.value) c.note_stmts.ensures

pub note_body-returns : goal.note_body-returns
note_body-returns t c =
    on_ok c.note_handlers.result (λ q. body_of c.args.namings.now.items c.note_stmts.new.namings.items c.note_handlers.new.namings.items c.args.body.now c.deref.result.now c.deref-2.result.now c.deref.ensures.value c.deref-2.ensures.value c.in_ok-note_stmts.ensures q) c.note_handlers.ensures

pub note_accept-returns-in-Some : goal.note_accept-returns-in-Some
note_accept-returns-in-Some t c =
    on_ok c.note_stmts.result (λ q. accept_of c.args.namings.now.items c.note_formals.new.namings.items c.note_stmts.new.namings.items c.args.accept.now c.deref.result.now c.deref.ensures.value c.in_ok-note_formals.ensures
    (with_list c.note_formals.new.namings.items c.note_stmts.new.namings.items (out-Accept c.args.accept.now).stmts c.in-Some.list c.deref-in-Some.result.now c.in-Some.is c.deref-in-Some.ensures.value q)) c.note_stmts.ensures

pub note_accept-returns-in-None : goal.note_accept-returns-in-None
note_accept-returns-in-None t c =
    accept_of c.args.namings.now.items c.note_formals.new.namings.items c.note_formals.new.namings.items c.args.accept.now c.deref.result.now c.deref.ensures.value c.in_ok-note_formals.ensures
    (without_list c.note_formals.new.namings.items (out-Accept c.args.accept.now).stmts c.in-None.is)

pub note_kind-returns-in_ok-note_accept-in-Accept : goal.note_kind-returns-in_ok-note_accept-in-Accept
note_kind-returns-in_ok-note_accept-in-Accept t c =
    let tree : plain_alt_kind c.args.kind.now ≡ AAccept (plain_accept c.in-Accept.accept) (stmts_of (map plain_stmt c.in-Accept.stmts.items)) = grind (arith, rows) in
    on_ok c.note_stmts.result (λ q. alt_is c.args.namings.now.items c.note_stmts.new.namings.items _ _ tree
    (kind_of_accept c.args.namings.now.items c.note_accept.new.namings.items c.note_stmts.new.namings.items (plain_accept c.in-Accept.accept) c.in-Accept.stmts.items c.deref.result.now c.deref.ensures.value c.in_ok-note_accept-in-Accept.ensures q)) c.note_stmts.ensures

pub note_kind-returns-in-Delay : goal.note_kind-returns-in-Delay
note_kind-returns-in-Delay t c =
    let tree : plain_alt_kind c.args.kind.now ≡ ADelay c.in-Delay.thousandths (stmts_of (map plain_stmt c.in-Delay.stmts.items)) = grind (arith, rows) in
    on_ok c.note_stmts-in-Delay.result (λ q. alt_is c.args.namings.now.items c.note_stmts-in-Delay.new.namings.items _ _ tree
    (list_is c.args.namings.now.items c.note_stmts-in-Delay.new.namings.items c.deref-in-Delay.result.now c.in-Delay.stmts.items c.deref-in-Delay.ensures.value q)) c.note_stmts-in-Delay.ensures

pub note_kind-returns-in-Terminate : goal.note_kind-returns-in-Terminate
note_kind-returns-in-Terminate t c =
    alt_is c.args.namings.now.items c.args.namings.now.items (plain_alt_kind c.args.kind.now) ATerminate (grind (arith, rows)) (none_named c.args.namings.now.items)

pub note_loop-returns : goal.note_loop-returns
note_loop-returns t c =
    on_ok c.note_stmts.result (λ q. loop_named c.args.namings.now.items c.note_label.new.namings.items c.note_scheme.new.namings.items c.note_stmts.new.namings.items c.args.name (option_map plain_scheme c.args.scheme.now) (stmts_of (map plain_stmt c.args.list.now))
    c.in_ok-note_label.ensures c.in_ok-note_scheme.ensures q) c.note_stmts.ensures

pub note_stmt-returns-in-Some : goal.note_stmt-returns-in-Some
note_stmt-returns-in-Some t c =
    let tree : plain_stmt c.args.stmt.now ≡ SWait (alts_of (map plain_alt c.in-Wait.alts.items)) (seen_maybe c.in-Wait.otherwise) c.args.stmt.now.span = grind (arith, rows) in
    on_ok c.note_stmts.result (λ q. stmt_is c.args.namings.now.items c.note_stmts.new.namings.items _ _ tree (wait_named c.args.namings.now.items c.note_alts.new.namings.items c.note_stmts.new.namings.items (alts_of (map plain_alt c.in-Wait.alts.items)) (seen_maybe c.in-Wait.otherwise) (alts_are c.args.namings.now.items c.note_alts.new.namings.items c.deref.result.now c.in-Wait.alts.items c.deref.ensures.value c.in_ok-note_alts-in-Wait.ensures)
    (with_list c.note_alts.new.namings.items c.note_stmts.new.namings.items c.in-Wait.otherwise c.in-Some.list c.deref-in-Some.result.now c.in-Some.is c.deref-in-Some.ensures.value q))) c.note_stmts.ensures

pub note_stmt-returns-in-None : goal.note_stmt-returns-in-None
note_stmt-returns-in-None t c =
    let tree : plain_stmt c.args.stmt.now ≡ SWait (alts_of (map plain_alt c.in-Wait.alts.items)) (seen_maybe c.in-Wait.otherwise) c.args.stmt.now.span = grind (arith, rows) in
    stmt_is c.args.namings.now.items c.note_alts.new.namings.items _ _ tree (wait_named c.args.namings.now.items c.note_alts.new.namings.items c.note_alts.new.namings.items (alts_of (map plain_alt c.in-Wait.alts.items)) (seen_maybe c.in-Wait.otherwise) (alts_are c.args.namings.now.items c.note_alts.new.namings.items c.deref.result.now c.in-Wait.alts.items c.deref.ensures.value c.in_ok-note_alts-in-Wait.ensures)
    (without_list c.note_alts.new.namings.items c.in-Wait.otherwise c.in-None.is))

pub note_stmt-returns-in_ok-note_stmts-in-Conditional : goal.note_stmt-returns-in_ok-note_stmts-in-Conditional
note_stmt-returns-in_ok-note_stmts-in-Conditional t c =
    let tree : plain_stmt c.args.stmt.now ≡ SConditional (plain_call c.in-Conditional.call) (stmts_of (map plain_stmt c.in-Conditional.behind.items)) (stmts_of (map plain_stmt c.in-Conditional.otherwise.items)) c.args.stmt.now.span = grind (arith, rows) in
    on_ok c.note_stmts-in-Conditional-2.result (λ q. stmt_is c.args.namings.now.items c.note_stmts-in-Conditional-2.new.namings.items _ _ tree (branches_named c.args.namings.now.items c.note_stmts-in-Conditional.new.namings.items c.note_stmts-in-Conditional-2.new.namings.items (plain_call c.in-Conditional.call) (stmts_of (map plain_stmt c.in-Conditional.behind.items)) (stmts_of (map plain_stmt c.in-Conditional.otherwise.items))
    (list_is c.args.namings.now.items c.note_stmts-in-Conditional.new.namings.items c.deref-in-Conditional.result.now c.in-Conditional.behind.items c.deref-in-Conditional.ensures.value c.in_ok-note_stmts-in-Conditional.ensures)
    (list_is c.note_stmts-in-Conditional.new.namings.items c.note_stmts-in-Conditional-2.new.namings.items c.deref-in-Conditional-2.result.now c.in-Conditional.otherwise.items c.deref-in-Conditional-2.ensures.value q))) c.note_stmts-in-Conditional-2.ensures

pub note_stmt-returns-in_ok-note_stmts-in-Timed : goal.note_stmt-returns-in_ok-note_stmts-in-Timed
note_stmt-returns-in_ok-note_stmts-in-Timed t c =
    let tree : plain_stmt c.args.stmt.now ≡ STimed (plain_call c.in-Timed.call) (stmts_of (map plain_stmt c.in-Timed.behind.items)) c.in-Timed.thousandths (stmts_of (map plain_stmt c.in-Timed.after.items)) c.args.stmt.now.span = grind (arith, rows) in
    on_ok c.note_stmts-in-Timed-2.result (λ q. stmt_is c.args.namings.now.items c.note_stmts-in-Timed-2.new.namings.items _ _ tree (branches_named c.args.namings.now.items c.note_stmts-in-Timed.new.namings.items c.note_stmts-in-Timed-2.new.namings.items (plain_call c.in-Timed.call) (stmts_of (map plain_stmt c.in-Timed.behind.items)) (stmts_of (map plain_stmt c.in-Timed.after.items))
    (list_is c.args.namings.now.items c.note_stmts-in-Timed.new.namings.items c.deref-in-Timed.result.now c.in-Timed.behind.items c.deref-in-Timed.ensures.value c.in_ok-note_stmts-in-Timed.ensures)
    (list_is c.note_stmts-in-Timed.new.namings.items c.note_stmts-in-Timed-2.new.namings.items c.deref-in-Timed-2.result.now c.in-Timed.after.items c.deref-in-Timed-2.ensures.value q))) c.note_stmts-in-Timed-2.ensures

pub note_stmt-returns-in-Some-otherwise : goal.note_stmt-returns-in-Some-otherwise
note_stmt-returns-in-Some-otherwise t c =
    let tree : plain_stmt c.args.stmt.now ≡ SIf (arms_of (map plain_arm c.in-If.arms.items)) (seen_maybe c.in-If.otherwise) c.args.stmt.now.span = grind (arith, rows) in
    on_ok c.note_stmts-in-Some-otherwise.result (λ q. stmt_is c.args.namings.now.items c.note_stmts-in-Some-otherwise.new.namings.items _ _ tree (if_named c.args.namings.now.items c.note_arms.new.namings.items c.note_stmts-in-Some-otherwise.new.namings.items (arms_of (map plain_arm c.in-If.arms.items)) (seen_maybe c.in-If.otherwise) (arms_are c.args.namings.now.items c.note_arms.new.namings.items c.deref-in-If.result.now c.in-If.arms.items c.deref-in-If.ensures.value c.in_ok-note_arms-in-If.ensures)
    (with_list c.note_arms.new.namings.items c.note_stmts-in-Some-otherwise.new.namings.items c.in-If.otherwise c.in-Some-otherwise.list c.deref-in-Some-otherwise.result.now c.in-Some-otherwise.is c.deref-in-Some-otherwise.ensures.value q))) c.note_stmts-in-Some-otherwise.ensures

pub note_stmt-returns-in-None-otherwise : goal.note_stmt-returns-in-None-otherwise
note_stmt-returns-in-None-otherwise t c =
    let tree : plain_stmt c.args.stmt.now ≡ SIf (arms_of (map plain_arm c.in-If.arms.items)) (seen_maybe c.in-If.otherwise) c.args.stmt.now.span = grind (arith, rows) in
    stmt_is c.args.namings.now.items c.note_arms.new.namings.items _ _ tree (if_named c.args.namings.now.items c.note_arms.new.namings.items c.note_arms.new.namings.items (arms_of (map plain_arm c.in-If.arms.items)) (seen_maybe c.in-If.otherwise) (arms_are c.args.namings.now.items c.note_arms.new.namings.items c.deref-in-If.result.now c.in-If.arms.items c.deref-in-If.ensures.value c.in_ok-note_arms-in-If.ensures)
    (without_list c.note_arms.new.namings.items c.in-If.otherwise c.in-None-otherwise.is))

pub note_stmt-returns-in-Some-others : goal.note_stmt-returns-in-Some-others
note_stmt-returns-in-Some-others t c =
    let tree : plain_stmt c.args.stmt.now ≡ SCase (plain_expr c.in-Case.selector) (case_arms_of (map plain_case_arm c.in-Case.arms.items)) (seen_maybe c.in-Case.others) c.args.stmt.now.span = grind (arith, rows) in
    on_ok c.note_stmts-in-Some-others.result (λ q. stmt_is c.args.namings.now.items c.note_stmts-in-Some-others.new.namings.items _ _ tree (case_of c.args.namings.now.items c.note_case_arms.new.namings.items c.note_stmts-in-Some-others.new.namings.items (plain_expr c.in-Case.selector) (case_arms_of (map plain_case_arm c.in-Case.arms.items)) (seen_maybe c.in-Case.others) c.args.stmt.now.span (case_arms_are c.args.namings.now.items c.note_case_arms.new.namings.items c.deref-in-Case.result.now c.in-Case.arms.items c.deref-in-Case.ensures.value c.in_ok-note_case_arms-in-Case.ensures)
    (with_list c.note_case_arms.new.namings.items c.note_stmts-in-Some-others.new.namings.items c.in-Case.others c.in-Some-others.list c.deref-in-Some-others.result.now c.in-Some-others.is c.deref-in-Some-others.ensures.value q))) c.note_stmts-in-Some-others.ensures

pub note_stmt-returns-in-None-others : goal.note_stmt-returns-in-None-others
note_stmt-returns-in-None-others t c =
    let tree : plain_stmt c.args.stmt.now ≡ SCase (plain_expr c.in-Case.selector) (case_arms_of (map plain_case_arm c.in-Case.arms.items)) (seen_maybe c.in-Case.others) c.args.stmt.now.span = grind (arith, rows) in
    stmt_is c.args.namings.now.items c.note_case_arms.new.namings.items _ _ tree (case_of c.args.namings.now.items c.note_case_arms.new.namings.items c.note_case_arms.new.namings.items (plain_expr c.in-Case.selector) (case_arms_of (map plain_case_arm c.in-Case.arms.items)) (seen_maybe c.in-Case.others) c.args.stmt.now.span (case_arms_are c.args.namings.now.items c.note_case_arms.new.namings.items c.deref-in-Case.result.now c.in-Case.arms.items c.deref-in-Case.ensures.value c.in_ok-note_case_arms-in-Case.ensures)
    (without_list c.note_case_arms.new.namings.items c.in-Case.others c.in-None-others.is))

pub note_stmt-returns-in-Loop : goal.note_stmt-returns-in-Loop
note_stmt-returns-in-Loop t c =
    let tree : plain_stmt c.args.stmt.now ≡ SLoop c.in-Loop.name (option_map plain_scheme c.in-Loop.scheme) (stmts_of (map plain_stmt c.in-Loop.stmts.items)) c.args.stmt.now.span = grind (arith, rows) in
    on_ok c.note_loop.result (λ q. stmt_is c.args.namings.now.items c.note_loop.new.namings.items _ _ tree (loop_is c.args.namings.now.items c.note_loop.new.namings.items c.in-Loop.name (option_map plain_scheme c.in-Loop.scheme) c.deref-in-Loop.result.now c.in-Loop.stmts.items c.deref-in-Loop.ensures.value q)) c.note_loop.ensures

pub note_stmt-returns-in-Null : goal.note_stmt-returns-in-Null
note_stmt-returns-in-Null t c = leaf_named (plain_stmt c.args.stmt.now) c.args.namings.now.items (ap (λ k. is_leaf (stmt_at k c.args.stmt.now.span)) c.in-Null.is)

pub note_stmt-returns-in-Assign : goal.note_stmt-returns-in-Assign
note_stmt-returns-in-Assign t c = leaf_named (plain_stmt c.args.stmt.now) c.args.namings.now.items (ap (λ k. is_leaf (stmt_at k c.args.stmt.now.span)) c.in-Assign.is)

pub note_stmt-returns-in-Delay : goal.note_stmt-returns-in-Delay
note_stmt-returns-in-Delay t c = leaf_named (plain_stmt c.args.stmt.now) c.args.namings.now.items (ap (λ k. is_leaf (stmt_at k c.args.stmt.now.span)) c.in-Delay.is)

pub note_stmt-returns-in-Exit : goal.note_stmt-returns-in-Exit
note_stmt-returns-in-Exit t c = leaf_named (plain_stmt c.args.stmt.now) c.args.namings.now.items (ap (λ k. is_leaf (stmt_at k c.args.stmt.now.span)) c.in-Exit.is)

pub note_stmt-returns-in-Raise : goal.note_stmt-returns-in-Raise
note_stmt-returns-in-Raise t c = leaf_named (plain_stmt c.args.stmt.now) c.args.namings.now.items (ap (λ k. is_leaf (stmt_at k c.args.stmt.now.span)) c.in-Raise.is)

pub note_stmt-returns-in-Abort : goal.note_stmt-returns-in-Abort
note_stmt-returns-in-Abort t c = leaf_named (plain_stmt c.args.stmt.now) c.args.namings.now.items (ap (λ k. is_leaf (stmt_at k c.args.stmt.now.span)) c.in-Abort.is)

pub note_stmt-returns-in-Call : goal.note_stmt-returns-in-Call
note_stmt-returns-in-Call t c = leaf_named (plain_stmt c.args.stmt.now) c.args.namings.now.items (ap (λ k. is_leaf (stmt_at k c.args.stmt.now.span)) c.in-Call.is)

pub note_stmt-returns-in-Put : goal.note_stmt-returns-in-Put
note_stmt-returns-in-Put t c = leaf_named (plain_stmt c.args.stmt.now) c.args.namings.now.items (ap (λ k. is_leaf (stmt_at k c.args.stmt.now.span)) c.in-Put.is)

pub note_stmt-returns-in-PutLine : goal.note_stmt-returns-in-PutLine
note_stmt-returns-in-PutLine t c = leaf_named (plain_stmt c.args.stmt.now) c.args.namings.now.items (ap (λ k. is_leaf (stmt_at k c.args.stmt.now.span)) c.in-PutLine.is)

pub note_stmt-returns-in-NewLine : goal.note_stmt-returns-in-NewLine
note_stmt-returns-in-NewLine t c = leaf_named (plain_stmt c.args.stmt.now) c.args.namings.now.items (ap (λ k. is_leaf (stmt_at k c.args.stmt.now.span)) c.in-NewLine.is)

pub note_stmt-returns-in-Get : goal.note_stmt-returns-in-Get
note_stmt-returns-in-Get t c = leaf_named (plain_stmt c.args.stmt.now) c.args.namings.now.items (ap (λ k. is_leaf (stmt_at k c.args.stmt.now.span)) c.in-Get.is)
