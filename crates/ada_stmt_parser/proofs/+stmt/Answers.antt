-- The loops of the readers that call each other.
use Rattle.std.proofs.Common.{◌≡◌, ◌-◌, true, not, is_some, option_map, sym, ap, subst, ◌∙◌, arith, rules, map}
use Rattle.ada_expr_parser.specs.readers.Readers.{Found, items, fronted}
use Rattle.ada_tree.specs.PlainExpr.{plain_expr}
use Rattle.ada_tree.specs.PlainStmt.{plain_stmt, plain_arm, plain_alt, plain_alt_kind, plain_call, plain_case_arm, plain_handler, handlers_of, seen}
use Rattle.ada_lexer.specs.declared.symbols.Symbol.TheVariants as key
use Rattle.ada_expr_parser.specs.Gives.{Fails}
use Rattle.ada_phrase_parser.specs.Reading.{is_symbol, key_then}
use Rattle.ada_expr_parser.specs.Trees.{from_to}
use Rattle.ada_compound_parts.specs.inner.ReadingHeads.{kind_of, call_tail_of}
use Rattle.ada_stmt_parser.specs.inner.ReadingStatements.{inner_at, select_rest, alt_at, begins_stmt, if_arm, case_part, others_part, handler_part, handler_others, whens}
use Rattle.ada_phrase_parser.specs.Views.{told}
use Rattle.ada_phrase_parser.proofs.Lists.{grown, list_empty, list_over, list_fails, list_goes}
use Rattle.ada_stmt_parser.proofs.HandlerParts.{body_built, handlers_go}
use Rattle.ada_phrase_parser.proofs.Marks.{there, missing}
use Rattle.ada_stmt_parser.proofs.Whens.{WhensGoOn, whens_begin, whens_empty, whens_over, whens_step, whens_fails, whens_others, whens_others_fails}
use Rattle.ada_stmt_parser.proofs.Onward.{same_gives, joined_fails, joined_found, joined_first}
use Rattle.ada_stmt_parser.proofs.Loops.{loop_goes, named_goes}
use Rattle.ada_stmt_parser.proofs.Alternatives.{alt_fails, alt_found}
use Rattle.ada_stmt_parser.proofs.Selected.{select_fails, select_found}
use Rattle.ada_stmt_parser.proofs.+stmt.Goals as goal

pub sequences::stmts_onto-returns-in_default-clause-tree : goal.sequences::stmts_onto-returns-in_default-clause-tree
sequences::stmts_onto-returns-in_default-clause-tree m c =
    list_empty (begins_stmt) ((inner_at (told c.args.source.now) c.args.depth).stmt) (map plain_stmt c.stmts.list.items) (map plain_stmt c.args.list.now.items) c.stmts.rest.now c.args.items.now c.stmts.invariant c.in_default.len_below

pub sequences::stmts_onto-returns-then-not-begins_stmt-clause-tree : goal.sequences::stmts_onto-returns-then-not-begins_stmt-clause-tree
sequences::stmts_onto-returns-then-not-begins_stmt-clause-tree m c =
    list_over (begins_stmt) ((inner_at (told c.args.source.now) c.args.depth).stmt) (map plain_stmt c.stmts.list.items) (map plain_stmt c.args.list.now.items) c.stmts.rest.now c.args.items.now _ c.stmts.invariant c.in-len1-up.len_at_least (sym c.begins_stmt.ensures ∙ c.if-not-begins_stmt.true)

pub sequences::stmts_onto-returns-in_err-stmt-clause-tree : goal.sequences::stmts_onto-returns-in_err-stmt-clause-tree
sequences::stmts_onto-returns-in_err-stmt-clause-tree m c =
    let fails : Fails c.in_err-stmt.field-0.0 (fronted (map plain_stmt c.args.list.now.items) (items (begins_stmt) ((inner_at (told c.args.source.now) c.args.depth).stmt) c.args.items.now)) =
    list_fails (begins_stmt) ((inner_at (told c.args.source.now) c.args.depth).stmt) (map plain_stmt c.stmts.list.items) (map plain_stmt c.args.list.now.items) c.stmts.rest.now c.args.items.now _ c.in_err-stmt.field-0.0 c.stmts.invariant c.in-len1-up.len_at_least (sym c.begins_stmt.ensures ∙ c.if-not-begins_stmt.false) c.in_err-stmt.ensures.tree in
    search (rules, fails)

pub sequences::stmts_onto-stmts-preserved : goal.sequences::stmts_onto-stmts-preserved
sequences::stmts_onto-stmts-preserved m c =
    list_goes (begins_stmt) ((inner_at (told c.args.source.now) c.args.depth).stmt) (map plain_stmt c.stmts.list.items) (map plain_stmt c.args.list.now.items) c.stmts.rest.now c.args.items.now _
    (map plain_stmt c.add.new.list.items) (plain_stmt c.in_ok-stmt.stmt) c.in_ok-stmt.behind.now (grown plain_stmt c.stmts.list.items c.add.new.list.items c.in_ok-stmt.stmt c.in_ok-add.ensures.added) c.stmts.invariant
    c.in-len1-up.len_at_least (sym c.begins_stmt.ensures ∙ c.if-not-begins_stmt.false) c.in_ok-stmt.ensures.tree c.in_ok-stmt.ensures.shorter

pub compound::arms_onto-returns-in_default-clause-tree : goal.compound::arms_onto-returns-in_default-clause-tree
compound::arms_onto-returns-in_default-clause-tree m c =
    list_empty (is_symbol key.Elsif) (key_then key.Elsif (if_arm (c.args.depth - 1) (inner_at (told c.args.source.now) c.args.depth))) (map plain_arm c.arms.list.items) (map plain_arm c.args.list.now.items) c.arms.rest.now c.args.items.now c.arms.invariant c.in_default.len_below

pub compound::arms_onto-returns-then-not-stands-clause-tree : goal.compound::arms_onto-returns-then-not-stands-clause-tree
compound::arms_onto-returns-then-not-stands-clause-tree m c =
    list_over (is_symbol key.Elsif) (key_then key.Elsif (if_arm (c.args.depth - 1) (inner_at (told c.args.source.now) c.args.depth))) (map plain_arm c.arms.list.items) (map plain_arm c.args.list.now.items) c.arms.rest.now c.args.items.now _ c.arms.invariant c.in-len1-up.len_at_least (sym c.stands.ensures.test ∙ c.if-not-stands.true)

pub compound::arms_onto-returns-in_err-arm-clause-tree : goal.compound::arms_onto-returns-in_err-arm-clause-tree
compound::arms_onto-returns-in_err-arm-clause-tree m c =
    let fails : Fails c.in_err-arm.field-0.0 (fronted (map plain_arm c.args.list.now.items) (items (is_symbol key.Elsif) (key_then key.Elsif (if_arm (c.args.depth - 1) (inner_at (told c.args.source.now) c.args.depth))) c.args.items.now)) =
    list_fails (is_symbol key.Elsif) (key_then key.Elsif (if_arm (c.args.depth - 1) (inner_at (told c.args.source.now) c.args.depth))) (map plain_arm c.arms.list.items) (map plain_arm c.args.list.now.items) c.arms.rest.now c.args.items.now _ c.in_err-arm.field-0.0 c.arms.invariant c.in-len1-up.len_at_least (sym c.stands.ensures.test ∙ c.if-not-stands.false) c.in_err-arm.ensures.tree in
    search (rules, fails)

pub compound::arms_onto-arms-preserved : goal.compound::arms_onto-arms-preserved
compound::arms_onto-arms-preserved m c =
    list_goes (is_symbol key.Elsif) (key_then key.Elsif (if_arm (c.args.depth - 1) (inner_at (told c.args.source.now) c.args.depth))) (map plain_arm c.arms.list.items) (map plain_arm c.args.list.now.items) c.arms.rest.now c.args.items.now _
    (map plain_arm c.add.new.list.items) (plain_arm c.in_ok-arm.arm) c.in_ok-arm.behind.now (grown plain_arm c.arms.list.items c.add.new.list.items c.in_ok-arm.arm c.in_ok-add.ensures.added) c.arms.invariant
    c.in-len1-up.len_at_least (sym c.stands.ensures.test ∙ c.if-not-stands.false) c.in_ok-arm.ensures.tree c.in_ok-arm.ensures.shorter

pub selecting::alts_onto-returns-in_default-clause-tree : goal.selecting::alts_onto-returns-in_default-clause-tree
selecting::alts_onto-returns-in_default-clause-tree m c =
    list_empty (is_symbol key.Or) (key_then key.Or (inner_at (told c.args.source.now) c.args.depth).alt) (map plain_alt c.alts.list.items) (map plain_alt c.args.list.now.items) c.alts.rest.now c.args.items.now c.alts.invariant c.in_default.len_below

pub selecting::alts_onto-returns-then-not-stands-clause-tree : goal.selecting::alts_onto-returns-then-not-stands-clause-tree
selecting::alts_onto-returns-then-not-stands-clause-tree m c =
    list_over (is_symbol key.Or) (key_then key.Or (inner_at (told c.args.source.now) c.args.depth).alt) (map plain_alt c.alts.list.items) (map plain_alt c.args.list.now.items) c.alts.rest.now c.args.items.now _ c.alts.invariant c.in-len1-up.len_at_least (sym c.stands.ensures.test ∙ c.if-not-stands.true)

pub selecting::alts_onto-returns-in_err-alt-clause-tree : goal.selecting::alts_onto-returns-in_err-alt-clause-tree
selecting::alts_onto-returns-in_err-alt-clause-tree m c =
    let fails : Fails c.in_err-alt.field-0.0 (fronted (map plain_alt c.args.list.now.items) (items (is_symbol key.Or) (key_then key.Or (inner_at (told c.args.source.now) c.args.depth).alt) c.args.items.now)) =
    list_fails (is_symbol key.Or) (key_then key.Or (inner_at (told c.args.source.now) c.args.depth).alt) (map plain_alt c.alts.list.items) (map plain_alt c.args.list.now.items) c.alts.rest.now c.args.items.now _ c.in_err-alt.field-0.0 c.alts.invariant c.in-len1-up.len_at_least (sym c.stands.ensures.test ∙ c.if-not-stands.false) c.in_err-alt.ensures.tree in
    search (rules, fails)

pub selecting::alts_onto-alts-preserved : goal.selecting::alts_onto-alts-preserved
selecting::alts_onto-alts-preserved m c =
    list_goes (is_symbol key.Or) (key_then key.Or (inner_at (told c.args.source.now) c.args.depth).alt) (map plain_alt c.alts.list.items) (map plain_alt c.args.list.now.items) c.alts.rest.now c.args.items.now _
    (map plain_alt c.add.new.list.items) (plain_alt c.in_ok-alt.alt) c.in_ok-alt.behind.now (grown plain_alt c.alts.list.items c.add.new.list.items c.in_ok-alt.alt c.in_ok-add.ensures.added) c.alts.invariant
    c.in-len1-up.len_at_least (sym c.stands.ensures.test ∙ c.if-not-stands.false) c.in_ok-alt.ensures.tree c.in_ok-alt.ensures.shorter

pub compound::read_case_arms-arms-init : goal.compound::read_case_arms-arms-init
compound::read_case_arms-arms-init m c =
    subst (λ l. WhensGoOn (case_part (c.args.depth - 1) (inner_at (told c.args.source.now) c.args.depth)) (others_part (inner_at (told c.args.source.now) c.args.depth)) (map plain_case_arm l) c.args.items.now c.args.items.now) (sym c.new-arms.ensures.items) (whens_begin (case_part (c.args.depth - 1) (inner_at (told c.args.source.now) c.args.depth)) (others_part (inner_at (told c.args.source.now) c.args.depth)) c.args.items.now)

pub compound::read_case_arms-returns-in_default-clause-tree : goal.compound::read_case_arms-returns-in_default-clause-tree
compound::read_case_arms-returns-in_default-clause-tree m c =
    whens_empty (case_part (c.args.depth - 1) (inner_at (told c.args.source.now) c.args.depth)) (others_part (inner_at (told c.args.source.now) c.args.depth)) (map plain_case_arm c.arms.arms.items) c.arms.rest.now c.args.items.now c.arms.invariant c.in_default.len_below

pub compound::read_case_arms-returns-then-not-stands-clause-tree : goal.compound::read_case_arms-returns-then-not-stands-clause-tree
compound::read_case_arms-returns-then-not-stands-clause-tree m c =
    whens_over (case_part (c.args.depth - 1) (inner_at (told c.args.source.now) c.args.depth)) (others_part (inner_at (told c.args.source.now) c.args.depth)) (map plain_case_arm c.arms.arms.items) c.arms.rest.now c.args.items.now _ c.arms.invariant c.in-len1-up.len_at_least (missing _ _ _ c.stands.ensures.place c.if-not-stands.true)

pub compound::read_case_arms-returns-in_err-others-clause-tree : goal.compound::read_case_arms-returns-in_err-others-clause-tree
compound::read_case_arms-returns-in_err-others-clause-tree m c =
    let fails : Fails c.in_err-others.field-0.0 (whens (case_part (c.args.depth - 1) (inner_at (told c.args.source.now) c.args.depth)) (others_part (inner_at (told c.args.source.now) c.args.depth)) c.args.items.now) =
    whens_others_fails (case_part (c.args.depth - 1) (inner_at (told c.args.source.now) c.args.depth)) (others_part (inner_at (told c.args.source.now) c.args.depth)) (map plain_case_arm c.arms.arms.items) c.arms.rest.now c.args.items.now _ _ _ c.arms.invariant c.in-len1-up.len_at_least c.in-len1-up-behind.len_at_least (there _ _ _ c.stands.ensures.place c.if-not-stands.false) c.in_err-others.field-0.0 _ (there _ _ _ c.stands-in-arms.ensures.place c.if-stands.true) c.in_err-others.ensures.tree in
    search (rules, fails)

pub compound::read_case_arms-returns-then-stands-clause-tree : goal.compound::read_case_arms-returns-then-stands-clause-tree
compound::read_case_arms-returns-then-stands-clause-tree m c =
    whens_others (case_part (c.args.depth - 1) (inner_at (told c.args.source.now) c.args.depth)) (others_part (inner_at (told c.args.source.now) c.args.depth)) (map plain_case_arm c.arms.arms.items) c.arms.rest.now c.args.items.now _ _ _ c.arms.invariant c.in-len1-up.len_at_least c.in-len1-up-behind.len_at_least (there _ _ _ c.stands.ensures.place c.if-not-stands.false) _ (seen c.in_ok-others.others.items) c.in_ok-others.end.now (there _ _ _ c.stands-in-arms.ensures.place c.if-stands.true) c.in_ok-others.ensures.tree

pub compound::read_case_arms-returns-in_err-arm-clause-tree : goal.compound::read_case_arms-returns-in_err-arm-clause-tree
compound::read_case_arms-returns-in_err-arm-clause-tree m c =
    let fails : Fails c.in_err-arm.field-0.0 (whens (case_part (c.args.depth - 1) (inner_at (told c.args.source.now) c.args.depth)) (others_part (inner_at (told c.args.source.now) c.args.depth)) c.args.items.now) =
    whens_fails (case_part (c.args.depth - 1) (inner_at (told c.args.source.now) c.args.depth)) (others_part (inner_at (told c.args.source.now) c.args.depth)) (map plain_case_arm c.arms.arms.items) c.arms.rest.now c.args.items.now _ _ _ c.arms.invariant c.in-len1-up.len_at_least c.in-len1-up-behind.len_at_least (there _ _ _ c.stands.ensures.place c.if-not-stands.false) c.in_err-arm.field-0.0 (missing _ _ _ c.stands-in-arms.ensures.place c.if-stands.false) c.in_err-arm.ensures.tree in
    search (rules, fails)

pub compound::read_case_arms-arms-preserved : goal.compound::read_case_arms-arms-preserved
compound::read_case_arms-arms-preserved m c =
    whens_step (case_part (c.args.depth - 1) (inner_at (told c.args.source.now) c.args.depth)) (others_part (inner_at (told c.args.source.now) c.args.depth)) (map plain_case_arm c.arms.arms.items) c.arms.rest.now c.args.items.now _ _ _ c.arms.invariant c.in-len1-up.len_at_least c.in-len1-up-behind.len_at_least (there _ _ _ c.stands.ensures.place c.if-not-stands.false)
    (map plain_case_arm c.add.new.list.items) (plain_case_arm c.in_ok-arm.arm) c.in_ok-arm.end.now (grown plain_case_arm c.arms.arms.items c.add.new.list.items c.in_ok-arm.arm c.in_ok-add.ensures.added) (missing _ _ _ c.stands-in-arms.ensures.place c.if-stands.false) c.in_ok-arm.ensures.tree c.in_ok-arm.ensures.shorter

pub handled_statements::handler_parts-handlers-init : goal.handled_statements::handler_parts-handlers-init
handled_statements::handler_parts-handlers-init m c =
    subst (λ l. WhensGoOn (handler_part (inner_at (told c.args.source.now) c.args.depth)) (handler_others (inner_at (told c.args.source.now) c.args.depth)) (map plain_handler l) c.args.items.now c.args.items.now) (sym c.new-list.ensures.items) (whens_begin (handler_part (inner_at (told c.args.source.now) c.args.depth)) (handler_others (inner_at (told c.args.source.now) c.args.depth)) c.args.items.now)

pub handled_statements::handler_parts-returns-in_default-clause-tree : goal.handled_statements::handler_parts-returns-in_default-clause-tree
handled_statements::handler_parts-returns-in_default-clause-tree m c =
    whens_empty (handler_part (inner_at (told c.args.source.now) c.args.depth)) (handler_others (inner_at (told c.args.source.now) c.args.depth)) (map plain_handler c.handlers.list.items) c.handlers.rest.now c.args.items.now c.handlers.invariant c.in_default.len_below

pub handled_statements::handler_parts-returns-then-not-stands-clause-tree : goal.handled_statements::handler_parts-returns-then-not-stands-clause-tree
handled_statements::handler_parts-returns-then-not-stands-clause-tree m c =
    whens_over (handler_part (inner_at (told c.args.source.now) c.args.depth)) (handler_others (inner_at (told c.args.source.now) c.args.depth)) (map plain_handler c.handlers.list.items) c.handlers.rest.now c.args.items.now _ c.handlers.invariant c.in-len1-up.len_at_least (missing _ _ _ c.stands.ensures.place c.if-not-stands.true)

pub handled_statements::handler_parts-returns-in_err-others-clause-tree : goal.handled_statements::handler_parts-returns-in_err-others-clause-tree
handled_statements::handler_parts-returns-in_err-others-clause-tree m c =
    let fails : Fails c.in_err-others.field-0.0 (whens (handler_part (inner_at (told c.args.source.now) c.args.depth)) (handler_others (inner_at (told c.args.source.now) c.args.depth)) c.args.items.now) =
    whens_others_fails (handler_part (inner_at (told c.args.source.now) c.args.depth)) (handler_others (inner_at (told c.args.source.now) c.args.depth)) (map plain_handler c.handlers.list.items) c.handlers.rest.now c.args.items.now _ _ _ c.handlers.invariant c.in-len1-up.len_at_least c.in-len1-up-behind.len_at_least (there _ _ _ c.stands.ensures.place c.if-not-stands.false) c.in_err-others.field-0.0 _ (there _ _ _ c.stands-in-handlers.ensures.place c.if-stands.true) c.in_err-others.ensures.tree in
    search (rules, fails)

pub handled_statements::handler_parts-returns-then-stands-clause-tree : goal.handled_statements::handler_parts-returns-then-stands-clause-tree
handled_statements::handler_parts-returns-then-stands-clause-tree m c =
    whens_others (handler_part (inner_at (told c.args.source.now) c.args.depth)) (handler_others (inner_at (told c.args.source.now) c.args.depth)) (map plain_handler c.handlers.list.items) c.handlers.rest.now c.args.items.now _ _ _ c.handlers.invariant c.in-len1-up.len_at_least c.in-len1-up-behind.len_at_least (there _ _ _ c.stands.ensures.place c.if-not-stands.false) _ (plain_handler c.in_ok-others.others) c.in_ok-others.end.now (there _ _ _ c.stands-in-handlers.ensures.place c.if-stands.true) c.in_ok-others.ensures.tree

pub handled_statements::handler_parts-returns-in_err-handler-clause-tree : goal.handled_statements::handler_parts-returns-in_err-handler-clause-tree
handled_statements::handler_parts-returns-in_err-handler-clause-tree m c =
    let fails : Fails c.in_err-handler.field-0.0 (whens (handler_part (inner_at (told c.args.source.now) c.args.depth)) (handler_others (inner_at (told c.args.source.now) c.args.depth)) c.args.items.now) =
    whens_fails (handler_part (inner_at (told c.args.source.now) c.args.depth)) (handler_others (inner_at (told c.args.source.now) c.args.depth)) (map plain_handler c.handlers.list.items) c.handlers.rest.now c.args.items.now _ _ _ c.handlers.invariant c.in-len1-up.len_at_least c.in-len1-up-behind.len_at_least (there _ _ _ c.stands.ensures.place c.if-not-stands.false) c.in_err-handler.field-0.0 (missing _ _ _ c.stands-in-handlers.ensures.place c.if-stands.false) c.in_err-handler.ensures.tree in
    search (rules, fails)

pub handled_statements::handler_parts-handlers-preserved : goal.handled_statements::handler_parts-handlers-preserved
handled_statements::handler_parts-handlers-preserved m c =
    whens_step (handler_part (inner_at (told c.args.source.now) c.args.depth)) (handler_others (inner_at (told c.args.source.now) c.args.depth)) (map plain_handler c.handlers.list.items) c.handlers.rest.now c.args.items.now _ _ _ c.handlers.invariant c.in-len1-up.len_at_least c.in-len1-up-behind.len_at_least (there _ _ _ c.stands.ensures.place c.if-not-stands.false)
    (map plain_handler c.add.new.list.items) (plain_handler c.in_ok-handler.handler) c.in_ok-handler.end.now (grown plain_handler c.handlers.list.items c.add.new.list.items c.in_ok-handler.handler c.in_ok-add.ensures.added) (missing _ _ _ c.stands-in-handlers.ensures.place c.if-stands.false) c.in_ok-handler.ensures.tree c.in_ok-handler.ensures.shorter

pub handled_statements::body_end-returns-clause-tree : goal.handled_statements::body_end-returns-clause-tree
handled_statements::body_end-returns-clause-tree m c =
    handlers_go (c.args.depth - 1) (inner_at (told c.args.source.now) c.args.depth) (seen c.args.stmts.items) c.args.items.now c.in_ok-handlers.rest.now _ _ (handlers_of (map plain_handler c.in_ok-handlers.handlers.items))
    c.in-len1-up.len_at_least (there _ _ _ c.stands.ensures.place c.if-not-stands.false) (omega (arith, c.if-inner-eq0.false)) c.in_ok-handlers.ensures.tree
    ∙ ap (λ b. Found b c.in_ok-handlers.rest.now) (sym (body_built c.args.stmts c.in_ok-handlers.handlers))

pub statements::any_loop-returns-then-begins_loop-clause-tree : goal.statements::any_loop-returns-then-begins_loop-clause-tree
statements::any_loop-returns-then-begins_loop-clause-tree m c =
    same_gives c.loop_from.result (λ x. plain_stmt x.0) (λ x. x.1.now) _ _
    (loop_goes (told c.args.source.now) c.args.depth (inner_at (told c.args.source.now) c.args.depth) c.args.items.now _ c.in-len1-up.len_at_least (sym c.begins_loop.ensures ∙ c.if-begins_loop.true) (omega (arith, c.if-depth-eq0.false)))
    c.loop_from.ensures.tree

pub statements::named-returns-clause-tree : goal.statements::named-returns-clause-tree
statements::named-returns-clause-tree m c =
    same_gives c.loop_from.result (λ x. plain_stmt x.0) (λ x. x.1.now) _ _
    (named_goes (told c.args.source.now) c.args.depth (inner_at (told c.args.source.now) c.args.depth) c.args.name c.args.behind.now _ _ c.in-len1-up.len_at_least (there _ _ _ c.stands.ensures.place c.if-not-stands.false) (omega (arith, c.if-depth-eq0.false)))
    c.loop_from.ensures.tree

pub selecting::read_alt-returns-in_err-guard-2-clause-tree : goal.selecting::read_alt-returns-in_err-guard-2-clause-tree
selecting::read_alt-returns-in_err-guard-2-clause-tree m c =
    let fails : Fails c.in_err-guard-2.field-0.0 (alt_at c.args.depth (inner_at (told c.args.source.now) c.args.depth) c.args.items.now) =
    alt_fails c.args.depth (inner_at (told c.args.source.now) c.args.depth) c.args.items.now c.in_ok-guard.rest.now (option_map plain_expr c.in_ok-guard.guard) c.in_ok-guard.lead c.in_ok-guard.ensures.tree c.in_err-guard-2.field-0.0
    (joined_fails c.in_ok-guard.guard c.alt_kind.result c.in_err-guard-2.field-0.0 (λ x. kind_of (plain_alt_kind x.0) x.1 x.2) (λ x. x.3.now) _ c.in_err-guard-2.ensures c.alt_kind.ensures.tree) in
    search (rules, fails)

pub selecting::read_alt-returns-clause-tree : goal.selecting::read_alt-returns-clause-tree
selecting::read_alt-returns-clause-tree m c =
    alt_found c.args.depth (inner_at (told c.args.source.now) c.args.depth) c.args.items.now c.in_ok-guard.rest.now (option_map plain_expr c.in_ok-guard.guard) c.in_ok-guard.lead c.in_ok-guard.ensures.tree
    (option_map plain_expr c.in_ok-guard-2.guard) (kind_of (plain_alt_kind c.in_ok-guard-2.kind) c.in_ok-guard-2.first c.in_ok-guard-2.last) c.from_to-span.result c.in_ok-guard-2.rest.now
    (ap (option_map plain_expr) (joined_first c.in_ok-guard.guard c.alt_kind.result c.in_ok-guard-2.guard _ c.in_ok-guard-2.ensures))
    (joined_found c.in_ok-guard.guard c.alt_kind.result c.in_ok-guard-2.guard _ (λ x. kind_of (plain_alt_kind x.0) x.1 x.2) (λ x. x.3.now) _ c.in_ok-guard-2.ensures c.alt_kind.ensures.tree)
    (c.from_to-span.ensures ∙ ap (λ s. from_to s c.in_ok-guard-2.last) c.first_of_alt.ensures)

pub selecting::read_select-returns-in_err-call-2-clause-tree : goal.selecting::read_select-returns-in_err-call-2-clause-tree
selecting::read_select-returns-in_err-call-2-clause-tree m c =
    let some : is_some c.word_in.result ≡ true = c.is_none.ensures ∙ ap not c.if-is_none.false in
    let fails : Fails c.in_err-call-2.field-0.0 (select_rest (c.args.depth - 1) (inner_at (told c.args.source.now) c.args.depth) c.args.lead c.args.items.now) =
    select_fails (c.args.depth - 1) (inner_at (told c.args.source.now) c.args.depth) c.args.lead c.args.items.now c.in_ok-call.rest.now _ (plain_call c.in_ok-call.call) c.in-len1-up.len_at_least (sym (ap is_some c.word_in.ensures) ∙ some) c.in_ok-call.ensures.tree c.in_err-call-2.field-0.0
    (joined_fails c.in_ok-call.call c.call_tail.result c.in_err-call-2.field-0.0 (λ x. call_tail_of (seen x.0.items) x.1 (seen x.2.items) x.3) (λ x. x.4.now) _ c.in_err-call-2.ensures c.call_tail.ensures.tree) in
    search (rules, fails)

pub selecting::read_select-returns-clause-tree : goal.selecting::read_select-returns-clause-tree
selecting::read_select-returns-clause-tree m c =
    let some : is_some c.word_in.result ≡ true = c.is_none.ensures ∙ ap not c.if-is_none.false in
    select_found (c.args.depth - 1) (inner_at (told c.args.source.now) c.args.depth) c.args.lead c.args.items.now c.in_ok-call.rest.now _ (plain_call c.in_ok-call.call) c.in-len1-up.len_at_least (sym (ap is_some c.word_in.ensures) ∙ some) c.in_ok-call.ensures.tree
    (plain_call c.in_ok-call-2.call) (call_tail_of (seen c.in_ok-call-2.behind.items) c.in_ok-call-2.delay (seen c.in_ok-call-2.last.items) c.in_ok-call-2.close) (plain_stmt c.selected.result) c.in_ok-call-2.rest.now
    (ap plain_call (joined_first c.in_ok-call.call c.call_tail.result c.in_ok-call-2.call _ c.in_ok-call-2.ensures))
    (joined_found c.in_ok-call.call c.call_tail.result c.in_ok-call-2.call _ (λ x. call_tail_of (seen x.0.items) x.1 (seen x.2.items) x.3) (λ x. x.4.now) _ c.in_ok-call-2.ensures c.call_tail.ensures.tree)
    c.selected.ensures
