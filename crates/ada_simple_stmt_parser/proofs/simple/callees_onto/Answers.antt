use Rattle.std.proofs.Common.{sym, ◌∙◌, rules, map}
use Rattle.ada_expr_parser.specs.readers.Readers.{items, fronted}
use Rattle.ada_lexer.specs.declared.symbols.Symbol.TheVariants as key
use Rattle.ada_expr_parser.specs.Parts.{target}
use Rattle.ada_phrase_parser.specs.Reading.{is_symbol, key_then}
use Rattle.ada_simple_stmt_parser.specs.inner.SimpleViews.{as_target}
use Rattle.ada_expr_parser.specs.Gives.{Fails}
use Rattle.ada_phrase_parser.proofs.Lists.{grown, list_empty, list_over, list_fails, list_goes}
use Rattle.ada_simple_stmt_parser.proofs.simple.callees_onto.Goals as goal

pub returns-in_default-clause-tree : goal.returns-in_default-clause-tree
returns-in_default-clause-tree c =
    list_empty (is_symbol key.Comma) (key_then key.Comma (target c.args.depth)) (map as_target c.callees.list.items) (map as_target c.args.list.now.items) c.callees.rest.now c.args.items.now c.callees.invariant c.in_default.len_below

pub returns-then-not-is_symbol-clause-tree : goal.returns-then-not-is_symbol-clause-tree
returns-then-not-is_symbol-clause-tree c =
    list_over (is_symbol key.Comma) (key_then key.Comma (target c.args.depth)) (map as_target c.callees.list.items) (map as_target c.args.list.now.items) c.callees.rest.now c.args.items.now _ c.callees.invariant c.in-len1-up.len_at_least (sym c.is_symbol.ensures ∙ c.if-not-is_symbol.true)

pub returns-in_err-callee-clause-tree : goal.returns-in_err-callee-clause-tree
returns-in_err-callee-clause-tree c =
    let fails : Fails c.in_err-callee.field-0.0 (fronted (map as_target c.args.list.now.items) (items (is_symbol key.Comma) (key_then key.Comma (target c.args.depth)) c.args.items.now)) =
    list_fails (is_symbol key.Comma) (key_then key.Comma (target c.args.depth)) (map as_target c.callees.list.items) (map as_target c.args.list.now.items) c.callees.rest.now c.args.items.now _ c.in_err-callee.field-0.0 c.callees.invariant c.in-len1-up.len_at_least (sym c.is_symbol.ensures ∙ c.if-not-is_symbol.false) c.in_err-callee.ensures.tree in
    search (rules, fails)

pub callees-preserved : goal.callees-preserved
callees-preserved c =
    list_goes (is_symbol key.Comma) (key_then key.Comma (target c.args.depth)) (map as_target c.callees.list.items) (map as_target c.args.list.now.items) c.callees.rest.now c.args.items.now _
    (map as_target c.add.new.list.items) (as_target c.in_ok-callee.callee) c.in_ok-callee.behind.now (grown as_target c.callees.list.items c.add.new.list.items c.in_ok-callee.callee c.in_ok-add.ensures.added) c.callees.invariant
    c.in-len1-up.len_at_least (sym c.is_symbol.ensures ∙ c.if-not-is_symbol.false) c.in_ok-callee.ensures.tree c.in_ok-callee.ensures.shorter
