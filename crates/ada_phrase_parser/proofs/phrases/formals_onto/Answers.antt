use Rattle.std.proofs.Common.{sym, ◌∙◌, rules, map}
use Rattle.ada_expr_parser.specs.readers.Readers.{items, fronted}
use Rattle.ada_tree.specs.PlainStmt.{plain_formal}
use Rattle.ada_lexer.specs.declared.symbols.Symbol.TheVariants as key
use Rattle.ada_phrase_parser.specs.Reading.{is_symbol, key_then, formal}
use Rattle.ada_expr_parser.specs.Gives.{Fails}
use Rattle.ada_phrase_parser.proofs.Lists.{grown, list_empty, list_over, list_fails, list_goes}
use Rattle.ada_phrase_parser.proofs.phrases.formals_onto.Goals as goal

pub returns-in_default-clause-tree : goal.returns-in_default-clause-tree
returns-in_default-clause-tree c =
    list_empty (is_symbol key.Semicolon) (key_then key.Semicolon formal) (map plain_formal c.formals.list.items) (map plain_formal c.args.list.now.items) c.formals.rest.now c.args.items.now c.formals.invariant c.in_default.len_below

pub returns-then-not-is_symbol-clause-tree : goal.returns-then-not-is_symbol-clause-tree
returns-then-not-is_symbol-clause-tree c =
    list_over (is_symbol key.Semicolon) (key_then key.Semicolon formal) (map plain_formal c.formals.list.items) (map plain_formal c.args.list.now.items) c.formals.rest.now c.args.items.now _ c.formals.invariant c.in-len1-up.len_at_least (sym c.is_symbol.ensures ∙ c.if-not-is_symbol.true)

pub returns-in_err-formal-clause-tree : goal.returns-in_err-formal-clause-tree
returns-in_err-formal-clause-tree c =
    let fails : Fails c.in_err-formal.field-0.0 (fronted (map plain_formal c.args.list.now.items) (items (is_symbol key.Semicolon) (key_then key.Semicolon formal) c.args.items.now)) =
    list_fails (is_symbol key.Semicolon) (key_then key.Semicolon formal) (map plain_formal c.formals.list.items) (map plain_formal c.args.list.now.items) c.formals.rest.now c.args.items.now _ c.in_err-formal.field-0.0 c.formals.invariant c.in-len1-up.len_at_least (sym c.is_symbol.ensures ∙ c.if-not-is_symbol.false) c.in_err-formal.ensures.tree in
    search (rules, fails)

pub formals-preserved : goal.formals-preserved
formals-preserved c =
    list_goes (is_symbol key.Semicolon) (key_then key.Semicolon formal) (map plain_formal c.formals.list.items) (map plain_formal c.args.list.now.items) c.formals.rest.now c.args.items.now _
    (map plain_formal c.add.new.list.items) (plain_formal c.in_ok-formal.formal) c.in_ok-formal.behind.now (grown plain_formal c.formals.list.items c.add.new.list.items c.in_ok-formal.formal c.in_ok-add.ensures.added) c.formals.invariant
    c.in-len1-up.len_at_least (sym c.is_symbol.ensures ∙ c.if-not-is_symbol.false) c.in_ok-formal.ensures.tree c.in_ok-formal.ensures.shorter
