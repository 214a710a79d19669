use Rattle.std.proofs.Common.{sym, ◌∙◌, rules, map}
use Rattle.ada_expr_parser.specs.readers.Readers.{items, fronted}
use Rattle.ada_tree.specs.PlainStmt.{plain_part}
use Rattle.ada_lexer.specs.declared.symbols.Symbol.TheVariants as key
use Rattle.ada_phrase_parser.specs.Reading.{is_symbol, key_then, part}
use Rattle.ada_phrase_parser.specs.Views.{told}
use Rattle.ada_expr_parser.specs.Gives.{Fails}
use Rattle.ada_phrase_parser.proofs.Lists.{grown, list_empty, list_over, list_fails, list_goes}
use Rattle.ada_simple_stmt_parser.proofs.name_statements.parts_onto.Goals as goal

pub returns-in_default-clause-tree : goal.returns-in_default-clause-tree
returns-in_default-clause-tree c =
    list_empty (is_symbol key.Ampersand) (key_then key.Ampersand (part (told c.args.source.now) c.args.depth)) (map plain_part c.parts.list.items) (map plain_part c.args.list.now.items) c.parts.rest.now c.args.items.now c.parts.invariant c.in_default.len_below

pub returns-then-not-is_symbol-clause-tree : goal.returns-then-not-is_symbol-clause-tree
returns-then-not-is_symbol-clause-tree c =
    list_over (is_symbol key.Ampersand) (key_then key.Ampersand (part (told c.args.source.now) c.args.depth)) (map plain_part c.parts.list.items) (map plain_part c.args.list.now.items) c.parts.rest.now c.args.items.now _ c.parts.invariant c.in-len1-up.len_at_least (sym c.is_symbol.ensures ∙ c.if-not-is_symbol.true)

pub returns-in_err-part-clause-tree : goal.returns-in_err-part-clause-tree
returns-in_err-part-clause-tree c =
    let fails : Fails c.in_err-part.field-0.0 (fronted (map plain_part c.args.list.now.items) (items (is_symbol key.Ampersand) (key_then key.Ampersand (part (told c.args.source.now) c.args.depth)) c.args.items.now)) =
    list_fails (is_symbol key.Ampersand) (key_then key.Ampersand (part (told c.args.source.now) c.args.depth)) (map plain_part c.parts.list.items) (map plain_part c.args.list.now.items) c.parts.rest.now c.args.items.now _ c.in_err-part.field-0.0 c.parts.invariant c.in-len1-up.len_at_least (sym c.is_symbol.ensures ∙ c.if-not-is_symbol.false) c.in_err-part.ensures.tree in
    search (rules, fails)

pub parts-preserved : goal.parts-preserved
parts-preserved c =
    list_goes (is_symbol key.Ampersand) (key_then key.Ampersand (part (told c.args.source.now) c.args.depth)) (map plain_part c.parts.list.items) (map plain_part c.args.list.now.items) c.parts.rest.now c.args.items.now _
    (map plain_part c.add.new.list.items) (plain_part c.in_ok-part.part) c.in_ok-part.behind.now (grown plain_part c.parts.list.items c.add.new.list.items c.in_ok-part.part c.in_ok-add.ensures.added) c.parts.invariant
    c.in-len1-up.len_at_least (sym c.is_symbol.ensures ∙ c.if-not-is_symbol.false) c.in_ok-part.ensures.tree c.in_ok-part.ensures.shorter
