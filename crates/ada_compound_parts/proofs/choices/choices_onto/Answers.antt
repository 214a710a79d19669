use Rattle.std.proofs.Common.{sym, ◌∙◌, rules, map}
use Rattle.ada_expr_parser.specs.readers.Readers.{items, fronted}
use Rattle.ada_tree.specs.PlainStmt.{plain_choice}
use Rattle.ada_lexer.specs.declared.symbols.Symbol.TheVariants as key
use Rattle.ada_expr_parser.specs.Parts.{choice}
use Rattle.ada_phrase_parser.specs.Reading.{is_symbol, key_then}
use Rattle.ada_expr_parser.specs.Gives.{Fails}
use Rattle.ada_phrase_parser.proofs.Lists.{grown, list_empty, list_over, list_fails, list_goes}
use Rattle.ada_compound_parts.proofs.choices.choices_onto.Goals as goal

pub returns-in_default-clause-tree : goal.returns-in_default-clause-tree
returns-in_default-clause-tree c =
    list_empty (is_symbol key.Bar) (key_then key.Bar (choice c.args.depth)) (map plain_choice c.choices.list.items) (map plain_choice c.args.list.now.items) c.choices.rest.now c.args.items.now c.choices.invariant c.in_default.len_below

pub returns-then-not-stands-clause-tree : goal.returns-then-not-stands-clause-tree
returns-then-not-stands-clause-tree c =
    list_over (is_symbol key.Bar) (key_then key.Bar (choice c.args.depth)) (map plain_choice c.choices.list.items) (map plain_choice c.args.list.now.items) c.choices.rest.now c.args.items.now _ c.choices.invariant c.in-len1-up.len_at_least (sym c.stands.ensures.test ∙ c.if-not-stands.true)

pub returns-in_err-choice-clause-tree : goal.returns-in_err-choice-clause-tree
returns-in_err-choice-clause-tree c =
    let fails : Fails c.in_err-choice.field-0.0 (fronted (map plain_choice c.args.list.now.items) (items (is_symbol key.Bar) (key_then key.Bar (choice c.args.depth)) c.args.items.now)) =
    list_fails (is_symbol key.Bar) (key_then key.Bar (choice c.args.depth)) (map plain_choice c.choices.list.items) (map plain_choice c.args.list.now.items) c.choices.rest.now c.args.items.now _ c.in_err-choice.field-0.0 c.choices.invariant c.in-len1-up.len_at_least (sym c.stands.ensures.test ∙ c.if-not-stands.false) c.in_err-choice.ensures.tree in
    search (rules, fails)

pub choices-preserved : goal.choices-preserved
choices-preserved c =
    list_goes (is_symbol key.Bar) (key_then key.Bar (choice c.args.depth)) (map plain_choice c.choices.list.items) (map plain_choice c.args.list.now.items) c.choices.rest.now c.args.items.now _
    (map plain_choice c.add.new.list.items) (plain_choice c.in_ok-choice.choice) c.in_ok-choice.behind.now (grown plain_choice c.choices.list.items c.add.new.list.items c.in_ok-choice.choice c.in_ok-add.ensures.added) c.choices.invariant
    c.in-len1-up.len_at_least (sym c.stands.ensures.test ∙ c.if-not-stands.false) c.in_ok-choice.ensures.tree c.in_ok-choice.ensures.shorter
