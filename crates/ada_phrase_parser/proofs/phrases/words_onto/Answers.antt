use Rattle.std.proofs.Common.{sym, ◌∙◌, rules}
use Rattle.ada_expr_parser.specs.readers.Readers.{token, items, fronted}
use Rattle.ada_expr_parser.specs.Tests.{word}
use Rattle.ada_phrase_parser.specs.Reading.{is_symbol, key_then}
use Rattle.ada_expr_parser.specs.Gives.{Fails}
use Rattle.ada_phrase_parser.proofs.Lists.{list_empty, list_over, list_fails, list_goes}
use Rattle.ada_phrase_parser.proofs.phrases.words_onto.Goals as goal

pub returns-in_default-clause-tree : goal.returns-in_default-clause-tree
returns-in_default-clause-tree c =
    list_empty (is_symbol c.args.between) (key_then c.args.between (token word)) c.words.list.items c.args.list.now.items c.words.rest.now c.args.items.now c.words.invariant c.in_default.len_below

pub returns-then-not-is_symbol-clause-tree : goal.returns-then-not-is_symbol-clause-tree
returns-then-not-is_symbol-clause-tree c =
    list_over (is_symbol c.args.between) (key_then c.args.between (token word)) c.words.list.items c.args.list.now.items c.words.rest.now c.args.items.now _ c.words.invariant c.in-len1-up.len_at_least (sym c.is_symbol.ensures ∙ c.if-not-is_symbol.true)

pub returns-in_err-word-clause-tree : goal.returns-in_err-word-clause-tree
returns-in_err-word-clause-tree c =
    let fails : Fails c.in_err-word.field-0.0 (fronted c.args.list.now.items (items (is_symbol c.args.between) (key_then c.args.between (token word)) c.args.items.now)) =
    list_fails (is_symbol c.args.between) (key_then c.args.between (token word)) c.words.list.items c.args.list.now.items c.words.rest.now c.args.items.now _ c.in_err-word.field-0.0 c.words.invariant c.in-len1-up.len_at_least (sym c.is_symbol.ensures ∙ c.if-not-is_symbol.false) c.in_err-word.ensures.tree in
    search (rules, fails)

pub words-preserved : goal.words-preserved
words-preserved c =
    list_goes (is_symbol c.args.between) (key_then c.args.between (token word)) c.words.list.items c.args.list.now.items c.words.rest.now c.args.items.now _
    c.add.new.list.items c.in_ok-word.word c.in_ok-word.behind.now c.in_ok-add.ensures.added c.words.invariant
    c.in-len1-up.len_at_least (sym c.is_symbol.ensures ∙ c.if-not-is_symbol.false) c.in_ok-word.ensures.tree c.in_ok-word.ensures.shorter
