use Rattle.std.proofs.Common.{length, map}
use Rattle.ada_lexer.specs.declared.symbols.Symbol.TheVariants as key
use Rattle.ada_expr_parser.specs.Parts.{target}
use Rattle.ada_phrase_parser.specs.Reading.{is_symbol, key_then}
use Rattle.ada_simple_stmt_parser.specs.inner.SimpleViews.{as_target}
use Rattle.ada_phrase_parser.proofs.Lists.{GoesOn}
use Rattle.ada_simple_stmt_parser.proofs.simple.callees_onto.Given as goal

abbrev pub invariant-callees : goal.invariant-callees
invariant-callees l = GoesOn (is_symbol key.Comma) (key_then key.Comma (target l.depth)) (map as_target l.list.items) (map as_target l.initial.list.items) l.rest l.initial.rest

abbrev pub decreases-callees : goal.decreases-callees
decreases-callees l = length l.rest
