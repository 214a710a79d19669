use Rattle.std.proofs.Common.{length, map}
use Rattle.ada_tree.specs.PlainExpr.{plain_expr}
use Rattle.ada_lexer.specs.declared.symbols.Symbol.TheVariants as key
use Rattle.ada_expr_parser.specs.Parts.{expression}
use Rattle.ada_phrase_parser.specs.Reading.{is_symbol, key_then}
use Rattle.ada_phrase_parser.proofs.Lists.{GoesOn}
use Rattle.ada_decl_parser.proofs.initials.parts_onto.Given as goal

abbrev pub invariant-parts : goal.invariant-parts
invariant-parts l = GoesOn (is_symbol key.Comma) (key_then key.Comma (expression l.depth)) (map plain_expr l.list.items) (map plain_expr l.initial.list.items) l.rest l.initial.rest

abbrev pub decreases-parts : goal.decreases-parts
decreases-parts l = length l.rest
