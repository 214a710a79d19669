use Rattle.std.proofs.Common.{length, map}
use Rattle.ada_tree.specs.PlainStmt.{plain_part}
use Rattle.ada_lexer.specs.declared.symbols.Symbol.TheVariants as key
use Rattle.ada_phrase_parser.specs.Reading.{is_symbol, key_then, part}
use Rattle.ada_phrase_parser.specs.Views.{told}
use Rattle.ada_phrase_parser.proofs.Lists.{GoesOn}
use Rattle.ada_simple_stmt_parser.proofs.name_statements.parts_onto.Given as goal

abbrev pub invariant-parts : goal.invariant-parts
invariant-parts l = GoesOn (is_symbol key.Ampersand) (key_then key.Ampersand (part (told l.source) l.depth)) (map plain_part l.list.items) (map plain_part l.initial.list.items) l.rest l.initial.rest

abbrev pub decreases-parts : goal.decreases-parts
decreases-parts l = length l.rest
