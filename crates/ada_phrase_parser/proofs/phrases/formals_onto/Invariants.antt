use Rattle.std.proofs.Common.{length, map}
use Rattle.ada_tree.specs.PlainStmt.{plain_formal}
use Rattle.ada_lexer.specs.declared.symbols.Symbol.TheVariants as key
use Rattle.ada_phrase_parser.specs.Reading.{is_symbol, key_then, formal}
use Rattle.ada_phrase_parser.proofs.Lists.{GoesOn}
use Rattle.ada_phrase_parser.proofs.phrases.formals_onto.Given as goal

abbrev pub invariant-formals : goal.invariant-formals
invariant-formals l = GoesOn (is_symbol key.Semicolon) (key_then key.Semicolon formal) (map plain_formal l.list.items) (map plain_formal l.initial.list.items) l.rest l.initial.rest

abbrev pub decreases-formals : goal.decreases-formals
decreases-formals l = length l.rest
