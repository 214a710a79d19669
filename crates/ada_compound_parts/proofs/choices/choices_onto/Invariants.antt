use Rattle.std.proofs.Common.{length, map}
use Rattle.ada_tree.specs.PlainStmt.{plain_choice}
use Rattle.ada_lexer.specs.declared.symbols.Symbol.TheVariants as key
use Rattle.ada_expr_parser.specs.Parts.{choice}
use Rattle.ada_phrase_parser.specs.Reading.{is_symbol, key_then}
use Rattle.ada_phrase_parser.proofs.Lists.{GoesOn}
use Rattle.ada_compound_parts.proofs.choices.choices_onto.Given as goal

abbrev pub invariant-choices : goal.invariant-choices
invariant-choices l = GoesOn (is_symbol key.Bar) (key_then key.Bar (choice l.depth)) (map plain_choice l.list.items) (map plain_choice l.initial.list.items) l.rest l.initial.rest

abbrev pub decreases-choices : goal.decreases-choices
decreases-choices l = length l.rest
