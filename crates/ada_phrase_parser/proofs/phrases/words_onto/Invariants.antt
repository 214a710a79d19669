use Rattle.std.proofs.Common.{length}
use Rattle.ada_expr_parser.specs.readers.Readers.{token}
use Rattle.ada_expr_parser.specs.Tests.{word}
use Rattle.ada_phrase_parser.specs.Reading.{is_symbol, key_then}
use Rattle.ada_phrase_parser.proofs.Lists.{GoesOn}
use Rattle.ada_phrase_parser.proofs.phrases.words_onto.Given as goal

abbrev pub invariant-words : goal.invariant-words
invariant-words l = GoesOn (is_symbol l.between) (key_then l.between (token word)) l.list.items l.initial.list.items l.rest l.initial.rest

abbrev pub decreases-words : goal.decreases-words
decreases-words l = length l.rest
