use Rattle.std.proofs.Common.{◌≡◌, ◌++◌, true, drop}
use Rattle.ada_lexer.specs.Strings.{content}
use Rattle.ada_phrase_parser.proofs.strings.content.Given as goal

abbrev pub invariant-loop-b : goal.invariant-loop-b
invariant-loop-b l = l.text.items ++ content l.inside (drop l.b-index l.bytes) ≡ content true l.bytes
