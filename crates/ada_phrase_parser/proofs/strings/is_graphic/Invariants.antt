use Rattle.std.proofs.Common.{◌≡◌, drop}
use Rattle.ada_phrase_parser.specs.Spelling.{is_graphic}
use Rattle.ada_phrase_parser.proofs.strings.is_graphic.Given as goal

abbrev pub invariant-loop-b : goal.invariant-loop-b
invariant-loop-b l = is_graphic (drop l.b-index l.bytes) ≡ is_graphic l.bytes
