use Rattle.std.proofs.Common.{◌≡◌, true, drop}
use Rattle.ada_lexer.specs.Strings.{ends_inside}
use Rattle.ada_lexer.proofs.strings.ends_inside.Given as goal

abbrev pub invariant-loop-b : goal.invariant-loop-b
invariant-loop-b l = ends_inside l.inside (drop l.b-index l.text) ≡ ends_inside true l.text
