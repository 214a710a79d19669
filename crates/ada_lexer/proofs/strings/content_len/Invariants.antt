use Rattle.std.proofs.Common.{◌≡◌, ◌+◌, ◌≤◌, true, length, drop}
use Rattle.ada_lexer.specs.Strings.{content}
use Rattle.ada_lexer.proofs.strings.content_len.Given as goal

abbrev pub invariant-loop-b : goal.invariant-loop-b
invariant-loop-b l = (l.count ≤ l.b-index) × (l.count + length (content l.inside (drop l.b-index l.text)) ≡ length (content true l.text))
