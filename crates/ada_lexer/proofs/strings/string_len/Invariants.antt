use Rattle.std.proofs.Common.{◌≡◌, ◌+◌, ◌-◌, ◌≤◌, true, length, drop}
use Rattle.ada_lexer.specs.Strings.{string_len}
use Rattle.ada_lexer.proofs.strings.string_len.Given as goal

abbrev pub invariant-loop-n : goal.invariant-loop-n
invariant-loop-n l = (l.n ≤ length l.text) × (l.n + string_len l.inside (drop l.n l.text) ≡ string_len true l.text)

abbrev pub decreases-loop-n : goal.decreases-loop-n
decreases-loop-n l = length l.text - l.n
