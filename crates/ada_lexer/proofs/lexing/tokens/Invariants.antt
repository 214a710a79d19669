use Rattle.std.proofs.Common.{length, ◌-◌}
use Rattle.ada_lexer.proofs.Steps.{IsReadTo}
use Rattle.ada_lexer.proofs.lexing.tokens.Given as goal

abbrev pub invariant-loop-at : goal.invariant-loop-at
invariant-loop-at l = IsReadTo l.src l.at l.found.items

abbrev pub decreases-loop-at : goal.decreases-loop-at
decreases-loop-at l = length l.src - l.at
