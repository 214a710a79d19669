use Rattle.std.proofs.Common.{◌≡◌, ◌+◌, ◌-◌, ◌≤◌, length, drop}
use Rattle.ada_lexer.specs.Bytes.{run_len}
use Rattle.ada_lexer.specs.Pieces.{number_goes_on}
use Rattle.ada_lexer.proofs.lengths.number_len.Given as goal

abbrev pub invariant-loop-n : goal.invariant-loop-n
invariant-loop-n l = (l.n ≤ length l.text) × (l.n + run_len number_goes_on (drop l.n l.text) ≡ run_len number_goes_on l.text)

abbrev pub decreases-loop-n : goal.decreases-loop-n
decreases-loop-n l = length l.text - l.n
