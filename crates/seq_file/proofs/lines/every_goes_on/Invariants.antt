use Rattle.std.proofs.Common.{◌≡◌, ◌-◌, ◌≤◌, length, drop}
use Rattle.seq_file.specs.Lines.{name_goes_on}
use Rattle.common_lemmas.specs.Following.{every}
use Rattle.seq_file.proofs.lines.every_goes_on.Given as goal

abbrev pub invariant-loop-n : goal.invariant-loop-n
invariant-loop-n l = record {
  within : l.n ≤ length l.word;
  goes_on : every name_goes_on (drop l.n l.word) ≡ every name_goes_on l.word;
}

abbrev pub decreases-loop-n : goal.decreases-loop-n
decreases-loop-n l = length l.word - l.n
