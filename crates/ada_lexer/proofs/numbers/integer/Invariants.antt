use Rattle.std.proofs.Common.{◌≡◌, ◌-◌, ◌≤◌, length, drop}
use Rattle.common_lemmas.specs.Following.{every}
use Rattle.ada_lexer.specs.Numbers.{numeral_goes_on, decimal_from}
use Rattle.ada_lexer.proofs.numbers.integer.Given as goal

abbrev pub invariant-loop-n : goal.invariant-loop-n
invariant-loop-n l = record {
  within : l.n ≤ length l.text;
  small : l.value ≤ 2147483647;
  goes_on : every numeral_goes_on (drop l.n l.text) ≡ every numeral_goes_on l.text;
  counted : decimal_from l.value (drop l.n l.text) ≡ decimal_from 0 l.text;
}

abbrev pub decreases-loop-n : goal.decreases-loop-n
decreases-loop-n l = length l.text - l.n
