use Rattle.std.proofs.Common.{◌≡◌, ◌≤◌, ◌^◌, drop, true}
use Rattle.seq_file.specs.text_lines.Numerals.{are_digits, value_behind}
use Rattle.seq_file.specs.text_lines.Capped.{capped}
use Rattle.seq_file.proofs.text_lines.numerals.capped_value.Given as goal

abbrev pub invariant-loop-b : goal.invariant-loop-b
invariant-loop-b l = record {
  digits : are_digits (drop l.b-index l.word) ≡ true;
  small : l.value ≤ 2 ^ 32;
  value : capped (value_behind l.value (drop l.b-index l.word)) ≡ capped (value_behind 0 l.word);
}
