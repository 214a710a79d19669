use Rattle.std.proofs.Common.{◌≡◌, drop}
use Rattle.seq_file.specs.text_lines.Numerals.{are_digits}
use Rattle.seq_file.proofs.text_lines.numerals.are_digits.Given as goal

abbrev pub invariant-loop-b : goal.invariant-loop-b
invariant-loop-b l = are_digits (drop l.b-index l.word) ≡ are_digits l.word
