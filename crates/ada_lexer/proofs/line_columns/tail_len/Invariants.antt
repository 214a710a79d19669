use Rattle.std.proofs.Common.{◌≡◌, ◌+◌, ◌≤◌, length, take}
use Rattle.std.specs.List.{suffix_len}
use Rattle.std.specs.Prelude.{not}
use Rattle.ada_lexer.specs.Bytes.{is_line_end}
use Rattle.ada_lexer.proofs.line_columns.tail_len.Given as goal

abbrev pub invariant-loop-n : goal.invariant-loop-n
invariant-loop-n l = (l.n ≤ length l.text) × (l.n + suffix_len (λ b. not (is_line_end b)) l.text ≡ length l.text + suffix_len (λ b. not (is_line_end b)) (take l.n l.text))

abbrev pub decreases-loop-n : goal.decreases-loop-n
decreases-loop-n l = l.n
