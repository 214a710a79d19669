use Rattle.std.proofs.Common.{◌≡◌, drop, map}
use Rattle.ada_lexer.specs.Bytes.{in_lower_case}
use Rattle.ada_lexer.specs.Words.{same_text}
use Rattle.ada_lexer.proofs.spellings.is_word.Given as goal

abbrev pub invariant-loop-n : goal.invariant-loop-n
invariant-loop-n l =
    same_text (map in_lower_case (drop l.n l.word)) (drop l.n l.small) ≡ same_text (map in_lower_case l.word) l.small
