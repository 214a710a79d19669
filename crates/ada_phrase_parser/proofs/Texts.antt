-- What a string literal says, byte by byte.
use Rattle.std.proofs.Common.{◌≡◌, ℕ, zero, suc, ◌<◌, true, List, [], ◌∷◌, arith}
use Rattle.std.specs.Str.{IsAscii}
use Rattle.std.proofs.lemmas.Bool.Decides.{nat_tests}
use Rattle.ada_lexer.specs.Bytes.{is_printable}
use Rattle.ada_phrase_parser.specs.Spelling.{is_graphic}
use Rattle.common_lemmas.proofs.Truth.{and_both}

printable : (x : ℕ) → is_printable x ≡ true → x < 128
printable x h = grind (arith, nat_tests)

-- graphic characters are ASCII
pub ascii : (t : List ℕ) → is_graphic t ≡ true → IsAscii t
ascii [] h i = omega arith
ascii (x ∷ xs) h zero = printable x (and_both (is_printable x) (is_graphic xs) h).0
ascii (x ∷ xs) h (suc i) = ascii xs (and_both (is_printable x) (is_graphic xs) h).1 i
