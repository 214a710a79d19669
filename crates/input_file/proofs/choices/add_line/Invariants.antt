use Rattle.std.proofs.Common.{◌≡◌, ◌++◌, length, option_map}
use Rattle.seq_file.specs.text_lines.Lines.{all_of, words_of}
use Rattle.seq_file.specs.text_lines.Numerals.{small_number}
use Rattle.input_file.proofs.choices.add_line.Given as goal

-- the choices so far and those of the words that are left are those of the line
abbrev pub invariant-loop-word : goal.invariant-loop-word
invariant-loop-word l =
    option_map (λ added. l.choices.items ++ added) (all_of small_number (words_of l.rest))
    ≡ option_map (λ added. l.fn.choices.items ++ added) (all_of small_number (words_of l.line))

abbrev pub decreases-loop-word : goal.decreases-loop-word
decreases-loop-word l = length l.rest
