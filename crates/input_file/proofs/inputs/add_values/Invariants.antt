use Rattle.std.proofs.Common.{◌≡◌, ◌++◌, length, option_map}
use Rattle.seq_file.specs.text_lines.Lines.{all_of, words_of}
use Rattle.seq_file.specs.text_lines.Numerals.{small_integer}
use Rattle.input_file.proofs.inputs.add_values.Given as goal

-- the integers so far and those of the words that are left are those of all words
abbrev pub invariant-loop-word : goal.invariant-loop-word
invariant-loop-word l =
    option_map (λ added. l.values.items ++ added) (all_of small_integer (words_of l.rest))
    ≡ option_map (λ added. l.fn.values.items ++ added) (all_of small_integer (words_of l.words))

abbrev pub decreases-loop-word : goal.decreases-loop-word
decreases-loop-word l = length l.rest
