-- The finished lines of an output are those before the last of its pieces.
use Rattle.std.proofs.Common.{◌≡◌, ℕ, ◌<◌, List, [], ◌∷◌, ◌++◌, length, refl, ap, arith}
use Rattle.std.proofs.lemmas.List.Splits.{length-slice_split}
use Rattle.seq_file.specs.text_lines.Lines.{is_line_end}
use Rattle.collect_runs.specs.files.Files.{HasLines}
use Rattle.debug_run.specs.texts.OutputText.{pieces_of, but_last, last_piece, finished_lines, unfinished_line}

all_pieces : (pieces : List (List ℕ)) → 0 < length pieces → pieces ≡ but_last pieces ++ last_piece pieces ∷ []
all_pieces [] some = absurd (omega arith)
all_pieces (piece ∷ []) some = refl
all_pieces (piece ∷ next ∷ rest) some = ap (λ ps. piece ∷ ps) (all_pieces (next ∷ rest) (omega arith))

pub has_lines : (output : List ℕ) → HasLines output (finished_lines output) (unfinished_line output)
has_lines output = all_pieces (pieces_of output) (omega (arith, length-slice_split is_line_end output))
