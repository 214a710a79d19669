-- The text of an output begins with that of its first line.
use Rattle.std.proofs.Common.{◌≡◌, ℕ, ◌+◌, ◌<◌, List, [], ◌∷◌, ◌++◌, length, get_or, take, drop, ap, sym, ◌∙◌, refl, arith, add-one, cond, None, Some, codes, inl, inr}
use Rattle.std.specs.Prelude.{position, nat_lt, unwrap_or, is_some}
use Rattle.std.specs.List.{position_or_len}
use Rattle.std.proofs.Math.Seq.{take-suc}
use Rattle.std.proofs.lemmas.Bool.{cases_Bool, eqb-true, ltb-true}
use Rattle.std.proofs.lemmas.List.Splits.{length-slice_split}
use Rattle.std.proofs.lemmas.List.Sums.{passes_at_first}
use Rattle.ded_io.specs.Written.{◌⧺◌, each_text}
use Rattle.ded_io.proofs.Writes.{joined, joined_nil, joined_assoc}
use Rattle.seq_file.specs.text_lines.Lines.{is_line_end}
use Rattle.seq_file.proofs.text_lines.Walks.{split-Some, split-None}
use Rattle.debug_run.specs.texts.OutputText.{pieces_of, but_last, last_piece, bar_line, angle_line, output_text}
use Rattle.common_lemmas.proofs.Truth.{clash}

-- an output has a piece at least
pub some_piece : (output : List ℕ) → 0 < length (pieces_of output)
some_piece output = omega (arith, length-slice_split is_line_end output)

-- a piece in front of others is not the last
pub but_last-cons : (piece : List ℕ) (pieces : List (List ℕ)) → 0 < length pieces → but_last (piece ∷ pieces) ≡ piece ∷ but_last pieces
but_last-cons piece [] some = absurd (omega arith)
but_last-cons piece (next ∷ rest) some = refl

last_of-cons : (piece : List ℕ) (pieces : List (List ℕ)) → 0 < length pieces → last_piece (piece ∷ pieces) ≡ last_piece pieces
last_of-cons piece [] some = absurd (omega arith)
last_of-cons piece (next ∷ rest) some = refl

-- the text of pieces
abbrev text_of_pieces : List (List ℕ) → List ℕ
text_of_pieces pieces = each_text bar_line (but_last pieces) ⧺ angle_line (last_piece pieces)

text-cons : (piece : List ℕ) (pieces : List (List ℕ)) → 0 < length pieces → text_of_pieces (piece ∷ pieces) ≡ bar_line piece ++ text_of_pieces pieces
text-cons piece pieces some =
    ap (λ ps. each_text bar_line ps ⧺ angle_line (last_piece (piece ∷ pieces))) (but_last-cons piece pieces some)
    ∙ ap (λ p. (bar_line piece ⧺ each_text bar_line (but_last pieces)) ⧺ angle_line p) (last_of-cons piece pieces some)
    ∙ joined_assoc (bar_line piece) (each_text bar_line (but_last pieces)) (angle_line (last_piece pieces))
    ∙ joined (bar_line piece) (text_of_pieces pieces)

-- the first byte of a class stands at the place of the first
at_place : (xs : List ℕ) (n : ℕ) → position is_line_end xs ≡ Some n → (n < length xs) × (get_or xs n 0 ≡ 10)
at_place xs n h =
    let at : ℕ = position_or_len is_line_end xs in
    elim (cases_Bool (nat_lt at (length xs))) [
      | inl e ↦
          let same : at ≡ n = ap (λ o. unwrap_or o 0) (sym (ap (λ t. cond t (Some at) None) e) ∙ h) in
          let less : at < length xs = ltb-true at (length xs) e in
          (omega arith, ap (λ k. get_or xs k 0) (sym same) ∙ eqb-true (get_or xs at 0) 10 (passes_at_first is_line_end xs 0 less))
      | inr e ↦ clash (ap is_some (sym (ap (λ t. cond t (Some at) None) e) ∙ h))
    ]

-- a line with the line feed that ends it
line-ended : (xs : List ℕ) (n : ℕ) → n < length xs → get_or xs n 0 ≡ 10 → take n xs ⧺ codes "\n" ≡ take (n + 1) xs
line-ended xs n within is =
    joined (take n xs) (10 ∷ []) ∙ ap (λ b. take n xs ++ b ∷ []) (sym is) ∙ sym (take-suc xs n 0 within) ∙ ap (λ k. take k xs) (sym (add-one n))

-- The text of an output with a finished line is that line behind its bar, and the text of what follows.
pub text-finished : (output : List ℕ) (n : ℕ) → position is_line_end output ≡ Some n → output_text output ≡ (codes "| " ⧺ take (n + 1) output) ++ output_text (drop (n + 1) output)
text-finished output n h =
    let (within, is) = at_place output n h in
    ap text_of_pieces (split-Some 10 output (take n output) (drop (n + 1) output) n h refl refl)
    ∙ text-cons (take n output) (pieces_of (drop (n + 1) output)) (some_piece (drop (n + 1) output))
    ∙ ap (λ line. (codes "| " ⧺ line) ++ output_text (drop (n + 1) output)) (line-ended output n within is)

-- The text of an output without a finished line is that of the line that is not finished.
pub text-unfinished : (output : List ℕ) → position is_line_end output ≡ None → output_text output ≡ angle_line output
text-unfinished output h = ap text_of_pieces (split-None 10 output h) ∙ joined_nil (angle_line output)

pub ruleset first_lines = (text-finished, text-unfinished)
