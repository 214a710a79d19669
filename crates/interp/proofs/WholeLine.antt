-- A line that was gathered whole.
use Rattle.std.proofs.Common.{◌≡◌, ℕ, List, [], Option, Some, Result, Ok, ◌∙◌, subst}
use Rattle.std.proofs.lemmas.Option.{same_Some}
use Rattle.ded_io.specs.Written.{Wrote}

-- what was gathered is the line, so what comes of writing it comes of the line
pub line_gathered : (A B E F : Type 0) (x : B) (r : Result A E) (old new : Option (List ℕ)) (gathered bytes line : List ℕ) →
    Wrote {E = F} (Ok x) (Some []) (Some gathered) line → bytes ≡ gathered → Wrote r old new bytes → Wrote r old new line
unfolding Wrote
line_gathered A B E F x r old new gathered bytes line done same wrote =
    subst (λ t. Wrote r old new t) (same ∙ same_Some gathered line done) wrote
