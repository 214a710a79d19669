-- What the program answers, from what the one call answers for what came of its words.
use Rattle.std.proofs.Common.{ℕ, List, Result, Ok, Err}
use Rattle.std.specs.Prelude.{MatchResult}
use Rattle.debug_outcome.specs.words.Words.{asked_by}
use Rattle.debug_outcome.specs.declared.words.command.NoWords.{NoWords}
use Rattle.debug_outcome.specs.Delivery.{Sides}
use Rattle.debug_core.specs.Answers.{Answers, AnswersNoWords}
use Rattle.ded_program.specs.Whole.{IsFresh, IsWholeAnswer}

pub whole : {V : Type 0} (f : V → List (List ℕ)) (r : Result V NoWords) (sides : Sides) (status : ℕ) → MatchResult r (λ given. Answers (asked_by (f given)) sides status) (λ why. AnswersNoWords why sides status) → IsFresh sides →
    IsWholeAnswer status
whole f (Ok given) sides status h fresh = record { words = Ok (f given); sides = sides; fresh = fresh; answers = h }
whole f (Err why) sides status h fresh = record { words = Err why; sides = sides; fresh = fresh; answers = h }
