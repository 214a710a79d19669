-- Usages by how many they have.
use Rattle.std.proofs.Common.{◌≡◌, ◌≢◌, ℕ, List, [], ◌∷◌, length, map, None, refl}
use Rattle.debug_outcome.specs.words.Words.{asked_by}

-- words that are neither two nor three nor four nor five nor seven are no usage
pub no_usage : {A : Type 0} (f : A → List ℕ) (words : List A) → length words ≢ 2 → length words ≢ 3 → length words ≢ 4 → length words ≢ 5 → length words ≢ 7 → None ≡ asked_by (map f words)
no_usage f [] h j i k m = refl
no_usage f (a ∷ []) h j i k m = refl
no_usage f (a ∷ b ∷ []) h j i k m = absurd (h refl)
no_usage f (a ∷ b ∷ c ∷ []) h j i k m = absurd (j refl)
no_usage f (a ∷ b ∷ c ∷ d ∷ []) h j i k m = absurd (i refl)
no_usage f (a ∷ b ∷ c ∷ d ∷ e ∷ []) h j i k m = absurd (k refl)
no_usage f (a ∷ b ∷ c ∷ d ∷ e ∷ g ∷ []) h j i k m = refl
no_usage f (a ∷ b ∷ c ∷ d ∷ e ∷ g ∷ l ∷ []) h j i k m = absurd (m refl)
no_usage f (a ∷ b ∷ c ∷ d ∷ e ∷ g ∷ l ∷ n ∷ words) h j i k m = refl
