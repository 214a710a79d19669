-- The words of a line as the code keeps them.
use Rattle.std.specs.Prelude.{◌≡◌, ◌<◌, ℕ, List, [], ◌∷◌, length}
use Rattle.seq_file.specs.declared.line_words.Words.{Words}
use Rattle.seq_file.specs.declared.line_words.Words.TheVariants.{One, Two, Three, Four, Five, More}

-- these are the words, or there are more than five
abbrev pub AreWords : Words → List (List ℕ) → Type 0
AreWords (One a) list = list ≡ a.now ∷ []
AreWords (Two a b) list = list ≡ a.now ∷ b.now ∷ []
AreWords (Three a b c) list = list ≡ a.now ∷ b.now ∷ c.now ∷ []
AreWords (Four a b c d) list = list ≡ a.now ∷ b.now ∷ c.now ∷ d.now ∷ []
AreWords (Five a b c d e) list = list ≡ a.now ∷ b.now ∷ c.now ∷ d.now ∷ e.now ∷ []
AreWords More list = 5 < length list
