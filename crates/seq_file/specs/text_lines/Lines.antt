-- Lines, each ended by a line feed, and their words, with one blank between each two (this project's format).
use Rattle.std.specs.Prelude.{ℕ, Bool, ◌==◌, ◌+◌, List, [], ◌∷◌, take, drop, position, Option, Some, None, option_map}
use Rattle.std.specs.List.{slice_split}

-- the byte is a line feed
abbrev pub is_line_end : ℕ → Bool
is_line_end b = b == 10

-- the byte is a blank
abbrev pub is_blank : ℕ → Bool
is_blank b = b == 32

-- the first line of a text without the line feed that ends it; none where no line feed stands in the text
abbrev pub first_line : List ℕ → Option (List ℕ)
first_line text = option_map (λ n. take n text) (position is_line_end text)

-- a text cut at the first byte of a class: what stands before it and what behind
abbrev pub cut : (ℕ → Bool) → List ℕ → Option (List ℕ × List ℕ)
cut class text = option_map (λ n. (take n text, drop (n + 1) text)) (position class text)

-- the parts of a line between its blanks: one more than it has blanks
abbrev pub words_of : List ℕ → List (List ℕ)
words_of line = slice_split is_blank line

-- both values, where there are both
abbrev pub with_two : {A B X : Type 0} → (A → B → X) → Option A → Option B → Option X
with_two make (Some a) (Some b) = Some (make a b)
with_two make (Some a) None = None
with_two make None b = None

-- what each of the words writes, where each writes something
abbrev pub all_of : {X : Type 0} → (List ℕ → Option X) → List (List ℕ) → Option (List X)
all_of read [] = Some []
all_of read (word ∷ rest) = with_two (λ x xs. x ∷ xs) (read word) (all_of read rest)
