-- Which events a pattern matches, where `?` stands for a value (this project's rule).
use Rattle.std.specs.Prelude.{ℕ, ℤ, pos, Bool, true, false, ◌&&◌, ◌||◌, List, [], ◌∷◌, Option, Some, None}
use Rattle.std.specs.Option.{option_map_or}
use Rattle.std.specs.Ordering.{int_eq}
use Rattle.event_machine.specs.declared.Event.{Event}
use Rattle.event_machine.specs.declared.Event.TheVariants.{R, E, S, D, C, T, F, X, B, Z}
use Rattle.syn_constraint.specs.declared.constraints.Num.{Num}
use Rattle.syn_constraint.specs.declared.constraints.Num.TheVariants.{Every, Same, Exact}
use Rattle.syn_constraint.specs.declared.constraints.Letter.{Letter}
use Rattle.syn_constraint.specs.declared.constraints.Letter.TheVariants as letter
use Rattle.syn_constraint.specs.declared.constraints.Pattern.{Pattern}

-- the numbers of an event, in the order in which its line has them
abbrev pub numbers_of : Event → List ℤ
numbers_of (R c e i) = pos c ∷ pos e ∷ i ∷ []
numbers_of (E a) = pos a ∷ []
numbers_of (S a) = pos a ∷ []
numbers_of (D a k) = pos a ∷ pos k ∷ []
numbers_of (C c e i) = pos c ∷ pos e ∷ i ∷ []
numbers_of (T c e i) = pos c ∷ pos e ∷ i ∷ []
numbers_of (F c e i) = pos c ∷ pos e ∷ i ∷ []
numbers_of (X a) = pos a ∷ []
numbers_of (B t x) = pos t ∷ pos x ∷ []
numbers_of Z = []

-- the event has the letter
abbrev pub has_letter : Letter → Event → Bool
has_letter letter.R (R c e i) = true
has_letter letter.E (E a) = true
has_letter letter.S (S a) = true
has_letter letter.D (D a k) = true
has_letter letter.C (C c e i) = true
has_letter letter.T (T c e i) = true
has_letter letter.F (F c e i) = true
has_letter letter.X (X a) = true
has_letter letter.B (B t x) = true
has_letter letter.Z Z = true
has_letter letter event = false

-- the pattern is `any`
abbrev pub is_whole : Letter → Bool
is_whole letter.Whole = true
is_whole letter = false

-- The number is as a pattern asks: any for `*`, the value for `?`, and itself for an exact one. Without a value no number is as `?` asks.
abbrev pub fits : Option ℤ → Num → ℤ → Bool
fits value Every z = true
fits value Same z = option_map_or (int_eq z) value false
fits value (Exact n) z = int_eq n z

-- each of the numbers is as it is asked
abbrev pub fit_all : Option ℤ → List Num → List ℤ → Bool
fit_all value (n ∷ asked) (z ∷ numbers) = fits value n z && fit_all value asked numbers
fit_all value asked numbers = true

-- what a pattern asks of the first, the second and the third number
abbrev pub asked_of : Pattern → List Num
asked_of pattern = pattern.one ∷ pattern.two ∷ pattern.three ∷ []

-- The pattern matches the event: it is `any`, or has the event's letter, and asks for each of its numbers.
abbrev pub matches : Pattern → Option ℤ → Event → Bool
matches pattern value event =
    is_whole pattern.letter || (has_letter pattern.letter event && fit_all value (asked_of pattern) (numbers_of event))
