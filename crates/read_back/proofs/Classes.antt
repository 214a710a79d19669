-- What the text behind a piece begins with, where a piece ends before it.
use Rattle.std.proofs.Common.{◌≡◌, ℕ, Bool, true, false, ◌||◌, ◌==◌, List, [], ◌∷◌}
use Rattle.std.proofs.lemmas.Bool.{or_right, false≢true}
use Rattle.ada_lexer.specs.Bytes.{is_letter_or_digit}

-- anything, a letter, a digit or a stop, a stop or a point, or a stop
pub data Class : Type 0 where
  Anything : Class
  Plain : Class
  WordEnd : Class
  Stop : Class

-- a line feed, a blank, or one of ' ( ) , ; which end each piece and are prolonged by none
abbrev pub is_stop : ℕ → Bool
is_stop b = b == 10 || b == 32 || b == 39 || b == 40 || b == 41 || b == 44 || b == 59

abbrev pub allows : Class → ℕ → Bool
allows Anything b = true
allows Plain b = is_letter_or_digit b || is_stop b
allows WordEnd b = b == 46 || is_stop b
allows Stop b = is_stop b

-- the text is at its end, or begins with a byte of the class
abbrev pub Next : Class → List ℕ → Type 0
Next Anything rest = Unit {0}
Next c [] = Unit {0}
Next c (b ∷ rest) = allows c b ≡ true

-- the second class has bytes of the first alone
abbrev pub under : Class → Class → Bool
under Anything s = true
under c Stop = true
under Plain Plain = true
under WordEnd WordEnd = true
under c s = false

pub weaken : (c s : Class) → under c s ≡ true → (rest : List ℕ) → Next s rest → Next c rest
weaken Anything s u rest n = tt
weaken Plain Stop u [] n = tt
weaken Plain Stop u (b ∷ rest) n = or_right (is_letter_or_digit b) (is_stop b) n
weaken WordEnd Stop u [] n = tt
weaken WordEnd Stop u (b ∷ rest) n = or_right (b == 46) (is_stop b) n
weaken Stop Stop u rest n = n
weaken Plain Plain u rest n = n
weaken WordEnd WordEnd u rest n = n
weaken c s u rest n = absurd (false≢true u)
