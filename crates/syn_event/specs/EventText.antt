-- The text of an event (this project's format): its letter and its numbers, one blank between them.
use Rattle.std.specs.Prelude.{ℕ, ℤ, List, codes, decimal}
use Rattle.std.specs.Fmt.{signed_decimal}
use Rattle.event_machine.specs.declared.Event.{Event}
use Rattle.event_machine.specs.declared.Event.TheVariants.{R, E, S, D, C, T, F, X, B, Z}
use Rattle.ded_io.specs.Written.{◌⧺◌}

-- a letter with its blank, a caller, an entry and an index
abbrev pub call_event_text : List ℕ → ℕ → ℕ → ℤ → List ℕ
call_event_text letter c e i = letter ⧺ (decimal c ⧺ (codes " " ⧺ (decimal e ⧺ (codes " " ⧺ signed_decimal i))))

-- a letter with its blank, and one number (this project's format)
abbrev pub one_text : List ℕ → ℕ → List ℕ
one_text letter a = letter ⧺ decimal a

-- a letter with its blank, and two numbers with one blank between them (this project's format)
abbrev pub two_text : List ℕ → ℕ → ℕ → List ℕ
two_text letter a b = letter ⧺ (decimal a ⧺ (codes " " ⧺ decimal b))

-- The text of an event, without the end of its line.
abbrev pub event_text : Event → List ℕ
event_text (R c e i) = call_event_text (codes "R ") c e i
event_text (E a) = one_text (codes "E ") a
event_text (S a) = one_text (codes "S ") a
event_text (D a k) = two_text (codes "D ") a k
event_text (C c e i) = call_event_text (codes "C ") c e i
event_text (T c e i) = call_event_text (codes "T ") c e i
event_text (F c e i) = call_event_text (codes "F ") c e i
event_text (X a) = one_text (codes "X ") a
event_text (B t x) = two_text (codes "B ") t x
event_text Z = codes "Z"
