-- The lines that a recorder writes, in the pieces in which it writes them: those of a sequence file (this project's format).
use Rattle.std.specs.Prelude.{ℕ, ℤ, List, [], ◌∷◌, ◌++◌, codes, decimal}
use Rattle.event_machine.specs.declared.Event.{Event}
use Rattle.event_machine.specs.declared.Event.TheVariants.{R, E, S, D, C, T, F, X, B, Z}
use Rattle.ada_value.specs.Texts.{integer_text}
use Rattle.task_model.specs.Steps.{line_end}
use Rattle.run_laws.specs.collecting.Notes.{Lines}

-- a letter and one number, two of them, and a letter with a caller, an entry and an index: each number stands behind a blank
abbrev pub one_front : List ℕ → ℕ → List (List ℕ)
one_front letter a = letter ∷ codes " " ∷ decimal a ∷ []

abbrev pub two_front : List ℕ → ℕ → ℕ → List (List ℕ)
two_front letter a b = letter ∷ codes " " ∷ decimal a ∷ codes " " ∷ decimal b ∷ []

abbrev pub call_front : List ℕ → ℕ → ℕ → ℤ → List (List ℕ)
call_front letter c e i = letter ∷ codes " " ∷ decimal c ∷ codes " " ∷ decimal e ∷ codes " " ∷ integer_text i ∷ []

-- The pieces of the line of an event, without the line's end.
abbrev pub front : Event → List (List ℕ)
front (R c e i) = call_front (codes "R") c e i
front (E a) = one_front (codes "E") a
front (S a) = one_front (codes "S") a
front (D a k) = two_front (codes "D") a k
front (C c e i) = call_front (codes "C") c e i
front (T c e i) = call_front (codes "T") c e i
front (F c e i) = call_front (codes "F") c e i
front (X a) = one_front (codes "X") a
front (B t x) = two_front (codes "B") t x
front Z = codes "Z" ∷ []

-- How a recorder with this header, which stands here without its line's end, writes.
abbrev pub lines_with : List ℕ → Lines
lines_with header = record { header = header ++ line_end; front = front; line_end = line_end }
