-- Who serves whom: the callers of a task that is not closed are the tasks that it serves, each once, and a closed task serves nobody (9.5).
use Rattle.std.specs.Prelude.{◌≡◌, ℕ, ◌+◌, true, false, ◌==◌, if◌then◌else◌, List, [], ◌∷◌}
use Rattle.event_machine.specs.States.{Ops, Seat, is_closed, is_served_by}

-- how often c stands in the list
abbrev pub times : ℕ → List ℕ → ℕ
times c [] = 0
times c (x ∷ xs) = (if x == c then 1 else 0) + times c xs

-- Those that a task serves are its callers, none serves itself, and a task that is not closed is in a proper state.
pub record IsSound {L : Type 0} (ops : Ops L) (IsProper : L → Type 0) (tasks : ℕ → Seat L) : Type 0 where
  pub closed : (a c : ℕ) → is_closed (tasks a).standing ≡ true → is_served_by a (tasks c).standing ≡ false
  pub callers : (a c : ℕ) → is_closed (tasks a).standing ≡ false →
      times c (ops.callers (tasks a).local) ≡ (if is_served_by a (tasks c).standing then 1 else 0)
  pub itself : (a : ℕ) → is_served_by a (tasks a).standing ≡ false
  pub proper : (a : ℕ) → is_closed (tasks a).standing ≡ false → IsProper (tasks a).local
