-- One program with its tasks in a list or by their numbers, and each state of the one as a state of the other.
use Rattle.std.specs.Prelude.{◌≡◌, ℕ, ◌<◌, ◌≤◌, false, List, [], slice_index_or}
use Rattle.event_machine.specs.declared.Standing.TheVariants.{Live, Completed}
use Rattle.event_machine.specs.States.{Ops, Seat, State, Rules, on_list, on_numbers, completed}

-- A program: what its tasks do, which task owns each entry, and how many tasks there are.
pub record Program (L : Type 0) : Type 0 where
  pub ops : Ops L
  pub owner : ℕ → ℕ
  pub size : ℕ

-- Its rules over tasks by their numbers.
abbrev pub numbered : {L : Type 0} → Program L → Rules L (ℕ → Seat L)
numbered p = record { ops = p.ops; store = on_numbers p.size; owner = p.owner }

-- Its rules over tasks in a list.
abbrev pub listed : {L : Type 0} → Program L → Rules L (List (Seat L))
listed p = record { ops = p.ops; store = on_list p.ops; owner = p.owner }

-- The state with its tasks by their numbers.
abbrev pub by_number : {L : Type 0} → Program L → State (List (Seat L)) → State (ℕ → Seat L)
by_number p s = record { seats = λ t. slice_index_or s.seats t (completed p.ops.nobody); line = s.line; ended = s.ended }

-- the task t of the state
abbrev pub task_of : {L C : Type 0} → Rules L C → State C → ℕ → Seat L
task_of rules s t = rules.store.at s.seats t

-- An opening state: each task is live and serves nobody, nobody is queued, and past the last task stands nobody.
pub record IsOpening {L C : Type 0} (rules : Rules L C) (s : State C) : Type 0 where
  pub line : s.line ≡ []
  pub ended : s.ended ≡ false
  pub live : (t : ℕ) → t < rules.store.size s.seats → (task_of rules s t).standing ≡ Live
  pub callers : (t : ℕ) → t < rules.store.size s.seats → rules.ops.callers (task_of rules s t).local ≡ []
  pub beyond : (t : ℕ) → rules.store.size s.seats ≤ t → (task_of rules s t).standing ≡ Completed
