-- Race variants: which events can come next after a feasible list of events, and which tasks are open there (this project's rule).
use Rattle.std.specs.Prelude.{◌≡◌, ◌↔◌, ◌<◌, ℕ, ℤ, pos, List, [], ◌∷◌, ◌++◌, Option, Some, true}
use Rattle.std.specs.Cmp.Lexicographic.{slice_cmp}
use Rattle.std.specs.List.{AllPairs, Contains}
use Rattle.std.specs.declared.cmp.Ordering.{Ordering}
use Rattle.std.specs.declared.cmp.Ordering.TheVariants.{Less}
use Rattle.std.specs.Ordering.{nat_cmp, int_cmp, ordering_then}
use Rattle.event_machine.specs.declared.Event.{Event}
use Rattle.event_machine.specs.declared.Event.TheVariants.{R, E, S, D, C, T, F, X, B, Z}
use Rattle.event_machine.specs.Tallies.{HasNoEnd}
use Rattle.seq_file.specs.Known.{is_known}
use Rattle.syn_event.specs.Numbering.{Numbering}
use Rattle.task_model.specs.Machine.{ProgramWithInputs}
use Rattle.task_machine.specs.declared.verdict.Verdict.TheVariants.{Feasible, Unsettled}
use Rattle.task_machine.specs.Judging.{VerdictIs}

-- ---- the order of events

-- the place of an event's letter among R, E, S, D, C, T, F, X, B, Z
abbrev pub letter_of : Event → ℕ
letter_of (R c e i) = 0
letter_of (E a) = 1
letter_of (S a) = 2
letter_of (D a k) = 3
letter_of (C c e i) = 4
letter_of (T c e i) = 5
letter_of (F c e i) = 6
letter_of (X a) = 7
letter_of (B t x) = 8
letter_of Z = 9

-- the numbers of an event, in the order in which the line of a sequence file writes them
abbrev pub numbers_in : Event → List ℤ
numbers_in (R c e i) = pos c ∷ pos e ∷ i ∷ []
numbers_in (E a) = pos a ∷ []
numbers_in (S a) = pos a ∷ []
numbers_in (D a k) = pos a ∷ pos k ∷ []
numbers_in (C c e i) = pos c ∷ pos e ∷ i ∷ []
numbers_in (T c e i) = pos c ∷ pos e ∷ i ∷ []
numbers_in (F c e i) = pos c ∷ pos e ∷ i ∷ []
numbers_in (X a) = pos a ∷ []
numbers_in (B t x) = pos t ∷ pos x ∷ []
numbers_in Z = []

-- by the letters, and then by the first numbers that differ
abbrev pub event_cmp : Event → Event → Ordering
event_cmp e f = ordering_then (nat_cmp (letter_of e) (letter_of f)) (slice_cmp int_cmp (numbers_in e) (numbers_in f))

-- each event stands before all those behind it
abbrev pub AreAscending : List Event → Type 0
AreAscending events = AllPairs (λ e f. event_cmp e f ≡ Less) events

-- ---- what can come next

-- The event can come next: the program has not ended, and the events with it are judged feasible within the bound.
abbrev pub CanFollow : ProgramWithInputs → Numbering → ℕ → List Event → Event → Type 0
CanFollow setup numbers bound events e = HasNoEnd events × VerdictIs setup numbers bound (events ++ e ∷ []) Feasible

-- The task is open: the program has not ended, and some event of the program's numbers is held up at the task.
abbrev pub HoldsUp : ProgramWithInputs → Numbering → ℕ → List Event → ℕ → Type 0
HoldsUp setup numbers bound events t =
    HasNoEnd events × (e : Event) × (is_known numbers e ≡ true) × (at : ℕ) × VerdictIs setup numbers bound (events ++ e ∷ []) (Unsettled at t)

-- The variants of the events: all that can come next but the one that is skipped, and all tasks that are open, both in ascending order.
pub record AreVariants (setup : ProgramWithInputs) (numbers : Numbering) (bound : ℕ) (events : List Event) (skip : Option Event) (found : List Event) (unsettled : List ℕ) : Type 0 where
  pub members : (e : Event) → Contains found e ↔ (CanFollow setup numbers bound events e × (skip ≡ Some e → ⊥))
  pub ascending : AreAscending found
  pub open_tasks : (t : ℕ) → Contains unsettled t ↔ HoldsUp setup numbers bound events t
  pub rising : AllPairs (λ t u. t < u) unsettled
