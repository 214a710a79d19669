-- When the order of a sequence's events is of no matter to a program (this project's rule).
use Rattle.std.specs.Prelude.{◌≡◌, ◌↔◌, ℕ, ◌<◌, List, ◌∷◌, ◌++◌, length}
use Rattle.event_machine.specs.declared.Action.{Action}
use Rattle.event_machine.specs.declared.Event.{Event}
use Rattle.event_machine.specs.declared.Event.TheVariants.{X}
use Rattle.event_machine.specs.Runs.{IsRun, end_of, events_of}
use Rattle.event_machine.specs.progress.Known.{Known, known_at_start, known}
use Rattle.syn_event.specs.Numbering.{Numbering, owner_of}
use Rattle.syn_order.specs.Orders.{AreAdmitted, splits}
use Rattle.syn_order.specs.Apart.{AreApart, AreAlike}
use Rattle.syn_order.specs.Laws.{IsOrder, IsSource}
use Rattle.task_model.specs.Machine.{ProgramWithInputs, rules_of, opening_of}
use Rattle.task_machine.specs.declared.verdict.Verdict.TheVariants.{Feasible}
use Rattle.task_machine.specs.Table.{seat_of}
use Rattle.task_machine.specs.Views.{IsFeasible}
use Rattle.task_machine.specs.Judging.{VerdictIs}

-- Some run has exactly these events, and each task has written its output.
pub record Shows (setup : ProgramWithInputs) (numbers : Numbering) (events : List Event) (outputs : ℕ → List ℕ) : Type 0 where
  pub actions : List Action
  pub applies : IsRun (rules_of numbers) (opening_of setup numbers).state actions
  pub has_events : events_of (rules_of numbers) (opening_of setup numbers).state actions ≡ events
  pub written : (t : ℕ) → (seat_of (end_of (rules_of numbers) (opening_of setup numbers).state actions).seats t).local.output ≡ outputs t

-- The two sequences are the same to the program.
pub record AreSame (setup : ProgramWithInputs) (numbers : Numbering) (xs ys : List Event) : Type 0 where
  pub feasible : IsFeasible setup numbers xs ↔ IsFeasible setup numbers ys
  pub shows : (outputs : ℕ → List ℕ) → Shows setup numbers xs outputs ↔ Shows setup numbers ys outputs
  pub verdict : (bound : ℕ) → VerdictIs setup numbers bound xs Feasible ↔ VerdictIs setup numbers bound ys Feasible

-- what is known before the first event
abbrev pub known_first : Numbering → Known
known_first numbers = known_at_start (length numbers.tasks)

-- Neighbours that touch no common task, by what is known before the first, can be exchanged.
abbrev pub NeighboursExchange : Type 0
NeighboursExchange =
    (setup : ProgramWithInputs) (numbers : Numbering) (before rest : List Event) (e f : Event) →
    AreApart (owner_of numbers) (length numbers.tasks) (known (owner_of numbers) (length numbers.tasks) before) e f →
    AreSame setup numbers (before ++ e ∷ f ∷ rest) (before ++ f ∷ e ∷ rest)

-- So can neighbours again and again.
abbrev pub AlikeAreSame : Type 0
AlikeAreSame =
    (setup : ProgramWithInputs) (numbers : Numbering) (xs ys : List Event) → AreAlike (owner_of numbers) (length numbers.tasks) (known_first numbers) xs ys →
    AreSame setup numbers xs ys

-- Two admitted sequences with the same lists are the same.
abbrev pub ListsAreSame : Type 0
ListsAreSame =
    (setup : ProgramWithInputs) (numbers : Numbering) (xs ys : List Event) → 0 < length numbers.tasks →
    AreAdmitted (owner_of numbers) (known_first numbers) xs → AreAdmitted (owner_of numbers) (known_first numbers) ys →
    splits (owner_of numbers) (length numbers.tasks) (known_first numbers) xs ≡ splits (owner_of numbers) (length numbers.tasks) (known_first numbers) ys →
    AreSame setup numbers xs ys

-- Lists of one program's tasks, and the order that they join into, are judged alike: the order is judged feasible exactly where each sequence with these
-- lists is, and exactly where one of them is.
pub record IsJudgedByOrder (setup : ProgramWithInputs) (numbers : Numbering) (lists : List (List Event)) (order : List Event) (bound : ℕ) : Type 0 where
  pub for_each : VerdictIs setup numbers bound order Feasible ↔
      ((events : List Event) → IsSource (owner_of numbers) (length numbers.tasks) lists events → VerdictIs setup numbers bound events Feasible)
  pub for_one : VerdictIs setup numbers bound order Feasible ↔
      ((events : List Event) × IsSource (owner_of numbers) (length numbers.tasks) lists events × VerdictIs setup numbers bound events Feasible)

abbrev pub OrdersAreJudged : Type 0
OrdersAreJudged =
    (setup : ProgramWithInputs) (numbers : Numbering) (lists : List (List Event)) (order : List Event) (bound : ℕ) → 0 < length numbers.tasks →
    length lists ≡ length numbers.tasks → IsOrder (owner_of numbers) (length numbers.tasks) lists order → IsJudgedByOrder setup numbers lists order bound

-- What is judged feasible is feasible, and admitted event by event.
abbrev pub JudgedIsAdmitted : Type 0
JudgedIsAdmitted =
    (setup : ProgramWithInputs) (numbers : Numbering) (bound : ℕ) (events : List Event) → VerdictIs setup numbers bound events Feasible →
    IsFeasible setup numbers events × AreAdmitted (owner_of numbers) (known_first numbers) events

-- The premise of `NeighboursExchange` is met: in each program the completions of two tasks touch no common task.
abbrev pub CompletionsAreApart : Type 0
CompletionsAreApart =
    (numbers : Numbering) (before : List Event) (t u : ℕ) → (t ≡ u → ⊥) →
    AreApart (owner_of numbers) (length numbers.tasks) (known (owner_of numbers) (length numbers.tasks) before) (X t) (X u)
