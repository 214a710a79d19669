-- The text of a verdict (this project's format).
use Rattle.std.specs.Prelude.{ℕ, ◌-◌, ◌==◌, List, [], ◌∷◌, length, slice_get, Option, Some, None, codes, if◌then◌else◌}
use Rattle.ded_io.specs.Written.{◌⧺◌, each_text}
use Rattle.event_machine.specs.declared.Event.{Event}
use Rattle.event_machine.specs.declared.Event.TheVariants.{R, E, S, D, C, T, F, X, B, Z}
use Rattle.syn_event.specs.declared.numbering.TaskInfo.{TaskInfo}
use Rattle.syn_event.specs.EventText.{event_text}
use Rattle.syn_event.specs.Numbering.{Numbering, task_at, owner_of}
use Rattle.syn_event.specs.TaskText.{task_text}
use Rattle.task_machine.specs.declared.verdict.Cause.{Cause}
use Rattle.task_machine.specs.declared.verdict.Cause.TheVariants as cause
use Rattle.task_machine.specs.declared.verdict.Why.{Why}
use Rattle.task_machine.specs.declared.verdict.Verdict.{Verdict}
use Rattle.task_machine.specs.declared.verdict.Verdict.TheVariants.{Feasible, Infeasible, Unsettled}
use Rattle.task_machine.specs.Conditions.{needed_of}
use Rattle.task_machine.specs.Views.{View}
use Rattle.divergence.specs.ViewText.{number_line, view_lines}

-- the word of a cause
abbrev pub cause_word : Cause → List ℕ
cause_word cause.Closed = codes "closed"
cause_word cause.Busy = codes "busy"
cause_word cause.NotClosed = codes "open"
cause_word cause.Offer = codes "offer"

-- why an event can't happen: the word of the cause and the number of the task
abbrev pub cause_line : Why → List ℕ
cause_line why = codes "cause " ⧺ (cause_word why.cause ⧺ number_line (codes " ") why.task)

-- the line of the event that a verdict is about
abbrev pub event_line : Event → List ℕ
event_line e = codes "event " ⧺ (event_text e ⧺ codes "\n")

-- the number and the name of a task that the program has
abbrev pub title : List (List ℕ) → ℕ → Option TaskInfo → List ℕ
title names t None = []
title names t (Some info) = task_text names t info

-- the number and the name of the task with this number, nothing where the program has no such task
abbrev pub title_of : List (List ℕ) → Numbering → ℕ → List ℕ
title_of names numbers t = title names t (task_at numbers t)

-- a task with the lines of its view
abbrev pub task_part : List (List ℕ) → Numbering → (ℕ → View) → ℕ → List ℕ
task_part names numbers views t = title_of names numbers t ⧺ (codes "\n" ⧺ view_lines (views t))

-- the parts of several tasks
abbrev pub parts_of : List (List ℕ) → Numbering → (ℕ → View) → List ℕ → List ℕ
parts_of names numbers views tasks = each_text (task_part names numbers views) tasks

-- a caller and an owner, which may be one task
abbrev pub once : ℕ → ℕ → List ℕ
once caller owner = if caller == owner then caller ∷ [] else caller ∷ owner ∷ []

-- the tasks that an event needs, in order and each once: a task that calls its own entry is both of those that R needs
abbrev pub shown_tasks : Numbering → Event → List ℕ
shown_tasks numbers (R c e i) = once c (owner_of numbers e)
shown_tasks numbers (E a) = needed_of numbers (E a)
shown_tasks numbers (S a) = needed_of numbers (S a)
shown_tasks numbers (D a k) = needed_of numbers (D a k)
shown_tasks numbers (C c e i) = needed_of numbers (C c e i)
shown_tasks numbers (T c e i) = needed_of numbers (T c e i)
shown_tasks numbers (F c e i) = needed_of numbers (F c e i)
shown_tasks numbers (X a) = needed_of numbers (X a)
shown_tasks numbers (B t x) = needed_of numbers (B t x)
shown_tasks numbers Z = needed_of numbers Z

-- the parts of all tasks that the event needs
abbrev pub task_parts : List (List ℕ) → Numbering → (ℕ → View) → Event → List ℕ
task_parts names numbers views e = parts_of names numbers views (shown_tasks numbers e)

-- the word before the place of an event that can't happen; it stays shut, so that it does not compute away
unfoldable pub refused_word : List ℕ
refused_word = codes "infeasible "

-- an event that can't happen: its place, the event, why, and how the tasks that it needs are seen
abbrev pub refused_text : List (List ℕ) → Numbering → (ℕ → View) → ℕ → Why → Event → List ℕ
refused_text names numbers views at why e =
    number_line refused_word at ⧺ (event_line e ⧺ (cause_line why ⧺ task_parts names numbers views e))

-- an event of which it is not known: its place, the event, and the task that made so many local steps
abbrev pub held_text : List (List ℕ) → Numbering → ℕ → ℕ → ℕ → Event → List ℕ
held_text names numbers bound at t e =
    number_line (codes "unsettled ") at ⧺ (event_line e ⧺ (title_of names numbers t ⧺ number_line (codes " ") bound))

-- The text of a verdict, given how many events there were, the event of the verdict if it has one, and how tasks are seen before that event.
abbrev pub report_text : List (List ℕ) → Numbering → ℕ → (ℕ → View) → ℕ → Verdict → Option Event → List ℕ
report_text names numbers bound views count Feasible e = number_line (codes "feasible ") count
report_text names numbers bound views count (Infeasible at why) None = []
report_text names numbers bound views count (Infeasible at why) (Some e) = refused_text names numbers views at why e
report_text names numbers bound views count (Unsettled at t) None = []
report_text names numbers bound views count (Unsettled at t) (Some e) = held_text names numbers bound at t e

-- the event at the place of a verdict, counted from 1
abbrev pub event_at_place : List Event → Verdict → Option Event
event_at_place events Feasible = None
event_at_place events (Infeasible at why) = slice_get events (at - 1)
event_at_place events (Unsettled at t) = slice_get events (at - 1)

-- The text that judging these events writes: what `report` gives of all of them, of the verdict, and of the event at its place.
abbrev pub judge_text : List (List ℕ) → Numbering → ℕ → (ℕ → View) → List Event → Verdict → List ℕ
judge_text names numbers bound views events verdict =
    report_text names numbers bound views (length events) verdict (event_at_place events verdict)
