-- All that a program shows in at most some number of events (this project's rule): each list of events that can happen, with what each task has
-- written once no task has a local step left. It is found by going through all events that can come next where all free tasks are at rest, so it is a
-- plain reading of the rules, for the examples.
use Rattle.std.specs.Prelude.{ℕ, zero, suc, List, [], ◌∷◌, ◌++◌, length, map, flat_map, slice_index_or, Bool, true, false, ◌&&◌, ◌==◌, nat_eq}
use Rattle.std.specs.List.{filter}
use Rattle.std.specs.Ordering.{int_eq}
use Rattle.std.specs.Cmp.Lexicographic.{pointwise}
use Rattle.event_machine.specs.declared.Standing.{Standing}
use Rattle.event_machine.specs.declared.Standing.TheVariants as standing
use Rattle.event_machine.specs.declared.Event.{Event}
use Rattle.event_machine.specs.declared.Event.TheVariants as event
use Rattle.event_machine.specs.declared.Choice.{Choice}
use Rattle.event_machine.specs.declared.Choice.TheVariants as choice
use Rattle.event_machine.specs.Offers.{Offer, Nothing, Calls, Waits, Finishes, Ends, Aborts}
use Rattle.event_machine.specs.States.{Seat, completed, live}
use Rattle.event_machine.specs.Programs.{Program}
use Rattle.event_machine.specs.Worlds.{happens, acted}
use Rattle.syn_event.specs.Numbering.{Numbering, owner_of}
use Rattle.task_model.specs.Tasks.{Task}
use Rattle.task_model.specs.Stands.{can_step, stepped, offer_of}
use Rattle.task_model.specs.Starting.{nobody}
use Rattle.task_model.specs.TaskOps.{task_ops}
use Rattle.task_model.specs.Machine.{ProgramWithInputs, Tasks, rules_of, opening_of}

-- A list of events, and what each task has written behind it.
pub record Show : Type 0 where
  pub events : List Event
  pub outputs : List (List ℕ)

-- ---- at rest

-- how many local steps a task makes at most between two events
abbrev pub patience : ℕ
patience = 500

-- a task after at most n local steps
abbrev pub rested : ℕ → Task → Task
rested zero t = t
rested (suc n) t = elim (can_step t) [ true ↦ rested n (stepped t) | false ↦ t ]

abbrev pub rested_seat : Standing → Seat Task → Seat Task
rested_seat standing.Live seat = live (rested patience seat.local)
rested_seat _ seat = seat

-- all free tasks at rest
abbrev pub all_rested : Tasks → Tasks
all_rested seats = map (λ seat. rested_seat seat.standing seat) seats

-- ---- what can come next

-- the events that a choice of a wait may give
abbrev pub of_choice : ℕ → Choice → List Event
of_choice t (choice.Accept e i) = []
of_choice t choice.Else = event.S t ∷ []
of_choice t (choice.Delay k) = event.D t k ∷ []
of_choice t choice.Terminate = []

-- the events that an offer may give
abbrev pub of_offer : ℕ → Offer → List Event
of_offer t Nothing = []
of_offer t (Calls form e i) = event.R t e i ∷ event.C t e i ∷ event.T t e i ∷ event.F t e i ∷ []
of_offer t (Waits choices) = flat_map (of_choice t) choices
of_offer t Finishes = event.E t ∷ []
of_offer t Ends = event.X t ∷ []
of_offer t (Aborts x) = event.B t x ∷ []

-- those of tasks that are numbered from t on
abbrev pub of_tasks : ℕ → Tasks → List Event
of_tasks t [] = []
of_tasks t (seat ∷ seats) = of_offer t (offer_of seat.local) ++ of_tasks (suc t) seats

abbrev pub program_of : Numbering → Program Task
program_of numbers = record { ops = task_ops; owner = owner_of numbers; size = length numbers.tasks }

-- The events that can come next, where all free tasks are at rest.
abbrev pub next_events : Numbering → Tasks → List Event
next_events numbers seats = filter (happens (program_of numbers) (λ t. slice_index_or seats t (completed nobody))) (of_tasks 0 seats ++ event.Z ∷ [])

-- ---- all that is shown

abbrev pub outputs_of : Tasks → List (List ℕ)
outputs_of seats = map (λ seat. seat.local.output) seats

-- what is shown behind one event more: behind the end of the program nothing goes on
abbrev pub shown_behind : Event → List Event → Tasks → List Show → List Show
shown_behind event.Z events seats more = record { events = events; outputs = outputs_of seats } ∷ []
shown_behind e events seats more = more

-- What is shown from tasks at rest behind some events, in at most n events more.
abbrev pub shown : ℕ → Numbering → List Event → Tasks → List Show
shown zero numbers events seats = record { events = events; outputs = outputs_of seats } ∷ []
shown (suc n) numbers events seats =
    record { events = events; outputs = outputs_of seats }
    ∷ flat_map
    (λ e. shown_behind e (events ++ e ∷ []) seats (shown n numbers (events ++ e ∷ []) (all_rested (acted (rules_of numbers) seats e))))
    (next_events numbers seats)

-- All that a program shows in at most n events.
abbrev pub shows : ProgramWithInputs → Numbering → ℕ → List Show
shows setup numbers n = shown n numbers [] (all_rested (opening_of setup numbers).state.seats)

-- ---- two programs that show the same

-- two events are the same: one letter with the same numbers
abbrev pub same_event : Event → Event → Bool
same_event (event.R c e i) (event.R d f j) = (c == d) && (e == f) && int_eq i j
same_event (event.E a) (event.E b) = a == b
same_event (event.S a) (event.S b) = a == b
same_event (event.D a k) (event.D b l) = (a == b) && (k == l)
same_event (event.C c e i) (event.C d f j) = (c == d) && (e == f) && int_eq i j
same_event (event.T c e i) (event.T d f j) = (c == d) && (e == f) && int_eq i j
same_event (event.F c e i) (event.F d f j) = (c == d) && (e == f) && int_eq i j
same_event (event.X a) (event.X b) = a == b
same_event (event.B t x) (event.B u y) = (t == u) && (x == y)
same_event event.Z event.Z = true
same_event _ _ = false

-- the same events, and the same outputs
abbrev pub same_show : Show → Show → Bool
same_show a b = pointwise same_event a.events b.events && pointwise (pointwise nat_eq) a.outputs b.outputs

-- Two programs show the same in at most n events: in the order in which the events are found, list by list.
abbrev pub show_the_same : List Show → List Show → Bool
show_the_same a b = pointwise same_show a b
