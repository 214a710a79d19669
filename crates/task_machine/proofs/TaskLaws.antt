-- What follows of the laws of these tasks: of how they stand behind events, and how many they are.
use Rattle.std.proofs.Common.{◌≡◌, ℕ, zero, suc, ◌+◌, List, [], ◌∷◌, length, refl, ap, ◌∙◌, arith, length-append}
use Rattle.event_machine.specs.States.{Seat, State, live}
use Rattle.event_machine.specs.declared.Event.{Event}
use Rattle.event_machine.specs.Programs.{task_of}
use Rattle.event_machine.specs.Runs.{Feasible, end_of}
use Rattle.event_machine.specs.Tallies.{ComesTo, StandsAfter, tallies}
use Rattle.event_machine.specs.Worlds.{World}
use Rattle.event_machine.specs.Settling.{Leads}
use Rattle.event_machine.proofs.Following.{leads_once}
use Rattle.event_machine.proofs.ListLaws.{led_list}
use Rattle.syn_event.specs.Numbering.{Numbering, owner_of}
use Rattle.task_model.specs.Tasks.{Task}
use Rattle.task_model.specs.Starting.{started}
use Rattle.task_model.specs.TaskOps.{task_ops}
use Rattle.task_model.specs.Machine.{ProgramWithInputs, Tasks, rules_of, setting_of, first_tasks, opening_of}
use Rattle.task_model.specs.Laws.{IsProper, program_in, first_world}
use Rattle.task_model.proofs.Lawful.{lawful}
use Rattle.task_model.proofs.Following.{opens, proper, feasible_exactly}

module _ (setup : ProgramWithInputs) (numbers : Numbering) where
  length_first : (n : ℕ) → length (first_tasks setup numbers n) ≡ n
  length_first zero = refl
  length_first (suc n) =
      let e : length (first_tasks setup numbers n) ≡ n = length_first n in
      length-append (first_tasks setup numbers n) (live (started (setting_of setup numbers) setup.inputs n) ∷ []) ∙ (let k : length (first_tasks setup numbers n) + 1 ≡ suc n = omega arith in k)

  abbrev opening : State Tasks
  opening = (opening_of setup numbers).state

  -- a program has as many tasks as its numbers say
  pub the_count : length opening.seats ≡ length numbers.tasks
  the_count = length_first (length numbers.tasks)

  -- behind feasible events there is a run with its tasks
  pub the_run : (events : List Event) → Feasible (rules_of numbers) opening events → (tasks : ℕ → Seat Task) × (tally : ℕ → ℕ) × ComesTo (rules_of numbers) opening events tasks tally
  the_run events (actions, applies, has) = (
    (λ t. task_of (rules_of numbers) (end_of (rules_of numbers) opening actions) t),
    (λ t. tallies (rules_of numbers) opening actions (λ u. 0) t),
    record { actions = actions; applies = applies; has_events = has; leaves = λ t. refl; counts = λ t. refl },
  )

  -- How a task stands is how it stands where the events lead to.
  pub the_standing : (events : List Event) (w : World Task) → Leads (program_in setup numbers) (first_world setup numbers) events w → (t : ℕ) →
      StandsAfter (rules_of numbers) opening events t (w.tasks t).standing
  the_standing events w leads t =
      let (tasks, tally, run) = the_run events ((feasible_exactly setup numbers events).1 (w, leads)) in
      let led = led_list task_ops (owner_of numbers) IsProper lawful opening (opens setup numbers) (proper setup numbers) events tasks tally run in
      (tasks, tally, run, (led.each t).standing ∙ ap (λ (v : World Task). (v.tasks t).standing) (leads_once (program_in setup numbers) events (first_world setup numbers) led.last w led.leads leads))
