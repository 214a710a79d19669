-- The laws of progress for the tasks of a program.
use Rattle.std.proofs.Common.{◌≡◌, ℕ, true, List, [], ◌∷◌, ◌++◌, length, refl, ap, ◌∙◌, subst}
use Rattle.event_machine.specs.declared.Action.{Action}
use Rattle.event_machine.specs.declared.Event.{Event}
use Rattle.event_machine.specs.declared.Standing.{Standing}
use Rattle.event_machine.specs.declared.Standing.TheVariants.{Live, Waiting, Queued, Served, Completed, Killed}
use Rattle.event_machine.specs.States as seats
use Rattle.event_machine.specs.Runs.{IsRun, end_of, events_of}
use Rattle.event_machine.specs.Tallies.{ComesTo, tallies}
use Rattle.event_machine.specs.progress.Known.{Known, Party, party, known, known_at_start, admits, is_by}
use Rattle.event_machine.specs.progress.Laws.{Opened, IsYes, server_of, told}
use Rattle.event_machine.proofs.progress.Moves.{known_last}
use Rattle.event_machine.proofs.progress.Runs.{told_list, admitted_list}
use Rattle.syn_event.specs.Numbering.{Numbering, owner_of}
use Rattle.task_model.specs.Tasks.{Task}
use Rattle.task_model.specs.TaskOps.{task_ops}
use Rattle.task_model.specs.Machine.{ProgramWithInputs, Tasks, MachineState, rules_of, opening_of}
use Rattle.task_model.specs.Laws.{IsProper}
use Rattle.task_model.proofs.Lawful.{lawful}
use Rattle.task_model.proofs.Following.{opens, proper}
use Rattle.task_laws.proofs.invariants.Beginning.{length_first}
use Rattle.task_model.specs.picked_runs.Picked.{picked}
use Rattle.task_machine.specs.Table.{seat_of}
use Rattle.task_machine.specs.Views.{IsFeasible}
use Rattle.progress_law.specs.Telling.{known_in, IsSoIn}
use Rattle.progress_law.specs.Laws.{KnownByEvent, EventsTell, FeasibleIsAdmitted, JudgedIsAdmitted, NeverRefuses, IsReached, PickedEventsTell, IsInstance, AreInstances}
use Rattle.progress_law.proofs.Proper.{lawful_by, is_proper, proper_yes, yes_proper}
use Rattle.progress_law.proofs.Ending.{ends_run}
use Rattle.progress_law.proofs.Picked.{picked_is_run}

-- a task's server is the acceptor in the rendezvous in which it is the caller
served_by : (a : ℕ) (z : Standing) → is_by a (server_of z) ≡ seats.is_served_by a z
served_by a Live = refl
served_by a Waiting = refl
served_by a Queued = refl
served_by a (Served by abnormal) = refl
served_by a Completed = refl
served_by a Killed = refl

module _ (setup : ProgramWithInputs) (numbers : Numbering) where
  abbrev opening : seats.State Tasks
  opening = (opening_of setup numbers).state

  as_many : length opening.seats ≡ length numbers.tasks
  as_many = length_first setup numbers (length numbers.tasks)

  module _ (actions : List Action) (run : IsRun (rules_of numbers) opening actions) where
    abbrev events : List Event
    events = events_of (rules_of numbers) opening actions

    abbrev last : seats.State Tasks
    last = end_of (rules_of numbers) opening actions

    comes : ComesTo (rules_of numbers) opening events (λ t. seat_of last.seats t) (tallies (rules_of numbers) opening actions (λ u. 0))
    comes = record { actions = actions; applies = run; has_events = refl; leaves = λ t. refl; counts = λ t. refl }

    tells : (t : ℕ) → party (known_in numbers events) t ≡ told task_ops (seat_of last.seats t)
    tells t = subst (λ n. party (known (owner_of numbers) n events) t ≡ told task_ops (seat_of last.seats t)) as_many
        (told_list task_ops (owner_of numbers) IsProper lawful opening (opens setup numbers) (proper setup numbers) events (λ u. seat_of last.seats u) (tallies (rules_of numbers) opening actions (λ u. 0)) comes t)

    -- What the events of a run tell is so in the state behind it.
    pub so_after : IsSoIn (known_in numbers events) last
    so_after = record {
      closed = λ t. ap (λ (p : Party). p.closed) (tells t);
      served = λ t a. ap (λ (p : Party). is_by a p.server) (tells t) ∙ served_by a (seat_of last.seats t).standing;
      callers = λ t. ap (λ (p : Party). p.callers) (tells t);
      ended = ends_run (rules_of numbers) (owner_of numbers) actions (known_at_start (length numbers.tasks)) opening refl;
    }

  -- A feasible event is admitted.
  pub admitted : (events : List Event) (e : Event) → IsFeasible setup numbers (events ++ e ∷ []) → admits (owner_of numbers) (known_in numbers events) e ≡ true
  admitted events e feasible = subst (λ n. admits (owner_of numbers) (known (owner_of numbers) n events) e ≡ true) as_many
      (admitted_list task_ops (owner_of numbers) IsProper lawful opening (opens setup numbers) (proper setup numbers) events e feasible)

  -- the program as abstract tasks
  abbrev pub opened : Opened Task
  opened = record {
    ops = task_ops;
    owner = owner_of numbers;
    proper = is_proper;
    lawful = lawful_by task_ops IsProper (IsYes is_proper) proper_yes yes_proper lawful;
    state = opening;
    opens_so = opens setup numbers;
    starts_proper = λ t l. proper_yes (seat_of opening.seats t).local (proper setup numbers t l);
  }

  pub instance : IsInstance setup numbers
  instance = record { opened = opened; ops = refl; owner = refl; state = refl }

pub known_by_event : KnownByEvent
known_by_event numbers = (refl, λ before e. known_last (owner_of numbers) (known_at_start (length numbers.tasks)) before e)

pub events_tell : EventsTell
events_tell = so_after

pub feasible_is_admitted : FeasibleIsAdmitted
feasible_is_admitted = admitted

pub judged_is_admitted : JudgedIsAdmitted
judged_is_admitted setup numbers bound whole judged before rest e splits = admitted setup numbers before e (judged before rest e splits).1

pub never_refuses : (numbers : Numbering) (k : Known) (e : Event) → NeverRefuses numbers k e (admits (owner_of numbers) k e)
never_refuses numbers k e setup before is feasible = ap (λ (j : Known). admits (owner_of numbers) j e) is ∙ admitted setup numbers before e feasible

-- what the events tell is so of a machine that a run reaches with them
so_reached : (setup : ProgramWithInputs) (numbers : Numbering) (m : MachineState) (reached : List Event) → IsReached numbers (opening_of setup numbers).state m reached → IsSoIn (known_in numbers reached) m.state
so_reached setup numbers m reached r =
    subst (λ es. IsSoIn (known_in numbers es) m.state) r.has_events
    (subst (λ (x : MachineState). IsSoIn (known_in numbers (events_of (rules_of numbers) (opening_of setup numbers).state r.actions)) x.state) r.ends (so_after setup numbers r.actions r.applies))

module _ {C : Type 0} where
  pub picked_events_tell : PickedEventsTell C
  picked_events_tell word next setup numbers turns choices =
      so_reached setup numbers (picked word next turns (opening_of setup numbers) choices).machine (picked word next turns (opening_of setup numbers) choices).events
      (picked_is_run word next setup numbers turns choices)

pub are_instances : AreInstances
are_instances = instance
