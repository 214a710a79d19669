-- The laws over tasks in a list, as the code keeps them: each is the law over tasks by their numbers, since the runs are the same.
use Rattle.std.proofs.Common.{sym, subst, ◌≡◌, ℕ, ◌<◌, false, List, [], ◌∷◌, ◌++◌, length, refl, ap, slice_index_or, ◌↔◌}
use Rattle.event_machine.specs.declared.Standing.{Standing}
use Rattle.event_machine.specs.declared.Standing.TheVariants.{Live}
use Rattle.event_machine.specs.declared.Event.{Event}
use Rattle.event_machine.specs.States.{Ops, Seat, State, completed}
use Rattle.event_machine.specs.Lawful.{IsLawful}
use Rattle.event_machine.specs.Runs.{IsRun, Feasible, end_of}
use Rattle.event_machine.specs.Programs.{Program, numbered, listed, by_number, IsOpening}
use Rattle.event_machine.specs.Worlds.{World, world_of}
use Rattle.event_machine.specs.Settling.{ran, HasSteps, Leads}
use Rattle.event_machine.specs.Tallies.{ComesTo, RestIs, StandsAfter, HasNoEnd, tallies}
use Rattle.event_machine.specs.Laws.{Determinacy, KilledByEvents, IsVictim, FirstLaw, IsJudged, SecondLaw, FeasibleAdmitted}
use Rattle.event_machine.proofs.Joining.{joined, same_run}
use Rattle.event_machine.proofs.Queues.{run_suited, run_lined}
use Rattle.event_machine.specs.Queues.{IsSuited, IsLined}
use Rattle.event_machine.specs.declared.Action.{Action}
use Rattle.event_machine.proofs.Resting.{feasible_leads, rest_leads, rest_back, run_of}
use Rattle.event_machine.proofs.Reaching.{IsLed, run_leads, feasible_back, start_suited, start_lined}
use Rattle.event_machine.proofs.Determining.{determinacy, killed_by_events}
use Rattle.event_machine.proofs.Choosing.{first_law, second_law, feasible_admitted}
use Rattle.event_machine.proofs.Extending.{feasible_before, comes_sound}
use Rattle.std.proofs.lemmas.List.{get_or_past}
use Rattle.event_machine.specs.Soundness.{IsSound}

module _ {L : Type 0} (ops : Ops L) (owner : ℕ → ℕ) (IsProper : L → Type 0) (lawful : IsLawful ops IsProper) (s : State (List (Seat L))) where
  -- the program whose tasks these are
  abbrev pub program : Program L
  program = record { ops = ops; owner = owner; size = length s.seats }

  abbrev pub numbers : State (ℕ → Seat L)
  numbers = by_number program s

  -- an opening state of a list: what holds past its end holds of itself
  pub opening_list : s.line ≡ [] → s.ended ≡ false →
      ((t : ℕ) → t < length s.seats → (slice_index_or s.seats t (completed ops.nobody)).standing ≡ Live) →
      ((t : ℕ) → t < length s.seats → ops.callers (slice_index_or s.seats t (completed ops.nobody)).local ≡ []) → IsOpening (listed program) s
  opening_list line runs live callers = record {
    line = line;
    ended = runs;
    live = live;
    callers = callers;
    beyond = λ t l. ap (λ (x : Seat L). x.standing) (get_or_past s.seats t (completed ops.nobody) l);
  }

  module _ (opening : IsOpening (listed program) s) (proper : (t : ℕ) → t < length s.seats → IsProper (slice_index_or s.seats t (completed ops.nobody)).local) where
    -- the opening state, by numbers
    pub opening_numbers : IsOpening (numbered program) numbers
    opening_numbers = record { line = opening.line; ended = opening.ended; live = opening.live; callers = opening.callers; beyond = opening.beyond }

    -- ---- the same of both

    comes_there : (events : List Event) (tasks : ℕ → Seat L) (tally : ℕ → ℕ) → ComesTo (listed program) s events tasks tally → ComesTo (numbered program) numbers events tasks tally
    comes_there events tasks tally = (joined program s refl events tasks tally).0

    comes_back : (events : List Event) (tasks : ℕ → Seat L) (tally : ℕ → ℕ) → ComesTo (numbered program) numbers events tasks tally → ComesTo (listed program) s events tasks tally
    comes_back events tasks tally = (joined program s refl events tasks tally).1

    feasible_there : (events : List Event) → Feasible (listed program) s events → Feasible (numbered program) numbers events
    feasible_there events (actions, run, has) =
        let r = comes_there events (λ t. slice_index_or (end_of (listed program) s actions).seats t (completed ops.nobody)) (tallies (listed program) s actions (λ t. 0))
        (record { actions = actions; applies = run; has_events = has; leaves = λ t. refl; counts = λ t. refl }) in
        (r.actions, r.applies, r.has_events)

    feasible_here : (events : List Event) → Feasible (numbered program) numbers events → Feasible (listed program) s events
    feasible_here events feasible =
        let (tasks, tally, run) = run_of program IsProper lawful numbers opening_numbers proper events feasible in
        let r = comes_back events tasks tally run in
        (r.actions, r.applies, r.has_events)

    rest_there : (events : List Event) (t n : ℕ) (l : L) → RestIs (listed program) s events t n l → RestIs (numbered program) numbers events t n l
    rest_there events t n l (tasks, tally, run, is, counted) = (tasks, tally, comes_there events tasks tally run, is, counted)

    rest_here : (events : List Event) (t n : ℕ) (l : L) → RestIs (numbered program) numbers events t n l → RestIs (listed program) s events t n l
    rest_here events t n l (tasks, tally, run, is, counted) = (tasks, tally, comes_back events tasks tally run, is, counted)

    stands_there : (events : List Event) (t : ℕ) (z : Standing) → StandsAfter (listed program) s events t z → StandsAfter (numbered program) numbers events t z
    stands_there events t z (tasks, tally, run, is) = (tasks, tally, comes_there events tasks tally run, is)

    stands_here : (events : List Event) (t : ℕ) (z : Standing) → StandsAfter (numbered program) numbers events t z → StandsAfter (listed program) s events t z
    stands_here events t z (tasks, tally, run, is) = (tasks, tally, comes_back events tasks tally run, is)

    victim_there : (events before : List Event) (x : ℕ) → IsVictim (listed program) s events before x → IsVictim (numbered program) numbers events before x
    victim_there events before x v = record { by = v.by; rest = v.rest; splits = v.splits; other = v.other; free = stands_there before x Live v.free }

    victim_here : (events before : List Event) (x : ℕ) → IsVictim (numbered program) numbers events before x → IsVictim (listed program) s events before x
    victim_here events before x v = record { by = v.by; rest = v.rest; splits = v.splits; other = v.other; free = stands_here before x Live v.free }

    -- ---- the machine without queues

    -- What a run of the list leads the bases to.
    pub led_list : (events : List Event) (tasks : ℕ → Seat L) (tally : ℕ → ℕ) → ComesTo (listed program) s events tasks tally →
        IsLed program IsProper lawful numbers opening_numbers proper events tasks tally
    led_list events tasks tally run = run_leads program IsProper lawful numbers opening_numbers proper events tasks tally (comes_there events tasks tally run)

    -- Feasible exactly where the bases have a world behind the events.
    pub feasible_list : (events : List Event) → Feasible (listed program) s events ↔ ((w : World L) × Leads program (world_of numbers) events w)
    feasible_list events = (
      λ h. feasible_leads program IsProper lawful numbers opening_numbers proper events (feasible_there events h),
      λ h. feasible_here events (feasible_back program IsProper lawful numbers opening_numbers proper events h.0 h.1),
    )

    -- Rest is a base run on, and each base run on is a Rest.
    pub rest_list : (events : List Event) → HasNoEnd events → (t n : ℕ) (l : L) →
        RestIs (listed program) s events t n l ↔
        ((w : World L) × Leads program (world_of numbers) events w × ((w.tasks t).standing ≡ Live) × HasSteps ops n (w.tasks t).local × (l ≡ ran ops n (w.tasks t).local))
    rest_list events more t n l = (
      λ h. rest_leads program IsProper lawful numbers opening_numbers proper events t n l (rest_there events t n l h),
      λ h. rest_here events t n l (rest_back program IsProper lawful numbers opening_numbers proper events more t n l h),
    )

    -- what stands before a feasible list is feasible
    pub feasible_before_list : (xs ys : List Event) → Feasible (listed program) s (xs ++ ys) → Feasible (listed program) s xs
    feasible_before_list xs ys h = feasible_here xs (feasible_before program IsProper lawful numbers opening_numbers proper xs ys (feasible_there (xs ++ ys) h))

    -- who is served is a caller of an open task, behind each run
    pub sound_list : (events : List Event) (tasks : ℕ → Seat L) (tally : ℕ → ℕ) → ComesTo (listed program) s events tasks tally → IsSound ops IsProper tasks
    sound_list events tasks tally run = comes_sound program IsProper lawful numbers opening_numbers proper events tasks tally (comes_there events tasks tally run)

    -- ---- the laws

    pub determinacy_list : Determinacy (listed program) s
    determinacy_list events tasks others tally others_tally run other =
        determinacy program IsProper lawful numbers opening_numbers proper events tasks others tally others_tally
        (comes_there events tasks tally run) (comes_there events others others_tally other)

    pub killed_list : KilledByEvents (listed program) s
    killed_list events tasks tally t run killed =
        killed_by_events program IsProper lawful numbers opening_numbers proper events tasks tally t (comes_there events tasks tally run) killed

    pub first_law_list : FirstLaw (listed program) s
    first_law_list events number more feasible choice =
        let (tasks, tally, run, has) = first_law program IsProper lawful numbers opening_numbers proper events number more (feasible_there events feasible) (record {
          free = λ t k. let (l, rest) = choice.free t (stands_here events t Live k) in (l, rest_there events t (number t) l rest);
          victim = λ x before v. let (l, rest) = choice.victim x before (victim_here events before x v) in (l, rest_there before x (number x) l rest);
        }) in (
          tasks,
          tally,
          comes_back events tasks tally run,
          record {
            free = λ t k. has.free t (stands_there events t Live k);
            victim = λ x before v. let (killed, rest) = has.victim x before (victim_there events before x v) in (killed, rest_here before x (number x) (tasks x).local rest);
          },
        )

    pub second_law_list : SecondLaw (listed program) s
    second_law_list events e more =
        let law = second_law program IsProper lawful numbers opening_numbers proper events e more in
        (λ h. there (law.0 (feasible_there (events ++ e ∷ []) h)), λ j. feasible_here (events ++ e ∷ []) (law.1 (back j)))
      where
        there : IsJudged (numbered program) numbers events e → IsJudged (listed program) s events e
        there j = record {
          views = j.views;
          standing = λ t. stands_here events t (j.views t).standing (j.standing t);
          rests = λ t need free. let (n, rest, none) = j.rests t need free in (n, rest_here events t n (j.views t).local rest, none);
          holds = j.holds;
        }

        back : IsJudged (listed program) s events e → IsJudged (numbered program) numbers events e
        back j = record {
          views = j.views;
          standing = λ t. stands_there events t (j.views t).standing (j.standing t);
          rests = λ t need free. let (n, rest, none) = j.rests t need free in (n, rest_there events t n (j.views t).local rest, none);
          holds = j.holds;
        }

    pub admitted_list : FeasibleAdmitted (listed program) s
    admitted_list events e more feasible =
        let (tasks, standing, admits) = feasible_admitted program IsProper lawful numbers opening_numbers proper events e more (feasible_there (events ++ e ∷ []) feasible) in
        (tasks, (λ t. stands_here events t (tasks t).standing (standing t)), admits)

    -- ---- waits and queues

    -- behind each run of the list each task offers what suits its standing, and each queued one stands in the line once
    pub queues_list : (actions : List Action) → IsRun (listed program) s actions →
        IsSuited ops (by_number program (end_of (listed program) s actions)).seats × IsLined (by_number program (end_of (listed program) s actions))
    queues_list actions run =
        let (there, ends) = same_run program actions s refl run in (
          subst (λ (z : State (ℕ → Seat L)). IsSuited ops z.seats) (sym ends)
              (run_suited program actions numbers there (start_suited program IsProper lawful numbers opening_numbers proper)),
          subst IsLined (sym ends) (run_lined program actions numbers there (start_lined program IsProper lawful numbers opening_numbers proper)),
        )
