-- The laws of the machine, in the words of runs and over the machine without queues; each is proved in proofs/.
use Rattle.std.specs.Prelude.{◌≡◌, ◌↔◌, ℕ, ◌≤◌, true, false, List, [], ◌∷◌, ◌++◌, MatchOption}
use Rattle.event_machine.specs.declared.Standing.TheVariants.{Live, Completed, Killed}
use Rattle.event_machine.specs.declared.Action.{Action}
use Rattle.event_machine.specs.declared.Event.{Event}
use Rattle.event_machine.specs.declared.Event.TheVariants.{B}
use Rattle.event_machine.specs.States.{Ops, Seat, State, Rules, is_live, is_served, is_completed}
use Rattle.event_machine.specs.Applying.{can}
use Rattle.event_machine.specs.Effects.{event_of, after}
use Rattle.event_machine.specs.Runs.{IsRun, end_of, events_of, Feasible}
use Rattle.event_machine.specs.Programs.{Program, numbered, listed, by_number}
use Rattle.event_machine.specs.Worlds.{World, Move, still, world_of, state_of, IsStill, needs, happens, is_last, AreMoves, world_after, happened, counts_after}
use Rattle.event_machine.specs.Settling.{ran, HasSteps, Fires, Leads, Follows}
use Rattle.event_machine.specs.Admitting.{IsAdmitted}
use Rattle.event_machine.specs.Soundness.{IsSound}
use Rattle.event_machine.specs.Tallies.{tallied, tallies, ComesTo, RestIs, StandsAfter, HasNoEnd, IsKilledIn}

-- ---- the table and the machine without queues

-- What a run of the table does to the world of its state: the moves with the same events, counts and end.
pub record IsErased {L : Type 0} (p : Program L) (s : State (ℕ → Seat L)) (actions : List Action) : Type 0 where
  pub moves : List Move
  pub made : AreMoves p (world_of s) moves
  pub events : happened moves ≡ events_of (numbered p) s actions
  pub ends : world_after p (world_of s) moves ≡ world_of (end_of (numbered p) s actions)
  pub counts : (count : ℕ → ℕ) → counts_after p (world_of s) moves count ≡ tallies (numbered p) s actions count

-- Each run of the table is a list of moves without queues.
abbrev pub Erasing : {L : Type 0} → Program L → Type 0
Erasing {L} p = (s : State (ℕ → Seat L)) (actions : List Action) → IsRun (numbered p) s actions → IsErased p s actions

-- A run of the table that makes these moves, from the world in which all free tasks are live; while the program has not ended it ends so too.
pub record IsLifted {L : Type 0} (p : Program L) (w : World L) (moves : List Move) : Type 0 where
  pub actions : List Action
  pub applies : IsRun (numbered p) (state_of w) actions
  pub events : events_of (numbered p) (state_of w) actions ≡ happened moves
  pub world : world_of (end_of (numbered p) (state_of w) actions) ≡ world_after p w moves
  pub exact : (world_after p w moves).ended ≡ false → end_of (numbered p) (state_of w) actions ≡ state_of (world_after p w moves)
  pub counts : (count : ℕ → ℕ) → tallies (numbered p) (state_of w) actions count ≡ counts_after p w moves count

-- Each list of moves without queues is a run of the table.
abbrev pub Lifting : {L : Type 0} → Program L → Type 0
Lifting {L} p = (w : World L) (moves : List Move) → IsStill w → AreMoves p w moves → IsLifted p w moves

-- ---- bases

-- An event leads from a world of bases to one alone.
abbrev pub Deterministic : {L : Type 0} → Program L → Type 0
Deterministic {L} p = (w next other : World L) (e : Event) → Fires p w e next → Fires p w e other → next ≡ other

-- What an action without an event, and one with an event, does to the bases that a state follows.
abbrev pub Forward : {L : Type 0} → Program L → (L → Type 0) → Type 0
Forward {L} p IsProper =
    (s : State (ℕ → Seat L)) (bases : World L) (tally : ℕ → ℕ) (action : Action) →
    IsSound p.ops IsProper s.seats → Follows p bases (world_of s) tally → can (numbered p) s action ≡ true →
    MatchOption (event_of (numbered p) s action)
    (Follows p bases (world_of (after (numbered p) s action)) (tallied (numbered p) s action tally))
    (λ e. (next : World L) × Fires p bases e next × Follows p next (world_of (after (numbered p) s action)) (tallied (numbered p) s action tally))

-- A run of the table that has one event, from the bases to the bases after it.
pub record HappensFrom {L : Type 0} (p : Program L) (w : World L) (e : Event) (next : World L) : Type 0 where
  pub actions : List Action
  pub applies : IsRun (numbered p) (state_of w) actions
  pub events : events_of (numbered p) (state_of w) actions ≡ e ∷ []
  pub follows : Follows p next (world_of (end_of (numbered p) (state_of w) actions)) (tallies (numbered p) (state_of w) actions (λ t. 0))
  pub exact : is_last e ≡ false → end_of (numbered p) (state_of w) actions ≡ state_of next

-- Each event of the machine without queues is had by a run of the table from the state of the bases, where nobody is queued.
abbrev pub Backward : {L : Type 0} → Program L → (L → Type 0) → Type 0
Backward {L} p IsProper =
    (w next : World L) (e : Event) → IsStill w → IsSound p.ops IsProper w.tasks →
    ((t : ℕ) → p.size ≤ t → is_completed (w.tasks t).standing ≡ true) → Fires p w e next → HappensFrom p w e next

-- A list of events is feasible exactly where the machine without queues has a state after it.
abbrev pub FeasibleExactly : {L : Type 0} → Program L → State (ℕ → Seat L) → Type 0
FeasibleExactly {L} p s = (events : List Event) → Feasible (numbered p) s events ↔ ((w : World L) × Leads p (world_of s) events w)

-- The Rest of a free task with n local steps is its base run on by n, and each such state is had by some run.
abbrev pub RestExactly : {L : Type 0} → Program L → State (ℕ → Seat L) → Type 0
RestExactly {L} p s =
    (events : List Event) → HasNoEnd events → (t n : ℕ) (l : L) →
    RestIs (numbered p) s events t n l ↔
    ((w : World L) × Leads p (world_of s) events w × ((w.tasks t).standing ≡ Live) × HasSteps p.ops n (w.tasks t).local × (l ≡ ran p.ops n (w.tasks t).local))

-- ---- list and function

-- A run of the tasks in a list and one of the tasks by their numbers come to the same.
abbrev pub Joined : {L : Type 0} → Program L → State (List (Seat L)) → Type 0
Joined {L} p s =
    (events : List Event) (tasks : ℕ → Seat L) (tally : ℕ → ℕ) →
    ComesTo (listed p) s events tasks tally ↔ ComesTo (numbered p) (by_number p s) events tasks tally

-- ---- determinacy

-- No live task has a local step.
abbrev pub IsQuiet : {L : Type 0} → Ops L → (ℕ → Seat L) → Type 0
IsQuiet ops tasks = (t : ℕ) → is_live (tasks t).standing ≡ true → ops.can_step (tasks t).local ≡ false

-- What two runs with the same events have in common.
pub record AreAlike {L : Type 0} (ops : Ops L) (tasks : ℕ → Seat L) (tally : ℕ → ℕ) (others : ℕ → Seat L) (others_tally : ℕ → ℕ) : Type 0 where
  pub standing : (t : ℕ) → still (tasks t).standing ≡ still (others t).standing
  -- a free task with the same tally is in the same state
  pub free : (t : ℕ) → still (tasks t).standing ≡ Live → tally t ≡ others_tally t → (tasks t).local ≡ (others t).local
  -- a served one, abnormal or not, and a completed one are
  pub served : (t : ℕ) → is_served (tasks t).standing ≡ true → (tasks t).local ≡ (others t).local
  pub completed : (t : ℕ) → (tasks t).standing ≡ Completed → (tasks t).local ≡ (others t).local
  -- where both end quiet, each task is that is not killed
  pub quiet : IsQuiet ops tasks → IsQuiet ops others → (t : ℕ) → ((tasks t).standing ≡ Killed → ⊥) → (tasks t).local ≡ (others t).local

-- Determinacy: two runs with the same events have all this in common.
abbrev pub Determinacy : {L C : Type 0} → Rules L C → State C → Type 0
Determinacy {L} rules s =
    (events : List Event) (tasks others : ℕ → Seat L) (tally others_tally : ℕ → ℕ) →
    ComesTo rules s events tasks tally → ComesTo rules s events others others_tally → AreAlike rules.ops tasks tally others others_tally

-- A task that a run leaves killed is killed in its events.
abbrev pub KilledByEvents : {L C : Type 0} → Rules L C → State C → Type 0
KilledByEvents {L} rules s =
    (events : List Event) (tasks : ℕ → Seat L) (tally : ℕ → ℕ) (t : ℕ) →
    ComesTo rules s events tasks tally → (tasks t).standing ≡ Killed → IsKilledIn events t

-- ---- the first law

-- x is aborted by another task while it is free, after the events before.
pub record IsVictim {L C : Type 0} (rules : Rules L C) (s : State C) (events before : List Event) (x : ℕ) : Type 0 where
  pub by : ℕ
  pub rest : List Event
  pub splits : events ≡ before ++ B by x ∷ rest
  pub other : by ≡ x → ⊥
  pub free : StandsAfter rules s before x Live

-- The numbers can be chosen: each task that is free after the events has a Rest with its number, and each that another aborts while it is free
-- has one before that.
pub record CanChoose {L C : Type 0} (rules : Rules L C) (s : State C) (events : List Event) (number : ℕ → ℕ) : Type 0 where
  pub free : (t : ℕ) → StandsAfter rules s events t Live → (l : L) × RestIs rules s events t (number t) l
  pub victim : (x : ℕ) (before : List Event) → IsVictim rules s events before x → (l : L) × RestIs rules s before x (number x) l

-- A run with these tasks and tallies at its end has had all chosen states: a killed task keeps the state in which the abort found it.
pub record HasChosen {L C : Type 0} (rules : Rules L C) (s : State C) (events : List Event) (number : ℕ → ℕ) (tasks : ℕ → Seat L) (tally : ℕ → ℕ) : Type 0 where
  pub free : (t : ℕ) → StandsAfter rules s events t Live → ((tasks t).standing ≡ Live) × (tally t ≡ number t)
  pub victim : (x : ℕ) (before : List Event) → IsVictim rules s events before x →
      ((tasks x).standing ≡ Killed) × RestIs rules s before x (number x) (tasks x).local

-- First law: some run with the events has had all states that can be chosen.
abbrev pub FirstLaw : {L C : Type 0} → Rules L C → State C → Type 0
FirstLaw {L} rules s =
    (events : List Event) (number : ℕ → ℕ) → HasNoEnd events → Feasible rules s events → CanChoose rules s events number →
    (tasks : ℕ → Seat L) × (tally : ℕ → ℕ) × ComesTo rules s events tasks tally × HasChosen rules s events number tasks tally

-- ---- the second law

-- the program of the rules and the state
abbrev pub program_of : {L C : Type 0} → Rules L C → State C → Program L
program_of rules s = record { ops = rules.ops; owner = rules.owner; size = rules.store.size s.seats }

-- Each free task that the event needs has a Rest without a local step, and the conditions of the event hold of the tasks as they then are.
pub record IsJudged {L C : Type 0} (rules : Rules L C) (s : State C) (events : List Event) (e : Event) : Type 0 where
  pub views : ℕ → Seat L
  pub standing : (t : ℕ) → StandsAfter rules s events t (views t).standing
  pub rests : (t : ℕ) → needs (program_of rules s) e t ≡ true → (views t).standing ≡ Live →
      (n : ℕ) × RestIs rules s events t n (views t).local × (rules.ops.can_step (views t).local ≡ false)
  pub holds : happens (program_of rules s) views e ≡ true

-- Second law: an event is feasible after the events exactly where it is judged so.
abbrev pub SecondLaw : {L C : Type 0} → Rules L C → State C → Type 0
SecondLaw rules s = (events : List Event) (e : Event) → HasNoEnd events → Feasible rules s (events ++ e ∷ []) ↔ IsJudged rules s events e

-- An event that is feasible after the events is one that the standings after them admit.
abbrev pub FeasibleAdmitted : {L C : Type 0} → Rules L C → State C → Type 0
FeasibleAdmitted {L} rules s =
    (events : List Event) (e : Event) → HasNoEnd events → Feasible rules s (events ++ e ∷ []) →
    (tasks : ℕ → Seat L) × ((t : ℕ) → StandsAfter rules s events t (tasks t).standing) × IsAdmitted rules.owner tasks e
