-- The law of exchange: the order of neighbours that touch no common task is of no matter to a program (this project's rule).
use Rattle.std.specs.Prelude.{◌≡◌, ◌↔◌, ℕ, ◌<◌, Bool, List, ◌∷◌, ◌++◌, length}
use Rattle.event_machine.specs.declared.Event.{Event}
use Rattle.event_machine.specs.States.{Ops, Seat, State, Rules}
use Rattle.event_machine.specs.Runs.{Feasible}
use Rattle.event_machine.specs.Programs.{Program, listed, by_number}
use Rattle.event_machine.specs.Worlds.{World, world_of}
use Rattle.event_machine.specs.progress.Known.{known_at_start, known}
use Rattle.event_machine.specs.progress.Laws.{Opened, program_with}
use Rattle.syn_order.specs.Orders.{AreAdmitted, splits}
use Rattle.syn_order.specs.Apart.{AreApart, AreAlike}
use Rattle.syn_order.specs.exchange.Steps.{LeadsBy}
use Rattle.syn_order.specs.exchange.Verdicts.{AllFeasible}
use Rattle.syn_order.specs.exchange.Shown.{AllShownBy}

-- ---- what two lists of events have in common in a program with these tasks

module _ {L : Type 0} (ops : Ops L) (owner : ℕ → ℕ) (s : State (List (Seat L))) where
  abbrev pub program : Program L
  program = program_with ops owner s

  abbrev pub rules_in : Rules L (List (Seat L))
  rules_in = listed program

  -- the bases before the first event
  abbrev pub start : World L
  start = world_of (by_number program s)

  -- The two are the same to the program.
  pub record AreSame (xs ys : List Event) : Type 0 where
    -- one is feasible where the other is
    pub feasible : Feasible rules_in s xs ↔ Feasible rules_in s ys
    -- both lead to the same bases, by the very same steps: whatever is asked of the steps that each event finds made
    pub leads : (test : Event → ℕ → ℕ → Bool) (last : World L) → LeadsBy test program start xs last ↔ LeadsBy test program start ys last
    -- whatever a run with the one shows, some run with the other shows
    pub shown : AllShownBy rules_in s xs ys
    pub shown_back : AllShownBy rules_in s ys xs
    -- with whatever bound, all goes well with the one where it does with the other
    pub verdict : (bound : ℕ) → AllFeasible rules_in s bound xs ↔ AllFeasible rules_in s bound ys

-- ---- the laws, of a program in its opening state

abbrev pub size_of : {L : Type 0} → Opened L → ℕ
size_of o = length o.state.seats

-- Two neighbours that touch no common task, by what is known before the first, can be exchanged.
abbrev pub LawOfExchange : Type 0 → Type 0
LawOfExchange L =
    (o : Opened L) (before rest : List Event) (e f : Event) → AreApart o.owner (size_of o) (known o.owner (size_of o) before) e f →
    AreSame o.ops o.owner o.state (before ++ e ∷ f ∷ rest) (before ++ f ∷ e ∷ rest)

-- Lists of which one comes from the other by such exchanges are the same to the program.
abbrev pub LawOfAlike : Type 0 → Type 0
LawOfAlike L =
    (o : Opened L) (xs ys : List Event) → AreAlike o.owner (size_of o) (known_at_start (size_of o)) xs ys →
    AreSame o.ops o.owner o.state xs ys

-- So are two admitted lists that have the same events for each task, in the same order.
abbrev pub LawOfLists : Type 0 → Type 0
LawOfLists L =
    (o : Opened L) (xs ys : List Event) → 0 < size_of o → AreAdmitted o.owner (known_at_start (size_of o)) xs → AreAdmitted o.owner (known_at_start (size_of o)) ys →
    splits o.owner (size_of o) (known_at_start (size_of o)) xs ≡ splits o.owner (size_of o) (known_at_start (size_of o)) ys →
    AreSame o.ops o.owner o.state xs ys

-- Each feasible list is admitted.
abbrev pub FeasibleAreAdmitted : Type 0 → Type 0
FeasibleAreAdmitted L =
    (o : Opened L) (events : List Event) → Feasible (rules_in o.ops o.owner o.state) o.state events → AreAdmitted o.owner (known_at_start (size_of o)) events
