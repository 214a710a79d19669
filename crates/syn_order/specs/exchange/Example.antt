-- A program of three tasks: the main program calls the second task, and the third completes after one local step (this project's rule).
use Rattle.std.specs.Prelude.{◌≡◌, ℕ, pos, Bool, true, false, List, [], ◌∷◌}
use Rattle.event_machine.specs.declared.CallForm.TheVariants.{Plain}
use Rattle.event_machine.specs.declared.Choice.TheVariants.{Accept}
use Rattle.event_machine.specs.declared.Event.{Event}
use Rattle.event_machine.specs.declared.Event.TheVariants.{R, E, X, Z}
use Rattle.event_machine.specs.Offers.{Offer, Nothing, Calls, Waits, Finishes, Ends}
use Rattle.event_machine.specs.States.{Ops, Seat, live}
use Rattle.event_machine.specs.Runs.{Feasible}
use Rattle.event_machine.specs.progress.Known.{known_at_start}
use Rattle.event_machine.specs.progress.Laws.{Opened}
use Rattle.syn_order.specs.Apart.{AreApart}
use Rattle.syn_order.specs.exchange.Laws.{rules_in, size_of}

-- The states of its tasks.
pub data Three : Type 0 where
  -- the main program before its call
  Asks : Three
  -- the second task before its accept statement, and at the end of the accept body, with this caller
  Answers : Three
  Serves : ℕ → Three
  -- the third task before its local step
  Steps : Three
  -- each at its end
  Leaves : Three

abbrev pub three_steps : Three → Bool
three_steps Asks = false
three_steps Answers = false
three_steps (Serves c) = false
three_steps Steps = true
three_steps Leaves = false

abbrev pub three_offer : Three → Offer
three_offer Asks = Calls Plain 1 (pos 0)
three_offer Answers = Waits (Accept 1 (pos 0) ∷ [])
three_offer (Serves c) = Finishes
three_offer Steps = Nothing
three_offer Leaves = Ends

abbrev pub three_callers : Three → List ℕ
three_callers Asks = []
three_callers Answers = []
three_callers (Serves c) = c ∷ []
three_callers Steps = []
three_callers Leaves = []

abbrev pub three_accepted : ℕ → Three → Three
three_accepted c Asks = Asks
three_accepted c Answers = Serves c
three_accepted c (Serves d) = Serves d
three_accepted c Steps = Steps
three_accepted c Leaves = Leaves

-- the rendezvous has ended, for its acceptor and for its caller
abbrev pub three_finished : Three → Three
three_finished Asks = Asks
three_finished Answers = Answers
three_finished (Serves c) = Leaves
three_finished Steps = Steps
three_finished Leaves = Leaves

abbrev pub three_resumed : Three → Three
three_resumed Asks = Leaves
three_resumed Answers = Answers
three_resumed (Serves c) = Serves c
three_resumed Steps = Steps
three_resumed Leaves = Leaves

abbrev pub three_stepped : Three → Three
three_stepped Asks = Asks
three_stepped Answers = Answers
three_stepped (Serves c) = Serves c
three_stepped Steps = Leaves
three_stepped Leaves = Leaves

abbrev pub three_ops : Ops Three
three_ops = record {
  can_step = three_steps;
  stepped = three_stepped;
  offer = three_offer;
  callers = three_callers;
  accepted = λ e i c caller l. three_accepted c l;
  finished = three_finished;
  resumed = λ acceptor l. three_resumed l;
  raised = three_resumed;
  took_else = λ l. l;
  took_delay = λ k l. l;
  passed = λ l. l;
  nobody = Leaves;
}

-- its tasks as it opens
abbrev pub three_seats : List (Seat Three)
three_seats = live Asks ∷ live Answers ∷ live Steps ∷ []

-- the events of a run behind two neighbours that are apart
abbrev pub three_rest : List Event
three_rest = E 1 ∷ X 1 ∷ Z ∷ []

-- It is a program of which the law speaks, two events can be exchanged in it, and the lists with either order are feasible.
pub record ThreeAreExchanged : Type 0 where
  pub o : Opened Three
  pub ops : o.ops ≡ three_ops
  pub seats : o.state.seats ≡ three_seats
  pub apart : AreApart o.owner (size_of o) (known_at_start (size_of o)) (R 0 1 (pos 0)) (X 2)
  pub feasible : Feasible (rules_in o.ops o.owner o.state) o.state (R 0 1 (pos 0) ∷ X 2 ∷ three_rest)
  pub exchanged : Feasible (rules_in o.ops o.owner o.state) o.state (X 2 ∷ R 0 1 (pos 0) ∷ three_rest)
