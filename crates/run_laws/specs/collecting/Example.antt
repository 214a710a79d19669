-- A program of two tasks with one rendezvous, of which a run of its copy is collected (this project's rule).
use Rattle.std.specs.Prelude.{◌≡◌, ℕ, pos, Bool, true, false, List, [], ◌∷◌}
use Rattle.event_machine.specs.declared.Action.{Action}
use Rattle.event_machine.specs.declared.CallForm.TheVariants.{Plain}
use Rattle.event_machine.specs.declared.Choice.TheVariants.{Accept}
use Rattle.event_machine.specs.declared.Event.{Event}
use Rattle.event_machine.specs.declared.Event.TheVariants.{R, E, S, D, C, T, F, X, B, Z}
use Rattle.event_machine.specs.Offers.{Offer, Calls, Waits, Finishes, Ends}
use Rattle.event_machine.specs.States.{Ops}
use Rattle.event_machine.specs.Runs.{IsRun}
use Rattle.event_machine.specs.Programs.{Program, numbered}
use Rattle.run_laws.specs.imitation.Told.{Imitated, original}
use Rattle.run_laws.specs.collecting.Notes.{Lines, text}
use Rattle.run_laws.specs.collecting.Settings.{Setting, twin, out_of, opening_copy}
use Rattle.run_laws.specs.collecting.Laws.{state_then, bytes_then}

-- The states of its tasks.
pub data Pair : Type 0 where
  -- the main program before its call
  Asks : Pair
  -- the other task before its accept statement, and at the end of the accept body, with this caller
  Answers : Pair
  Serves : ℕ → Pair
  -- either at its end
  Leaves : Pair

abbrev pub pair_offer : Pair → Offer
pair_offer Asks = Calls Plain 1 (pos 0)
pair_offer Answers = Waits (Accept 1 (pos 0) ∷ [])
pair_offer (Serves c) = Finishes
pair_offer Leaves = Ends

abbrev pub pair_callers : Pair → List ℕ
pair_callers Asks = []
pair_callers Answers = []
pair_callers (Serves c) = c ∷ []
pair_callers Leaves = []

abbrev pub pair_accepted : ℕ → Pair → Pair
pair_accepted c Asks = Asks
pair_accepted c Answers = Serves c
pair_accepted c (Serves d) = Serves d
pair_accepted c Leaves = Leaves

-- the rendezvous has ended, for its acceptor and for its caller
abbrev pub pair_finished : Pair → Pair
pair_finished Asks = Asks
pair_finished Answers = Answers
pair_finished (Serves c) = Leaves
pair_finished Leaves = Leaves

abbrev pub pair_resumed : Pair → Pair
pair_resumed Asks = Leaves
pair_resumed Answers = Answers
pair_resumed (Serves c) = Serves c
pair_resumed Leaves = Leaves

abbrev pub pair_ops : Ops Pair
pair_ops = record {
  can_step = λ l. false;
  stepped = λ l. l;
  offer = pair_offer;
  callers = pair_callers;
  accepted = λ e i c caller l. pair_accepted c l;
  finished = pair_finished;
  resumed = λ acceptor l. pair_resumed l;
  raised = pair_resumed;
  took_else = λ l. l;
  took_delay = λ k l. l;
  passed = λ l. l;
  nobody = Leaves;
}

abbrev pub pair_program : Program Pair
pair_program = record { ops = pair_ops; owner = λ e. 1; size = 2 }

-- An event's letter and its task numbers are the pieces of its line.
abbrev pub pair_front : Event → List (List ℕ)
pair_front (R c e i) = (82 ∷ []) ∷ (c ∷ []) ∷ (e ∷ []) ∷ []
pair_front (E a) = (69 ∷ []) ∷ (a ∷ []) ∷ []
pair_front (S a) = (83 ∷ []) ∷ (a ∷ []) ∷ []
pair_front (D a k) = (68 ∷ []) ∷ (a ∷ []) ∷ (k ∷ []) ∷ []
pair_front (C c e i) = (67 ∷ []) ∷ (c ∷ []) ∷ (e ∷ []) ∷ []
pair_front (T c e i) = (84 ∷ []) ∷ (c ∷ []) ∷ (e ∷ []) ∷ []
pair_front (F c e i) = (70 ∷ []) ∷ (c ∷ []) ∷ (e ∷ []) ∷ []
pair_front (X a) = (88 ∷ []) ∷ (a ∷ []) ∷ []
pair_front (B t v) = (66 ∷ []) ∷ (t ∷ []) ∷ (v ∷ []) ∷ []
pair_front Z = (90 ∷ []) ∷ []

abbrev pub pair_lines : Lines
pair_lines = record { header = 10 ∷ []; front = pair_front; line_end = 10 ∷ [] }

-- the events of its runs before their end
abbrev pub pair_events : List Event
pair_events = R 0 1 (pos 0) ∷ E 1 ∷ X 1 ∷ []

-- It is a program that can be collected, and a run of its copy comes to its end with the lines of its events.
pub record PairIsCollected : Type 0 where
  pub o : Imitated Pair Bool
  pub p : o.p ≡ pair_program
  pub x : Setting (original o)
  pub lines : x.lines ≡ pair_lines
  pub actions : List Action
  pub applies : IsRun (numbered (twin x)) (opening_copy x) actions
  pub ended : (state_then x (twin x) (out_of x) (opening_copy x) actions).ended ≡ true
  pub bytes : bytes_then x (twin x) (out_of x) (opening_copy x) actions ≡ text pair_lines pair_events
