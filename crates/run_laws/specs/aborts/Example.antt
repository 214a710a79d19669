-- A program of three tasks in which an acceptor is aborted before its rendezvous has ended, and of which a run of its copy is collected (this project's rule).
use Rattle.std.specs.Prelude.{◌≡◌, ℕ, pos, Bool, true, false, List, [], ◌∷◌}
use Rattle.event_machine.specs.declared.Action.{Action}
use Rattle.event_machine.specs.declared.CallForm.TheVariants.{Plain}
use Rattle.event_machine.specs.declared.Choice.TheVariants.{Accept}
use Rattle.event_machine.specs.declared.Event.{Event}
use Rattle.event_machine.specs.declared.Event.TheVariants.{R, X, B}
use Rattle.event_machine.specs.Offers.{Offer, Calls, Waits, Finishes, Ends, Aborts}
use Rattle.event_machine.specs.States.{Ops}
use Rattle.event_machine.specs.Runs.{IsRun}
use Rattle.event_machine.specs.Programs.{Program, numbered}
use Rattle.run_laws.specs.imitation.Told.{Imitated, original}
use Rattle.run_laws.specs.collecting.Notes.{text}
use Rattle.run_laws.specs.collecting.Example.{pair_lines}
use Rattle.run_laws.specs.aborts.Settings.{Setting, twin, out_of, opening_copy}
use Rattle.run_laws.specs.aborts.Laws.{state_then, bytes_then}

-- The states of its tasks.
pub data Trio : Type 0 where
  -- the main program before it aborts task 1
  Kills : Trio
  -- task 2 before its call
  Asks : Trio
  -- task 1 before its accept statement, and at the end of the accept body, with this caller
  Answers : Trio
  Serves : ℕ → Trio
  -- each at its end
  Leaves : Trio

abbrev pub trio_offer : Trio → Offer
trio_offer Kills = Aborts 1
trio_offer Asks = Calls Plain 1 (pos 0)
trio_offer Answers = Waits (Accept 1 (pos 0) ∷ [])
trio_offer (Serves c) = Finishes
trio_offer Leaves = Ends

abbrev pub trio_callers : Trio → List ℕ
trio_callers Kills = []
trio_callers Asks = []
trio_callers Answers = []
trio_callers (Serves c) = c ∷ []
trio_callers Leaves = []

abbrev pub trio_accepted : ℕ → Trio → Trio
trio_accepted c Kills = Kills
trio_accepted c Asks = Asks
trio_accepted c Answers = Serves c
trio_accepted c (Serves d) = Serves d
trio_accepted c Leaves = Leaves

-- the rendezvous has ended, for its acceptor and for its caller
abbrev pub trio_finished : Trio → Trio
trio_finished Kills = Kills
trio_finished Asks = Asks
trio_finished Answers = Answers
trio_finished (Serves c) = Leaves
trio_finished Leaves = Leaves

abbrev pub trio_resumed : Trio → Trio
trio_resumed Kills = Kills
trio_resumed Asks = Leaves
trio_resumed Answers = Answers
trio_resumed (Serves c) = Serves c
trio_resumed Leaves = Leaves

-- task 1 is aborted
abbrev pub trio_passed : Trio → Trio
trio_passed Kills = Leaves
trio_passed Asks = Asks
trio_passed Answers = Answers
trio_passed (Serves c) = Serves c
trio_passed Leaves = Leaves

abbrev pub trio_ops : Ops Trio
trio_ops = record {
  can_step = λ l. false;
  stepped = λ l. l;
  offer = trio_offer;
  callers = trio_callers;
  accepted = λ e i c caller l. trio_accepted c l;
  finished = trio_finished;
  resumed = λ acceptor l. trio_resumed l;
  raised = trio_resumed;
  took_else = λ l. l;
  took_delay = λ k l. l;
  passed = trio_passed;
  nobody = Leaves;
}

abbrev pub trio_program : Program Trio
trio_program = record { ops = trio_ops; owner = λ e. 1; size = 3 }

-- The events of one of its runs before their end: the rendezvous has begun, and no event ends it.
abbrev pub trio_events : List Event
trio_events = R 2 1 (pos 0) ∷ B 0 1 ∷ X 2 ∷ []

-- It is a program that can be collected, and a run of its copy, in which the acceptor comes to the end of the rendezvous and is aborted before anybody tells
-- so, comes to its end with the lines of these events.
pub record TrioIsCollected : Type 0 where
  pub o : Imitated Trio Bool
  pub p : o.p ≡ trio_program
  pub x : Setting (original o)
  pub lines : x.lines ≡ pair_lines
  pub actions : List Action
  pub applies : IsRun (numbered (twin x)) (opening_copy x) actions
  pub ended : (state_then x (twin x) (out_of x) (opening_copy x) actions).ended ≡ true
  pub bytes : bytes_then x (twin x) (out_of x) (opening_copy x) actions ≡ text pair_lines trio_events
