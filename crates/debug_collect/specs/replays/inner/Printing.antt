-- The outcome of replaying as the code comes to it: a text that is made is printed, unless it is too long (this project's rules).
use Rattle.std.specs.Prelude.{◌≡◌, ℕ, List, Result, Ok, Err, ◌⊎◌}
use Rattle.ada_tree.specs.PlainProgram.{PProgram}
use Rattle.ada_tree.specs.TypeTable.{TypeTable}
use Rattle.event_machine.specs.declared.Event.{Event}
use Rattle.syn_event.specs.Numbering.{Numbering}
use Rattle.replay_model.specs.ReplayTree.{replayed}
use Rattle.debug_outcome.specs.Outcomes.{Outcome, refuses}
use Rattle.debug_outcome.specs.Printing.{printed_outcome}
use Rattle.debug_outcome.specs.declared.refusal.Refusal.TheVariants.{TooMany}
use Rattle.debug_outcome.specs.declared.refusal.Listed.TheVariants.{Events}
use Rattle.debug_sequence.specs.Sequences.{ReadsAs, IsRefusedSequence}

-- The replay text as it is printed, or that there are more events than are replayed.
abbrev pub replay_outcome : Result PProgram ℕ → Outcome
replay_outcome (Ok text) = printed_outcome text
replay_outcome (Err limit) = refuses (TooMany Events limit)

-- The lines are a sequence of the program with these types and numbers, and the outcome is that of its replay text.
pub record IsReplayed (p : PProgram) (types : TypeTable) (numbers : Numbering) (lines : List ℕ) (o : Outcome) : Type 0 where
  pub events : List Event
  pub reads : ReadsAs lines numbers p.names events
  pub is : o ≡ replay_outcome (replayed p types numbers events)

-- The lines come to this outcome.
abbrev pub ComeTo : PProgram → TypeTable → Numbering → List ℕ → Outcome → Type 0
ComeTo p types numbers lines o = IsReplayed p types numbers lines o ⊎ IsRefusedSequence p.names numbers lines o
