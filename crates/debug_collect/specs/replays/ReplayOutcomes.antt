-- What replaying a sequence comes to: a text that replays it, a limit that is passed, or why the lines are no sequence (this project's rules).
use Rattle.std.specs.Prelude.{◌≡◌, ◌<◌, ◌≤◌, ℕ, List, length, Option, Some, None, ◌⊎◌}
use Rattle.ada_tree.specs.PlainProgram.{PProgram}
use Rattle.ada_tree.specs.Same.{Same}
use Rattle.ada_tree.specs.TypeTable.{TypeTable}
use Rattle.ada_parser.specs.Reads.{Reads}
use Rattle.ada_printer.specs.ProgramText.{program_text}
use Rattle.event_machine.specs.declared.Event.{Event}
use Rattle.syn_event.specs.Numbering.{Numbering}
use Rattle.normal_form.specs.declared.errors.XformError.{XformError}
use Rattle.normal_form.specs.declared.errors.XformError.TheVariants as error
use Rattle.replay_model.specs.Promised.{IsReplayText}
use Rattle.replay_model.specs.ReplayTree.{most_events, replay_tree}
use Rattle.replay_runs.specs.controls.replayed.Replaying.{ReplaysProgram}
use Rattle.text_laws.specs.normal_read_back.Laws.{IsReadAsSame}
use Rattle.debug_outcome.specs.files.Wanting.{text_limit}
use Rattle.debug_outcome.specs.Outcomes.{Outcome, writes, refuses}
use Rattle.debug_outcome.specs.declared.refusal.Refusal.{Refusal}
use Rattle.debug_outcome.specs.declared.refusal.Refusal.TheVariants.{LongText, TooMany}
use Rattle.debug_outcome.specs.declared.refusal.Listed.TheVariants.{Events}
use Rattle.debug_sequence.specs.Sequences.{ReadsAs, IsRefusedSequence}

-- The lines are a sequence of the program with these types and numbers, and the outcome is the text of another program, their replay text. That is
-- legal as a text of any kind and read back as the same. Whatever the inputs and the schedule, it shows nothing but events of the sequence, in order;
-- it can always go on to all that are feasible; and where it ends it has shown these (`Replays`). So does each program that is the same and is read from
-- what is printed. Both are within their limits.
pub record IsReplayWritten (p : PProgram) (types : TypeTable) (numbers : Numbering) (lines : List ℕ) (o : Outcome) : Type 0 where
  pub events : List Event
  pub reads : ReadsAs lines numbers p.names events
  pub text : PProgram
  pub is_text : IsReplayText p types numbers events text
  pub read_back : IsReadAsSame text
  pub replays : ReplaysProgram p text events
  pub read_replays : (again : PProgram) → Reads (program_text text) again → Same text again → ReplaysProgram p again events
  pub few : length events ≤ most_events
  pub short : length (program_text text) ≤ text_limit
  pub is : o ≡ writes (program_text text) 0

-- The lines are a sequence of more events than are replayed, or its replay text has more bytes than a program that is run. The outcome tells the limit.
abbrev pub PassesLimit : PProgram → TypeTable → Numbering → List Event → Outcome → Type 0
PassesLimit p types numbers events o =
    ((most_events < length events) × (o ≡ refuses (TooMany Events most_events)))
    ⊎ ((length events ≤ most_events) × (text_limit < length (program_text (replay_tree p types numbers events))) × (o ≡ refuses (LongText text_limit)))

pub record IsPastLimit (p : PProgram) (types : TypeTable) (numbers : Numbering) (lines : List ℕ) (o : Outcome) : Type 0 where
  pub events : List Event
  pub reads : ReadsAs lines numbers p.names events
  pub limit : PassesLimit p types numbers events o

-- The lines of a sequence call for this outcome.
abbrev pub ReplaysLines : PProgram → TypeTable → Numbering → List ℕ → Outcome → Type 0
ReplaysLines p types numbers lines o = IsReplayWritten p types numbers lines o ⊎ (IsPastLimit p types numbers lines o ⊎ IsRefusedSequence p.names numbers lines o)

-- the refusal for each error of replaying; none for want of memory, nor for an abort statement, at which no replaying stops
abbrev pub refusal_of_replay : XformError → Option Refusal
refusal_of_replay (error.TooManyEvents limit) = Some (TooMany Events limit)
refusal_of_replay error.Memory = None
