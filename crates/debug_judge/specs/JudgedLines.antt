-- What is found of the lines of a sequence that are judged one after the other (this project's rules).
use Rattle.std.specs.Prelude.{◌≡◌, ℕ, ◌&&◌, not, List, length, Option, Some, if◌then◌else◌, ⊤}
use Rattle.event_machine.specs.declared.Event.{Event}
use Rattle.syn_event.specs.Numbering.{Numbering}
use Rattle.seq_file.specs.declared.errors.SeqError.{SeqError}
use Rattle.seq_file.specs.declared.errors.SeqError.TheVariants.{BadLine, OtherProgram, BadNumber, AfterEnd, TooMany, Memory}
use Rattle.seq_file.specs.Files.{most_events, SeqReads, HasFirstFault}
use Rattle.task_model.specs.Machine.{ProgramWithInputs}
use Rattle.task_machine.specs.declared.verdict.Verdict.{Verdict}
use Rattle.task_machine.specs.Judging.{VerdictIs}
use Rattle.feasible.specs.Keeping.{StandsFor, is_feasible}
use Rattle.divergence.specs.JudgeText.{event_at_place}
use Rattle.divergence.specs.Seen.{AreSettled}
use Rattle.debug_judge.specs.declared.judged_events.LinesVerdict.{LinesVerdict}
use Rattle.debug_judge.specs.declared.judged_lines.LinesError.{LinesError}
use Rattle.debug_judge.specs.declared.judged_lines.LinesError.TheVariants as error

-- Found of these events: their verdict, their number, the event at the place of a verdict that is not feasible, and a judge that stands for them
-- and shows each task that an infeasible event needs.
pub record IsFoundOf (setup : ProgramWithInputs) (numbers : Numbering) (bound : ℕ) (events : List Event) (found : LinesVerdict) : Type 0 where
  pub verdict : VerdictIs setup numbers bound events found.verdict
  pub count : found.count ≡ length events
  pub event : found.event ≡ event_at_place events found.verdict
  pub stands : StandsFor setup events found.judge
  pub last : found.verdict ≡ found.judge.verdict
  pub settled : AreSettled found.judge.tasks numbers found.verdict found.event
  pub numbers_are : found.judge.numbers ≡ numbers
  pub bound_is : found.judge.bound ≡ bound

-- The lines are a sequence of the program, and this is found of its events.
pub record AreFound (setup : ProgramWithInputs) (numbers : Numbering) (bound : ℕ) (lines : List ℕ) (found : LinesVerdict) : Type 0 where
  pub events : List Event
  pub reads : SeqReads lines numbers setup.program.names events
  pub found_of : IsFoundOf setup numbers bound events found

-- Why the lines have no verdict: their first bad line has this fault, or there was no memory.
abbrev pub FailsBy : ProgramWithInputs → Numbering → List ℕ → LinesError → Type 0
FailsBy setup numbers lines (error.Seq fault) = HasFirstFault lines numbers setup.program.names fault
FailsBy setup numbers lines error.Memory = ⊤

-- the event at the place of a verdict, where one event more was given: the first event behind which the verdict is not feasible
abbrev pub event_with : Verdict → Option Event → Verdict → Event → Option Event
event_with before placed verdict e = if is_feasible before && not (is_feasible verdict) then Some e else placed

-- what the fault of a line is behind the last event that a sequence may have: that it is one too many goes before all but that it stands behind the end
abbrev pub behind_last : SeqError → SeqError
behind_last (AfterEnd line) = AfterEnd line
behind_last (BadLine line) = TooMany most_events
behind_last (OtherProgram line) = TooMany most_events
behind_last (BadNumber line) = TooMany most_events
behind_last (TooMany limit) = TooMany most_events
behind_last Memory = TooMany most_events
