-- The promise in one statement: what the text that is written shows, by the verdict of the sequence, whatever its schedule (this project's rule).
use Rattle.std.specs.Prelude.{◌≡◌, ℕ, ℤ, ◌+◌, ◌<◌, List, [], ◌∷◌, ◌++◌, length, Option}
use Rattle.event_machine.specs.declared.Action.{Action}
use Rattle.event_machine.specs.declared.Event.{Event}
use Rattle.event_machine.specs.Laws.{IsQuiet}
use Rattle.event_machine.specs.Programs.{numbered}
use Rattle.event_machine.specs.Runs.{IsRun}
use Rattle.event_machine.specs.Tallies.{IsKilledIn}
use Rattle.ada_tree.specs.PlainProgram.{PProgram}
use Rattle.ada_parser.specs.Reads.{Reads}
use Rattle.ada_printer.specs.ProgramText.{program_text}
use Rattle.syn_event.specs.declared.numbering.Mode.TheVariants.{Original}
use Rattle.syn_event.specs.Numbering.{Numbering}
use Rattle.syn_event.specs.Origin.{back_of}
use Rattle.task_model.specs.Machine.{ProgramWithInputs}
use Rattle.task_machine.specs.declared.verdict.Verdict.{Verdict}
use Rattle.task_machine.specs.declared.verdict.Verdict.TheVariants.{Feasible, Infeasible, Unsettled}
use Rattle.run_laws.specs.imitation.Shown.{Opened, end_from}
use Rattle.normal_laws.specs.runs.runs.Laws.{opened}
use Rattle.normal_laws.specs.runs.forms.Normalisable.{numbers_of}
use Rattle.replay_runs.specs.controls.replayed.Replaying.{AgreeBelow, GoesOnWith, IsFeasible, IsOver, IsRunWith, Replays, output_after, shown, starting}
use Rattle.divergence.specs.JudgeText.{judge_text}
use Rattle.debug_judge.specs.JudgeOutcomes.{ShowsWhy, verdict_status}
use Rattle.task_machine.specs.Judging.{VerdictIs}
use Rattle.task_machine.specs.Views.{View}
use Rattle.replay_model.specs.Promised.{IsReplayText}
use Rattle.text_laws.specs.normal_read_back.Laws.{IsReadAsSame}
use Rattle.debug_outcome.specs.Outcomes.{Outcome, writes}
use Rattle.debug_sequence.specs.Sequences.{ReadsAs}
use Rattle.debug_core.specs.JudgeMeaning.{JudgeMeans}
use Rattle.debug_core.specs.ReplayMeaning.{ReplayMeans}
use Rattle.debug_core.specs.Starts.{IsStart}

-- A sequence of events of one program, another program that is made from it, and for each event of this the event of the first that it stands for.
module _ {L K : Type 0} (s : List Event) (one : Opened L) (other : Opened K) (meant : Event → Option Event) where
  -- every run of the second program can go on to exactly these events in all
  abbrev pub CanGoOnTo : List Event → Type 0
  CanGoOnTo events =
      (actions : List Action) → IsRun (numbered other.program) other.at actions → (more : List Event) × (shown s one other meant actions ++ more ≡ events) × GoesOnWith s one other meant actions more

  -- The run has shown exactly these events. The first program has a quiet run with exactly these, and each of its tasks that they do not abort before it
  -- completes has here the output that it has in every such run.
  pub record HasShown (events : List Event) (actions : List Action) : Type 0 where
    pub whole : shown s one other meant actions ≡ events
    pub originals : List Action
    pub original : IsRunWith one events originals
    pub quiet : IsQuiet one.program.ops (end_from one originals).seats
    pub outputs : (others : List Action) → IsRunWith one events others → IsQuiet one.program.ops (end_from one others).seats →
        (t : ℕ) → t < one.program.size → (IsKilledIn events t → ⊥) → output_after other actions t ≡ output_after one others t

  -- each run of the second program after which no action applies has shown exactly these events
  abbrev pub EndsWith : List Event → Type 0
  EndsWith events = (actions : List Action) → IsRun (numbered other.program) other.at actions → IsOver other actions → HasShown events actions

  -- Every run of the second program can go on to all of the sequence, and each that ends has shown all of it.
  pub record FollowsAll : Type 0 where
    pub goes_on : CanGoOnTo s
    pub ends : EndsWith s

  -- The event at this place of the sequence, counted from 1, is the first that no run of the first program reaches. Every run of the second can go on
  -- to all before it, and each that ends has shown these.
  pub record StopsAt (at : ℕ) : Type 0 where
    pub before : List Event
    pub event : Event
    pub rest : List Event
    pub splits : s ≡ before ++ event ∷ rest
    pub place : at ≡ length before + 1
    pub reached : IsFeasible one before
    pub unreached : IsFeasible one (before ++ event ∷ []) → ⊥
    pub goes_on : CanGoOnTo before
    pub ends : EndsWith before

  -- What the second program does by the verdict of the sequence; where that is unsettled it is not known how far it is feasible.
  abbrev pub KeepsTo : Verdict → Type 0
  KeepsTo Feasible = FollowsAll
  KeepsTo (Infeasible at why) = StopsAt at
  KeepsTo (Unsettled at task) = Unit {0}

-- With the judged inputs for the first program's tasks and any for the others, the program q replays the sequence and keeps to the verdict, whatever the
-- schedule.
pub record KeepsToVerdict (setup : ProgramWithInputs) (numbers : Numbering) (events : List Event) (verdict : Verdict) (q : PProgram) : Type 0 where
  pub replays : (others : List (List ℤ)) → AgreeBelow (length numbers.tasks) setup.inputs others → Replays events (opened setup numbers) (starting q others) (back_of (numbers_of q))
  pub keeps : (others : List (List ℤ)) → AgreeBelow (length numbers.tasks) setup.inputs others → KeepsTo events (opened setup numbers) (starting q others) (back_of (numbers_of q)) verdict

-- The files hold a program, inputs and a sequence of it, in either format. The verdict that is told is that of the sequence, with why it is so. The text that is written is
-- the sequence's replay text. The program whose text it is, and whatever program is read from it, keeps to the verdict.
pub record IsPromised (text : List ℕ) (inputs : Option (List ℕ)) (lines : List ℕ) (bound : ℕ) (judged replayed : Outcome) : Type 0 where
  pub setup : ProgramWithInputs
  pub numbers : Numbering
  pub is_start : IsStart text Original inputs setup numbers
  pub events : List Event
  pub reads : ReadsAs lines numbers setup.program.names events
  pub verdict : Verdict
  pub verdict_is : VerdictIs setup numbers bound events verdict
  pub views : ℕ → View
  pub seen : ShowsWhy setup numbers events views verdict
  pub told : judged ≡ writes (judge_text setup.program.names numbers bound views events verdict) (verdict_status verdict)
  pub replay : PProgram
  pub is_text : IsReplayText setup.program setup.types numbers events replay
  pub read_back : IsReadAsSame replay
  pub written : replayed ≡ writes (program_text replay) 0
  pub keeps : KeepsToVerdict setup numbers events verdict replay
  pub read_keeps : (again : PProgram) → Reads (program_text replay) again → KeepsToVerdict setup numbers events verdict again

-- a call has written a text, with a status
abbrev pub HasWritten : Outcome → Type 0
HasWritten o = (text : List ℕ) × (status : ℕ) × (o ≡ writes text status)

-- Where the bytes of files call for an outcome of judging a sequence and for one of replaying it, and neither is a refusal, each run of the text that
-- is written can go on to all of a feasible sequence, and each that ends has shown it; else each can go on to all before the first event that no run
-- reaches, which the judging names, unless that is unsettled.
abbrev pub Headline : Type 0
Headline =
    (text : List ℕ) (inputs : Option (List ℕ)) (lines : List ℕ) (bound : ℕ) (judged replayed : Outcome) → JudgeMeans text inputs lines bound judged → ReplayMeans text lines replayed →
    HasWritten judged → HasWritten replayed → IsPromised text inputs lines bound judged replayed
