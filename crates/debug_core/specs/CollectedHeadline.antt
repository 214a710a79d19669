-- The promise of collecting in one statement: what is written is a feasible sequence, and no judgement of it names an infeasible event (this project's rule).
use Rattle.std.specs.Prelude.{◌≡◌, ◌≤◌, ℕ, List, length, Option}
use Rattle.event_machine.specs.declared.Event.{Event}
use Rattle.syn_event.specs.declared.numbering.Mode.TheVariants.{Original}
use Rattle.syn_event.specs.Numbering.{Numbering}
use Rattle.seq_file.specs.Files.{SeqText, most_events}
use Rattle.task_model.specs.Machine.{ProgramWithInputs}
use Rattle.task_machine.specs.declared.verdict.Verdict.{Verdict}
use Rattle.task_machine.specs.declared.verdict.Verdict.TheVariants.{Feasible, Infeasible, Unsettled}
use Rattle.task_machine.specs.Views.{IsFeasible}
use Rattle.debug_judge.specs.JudgeOutcomes.{IsVerdictText}
use Rattle.debug_outcome.specs.files.Giving.{Given}
use Rattle.debug_outcome.specs.Outcomes.{Outcome, writes}
use Rattle.debug_core.specs.CollectRunMeaning.{CollectRunMeans}
use Rattle.debug_core.specs.JudgeMeaning.{JudgeMeans}
use Rattle.debug_core.specs.Starts.{IsStart}

-- the verdict names no infeasible event
abbrev pub RefusesNone : Verdict → Type 0
RefusesNone Feasible = Unit {0}
RefusesNone (Infeasible at why) = ⊥
RefusesNone (Unsettled at task) = Unit {0}

-- The outcome tells the verdict of the events, which names no infeasible one.
pub record IsCleared (setup : ProgramWithInputs) (numbers : Numbering) (bound : ℕ) (events : List Event) (o : Outcome) : Type 0 where
  pub judged : IsVerdictText setup numbers bound events o
  pub refuses_none : RefusesNone judged.verdict

-- The text and the inputs give a start, and the file is the text of events that are feasible from there. Where a file can have as many, each judgement of
-- it with these inputs, within whatever bound, tells a verdict that names no infeasible event.
pub record IsCollectedFile (text : List ℕ) (inputs : Option (List ℕ)) (file : List ℕ) : Type 0 where
  pub setup : ProgramWithInputs
  pub numbers : Numbering
  pub is_start : IsStart text Original inputs setup numbers
  pub events : List Event
  pub feasible : IsFeasible setup numbers events
  pub is_text : file ≡ SeqText setup.program.names numbers events
  pub judged : length events ≤ most_events → (bound : ℕ) (o : Outcome) → JudgeMeans text inputs file bound o → IsCleared setup numbers bound events o

-- Where bytes of files call for this text when the collecting text of a program is run, it is such a file, whatever the choices and the turns.
abbrev pub CollectedHeadline : Type 0
CollectedHeadline =
    (text : List ℕ) (inputs : Option (List ℕ)) (choices : Given) (turns : ℕ) (file : List ℕ) (status : ℕ) → CollectRunMeans text inputs choices turns (writes file status) → IsCollectedFile text inputs file
