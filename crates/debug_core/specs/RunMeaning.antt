-- What the files of a run call for: a program, the inputs of its tasks, and choices (this project's rules).
use Rattle.std.specs.Prelude.{ℕ, List, Option, ◌⊎◌}
use Rattle.syn_event.specs.declared.numbering.Mode.TheVariants.{Any}
use Rattle.syn_event.specs.Numbering.{Numbering}
use Rattle.task_model.specs.Machine.{ProgramWithInputs}
use Rattle.debug_outcome.specs.files.Giving.{Given}
use Rattle.debug_outcome.specs.Outcomes.{Outcome}
use Rattle.debug_core.specs.ChosenRuns.{RunsUnder}
use Rattle.debug_core.specs.Starts.{IsStart, IsRefusedStart}

-- The text and the inputs give a start, and the outcome is that of the run from there under the choices, of at most so many turns.
pub record IsRunOutcome (text : List ℕ) (inputs : Option (List ℕ)) (choices : Given) (turns : ℕ) (o : Outcome) : Type 0 where
  pub setup : ProgramWithInputs
  pub numbers : Numbering
  pub is_start : IsStart text Any inputs setup numbers
  pub runs : RunsUnder setup numbers choices turns o

-- The bytes of a program and of inputs, and choices, call for this outcome.
abbrev pub RunMeans : List ℕ → Option (List ℕ) → Given → ℕ → Outcome → Type 0
RunMeans text inputs choices turns o = IsRunOutcome text inputs choices turns o ⊎ IsRefusedStart text Any inputs o
