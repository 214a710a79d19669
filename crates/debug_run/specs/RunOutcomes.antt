-- What the run of a program comes to: the text of its picked run, with the status of its end (this project's rules).
use Rattle.std.specs.Prelude.{◌≡◌, ℕ, List}
use Rattle.syn_event.specs.Numbering.{Numbering}
use Rattle.task_model.specs.Machine.{ProgramWithInputs, MachineState, opening_of}
use Rattle.task_model.specs.declared.picked_runs.report.RunEnd.{RunEnd}
use Rattle.task_model.specs.declared.picked_runs.report.RunEnd.TheVariants.{Ended, Stuck, Turns}
use Rattle.task_model.specs.picked_runs.Outputs.{output_of}
use Rattle.task_model.specs.picked_runs.Picked.{Position, picked, run_end}
use Rattle.debug_run.specs.texts.RunText.{run_text}
use Rattle.debug_outcome.specs.Outcomes.{Outcome, writes}

-- the status of a run by its end
abbrev pub run_status : RunEnd → ℕ
run_status Ended = 0
run_status Stuck = 10
run_status Turns = 11

-- the text of a run that stands here as its turns are spent, with what each task has written
abbrev pub text_at : {C : Type 0} → List (List ℕ) → Numbering → Position C → List ℕ
text_at names numbers p = run_text names numbers p.events (run_end p) p.made (output_of p.machine)

-- that text, with the status of the end
abbrev pub outcome_at : {C : Type 0} → List (List ℕ) → Numbering → Position C → Outcome
outcome_at names numbers p = writes (text_at names numbers p) (run_status (run_end p))

-- the outcome is that of the run from this machine that these choices pick, of at most so many turns
abbrev pub IsRunFrom : {C : Type 0} → (C → ℕ) → (C → C) → List (List ℕ) → Numbering → MachineState → C → ℕ → Outcome → Type 0
IsRunFrom word next names numbers m choices turns o = o ≡ outcome_at names numbers (picked word next turns m choices)

-- The outcome is that of the program's run with its inputs, from its start, that these choices pick, of at most so many turns.
abbrev pub IsRunOf : {C : Type 0} → (C → ℕ) → (C → C) → ProgramWithInputs → Numbering → C → ℕ → Outcome → Type 0
IsRunOf word next setup numbers choices turns o =
    IsRunFrom word next setup.program.names numbers (opening_of setup numbers) choices turns o
