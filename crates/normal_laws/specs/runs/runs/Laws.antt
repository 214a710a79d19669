-- The law of normal forms: whatever the inputs and the schedule, a program and its normal form show the same, and the evaluation of a synchronizing
-- statement of the normal form does not raise (this project's rule).
use Rattle.std.specs.Prelude.{◌≡◌, true}
use Rattle.event_machine.specs.Programs.{by_number}
use Rattle.syn_event.specs.Numbering.{Numbering}
use Rattle.task_model.specs.Tasks.{Task}
use Rattle.task_model.specs.Stands.{Steps, stand_of, can_step}
use Rattle.task_model.specs.Machine.{ProgramWithInputs, opening_of}
use Rattle.task_model.specs.Laws.{program_in}
use Rattle.run_laws.specs.imitation.Shown.{Opened, ShowSame, AllFreeAre}
use Rattle.normal_laws.specs.runs.runs.Premises.{Rewrite, IsNormalForm}

-- a program with these numbers at its start, and what its tasks have written
abbrev pub opened : ProgramWithInputs → Numbering → Opened Task
opened setup numbers = record {
  program = program_in setup numbers;
  out = λ t. t.output;
  at = by_number (program_in setup numbers) (opening_of setup numbers).state;
}

-- Each run of the one has the events of some run of the other, with the same output of each task, in both directions, and a quiet end where this has one.
abbrev pub NormalFormsShowSame : Type 0
NormalFormsShowSame = (r : Rewrite) → IsNormalForm r → ShowSame (opened r.setup r.numbers) (opened r.made r.made_numbers)

-- Where the task has a local step, it stands at a statement that does not synchronize, or at the end of a frame: not where the evaluation of a call,
-- an accept, a wait or an abort raises.
abbrev pub IsCalm : Task → Type 0
IsCalm t = can_step t ≡ true → stand_of t ≡ Steps

-- Whatever a normal form does from its start, no free task of it stands where the evaluation of a synchronizing statement raises.
abbrev pub NormalFormsAreCalm : Type 0
NormalFormsAreCalm = (r : Rewrite) → IsNormalForm r → AllFreeAre IsCalm (opened r.made r.made_numbers)
