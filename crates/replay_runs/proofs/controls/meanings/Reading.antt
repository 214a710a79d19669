-- Whatever a program does, what each operation keeps of a task's own state stays so. So each task reads the program with which it began.
use Rattle.std.proofs.Common.{◌≡◌, ℕ, ◌<◌, List, length, ap, ◌∙◌, subst}
use Rattle.event_machine.specs.States.{Seat}
use Rattle.event_machine.specs.Worlds.{Move, world_after}
use Rattle.syn_event.specs.Numbering.{Numbering}
use Rattle.task_model.specs.Setting.{Setting}
use Rattle.task_model.specs.Tasks.{Task}
use Rattle.task_model.specs.TaskOps.{task_ops}
use Rattle.task_model.specs.Machine.{ProgramWithInputs, setting_of}
use Rattle.task_model.specs.Laws.{program_in, first_world}
use Rattle.task_laws.proofs.invariants.Beginning.{length_first, first_is}
use Rattle.table_law.proofs.runs.Keeping.{AllKeep, all_keep}
use Rattle.replay_runs.specs.starts.Laws.{form_in}
use Rattle.replay_runs.proofs.controls.replayed.Settings.{stepped-same, accepted-same, finished-same, resumed-same, failed-same, else-same, delay-same, passed-same}
use Rattle.replay_runs.specs.controls.meanings.Settings.{form_setup, FormsKeepReading}

-- ---- what a task reads

module _ (g : Setting) (n : ℕ) where
  -- a task of a number below n reads g
  abbrev Reads : ℕ → Task → Type 0
  Reads u t = u < n → t.setting ≡ g

  reads_on : AllKeep task_ops Reads
  reads_on = record {
    stepped = λ u t h l. stepped-same t ∙ h l;
    accepted = λ e i c caller u t h l. accepted-same e i c caller t ∙ h l;
    finished = λ u t h l. finished-same t ∙ h l;
    resumed = λ acceptor u t h l. resumed-same acceptor t ∙ h l;
    raised = λ u t h l. failed-same t ∙ h l;
    took_else = λ u t h l. else-same t ∙ h l;
    took_delay = λ k u t h l. delay-same k t ∙ h l;
    passed = λ u t h l. passed-same t ∙ h l;
  }

-- each task of a program reads it, whatever has been done
pub settings_stay : (setup : ProgramWithInputs) (numbers : Numbering) (moves : List Move) (t : ℕ) → t < (program_in setup numbers).size →
    ((world_after (program_in setup numbers) (first_world setup numbers) moves).tasks t).local.setting ≡ setting_of setup numbers
settings_stay setup numbers moves =
    all_keep (program_in setup numbers) (Reads g n) (reads_on g n) moves (first_world setup numbers)
    (λ u l. ap (λ (s : Seat Task). s.local.setting) (first_is setup numbers many u (subst (λ m. u < m) (length_first setup numbers many) l)))
  where
    g : Setting
    g = setting_of setup numbers

    n : ℕ
    n = (program_in setup numbers).size

    many : ℕ
    many = length numbers.tasks

pub forms_keep_reading : FormsKeepReading
forms_keep_reading p inputs moves made t l = settings_stay (form_setup p inputs) (form_in p).numbers moves t l
