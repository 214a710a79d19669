-- The tasks of a collecting text with abort statements do what the law of collecting asks, so its runs are collected (this project's rule).
use Rattle.std.specs.Prelude.{ℕ, suc}
use Rattle.event_machine.specs.States.{Seat, State}
use Rattle.event_machine.specs.Programs.{Program}
use Rattle.syn_event.specs.Numbering.{owner_of}
use Rattle.task_model.specs.Tasks.{Task}
use Rattle.task_model.specs.TaskOps.{task_ops}
use Rattle.run_laws.specs.aborts.Rewritings.{Imitates}
use Rattle.run_laws.specs.aborts.Laws.{Collects}
use Rattle.collect_runs.specs.aborts.telling.Texts.{Texts, text}
use Rattle.collect_runs.specs.aborts.telling.Forms.{Form}
use Rattle.collect_runs.specs.aborts.telling.Laws.{TellsAlike}
use Rattle.collect_runs.specs.aborts.imitating.Settings.{Collecting, collected}
use Rattle.collect_runs.specs.aborts.imitating.Copies.{MeetsCopy, OpensText}

-- the collecting text as a program of tasks
abbrev pub text_program : Texts → Program Task
text_program x = record { ops = task_ops; owner = owner_of (text x).numbers; size = suc x.recorder }

-- Where each task tells as asked, the tasks of the text imitate the law's copies, and a state that opens the text opens an imitation.
abbrev pub TextsImitate : {x : Texts} → Form x → Collecting x → Type 0
TextsImitate {x} f c = TellsAlike f → Imitates (collected c) task_ops (λ t. t.output) (MeetsCopy f c)

-- So the text collects: whatever the schedule.
abbrev pub TextsCollect : {x : Texts} → Form x → Collecting x → Type 0
TextsCollect {x} f c = TellsAlike f → (at : State (ℕ → Seat Task)) → OpensText f c at → Collects (collected c) (text_program x) (λ t. t.output) at
