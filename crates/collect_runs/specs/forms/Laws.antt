-- What the tasks of a legal program's normal form give to the tasks of its collecting text (this project's rule).
use Rattle.std.specs.Prelude.{◌≡◌, ◌≤◌, ℕ, ℤ, Bool, List, ◌∷◌, Some, None}
use Rattle.ada_tree.specs.PlainProgram.{PProgram}
use Rattle.syn_event.specs.declared.numbering.EntryInfo.{EntryInfo}
use Rattle.syn_event.specs.Numbering.{entry_at}
use Rattle.task_model.specs.Setting.{entry_parameters}
use Rattle.task_model.specs.Starting.{started}
use Rattle.normal_laws.specs.existence.Laws.{IsLegalOriginal}
use Rattle.replay_model.specs.ReplayTree.{last_task}
use Rattle.replay_runs.specs.starts.Laws.{form_in}
use Rattle.replay_runs.specs.starts.Formals.{form_setting}
use Rattle.event_machine.specs.Programs.{by_number}
use Rattle.event_machine.specs.States.{Seat, State}
use Rattle.ada_static_rules.specs.Refusals.{types_in}
use Rattle.task_model.specs.Machine.{opening_of}
use Rattle.task_model.specs.Laws.{program_in}
use Rattle.task_model.specs.Tasks.{Task}
use Rattle.run_laws.specs.collecting.Laws.{Collects}
use Rattle.collect_model.specs.FirstAbort.{first_abort}
use Rattle.collect_runs.specs.recorder.Recorders.{IsRecorder}
use Rattle.collect_runs.specs.recorder.States.{starting}
use Rattle.collect_runs.specs.imitating.Settings.{collected as collected_in}
use Rattle.collect_runs.specs.imitating.Laws.{text_program}
use Rattle.collect_structure.specs.Names.{kept_name}
use Rattle.collect_runs.specs.starts.Laws.{IsCollected}
use Rattle.collect_runs.specs.translation.Floors.{caller_parameter}
use Rattle.collect_runs.specs.translation.Laws.{StartAlike}
use Rattle.collect_runs.specs.telling.Texts.{CanTell, teller}
use Rattle.collect_runs.specs.starts.Texts.{text_for, text_setting, names_added, recorder_number, note_number, recorder_of, texts_of}

-- ---- what is asked of the collecting text

-- INTEGER has the numbers of tasks, each task can tell, and each entry of the normal form has one formal more in the text, that of its caller.
pub record IsTold (p : PProgram) (kept : ℕ → Bool) : Type 0 where
  pub few : last_task (form_in p).numbers ≤ 2147483647
  pub can : CanTell (texts_of p kept)
  pub formals : (e : ℕ) (info : EntryInfo) → entry_at (form_in p).numbers e ≡ Some info →
      entry_parameters (text_setting p) e ≡ caller_parameter (names_added p) (text_setting p).types ∷ entry_parameters (form_setting p) e

-- And the recorder is as asked; it starts before its header, and each other task comes to where it is alike the normal form's.
pub record IsText (p : PProgram) (kept : ℕ → Bool) (inputs : List (List ℤ)) : Type 0 where
  pub told : IsTold p kept
  pub recorder : IsRecorder (recorder_of p inputs) (note_number p)
  pub starts : (t : ℕ) → t ≤ last_task (form_in p).numbers → StartAlike (texts_of p kept).programs (teller (texts_of p kept) t) (started (form_setting p) inputs t) (started (text_setting p) inputs t)
  pub records : started (text_setting p) inputs (recorder_number p) ≡ starting (recorder_of p inputs)

-- ---- what the text does

-- the collecting text with these inputs, and its opening
abbrev pub text_opening : PProgram → List (List ℤ) → State (ℕ → Seat Task)
text_opening p inputs = by_number (program_in record { program = text_for p; types = types_in (text_for p); inputs = inputs } (text_setting p).numbers)
    (opening_of record { program = text_for p; types = types_in (text_for p); inputs = inputs } (text_setting p).numbers).state

-- What is known of the normal form, as the law of collecting takes it, and that the text collects.
pub record TextCollects (p : PProgram) (kept : ℕ → Bool) (inputs : List (List ℤ)) : Type 0 where
  pub collected : IsCollected p kept inputs
  pub collects : Collects (collected_in collected.known) (text_program (texts_of p kept)) (λ t. t.output) (text_opening p inputs)

-- ---- the laws

-- the ids of the names that stay, of a program
abbrev pub names_kept : PProgram → ℕ → Bool
names_kept p = kept_name (form_in p).program

-- The collecting text of each legal program tells so.
abbrev pub LegalTextsTell : Type 0
LegalTextsTell = (p : PProgram) → IsLegalOriginal p → IsTold p (names_kept p)

-- The collecting text of a legal program without an abort statement collects, with whatever inputs.
abbrev pub LegalTextsCollect : Type 0
LegalTextsCollect = (p : PProgram) (inputs : List (List ℤ)) → IsLegalOriginal p → first_abort p ≡ None → TextCollects p (names_kept p) inputs
