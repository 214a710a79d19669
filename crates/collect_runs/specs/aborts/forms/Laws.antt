-- What the tasks of a legal program's normal form give to the tasks of its collecting text with abort statements (this project's rule).
use Rattle.std.specs.Prelude.{◌≡◌, ◌≤◌, ℕ, ℤ, Bool, List, ◌∷◌, Some}
use Rattle.event_machine.specs.Programs.{by_number}
use Rattle.event_machine.specs.States.{Seat, State}
use Rattle.ada_tree.specs.PlainProgram.{PProgram}
use Rattle.ada_static_rules.specs.Refusals.{types_in}
use Rattle.syn_event.specs.declared.numbering.EntryInfo.{EntryInfo}
use Rattle.syn_event.specs.Numbering.{entry_at}
use Rattle.task_model.specs.Setting.{entry_parameters}
use Rattle.task_model.specs.Tasks.{Task, vars_of}
use Rattle.task_model.specs.Machine.{ProgramWithInputs, opening_of}
use Rattle.task_model.specs.Laws.{program_in}
use Rattle.normal_laws.specs.existence.Laws.{IsLegalOriginal}
use Rattle.replay_model.specs.ReplayTree.{last_task}
use Rattle.replay_runs.specs.starts.Laws.{form_in}
use Rattle.replay_runs.specs.starts.Formals.{form_setting}
use Rattle.replay_runs.specs.controls.meanings.Settings.{form_opening}
use Rattle.collect_runs.specs.translation.Floors.{caller_parameter}
use Rattle.run_laws.specs.aborts.Laws.{Collects}
use Rattle.collect_runs.specs.aborts.translation.Floors.{HasPlaces}
use Rattle.collect_runs.specs.aborts.translation.Laws.{StartAlike}
use Rattle.collect_runs.specs.aborts.telling.Texts.{Texts, teller, CanTell}
use Rattle.collect_runs.specs.aborts.imitating.Settings.{Collecting, collected as collected_in}
use Rattle.collect_runs.specs.aborts.imitating.Laws.{text_program}
use Rattle.collect_runs.specs.aborts.starts.Texts.{abort_text, abort_setting, recorder_of}
use Rattle.collect_runs.specs.aborts.forms.Texts.{names_added, names_kept, texts_of}

-- ---- what is asked of the collecting text

-- INTEGER has the numbers of tasks, each task can tell, and each entry of the normal form has one formal more in the text, that of its caller.
pub record IsTold (p : PProgram) (kept : ℕ → Bool) : Type 0 where
  pub few : last_task (form_in p).numbers ≤ 2147483647
  pub can : CanTell (texts_of p kept)
  pub formals : (e : ℕ) (info : EntryInfo) → entry_at (form_in p).numbers e ≡ Some info →
      entry_parameters (abort_setting p) e ≡ caller_parameter (names_added p) (abort_setting p).types ∷ entry_parameters (form_setting p) e

-- A task of the text comes to where it is alike the normal form's, and the variables of its unit's places are there.
pub record StartsWithPlaces (x : Texts) (t last : ℕ) (σ κ : Task) : Type 0 where
  pub starts : StartAlike x.programs (teller x t) last σ κ
  pub places : HasPlaces (teller x t) last (vars_of starts.reached)

-- ---- what the text does

-- What the law of collecting asks of a normal form is known, with this recorder and with these inputs.
pub record IsCollected (p : PProgram) (kept : ℕ → Bool) (inputs : List (List ℤ)) : Type 0 where
  pub known : Collecting (texts_of p kept)
  pub recorder : known.recorder ≡ recorder_of p inputs
  pub opening : known.opening ≡ form_opening p inputs

-- the collecting text with these inputs, and its opening
abbrev pub text_setup : PProgram → List (List ℤ) → ProgramWithInputs
text_setup p inputs = record { program = abort_text p; types = types_in (abort_text p); inputs = inputs }

abbrev pub text_opening : PProgram → List (List ℤ) → State (ℕ → Seat Task)
text_opening p inputs = by_number (program_in (text_setup p inputs) (abort_setting p).numbers) (opening_of (text_setup p inputs)
    (abort_setting p).numbers).state

-- What is known of the normal form, as the law of collecting takes it, and that the text collects.
pub record TextCollects (p : PProgram) (kept : ℕ → Bool) (inputs : List (List ℤ)) : Type 0 where
  pub collected : IsCollected p kept inputs
  pub collects : Collects (collected_in collected.known) (text_program (texts_of p kept)) (λ t. t.output) (text_opening p inputs)

-- ---- the laws

-- The collecting text of each legal program tells so.
abbrev pub LegalTextsTell : Type 0
LegalTextsTell = (p : PProgram) → IsLegalOriginal p → IsTold p (names_kept p)

-- The collecting text of a legal program collects, with whatever inputs.
abbrev pub LegalTextsCollect : Type 0
LegalTextsCollect = (p : PProgram) (inputs : List (List ℤ)) → IsLegalOriginal p → TextCollects p (names_kept p) inputs
