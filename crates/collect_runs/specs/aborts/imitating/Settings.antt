-- A program with abort statements in normal form as the law of collecting takes it: its tasks and its opening, what is to be known of them, and its recorder
-- (this project's rule).
use Rattle.std.specs.Prelude.{◌≡◌, ℕ, ℤ, suc, ◌<◌, true, false, List, ◌∷◌}
use Rattle.event_machine.specs.declared.Standing.TheVariants.{Live, Served}
use Rattle.event_machine.specs.Lawful.{IsLawful}
use Rattle.event_machine.specs.Offers.{Finishes, calls_in, is_any_form}
use Rattle.event_machine.specs.States.{Seat, State}
use Rattle.event_machine.specs.Programs.{numbered, IsOpening}
use Rattle.event_machine.specs.Worlds.{World, aborts}
use Rattle.syn_event.specs.Numbering.{owner_of}
use Rattle.task_model.specs.Frames.{callers_in}
use Rattle.task_model.specs.Tasks.{Task}
use Rattle.task_model.specs.Stands.{offer_of}
use Rattle.task_model.specs.TaskOps.{task_ops}
use Rattle.task_model.specs.Laws.{IsProper}
use Rattle.normal_laws.specs.runs.runs.Laws.{IsCalm}
use Rattle.run_laws.specs.imitation.Imitations.{Original}
use Rattle.run_laws.specs.collecting.Settings.{IsSilent, IsOfTask}
use Rattle.collect_runs.specs.imitating.Settings.{IsMade, Opened, Went}
use Rattle.run_laws.specs.aborts.Settings.{Setting}
use Rattle.collect_runs.specs.aborts.recorder.Recorders.{Recorder, last_of, IsRecorder}
use Rattle.collect_runs.specs.aborts.recorder.States.{lines_of}
use Rattle.collect_runs.specs.aborts.telling.Texts.{Texts, plain, form, text, program_of}
use Rattle.collect_runs.specs.aborts.telling.Forms.{ComesBack}
use Rattle.collect_runs.specs.aborts.telling.Meetings.{pends}

-- What is to be known of the normal form and of the recorder beside it. The recorder is the task behind the normal form's and keeps something of each of
-- them, and NOTE is its entry. The normal form opens so. In each world to which it comes before its end a free task aborts one of its tasks, which is not
-- main; calls an entry of a task, which the text has too; raises nothing where it synchronizes; and where a rendezvous is to end, what comes back fits the
-- caller's variables.
pub record Collecting (x : Texts) : Type 0 where
  pub recorder : Recorder
  pub is_recorder : IsRecorder recorder x.note
  pub last : x.recorder ≡ suc (last_of recorder)
  pub noted : owner_of (text x).numbers x.note ≡ x.recorder
  pub lawful : IsLawful task_ops IsProper
  pub silent : IsSilent task_ops (λ t. t.output)
  pub passes_silent : (σ : Task) → (task_ops.passed σ).output ≡ σ.output
  pub opening : State (ℕ → Seat Task)
  pub opens_so : IsOpening (numbered (program_of x)) opening
  pub proper : (t : ℕ) → t < x.recorder → IsProper (opening.seats t).local
  pub aborts_tasks : (w : World Task) → IsMade (plain x) opening w → w.ended ≡ false → (t v : ℕ) → (w.tasks t).standing ≡ Live →
      aborts v (offer_of (w.tasks t).local) ≡ true → (0 < v) × (v < x.recorder)
  pub calls_tasks : (w : World Task) → IsMade (plain x) opening w → w.ended ≡ false → (t e : ℕ) (i : ℤ) → (w.tasks t).standing ≡ Live →
      calls_in is_any_form e i (offer_of (w.tasks t).local) ≡ true →
      IsOfTask x.recorder (owner_of (form x).numbers) x.note (owner_of (text x).numbers) e
  pub calm : (w : World Task) → IsMade (plain x) opening w → w.ended ≡ false → (t : ℕ) → (w.tasks t).standing ≡ Live → IsCalm (w.tasks t).local
  pub copies_fit : (w : World Task) → IsMade (plain x) opening w → w.ended ≡ false → (a t : ℕ) (outer : List ℕ) → (w.tasks a).standing ≡ Live →
      offer_of (w.tasks a).local ≡ Finishes → callers_in (w.tasks a).local.control ≡ t ∷ outer → (w.tasks t).standing ≡ Served a false →
      ComesBack (w.tasks t).local (w.tasks a).local

-- the normal form, as the law takes it
abbrev pub original_of : {x : Texts} → Collecting x → Original
original_of {x} c = record {
  L = Task;
  p = program_of x;
  out = λ t. t.output;
  IsProper = IsProper;
  lawful = c.lawful;
  opening = c.opening;
  opens_so = c.opens_so;
  proper = c.proper;
  Known = IsMade (plain x) c.opening;
  known_first = Opened;
  known_on = λ w move made sound can. Went w move made can;
}

-- how it is collected
abbrev pub collected : {x : Texts} (c : Collecting x) → Setting (original_of c)
collected {x} c = record {
  note = x.note;
  owner = owner_of (text x).numbers;
  noted = c.noted;
  aborts_tasks = λ w come runs t v live is. (c.aborts_tasks w come.known runs t v live is).1;
  calls_tasks = λ w come runs. c.calls_tasks w come.known runs;
  silent = c.silent;
  passes_silent = c.passes_silent;
  pends = pends;
  lines = lines_of c.recorder;
}
