-- A program in normal form as the law of collecting takes it: its tasks and its opening, what is to be known of them, and its recorder (this project's rule).
use Rattle.std.specs.Prelude.{◌≡◌, ℕ, ℤ, suc, ◌<◌, true, false}
use Rattle.event_machine.specs.declared.Standing.TheVariants.{Live}
use Rattle.event_machine.specs.Lawful.{IsLawful}
use Rattle.event_machine.specs.Offers.{calls_in, is_any_form}
use Rattle.event_machine.specs.States.{Seat, State}
use Rattle.event_machine.specs.Programs.{numbered, IsOpening}
use Rattle.event_machine.specs.Worlds.{World, Move, aborts, world_of, can_move, moved}
use Rattle.syn_event.specs.Numbering.{owner_of}
use Rattle.task_model.specs.Tasks.{Task}
use Rattle.task_model.specs.Stands.{offer_of}
use Rattle.task_model.specs.TaskOps.{task_ops}
use Rattle.task_model.specs.Laws.{IsProper}
use Rattle.normal_laws.specs.runs.runs.Laws.{IsCalm}
use Rattle.run_laws.specs.imitation.Imitations.{Original}
use Rattle.run_laws.specs.collecting.Settings.{Setting, IsSilent, IsOfTask}
use Rattle.collect_runs.specs.recorder.Recorders.{Recorder, IsRecorder}
use Rattle.collect_runs.specs.recorder.States.{lines_of}
use Rattle.collect_runs.specs.telling.Texts.{Texts, form, text, program_of}
use Rattle.collect_runs.specs.telling.Meetings.{pends}

-- The normal form has come to this world from its opening.
pub data IsMade (x : Texts) (opening : State (ℕ → Seat Task)) : World Task → Type 0 where
  Opened : IsMade x opening (world_of opening)
  Went : (w : World Task) (move : Move) → IsMade x opening w → can_move (program_of x) w move ≡ true → IsMade x opening (moved (program_of x) w move)

-- What is to be known of the normal form and of the recorder beside it: the recorder is the task behind the normal form's and keeps flags for them, and NOTE is its entry. The normal form opens so, and in each world to which it comes before its end a free task aborts nobody, calls an entry of a task, which the text has too, and raises nothing where it synchronizes.
pub record Collecting (x : Texts) : Type 0 where
  pub recorder : Recorder
  pub is_recorder : IsRecorder recorder x.note
  pub last : x.recorder ≡ suc recorder.last
  pub noted : owner_of (text x).numbers x.note ≡ x.recorder
  pub lawful : IsLawful task_ops IsProper
  pub silent : IsSilent task_ops (λ t. t.output)
  pub opening : State (ℕ → Seat Task)
  pub opens_so : IsOpening (numbered (program_of x)) opening
  pub proper : (t : ℕ) → t < x.recorder → IsProper (opening.seats t).local
  pub no_aborts : (w : World Task) → IsMade x opening w → w.ended ≡ false → (t v : ℕ) → (w.tasks t).standing ≡ Live → aborts v (offer_of (w.tasks t).local) ≡ false
  pub calls_tasks : (w : World Task) → IsMade x opening w → w.ended ≡ false → (t e : ℕ) (i : ℤ) → (w.tasks t).standing ≡ Live → calls_in is_any_form e i (offer_of (w.tasks t).local) ≡ true →
      IsOfTask x.recorder (owner_of (form x).numbers) x.note (owner_of (text x).numbers) e
  pub calm : (w : World Task) → IsMade x opening w → w.ended ≡ false → (t : ℕ) → (w.tasks t).standing ≡ Live → IsCalm (w.tasks t).local

-- the normal form, as the law takes it
abbrev pub original_of : {x : Texts} → Collecting x → Original
original_of {x} c = record {
  L = Task;
  p = program_of x;
  out = λ t. t.output;
  IsProper = IsProper;
  lawful = c.lawful;
  opening = c.opening;
  opens_so = c.opens_so;
  proper = c.proper;
  Known = IsMade x c.opening;
  known_first = Opened;
  known_on = λ w move made sound can. Went w move made can;
}

-- how it is collected
abbrev pub collected : {x : Texts} (c : Collecting x) → Setting (original_of c)
collected {x} c = record {
  note = x.note;
  owner = owner_of (text x).numbers;
  noted = c.noted;
  no_aborts = λ w come runs. c.no_aborts w come.known runs;
  calls_tasks = λ w come runs. c.calls_tasks w come.known runs;
  silent = c.silent;
  pends = pends;
  lines = lines_of c.recorder;
}
