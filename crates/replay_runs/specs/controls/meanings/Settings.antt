-- The normal form of a program as the law of replaying takes it: its tasks, entries and opening, and what is to be known of them (this project's rule).
use Rattle.std.specs.Prelude.{◌≡◌, ℕ, ℤ, ◌<◌, true, false, List, []}
use Rattle.event_machine.specs.declared.Standing.TheVariants.{Live}
use Rattle.event_machine.specs.declared.Event.{Event}
use Rattle.event_machine.specs.Offers.{calls_in, is_any_form}
use Rattle.event_machine.specs.States.{Seat, State}
use Rattle.event_machine.specs.Programs.{Program, numbered, by_number, IsOpening}
use Rattle.event_machine.specs.Worlds.{Move, world_of, aborts, AreMoves, world_after}
use Rattle.event_machine.specs.Lawful.{IsLawful}
use Rattle.event_machine.specs.progress.Known.{Known}
use Rattle.ada_tree.specs.PlainProgram.{PProgram}
use Rattle.ada_static_rules.specs.Refusals.{types_in}
use Rattle.syn_event.specs.Numbering.{owner_of}
use Rattle.task_model.specs.Tasks.{Task}
use Rattle.task_model.specs.Stands.{offer_of}
use Rattle.task_model.specs.TaskOps.{task_ops}
use Rattle.task_model.specs.Machine.{ProgramWithInputs, opening_of}
use Rattle.task_model.specs.Laws.{IsProper, program_in}
use Rattle.normal_laws.specs.structure.placed.Example.{passing}
use Rattle.normal_laws.specs.runs.runs.Laws.{IsCalm}
use Rattle.normal_laws.specs.existence.Laws.{IsLegalOriginal}
use Rattle.run_laws.specs.replaying.Copies.{Spots, IsNumbered, HasOwners}
use Rattle.run_laws.specs.replaying.Scripts.{IsProgress}
use Rattle.run_laws.specs.replaying.Rewritings.{Setting, Imitates}
use Rattle.run_laws.specs.telling.ByEvents.{by_events}
use Rattle.replay_model.specs.ReplayNumbers.{numbers_replayed}
use Rattle.replay_structure.specs.spots.Places.{text_spots}
use Rattle.replay_runs.specs.starts.Laws.{form_in}
use Rattle.replay_runs.specs.starts.Formals.{form_setting}
use Rattle.replay_runs.specs.controls.meanings.Copies.{MeetsCopy}

-- the normal form with inputs, its tasks as a program, and how it opens
abbrev pub form_setup : PProgram → List (List ℤ) → ProgramWithInputs
form_setup p inputs = record { program = (form_in p).program; types = types_in (form_in p).program; inputs = inputs }

abbrev pub form_program : PProgram → List (List ℤ) → Program Task
form_program p inputs = program_in (form_setup p inputs) (form_in p).numbers

abbrev pub form_opening : PProgram → List (List ℤ) → State (ℕ → Seat Task)
form_opening p inputs = by_number (form_program p inputs) (opening_of (form_setup p inputs) (form_in p).numbers).state

-- A free task of the normal form raises nothing where it synchronizes, and reads the normal form.
pub record IsCalmInForm (p : PProgram) (σ : Task) : Type 0 where
  pub calm : IsCalm σ
  pub setting : σ.setting ≡ form_setting p

-- What is to be known of the normal form.
pub record FormLaws (far : Spots) (p : PProgram) (inputs : List (List ℤ)) : Type 0 where
  pub lawful : IsLawful task_ops IsProper
  pub main : 0 < (form_program p inputs).size
  pub calls_tasks : (l : Task) (e : ℕ) (i : ℤ) → IsProper l → IsCalmInForm p l → calls_in is_any_form e i (offer_of l) ≡ true → owner_of (form_in p).numbers e < (form_program p inputs).size
  pub aborts_tasks : (l : Task) (v : ℕ) → IsProper l → IsCalmInForm p l → aborts v (offer_of l) ≡ true → v < (form_program p inputs).size
  pub opens_so : IsOpening (numbered (form_program p inputs)) (form_opening p inputs)
  pub proper : (t : ℕ) → t < (form_program p inputs).size → IsProper ((form_opening p inputs).seats t).local
  pub calm : (moves : List Move) → AreMoves (form_program p inputs) (world_of (form_opening p inputs)) moves →
      (world_after (form_program p inputs) (world_of (form_opening p inputs)) moves).ended ≡ false → (t : ℕ) → t < (form_program p inputs).size →
      ((world_after (form_program p inputs) (world_of (form_opening p inputs)) moves).tasks t).standing ≡ Live → IsCalmInForm p ((world_after (form_program p inputs) (world_of (form_opening p inputs)) moves).tasks t).local
  pub numbers : IsNumbered (text_spots far (form_in p))
  pub owners : HasOwners (owner_of (form_in p).numbers) (form_program p inputs).size (text_spots far (form_in p)) (owner_of (numbers_replayed (form_in p)))
  pub knows : IsProgress (form_program p inputs) (world_of (form_opening p inputs)) (by_events (owner_of (form_in p).numbers) (form_program p inputs).size)

-- Whatever the normal form does, each of its tasks reads it still.
abbrev pub KeepsReading : PProgram → List (List ℤ) → Type 0
KeepsReading p inputs =
    (moves : List Move) → AreMoves (form_program p inputs) (world_of (form_opening p inputs)) moves → (t : ℕ) → t < (form_program p inputs).size →
    ((world_after (form_program p inputs) (world_of (form_opening p inputs)) moves).tasks t).local.setting ≡ form_setting p

-- So it is of every program, whatever the inputs.
abbrev pub FormsKeepReading : Type 0
FormsKeepReading = (p : PProgram) (inputs : List (List ℤ)) → KeepsReading p inputs

-- Of a legal program all is known of the normal form, whatever numbers `far` has for what no text has, where no two of them are one.
abbrev pub LegalFormLaws : Type 0
LegalFormLaws = (far : Spots) (p : PProgram) (inputs : List (List ℤ)) → IsNumbered far → IsLegalOriginal p → FormLaws far p inputs

-- There are such numbers, and with them all is known of the normal form of each legal program, whatever the inputs.
abbrev pub LegalFormsAreKnown : Type 0
LegalFormsAreKnown = (far : Spots) × IsNumbered far × ((p : PProgram) (inputs : List (List ℤ)) → IsLegalOriginal p → FormLaws far p inputs)

-- A program is a legal one, and of its normal form all is known.
abbrev pub IsMet : Type 0
IsMet = IsLegalOriginal passing × ((far : Spots) × FormLaws far passing [])

-- The normal form with a sequence of its events, as the law takes it.
abbrev pub form_replayed : (far : Spots) (p : PProgram) (events : List Event) (inputs : List (List ℤ)) → FormLaws far p inputs → Setting
form_replayed far p events inputs k = record {
  L = Task;
  G = Known;
  p = form_program p inputs;
  out = λ t. t.output;
  IsProper = IsProper;
  lawful = k.lawful;
  Fine = IsCalmInForm p;
  main = k.main;
  calls_tasks = k.calls_tasks;
  aborts_tasks = k.aborts_tasks;
  opening = form_opening p inputs;
  opens_so = k.opens_so;
  proper = k.proper;
  fine = k.calm;
  n = text_spots far (form_in p);
  numbers = k.numbers;
  owner = owner_of (numbers_replayed (form_in p));
  owners = k.owners;
  progress = by_events (owner_of (form_in p).numbers) (form_program p inputs).size;
  knows = k.knows;
  s = events;
}

-- Where these are known, the tasks of the replay text of a legal program do what the law asks of them: each imitates the law's copy of the task of
-- the normal form.
abbrev pub LegalImitates : Type 0
LegalImitates =
    (far : Spots) (p : PProgram) (events : List Event) (inputs : List (List ℤ)) → IsLegalOriginal p → (k : FormLaws far p inputs) →
    Imitates (form_replayed far p events inputs k) task_ops (λ κ. κ.output) (MeetsCopy far p events inputs)
