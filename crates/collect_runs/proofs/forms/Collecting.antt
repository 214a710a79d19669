-- The collecting text of a legal program collects.
use Rattle.std.proofs.Common.{◌≡◌, ◌≤◌, ◌<◌, ◌+◌, arith, ℕ, suc, ℤ, Bool, List, length, None, refl, sym, ap, subst, ◌∙◌}
use Rattle.std.proofs.lemmas.List.{length-append}
use Rattle.event_machine.specs.States.{Seat, State}
use Rattle.event_machine.specs.Programs.{IsOpening}
use Rattle.ada_tree.specs.PlainProgram.{PProgram}
use Rattle.ada_static_rules.specs.Refusals.{types_in}
use Rattle.task_model.specs.Machine.{ProgramWithInputs, rules_of, opening_of}
use Rattle.task_model.specs.Tasks.{Task}
use Rattle.task_model.specs.Starting.{started}
use Rattle.task_model.proofs.Following.{opens}
use Rattle.task_laws.proofs.statements.Blocks.{tasks_start_outside}
use Rattle.task_laws.proofs.invariants.Beginning.{length_first, first_is}
use Rattle.normal_laws.specs.existence.Laws.{IsLegalOriginal}
use Rattle.normal_laws.proofs.existence.statements.Normal.{legal_tasks_name_simply}
use Rattle.replay_model.specs.ReplayTree.{last_task}
use Rattle.replay_runs.specs.starts.Laws.{form_in}
use Rattle.replay_runs.specs.starts.Formals.{form_setting}
use Rattle.replay_runs.specs.controls.meanings.Settings.{form_setup, form_opening}
use Rattle.replay_runs.specs.controls.meanings.Pairs.{IsOfForm}
use Rattle.replay_runs.proofs.controls.Offers.{as-many-numbers}
use Rattle.replay_runs.proofs.controls.translated.Bodies.{legal_exits_leave_at_start}
use Rattle.replay_runs.proofs.controls.formed.Bodies.{legal_tasks_are_formed}
use Rattle.replay_runs.proofs.controls.indices.Joined.{legal_units_start}
use Rattle.replay_runs.proofs.controls.meanings.Pairs.{left_there}
use Rattle.collect_model.specs.FirstAbort.{first_abort}
use Rattle.collect_runs.specs.recorder.States.{starting}
use Rattle.collect_runs.specs.telling.Texts.{Texts}
use Rattle.collect_runs.specs.telling.Forms.{Form}
use Rattle.collect_runs.specs.telling.Meetings.{ComesTo, IsPair, IsBased}
use Rattle.collect_runs.specs.telling.Laws.{TellsAlike}
use Rattle.collect_runs.specs.imitating.Copies.{OpensText}
use Rattle.collect_runs.specs.starts.Texts.{text_for, text_setting, recorder_number, texts_of}
use Rattle.collect_runs.specs.starts.Laws.{IsCollected}
use Rattle.collect_runs.specs.forms.Laws.{IsText, text_opening, TextCollects, LegalTextsTell, LegalTextsCollect}
use Rattle.collect_runs.proofs.telling.Noting.{later}
use Rattle.collect_runs.proofs.telling.Acting.{tells_alike}
use Rattle.collect_runs.proofs.imitating.Imitating.{texts_collect}
use Rattle.collect_runs.proofs.starts.Legal.{legal_forms_are_collected}
use Rattle.collect_runs.proofs.starts.Recorder.{legal_is_recorder}
use Rattle.collect_runs.proofs.forms.Forming.{legal_form}
use Rattle.collect_runs.proofs.forms.Tables.{kept_for}
use Rattle.collect_runs.proofs.forms.Finding.{legal_can_tell, few_tasks}
use Rattle.collect_runs.proofs.forms.Formals.{legal_formals}
use Rattle.collect_runs.proofs.forms.Bodies.{legal_records}
use Rattle.collect_runs.proofs.forms.Starting.{legal_starts}

module _ (p : PProgram) (kept : ℕ → Bool) (inputs : List (List ℤ)) (h : IsLegalOriginal p) (text : IsText p kept inputs) where
  abbrev x : Texts
  x = texts_of p kept

  abbrev f : Form (texts_of p kept)
  f = legal_form p kept h text.told

  tells : TellsAlike f
  tells = tells_alike x text.told.can f

  -- a task of the normal form starts as one of it
  starts-of-form : (t : ℕ) → t ≤ last_task (form_in p).numbers → IsOfForm p t (started (form_setting p) inputs t)
  starts-of-form t l =
      let c = as-many-numbers p h in
      record {
        there = l;
        number = refl;
        left = tasks_start_outside (form_setting p) inputs t;
        formed = legal_tasks_are_formed p h inputs t;
        exits = legal_exits_leave_at_start p h inputs t;
        simply = legal_tasks_name_simply p h inputs t (omega (arith, c, l));
        variables = legal_units_start p h inputs t;
      }

  -- its image comes to where it is based on it
  starts-based : (t : ℕ) → t ≤ last_task (form_in p).numbers → ComesTo (IsBased f t (started (form_setting p) inputs t)) (started (text_setting p) inputs t)
  starts-based t l =
      let σ : Task = started (form_setting p) inputs t in
      let κ : Task = started (text_setting p) inputs t in
      let s = text.starts t l in
      let pair : IsPair f t σ s.reached = record { own = starts-of-form t l; alike = s.alike; left = left_there κ s.reached s.reach (tasks_start_outside (text_setting p) inputs t) } in
      later s.reach (tells.comes t σ s.reached pair)

  abbrev setup : ProgramWithInputs
  setup = record { program = text_for p; types = types_in (text_for p); inputs = inputs }

  -- a task of the text as it starts
  text-first : (t : ℕ) → t < length (text_setting p).numbers.tasks → ((text_opening p inputs).seats t).local ≡ started (text_setting p) inputs t
  text-first t l = ap (λ (s : Seat Task). s.local) (first_is setup (text_setting p).numbers (length (text_setting p).numbers.tasks) t l)

  -- a task of the normal form as it starts
  form-first : (t : ℕ) → t ≤ last_task (form_in p).numbers → ((form_opening p inputs).seats t).local ≡ started (form_setting p) inputs t
  form-first t l = ap (λ (s : Seat Task). s.local) (first_is (form_setup p inputs) (form_in p).numbers (length (form_in p).numbers.tasks) t (omega (arith, l)))

  many : length (text_setting p).numbers.tasks ≡ suc (recorder_number p)
  many = length-append (form_in p).numbers.tasks _ ∙ (let e : recorder_number p + 1 ≡ suc (recorder_number p) = omega arith in e)

  opening : IsOpening (rules_of (text_setting p).numbers) (opening_of setup (text_setting p).numbers).state
  opening = opens setup (text_setting p).numbers

  size : length (opening_of setup (text_setting p).numbers).state.seats ≡ suc (recorder_number p)
  size = length_first setup (text_setting p).numbers (length (text_setting p).numbers.tasks) ∙ many

  module _ (known : IsCollected p kept inputs) where
    opens-text : OpensText f known.known (text_opening p inputs)
    opens-text = record {
      line = opening.line;
      ended = opening.ended;
      standing = λ t l. opening.live t (subst (λ n. t < n) (sym size) l);
      beyond = λ t l. opening.beyond t (subst (λ n. n ≤ t) (sym size) l);
      tasks = λ t l.
          let few : t ≤ last_task (form_in p).numbers = omega (arith, l) in
          subst (λ κ. ComesTo (IsBased f t (known.known.opening.seats t).local) κ) (sym (text-first t (omega (arith, l, many))))
          (subst (λ (s : State (ℕ → Seat Task)). ComesTo (IsBased f t (s.seats t).local) (started (text_setting p) inputs t)) (sym known.opening)
          (subst (λ σ. ComesTo (IsBased f t σ) (started (text_setting p) inputs t)) (sym (form-first t few)) (starts-based t few)));
      recorder = text-first (recorder_number p) (omega (arith, many)) ∙ text.records ∙ sym (ap starting known.recorder);
    }

-- with what is asked of the text
collects-as-asked : (p : PProgram) (kept : ℕ → Bool) (inputs : List (List ℤ)) → IsLegalOriginal p → first_abort p ≡ None → IsText p kept inputs → TextCollects p kept inputs
collects-as-asked p kept inputs h none text =
    let known = legal_forms_are_collected p kept inputs h none text.recorder in
    record {
      collected = known;
      collects = texts_collect (f p kept inputs h text) known.known (tells p kept inputs h text) (text_opening p inputs) (opens-text p kept inputs h text known);
    }

pub legal_texts_tell : LegalTextsTell
legal_texts_tell p h = record { few = few_tasks p h; can = legal_can_tell p h; formals = legal_formals p h }

pub legal_texts_collect : LegalTextsCollect
legal_texts_collect p inputs h none =
    collects-as-asked p (kept_for p) inputs h none
    record { told = legal_texts_tell p h; recorder = legal_is_recorder p inputs h; starts = legal_starts p h inputs; records = legal_records p h inputs }
