-- The collecting text with abort statements of a legal program collects.
use Rattle.std.proofs.Common.{◌≡◌, ◌≤◌, ◌<◌, ◌^◌, ◌+◌, arith, ℕ, suc, ℤ, List, [], length, refl, sym, ap, subst, ◌∙◌}
use Rattle.std.proofs.lemmas.Fmt.{decimal_injective}
use Rattle.std.proofs.lemmas.List.{length-append}
use Rattle.event_machine.specs.States.{Seat, State}
use Rattle.event_machine.specs.Programs.{IsOpening}
use Rattle.ada_tree.specs.PlainProgram.{PProgram}
use Rattle.task_model.specs.Machine.{ProgramWithInputs, rules_of, opening_of}
use Rattle.task_model.specs.Tasks.{Task}
use Rattle.task_model.specs.Starting.{started}
use Rattle.task_model.proofs.Following.{opens}
use Rattle.task_laws.proofs.statements.Blocks.{tasks_start_outside}
use Rattle.task_laws.proofs.invariants.Beginning.{length_first, first_is}
use Rattle.normal_laws.specs.existence.Laws.{IsLegalOriginal}
use Rattle.normal_laws.proofs.existence.statements.Normal.{legal_tasks_name_simply}
use Rattle.replay_model.specs.ReplayTree.{last_task}
use Rattle.replay_runs.specs.starts.Laws.{form_in}
use Rattle.replay_runs.specs.starts.Formals.{form_setting}
use Rattle.replay_runs.specs.controls.meanings.Settings.{form_setup, form_opening}
use Rattle.replay_runs.specs.controls.meanings.Pairs.{IsOfForm}
use Rattle.replay_runs.proofs.controls.Offers.{as-many-numbers}
use Rattle.replay_runs.proofs.controls.translated.Bodies.{legal_exits_leave_at_start}
use Rattle.replay_runs.proofs.controls.formed.Bodies.{legal_tasks_are_formed}
use Rattle.replay_runs.proofs.controls.indices.Joined.{legal_units_start}
use Rattle.replay_runs.proofs.controls.meanings.Pairs.{left_there}
use Rattle.collect_runs.specs.telling.Meetings.{ComesTo}
use Rattle.collect_runs.proofs.telling.Noting.{later}
use Rattle.collect_runs.proofs.forms.Finding.{few_tasks}
use Rattle.collect_model.specs.aborts.Places.{most_places}
use Rattle.collect_structure.proofs.aborts.declares_once.Few.{legal-has-few}
use Rattle.collect_runs.specs.aborts.recorder.States.{starting}
use Rattle.collect_runs.specs.aborts.translation.Floors.{keep_none}
use Rattle.collect_runs.specs.aborts.telling.Texts.{Texts}
use Rattle.collect_runs.specs.aborts.telling.Forms.{Form}
use Rattle.collect_runs.specs.aborts.telling.Meetings.{IsPair, IsBased}
use Rattle.collect_runs.specs.aborts.telling.Laws.{TellsAlike}
use Rattle.collect_runs.specs.aborts.imitating.Copies.{OpensText}
use Rattle.collect_runs.proofs.aborts.telling.Telling.{tells_alike}
use Rattle.collect_runs.proofs.aborts.imitating.Imitating.{texts_collect}
use Rattle.collect_runs.specs.aborts.starts.Texts.{abort_setting, recorder_number}
use Rattle.collect_runs.specs.aborts.forms.Texts.{names_kept, texts_of}
use Rattle.collect_runs.specs.aborts.forms.Tasks.{HasLikeness, IsOfText}
use Rattle.collect_runs.specs.aborts.forms.Laws.{LegalTextsTell, LegalTextsCollect, IsCollected, text_setup, text_opening, TextCollects}
use Rattle.collect_runs.proofs.aborts.forms.Tables.{AreCounted}
use Rattle.collect_runs.proofs.aborts.forms.Finding.{legal_can_tell}
use Rattle.collect_runs.proofs.aborts.forms.Formals.{legal_formals}
use Rattle.collect_runs.proofs.aborts.forms.Bodies.{legal_records}
use Rattle.collect_runs.proofs.aborts.forms.Starting.{legal_starts}
use Rattle.collect_runs.proofs.aborts.forms.Waits.{starts-few}
use Rattle.collect_runs.proofs.aborts.forms.Joined.{legal_form}
use Rattle.collect_runs.proofs.aborts.forms.Known.{legal_forms_are_collected}
use Rattle.collect_runs.proofs.aborts.forms.Alike.{legal_has_likeness}

-- the places of a unit can be counted
counted : (p : PProgram) → IsLegalOriginal p → AreCounted (form_in p).program
counted p h n m l k e =
    let few : most_places (form_in p).program < 2 ^ 64 = legal-has-few p h in
    decimal_injective n m (omega (arith, l, few)) (omega (arith, k, few)) e

pub legal_texts_tell : LegalTextsTell
legal_texts_tell p h = record { few = few_tasks p h; can = legal_can_tell p h (counted p h); formals = legal_formals p h }

module _ (p : PProgram) (inputs : List (List ℤ)) (h : IsLegalOriginal p) (l : HasLikeness p) where
  abbrev x : Texts
  x = texts_of p (names_kept p)

  abbrev f : Form (texts_of p (names_kept p))
  f = legal_form p (names_kept p) h (legal_texts_tell p h) l

  -- a task of the normal form starts as one of it
  starts-of-form : (t : ℕ) → t ≤ last_task (form_in p).numbers → IsOfForm p t (started (form_setting p) inputs t)
  starts-of-form t m =
      let c = as-many-numbers p h in
      record {
        there = m;
        number = refl;
        left = tasks_start_outside (form_setting p) inputs t;
        formed = legal_tasks_are_formed p h inputs t;
        exits = legal_exits_leave_at_start p h inputs t;
        simply = legal_tasks_name_simply p h inputs t (omega (arith, c, m));
        variables = legal_units_start p h inputs t;
      }

  starts-so : (t : ℕ) → t ≤ last_task (form_in p).numbers → IsOfText l t (started (form_setting p) inputs t)
  starts-so t m = record { own = starts-of-form t m; few = starts-few p h inputs t; settled = l.starts inputs t m }

  tells : TellsAlike f
  tells = tells_alike x (legal_texts_tell p h).can f

  -- its image comes to where it is based on it
  starts-based : (t : ℕ) → t ≤ last_task (form_in p).numbers → ComesTo (IsBased f t (started (form_setting p) inputs t)) (started (abort_setting p) inputs t)
  starts-based t m =
      let σ : Task = started (form_setting p) inputs t in
      let κ : Task = started (abort_setting p) inputs t in
      let s = legal_starts p h (counted p h) inputs t m in
      let so : IsOfText l t σ = starts-so t m in
      let pair : IsPair f t σ s.starts.reached = record {
        opened = [];
        like = σ;
        is_like = f.like_self t σ so;
        paired = record {
          own = so;
          alike = s.starts.alike;
          left = left_there κ s.starts.reached s.starts.reach (tasks_start_outside
              (abort_setting p) inputs t);
          places = s.places;
          keeps = keep_none;
        };
      } in
      later s.starts.reach (tells.comes t σ s.starts.reached pair)

  abbrev setup : ProgramWithInputs
  setup = text_setup p inputs

  -- a task of the text as it starts
  text-first : (t : ℕ) → t < length (abort_setting p).numbers.tasks → ((text_opening p inputs).seats t).local ≡ started (abort_setting p) inputs t
  text-first t m = ap (λ (s : Seat Task). s.local) (first_is setup (abort_setting p).numbers (length (abort_setting p).numbers.tasks) t m)

  -- a task of the normal form as it starts
  form-first : (t : ℕ) → t ≤ last_task (form_in p).numbers → ((form_opening p inputs).seats t).local ≡ started (form_setting p) inputs t
  form-first t m = ap (λ (s : Seat Task). s.local) (first_is (form_setup p inputs) (form_in p).numbers (length (form_in p).numbers.tasks) t (omega (arith, m)))

  many : length (abort_setting p).numbers.tasks ≡ suc (recorder_number p)
  many = length-append (form_in p).numbers.tasks _ ∙ (let e : recorder_number p + 1 ≡ suc (recorder_number p) = omega arith in e)

  opening : IsOpening (rules_of (abort_setting p).numbers) (opening_of setup (abort_setting p).numbers).state
  opening = opens setup (abort_setting p).numbers

  size : length (opening_of setup (abort_setting p).numbers).state.seats ≡ suc (recorder_number p)
  size = length_first setup (abort_setting p).numbers (length (abort_setting p).numbers.tasks) ∙ many

  module _ (known : IsCollected p (names_kept p) inputs) where
    opens-text : OpensText f known.known (text_opening p inputs)
    opens-text = record {
      line = opening.line;
      ended = opening.ended;
      standing = λ t m. opening.live t (subst (λ n. t < n) (sym size) m);
      beyond = λ t m. opening.beyond t (subst (λ n. n ≤ t) (sym size) m);
      tasks = λ t m.
          let within : t ≤ last_task (form_in p).numbers = omega (arith, m) in
          subst (λ κ. ComesTo (IsBased f t (known.known.opening.seats t).local) κ) (sym (text-first t (omega (arith, m, many))))
          (subst (λ (s : State (ℕ → Seat Task)). ComesTo (IsBased f t (s.seats t).local) (started (abort_setting p) inputs t)) (sym known.opening)
          (subst (λ σ. ComesTo (IsBased f t σ) (started (abort_setting p) inputs t)) (sym (form-first t within)) (starts-based t within)));
      recorder = text-first (recorder_number p) (omega (arith, many)) ∙ legal_records p h inputs ∙ sym (ap starting known.recorder);
    }

  pub collects : TextCollects p (names_kept p) inputs
  collects =
      let known = legal_forms_are_collected p inputs h in
      record { collected = known; collects = texts_collect f known.known tells (text_opening p inputs) (opens-text known) }

pub legal_texts_collect : LegalTextsCollect
legal_texts_collect p inputs h = collects p inputs h (legal_has_likeness p h)
