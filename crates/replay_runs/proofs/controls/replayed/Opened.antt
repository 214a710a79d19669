-- The replay text of a legal program opens as the law of replaying asks, and so the law controls it.
use Rattle.std.proofs.Common.{◌≡◌, ℕ, zero, suc, ℤ, ◌<◌, ◌≤◌, List, length, refl, sym, ap, ◌∙◌, subst, arith}
use Rattle.event_machine.specs.declared.Event.{Event}
use Rattle.event_machine.specs.States.{Seat, State}
use Rattle.event_machine.specs.Programs.{Program, IsOpening}
use Rattle.event_machine.specs.progress.Known.{known_at_start}
use Rattle.ada_tree.specs.PlainProgram.{PProgram}
use Rattle.syn_event.specs.Numbering.{owner_of}
use Rattle.task_model.specs.Tasks.{Task}
use Rattle.task_model.specs.Stands.{steps_at, stepped}
use Rattle.task_model.specs.Starting.{started}
use Rattle.task_model.specs.TaskOps.{task_ops}
use Rattle.task_model.specs.Machine.{opening_of, rules_of}
use Rattle.task_model.proofs.Following.{opens}
use Rattle.task_laws.proofs.invariants.Beginning.{first_is}
use Rattle.task_laws.proofs.statements.Blocks.{tasks_start_outside}
use Rattle.normal_laws.specs.runs.floors.Preludes as prelude
use Rattle.normal_laws.specs.runs.forms.Normalisable.{numbers_of}
use Rattle.normal_laws.specs.existence.Laws.{IsLegalOriginal}
use Rattle.normal_laws.proofs.existence.statements.Normal.{legal_tasks_name_simply}
use Rattle.run_laws.specs.imitation.Shown as shown
use Rattle.run_laws.specs.replaying.Permits.{Op}
use Rattle.run_laws.specs.replaying.Scripts.{script}
use Rattle.run_laws.specs.replaying.Copies.{Spots, Copy, Based, Controlling}
use Rattle.run_laws.specs.replaying.Rewritings.{Setting, ReachesIn, Reaches, Imitates, OpensSo, left}
use Rattle.run_laws.specs.replaying.Laws.{Controlled}
use Rattle.run_laws.specs.telling.ByEvents.{by_events}
use Rattle.run_laws.proofs.replaying.Tracking.{replays}
use Rattle.run_laws.proofs.replaying.Continuing.{goes_far}
use Rattle.run_laws.proofs.replaying.Quiet.{ends_whole}
use Rattle.replay_structure.specs.legal.Laws.{text_for}
use Rattle.replay_structure.specs.legal.known.Laws.{AreKnown}
use Rattle.replay_runs.specs.starts.Laws.{form_in}
use Rattle.replay_runs.specs.starts.Formals.{form_setting, text_setting}
use Rattle.table_law.specs.States.{LeadsTo}
use Rattle.replay_runs.specs.controls.Laws.{control_number}
use Rattle.replay_runs.specs.controls.Imitating.{LeadsInto, law_script}
use Rattle.replay_runs.specs.controls.meanings.Pairs.{IsOfForm, IsPair}
use Rattle.replay_runs.specs.controls.meanings.Copies.{MeetsCopy}
use Rattle.replay_runs.specs.controls.meanings.Settings.{form_setup, form_program, form_opening, FormLaws, form_replayed}
use Rattle.replay_runs.specs.controls.replayed.Replaying.{starting}
use Rattle.replay_runs.proofs.controls.Starts.{legal_starts_there}
use Rattle.replay_runs.proofs.controls.Imitating.{legal_starts_with_script}
use Rattle.replay_runs.proofs.controls.Offers.{as-many-numbers}
use Rattle.replay_runs.proofs.controls.translated.Starting.{legal_starts_alike}
use Rattle.replay_runs.proofs.controls.translated.Bodies.{legal_exits_leave_at_start}
use Rattle.replay_runs.proofs.controls.formed.Bodies.{legal_tasks_are_formed}
use Rattle.replay_runs.proofs.controls.indices.Joined.{legal_units_start}
use Rattle.replay_runs.proofs.controls.meanings.Pairs.{left_there, pairs_come}
use Rattle.replay_runs.proofs.controls.meanings.Imitating.{legal_imitates}
use Rattle.replay_runs.proofs.controls.replayed.Numbers.{text_setup, text_numbers, text_opened, text-starts-so, form-tasks, text-tasks, text-size}

-- ---- a program that opens as the law asks

-- The law of replaying controls each program that opens as it asks, and has as many tasks as it asks, where the tasks imitate its copies.
pub opened-is-controlled : (x : Setting) (q : Program Task) (out : Task → List ℕ) (Meets : Task → Copy x.L → Type 0) (at : State (ℕ → Seat Task)) →
    q.owner ≡ x.owner → q.size ≡ suc (suc x.p.size) → Imitates x q.ops out Meets → OpensSo x q.ops out Meets at → Controlled x q out at
opened-is-controlled x q out Meets at same_owner same_size imitates opens_so =
    subst (λ (r : Program Task). Controlled x r out at) (λ i. record { ops = q.ops; owner = sym same_owner i; size = sym same_size i })
    (record {
      replays = replays x q.ops out Meets imitates at opens_so;
      goes_far = goes_far x q.ops out Meets imitates at opens_so;
      ends_whole = ends_whole x q.ops out Meets imitates at opens_so;
    })

-- ---- local steps at the start

module _ (x : Setting) (Meets : Task → Copy x.L → Type 0) where
  abbrev ComesTo : Task → Copy x.L → Type 0
  ComesTo κ m = Reaches x task_ops (λ u. u.output) Meets κ m

  -- what a task reaches quietly it comes to
  pub comes-on : (m : Copy x.L) (κ κ' : Task) → prelude.Reaches κ κ' → ComesTo κ' m → ComesTo κ m
  comes-on m κ κ' (prelude.reaches_here _) r = r
  comes-on m κ κ' (prelude.reaches_by _ _ can silent more) r = let q = comes-on m (stepped κ) κ' more r in (suc q.0, (ap steps_at can, silent, q.1))

  -- after so many steps of the one it meets the state
  leads-in : (m : Copy x.L) (i : ℕ) (κ κ' : Task) → LeadsTo i κ κ' → Meets κ' m → ReachesIn x task_ops (λ u. u.output) Meets i κ m
  leads-in m zero κ κ' e meets = subst (λ z. Meets z m) (sym e) meets
  leads-in m (suc i) κ κ' l meets = (l.0, l.1, leads-in m i (stepped κ) κ' l.2 meets)

  -- so it does with what it leads into
  pub comes-into : (m : Copy x.L) (κ : Task) → LeadsInto (λ u. Meets u m) κ → ComesTo κ m
  comes-into m κ l = (l.0, leads-in m l.0 κ l.1 l.2 l.3)

-- ---- the text

module _ (far : Spots) (p : PProgram) (events : List Event) (inputs : List (List ℤ)) (h : IsLegalOriginal p) (known : AreKnown p events) (k : FormLaws far p inputs) where
  abbrev x : Setting
  x = form_replayed far p events inputs k

  abbrev size : ℕ
  size = (form_program p inputs).size

  abbrev out : Task → List ℕ
  out κ = κ.output

  abbrev Meets : Task → Copy Task → Type 0
  Meets = MeetsCopy far p events inputs

  abbrev text : shown.Opened Task
  text = text_opened p events inputs

  -- a task of the text as it starts
  text-first : (t : ℕ) → t < suc (suc size) → (text.at.seats t).local ≡ started (text_setting p events) inputs t
  text-first t l =
      ap (λ (s : Seat Task). s.local) (first_is (text_setup p events inputs) (text_numbers p) (length (text_numbers p).tasks) t
      (let a = text-tasks p in let b = form-tasks p inputs in omega (arith, a, b, l)))

  -- a task of the normal form as it starts
  form-first : (t : ℕ) → t < size → ((form_opening p inputs).seats t).local ≡ started (form_setting p) inputs t
  form-first t l = ap (λ (s : Seat Task). s.local) (first_is (form_setup p inputs) (form_in p).numbers (length (form_in p).numbers.tasks) t (let b = form-tasks p inputs in omega (arith, b, l)))

  -- ---- tasks of the normal form

  -- a task of the normal form starts as one of it
  pub starts-of-form : (t : ℕ) → t < size → IsOfForm p t (started (form_setting p) inputs t)
  starts-of-form t l =
      let b = form-tasks p inputs in
      let c = as-many-numbers p h in
      record {
        there = omega (arith, b, l);
        number = refl;
        left = tasks_start_outside (form_setting p) inputs t;
        formed = legal_tasks_are_formed p h inputs t;
        exits = legal_exits_leave_at_start p h inputs t;
        simply = legal_tasks_name_simply p h inputs t (omega (arith, b, c, l));
        variables = legal_units_start p h inputs t;
      }

  -- its image comes quietly to where it is based on it
  starts-based : (t : ℕ) → t < size → Reaches x task_ops out Meets (started (text_setting p events) inputs t) (Based t (started (form_setting p) inputs t))
  starts-based t l =
      let σ : Task = started (form_setting p) inputs t in
      let κ : Task = started (text_setting p events) inputs t in
      let own = starts-of-form t l in
      let s = legal_starts_alike p events h inputs t own.there in
      let pair : IsPair p events t σ s.reached = record { own = own; alike = s.alike; left = left_there κ s.reached s.reach (tasks_start_outside (text_setting p events) inputs t) } in
      let c = pairs_come p events t σ s.reached pair in
      comes-on x Meets (Based t σ) κ s.reached s.reach (comes-on x Meets (Based t σ) s.reached c.reached c.reach (0, c.based))

  -- ---- the two tasks that are added

  -- the law's script is the same for the normal form's numbers
  script-left : law_script p events ≡ left x x.progress.start events
  script-left =
      ap (λ n. script (by_events (owner_of (numbers_of p)) n) (owner_of (numbers_of p)) (known_at_start n) events)
      (as-many-numbers p h ∙ sym (form-tasks p inputs))

  -- the controller starts before the script that the law asks for
  starts-script : Reaches x task_ops out Meets (started (text_setting p events) inputs (control_number p)) (Controlling (left x x.progress.start events))
  starts-script =
      subst (λ (ops : List Op). Reaches x task_ops out Meets (started (text_setting p events) inputs (control_number p)) (Controlling ops)) script-left
      (comes-into x Meets (Controlling (law_script p events)) (started (text_setting p events) inputs (control_number p)) (legal_starts_with_script p events inputs h known))

  -- ---- the opening

  -- the machine's opening of the text
  opening : IsOpening (rules_of (text_numbers p)) (opening_of (text_setup p events inputs) (text_numbers p)).state
  opening = opens (text_setup p events inputs) (text_numbers p)

  -- the text opens by the numbers that the rewriting gives it as the law asks
  text-opens-so : OpensSo x task_ops out Meets text.at
  text-opens-so = record {
    line = opening.line;
    ended = opening.ended;
    standing = λ t l. opening.live t (subst (λ n. t < n) (sym (text-size p events inputs)) l);
    beyond = λ t l. opening.beyond t (subst (λ n. n ≤ t) (sym (text-size p events inputs)) l);
    tasks = λ t l.
        subst (λ κ. Reaches x task_ops out Meets κ (Based t ((form_opening p inputs).seats t).local)) (sym (text-first t (omega (arith, l))))
        (subst (λ σ. Reaches x task_ops out Meets (started (text_setting p events) inputs t) (Based t σ)) (sym (form-first t l)) (starts-based t l));
    controls =
        subst (λ κ. Reaches x task_ops out Meets κ (Controlling (left x x.progress.start events)))
        (sym (text-first size (omega arith) ∙ ap (λ n. started (text_setting p events) inputs n) (form-tasks p inputs))) starts-script;
    idles = (0, text-first (suc size) (omega arith) ∙ ap (λ n. started (text_setting p events) inputs (suc n)) (form-tasks p inputs) ∙ (legal_starts_there p events inputs h).idle);
  }

  -- The text of a legal program and of known events opens as the law of replaying asks.
  pub legal-text-opens-so : OpensSo x task_ops out Meets (starting (text_for p events) inputs).at
  legal-text-opens-so = subst (λ (o : shown.Opened Task). OpensSo x task_ops out Meets o.at) (sym (text-starts-so p events inputs h)) text-opens-so

  -- By the numbers that the rewriting gives it, it is controlled.
  pub text-is-controlled : Controlled x text.program out text.at
  text-is-controlled = opened-is-controlled x text.program out Meets text.at refl (text-size p events inputs) (legal_imitates far p events inputs h k) text-opens-so

  -- So it is by its own.
  pub legal-text-is-controlled : Controlled x (starting (text_for p events) inputs).program out (starting (text_for p events) inputs).at
  legal-text-is-controlled = subst (λ (o : shown.Opened Task). Controlled x o.program out o.at) (sym (text-starts-so p events inputs h)) text-is-controlled
