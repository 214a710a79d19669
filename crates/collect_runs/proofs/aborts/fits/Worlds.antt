-- What is kept of the tasks of a legal program's normal form, in each world to which it comes: values of formals, variables, and calls and aborts that fit.
use Rattle.std.proofs.Common.{◌≡◌, ℕ, ℤ, ◌<◌, ◌≤◌, true, false, List, [], ◌∷◌, length, sym, ap, subst, ◌∙◌, true≢false, ⊎_elim, arith}
use Rattle.std.proofs.lemmas.Bool.{cases_lt}
use Rattle.event_machine.specs.States.{Seat, State, is_completed}
use Rattle.event_machine.specs.Programs.{Program, numbered, IsOpening}
use Rattle.event_machine.specs.Soundness.{IsSound}
use Rattle.event_machine.specs.Worlds.{World, Move, world_of, can_move, moved}
use Rattle.event_machine.proofs.Extending.{run_sound}
use Rattle.event_machine.proofs.Simulating.{sound_still}
use Rattle.event_machine.proofs.Sound.{sound_moved}
use Rattle.ada_tree.specs.declared.naming.Span.{Span}
use Rattle.ada_tree.specs.PlainStmt.{PCallee, SAbort}
use Rattle.ada_tree.specs.PlainProgram.{PProgram}
use Rattle.syn_event.specs.Numbering.{Numbering, owner_of}
use Rattle.task_model.specs.Tasks.{Task}
use Rattle.task_model.specs.TaskOps.{task_ops}
use Rattle.task_model.specs.Machine.{ProgramWithInputs}
use Rattle.task_model.specs.Laws.{IsProper}
use Rattle.task_model.proofs.Lawful.{lawful}
use Rattle.task_model.proofs.Following as following
use Rattle.task_laws.specs.invariants.Worlds.{IsKept}
use Rattle.task_laws.specs.statements.Each.{Loops, InBody, HoldsOf}
use Rattle.task_laws.specs.statements.Laws.{StaysSo}
use Rattle.task_laws.proofs.invariants.Beginning.{length_first, first_is, kept_first, kept_on}
use Rattle.task_laws.proofs.statements.Carried.{starts-so, stays-so}
use Rattle.normal_laws.specs.runs.forms.Normalisable.{numbers_of}
use Rattle.normal_laws.specs.existence.Laws.{IsLegalOriginal}
use Rattle.normal_laws.proofs.existence.Joined.{legal_is_normal}
use Rattle.replay_runs.specs.starts.Laws.{form_in}
use Rattle.replay_runs.specs.starts.Formals.{form_setting}
use Rattle.replay_runs.specs.controls.indices.Laws.{KeepsUnit, StaysKept}
use Rattle.replay_runs.specs.controls.meanings.Settings.{form_setup, form_program, form_opening}
use Rattle.replay_runs.proofs.controls.Offers.{as-many-numbers}
use Rattle.replay_runs.proofs.controls.indices.Joined.{legal_units_start, units_stay}
use Rattle.table_law.proofs.runs.Keeping.{AllKeep, all_keep}
use Rattle.collect_runs.specs.telling.Texts.{Texts, program_of}
use Rattle.collect_runs.specs.imitating.Settings.{IsMade, Opened, Went}
use Rattle.collect_runs.proofs.starts.Worlds.{HasMoves, has-moves}
use Rattle.collect_runs.specs.aborts.starts.Texts.{recorder_number}
use Rattle.collect_runs.proofs.aborts.fits.Fitting.{IsFit, made-fit}
use Rattle.collect_runs.proofs.aborts.fits.WellMade.{form-is-well-made}

-- the normal form as a program, with as many tasks as are in front of the recorder
abbrev pub form_by_number : PProgram → Program Task
form_by_number p = record { ops = task_ops; owner = owner_of (form_in p).numbers; size = recorder_number p }

-- ---- one task

-- The task of a number that the program has keeps its unit's variables, and its calls and aborts fit.
pub record IsFitting (p : PProgram) (t : ℕ) (σ : Task) : Type 0 where
  pub unit : KeepsUnit p t σ
  pub fits : HoldsOf (IsFit p t) σ

-- an abort statement without its first name names tasks beside main, where the whole does
less-fits : (p : PProgram) (t : ℕ) (loops : Loops) (c d : PCallee) (cs : List PCallee) (s : Span) → IsFit p t loops (SAbort (c ∷ d ∷ cs) s) →
    IsFit p t loops (SAbort (d ∷ cs) s)
less-fits p t loops c d cs s h = h.1

-- it is so of tasks of the program
abbrev Fits : PProgram → ℕ → Task → Type 0
Fits p t σ = t < length (numbers_of p).tasks → IsFitting p t σ

-- after each operation its unit's variables are kept, and its statements fit
unit-so : (p : PProgram) (t : ℕ) (σ : Task) → IsFitting p t σ → StaysKept p t σ
unit-so p t σ h = units_stay p t σ h.unit

fits-so : (p : PProgram) (t : ℕ) (σ : Task) → IsFitting p t σ → StaysSo (IsFit p t) σ
fits-so p t σ h = stays-so (IsFit p t) (less-fits p t) σ h.fits

-- each operation keeps it
fitting-kept : (p : PProgram) → AllKeep task_ops (Fits p)
fitting-kept p = record {
  stepped = λ t σ h l. record { unit = (unit-so p t σ (h l)).stepped; fits = (fits-so p t σ (h l)).stepped };
  accepted = λ e i c caller t σ h l. record { unit = (unit-so p t σ (h l)).accepted e i c caller; fits = (fits-so p t σ (h l)).accepted e i c caller };
  finished = λ t σ h l. record { unit = (unit-so p t σ (h l)).finished; fits = (fits-so p t σ (h l)).finished };
  resumed = λ acceptor t σ h l. record { unit = (unit-so p t σ (h l)).resumed acceptor; fits = (fits-so p t σ (h l)).resumed acceptor };
  raised = λ t σ h l. record { unit = (unit-so p t σ (h l)).raised; fits = (fits-so p t σ (h l)).raised };
  took_else = λ t σ h l. record { unit = (unit-so p t σ (h l)).took_else; fits = (fits-so p t σ (h l)).took_else };
  took_delay = λ k t σ h l. record { unit = (unit-so p t σ (h l)).took_delay k; fits = (fits-so p t σ (h l)).took_delay k };
  passed = λ t σ h l. record { unit = (unit-so p t σ (h l)).passed; fits = (fits-so p t σ (h l)).passed };
}

-- ---- a world

module _ (p : PProgram) (inputs : List (List ℤ)) (h : IsLegalOriginal p) where
  abbrev numbers : Numbering
  numbers = (form_in p).numbers

  abbrev setup : ProgramWithInputs
  setup = form_setup p inputs

  abbrev opening : State (ℕ → Seat Task)
  opening = form_opening p inputs

  abbrev many : ℕ
  many = (form_program p inputs).size

  tasks-same : length numbers.tasks ≡ length (numbers_of p).tasks
  tasks-same = (legal_is_normal p h inputs).size

  -- as many tasks as the program has
  pub many-tasks : many ≡ length (numbers_of p).tasks
  many-tasks = length_first setup numbers (length numbers.tasks) ∙ tasks-same

  pub many-is : many ≡ recorder_number p
  many-is = many-tasks ∙ as-many-numbers p h

  -- what stays true of all tasks together
  pub record StaysTrue (w : World Task) : Type 0 where
    pub kept : IsKept (form_setting p) many w
    pub sound : IsSound task_ops IsProper w.tasks

  -- the normal form opens so
  opens-so : IsOpening (numbered (form_program p inputs)) opening
  opens-so = let o = following.opens setup numbers in record { line = o.line; ended = o.ended; live = o.live; callers = o.callers; beyond = o.beyond }

  -- it is true at the start
  first-true : StaysTrue (world_of opening)
  first-true = record {
    kept = kept_first setup numbers (form-is-well-made p h);
    sound =
        sound_still (form_program p inputs) IsProper lawful opening.seats
        (run_sound (form_program p inputs) IsProper lawful opening opens-so (following.proper setup numbers) [] tt);
  }

  -- and after each move
  next-true : (v : World Task) (move : Move) → StaysTrue v → can_move (form_program p inputs) v move ≡ true → StaysTrue (moved (form_program p inputs) v move)
  next-true v move so can = record {
    kept = kept_on setup numbers (form-is-well-made p h) v move so.kept so.sound can;
    sound = sound_moved (form_program p inputs) IsProper lawful v move so.sound can;
  }

  -- how a task of the program starts
  starts-fitting : (t : ℕ) → Fits p t (opening.seats t).local
  starts-fitting t l =
      let within : t < length numbers.tasks = let e = tasks-same in omega (arith, e, l) in
      subst (λ (s : Seat Task). IsFitting p t s.local) (sym (first_is setup numbers (length numbers.tasks) t within))
      (record {
        unit = legal_units_start p h inputs t;
        fits = starts-so (IsFit p t) (form_setting p) inputs t
            (subst (λ b. InBody (IsFit p t) [] b) (sym ((legal_is_normal p h []).bodies t l)) (made-fit p h t l));
      })

  module _ (x : Texts) (same : program_of x ≡ form_by_number p) where
    -- both say how many tasks there are
    program-same : program_of x ≡ form_program p inputs
    program-same = same ∙ ap (λ (n : ℕ). record { ops = task_ops; owner = owner_of numbers; size = n }) (sym many-is)

    -- It is true in each world to which the normal form comes.
    pub stays-true : (w : World Task) → IsMade x opening w → StaysTrue w
    stays-true w Opened = first-true
    stays-true w (Went v move made can) =
        subst (λ (q : Program Task). StaysTrue (moved q v move)) (sym program-same)
        (next-true v move (stays-true v made) (subst (λ (q : Program Task). can_move q v move ≡ true) program-same can))

    -- Its tasks keep their units there, and their calls and aborts fit.
    pub stays-fitting : (w : World Task) → IsMade x opening w → (t : ℕ) → t < length (numbers_of p).tasks → IsFitting p t (w.tasks t).local
    stays-fitting w made t l =
        let m : HasMoves x opening w = has-moves x opening w made in
        subst (λ (v : World Task). Fits p t (v.tasks t).local) m.ends
        (all_keep (program_of x) (Fits p) (subst (λ ops. AllKeep ops (Fits p)) (sym (ap (λ (q : Program Task). q.ops) same)) (fitting-kept p))
        m.moves (world_of opening) starts-fitting t) l

    -- A task that has not completed is one of the program's.
    pub within-form : (w : World Task) → IsMade x opening w → (t : ℕ) → is_completed (w.tasks t).standing ≡ false → t < many
    within-form w made t e =
        ⊎_elim (λ (l : t < many). l) (λ (l : many ≤ t). absurd (true≢false (sym ((stays-true w made).kept.beyond t l) ∙ e))) (cases_lt t many)
