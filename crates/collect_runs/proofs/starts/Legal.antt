-- What a legal program gives to the law of collecting.
use Rattle.std.proofs.Common.{◌≡◌, ℕ, ℤ, ◌<◌, ◌≤◌, Bool, true, List, length, refl, sym, ◌∙◌, subst, ⊎_elim, arith}
use Rattle.std.proofs.lemmas.Bool.{cases_lt}
use Rattle.std.proofs.lemmas.List.{get_or_past}
use Rattle.common_lemmas.proofs.Numbers.{unequal}
use Rattle.event_machine.specs.declared.Standing.TheVariants.{Live}
use Rattle.event_machine.specs.Offers.{calls_in, is_any_form}
use Rattle.event_machine.specs.States.{Seat, State, completed}
use Rattle.event_machine.specs.Programs.{Program, numbered, IsOpening}
use Rattle.event_machine.specs.Worlds.{World, Move, world_of, AreMoves, world_after}
use Rattle.ada_tree.specs.PlainProgram.{PProgram}
use Rattle.syn_event.specs.Numbering.{Numbering, owner_of}
use Rattle.task_model.specs.Setting.{Setting}
use Rattle.task_model.specs.Tasks.{Task}
use Rattle.task_model.specs.Starting.{started, nobody}
use Rattle.task_model.specs.Stands.{offer_of}
use Rattle.task_model.specs.TaskOps.{task_ops}
use Rattle.task_model.specs.Machine.{first_tasks}
use Rattle.task_model.specs.Laws.{IsProper}
use Rattle.task_model.proofs.Lawful.{lawful}
use Rattle.task_model.proofs.Following as following
use Rattle.task_laws.specs.statements.Each.{HoldsOf}
use Rattle.task_laws.proofs.statements.Carried.{starts-so}
use Rattle.task_laws.proofs.invariants.Beginning.{length_first, first_is}
use Rattle.normal_laws.specs.runs.runs.Laws.{IsCalm}
use Rattle.normal_laws.specs.existence.Laws.{IsLegalOriginal}
use Rattle.normal_laws.proofs.existence.Joined.{legal_is_normal, legal_is_calm}
use Rattle.run_laws.specs.collecting.Settings.{IsOfTask}
use Rattle.replay_structure.proofs.spots.Ordered.{normal_is_in_order}
use Rattle.replay_runs.specs.starts.Laws.{form_in}
use Rattle.replay_runs.specs.starts.Formals.{form_setting}
use Rattle.replay_runs.proofs.found.Legal as facts
use Rattle.replay_runs.proofs.controls.Offers.{as-many-numbers}
use Rattle.replay_runs.proofs.controls.replayed.Settings.{stepped-same, accepted-same, finished-same, resumed-same, failed-same, else-same, delay-same, passed-same}
use Rattle.replay_runs.specs.controls.meanings.Settings.{form_setup, form_program, form_opening}
use Rattle.replay_runs.proofs.controls.meanings.Naming.{owner-below}
use Rattle.table_law.proofs.runs.Keeping.{AllKeep, all_keep}
use Rattle.collect_model.specs.CollectNumbers.{numbers_with}
use Rattle.collect_runs.specs.recorder.Recorders.{IsRecorder}
use Rattle.collect_runs.specs.telling.Texts.{Texts, program_of}
use Rattle.collect_runs.specs.imitating.Settings.{IsMade, Collecting}
use Rattle.collect_runs.specs.starts.Texts.{names_added, recorder_number, note_number, recorder_of, texts_of}
use Rattle.collect_runs.specs.starts.Laws.{IsNoAbort, HasNoAborts, LegalFormsAreCollected}
use Rattle.collect_runs.proofs.starts.Silent.{silent}
use Rattle.collect_runs.proofs.starts.Worlds.{HasMoves, has-moves, no-aborts-there}
use Rattle.collect_runs.proofs.starts.Offering.{offers-no-abort, calls-within}
use Rattle.collect_runs.proofs.starts.NoAborts.{legal_has_no_aborts}
use Rattle.collect_runs.proofs.starts.Owning.{note-owned, same-owner}

module _ (p : PProgram) (kept : ℕ → Bool) (inputs : List (List ℤ)) (h : IsLegalOriginal p) where
  abbrev x : Texts
  x = texts_of p kept

  abbrev numbers : Numbering
  numbers = (form_in p).numbers

  abbrev opening : State (ℕ → Seat Task)
  opening = form_opening p inputs

  -- ---- how many tasks there are

  long : (form_program p inputs).size ≡ length numbers.tasks
  long = length_first (form_setup p inputs) numbers (length numbers.tasks)

  size : (form_program p inputs).size ≡ recorder_number p
  size = long ∙ (legal_is_normal p h inputs).size ∙ as-many-numbers p h

  -- the normal form with so many tasks
  abbrev with_size : ℕ → Program Task
  with_size n = record { ops = task_ops; owner = owner_of numbers; size = n }

  -- ---- the start

  -- what holds of each task as it starts, and of what stands past the last one, holds of each in the opening
  each-opens : (P : Task → Type 0) → ((t : ℕ) → P (started (form_setting p) inputs t)) → P nobody → (t : ℕ) → P (opening.seats t).local
  each-opens P first past t = ⊎_elim
      (λ (l : t < length numbers.tasks). subst (λ (s : Seat Task). P s.local) (sym (first_is (form_setup p inputs) numbers (length numbers.tasks) t l)) (first t))
      (λ (l : length numbers.tasks ≤ t). subst (λ (s : Seat Task). P s.local) (sym (get_or_past (first_tasks (form_setup p inputs) numbers (length numbers.tasks)) t (completed nobody) (let e = long in omega (arith, e, l)))) past)
      (cases_lt t (length numbers.tasks))

  -- ---- in each world

  -- the numbers that a task reads have no more entries than those of the normal form
  abbrev FewEntries : ℕ → Task → Type 0
  FewEntries u t = length t.setting.numbers.entries ≤ length numbers.entries

  few-same : {a b : Setting} → b ≡ a → length a.numbers.entries ≤ length numbers.entries → length b.numbers.entries ≤ length numbers.entries
  few-same same l = subst (λ (g : Setting). length g.numbers.entries ≤ length numbers.entries) (sym same) l

  few-kept : AllKeep task_ops FewEntries
  few-kept = record {
    stepped = λ u t l. few-same (stepped-same t) l;
    accepted = λ e i c caller u t l. few-same (accepted-same e i c caller t) l;
    finished = λ u t l. few-same (finished-same t) l;
    resumed = λ acceptor u t l. few-same (resumed-same acceptor t) l;
    raised = λ u t l. few-same (failed-same t) l;
    took_else = λ u t l. few-same (else-same t) l;
    took_delay = λ k u t l. few-same (delay-same k t) l;
    passed = λ u t l. few-same (passed-same t) l;
  }

  few-entries : (w : World Task) → IsMade x opening w → (t : ℕ) → length (w.tasks t).local.setting.numbers.entries ≤ length numbers.entries
  few-entries w made t =
      let m : HasMoves x opening w = has-moves x opening w made in
      subst (λ (v : World Task). FewEntries t (v.tasks t).local) m.ends
      (all_keep (program_of x) FewEntries few-kept m.moves (world_of opening) (each-opens (λ u. length u.setting.numbers.entries ≤ length numbers.entries) (λ u. omega arith) (omega arith)) t)

  calls : (w : World Task) → IsMade x opening w → (t e : ℕ) (i : ℤ) → calls_in is_any_form e i (offer_of (w.tasks t).local) ≡ true →
      IsOfTask (recorder_number p) (owner_of numbers) (note_number p) (owner_of (numbers_with (names_added p) numbers)) e
  calls w made t e i is =
      let within : e ≤ length (w.tasks t).local.setting.numbers.entries = calls-within (w.tasks t).local e i is in
      let few : length (w.tasks t).local.setting.numbers.entries ≤ length numbers.entries = few-entries w made t in record {
        task = owner-below numbers (normal_is_in_order p (facts.ordered p h)) e;
        same = same-owner (names_added p) numbers e (omega (arith, within, few));
        other = unequal e (note_number p) (λ q. omega (arith, q, within, few));
      }

  calm : (w : World Task) → IsMade x opening w → (t : ℕ) → (w.tasks t).standing ≡ Live → IsCalm (w.tasks t).local
  calm w made t live =
      let m : HasMoves x opening w = has-moves x opening w made in
      let all : (moves : List Move) → AreMoves (with_size (recorder_number p)) (world_of opening) moves → (u : ℕ) → ((world_after (with_size (recorder_number p)) (world_of opening) moves).tasks u).standing ≡ Live →
      IsCalm ((world_after (with_size (recorder_number p)) (world_of opening) moves).tasks u).local =
      subst (λ (n : ℕ). (moves : List Move) → AreMoves (with_size n) (world_of opening) moves → (u : ℕ) → ((world_after (with_size n) (world_of opening) moves).tasks u).standing ≡ Live →
      IsCalm ((world_after (with_size n) (world_of opening) moves).tasks u).local) size (legal_is_calm p h inputs).after_moves in
      subst (λ (v : World Task). (v.tasks t).standing ≡ Live → IsCalm (v.tasks t).local) m.ends (all m.moves m.made t) live

  -- ---- the whole

  opens-so : IsOpening (numbered (program_of x)) opening
  opens-so =
      let o = following.opens (form_setup p inputs) numbers in
      subst (λ (n : ℕ). IsOpening (numbered (with_size n)) opening) size (record { line = o.line; ended = o.ended; live = o.live; callers = o.callers; beyond = o.beyond })

  proper : (t : ℕ) → t < recorder_number p → IsProper (opening.seats t).local
  proper t l = following.proper (form_setup p inputs) numbers t (let e = size in omega (arith, e, l))

  known : HasNoAborts p → IsRecorder (recorder_of p inputs) (note_number p) → Collecting x
  known none is_recorder = record {
    recorder = recorder_of p inputs;
    is_recorder = is_recorder;
    last = refl;
    noted = note-owned (names_added p) numbers;
    lawful = lawful;
    silent = silent;
    opening = opening;
    opens_so = opens-so;
    proper = proper;
    no_aborts = λ w made runs t v live.
        offers-no-abort (w.tasks t).local v
        (no-aborts-there x opening (each-opens (HoldsOf IsNoAbort) (λ u. starts-so IsNoAbort (form_setting p) inputs u (none u)) (record { rest = tt; place = tt; outer = tt })) w made t);
    calls_tasks = λ w made runs t e i live is. calls w made t e i is;
    calm = λ w made runs t live. calm w made t live;
  }

pub legal_forms_are_collected : LegalFormsAreCollected
unfolding known
legal_forms_are_collected p kept inputs h none is_recorder = record { known = known p kept inputs h (legal_has_no_aborts p h none) is_recorder; recorder = refl; opening = refl }
