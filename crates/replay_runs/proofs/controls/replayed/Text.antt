-- A controlled text replays the sequence of its original, by the text's own numbers.
use Rattle.std.proofs.Common.{◌≡◌, ℕ, suc, ◌+◌, ◌<◌, List, [], ◌∷◌, ◌++◌, length, Option, refl, sym, ap, ap₂, ◌∙◌, subst, length-append, arith}
use Rattle.std.specs.List.{AllByRecursion, cons_option, filter_map}
use Rattle.common_lemmas.proofs.Lists.{all_back}
use Rattle.event_machine.specs.declared.Action.{Action}
use Rattle.event_machine.specs.declared.Event.{Event}
use Rattle.event_machine.specs.declared.Event.TheVariants.{R, E, S, D, C, T, F, X, B, Z}
use Rattle.event_machine.specs.States.{Seat}
use Rattle.event_machine.specs.Runs.{IsRun, events_of}
use Rattle.event_machine.specs.Programs.{numbered, IsOpening}
use Rattle.event_machine.proofs.Appends.{run_append, events_append}
use Rattle.syn_event.specs.Numbering.{Numbering, owner_of}
use Rattle.syn_event.specs.Origin.{back_of}
use Rattle.task_model.specs.Setting as task
use Rattle.task_model.specs.Tasks.{Task}
use Rattle.task_model.specs.Machine.{ProgramWithInputs, setting_of}
use Rattle.task_model.proofs.Following.{opens}
use Rattle.task_laws.proofs.invariants.Beginning.{length_first, first_is}
use Rattle.run_laws.specs.imitation.Shown.{Opened, end_from}
use Rattle.normal_laws.specs.runs.runs.Laws.{opened}
use Rattle.replay_model.specs.ReplayTree.{last_task}
use Rattle.replay_model.specs.ReplayNumbers.{numbers_replayed}
use Rattle.run_laws.specs.replaying.Copies.{Spots}
use Rattle.run_laws.specs.replaying.Rewritings.{Setting}
use Rattle.run_laws.specs.replaying.Laws.{Controlled, back}
use Rattle.replay_structure.specs.spots.Places.{text_spots}
use Rattle.replay_structure.specs.spots.Laws.{IsInOrder}
use Rattle.replay_structure.specs.spots.inner.Origins.{HasOrigins, IsPlaced, meant}
use Rattle.replay_runs.specs.controls.replayed.Replaying.{Replays}
use Rattle.replay_runs.proofs.controls.replayed.Controlled.{original_of, controlled-replays}
use Rattle.replay_runs.proofs.controls.replayed.Events.{IsIn, IsOne, events-in}
use Rattle.replay_runs.proofs.controls.replayed.Backs.{replays-alike, back-is, HasCaller, backs-same}

-- two words that say the same of each event say the same of all
filter-same : (f h : Event → Option Event) → ((e : Event) → f e ≡ h e) → (events : List Event) → filter_map f events ≡ filter_map h events
filter-same f h k [] = refl
filter-same f h k (e ∷ events) = ap₂ (λ o l. cons_option o l) (k e) (filter-same f h k events)

module _ (far : Spots) (g : task.Setting) (order : IsInOrder g.numbers) (has : HasOrigins far g) (tasks : length g.numbers.tasks ≡ suc (last_task g.numbers)) (setup : ProgramWithInputs) where
  abbrev N : Numbering
  N = numbers_replayed g

  abbrev size : ℕ
  size = suc (last_task g.numbers)

  abbrev text : Opened Task
  text = opened setup N

  -- the text has two tasks more
  all-tasks : length N.tasks ≡ suc (suc size)
  all-tasks = length-append g.numbers.tasks _ ∙ ap (λ n. n + 2) tasks ∙ (let e : size + 2 ≡ suc (suc size) = omega arith in e)

  as-many : text.program.size ≡ length N.tasks
  as-many = length_first setup N (length N.tasks)

  -- each task of the text reads it, and starts in its unit's body
  starts-one : (t : ℕ) → t < text.program.size → IsOne (setting_of setup N) (text.at.seats t).local
  starts-one t l =
      subst (λ (s : Seat Task). IsOne (setting_of setup N) s.local) (sym (first_is setup N (length N.tasks) t (subst (λ n. t < n) as-many l))) (refl, refl)

  opening : IsOpening (numbered text.program) text.at
  opening = let o = opens setup N in record { line = o.line; ended = o.ended; live = o.live; callers = o.callers; beyond = o.beyond }

  -- ---- events at places of the text

  placed : (e : Event) → IsIn N text.program.size e → IsPlaced g e
  placed (R c e i) h = h.1
  placed (E a) h = subst (λ n. a < n) (as-many ∙ all-tasks) h
  placed (S a) h = subst (λ n. a < n) (as-many ∙ all-tasks) h
  placed (D a k) h = subst (λ n. a < n) (as-many ∙ all-tasks) h
  placed (C c e i) h = h.1
  placed (T c e i) h = h.1
  placed (F c e i) h = h.1
  placed (X a) h = subst (λ n. a < n) (as-many ∙ all-tasks) h
  placed (B t v) h = (subst (λ n. t < n) (as-many ∙ all-tasks) h.0, subst (λ n. v < n) (as-many ∙ all-tasks) h.1)
  placed Z h = tt

  all-placed : (events : List Event) → AllByRecursion (IsIn N text.program.size) events → AllByRecursion (IsPlaced g) events
  all-placed [] h = tt
  all-placed (e ∷ events) h = (placed e h.0, all-placed events h.1)

  -- the events of further actions are so
  more-placed : (actions more : List Action) → IsRun (numbered text.program) text.at actions → IsRun (numbered text.program) (end_from text actions) more →
      AllByRecursion (IsPlaced g) (events_of (numbered text.program) (end_from text actions) more)
  more-placed actions more run on =
      all-placed (events_of (numbered text.program) (end_from text actions) more)
      (all_back (IsIn N text.program.size) (events_of (numbered text.program) text.at actions) (events_of (numbered text.program) (end_from text actions) more)
      (subst (AllByRecursion (IsIn N text.program.size)) (events_append (numbered text.program) text.at actions more)
      (events-in (setting_of setup N) (owner_of N) text.program.size as-many (subst (λ n. 0 < n) (sym all-tasks) (omega arith)) text.at opening starts-one
      (events_of (numbered text.program) text.at (actions ++ more)) (actions ++ more, run_append (numbered text.program) text.at actions more run on, refl))))

  -- ---- the text

  -- A text that is controlled replays the sequence, in which callers are tasks of the original, by its own numbers.
  pub text-replays : (x : Setting) → x.n ≡ text_spots far g → x.p.size ≡ size → AllByRecursion (HasCaller size) x.s → Controlled x text.program text.out text.at →
      Replays x.s (original_of x) text (back_of N)
  text-replays x n many known c =
      replays-alike x.s (original_of x) text (back x) (back_of N) (HasCaller size) known alike (controlled-replays x text.program text.out text.at c)
    where
      same : (e : Event) → back x e ≡ meant (text_spots far g) size e
      same e = back-is x e ∙ ap₂ (λ a b. meant a b e) n many

      alike : (actions more : List Action) → IsRun (numbered text.program) text.at actions → IsRun (numbered text.program) (end_from text actions) more →
          AllByRecursion (HasCaller size) (filter_map (back x) (events_of (numbered text.program) (end_from text actions) more)) →
          filter_map (back_of N) (events_of (numbered text.program) (end_from text actions) more) ≡ filter_map (back x) (events_of (numbered text.program) (end_from text actions) more)
      alike actions more run on told =
          let events = events_of (numbered text.program) (end_from text actions) more in
          let e : filter_map (back x) events ≡ filter_map (λ y. meant (text_spots far g) size y) events = filter-same (back x) (λ y. meant (text_spots far g) size y) same events in
          backs-same far g order has events (more-placed actions more run on) (subst (AllByRecursion (HasCaller size)) e told) ∙ sym e
