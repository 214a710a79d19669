-- What a judge keeps goes on standing for the events: the laws of the machine, along one more event.
use Rattle.std.proofs.Common.{◌≡◌, ℕ, zero, suc, ◌+◌, ◌≤◌, Bool, true, false, not, ◌||◌, if◌then◌else◌, List, [], ◌∷◌, ◌++◌, length, refl, sym, ap, ◌∙◌, subst, arith, None}
use Rattle.std.specs.Prelude.{All, slice_index}
use Rattle.std.proofs.lemmas.List.Elements.{All-weaker}
use Rattle.event_machine.specs.declared.Event.{Event}
use Rattle.event_machine.specs.declared.Standing.{Standing}
use Rattle.event_machine.specs.declared.Standing.TheVariants.{Live, Waiting, Queued, Served, Completed, Killed}
use Rattle.event_machine.specs.States.{Seat, is_live, is_closed}
use Rattle.event_machine.specs.Programs.{Program, numbered, by_number}
use Rattle.event_machine.specs.Settling.{ran, HasSteps, CountsFor, IsRunOn, Follows, Fires}
use Rattle.event_machine.specs.Soundness.{IsSound}
use Rattle.event_machine.specs.Tallies.{HasNoEnd, before_end, RestIs, StandsAfter}
use Rattle.event_machine.specs.Worlds.{World, Happen, still, acted, happens, is_last, changes, moved, recount}
use Rattle.event_machine.specs.Lawful.{Keeps}
use Rattle.event_machine.proofs.Basics.{both}
use Rattle.event_machine.proofs.Bases.{IsBase, base_leads}
use Rattle.event_machine.proofs.Effected.{unchanged}
use Rattle.event_machine.proofs.Extending.{before_end-same}
use Rattle.event_machine.proofs.Following.{leads_once, follow_event}
use Rattle.event_machine.proofs.Joining.{view_acted, length_acted}
use Rattle.event_machine.proofs.ListLaws.{opening_numbers}
use Rattle.event_machine.proofs.Reaching.{start_base}
use Rattle.event_machine.proofs.Returning.{leads_open}
use Rattle.event_machine.proofs.Sound.{sound_same}
use Rattle.event_machine.proofs.Standings.{is-Live}
use Rattle.event_machine.proofs.Stepping.{settles_most}
use Rattle.event_machine.proofs.Walking.{leads_append}
use Rattle.syn_event.specs.Numbering.{Numbering, owner_of}
use Rattle.task_model.proofs.Following.{opens, proper, rest_exactly}
use Rattle.task_model.proofs.Lawful.{lawful}
use Rattle.task_model.specs.Laws.{IsProper, program_in, first_world}
use Rattle.task_model.specs.Machine.{ProgramWithInputs, opening_of, Tasks, rules_of}
use Rattle.task_model.specs.Stands.{can_step, offer_of}
use Rattle.task_model.specs.TaskOps.{task_ops}
use Rattle.task_model.specs.Tasks.{Task}
use Rattle.task_machine.specs.Conditions.{first_failing}
use Rattle.task_machine.specs.Conditions as asked_of
use Rattle.task_machine.specs.Judging.{NoneOpen}
use Rattle.task_machine.specs.Table.{seat_of}
use Rattle.task_machine.specs.Views.{IsOpenAt, IsRest, StandsInSomeRun, view_of, view_in}
use Rattle.task_machine.proofs.TaskLaws.{the_count, the_standing}
use Rattle.task_machine.proofs.Tabled.{AreSeen, table_happens, none_failing}
use Rattle.feasible.specs.Failing.{view_at}
use Rattle.feasible.specs.Keeping.{world_kept, AreKept, IsSettled}
use Rattle.feasible.specs.inner.Needs.{HasRun, HaveRun, IsStuck}
use Rattle.feasible.specs.inner.Recounts.{AreRecounted}
use Rattle.feasible.proofs.Running.{ran_on, steps_on}

-- how a standing that waits for nobody is seen
closed_seen : (z : Standing) (seat : Seat Task) → z ≡ seat.standing → is_closed z ≡ asked_of.is_closed_view (view_of seat)
closed_seen z seat e = ap is_closed e ∙ go seat.standing
  where
    go : (y : Standing) → is_closed y ≡ asked_of.is_closed_view (view_in y (offer_of seat.local))
    go Live = refl
    go Waiting = refl
    go Queued = refl
    go (Served by true) = refl
    go (Served by false) = refl
    go Completed = refl
    go Killed = refl

module _ (setup : ProgramWithInputs) (numbers : Numbering) (bound : ℕ) where
  abbrev m : Program Task
  m = program_in setup numbers

  -- ---- running on

  pub keeps_run : (events : List Event) (tasks : Tasks) (steps : List ℕ) (tasks' : Tasks) (steps' : List ℕ) (ended : Bool) →
      AreKept setup numbers bound events tasks steps ended → HaveRun bound tasks steps tasks' steps' → AreKept setup numbers bound events tasks' steps' ended
  keeps_run events tasks steps tasks' steps' ended k r = record {
    bases = k.bases;
    leads = k.leads;
    follows = record { ended = k.follows.ended; each = λ t. on t (is_live (seat_of tasks t).standing) refl };
    size = r.size ∙ k.size;
    counts = r.counts ∙ k.counts;
    within = r.within k.within;
  }
    where
      free_on : (t : ℕ) → (k.bases.tasks t).standing ≡ Live → IsRunOn task_ops (k.bases.tasks t) (slice_index steps t) (seat_of tasks t) →
          HasRun (seat_of tasks t).local (slice_index steps t) (seat_of tasks' t).local (slice_index steps' t) →
          IsRunOn task_ops (k.bases.tasks t) (slice_index steps' t) (seat_of tasks' t)
      free_on t free i h =
          let made : i.steps ≡ slice_index steps t = subst (λ z. CountsFor z (slice_index steps t) i.steps) free i.counted in
          let count : slice_index steps' t ≡ h.more + slice_index steps t = h.count in
          record {
            standing = r.standing t ∙ i.standing;
            steps = h.more + i.steps;
            has_steps = steps_on h.more i.steps (h.more + i.steps) (k.bases.tasks t).local refl i.has_steps (subst (HasSteps task_ops h.more) i.local h.made);
            local = h.state ∙ ap (ran task_ops h.more) i.local ∙ ran_on h.more i.steps (h.more + i.steps) (k.bases.tasks t).local refl;
            counted = subst (λ z. CountsFor z (slice_index steps' t) (h.more + i.steps)) (sym free) (let e : h.more + i.steps ≡ slice_index steps' t = omega arith in e);
          }

      on : (t : ℕ) (b : Bool) → is_live (seat_of tasks t).standing ≡ b → IsRunOn task_ops (k.bases.tasks t) (slice_index steps' t) (seat_of tasks' t)
      on t true q = free_on t (sym (k.follows.each t).standing ∙ is-Live (seat_of tasks t).standing q) (k.follows.each t) (r.each t)
      on t false q = let o = r.others t q in
          subst (λ (x : Seat Task). IsRunOn task_ops (k.bases.tasks t) (slice_index steps' t) x) (sym o.0)
          (subst (λ n. IsRunOn task_ops (k.bases.tasks t) n (seat_of tasks t)) (sym o.1) (k.follows.each t))

  -- ---- what is kept for events

  module _ (events : List Event) (tasks : Tasks) (steps : List ℕ) (ended : Bool) (more : HasNoEnd events) (k : AreKept setup numbers bound events tasks steps ended) where
    abbrev kept : ℕ → Seat Task
    kept t = seat_of tasks t

    -- Z is not among the events
    same_end : before_end events ≡ events
    same_end = before_end-same events more

    base : IsBase m IsProper lawful k.bases
    base = base_leads m IsProper lawful events (first_world setup numbers) k.bases k.leads
        (start_base m IsProper lawful (by_number m (opening_of setup numbers).state) (opening_numbers task_ops (owner_of numbers) IsProper lawful (opening_of setup numbers).state (opens setup numbers) (proper setup numbers)) (proper setup numbers))

    stills : (t : ℕ) → still (kept t).standing ≡ (kept t).standing
    stills t = ap still (k.follows.each t).standing ∙ base.still' t ∙ sym (k.follows.each t).standing

    ran_keeps : (n : ℕ) (l : Task) → IsProper l → HasSteps task_ops n l → Keeps task_ops IsProper l (ran task_ops n l)
    ran_keeps zero l q h = (q, refl)
    ran_keeps (suc n) l q h =
        let a = ran_keeps n l q h.0 in
        let b = lawful.stepped (ran task_ops n l) a.0 h.1 in
        (b.0, b.1 ∙ a.1)

    sound : IsSound task_ops IsProper kept
    sound = sound_same m IsProper lawful k.bases.tasks kept base.sound (λ t. (k.follows.each t).standing)
        (λ t open'. subst (λ l. Keeps task_ops IsProper (k.bases.tasks t).local l) (sym (k.follows.each t).local)
        (ran_keeps (k.follows.each t).steps (k.bases.tasks t).local (base.sound.proper t open') (k.follows.each t).has_steps))

    runs : ended ≡ false
    runs = k.follows.ended ∙ leads_open m IsProper lawful (λ t. 0) events (first_world setup numbers) k.bases more refl k.leads

    pub stands : (t : ℕ) → StandsInSomeRun setup numbers events t (kept t).standing
    stands t = subst (λ es. StandsAfter (rules_of numbers) (opening_of setup numbers).state es t (kept t).standing) (sym same_end)
        (subst (StandsAfter (rules_of numbers) (opening_of setup numbers).state events t) (sym (k.follows.each t).standing) (the_standing setup numbers events k.bases k.leads t))

    -- a free task, at its count
    at_count : (t : ℕ) → (kept t).standing ≡ Live →
        ((k.bases.tasks t).standing ≡ Live) × HasSteps task_ops (slice_index steps t) (k.bases.tasks t).local × ((kept t).local ≡ ran task_ops (slice_index steps t) (k.bases.tasks t).local)
    at_count t free =
        let i = k.follows.each t in
        let live_base : (k.bases.tasks t).standing ≡ Live = sym i.standing ∙ free in
        let made : i.steps ≡ slice_index steps t = subst (λ z. CountsFor z (slice_index steps t) i.steps) live_base i.counted in
        (live_base, subst (λ n. HasSteps task_ops n (k.bases.tasks t).local) made i.has_steps, i.local ∙ ap (λ n. ran task_ops n (k.bases.tasks t).local) made)

    pub rests : (t : ℕ) → (kept t).standing ≡ Live → IsRest setup numbers events t (slice_index steps t) (kept t).local
    rests t free =
        let (live_base, has, is) = at_count t free in
        subst (λ es. RestIs (rules_of numbers) (opening_of setup numbers).state es t (slice_index steps t) (kept t).local) (sym same_end)
        ((rest_exactly setup numbers events more t (slice_index steps t) (kept t).local).1 (k.bases, k.leads, live_base, has, is))

    -- a settled task is not open
    pub settled_closed : (t : ℕ) → IsSettled tasks t → IsOpenAt setup numbers events t bound → ⊥
    settled_closed t settled (task, rest, can) =
        let (w, leads, free, has, is) = (rest_exactly setup numbers events more t bound task).0 (subst (λ es. RestIs (rules_of numbers) (opening_of setup numbers).state es t bound task) same_end rest) in
        let same : w ≡ k.bases = leads_once m events (first_world setup numbers) w k.bases leads k.leads in
        let free' : (k.bases.tasks t).standing ≡ Live = ap (λ (v : World Task). (v.tasks t).standing) (sym same) ∙ free in
        let live_kept : (kept t).standing ≡ Live = (k.follows.each t).standing ∙ free' in
        let (live_base, made, at) = at_count t live_kept in
        let steps_there : HasSteps task_ops bound (k.bases.tasks t).local = subst (λ (v : World Task). HasSteps task_ops bound (v.tasks t).local) same has in
        let one_more : can_step (ran task_ops bound (k.bases.tasks t).local) ≡ true =
        ap (λ (v : World Task). can_step (ran task_ops bound (v.tasks t).local)) (sym same) ∙ ap can_step (sym is) ∙ can in
        let most : suc bound ≤ slice_index steps t =
        settles_most task_ops (suc bound) (slice_index steps t) (k.bases.tasks t).local (steps_there, one_more)
        (made, ap can_step (sym at) ∙ settled (ap is_live live_kept)) in
        let few : slice_index steps t ≤ bound = k.within t in
        omega arith

    pub none_open : (needed : List ℕ) → All (IsSettled tasks) needed → NoneOpen setup numbers bound events needed
    none_open needed settled = All-weaker (IsSettled tasks) (λ t. IsOpenAt setup numbers events t bound → ⊥) settled_closed needed settled

    -- a stuck task is open
    pub stuck_open : (t : ℕ) → IsStuck bound tasks steps t → IsOpenAt setup numbers events t bound
    stuck_open t stuck =
        let free : (kept t).standing ≡ Live = is-Live (kept t).standing stuck.free in
        let few : slice_index steps t ≤ bound = k.within t in
        let many : bound ≤ slice_index steps t = stuck.count in
        let e : slice_index steps t ≡ bound = omega arith in
        ((kept t).local, subst (λ n. IsRest setup numbers events t n (kept t).local) e (rests t free), stuck.more)

    -- ---- the event

    seen : (e : Event) → AreSeen numbers (length (opening_of setup numbers).state.seats) e (view_at tasks) kept
    seen e = record { needed = λ t need. refl; stills = stills; closed = λ t. sym (closed_seen (kept t).standing (kept t) refl) }

    pub happens_here : (e : Event) → first_failing numbers (view_at tasks) e ≡ None → happens m kept e ≡ true
    happens_here e h =
        sym (table_happens numbers (length (opening_of setup numbers).state.seats) (the_count setup numbers) e (view_at tasks) kept (seen e)) ∙ none_failing (view_at tasks) (asked_of.conditions_of numbers e) h

    -- what the event makes of the kept tasks
    acted_kept : (e : Event) (tasks' : Tasks) → happens m kept e ≡ true → tasks' ≡ acted (rules_of numbers) tasks e → (λ t. seat_of tasks' t) ≡ acted (numbered m) kept e
    acted_kept e tasks' h acts = (λ i t. seat_of (acts i) t) ∙
        view_acted m e tasks (subst (λ (g : ℕ → Seat Task). happens m g e ≡ true) (λ i t. record { local = (kept t).local; standing = sym (stills t) i }) h)

    -- A task that the event does not change is as before.
    pub unchanged_kept : (e : Event) (tasks' : Tasks) → happens m kept e ≡ true → tasks' ≡ acted (rules_of numbers) tasks e → (t : ℕ) → changes task_ops (owner_of numbers) kept e t ≡ false →
        seat_of tasks' t ≡ seat_of tasks t
    unchanged_kept e tasks' h acts t same = ap (λ (g : ℕ → Seat Task). g t) (acted_kept e tasks' h acts) ∙ unchanged m e kept t same

    -- A live task that has run on has the callers that it had.
    pub callers_run : (tasks' : Tasks) (steps' : List ℕ) → HaveRun bound tasks steps tasks' steps' → (t : ℕ) → (kept t).standing ≡ Live → task_ops.callers (seat_of tasks' t).local ≡ task_ops.callers (kept t).local
    callers_run tasks' steps' r t free =
        ap task_ops.callers (r.each t).state ∙ (ran_keeps (r.each t).more (kept t).local (sound.proper t (ap is_closed free)) (r.each t).made).1

    pub keeps_event : (e : Event) (tasks' : Tasks) (steps' : List ℕ) → happens m kept e ≡ true → tasks' ≡ acted (rules_of numbers) tasks e → AreRecounted numbers tasks e steps steps' →
        AreKept setup numbers bound (events ++ e ∷ []) tasks' steps' (is_last e || ended)
    keeps_event e tasks' steps' h acts counted = record {
      bases = followed.0;
      leads = leads_append m events (e ∷ []) (first_world setup numbers) k.bases followed.0 k.leads (followed.0, followed.1, refl);
      follows = subst (λ (c : ℕ → ℕ). Follows m followed.0 (world_kept tasks' (is_last e || ended)) c) (λ i t. sym (counted.each t) i)
          (subst (λ (g : ℕ → Seat Task). Follows m followed.0 (record { tasks = g; ended = is_last e || ended }) (recount m (world_kept tasks ended) (Happen e) (λ t. slice_index steps t))) (sym (acted_kept e tasks' h acts)) followed.2);
      size = ap length acts ∙ length_acted m e tasks ∙ k.size;
      counts = counted.size ∙ k.counts;
      within = λ t. subst (λ n. n ≤ bound) (sym (counted.each t)) (few (changes task_ops (owner_of numbers) kept e t) t);
    }
      where
        followed : (next : World Task) × Fires m k.bases e next × Follows m next (moved m (world_kept tasks ended) (Happen e)) (recount m (world_kept tasks ended) (Happen e) (λ t. slice_index steps t))
        followed = follow_event m IsProper lawful k.bases (world_kept tasks ended) (λ t. slice_index steps t) e k.follows sound (both (ap not runs) h)

        few : (b : Bool) (t : ℕ) → (if b then 0 else slice_index steps t) ≤ bound
        few true t = omega arith
        few false t = k.within t
