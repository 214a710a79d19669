-- Between events: running a task on leaves what a judge stands for, and tells whether the task is open; whether the program has ended; how a task stands.
use Rattle.std.proofs.Common.{◌≡◌, ◌↔◌, ℕ, Bool, true, false, not, ◌&&◌, ◌||◌, List, [], ◌∷◌, ◌++◌, length, take, refl, sym, ap, ◌∙◌, subst, true≢false, ⊎_elim, Result, Ok, Err}
use Rattle.std.specs.Prelude.{IfOk, OnOk}
use Rattle.std.specs.List.{list_all}
use Rattle.ada_tree.specs.declared.shortage.Memory.{Memory}
use Rattle.std.proofs.lemmas.Bool.{cases_Bool, and_parts}
use Rattle.std.proofs.Math.Seq.{take-length}
use Rattle.event_machine.specs.declared.Event.{Event}
use Rattle.event_machine.specs.declared.Event.TheVariants.{Z}
use Rattle.event_machine.specs.declared.Standing.{Standing}
use Rattle.event_machine.specs.Programs.{Program}
use Rattle.event_machine.specs.Settling.{Fires, Leads}
use Rattle.event_machine.specs.States.{is_served}
use Rattle.event_machine.specs.Tallies.{RestIs, StandsAfter, HasNoEnd, before_end}
use Rattle.event_machine.specs.Worlds.{World, is_last}
use Rattle.event_machine.proofs.Extending.{before_end-same}
use Rattle.syn_event.specs.Numbering.{Numbering}
use Rattle.task_model.specs.Laws.{program_in, first_world}
use Rattle.task_model.specs.Machine.{ProgramWithInputs, opening_of, Tasks, rules_of}
use Rattle.task_model.specs.Stands.{can_step}
use Rattle.task_model.specs.Tasks.{Task}
use Rattle.task_machine.specs.declared.verdict.Verdict.{Verdict}
use Rattle.task_machine.specs.declared.verdict.Verdict.TheVariants.{Feasible, Infeasible, Unsettled}
use Rattle.task_machine.specs.Judging.{VerdictIs}
use Rattle.task_machine.specs.Table.{seat_of}
use Rattle.task_machine.specs.Views.{IsOpenAt, StandsIn, StandsInSomeRun, ViewIs}
use Rattle.task_machine.proofs.Judged.{no_end_before, stands_unique, view_kept}
use Rattle.task_machine.proofs.Verdicts.{cons_head, cons_tail}
use Rattle.feasible.specs.Failing.{view_at}
use Rattle.feasible.specs.Keeping.{AreKept, Counts, StandsFor, IsSettled, HaveEnded, is_feasible}
use Rattle.feasible.specs.Kept.{Kept}
use Rattle.feasible.specs.inner.Needs.{HaveRun, IsStuck}
use Rattle.feasible.proofs.Judging.{keeps_run, stands, settled_closed, stuck_open}
use Rattle.feasible.proofs.Running.{settled_stays}
use Rattle.feasible.proofs.Seeing.{kept_before}
use Rattle.feasible.proofs.Continuing.{seat_settled}

-- ---- the end of the program

last_Z : (e : Event) → is_last e ≡ true → e ≡ Z
last_Z Z h = refl
last_Z _ h = absurd (true≢false (sym h))

none_ends : (front : List Event) → [] ≡ (front ++ Z ∷ []) → ⊥
none_ends [] h = cc
none_ends (e ∷ front) h = cc

module _ (m : Program Task) where
  next_ended : (w next : World Task) (e : Event) → Fires m w e next → next.ended ≡ (is_last e || w.ended)
  next_ended w next e fires = ap (λ (u : World Task). u.ended) fires.becomes

  -- behind the end of the program nothing happens
  nothing_behind : (next last : World Task) (events : List Event) → next.ended ≡ true → Leads m next events last → events ≡ []
  nothing_behind next last [] is leads = refl
  nothing_behind next last (f ∷ events) is (more, firing, leads) = absurd (true≢false (sym is ∙ firing.runs))

  -- The program has ended exactly where the last of the events is its end.
  pub ended_exactly : (w last : World Task) (events : List Event) → w.ended ≡ false → Leads m w events last → (last.ended ≡ true) ↔ HaveEnded events
  ended_exactly w last [] runs leads = (
    λ h. absurd (true≢false (sym h ∙ ap (λ (u : World Task). u.ended) (sym leads) ∙ runs)),
    λ (k : HaveEnded []). absurd (none_ends k.0 k.1),
  )
  ended_exactly w last (e ∷ events) runs (next, fires, leads) = go (is_last e) refl (λ open'. ended_exactly next last events open' leads)
    where
      ends_next : (b : Bool) → is_last e ≡ b → next.ended ≡ b
      ends_next true is = next_ended w next e fires ∙ ap (λ b. b || w.ended) is
      ends_next false is = next_ended w next e fires ∙ ap (λ b. b || w.ended) is ∙ runs

      drop_first : HaveEnded (e ∷ events) → is_last e ≡ false → HaveEnded events
      drop_first ([], h) is = absurd (true≢false (sym (ap is_last (cons_head h)) ∙ is))
      drop_first (f ∷ front, h) is = (front, cons_tail h)

      go : (b : Bool) → is_last e ≡ b → (next.ended ≡ false → (last.ended ≡ true) ↔ HaveEnded events) → (last.ended ≡ true) ↔ HaveEnded (e ∷ events)
      go true is later =
          let none : events ≡ [] = nothing_behind next last events (ends_next true is) leads in
          let same : next ≡ last = subst (λ es. Leads m next es last) none leads in (
            λ h. ([], (λ i. last_Z e is i ∷ none i)),
            λ (k : HaveEnded (e ∷ events)). ap (λ (u : World Task). u.ended) (sym same) ∙ ends_next true is,
          )
      go false is later =
          let exact = later (ends_next false is) in (
            λ h. let k = exact.0 h in (e ∷ k.0, ap (λ es. e ∷ es) k.1),
            λ (k : HaveEnded (e ∷ events)). exact.1 (drop_first k is),
          )

  -- While the program has not ended, its end is not among the events.
  pub open_no_end : (w last : World Task) (events : List Event) → Leads m w events last → last.ended ≡ false → HasNoEnd events
  open_no_end w last [] leads runs = refl
  open_no_end w last (e ∷ events) (next, fires, leads) runs = go (is_last e) refl (open_no_end next last events leads runs)
    where
      go : (b : Bool) → is_last e ≡ b → HasNoEnd events → HasNoEnd (e ∷ events)
      go true is later =
          let ends : next.ended ≡ true = next_ended w next e fires ∙ ap (λ b. b || w.ended) is in
          let same : next ≡ last = subst (λ es. Leads m next es last) (nothing_behind next last events ends leads) leads in
          absurd (true≢false (sym ends ∙ ap (λ (u : World Task). u.ended) same ∙ runs))
      go false is later = ap (λ b. not b && list_all (λ x. not (is_last x)) events) is ∙ later

ended_has : (front : List Event) → HasNoEnd (front ++ Z ∷ []) → ⊥
ended_has [] h = true≢false (sym h)
ended_has (e ∷ front) h = ended_has front (and_parts (not (is_last e)) (list_all (λ x. not (is_last x)) (front ++ Z ∷ [])) h).1

-- Events that end with the end of the program have one.
pub not_ended : (events : List Event) → HaveEnded events → HasNoEnd events → ⊥
not_ended events (front, is) more = ended_has front (subst HasNoEnd is more)

-- ---- what is so of events without their end

module _ (setup : ProgramWithInputs) (numbers : Numbering) (events : List Event) where
  twice : before_end (before_end events) ≡ before_end events
  twice = before_end-same (before_end events) (no_end_before events)

  open_before : (t n : ℕ) → IsOpenAt setup numbers (before_end events) t n → IsOpenAt setup numbers events t n
  open_before t n = subst (λ es. (task : Task) × RestIs (rules_of numbers) (opening_of setup numbers).state es t n task × (can_step task ≡ true)) twice

  open_whole : (t n : ℕ) → IsOpenAt setup numbers events t n → IsOpenAt setup numbers (before_end events) t n
  open_whole t n = subst (λ es. (task : Task) × RestIs (rules_of numbers) (opening_of setup numbers).state es t n task × (can_step task ≡ true)) (sym twice)

  stands_before : (t : ℕ) (z : Standing) → StandsInSomeRun setup numbers (before_end events) t z → StandsInSomeRun setup numbers events t z
  stands_before t z = subst (λ es. StandsAfter (rules_of numbers) (opening_of setup numbers).state es t z) twice

-- ---- the clauses

module _ (setup : ProgramWithInputs) (events : List Event) (j : Kept) (s : StandsFor setup events j) where
  happened : List Event
  happened = take j.taken events

  module _ (tasks : Tasks) (steps : List ℕ) (run : HaveRun j.bound j.tasks j.steps tasks steps) where
    kept_on : AreKept setup j.numbers j.bound (take j.taken events) tasks steps j.ended
    kept_on = keeps_run setup j.numbers j.bound (take j.taken events) j.tasks j.steps tasks steps j.ended s.keeps run

    -- With tasks that have run on the judge stands for the same.
    pub stands_on : (new : Kept) → new.tasks ≡ tasks → new.steps ≡ steps → new.numbers ≡ j.numbers → new.bound ≡ j.bound → new.taken ≡ j.taken → new.ended ≡ j.ended → new.verdict ≡ j.verdict → new.lost ≡ false →
        StandsFor setup events new
    stands_on new same_tasks same_steps same_numbers same_bound same_taken same_ended same_verdict memory =
        subst (StandsFor setup events)
        (λ i. record {
          numbers = sym same_numbers i;
          tasks = sym same_tasks i;
          steps = sym same_steps i;
          ended = sym same_ended i;
          bound = sym same_bound i;
          taken = sym same_taken i;
          verdict = sym same_verdict i;
          lost = sym memory i;
        })
        (record { memory = refl; verdict = s.verdict; counts = s.counts; keeps = kept_on })

    -- A task is open exactly where it is not settled.
    pub open_exactly : (t : ℕ) (settled : Bool) → (settled ≡ true → IsSettled tasks t) → (settled ≡ false → IsStuck j.bound tasks steps t) →
        (settled ≡ false) ↔ IsOpenAt setup j.numbers (take j.taken events) t j.bound
    open_exactly t settled rests stuck =
        let (runs, kept) = kept_before setup j.numbers j.bound (take j.taken events) tasks steps j.ended kept_on in (
          λ no. open_before setup j.numbers (take j.taken events) t j.bound
              (stuck_open setup j.numbers j.bound (before_end (take j.taken events)) tasks steps runs (no_end_before (take j.taken events)) kept t (stuck no)),
          λ opened. ⊎_elim
              (λ yes. absurd (settled_closed setup j.numbers j.bound (before_end (take j.taken events)) tasks steps runs (no_end_before (take j.taken events)) kept t (rests yes)
              (open_whole setup j.numbers (take j.taken events) t j.bound opened)))
              (λ no. no)
              (cases_Bool settled),
        )

  pub ends_exactly : (j.ended ≡ true) ↔ HaveEnded (take j.taken events)
  ends_exactly =
      let k = ended_exactly (program_in setup j.numbers) (first_world setup j.numbers) s.keeps.bases (take j.taken events) refl s.keeps.leads in
      (λ h. k.0 (sym s.keeps.follows.ended ∙ h), λ h. s.keeps.follows.ended ∙ k.1 h)

  -- how a task is kept is how it stands after the events that have happened
  pub stands_here : (t : ℕ) → StandsInSomeRun setup j.numbers (take j.taken events) t (seat_of j.tasks t).standing
  stands_here t =
      let (runs, kept) = kept_before setup j.numbers j.bound (take j.taken events) j.tasks j.steps j.ended s.keeps in
      stands_before setup j.numbers (take j.taken events) t (seat_of j.tasks t).standing
      (stands setup j.numbers j.bound (before_end (take j.taken events)) j.tasks j.steps runs (no_end_before (take j.taken events)) kept t)

  pub served_exactly : (t : ℕ) → (is_served (seat_of j.tasks t).standing ≡ true) ↔ StandsIn setup j.numbers (take j.taken events) t is_served
  served_exactly t = (
    λ h. ((seat_of j.tasks t).standing, stands_here t, h),
    λ (k : StandsIn setup j.numbers (take j.taken events) t is_served).
        ap is_served (stands_unique setup j.numbers (take j.taken events) t (seat_of j.tasks t).standing k.0 (stands_here t) k.1) ∙ k.2,
  )

-- the clauses of running a task on, by its answer
pub settle_exact : (setup : ProgramWithInputs) (events : List Event) (old new : Kept) (t : ℕ) (result : Result Bool Memory) → StandsFor setup events old →
    OnOk result (HaveRun old.bound old.tasks old.steps new.tasks new.steps) → IfOk result (λ settled. settled ≡ true → IsSettled new.tasks t) →
    IfOk result (λ settled. settled ≡ false → IsStuck old.bound new.tasks new.steps t) → IfOk result (λ settled. (settled ≡ false) ↔ IsOpenAt setup old.numbers (take old.taken events) t old.bound)
settle_exact setup events old new t (Err memory) s run rests stuck = tt
settle_exact setup events old new t (Ok settled) s run rests stuck = open_exactly setup events old s new.tasks new.steps run t settled rests stuck

pub settle_stands : (setup : ProgramWithInputs) (events : List Event) (old new : Kept) (result : Result Bool Memory) → StandsFor setup events old →
    OnOk result (HaveRun old.bound old.tasks old.steps new.tasks new.steps) → new.numbers ≡ old.numbers → new.bound ≡ old.bound → new.taken ≡ old.taken → new.ended ≡ old.ended → new.verdict ≡ old.verdict →
    OnOk result (new.lost ≡ false) → OnOk result (StandsFor setup events new)
settle_stands setup events old new (Err memory) s run numbers bound taken ended verdict found = tt
settle_stands setup events old new (Ok settled) s run numbers bound taken ended verdict found = stands_on setup events old s new.tasks new.steps run new refl refl numbers bound taken ended verdict found

pub settle_others : (old new : Kept) (t : ℕ) (result : Result Bool Memory) → OnOk result (HaveRun old.bound old.tasks old.steps new.tasks new.steps) → IsSettled old.tasks t → OnOk result (IsSettled new.tasks t)
settle_others old new t (Err memory) run h = tt
settle_others old new t (Ok settled) run h = settled_stays old.bound run t h

-- ---- a judge that has found its events feasible

well_counted : (events : List Event) (taken : ℕ) (v : Verdict) → is_feasible v ≡ true → Counts events taken v → (v ≡ Feasible) × (taken ≡ length events)
well_counted events taken Feasible h c = (refl, c)
well_counted events taken (Infeasible at why) h c = absurd (true≢false (sym h))
well_counted events taken (Unsettled at task) h c = absurd (true≢false (sym h))

module _ (setup : ProgramWithInputs) (events : List Event) (j : Kept) (s : StandsFor setup events j) (well : is_feasible j.verdict ≡ true) where
  pub all_feasible : VerdictIs setup j.numbers j.bound events Feasible
  all_feasible = subst (VerdictIs setup j.numbers j.bound events) (well_counted events j.taken j.verdict well s.counts).0 s.verdict

  pub all_taken : take j.taken events ≡ events
  all_taken = ap (λ n. take n events) (well_counted events j.taken j.verdict well s.counts).1 ∙ take-length events

  -- What is kept of a settled task is its view.
  pub view_settled : (t : ℕ) → HasNoEnd events → IsSettled j.tasks t → ViewIs setup j.numbers events t (view_at j.tasks t)
  view_settled t more settled = view_kept setup j.numbers events t (seat_of j.tasks t)
      (seat_settled setup j.numbers j.bound events more j.tasks j.steps j.ended
      (subst (λ es. AreKept setup j.numbers j.bound es j.tasks j.steps j.ended) all_taken s.keeps) t settled)

  -- What is kept stands for all the events.
  pub kept_all : AreKept setup j.numbers j.bound events j.tasks j.steps j.ended
  kept_all = subst (λ es. AreKept setup j.numbers j.bound es j.tasks j.steps j.ended) all_taken s.keeps

  -- A settled task is not open.
  pub settled_shut : (t : ℕ) → HasNoEnd events → IsSettled j.tasks t → IsOpenAt setup j.numbers events t j.bound → ⊥
  settled_shut t more settled = settled_closed setup j.numbers j.bound events j.tasks j.steps j.ended more kept_all t settled

  -- The program has ended exactly where its end is among the events.
  pub no_end : j.ended ≡ false → HasNoEnd events
  no_end running = open_no_end (program_in setup j.numbers) (first_world setup j.numbers) kept_all.bases events kept_all.leads (sym kept_all.follows.ended ∙ running)

  pub an_end : j.ended ≡ true → HasNoEnd events → ⊥
  an_end ended more =
      not_ended events (subst HaveEnded all_taken ((ends_exactly setup events j s).0 ended)) more
