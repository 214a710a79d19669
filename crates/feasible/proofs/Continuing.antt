-- The judge's step: its verdict is that of the events with one more, and what it keeps stands for those that have happened.
use Rattle.std.proofs.Common.{◌≡◌, ℕ, ◌+◌, ◌<◌, ◌≤◌, Bool, true, false, List, [], ◌∷◌, ◌++◌, length, take, refl, sym, ap, ◌∙◌, subst, arith, Some, None, length-append, true≢false, ⊎_elim, Result, Ok, Err}
use Rattle.std.specs.Prelude.{All, slice_index, ◌||◌, IfOk, OnOk}
use Rattle.std.proofs.lemmas.Bool.{cases_Bool}
use Rattle.std.proofs.lemmas.List.{take-append-le, take_all}
use Rattle.std.proofs.lemmas.List.Elements.{All-weaker}
use Rattle.std.proofs.Math.Seq.{take-length, take-append_seam}
use Rattle.ada_tree.specs.declared.shortage.Memory.{Memory}
use Rattle.event_machine.specs.declared.Event.{Event}
use Rattle.event_machine.specs.States.{is_live}
use Rattle.event_machine.specs.Tallies.{HasNoEnd}
use Rattle.event_machine.specs.Worlds.{is_last}
use Rattle.syn_event.specs.Numbering.{Numbering}
use Rattle.task_model.proofs.Following.{feasible_exactly}
use Rattle.task_model.specs.Machine.{ProgramWithInputs, Tasks}
use Rattle.task_machine.specs.declared.verdict.Verdict.{Verdict}
use Rattle.task_machine.specs.declared.verdict.Verdict.TheVariants.{Feasible, Infeasible, Unsettled}
use Rattle.task_machine.specs.Conditions.{needed_of, first_failing}
use Rattle.task_machine.specs.Judging.{VerdictIs, AreViews}
use Rattle.task_machine.specs.Table.{seat_of}
use Rattle.task_machine.proofs.Judged.{IsSeat, views_kept}
use Rattle.task_machine.proofs.Verdicts.{verdict_on, verdict_refused, verdict_held, refused_stays, held_stays}
use Rattle.feasible.specs.inner.Deciding.{IsDecided, Leaves, GoesOn, taken_with, ended_with}
use Rattle.feasible.specs.Failing.{view_at}
use Rattle.feasible.specs.Keeping.{AreKept, Counts, IsSettled, StandsFor, is_feasible, is_infeasible}
use Rattle.feasible.specs.Kept.{Kept}
use Rattle.feasible.proofs.Asking.{asked_all}
use Rattle.feasible.proofs.Judging.{keeps_run, stands, rests, none_open, stuck_open, happens_here, keeps_event}

module _ (setup : ProgramWithInputs) (numbers : Numbering) (bound : ℕ) (events : List Event) (more : HasNoEnd events) where
  -- ---- what is kept, seen

  module _ (tasks : Tasks) (steps : List ℕ) (ended : Bool) (k : AreKept setup numbers bound events tasks steps ended) where
    pub seat_settled : (t : ℕ) → IsSettled tasks t → IsSeat setup numbers events t (seat_of tasks t)
    seat_settled t settled = record {
      standing = stands setup numbers bound events tasks steps ended more k t;
      rests = λ free. (slice_index steps t, rests setup numbers bound events tasks steps ended more k t free, settled (ap is_live free));
    }

    pub views_settled : (e : Event) → All (IsSettled tasks) (needed_of numbers e) → AreViews setup numbers events e (view_at tasks)
    views_settled e settled = views_kept setup numbers events e (λ t. seat_of tasks t) (stands setup numbers bound events tasks steps ended more k)
        (All-weaker (IsSettled tasks) (λ t. IsSeat setup numbers events t (seat_of tasks t)) seat_settled (needed_of numbers e) settled)

  -- ---- one event

  module _ (e : Event) (taken : ℕ) (ended : Bool) (well : VerdictIs setup numbers bound events Feasible) (count : taken ≡ length events) where
    one_more : length (events ++ e ∷ []) ≡ taken + 1
    one_more = length-append events (e ∷ []) ∙ ap (λ n. n + 1) (sym count)

    front : take taken (events ++ e ∷ []) ≡ events
    front = ap (λ n. take n (events ++ e ∷ [])) count ∙ take-append_seam events (e ∷ [])

    whole : take (taken + 1) (events ++ e ∷ []) ≡ events ++ e ∷ []
    whole = ap (λ n. take n (events ++ e ∷ [])) (sym one_more) ∙ take-length (events ++ e ∷ [])

    at_place : (at : ℕ) → at ≡ taken + 1 → length events + 1 ≡ at
    at_place at h = ap (λ n. n + 1) (sym count) ∙ sym h

    within : taken < length (events ++ e ∷ [])
    within = let h : length (events ++ e ∷ []) ≡ taken + 1 = one_more in omega arith

    leaves_on : (found : Tasks) (counted : List ℕ) (tasks' : Tasks) (steps' : List ℕ) (v : Verdict) → AreKept setup numbers bound events found counted ended →
        Leaves numbers bound taken e found counted tasks' steps' v → GoesOn setup numbers bound events e taken ended tasks' steps' v
    leaves_on found counted tasks' steps' Feasible k (settled, none, acts, anew) =
        let fails : first_failing numbers (view_at found) e ≡ None = sym (asked_all found numbers e k.size) ∙ none in
        let next : AreKept setup numbers bound (events ++ e ∷ []) tasks' steps' (is_last e || ended) =
        keeps_event setup numbers bound events found counted ended more k e tasks' steps' (happens_here setup numbers bound events found counted ended more k e fails) acts anew in
        record {
          verdict = verdict_on setup numbers bound events e well (none_open setup numbers bound events found counted ended more k (needed_of numbers e) settled)
              ((feasible_exactly setup numbers (events ++ e ∷ [])).1 (next.bases, next.leads));
          counts = sym one_more;
          keeps = subst (λ es. AreKept setup numbers bound es tasks' steps' (is_last e || ended)) (sym whole) next;
        }
    leaves_on found counted tasks' steps' (Infeasible at why) k (place, settled, some', same_tasks, same_steps) =
        let fails : first_failing numbers (view_at found) e ≡ Some why = sym (asked_all found numbers e k.size) ∙ some' in
        record {
          verdict = subst (λ n. VerdictIs setup numbers bound (events ++ e ∷ []) (Infeasible n why)) (at_place at place)
              (verdict_refused setup numbers bound events e (view_at found) why more well (none_open setup numbers bound events found counted ended more k (needed_of numbers e) settled)
              (views_settled found counted ended k e settled) fails);
          counts = (place, within);
          keeps = subst (λ es. AreKept setup numbers bound es tasks' steps' ended) (sym front)
              (subst (λ ts. AreKept setup numbers bound events ts steps' ended) (sym same_tasks) (subst (λ ss. AreKept setup numbers bound events found ss ended) (sym same_steps) k));
        }
    leaves_on found counted tasks' steps' (Unsettled at task) k (place, stuck, same_tasks, same_steps) = record {
      verdict = subst (λ n. VerdictIs setup numbers bound (events ++ e ∷ []) (Unsettled n task)) (at_place at place)
          (verdict_held setup numbers bound events e task stuck.earlier stuck.later well stuck.order
          (none_open setup numbers bound events found counted ended more k stuck.earlier stuck.settled) (stuck_open setup numbers bound events found counted ended more k task stuck.stuck));
      counts = (place, within);
      keeps = subst (λ es. AreKept setup numbers bound es tasks' steps' ended) (sym front)
          (subst (λ ts. AreKept setup numbers bound events ts steps' ended) (sym same_tasks) (subst (λ ss. AreKept setup numbers bound events found ss ended) (sym same_steps) k));
    }

    -- What the code decides goes on.
    pub decided : (tasks : Tasks) (steps : List ℕ) (tasks' : Tasks) (steps' : List ℕ) (v : Verdict) → AreKept setup numbers bound events tasks steps ended →
        IsDecided numbers bound taken e tasks steps tasks' steps' v → GoesOn setup numbers bound events e taken ended tasks' steps' v
    decided tasks steps tasks' steps' v k d =
        leaves_on d.found d.counted tasks' steps' v (keeps_run setup numbers bound events tasks steps d.found d.counted ended k d.run) d.leaves

-- ---- what a judge stands for

-- A judge that has found its events feasible has taken them all.
taken_all : (events : List Event) (taken : ℕ) (v : Verdict) → is_feasible v ≡ true → Counts events taken v → (v ≡ Feasible) × (taken ≡ length events)
taken_all events taken Feasible h c = (refl, c)
taken_all events taken (Infeasible at why) h c = absurd (true≢false (sym h))
taken_all events taken (Unsettled at task) h c = absurd (true≢false (sym h))

-- One more event behind a feasible verdict.
pub goes_on : (setup : ProgramWithInputs) (events : List Event) (j : Kept) (e : Event) (tasks' : Tasks) (steps' : List ℕ) (v : Verdict) → StandsFor setup events j → HasNoEnd events → is_feasible j.verdict ≡ true →
    IsDecided j.numbers j.bound j.taken e j.tasks j.steps tasks' steps' v → GoesOn setup j.numbers j.bound events e j.taken j.ended tasks' steps' v
goes_on setup events j e tasks' steps' v s more well d =
    let k = taken_all events j.taken j.verdict well s.counts in
    decided setup j.numbers j.bound events more e j.taken j.ended (subst (VerdictIs setup j.numbers j.bound events) k.0 s.verdict) k.1 j.tasks j.steps tasks' steps' v
    (subst (λ es. AreKept setup j.numbers j.bound es j.tasks j.steps j.ended) (ap (λ n. take n events) k.1 ∙ take-length events) s.keeps) d

stays_kept : (events more : List Event) (taken : ℕ) → taken < length events → take taken events ≡ take taken (events ++ more)
stays_kept events more taken less = sym (take-append-le taken events more (omega arith))

stays_short : (events more : List Event) (taken : ℕ) → taken < length events → taken < length (events ++ more)
stays_short events more taken less = let h : length (events ++ more) ≡ length events + length more = length-append events more in omega arith

verdict_stays : (setup : ProgramWithInputs) (numbers : Numbering) (bound : ℕ) (events more : List Event) (taken : ℕ) (v : Verdict) → is_feasible v ≡ false → VerdictIs setup numbers bound events v → Counts events taken v →
    VerdictIs setup numbers bound (events ++ more) v × Counts (events ++ more) taken v × (take taken events ≡ take taken (events ++ more))
verdict_stays setup numbers bound events more taken Feasible h v c = absurd (true≢false h)
verdict_stays setup numbers bound events more taken (Infeasible at why) h v c =
    (refused_stays setup numbers bound events more at why v, (c.0, stays_short events more taken c.1), stays_kept events more taken c.1)
verdict_stays setup numbers bound events more taken (Unsettled at task) h v c =
    (held_stays setup numbers bound events more at task v, (c.0, stays_short events more taken c.1), stays_kept events more taken c.1)

-- Behind another verdict the judge stands for whatever comes.
pub stands_still : (setup : ProgramWithInputs) (events more : List Event) (j : Kept) → StandsFor setup events j → is_feasible j.verdict ≡ false → StandsFor setup (events ++ more) j
stands_still setup events more j s h =
    let k = verdict_stays setup j.numbers j.bound events more j.taken j.verdict h s.verdict s.counts in
    record {
      memory = s.memory;
      verdict = k.0;
      counts = k.1;
      keeps = subst (λ es. AreKept setup j.numbers j.bound es j.tasks j.steps j.ended) k.2 s.keeps;
    }

-- ---- the clauses of the judge's step

-- the verdict of a judge that decided
pub verdict_next : (setup : ProgramWithInputs) (events : List Event) (old : Kept) (e : Event) (tasks' : Tasks) (steps' : List ℕ) (result : Result Verdict Memory) → StandsFor setup events old → HasNoEnd events →
    (is_feasible old.verdict ≡ false → IfOk result (λ v. v ≡ old.verdict)) →
    (is_feasible old.verdict ≡ true → IfOk result (IsDecided old.numbers old.bound old.taken e old.tasks old.steps tasks' steps')) →
    IfOk result (VerdictIs setup old.numbers old.bound (events ++ e ∷ []))
verdict_next setup events old e tasks' steps' (Err memory) s more same d = tt
verdict_next setup events old e tasks' steps' (Ok v) s more same d = ⊎_elim
    (λ well. (goes_on setup events old e tasks' steps' v s more well (d well)).verdict)
    (λ other. subst (VerdictIs setup old.numbers old.bound (events ++ e ∷ [])) (sym (same other)) (stands_still setup events (e ∷ []) old s other).verdict)
    (cases_Bool (is_feasible old.verdict))

-- and what it stands for
pub stands_next : (setup : ProgramWithInputs) (events : List Event) (old new : Kept) (e : Event) (result : Result Verdict Memory) → StandsFor setup events old → HasNoEnd events →
    (is_feasible old.verdict ≡ false → new ≡ old) →
    (is_feasible old.verdict ≡ true → IfOk result (IsDecided old.numbers old.bound old.taken e old.tasks old.steps new.tasks new.steps)) →
    (is_feasible old.verdict ≡ true → IfOk result (λ v. new.taken ≡ taken_with v old.taken)) →
    (is_feasible old.verdict ≡ true → IfOk result (λ v. new.ended ≡ ended_with v e old.ended)) →
    IfOk result (λ v. v ≡ new.verdict) → new.numbers ≡ old.numbers → new.bound ≡ old.bound → OnOk result (new.lost ≡ false) → OnOk result (StandsFor setup (events ++ e ∷ []) new)
stands_next setup events old new e (Err memory) s more stays d taken ended last numbers bound found = tt
stands_next setup events old new e (Ok v) s more stays d taken ended last numbers bound found = ⊎_elim
    (λ well. decided_on (goes_on setup events old e new.tasks new.steps v s more well (d well)) (taken well) (ended well))
    (λ other. subst (StandsFor setup (events ++ e ∷ [])) (sym (stays other)) (stands_still setup events (e ∷ []) old s other))
    (cases_Bool (is_feasible old.verdict))
  where
    decided_on : GoesOn setup old.numbers old.bound events e old.taken old.ended new.tasks new.steps v → new.taken ≡ taken_with v old.taken → new.ended ≡ ended_with v e old.ended →
        StandsFor setup (events ++ e ∷ []) new
    decided_on g t n = record {
      memory = found;
      verdict = verdict_at;
      counts = subst (Counts (events ++ e ∷ []) new.taken) last (subst (λ k. Counts (events ++ e ∷ []) k v) (sym t) g.counts);
      keeps = kept_at;
    }
      where
        verdict_at : VerdictIs setup new.numbers new.bound (events ++ e ∷ []) new.verdict
        verdict_at = subst (λ m. VerdictIs setup m new.bound (events ++ e ∷ []) new.verdict) (sym numbers)
            (subst (λ b. VerdictIs setup old.numbers b (events ++ e ∷ []) new.verdict) (sym bound) (subst (VerdictIs setup old.numbers old.bound (events ++ e ∷ [])) last g.verdict))

        kept_at : AreKept setup new.numbers new.bound (take new.taken (events ++ e ∷ [])) new.tasks new.steps new.ended
        kept_at = subst (λ m. AreKept setup m new.bound (take new.taken (events ++ e ∷ [])) new.tasks new.steps new.ended) (sym numbers)
            (subst (λ b. AreKept setup old.numbers b (take new.taken (events ++ e ∷ [])) new.tasks new.steps new.ended) (sym bound)
            (subst (λ k. AreKept setup old.numbers old.bound (take k (events ++ e ∷ [])) new.tasks new.steps new.ended) (sym t)
            (subst (AreKept setup old.numbers old.bound (take (taken_with v old.taken) (events ++ e ∷ [])) new.tasks new.steps) (sym n) g.keeps)))

-- the needed tasks of an event that is refused are settled
settled_leaves : (numbers : Numbering) (bound taken : ℕ) (e : Event) (tasks : Tasks) (steps : List ℕ) (tasks' : Tasks) (steps' : List ℕ) (v : Verdict) → Leaves numbers bound taken e tasks steps tasks' steps' v →
    is_infeasible v ≡ true → All (IsSettled tasks') (needed_of numbers e)
settled_leaves numbers bound taken e tasks steps tasks' steps' Feasible l h = absurd (true≢false (sym h))
settled_leaves numbers bound taken e tasks steps tasks' steps' (Infeasible at why) (place, settled, some', same_tasks, same_steps) h =
    subst (λ ts. All (IsSettled ts) (needed_of numbers e)) (sym same_tasks) settled
settled_leaves numbers bound taken e tasks steps tasks' steps' (Unsettled at task) l h = absurd (true≢false (sym h))

pub settled_next : (old : Kept) (e : Event) (tasks' : Tasks) (steps' : List ℕ) (result : Result Verdict Memory) →
    (is_feasible old.verdict ≡ true → IfOk result (IsDecided old.numbers old.bound old.taken e old.tasks old.steps tasks' steps')) →
    is_feasible old.verdict ≡ true → IfOk result (λ v. is_infeasible v ≡ true → All (IsSettled tasks') (needed_of old.numbers e))
settled_next old e tasks' steps' (Err memory) d well = tt
settled_next old e tasks' steps' (Ok v) d well = λ h. let r = d well in
    settled_leaves old.numbers old.bound old.taken e r.found r.counted tasks' steps' v r.leaves h

-- the verdict of a judge that stands for all events
pub verdict_whole : (setup : ProgramWithInputs) (events : List Event) (n : ℕ) (j : Kept) (numbers : Numbering) (bound : ℕ) (v : Verdict) → StandsFor setup (take n events) j → length events ≤ n →
    j.numbers ≡ numbers → j.bound ≡ bound → v ≡ j.verdict → VerdictIs setup numbers bound events v
verdict_whole setup events n j numbers bound v s all same_numbers same_bound last =
    subst (λ es. VerdictIs setup numbers bound es v) (take_all n events all)
    (subst (λ m. VerdictIs setup m bound (take n events) v) same_numbers (subst (λ b. VerdictIs setup j.numbers b (take n events) v) same_bound
    (subst (VerdictIs setup j.numbers j.bound (take n events)) (sym last) s.verdict)))
