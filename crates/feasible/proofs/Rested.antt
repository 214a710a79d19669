-- Which tasks the answer to an event leaves settled.
use Rattle.std.proofs.Common.{◌≡◌, ℕ, Bool, true, false, not, ◌&&◌, ◌||◌, ◌==◌, List, sym, refl, ap, ◌∙◌, subst, true≢false, ⊎_elim, Result, Ok, Err, None}
use Rattle.std.specs.Prelude.{All, IfOk}
use Rattle.std.proofs.lemmas.Bool.{cases_Bool}
use Rattle.ada_tree.specs.declared.shortage.Memory.{Memory}
use Rattle.event_machine.specs.declared.Event.{Event}
use Rattle.event_machine.specs.declared.Event.TheVariants.{R, E, S, D, C, T, F, X, B, Z}
use Rattle.event_machine.specs.Applying.{is_first}
use Rattle.event_machine.specs.States.{Seat, is_live, is_closed, is_served_by}
use Rattle.event_machine.specs.Tallies.{HasNoEnd}
use Rattle.event_machine.specs.Worlds.{happens, changes, is_last, acted}
use Rattle.event_machine.proofs.Basics.{split}
use Rattle.event_machine.proofs.Standings.{is-Live}
use Rattle.syn_event.specs.Numbering.{Numbering, owner_of}
use Rattle.task_model.specs.Laws.{program_in}
use Rattle.task_model.specs.Machine.{ProgramWithInputs, Tasks, rules_of}
use Rattle.task_model.specs.Stands.{can_step}
use Rattle.task_model.specs.TaskOps.{task_ops}
use Rattle.task_model.specs.Tasks.{Task}
use Rattle.task_machine.specs.Conditions.{needed_of, first_failing}
use Rattle.task_machine.specs.declared.verdict.Verdict.{Verdict}
use Rattle.task_machine.specs.declared.verdict.Verdict.TheVariants.{Feasible, Infeasible, Unsettled}
use Rattle.task_machine.specs.Table.{seat_of}
use Rattle.feasible.specs.inner.Deciding.{IsDecided, Leaves}
use Rattle.feasible.specs.inner.Needs.{HaveRun}
use Rattle.feasible.specs.Failing.{view_at}
use Rattle.feasible.specs.Keeping.{AreKept, IsSettled, StandsFor, is_feasible}
use Rattle.feasible.specs.Kept.{Kept}
use Rattle.feasible.specs.Rested.{HaveRested, is_changed}
use Rattle.feasible.proofs.Asking.{asked_all}
use Rattle.feasible.proofs.Resting.{kept_all}
use Rattle.feasible.proofs.Judging.{keeps_run, happens_here, unchanged_kept, callers_run}
use Rattle.feasible.proofs.Running.{settled_stays}

-- ---- those that the event needs

-- the end of the program leaves the tasks as they are
end_leaves : (numbers : Numbering) (e : Event) (tasks tasks' : Tasks) → is_last e ≡ true → tasks' ≡ acted (rules_of numbers) tasks e → tasks ≡ tasks'
end_leaves numbers Z tasks tasks' h acts = sym acts
end_leaves numbers _ tasks tasks' h acts = absurd (true≢false (sym h))

rested_leaves : (numbers : Numbering) (bound taken : ℕ) (e : Event) (tasks : Tasks) (steps : List ℕ) (tasks' : Tasks) (steps' : List ℕ) (v : Verdict) → Leaves numbers bound taken e tasks steps tasks' steps' v →
    HaveRested numbers e tasks' v
rested_leaves numbers bound taken e tasks steps tasks' steps' Feasible (settled, none, acts, anew) = λ is.
    subst (λ ts. All (IsSettled ts) (needed_of numbers e)) (end_leaves numbers e tasks tasks' is acts) settled
rested_leaves numbers bound taken e tasks steps tasks' steps' (Infeasible at why) (place, settled, some', same_tasks, same_steps) =
    subst (λ ts. All (IsSettled ts) (needed_of numbers e)) (sym same_tasks) settled
rested_leaves numbers bound taken e tasks steps tasks' steps' (Unsettled at task) (place, stuck, same_tasks, same_steps) =
    (stuck.earlier, stuck.later, stuck.order, subst (λ ts. All (IsSettled ts) stuck.earlier) (sym same_tasks) stuck.settled)

pub rested_next : (old : Kept) (e : Event) (tasks' : Tasks) (steps' : List ℕ) (result : Result Verdict Memory) →
    (is_feasible old.verdict ≡ true → IfOk result (IsDecided old.numbers old.bound old.taken e old.tasks old.steps tasks' steps')) →
    is_feasible old.verdict ≡ true → IfOk result (HaveRested old.numbers e tasks')
rested_next old e tasks' steps' (Err memory) d well = tt
rested_next old e tasks' steps' (Ok v) d well = let r = d well in
    rested_leaves old.numbers old.bound old.taken e r.found r.counted tasks' steps' v r.leaves

-- ---- the others

-- What an event that happens changes is the same of tasks that have run on.
changes_on : (setup : ProgramWithInputs) (numbers : Numbering) (tasks found : ℕ → Seat Task) → ((t : ℕ) → (found t).standing ≡ (tasks t).standing) →
    ((t : ℕ) → is_live (found t).standing ≡ true → task_ops.callers (found t).local ≡ task_ops.callers (tasks t).local) →
    (e : Event) → happens (program_in setup numbers) found e ≡ true → (t : ℕ) → changes task_ops (owner_of numbers) found e t ≡ changes task_ops (owner_of numbers) tasks e t
changes_on setup numbers tasks found standing callers (R c e i) h t = refl
changes_on setup numbers tasks found standing callers (E a) h t = ap (λ cs. (t == a) || is_first t cs) (callers a (split h).0)
changes_on setup numbers tasks found standing callers (S a) h t = refl
changes_on setup numbers tasks found standing callers (D a k) h t = refl
changes_on setup numbers tasks found standing callers (C c e i) h t = refl
changes_on setup numbers tasks found standing callers (T c e i) h t = refl
changes_on setup numbers tasks found standing callers (F c e i) h t = refl
changes_on setup numbers tasks found standing callers (X a) h t = refl
changes_on setup numbers tasks found standing callers (B u x) h t =
    λ i. (t == u) || (not (is_closed (standing x i)) && ((t == x) || is_served_by x (standing t i)))
changes_on setup numbers tasks found standing callers Z h t = refl

module _ (setup : ProgramWithInputs) (numbers : Numbering) (bound : ℕ) (events : List Event) (more : HasNoEnd events) (e : Event) (taken : ℕ) (ended : Bool)
    (tasks : Tasks) (steps : List ℕ) (found : Tasks) (counted : List ℕ) (k : AreKept setup numbers bound events tasks steps ended) (run : HaveRun bound tasks steps found counted) where
  on : AreKept setup numbers bound events found counted ended
  on = keeps_run setup numbers bound events tasks steps found counted ended k run

  same_callers : (t : ℕ) → is_live (seat_of found t).standing ≡ true → task_ops.callers (seat_of found t).local ≡ task_ops.callers (seat_of tasks t).local
  same_callers t free =
      callers_run setup numbers bound events tasks steps ended more k found counted run t (sym (run.standing t) ∙ is-Live (seat_of found t).standing free)

  -- A settled task that the event does not change stays settled.
  others_leave : (tasks' : Tasks) (steps' : List ℕ) (v : Verdict) → Leaves numbers bound taken e found counted tasks' steps' v → (t : ℕ) → IsSettled tasks t →
      (is_feasible v ≡ true → is_changed numbers tasks e t ≡ false) → IsSettled tasks' t
  others_leave tasks' steps' Feasible (needed, none, acts, anew) t settled same =
      let fails : first_failing numbers (view_at found) e ≡ None = sym (asked_all found numbers e on.size) ∙ none in
      let happens' = happens_here setup numbers bound events found counted ended more on e fails in
      let stays : seat_of tasks' t ≡ seat_of found t = unchanged_kept setup numbers bound events found counted ended more on e tasks' happens' acts t
      (changes_on setup numbers (λ u. seat_of tasks u) (λ u. seat_of found u) run.standing same_callers e happens' t ∙ same refl) in
      subst (λ (x : Seat Task). is_live x.standing ≡ true → can_step x.local ≡ false) (sym stays) (settled_stays bound run t settled)
  others_leave tasks' steps' (Infeasible at why) (place, needed, some', same_tasks, same_steps) t settled same =
      subst (λ ts. IsSettled ts t) (sym same_tasks) (settled_stays bound run t settled)
  others_leave tasks' steps' (Unsettled at task) (place, stuck, same_tasks, same_steps) t settled same =
      subst (λ ts. IsSettled ts t) (sym same_tasks) (settled_stays bound run t settled)

pub others_next : (setup : ProgramWithInputs) (events : List Event) (old : Kept) (e : Event) (tasks' : Tasks) (steps' : List ℕ) (result : Result Verdict Memory) → StandsFor setup events old → HasNoEnd events →
    (is_feasible old.verdict ≡ false → tasks' ≡ old.tasks) →
    (is_feasible old.verdict ≡ true → IfOk result (IsDecided old.numbers old.bound old.taken e old.tasks old.steps tasks' steps')) →
    (t : ℕ) → IsSettled old.tasks t → IfOk result (λ v. (is_feasible v ≡ true → is_changed old.numbers old.tasks e t ≡ false) → IsSettled tasks' t)
others_next setup events old e tasks' steps' (Err memory) s more stays d t settled = tt
others_next setup events old e tasks' steps' (Ok v) s more stays d t settled = ⊎_elim
    (λ (well : is_feasible old.verdict ≡ true). let r = d well in
    others_leave setup old.numbers old.bound events more e old.taken old.ended old.tasks old.steps r.found r.counted (kept_all setup events old s well) r.run tasks' steps' v r.leaves t settled)
    (λ (other : is_feasible old.verdict ≡ false). λ same. subst (λ ts. IsSettled ts t) (sym (stays other)) settled)
    (cases_Bool (is_feasible old.verdict))
