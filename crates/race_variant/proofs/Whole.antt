-- What was found after the events for which a judge stands are their variants.
use Rattle.std.proofs.Common.{◌≡◌, ◌↔◌, ℕ, ◌<◌, ◌≤◌, Bool, true, false, List, [], ◌∷◌, ◌++◌, length, take, refl, sym, ap, ◌∙◌, subst, arith, true≢false, ⊎_elim, inl, inr, Option, Some, None, Result}
use Rattle.std.specs.Prelude.{slice_get, OnOk}
use Rattle.ada_tree.specs.declared.shortage.Memory.{Memory}
use Rattle.std.proofs.lemmas.Bool.{cases_lt}
use Rattle.std.proofs.lemmas.List.{get_or_past}
use Rattle.std.proofs.lemmas.Option.{slice_get_within}
use Rattle.event_machine.specs.declared.Event.{Event}
use Rattle.event_machine.specs.declared.Standing.TheVariants.{Live, Completed as Over}
use Rattle.event_machine.specs.States.{Seat, completed, is_live}
use Rattle.event_machine.specs.Tallies.{HasNoEnd}
use Rattle.syn_event.specs.Numbering.{Numbering}
use Rattle.task_model.specs.Machine.{ProgramWithInputs}
use Rattle.task_model.specs.Starting.{nobody}
use Rattle.task_model.specs.Tasks.{Task}
use Rattle.task_machine.specs.declared.verdict.Verdict.TheVariants.{Feasible}
use Rattle.task_machine.specs.Conditions.{all_hold}
use Rattle.task_machine.specs.Judging.{VerdictIs}
use Rattle.task_machine.specs.Table.{seat_of}
use Rattle.task_machine.specs.Views.{IsOpenAt, StandsInSomeRun}
use Rattle.task_machine.proofs.Judged.{rest_stands, stands_unique}
use Rattle.feasible.specs.Failing.{view_at}
use Rattle.feasible.specs.Keeping.{StandsFor, is_feasible}
use Rattle.feasible.specs.Kept.{Kept}
use Rattle.feasible.proofs.Resting.{all_feasible, all_taken, view_settled, settled_shut, stands_here, no_end, an_end}
use Rattle.common_lemmas.proofs.Results.{on_ok}
use Rattle.race_variant.specs.Variants.{AreVariants, CanFollow, HoldsUp}
use Rattle.race_variant.specs.inner.Passing.{AreAnswers, AreTold, seen_by, seen_at, AreFound}
use Rattle.race_variant.proofs.Telling.{get_none, get_not}
use Rattle.race_variant.proofs.Next.{IsSeen, next_exactly, open_holds, holds_open}
use Rattle.race_variant.proofs.Ascents.{none_in}
use Rattle.race_variant.proofs.Existing.{below_ten}

module _ (setup : ProgramWithInputs) (events : List Event) (j : Kept) (s : StandsFor setup events j) (well : is_feasible j.verdict ≡ true) (skip : Option Event) where
  -- After the end of the program there are none.
  pub none_left : j.ended ≡ true → AreVariants setup j.numbers j.bound events skip [] []
  none_left ended = record {
    members = λ e. (λ k. absurd (none_in e k), λ (h : CanFollow setup j.numbers j.bound events e × (skip ≡ Some e → ⊥)). absurd (an_end setup events j s well ended h.0.0));
    ascending = λ i k d less below. let l : k < 0 = below in absurd (omega arith);
    open_tasks = λ t. (λ k. absurd (none_in t k), λ (h : HoldsUp setup j.numbers j.bound events t). absurd (an_end setup events j s well ended h.0));
    rising = λ i k d less below. let l : k < 0 = below in absurd (omega arith);
  }

  module _ (running : j.ended ≡ false) (settled : List Bool) (unsettled : List ℕ) (told : AreTold setup j.numbers j.bound events settled unsettled) (size : length settled ≡ length j.numbers.tasks)
      (answers : AreAnswers j.tasks settled) where
    more : HasNoEnd events
    more = no_end setup events j s well running

    -- past the last task all have completed
    past_last : (t : ℕ) → length settled ≤ t → StandsInSomeRun setup j.numbers events t Over
    past_last t past = subst (StandsInSomeRun setup j.numbers events t)
        (ap (λ (x : Seat Task). x.standing) (get_or_past j.tasks t (completed nobody) (let a : length j.tasks ≡ length j.numbers.tasks = s.keeps.size in omega (arith, size))))
        (subst (λ es. StandsInSomeRun setup j.numbers es t (seat_of j.tasks t).standing) (all_taken setup events j s well) (stands_here setup events j s t))

    -- an open task is one of the program's
    open_within : (t : ℕ) → IsOpenAt setup j.numbers events t j.bound → t < length settled
    open_within t opened = ⊎_elim
        (λ (k : t < length settled). k)
        (λ (k : length settled ≤ t).
        let live : Over ≡ Live = stands_unique setup j.numbers events t Over Live (past_last t k) (rest_stands setup j.numbers events t j.bound opened.0 opened.1) in
        absurd (true≢false (sym (ap is_live live))))
        (cases_lt t (length settled))

    -- what is seen
    seen_so : (t : ℕ) (o : Option Bool) → slice_get settled t ≡ o → IsSeen setup j.numbers j.bound events t (seen_by o (view_at j.tasks t))
    seen_so t (Some true) is = inr (settled_shut setup events j s well t more (answers t is), view_settled setup events j s well t more (answers t is))
    seen_so t (Some false) is = inl ((told.answers t (slice_get_within settled t false is)).0 is, refl)
    seen_so t None is = inr (
      λ opened. let less : t < length settled = open_within t opened in absurd (get_not settled t less is),
      (Over, past_last t (get_none settled t is), refl),
    )

    seen : (t : ℕ) → IsSeen setup j.numbers j.bound events t (seen_at j.tasks settled t)
    seen t = seen_so t (slice_get settled t) refl

    -- What was found are the variants.
    pub all_found : (found : List Event) → AreFound j.numbers (seen_at j.tasks settled) skip 10 0 found → AreVariants setup j.numbers j.bound events skip found unsettled
    all_found found h = record {
      members = λ e. (
        λ k. let m = (h.members e).0 k in ((more, (next e).1 m.0), m.2),
        λ (m : CanFollow setup j.numbers j.bound events e × (skip ≡ Some e → ⊥)). (h.members e).1 ((next e).0 m.0.1, inl (below_ten e), m.1),
      );
      ascending = h.ascending;
      open_tasks = λ t. (
        λ k. let m = (told.members t).0 k in
            open_holds setup j.numbers j.bound events (all_feasible setup events j s well) more t (let l : t < length settled = slice_get_within settled t false m in omega (arith, size))
            ((told.answers t (slice_get_within settled t false m)).0 m),
        λ (m : HoldsUp setup j.numbers j.bound events t).
            let opened = holds_open setup j.numbers j.bound events (all_feasible setup events j s well) more t m in
            (told.members t).1 ((told.answers t (open_within t opened)).1 opened),
      );
      rising = told.rising;
    }
      where
        next : (e : Event) → VerdictIs setup j.numbers j.bound (events ++ e ∷ []) Feasible ↔ (all_hold j.numbers (seen_at j.tasks settled) e ≡ true)
        next = next_exactly setup j.numbers j.bound events (all_feasible setup events j s well) more (seen_at j.tasks settled) seen

-- What was found by a judge that has run its tasks on, in the numbers that it had before.
pub found_for : (setup : ProgramWithInputs) (events : List Event) (old new : Kept) (skip : Option Event) (settled : List Bool) (unsettled : List ℕ) (found : List Event) (result : Result (Unit {0}) Memory) →
    StandsFor setup events old → StandsFor setup events new → is_feasible old.verdict ≡ true → new.verdict ≡ old.verdict → new.ended ≡ false → new.numbers ≡ old.numbers → new.bound ≡ old.bound →
    AreTold setup old.numbers old.bound (take old.taken events) settled unsettled → length settled ≡ length old.numbers.tasks → AreAnswers new.tasks settled →
    OnOk result (AreFound old.numbers (seen_at new.tasks settled) skip 10 0 found) → OnOk result (AreVariants setup old.numbers old.bound events skip found unsettled)
found_for setup events old new skip settled unsettled found result s s' well same_verdict running same_numbers same_bound told size answers h = on_ok result (λ f.
    subst (λ n. AreVariants setup n old.bound events skip found unsettled) same_numbers
    (subst (λ b. AreVariants setup new.numbers b events skip found unsettled) same_bound
    (all_found setup events new s' (ap is_feasible same_verdict ∙ well) skip running settled unsettled
    (subst (λ n. AreTold setup n new.bound events settled unsettled) (sym same_numbers)
    (subst (λ b. AreTold setup old.numbers b events settled unsettled) (sym same_bound)
    (subst (λ es. AreTold setup old.numbers old.bound es settled unsettled) (all_taken setup events old s well) told)))
    (size ∙ ap (λ (n : Numbering). length n.tasks) (sym same_numbers)) answers found
    (subst (λ n. AreFound n (seen_at new.tasks settled) skip 10 0 found) (sym same_numbers) f)))) h

-- After the end nothing was found.
pub left_for : (setup : ProgramWithInputs) (events : List Event) (j : Kept) (skip : Option Event) (found : List Event) (unsettled : List ℕ) → StandsFor setup events j → is_feasible j.verdict ≡ true → j.ended ≡ true →
    found ≡ [] → unsettled ≡ [] → AreVariants setup j.numbers j.bound events skip found unsettled
left_for setup events j skip found unsettled s well ended none nobody =
    subst (λ us. AreVariants setup j.numbers j.bound events skip found us) (sym nobody)
    (subst (λ fs. AreVariants setup j.numbers j.bound events skip fs []) (sym none) (none_left setup events j s well skip ended))
