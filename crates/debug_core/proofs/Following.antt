-- A program that replays a sequence follows it by its verdict.
use Rattle.std.proofs.Common.{◌≡◌, ℕ, ◌+◌, List, [], ◌∷◌, ◌++◌, append_assoc, append-nil, length, Option, inl, inr, refl, sym, ap, ap₂, ◌∙◌, subst}
use Rattle.std.specs.Prelude.{◌⊎◌}
use Rattle.std.proofs.lemmas.List.{append_cancel_left}
use Rattle.common_lemmas.proofs.Lists.{append_last, first_same, rest_same}
use Rattle.event_machine.specs.declared.Action.{Action}
use Rattle.event_machine.specs.declared.Event.{Event}
use Rattle.event_machine.specs.Programs.{numbered, IsOpening}
use Rattle.event_machine.specs.Runs.{IsRun}
use Rattle.event_machine.specs.Tallies.{IsKilledIn}
use Rattle.event_machine.proofs.Extending.{feasible_before}
use Rattle.event_machine.proofs.Reaching.{feasible_back}
use Rattle.event_machine.proofs.Resting.{feasible_leads}
use Rattle.syn_event.specs.Numbering.{Numbering}
use Rattle.task_model.specs.Machine.{ProgramWithInputs}
use Rattle.task_model.specs.Laws.{IsProper}
use Rattle.task_model.specs.Tasks.{Task}
use Rattle.task_model.proofs.Following as following
use Rattle.task_model.proofs.Lawful.{lawful}
use Rattle.task_machine.specs.declared.verdict.Verdict.{Verdict}
use Rattle.task_machine.specs.declared.verdict.Verdict.TheVariants.{Feasible, Infeasible, Unsettled}
use Rattle.task_machine.specs.Judging.{AllFeasible, VerdictIs}
use Rattle.task_machine.specs.Views as views
use Rattle.run_laws.specs.imitation.Shown.{Opened}
use Rattle.normal_laws.specs.runs.runs.Laws.{opened}
use Rattle.replay_runs.specs.controls.replayed.Replaying.{GoesOnWith, IsFeasible, IsRunWith, Replays, ShowsAllFeasible, shown}
use Rattle.debug_core.specs.Headline.{FollowsAll, HasShown, KeepsTo, StopsAt}

-- ---- lists

-- a front of a list ends before an element, or has it
front_or_past : {A : Type 0} (xs rest before : List A) (e : A) (behind : List A) → xs ++ rest ≡ before ++ e ∷ behind →
    ((more : List A) × (xs ++ more ≡ before)) ⊎ ((tail : List A) × (xs ≡ before ++ e ∷ tail))
front_or_past [] rest before e behind h = inl (before, refl)
front_or_past (x ∷ xs) rest [] e behind h = inr (xs, ap (λ a. a ∷ xs) (first_same h))
front_or_past (x ∷ xs) rest (b ∷ before) e behind h = joined (front_or_past xs rest before e behind (rest_same h))
  where
    joined : ((more : List _) × (xs ++ more ≡ before)) ⊎ ((tail : List _) × (xs ≡ before ++ e ∷ tail)) →
        ((more : List _) × ((x ∷ xs) ++ more ≡ b ∷ before)) ⊎ ((tail : List _) × (x ∷ xs ≡ (b ∷ before) ++ e ∷ tail))
    joined (inl (more, k)) = inl (more, ap₂ (λ a l. a ∷ l) (first_same h) k)
    joined (inr (tail, k)) = inr (tail, ap₂ (λ a l. a ∷ l) (first_same h) k)

-- ---- a program that replays a sequence

module _ {L K : Type 0} (s : List Event) (one : Opened L) (other : Opened K) (meant : Event → Option Event) (replays : Replays s one other meant)
    (front : (xs ys : List Event) → IsFeasible one (xs ++ ys) → IsFeasible one xs) where
  -- what a run shows is feasible
  shown_feasible : (actions : List Action) → IsRun (numbered other.program) other.at actions → IsFeasible one (shown s one other meant actions)
  shown_feasible actions run = let r = replays.shows actions run in (r.originals, r.original.applies, r.original.has)

  -- a run that ends has shown these events, where it has shown them
  has-shown : (events : List Event) (actions : List Action) → ShowsAllFeasible s one other meant actions → shown s one other meant actions ≡ events → HasShown s one other meant events actions
  has-shown events actions a e = record {
    whole = e;
    originals = a.originals;
    original = subst (λ l. IsRunWith one l a.originals) e a.original;
    quiet = a.quiet;
    outputs = λ others run calm t l free. a.outputs others (subst (λ z. IsRunWith one z others) (sym e) run) calm t l (λ k. free (subst (λ z. IsKilledIn z t) e k));
  }

  -- where the whole sequence is feasible
  follows : IsFeasible one s → FollowsAll s one other meant
  follows feasible = record {
    goes_on = λ actions run.
        let r = replays.shows actions run in
        (r.rest, r.prefix, replays.goes_on actions run r.rest [] (ap (λ l. shown s one other meant actions ++ l) (append-nil r.rest) ∙ r.prefix) (subst (IsFeasible one) (sym r.prefix) feasible));
    ends = λ actions run over. let a = replays.ends actions run over in has-shown s actions a (no-more actions a a.rest refl);
  }
    where
      no-more : (actions : List Action) (a : ShowsAllFeasible s one other meant actions) (rest : List Event) → a.rest ≡ rest → shown s one other meant actions ≡ s
      no-more actions a [] e = sym (append-nil (shown s one other meant actions)) ∙ ap (λ l. shown s one other meant actions ++ l) (sym e) ∙ a.prefix
      no-more actions a (x ∷ more) e =
          absurd (a.longest x more e (front (shown s one other meant actions ++ x ∷ []) more
          (subst (IsFeasible one) (sym a.prefix ∙ ap (λ l. shown s one other meant actions ++ l) e ∙ sym (append_last (shown s one other meant actions) x more)) feasible)))

  -- where it is feasible up to an event
  stops : (at : ℕ) (before : List Event) (e : Event) (rest : List Event) → s ≡ before ++ e ∷ rest → at ≡ length before + 1 → IsFeasible one before → (IsFeasible one (before ++ e ∷ []) → ⊥) → StopsAt s one other meant at
  stops at before e rest splits place reached unreached = record {
    before = before;
    event = e;
    rest = rest;
    splits = splits;
    place = place;
    reached = reached;
    unreached = unreached;
    goes_on = λ actions run. let r = replays.shows actions run in on actions run (front_or_past (shown s one other meant actions) r.rest before e rest (r.prefix ∙ splits));
    ends = λ actions run over. let a = replays.ends actions run over in has-shown before actions a (at-end actions a (front_or_past (shown s one other meant actions) a.rest before e rest (a.prefix ∙ splits)));
  }
    where
      -- what is shown ends before the event, and where it ends earlier the next event is feasible
      stays : (actions : List Action) (a : ShowsAllFeasible s one other meant actions) (more : List Event) → shown s one other meant actions ++ more ≡ before → shown s one other meant actions ≡ before
      stays actions a [] k = sym (append-nil (shown s one other meant actions)) ∙ k
      stays actions a (y ∷ more) k =
          let rest-is : a.rest ≡ y ∷ (more ++ e ∷ rest) =
          append_cancel_left (shown s one other meant actions) a.rest (y ∷ (more ++ e ∷ rest)) (a.prefix ∙ splits ∙ ap (λ l. l ++ e ∷ rest) (sym k) ∙ append_assoc (shown s one other meant actions) (y ∷ more) (e ∷ rest)) in
          absurd (a.longest y (more ++ e ∷ rest) rest-is (front (shown s one other meant actions ++ y ∷ []) more (subst (IsFeasible one) (sym k ∙ sym (append_last (shown s one other meant actions) y more)) reached)))

      at-end : (actions : List Action) (a : ShowsAllFeasible s one other meant actions) →
          ((more : List Event) × (shown s one other meant actions ++ more ≡ before)) ⊎ ((tail : List Event) × (shown s one other meant actions ≡ before ++ e ∷ tail)) → shown s one other meant actions ≡ before
      at-end actions a (inl (more, k)) = stays actions a more k
      at-end actions a (inr (tail, k)) =
          absurd (unreached (front (before ++ e ∷ []) tail (subst (IsFeasible one) (k ∙ sym (append_last before e tail)) (a.originals, a.original.applies, a.original.has))))

      on : (actions : List Action) → IsRun (numbered other.program) other.at actions →
          ((more : List Event) × (shown s one other meant actions ++ more ≡ before)) ⊎ ((tail : List Event) × (shown s one other meant actions ≡ before ++ e ∷ tail)) →
          (more : List Event) × (shown s one other meant actions ++ more ≡ before) × GoesOnWith s one other meant actions more
      on actions run (inl (more, k)) = (
        more,
        k,
        replays.goes_on actions run more (e ∷ rest) (sym (append_assoc (shown s one other meant actions) more (e ∷ rest)) ∙ ap (λ l. l ++ e ∷ rest) k ∙ sym splits) (subst (IsFeasible one) (sym k) reached),
      )
      on actions run (inr (tail, k)) = absurd (unreached (front (before ++ e ∷ []) tail (subst (IsFeasible one) (k ∙ sym (append_last before e tail)) (shown_feasible actions run))))

-- ---- a program with inputs

module _ (setup : ProgramWithInputs) (numbers : Numbering) where
  abbrev original : Opened Task
  original = opened setup numbers

  by-numbers : IsOpening (numbered original.program) original.at
  by-numbers = let o = following.opens setup numbers in record { line = o.line; ended = o.ended; live = o.live; callers = o.callers; beyond = o.beyond }

  -- what is feasible by the list of tasks is so by their numbers, and the other way round
  there : (events : List Event) → views.IsFeasible setup numbers events → IsFeasible original events
  there events h =
      let l = (following.feasible_exactly setup numbers events).0 h in
      feasible_back original.program IsProper lawful original.at by-numbers (following.proper setup numbers) events l.0 l.1

  back : (events : List Event) → IsFeasible original events → views.IsFeasible setup numbers events
  back events h = (following.feasible_exactly setup numbers events).1 (feasible_leads original.program IsProper lawful original.at by-numbers (following.proper setup numbers) events h)

  front : (xs ys : List Event) → IsFeasible original (xs ++ ys) → IsFeasible original xs
  front xs ys h = feasible_before original.program IsProper lawful original.at by-numbers (following.proper setup numbers) xs ys h

  -- where each event in turn is feasible all are
  all_feasible : (bound : ℕ) (events : List Event) → AllFeasible setup numbers bound events → views.IsFeasible setup numbers events
  all_feasible bound events well = grow [] events refl ([], tt, refl)
    where
      grow : (xs ys : List Event) → events ≡ xs ++ ys → views.IsFeasible setup numbers xs → views.IsFeasible setup numbers events
      grow xs [] e h = subst (views.IsFeasible setup numbers) (sym (append-nil xs) ∙ sym e) h
      grow xs (y ∷ ys) e h = grow (xs ++ y ∷ []) ys (e ∙ sym (append_last xs y ys)) (well xs ys y e).1

  -- a program that replays the sequence keeps to its verdict
  pub keeps_to : {K : Type 0} (bound : ℕ) (s : List Event) (other : Opened K) (meant : Event → Option Event) → Replays s original other meant → (v : Verdict) → VerdictIs setup numbers bound s v → KeepsTo s original other meant v
  keeps_to bound s other meant replays Feasible h = follows s original other meant replays front (there s (all_feasible bound s h))
  keeps_to bound s other meant replays (Infeasible at why) h =
      stops s original other meant replays front at h.before h.event h.reached.rest h.reached.splits h.reached.place (there h.before (all_feasible bound h.before h.reached.went_well)) (λ f. h.infeasible (back (h.before ++ h.event ∷ []) f))
  keeps_to bound s other meant replays (Unsettled at task) h = tt
