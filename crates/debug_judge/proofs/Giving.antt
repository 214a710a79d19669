-- A judge that is given the events of a sequence one after the other, whatever it finds.
use Rattle.std.proofs.Common.{◌≡◌, ℕ, ◌+◌, ◌-◌, ◌<◌, ◌≤◌, ◌^◌, Bool, true, false, cond, List, [], ◌∷◌, ◌++◌, length, take, Option, Some, None, refl, sym, ap, ◌∙◌, subst, arith, true≢false, inl, inr, length-append}
use Rattle.std.specs.Prelude.{All, IfSome, slice_get, ◌&&◌, not}
use Rattle.std.proofs.lemmas.Bool.{cases_Bool}
use Rattle.std.proofs.lemmas.List.{get_or_append_left, length-take-le}
use Rattle.std.proofs.lemmas.Option.{slice_get-get_or}
use Rattle.event_machine.specs.declared.Event.{Event}
use Rattle.event_machine.specs.Tallies.{HasNoEnd}
use Rattle.syn_event.specs.Numbering.{Numbering}
use Rattle.seq_file.specs.Files.{NothingFollowsEnd}
use Rattle.seq_file.proofs.EndLemmas.{last_is_end}
use Rattle.task_model.specs.Machine.{ProgramWithInputs}
use Rattle.task_machine.specs.declared.verdict.Verdict.{Verdict}
use Rattle.task_machine.specs.declared.verdict.Verdict.TheVariants.{Feasible, Infeasible, Unsettled}
use Rattle.task_machine.specs.declared.verdict.Why.{Why}
use Rattle.task_machine.specs.Conditions.{needed_of}
use Rattle.task_machine.specs.Judging.{VerdictIs}
use Rattle.feasible.specs.Failing.{view_at}
use Rattle.feasible.specs.Keeping.{StandsFor, Counts, IsSettled, NothingFollows, is_feasible, is_infeasible}
use Rattle.feasible.specs.Kept.{Kept}
use Rattle.feasible.proofs.Continuing.{views_settled}
use Rattle.feasible.proofs.Fronts.{no_end_front}
use Rattle.divergence.specs.JudgeText.{event_at_place}
use Rattle.divergence.specs.Seen.{AreSettled}
use Rattle.debug_judge.specs.declared.judged_events.LinesVerdict.{LinesVerdict}
use Rattle.debug_judge.specs.JudgeOutcomes.{AreSeen, ShowsWhy}
use Rattle.debug_judge.specs.JudgedLines.{IsFoundOf, event_with}
use Rattle.common_lemmas.proofs.Lists.{last_at}

pub nothing_follows : (events : List Event) → NothingFollowsEnd events → NothingFollows events
nothing_follows [] h = tt
nothing_follows (e ∷ rest) h = (λ last. h.0 (last_is_end e last), nothing_follows rest h.1)

-- what counts say of the number of events that have happened
all_taken : (events : List Event) (taken : ℕ) (v : Verdict) → Counts events taken v → is_feasible v ≡ true → taken ≡ length events
all_taken events taken Feasible c h = c
all_taken events taken (Infeasible at why) c h = absurd (true≢false (sym h))
all_taken events taken (Unsettled at t) c h = absurd (true≢false (sym h))

some_taken : (events : List Event) (taken : ℕ) (v : Verdict) → Counts events taken v → is_feasible v ≡ false → taken < length events
some_taken events taken Feasible c h = absurd (true≢false h)
some_taken events taken (Infeasible at why) c h = c.1
some_taken events taken (Unsettled at t) c h = c.1

none_given : (taken : ℕ) (v : Verdict) → Counts [] taken v → is_feasible v ≡ true
none_given taken Feasible c = refl
none_given taken (Infeasible at why) c = absurd (let less : taken < 0 = c.1 in omega arith)
none_given taken (Unsettled at t) c = absurd (let less : taken < 0 = c.1 in omega arith)

-- a first judge has found its events feasible
pub first_feasible : (setup : ProgramWithInputs) (k : Kept) → StandsFor setup [] k → is_feasible k.verdict ≡ true
first_feasible setup k s = none_given k.taken k.verdict s.counts

is_the_feasible : (v : Verdict) → is_feasible v ≡ true → v ≡ Feasible
is_the_feasible Feasible h = refl
is_the_feasible (Infeasible at why) h = absurd (true≢false (sym h))
is_the_feasible (Unsettled at t) h = absurd (true≢false (sym h))

-- ---- before any event

pub found_first : (setup : ProgramWithInputs) (numbers : Numbering) (bound : ℕ) (k : Kept) → StandsFor setup [] k → k.numbers ≡ numbers → k.bound ≡ bound →
    IsFoundOf setup numbers bound [] (record { verdict = Feasible; count = 0; event = None; judge = k })
found_first setup numbers bound k s same_numbers same_bound =
    let is : k.verdict ≡ Feasible = is_the_feasible k.verdict (first_feasible setup k s) in
    record {
      verdict =
          subst (λ (n : Numbering). VerdictIs setup n bound [] Feasible) same_numbers
          (subst (λ (b : ℕ). VerdictIs setup k.numbers b [] Feasible) same_bound (subst (VerdictIs setup k.numbers k.bound []) is s.verdict));
      count = refl;
      event = refl;
      stands = s;
      last = sym is;
      settled = tt;
      numbers_are = same_numbers;
      bound_is = same_bound;
    }

-- ---- the event at the place of a verdict

-- that of the last event, which was the first behind which the verdict is not feasible
placed_last : (events : List Event) (e : Event) (n : ℕ) (v : Verdict) → Counts (events ++ e ∷ []) n v → length events ≤ n → is_feasible v ≡ false → event_at_place (events ++ e ∷ []) v ≡ Some e
placed_last events e n Feasible c past h = absurd (true≢false h)
placed_last events e n (Infeasible at why) c past h =
    ap (λ (k : ℕ). slice_get (events ++ e ∷ []) k) (let k : at - 1 ≡ length events = omega (arith, c.0, c.1, length-append events (e ∷ [])) in k) ∙ last_at events e
placed_last events e n (Unsettled at t) c past h =
    ap (λ (k : ℕ). slice_get (events ++ e ∷ []) k) (let k : at - 1 ≡ length events = omega (arith, c.0, c.1, length-append events (e ∷ [])) in k) ∙ last_at events e

-- an event that is there stays where it is
stays_placed : (events : List Event) (e d : Event) (k : ℕ) → k < length events → slice_get events k ≡ slice_get (events ++ e ∷ []) k
stays_placed events e d k less =
    slice_get-get_or events k d less
    ∙ ap (λ (x : Event). Some x) (sym (get_or_append_left events (e ∷ []) d k less))
    ∙ sym (slice_get-get_or (events ++ e ∷ []) k d (omega (arith, less, length-append events (e ∷ []))))

-- an earlier event
placed_before : (events : List Event) (e : Event) (n : ℕ) (v : Verdict) → Counts events n v → is_feasible v ≡ false → event_at_place events v ≡ event_at_place (events ++ e ∷ []) v
placed_before events e n Feasible c h = absurd (true≢false h)
placed_before events e n (Infeasible at why) c h = stays_placed events e e (at - 1) (omega (arith, c.0, c.1))
placed_before events e n (Unsettled at t) c h = stays_placed events e e (at - 1) (omega (arith, c.0, c.1))

-- no event, where the verdict is feasible
placed_nowhere : (events : List Event) (v : Verdict) → is_feasible v ≡ true → event_at_place events v ≡ None
placed_nowhere events Feasible h = refl
placed_nowhere events (Infeasible at why) h = absurd (true≢false (sym h))
placed_nowhere events (Unsettled at t) h = absurd (true≢false (sym h))

-- the needed tasks of the event are settled, where it is infeasible
are_settled : (numbers : Numbering) (k : Kept) (v : Verdict) (e : Event) → (is_infeasible v ≡ true → All (IsSettled k.tasks) (needed_of numbers e)) → AreSettled k.tasks numbers v (Some e)
are_settled numbers k Feasible e all = tt
are_settled numbers k (Infeasible at why) e all = all refl
are_settled numbers k (Unsettled at t) e all = tt

nothing_settled : (numbers : Numbering) (k : Kept) (v : Verdict) (o : Option Event) → is_feasible v ≡ true → AreSettled k.tasks numbers v o
nothing_settled numbers k Feasible o h = tt
nothing_settled numbers k (Infeasible at why) o h = absurd (true≢false (sym h))
nothing_settled numbers k (Unsettled at t) o h = absurd (true≢false (sym h))

-- ---- one event more

module _ (setup : ProgramWithInputs) (numbers : Numbering) (bound : ℕ) (events : List Event) (e : Event) (old : LinesVerdict) (new : Kept) (v : Verdict)
    (f : IsFoundOf setup numbers bound events old) (stands : StandsFor setup (events ++ e ∷ []) new) (last : v ≡ new.verdict)
    (settled : is_feasible old.judge.verdict ≡ true → is_infeasible v ≡ true → All (IsSettled new.tasks) (needed_of old.judge.numbers e))
    (grows : old.judge.taken ≤ new.taken) (stays : is_feasible old.judge.verdict ≡ false → new ≡ old.judge) where
  placed : Option Event
  placed = event_with old.verdict old.event v e

  abbrev IsPlaced : Type 0
  IsPlaced = (event_with old.verdict old.event v e ≡ event_at_place (events ++ e ∷ []) v) × AreSettled new.tasks numbers v (event_with old.verdict old.event v e)

  counts : Counts (events ++ e ∷ []) new.taken v
  counts = subst (Counts (events ++ e ∷ []) new.taken) (sym last) stands.counts

  -- the verdict was feasible before
  placed_now : is_feasible old.verdict ≡ true → IsPlaced
  placed_now was =
      let judged : is_feasible old.judge.verdict ≡ true = ap is_feasible (sym f.last) ∙ was in
      let taken : old.judge.taken ≡ length events = all_taken events old.judge.taken old.judge.verdict f.stands.counts judged in
      let all : is_infeasible v ≡ true → All (IsSettled new.tasks) (needed_of numbers e) = λ bad. subst (λ (n : Numbering). All (IsSettled new.tasks) (needed_of n e)) f.numbers_are (settled judged bad) in
      elim (cases_Bool (is_feasible v)) [
        | inl well ↦
            let same : event_with old.verdict old.event v e ≡ old.event = ap (λ (b : Bool). cond (is_feasible old.verdict && not b) (Some e) old.event) well ∙ ap (λ (b : Bool). cond (b && false) (Some e) old.event) was in
            (same ∙ f.event ∙ placed_nowhere events old.verdict was ∙ sym (placed_nowhere (events ++ e ∷ []) v well), nothing_settled numbers new v (event_with old.verdict old.event v e) well)
        | inr bad ↦
            let same : event_with old.verdict old.event v e ≡ Some e = ap (λ (b : Bool). cond (is_feasible old.verdict && not b) (Some e) old.event) bad ∙ ap (λ (b : Bool). cond (b && true) (Some e) old.event) was in
            (same ∙ sym (placed_last events e new.taken v counts (omega (arith, taken, grows)) bad), subst (AreSettled new.tasks numbers v) (sym same) (are_settled numbers new v e all))
      ]

  -- it was not, and the judge stayed as it was
  placed_earlier : is_feasible old.verdict ≡ false → IsPlaced
  placed_earlier was =
      let judged : is_feasible old.judge.verdict ≡ false = ap is_feasible (sym f.last) ∙ was in
      let stayed : new ≡ old.judge = stays judged in
      let same_verdict : v ≡ old.verdict = last ∙ ap (λ (k : Kept). k.verdict) stayed ∙ sym f.last in
      let same : event_with old.verdict old.event v e ≡ old.event = ap (λ (b : Bool). cond (b && not (is_feasible v)) (Some e) old.event) was in
      let c : Counts events old.judge.taken old.verdict = subst (Counts events old.judge.taken) (sym f.last) f.stands.counts in (
        same ∙ f.event ∙ placed_before events e old.judge.taken old.verdict c was ∙ ap (event_at_place (events ++ e ∷ [])) (sym same_verdict),
        subst (AreSettled new.tasks numbers v) (sym same)
            (subst (λ (w : Verdict). AreSettled new.tasks numbers w old.event) (sym same_verdict) (subst (λ (k : Kept). AreSettled k.tasks numbers old.verdict old.event) (sym stayed) f.settled)),
      )

  is_placed : IsPlaced
  is_placed = elim (cases_Bool (is_feasible old.verdict)) [ inl was ↦ placed_now was | inr was ↦ placed_earlier was ]

  pub found_more : new.numbers ≡ old.judge.numbers → new.bound ≡ old.judge.bound →
      IsFoundOf setup numbers bound (events ++ e ∷ []) (record { verdict = v; count = old.count + 1; event = event_with old.verdict old.event v e; judge = new })
  found_more same_numbers same_bound =
      let is_numbers : new.numbers ≡ numbers = same_numbers ∙ f.numbers_are in
      let is_bound : new.bound ≡ bound = same_bound ∙ f.bound_is in
      record {
        verdict =
            subst (λ (n : Numbering). VerdictIs setup n bound (events ++ e ∷ []) v) is_numbers
            (subst (λ (b : ℕ). VerdictIs setup new.numbers b (events ++ e ∷ []) v) is_bound (subst (VerdictIs setup new.numbers new.bound (events ++ e ∷ [])) (sym last) stands.verdict));
        count = omega (arith, f.count, length-append events (e ∷ []));
        event = is_placed.0;
        stands = stands;
        last = last;
        settled = is_placed.1;
        numbers_are = is_numbers;
        bound_is = is_bound;
      }

-- ---- all events

-- the judge has taken no more events than it was given
pub few_taken : (setup : ProgramWithInputs) (events : List Event) (k : Kept) → StandsFor setup events k → k.taken ≤ length events
few_taken setup events k s = elim (cases_Bool (is_feasible k.verdict)) [
  | inl well ↦ (let same : k.taken ≡ length events = all_taken events k.taken k.verdict s.counts well in omega arith)
  | inr bad ↦ (let less : k.taken < length events = some_taken events k.taken k.verdict s.counts bad in omega arith)
]

-- so there is room for one event more
pub few_given : (setup : ProgramWithInputs) (numbers : Numbering) (bound : ℕ) (events : List Event) (n : ℕ) (found : LinesVerdict) → IsFoundOf setup numbers bound (take n events) found → n < length events → length events < 2 ^ 32 →
    (found.judge.taken + 1 < 2 ^ 32) × (found.count + 1 < 2 ^ 32)
few_given setup numbers bound events n found f less few =
    let count : length (take n events) ≡ n = length-take-le n events (omega arith) in
    let taken : found.judge.taken ≤ length (take n events) = few_taken setup (take n events) found.judge f.stands in
    let counted : found.count ≡ length (take n events) = f.count in
    (omega arith, omega arith)

module _ (setup : ProgramWithInputs) (numbers : Numbering) (events : List Event) (end : NothingFollows events) (k : Kept) (s : StandsFor setup events k) (same : k.numbers ≡ numbers) where
  -- the event at place k.taken was refused
  seen_refused : (e : Event) (at : ℕ) (why : Why) → k.verdict ≡ Infeasible at why → event_at_place events (Infeasible at why) ≡ Some e → All (IsSettled k.tasks) (needed_of numbers e) →
      AreSeen setup numbers (take (at - 1) events) (view_at k.tasks) e
  seen_refused e at why is got all =
      let counts : Counts events k.taken (Infeasible at why) = subst (Counts events k.taken) is s.counts in
      let place : k.taken ≡ at - 1 = omega (arith, counts.0) in
      let before : HasNoEnd (take k.taken events) = no_end_front events k.taken counts.1 end in
      let here : All (IsSettled k.tasks) (needed_of k.numbers e) = subst (λ (n : Numbering). All (IsSettled k.tasks) (needed_of n e)) (sym same) all in
      let seen : AreSeen setup k.numbers (take k.taken events) (view_at k.tasks) e = (views_settled setup k.numbers k.bound (take k.taken events) before k.tasks k.steps k.ended s.keeps e here).needed in
      subst (λ (n : Numbering). AreSeen setup n (take (at - 1) events) (view_at k.tasks) e) same
      (subst (λ (n : ℕ). AreSeen setup k.numbers (take n events) (view_at k.tasks) e) place seen)

  seen_at : (at : ℕ) (why : Why) → k.verdict ≡ Infeasible at why → (o : Option Event) → event_at_place events (Infeasible at why) ≡ o → AreSettled k.tasks numbers (Infeasible at why) o →
      IfSome o (AreSeen setup numbers (take (at - 1) events) (view_at k.tasks))
  seen_at at why is None got all = tt
  seen_at at why is (Some e) got all = seen_refused e at why is got all

  seen_why : (v : Verdict) → k.verdict ≡ v → (o : Option Event) → event_at_place events v ≡ o → AreSettled k.tasks numbers v o → ShowsWhy setup numbers events (view_at k.tasks) v
  seen_why Feasible is o got all = tt
  seen_why (Infeasible at why) is o got all = subst (λ (x : Option Event). IfSome x (AreSeen setup numbers (take (at - 1) events) (view_at k.tasks))) (sym got) (seen_at at why is o got all)
  seen_why (Unsettled at t) is o got all = tt

-- where an event is refused, the judge shows the tasks that it needs
pub found_seen : (setup : ProgramWithInputs) (numbers : Numbering) (bound : ℕ) (events : List Event) (found : LinesVerdict) → NothingFollows events → IsFoundOf setup numbers bound events found →
    ShowsWhy setup numbers events (view_at found.judge.tasks) found.verdict
found_seen setup numbers bound events found end f = seen_why setup numbers events end found.judge f.stands f.numbers_are found.verdict (sym f.last) found.event (sym f.event) f.settled
