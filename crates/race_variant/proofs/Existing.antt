-- After feasible events there are variants: what is seen of each task can be tried out, and what each offers proposes all that can come next.
use Rattle.std.proofs.Common.{◌≡◌, ◌↔◌, ℕ, ℤ, zero, suc, ◌+◌, ◌<◌, ◌≤◌, ◌==◌, Bool, true, false, not, List, [], ◌∷◌, ◌++◌, length, map, refl, sym, ap, ◌∙◌, subst, arith, true≢false, ⊎_elim, ◌⊎◌, inl, inr, Option, Some, None, length-append}
use Rattle.std.specs.Prelude.{All, pos, negsuc, if◌then◌else◌, slice_index_or, slice_get}
use Rattle.std.specs.Cmp.Lexicographic.{pointwise, pointwise_decides}
use Rattle.std.specs.List.{AllPairs, Contains, list_all}
use Rattle.std.specs.Ordering.{int_eq}
use Rattle.std.proofs.lemmas.Bool.{cases_Bool, cases_lt}
use Rattle.std.proofs.lemmas.Bool.Decides.{Decides-eqb, Decides-int_eq}
use Rattle.std.proofs.lemmas.List.Elements.{All-nil, All-cons, All-head, All-contains, Contains-append_right, Contains-push, Contains-push_cases, Contains-append_left}
use Rattle.std.proofs.lemmas.List.Quantifiers.{all_pairs_push}
use Rattle.event_machine.specs.declared.Event.{Event}
use Rattle.event_machine.specs.declared.Event.TheVariants as event
use Rattle.event_machine.specs.declared.Standing.{Standing}
use Rattle.event_machine.specs.declared.Standing.TheVariants.{Live}
use Rattle.event_machine.specs.Offers.{Offer, Nothing}
use Rattle.event_machine.specs.Programs.{by_number}
use Rattle.event_machine.specs.States.{is_completed}
use Rattle.event_machine.specs.Settling.{Leads}
use Rattle.event_machine.specs.Tallies.{HasNoEnd, before_end}
use Rattle.event_machine.specs.Worlds.{World, is_last}
use Rattle.event_machine.proofs.Bases.{IsBase, base_leads}
use Rattle.event_machine.proofs.Extending.{before_end-same}
use Rattle.event_machine.proofs.ListLaws.{opening_numbers}
use Rattle.event_machine.proofs.Reaching.{start_base}
use Rattle.syn_event.specs.Numbering.{Numbering, owner_of}
use Rattle.task_model.specs.Tasks.{Task}
use Rattle.task_model.specs.Stands.{can_step, offer_of}
use Rattle.task_model.specs.TaskOps.{task_ops}
use Rattle.task_model.specs.Machine.{ProgramWithInputs, opening_of}
use Rattle.task_model.specs.Laws.{IsProper, program_in, first_world}
use Rattle.task_model.proofs.Following.{opens, proper, feasible_exactly}
use Rattle.task_model.proofs.Lawful.{lawful}
use Rattle.task_machine.specs.declared.verdict.Verdict.{Verdict}
use Rattle.task_machine.specs.declared.verdict.Verdict.TheVariants.{Feasible, Infeasible, Unsettled}
use Rattle.task_machine.specs.Conditions.{needed_of, all_hold}
use Rattle.task_machine.specs.Judging.{NoneOpen, VerdictIs}
use Rattle.task_machine.specs.Views.{IsFeasible, IsOpenAt, StandsIn, View, Completed, Abnormal, Busy, At, ViewIs}
use Rattle.task_machine.proofs.Deciding.{verdict_exists}
use Rattle.task_machine.proofs.Judged.{feasible_views, rest_stands, stands_unique}
use Rattle.task_machine.proofs.OneVerdict.{two_splits}
use Rattle.task_machine.proofs.TaskLaws.{the_count, the_standing}
use Rattle.race_variant.specs.declared.proposing.Letter.{Letter}
use Rattle.race_variant.specs.declared.proposing.Letter.TheVariants.{R, E, S, D, C, T, F, X, B, Z}
use Rattle.race_variant.specs.Variants.{letter_of, numbers_in, AreVariants, CanFollow, HoldsUp}
use Rattle.race_variant.specs.inner.Passing.{actor_of, offer_seen, AreFound, IsAdded, AreAllAdded}
use Rattle.race_variant.specs.inner.Proposing.{place_of, delays_in, proposed}
use Rattle.race_variant.proofs.Gathering.{contains_at, found_none, found_letter}
use Rattle.race_variant.proofs.Letters.{letter_one, letter_none, letter_delays}
use Rattle.race_variant.proofs.Next.{IsSeen, next_exactly, open_holds, holds_open}
use Rattle.race_variant.proofs.Offers.{acting}
use Rattle.race_variant.proofs.Rising.{Rises, delays_rise}

-- ---- whether two events are one

size_of : ℤ → ℕ
size_of (pos n) = n
size_of (negsuc n) = 0

-- the event of a letter with these numbers
made_of : ℕ → List ℤ → Event
made_of letter (a ∷ []) = if letter == 1 then event.E (size_of a) else (if letter == 2 then event.S (size_of a) else event.X (size_of a))
made_of letter (a ∷ b ∷ []) = if letter == 3 then event.D (size_of a) (size_of b) else event.B (size_of a) (size_of b)
made_of letter (a ∷ b ∷ i ∷ []) =
    if letter == 0 then event.R (size_of a) (size_of b) i
    else (if letter == 4 then event.C (size_of a) (size_of b) i
    else (if letter == 5 then event.T (size_of a) (size_of b) i else event.F (size_of a) (size_of b) i))
made_of letter _ = event.Z

made_again : (e : Event) → made_of (letter_of e) (numbers_in e) ≡ e
unfolding made_of size_of
made_again (event.R c e i) = refl
made_again (event.E a) = refl
made_again (event.S a) = refl
made_again (event.D a k) = refl
made_again (event.C c e i) = refl
made_again (event.T c e i) = refl
made_again (event.F c e i) = refl
made_again (event.X a) = refl
made_again (event.B t x) = refl
made_again event.Z = refl

same_or_not : (e f : Event) → (e ≡ f) ⊎ (e ≡ f → ⊥)
same_or_not e f = elim (cases_Bool (letter_of e == letter_of f)) [
  | inl letters ↦ elim (cases_Bool (pointwise int_eq (numbers_in e) (numbers_in f))) [
    | inl numbers ↦ inl (sym (made_again e)
        ∙ ap (λ l. made_of l (numbers_in e)) ((Decides-eqb (letter_of e) (letter_of f)).0 letters)
        ∙ ap (made_of (letter_of f)) ((pointwise_decides Decides-int_eq (numbers_in e) (numbers_in f)).0 numbers)
        ∙ made_again f)
    | inr others ↦ inr (λ same. true≢false (sym ((pointwise_decides Decides-int_eq (numbers_in e) (numbers_in f)).1 (ap numbers_in same)) ∙ others))
  ]
  | inr other ↦ inr (λ same. true≢false (sym ((Decides-eqb (letter_of e) (letter_of f)).1 (ap letter_of same)) ∙ other))
]

-- an event is the one that is skipped, or not
skipped_or_not : (skip : Option Event) (e : Event) → (skip ≡ Some e) ⊎ (skip ≡ Some e → ⊥)
skipped_or_not None e = inr (λ h. absurd (let no : ◌≡◌ {A = Option Event} None (Some e) = h in cc))
skipped_or_not (Some f) e = ⊎_elim
    (λ (same : f ≡ e). inl (ap (λ x. Some x) same))
    (λ (other : f ≡ e → ⊥). inr (λ h. other (let q : ◌≡◌ {A = Option Event} (Some f) (Some e) = h in cc)))
    (same_or_not f e)

-- ---- what is seen of the tasks

pub below_ten : (e : Event) → letter_of e < 10
below_ten (event.R c e i) = omega arith
below_ten (event.E a) = omega arith
below_ten (event.S a) = omega arith
below_ten (event.D a k) = omega arith
below_ten (event.C c e i) = omega arith
below_ten (event.T c e i) = omega arith
below_ten (event.F c e i) = omega arith
below_ten (event.X a) = omega arith
below_ten (event.B t x) = omega arith
below_ten event.Z = omega arith

-- the end of a list that is not empty
end_of_list : {A : Type 0} (x : A) (xs : List A) → (front : List A) × (last : A) × ((x ∷ xs) ≡ (front ++ last ∷ []))
end_of_list x [] = ([], x, refl)
end_of_list x (y ∷ ys) = let k = end_of_list y ys in (x ∷ k.0, k.1, ap (λ zs. x ∷ zs) k.2)

-- where each event is feasible in turn, all are
all_feasible : (setup : ProgramWithInputs) (numbers : Numbering) (bound : ℕ) (events : List Event) → VerdictIs setup numbers bound events Feasible → IsFeasible setup numbers events
all_feasible setup numbers bound [] well = ([], tt, refl)
all_feasible setup numbers bound (x ∷ xs) well =
    let (front, last, is) = end_of_list x xs in
    subst (λ (es : List Event). IsFeasible setup numbers es) (sym is) (well front [] last is).1

at_split : (P : ℕ → Type 0) (xs rest : List ℕ) (x : ℕ) → All P (xs ++ x ∷ rest) → P x
at_split P xs rest x h = All-contains P (xs ++ x ∷ rest) x h (Contains-append_right xs (x ∷ rest) x (0, omega arith, refl))

module _ (setup : ProgramWithInputs) (numbers : Numbering) (bound : ℕ) (events : List Event) (well : VerdictIs setup numbers bound events Feasible) (more : HasNoEnd events) where
  abbrev Open : ℕ → Type 0
  Open t = IsOpenAt setup numbers events t bound

  abbrev Seen : ℕ → View → Type 0
  Seen t v = IsSeen setup numbers bound events t v

  -- a split of the events with one more, where the events have none at that place, is at the last
  at_last : (before rest : List Event) (e f : Event) → (events ++ e ∷ []) ≡ (before ++ f ∷ rest) → ((mid : List Event) → events ≡ (before ++ f ∷ mid) → ⊥) → (events ≡ before) × (e ≡ f)
  at_last before rest e f splits earlier = ⊎_elim
      (λ (k : (events ≡ before) × (e ≡ f)). k)
      (⊎_elim
      (λ (k : (mid : List Event) × (before ≡ (events ++ e ∷ mid))). absurd (too_long k.0 (splits ∙ ap (λ es. es ++ f ∷ rest) k.1)))
      (λ (k : (mid : List Event) × (events ≡ (before ++ f ∷ mid))). absurd (earlier k.0 k.1)))
      (two_splits events before [] rest e f splits)
    where
      too_long : (mid : List Event) → (events ++ e ∷ []) ≡ ((events ++ e ∷ mid) ++ f ∷ rest) → ⊥
      too_long mid h =
          let a : length (events ++ e ∷ []) ≡ length events + length (e ∷ []) = length-append events (e ∷ []) in
          let b : length ((events ++ e ∷ mid) ++ f ∷ rest) ≡ length (events ++ e ∷ mid) + length (f ∷ rest) = length-append (events ++ e ∷ mid) (f ∷ rest) in
          let d : length (events ++ e ∷ mid) ≡ length events + length (e ∷ mid) = length-append events (e ∷ mid) in
          let same : length (events ++ e ∷ []) ≡ length ((events ++ e ∷ mid) ++ f ∷ rest) = ap length h in
          omega arith

  -- what the verdict on an event that needs this task alone tells of it
  seen_by : (t : ℕ) (v : Verdict) → VerdictIs setup numbers bound (events ++ event.E t ∷ []) v → (view : View) × Seen t view
  seen_by t Feasible v =
      let k = v events [] (event.E t) refl in
      let (views, seen, holds) = feasible_views setup numbers events (event.E t) more k.1 in
      (views t, inr (All-head (λ u. Open u → ⊥) t [] k.0, All-head (λ u. ViewIs setup numbers events u (views u)) t [] seen.needed))
  seen_by t (Infeasible at why) v =
      let k = at_last v.before v.reached.rest (event.E t) v.event v.reached.splits (λ mid h. v.infeasible (well v.before mid v.event h).1) in
      let none : NoneOpen setup numbers bound events (t ∷ []) =
      subst (λ es. NoneOpen setup numbers bound es (t ∷ [])) (sym k.0) (subst (λ f. NoneOpen setup numbers bound v.before (needed_of numbers f)) (sym k.1) v.none_open) in
      let seen = subst (λ es. (w : ℕ → View) × All (λ u. ViewIs setup numbers es u (w u)) (t ∷ [])) (sym k.0)
      (v.views, subst (λ f. All (λ u. ViewIs setup numbers v.before u (v.views u)) (needed_of numbers f)) (sym k.1) v.seen.needed) in
      (seen.0 t, inr (All-head (λ u. Open u → ⊥) t [] none, All-head (λ u. ViewIs setup numbers events u (seen.0 u)) t [] seen.1))
  seen_by t (Unsettled at task) v =
      let k = at_last v.before v.reached.rest (event.E t) v.event v.reached.splits (λ mid h.
      at_split (λ u. IsOpenAt setup numbers v.before u bound → ⊥) v.earlier v.later task
      (subst (λ ts. NoneOpen setup numbers bound v.before ts) v.order (well v.before mid v.event h).0) v.stays_open) in
      let same : task ≡ t = at_split (λ u. u ≡ t) v.earlier v.later task
      (subst (All (λ u. u ≡ t)) (ap (needed_of numbers) k.1 ∙ v.order) (All-cons (λ u. u ≡ t) t [] refl (All-nil (λ u. u ≡ t)))) in
      (At Nothing, inl (subst (λ u. Open u) same (subst (λ es. IsOpenAt setup numbers es task bound) (sym k.0) v.stays_open), refl))

  -- past the last task all have completed
  past_last : (t : ℕ) → length numbers.tasks ≤ t → StandsIn setup numbers events t is_completed
  past_last t past =
      let feasible : IsFeasible setup numbers (before_end events) = subst (IsFeasible setup numbers) (sym (before_end-same events more)) (all_feasible setup numbers bound events well) in
      let (w, leads) = (feasible_exactly setup numbers (before_end events)).0 feasible in
      let count : length (opening_of setup numbers).state.seats ≡ length numbers.tasks = the_count setup numbers in (
        (w.tasks t).standing,
        the_standing setup numbers (before_end events) w leads t,
        (base_leads (program_in setup numbers) IsProper lawful (before_end events) (first_world setup numbers) w leads first_based).beyond t (omega arith),
      )
    where
      first_based : IsBase (program_in setup numbers) IsProper lawful (first_world setup numbers)
      first_based = start_base (program_in setup numbers) IsProper lawful (by_number (program_in setup numbers) (opening_of setup numbers).state)
          (opening_numbers task_ops (owner_of numbers) IsProper lawful (opening_of setup numbers).state (opens setup numbers) (proper setup numbers)) (proper setup numbers)

  -- so an open task is one of the program's
  open_below : (t : ℕ) → Open t → t < length numbers.tasks
  open_below t opened = ⊎_elim
      (λ (k : t < length numbers.tasks). k)
      (λ (k : length numbers.tasks ≤ t).
      let (z, stands, over) = past_last t k in
      absurd (true≢false (sym over ∙ ap is_completed (stands_unique setup numbers events t z Live stands (rest_stands setup numbers events t bound opened.0 opened.1)))))
      (cases_lt t (length numbers.tasks))

  -- what is seen of each task; past the last, that it has completed
  record Viewed (t : ℕ) : Type 0 where
    view : View
    seen : Seen t view
    past : length numbers.tasks ≤ t → offer_seen view ≡ Nothing

  viewed : (t : ℕ) → Viewed t
  viewed t = ⊎_elim
      (λ (k : t < length numbers.tasks).
      let (v, is) = verdict_exists setup numbers bound events (event.E t) more in
      let (view, seen) = seen_by t v is in
      record { view = view; seen = seen; past = λ past. absurd (omega arith) })
      (λ (k : length numbers.tasks ≤ t). record {
        view = Completed;
        seen = inr ((λ opened. let less : t < length numbers.tasks = open_below t opened in absurd (omega arith)), past_last t k);
        past = λ past. refl;
      })
      (cases_lt t (length numbers.tasks))

  views : ℕ → View
  views t = (viewed t).view

  -- a task is open, or it is not
  open_or_not : (t : ℕ) → Open t ⊎ (Open t → ⊥)
  open_or_not t = ⊎_elim
      (λ (k : Open t × ((viewed t).view ≡ At Nothing)). inl k.0)
      (λ (k : (Open t → ⊥) × ViewIs setup numbers events t (viewed t).view). inr k.0)
      (viewed t).seen

  -- the delays that are seen have rising numbers
  rise_seen : (t : ℕ) (v : View) → ViewIs setup numbers events t v → Rises 0 (delays_in (offer_seen v))
  rise_seen t Completed h = tt
  rise_seen t Abnormal h = tt
  rise_seen t Busy h = tt
  rise_seen t (At offer) (n, task, rest, none, is) = subst (λ o. Rises 0 (delays_in o)) is (delays_rise task)

  rise : (t : ℕ) → Rises 0 (delays_in (offer_seen (views t)))
  unfolding views
  rise t = ⊎_elim
      (λ (k : Open t × ((viewed t).view ≡ At Nothing)). subst (λ v. Rises 0 (delays_in (offer_seen v))) (sym k.1) tt)
      (λ (k : (Open t → ⊥) × ViewIs setup numbers events t (viewed t).view). rise_seen t (viewed t).view k.1)
      (viewed t).seen

  -- the task that acts is one of the program's
  actor_below : (e : Event) → all_hold numbers views e ≡ true → actor_of e < length numbers.tasks
  unfolding views
  actor_below e holds = ⊎_elim
      (λ (k : actor_of e < length numbers.tasks). k)
      (λ (k : length numbers.tasks ≤ actor_of e). absurd (acting numbers views e holds ((viewed (actor_of e)).past k)))
      (cases_lt (actor_of e) (length numbers.tasks))

  -- ---- which tasks are open

  record OpenBelow (n : ℕ) : Type 0 where
    tasks : List ℕ
    members : (t : ℕ) → Contains tasks t ↔ ((t < n) × Open t)
    rising : AllPairs (λ t u. t < u) tasks

  open_next : (n : ℕ) → OpenBelow n → OpenBelow (suc n)
  open_next n h = ⊎_elim
      (λ (opened : Open n). record {
        tasks = h.tasks ++ n ∷ [];
        members = λ t. (
          λ k. ⊎_elim
              (λ (c : Contains h.tasks t). let m = (h.members t).0 c in (let less : t < n = m.0 in omega arith, m.1))
              (λ (q : n ≡ t). (let same : n ≡ t = q in omega arith, subst Open q opened))
              (Contains-push_cases h.tasks n t k),
          λ (k : (t < suc n) × Open t). ⊎_elim
              (λ (less : t < n). Contains-append_left h.tasks (n ∷ []) t ((h.members t).1 (less, k.1)))
              (λ (past : n ≤ t). let same : n ≡ t = let less : t < suc n = k.0 in omega arith in subst (Contains (h.tasks ++ n ∷ [])) same (Contains-push h.tasks n))
              (cases_lt t n),
        );
        rising = all_pairs_push (λ t u. t < u) h.tasks n h.rising (λ k d less. ((h.members (slice_index_or h.tasks k d)).0 (contains_at h.tasks k d less)).0);
      })
      (λ (shut : Open n → ⊥). record {
        tasks = h.tasks;
        members = λ t. (
          λ k. let m = (h.members t).0 k in (let less : t < n = m.0 in omega arith, m.1),
          λ (k : (t < suc n) × Open t). ⊎_elim
              (λ (less : t < n). (h.members t).1 (less, k.1))
              (λ (past : n ≤ t). let same : n ≡ t = let less : t < suc n = k.0 in omega arith in absurd (shut (subst Open (sym same) k.1)))
              (cases_lt t n),
        );
        rising = h.rising;
      })
      (open_or_not n)

  open_to : (n : ℕ) → OpenBelow n
  open_to zero = record {
    tasks = [];
    members = λ t. (λ (k : Contains [] t). let less : k.0 < 0 = k.1 in absurd (omega arith), λ (k : (t < zero) × Open t). let less : t < 0 = k.0 in absurd (omega arith));
    rising = λ i j d less below. let l : j < 0 = below in absurd (omega arith);
  }
  open_to (suc n) = open_next n (open_to n)

  -- ---- what can come next

  -- What is seen of the tasks tells what can come next.
  pub by_views : (seen : ℕ → View) × ((e : Event) → VerdictIs setup numbers bound (events ++ e ∷ []) Feasible ↔ (all_hold numbers seen e ≡ true))
  unfolding views
  by_views = (views, next_exactly setup numbers bound events well more views (λ t. (viewed t).seen))

  module _ (skip : Option Event) where
    abbrev Reached : ℕ → ℕ → Type 0
    Reached l t = (found : List Event) × AreFound numbers views skip l t found

    add : (e : Event) (before : List Event) → (after : List Event) × IsAdded skip e before after
    add e before = ⊎_elim
        (λ (is : skip ≡ Some e). (before, inl (is, refl)))
        (λ (other : skip ≡ Some e → ⊥). (before ++ e ∷ [], inr (other, refl)))
        (skipped_or_not skip e)

    add_all : (es before : List Event) → (after : List Event) × AreAllAdded skip es before after
    add_all [] before = (before, refl)
    add_all (e ∷ es) before =
        let (mid, one) = add e before in
        let (after, others) = add_all es mid in
        (after, (mid, one, others))

    by_proposed : (letter : Letter) (t : ℕ) → (letter ≡ D → ⊥) → (o : Option Event) → proposed numbers views letter t (offer_seen (views t)) ≡ o → Reached (place_of letter) t → Reached (place_of letter) (t + 1)
    by_proposed letter t other None is (before, h) = (before, letter_none numbers views skip letter t other before is h)
    by_proposed letter t other (Some e) is (before, h) =
        let (after, added) = add e before in
        (after, letter_one numbers views skip letter t other e before after is added h)

    -- the turn of a letter and a task
    turn : (letter : Letter) (t : ℕ) → Reached (place_of letter) t → Reached (place_of letter) (t + 1)
    turn D t (before, h) =
        let (after, added) = add_all (map (event.D t) (delays_in (offer_seen (views t)))) before in
        (after, letter_delays numbers views skip D t refl before after (rise t) added h)
    turn R t h = by_proposed R t (λ q. let no : R ≡ D = q in cc) (proposed numbers views R t (offer_seen (views t))) refl h
    turn E t h = by_proposed E t (λ q. let no : E ≡ D = q in cc) (proposed numbers views E t (offer_seen (views t))) refl h
    turn S t h = by_proposed S t (λ q. let no : S ≡ D = q in cc) (proposed numbers views S t (offer_seen (views t))) refl h
    turn C t h = by_proposed C t (λ q. let no : C ≡ D = q in cc) (proposed numbers views C t (offer_seen (views t))) refl h
    turn T t h = by_proposed T t (λ q. let no : T ≡ D = q in cc) (proposed numbers views T t (offer_seen (views t))) refl h
    turn F t h = by_proposed F t (λ q. let no : F ≡ D = q in cc) (proposed numbers views F t (offer_seen (views t))) refl h
    turn X t h = by_proposed X t (λ q. let no : X ≡ D = q in cc) (proposed numbers views X t (offer_seen (views t))) refl h
    turn B t h = by_proposed B t (λ q. let no : B ≡ D = q in cc) (proposed numbers views B t (offer_seen (views t))) refl h
    turn Z t h = by_proposed Z t (λ q. let no : Z ≡ D = q in cc) (proposed numbers views Z t (offer_seen (views t))) refl h

    turns : (letter : Letter) (n : ℕ) → Reached (place_of letter) 0 → Reached (place_of letter) n
    turns letter zero h = h
    turns letter (suc n) h = let next : n + 1 ≡ suc n = omega arith in subst (Reached (place_of letter)) next (turn letter n (turns letter n h))

    -- all tasks have had their turn, and so has the letter
    letter : (l : Letter) → Reached (place_of l) 0 → Reached (place_of l + 1) 0
    letter l h =
        let (found, k) = turns l (length numbers.tasks) h in
        (found, found_letter numbers views skip (place_of l) (length numbers.tasks) found actor_below k)

    all_letters : Reached 10 0
    all_letters = letter Z (letter B (letter X (letter F (letter T (letter C (letter D (letter S (letter E (letter R ([], found_none numbers views skip))))))))))

    running : (found : List Event) × (unsettled : List ℕ) × AreVariants setup numbers bound events skip found unsettled
    unfolding views
    running =
        let (found, h) = all_letters in
        let opened = open_to (length numbers.tasks) in (
          found,
          opened.tasks,
          record {
            members = λ e. (
              λ k. let m = (h.members e).0 k in ((more, (next e).1 m.0), m.2),
              λ (m : CanFollow setup numbers bound events e × (skip ≡ Some e → ⊥)). (h.members e).1 ((next e).0 m.0.1, inl (below_ten e), m.1),
            );
            ascending = h.ascending;
            open_tasks = λ t. (
              λ k. let m = (opened.members t).0 k in open_holds setup numbers bound events well more t m.0 m.1,
              λ (m : HoldsUp setup numbers bound events t). let is = holds_open setup numbers bound events well more t m in (opened.members t).1 (open_below t is, is),
            );
            rising = opened.rising;
          },
        )
      where
        next : (e : Event) → VerdictIs setup numbers bound (events ++ e ∷ []) Feasible ↔ (all_hold numbers views e ≡ true)
        next = next_exactly setup numbers bound events well more views (λ t. (viewed t).seen)

-- ---- before the end of the program, and after it

over : (setup : ProgramWithInputs) (numbers : Numbering) (bound : ℕ) (events : List Event) (skip : Option Event) → (HasNoEnd events → ⊥) → AreVariants setup numbers bound events skip [] []
over setup numbers bound events skip ended = record {
  members = λ e. (λ (k : Contains [] e). let less : k.0 < 0 = k.1 in absurd (omega arith), λ (h : CanFollow setup numbers bound events e × (skip ≡ Some e → ⊥)). absurd (ended h.0.0));
  ascending = λ i j d less below. let l : j < 0 = below in absurd (omega arith);
  open_tasks = λ t. (λ (k : Contains [] t). let less : k.0 < 0 = k.1 in absurd (omega arith), λ (h : HoldsUp setup numbers bound events t). absurd (ended h.0));
  rising = λ i j d less below. let l : j < 0 = below in absurd (omega arith);
}

-- Feasible events have variants, whichever event is skipped.
pub variants_exist : (setup : ProgramWithInputs) (numbers : Numbering) (bound : ℕ) (events : List Event) (skip : Option Event) → VerdictIs setup numbers bound events Feasible →
    (found : List Event) × (unsettled : List ℕ) × AreVariants setup numbers bound events skip found unsettled
variants_exist setup numbers bound events skip well = ⊎_elim
    (λ more. running setup numbers bound events well more skip)
    (λ (ended : list_all (λ e. not (is_last e)) events ≡ false). ([], [], over setup numbers bound events skip (λ more. true≢false (sym more ∙ ended))))
    (cases_Bool (list_all (λ e. not (is_last e)) events))
