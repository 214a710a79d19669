-- One event more, where the events that are counted are the same for each value of `?`: the openings that are kept, and whether one is past the limit.
use Rattle.std.proofs.Common.{◌≡◌, ℕ, ℤ, zero, suc, ◌+◌, ◌-◌, ◌<◌, ◌≤◌, Bool, true, false, cond, length, List, [], ◌∷◌, ◌++◌, take, Option, None, Some, refl, ap, ◌∙◌, sym, subst, arith, inl, inr, ◌⊎◌, append-nil, length-append, get_or}
use Rattle.std.specs.Prelude.{◌&&◌, slice_get}
use Rattle.std.specs.Option.{option_map_or}
use Rattle.std.proofs.lemmas.Bool.{cases_Bool, cases_lt, and_parts, ltb-true, ltb-false}
use Rattle.std.proofs.lemmas.Option.{slice_get_within}
use Rattle.common_lemmas.proofs.Lists.{last_at, element_at}
use Rattle.common_lemmas.proofs.Options.{some_same, not_missing}
use Rattle.common_lemmas.proofs.Truth.{clash}
use Rattle.event_machine.specs.declared.Event.{Event}
use Rattle.syn_constraint.specs.declared.constraints.Pattern.{Pattern}
use Rattle.syn_constraint.specs.declared.constraints.Constraint.TheVariants.{Most}
use Rattle.syn_constraint.specs.declared.lasts.Lasts.{Lasts}
use Rattle.syn_constraint.specs.declared.reach.Reach.{Reach}
use Rattle.syn_constraint.specs.declared.reach.Reach.TheVariants.{Nowhere, Everywhere, At}
use Rattle.syn_constraint.specs.declared.surplus.Opening.{Opening}
use Rattle.syn_constraint.specs.Matching.{matches}
use Rattle.syn_constraint.specs.Breaking.{event_at, IsValue, Breaks, IsFirstBreak}
use Rattle.syn_constraint.specs.inner.Reaching.{reaches, value_of, asks_same}
use Rattle.syn_constraint.specs.inner.Lasts as lasts
use Rattle.syn_constraint.specs.inner.Places.{matches_at, last_of, total_of}
use Rattle.syn_constraint.specs.inner.Openings.{kept_by, is_over, is_over_at, IsClosed, IsOpenStill, AreClosed, PassesClosed}
use Rattle.syn_constraint.proofs.Windows.{last-more, last-unclosed, unclosed-last, total-up, IsWindow}
use Rattle.syn_constraint.proofs.Matched.{surplus-window, window-surplus, reach-value}
use Rattle.syn_constraint.proofs.Alike.{alike-total, alike-at}
use Rattle.syn_constraint.proofs.Steps.{AreLast, IsReachAt, reach-at, noted-last, event-here, next-place, HasNoBreak, no-break_start, no-break_more, break-first, break-none}

-- ---- lists with one element more

pushed : {X : Type 0} (xs : List X) (y : X) (j : ℕ) (o : X) → slice_get (xs ++ (y ∷ [])) j ≡ Some o → (slice_get xs j ≡ Some o) ⊎ ((j ≡ length xs) × (y ≡ o))
pushed [] y zero o e = inr (refl, some_same e)
pushed [] y (suc j) o e = absurd (not_missing o e)
pushed (x ∷ xs) y zero o e = inl e
pushed (x ∷ xs) y (suc j) o e = elim (pushed xs y j o e) [
  | inl before ↦ inl before
  | inr last ↦ inr (ap suc last.0, last.1)
]

stays : {X : Type 0} (xs : List X) (y : X) (j : ℕ) (o : X) → slice_get xs j ≡ Some o → slice_get (xs ++ (y ∷ [])) j ≡ Some o
stays [] y j o e = absurd (not_missing o e)
stays (x ∷ xs) y zero o e = e
stays (x ∷ xs) y (suc j) o e = stays xs y j o e

-- ---- the openings that are kept

-- an opening that is kept behind n events
pub record IsKept (events : List Event) (a x : Pattern) (n : ℕ) (o : Opening) : Type 0 where
  pub within : o.place ≤ n
  pub reach : IsReachAt events a o.place o.reach
  pub counted : o.counted ≡ total_of (matches_at events x None) o.place
  pub value : IsValue events (value_of o.reach)

-- all openings up to n are kept, in order
pub record AreKept (events : List Event) (a x : Pattern) (n : ℕ) (openings : List Opening) : Type 0 where
  pub each : (j : ℕ) (o : Opening) → slice_get openings j ≡ Some o → IsKept events a x n o
  pub all : (i : ℕ) (v : Option ℤ) → i ≤ n → matches_at events a v i ≡ true → (j : ℕ) × (o : Opening) × (slice_get openings j ≡ Some o) × (o.place ≡ i)
  pub ordered : (j l : ℕ) (o q : Opening) → j ≤ l → slice_get openings j ≡ Some o → slice_get openings l ≡ Some q → o.counted ≤ q.counted

pub kept-start : (events : List Event) (a x : Pattern) → AreKept events a x 0 []
kept-start events a x = record {
  each = λ j o e. absurd (not_missing o e);
  all = λ i v low yes'. let same : i ≡ 0 = omega arith in clash (ap (matches_at events a v) (sym same) ∙ yes');
  ordered = λ j l o q low e f. absurd (not_missing o e);
}

kept-later : (events : List Event) (a x : Pattern) (n : ℕ) (o : Opening) → IsKept events a x n o → IsKept events a x (suc n) o
kept-later events a x n o is = record { within = omega (arith, is.within); reach = is.reach; counted = is.counted; value = is.value }

-- an event that opens at no value
kept-none : (events : List Event) (a x : Pattern) (n : ℕ) (openings : List Opening) → ((v : Option ℤ) → matches_at events a v (suc n) ≡ false) → AreKept events a x n openings → AreKept events a x (suc n) openings
kept-none events a x n openings none kept = record {
  each = λ j o e. kept-later events a x n o (kept.each j o e);
  all = λ i v low yes'. elim (cases_lt n i) [
    | inl above ↦ let same : i ≡ suc n = omega arith in clash (sym (none v) ∙ ap (matches_at events a v) (sym same) ∙ yes')
    | inr below ↦ kept.all i v below yes'
  ];
  ordered = kept.ordered;
}

-- one that opens
kept-one : (events : List Event) (a x : Pattern) (n : ℕ) (openings : List Opening) (o : Opening) → o.place ≡ suc n → IsKept events a x (suc n) o → AreKept events a x n openings → AreKept events a x (suc n) (openings ++ (o ∷ []))
kept-one events a x n openings o at is kept = record {
  each = λ j p e. elim (pushed openings o j p e) [
    | inl before ↦ kept-later events a x n p (kept.each j p before)
    | inr last ↦ subst (IsKept events a x (suc n)) last.1 is
  ];
  all = λ i v low yes'. elim (cases_lt n i) [
    | inl above ↦ let same : o.place ≡ i = omega (arith, at) in (length openings, o, last_at openings o, same)
    | inr below ↦ let there = kept.all i v below yes' in (there.0, there.1, stays openings o there.0 there.1 there.2, there.3)
  ];
  ordered = λ j l p q low e f. elim (pushed openings o l q f) [
    | inl before ↦ elim (pushed openings o j p e) [
      | inl first ↦ kept.ordered j l p q low first before
      | inr last ↦ absurd (omega (arith, low, last.0, slice_get_within openings l q before))
    ]
    | inr last ↦ elim (pushed openings o j p e) [
      | inl first ↦
          let old : IsKept events a x n p = kept.each j p first in
          omega (
            arith,
            old.counted,
            is.counted,
            ap (λ t. t.counted) last.1,
            total-up (matches_at events x None) o.place p.place (omega (arith, old.within, at)),
          )
      | inr both ↦ let same : p ≡ q = sym both.1 ∙ last.1 in omega (arith, ap (λ t. t.counted) same)
    ]
  ];
}

kept-here : (events : List Event) (a x : Pattern) (n : ℕ) (event : Event) (o : Opening) → event_at events (suc n) ≡ Some event → ((v : Option ℤ) → reaches o.reach v ≡ matches a v event) → o.place ≡ suc n →
    o.counted ≡ total_of (matches_at events x None) (suc n) → IsKept events a x (suc n) o
kept-here events a x n event o at is same total = record {
  within = omega (arith, same);
  reach = subst (λ k. IsReachAt events a k o.reach) (sym same) (reach-at events a (suc n) event o.reach at is);
  counted = total ∙ ap (total_of (matches_at events x None)) (sym same);
  value = reach-value events a (suc n) event o.reach at is;
}

pub kept-more : (events : List Event) (a x : Pattern) (n : ℕ) (event : Event) (openings : List Opening) (o : Opening) (reach : Reach) → o.reach ≡ reach → event_at events (suc n) ≡ Some event →
    ((v : Option ℤ) → reaches o.reach v ≡ matches a v event) → o.place ≡ suc n → o.counted ≡ total_of (matches_at events x None) (suc n) → AreKept events a x n openings →
    AreKept events a x (suc n) (openings ++ kept_by reach o)
kept-more events a x n event openings o Nowhere known at is same total kept =
    subst (AreKept events a x (suc n)) (sym (append-nil openings))
    (kept-none events a x n openings (λ v. sym (sym (ap (λ r. reaches r v) known) ∙ reach-at events a (suc n) event o.reach at is v)) kept)
kept-more events a x n event openings o Everywhere known at is same total kept = kept-one events a x n openings o same (kept-here events a x n event o at is same total) kept
kept-more events a x n event openings o (At z) known at is same total kept = kept-one events a x n openings o same (kept-here events a x n event o at is same total) kept

-- ---- what is closed stays closed

pub closed-stays : (events : List Event) (b : Pattern) (n : ℕ) (old new : Lasts) (openings : List Opening) (oldest : ℕ) → AreLast events b n old → AreLast events b (suc n) new →
    AreClosed openings old 0 oldest → AreClosed openings new 0 oldest
closed-stays events b n old new openings oldest last last' closed = λ j o low before e v yes'.
    omega (arith, closed j o low before e v yes', last v, last' v, last-more (matches_at events b v) n)

pub closed-joined : (openings : List Opening) (closed : Lasts) (oldest next : ℕ) → AreClosed openings closed 0 oldest → AreClosed openings closed oldest next → AreClosed openings closed 0 next
closed-joined openings closed oldest next front back = λ j o low before e. elim (cases_lt j oldest) [
  | inl first ↦ front j o low first e
  | inr behind ↦ back j o behind before e
]

-- those that are passed over stand before the one that is added
pub closed-more : (openings : List Opening) (o : List Opening) (closed : Lasts) (oldest : ℕ) → oldest ≤ length openings → AreClosed openings closed 0 oldest → AreClosed (openings ++ o) closed 0 oldest
closed-more openings o closed oldest within are = λ j p low before e. are j p low before (front openings o j p (omega (arith, before, within)) e)
  where
    front : {X : Type 0} (xs ys : List X) (j : ℕ) (p : X) → j < length xs → slice_get (xs ++ ys) j ≡ Some p → slice_get xs j ≡ Some p
    front [] ys j p short e = absurd (omega (arith, short))
    front (x ∷ xs) ys zero p short e = e
    front (x ∷ xs) ys (suc j) p short e = front xs ys j p (let h : suc j < length (x ∷ xs) = short in omega (arith, h)) e

-- ---- whether the event is one too many

-- an opening past the limit that is not closed
pub over-break : (events : List Event) (limit : ℕ) (x a b : Pattern) (n count j : ℕ) (closed : Lasts) (openings : List Opening) → asks_same x ≡ false → matches_at events x None (suc n) ≡ true →
    count ≡ total_of (matches_at events x None) (suc n) → AreKept events a x n openings → AreLast events b (suc n) closed →
    is_over_at openings limit count j ≡ true → ((o : Opening) → slice_get openings j ≡ Some o → IsOpenStill closed o) → Breaks (Most limit x a b) events (suc n)
over-break events limit x a b n count j closed openings alike counted total kept last over open' = by_option (slice_get openings j) refl over
  where
    by_option : (p : Option Opening) → slice_get openings j ≡ p → option_map_or (is_over limit count) p false ≡ true → Breaks (Most limit x a b) events (suc n)
    by_option None e h = clash h
    by_option (Some o) e h =
        let is : IsKept events a x n o = kept.each j o e in
        let still : IsOpenStill closed o = open' o e in
        let v : Option ℤ = value_of o.reach in
        let many : o.counted < count - limit = ltb-true o.counted (count - limit) h in (
          v,
          is.value,
          window-surplus events limit x a b v (suc n) (alike-at events x v (suc n) alike ∙ counted)
              record {
                opening = o.place;
                before = omega (arith, is.within);
                opened = sym (is.reach v) ∙ still.0;
                unclosed = last-unclosed (matches_at events b v) o.place (suc n) (omega (arith, still.1, last v));
                many = omega (arith, many, total, is.counted, alike-total events x v o.place alike, alike-total events x v (suc n) alike);
              },
        )

-- all openings from a place of the list on are within the limit, and those before are closed
pub within-no_break : (events : List Event) (limit : ℕ) (x a b : Pattern) (n count next : ℕ) (closed : Lasts) (openings : List Opening) → asks_same x ≡ false →
    count ≡ total_of (matches_at events x None) (suc n) → AreKept events a x n openings → AreLast events b (suc n) closed → AreClosed openings closed 0 next →
    is_over_at openings limit count next ≡ false → Breaks (Most limit x a b) events (suc n) → ⊥
within-no_break events limit x a b n count next closed openings alike total kept last passed over (v, value, many) =
    let window : IsWindow (matches_at events a v) (matches_at events b v) (matches_at events x v) limit (suc n) = (surplus-window events limit x a b v (suc n) many).1 in
    let (j, o, there, at) = kept.all window.opening v (omega (arith, window.before)) window.opened in
    let is : IsKept events a x n o = kept.each j o there in
    let opens : reaches o.reach v ≡ true = is.reach v ∙ ap (matches_at events a v) at ∙ window.opened in
    let last' : last_of (matches_at events b v) (suc n) ≤ window.opening = unclosed-last (matches_at events b v) window.opening (suc n) window.unclosed in
    elim (cases_lt j next) [
      | inl before ↦ omega (arith, passed j o (omega arith) before there v opens, last v, last', at)
      | inr behind ↦
          let (q, here) = element_at openings next (omega (arith, behind, slice_get_within openings j o there)) in
          let few : count - limit ≤ q.counted = ltb-false q.counted (count - limit) (sym (ap (λ p. option_map_or (is_over limit count) p false) here) ∙ over) in
          omega (
            arith,
            few,
            kept.ordered next j q o behind here there,
            is.counted,
            ap (total_of (matches_at events x None)) at,
            total,
            window.many,
            alike-total events x v window.opening alike,
            alike-total events x v (suc n) alike,
          )
    ]

-- an event that is not counted is not one too many
pub uncounted-no_break : (events : List Event) (limit : ℕ) (x a b : Pattern) (k : ℕ) → asks_same x ≡ false → matches_at events x None k ≡ false → Breaks (Most limit x a b) events k → ⊥
uncounted-no_break events limit x a b k alike no' (v, value, many) =
    clash (sym no' ∙ sym (alike-at events x v k alike) ∙ (surplus-window events limit x a b v k many).0)

-- ---- the whole state

-- the openings are kept, those that are passed over are closed, and no event up to n is one too many
pub record AreOpened (events : List Event) (limit : ℕ) (x a b : Pattern) (n place count oldest : ℕ) (closed : Lasts) (openings : List Opening) : Type 0 where
  pub at : place ≡ n
  pub counted : count ≡ total_of (matches_at events x None) n
  pub last : AreLast events b n closed
  pub kept : AreKept events a x n openings
  pub within : oldest ≤ length openings
  pub passed : AreClosed openings closed 0 oldest
  pub none : HasNoBreak (Most limit x a b) events n

pub opened-start : (events : List Event) (limit : ℕ) (x a b : Pattern) (closed : Lasts) (openings : List Opening) → ((v : Option ℤ) → lasts.last_at closed v ≡ 0) → openings ≡ [] →
    AreOpened events limit x a b 0 0 0 0 closed openings
opened-start events limit x a b closed openings none empty = record {
  at = refl;
  counted = refl;
  last = none;
  kept = subst (AreKept events a x 0) (sym empty) (kept-start events a x);
  within = omega arith;
  passed = λ j o low before e. absurd (omega (arith, before));
  none = no-break_start (Most limit x a b) events;
}

-- what is known of the next event before it is kept
record IsNext (events : List Event) (limit : ℕ) (x a b : Pattern) (n count next : ℕ) (counts : Bool) (closed : Lasts) (openings : List Opening) : Type 0 where
  counted : counts ≡ matches_at events x None (suc n)
  total : count ≡ total_of (matches_at events x None) (suc n)
  last : AreLast events b (suc n) closed
  passed : AreClosed openings closed 0 next

is-next : (events : List Event) (limit : ℕ) (x a b : Pattern) (n place count more oldest next : ℕ) (counts : Bool) (d : Event) (noted counting : Reach) (old closed : Lasts) (openings : List Opening) → n < length events →
    AreOpened events limit x a b n place count oldest old openings → ((v : Option ℤ) → reaches noted v ≡ matches b v (get_or events n d)) →
    ((v : Option ℤ) → lasts.last_at old v ≤ place + 1 → lasts.last_at closed v ≡ cond (reaches noted v) (place + 1) (lasts.last_at old v)) →
    ((v : Option ℤ) → reaches counting v ≡ matches x v (get_or events n d)) → counts ≡ reaches counting None → more ≡ count + cond counts 1 0 → PassesClosed openings closed limit more oldest next →
    IsNext events limit x a b n more next counts closed openings
is-next events limit x a b n place count more oldest next counts d noted counting old closed openings low are is note is' counted sum passes =
    let at : event_at events (suc n) ≡ Some (get_or events n d) = event-here events n d low in
    let here : counts ≡ matches_at events x None (suc n) = counted ∙ reach-at events x (suc n) (get_or events n d) counting at is' None in
    let last : AreLast events b (suc n) closed =
    noted-last events b n (place + 1) noted old closed (omega (arith, are.at)) (reach-at events b (suc n) (get_or events n d) noted at is) are.last note in
    record {
      counted = here;
      total = sum ∙ ap (λ t. t + cond counts 1 0) are.counted ∙ ap (λ c. total_of (matches_at events x None) n + cond c 1 0) here;
      last = last;
      passed = closed-joined openings closed oldest next (closed-stays events b n old closed openings oldest are.last last are.passed) passes.passed;
    }

pub opened-break : (events : List Event) (limit : ℕ) (x a b : Pattern) (n place count more oldest next : ℕ) (counts : Bool) (d : Event) (noted counting : Reach) (old closed : Lasts) (openings : List Opening) → asks_same x ≡ false → n < length events →
    AreOpened events limit x a b n place count oldest old openings → ((v : Option ℤ) → reaches noted v ≡ matches b v (get_or events n d)) →
    ((v : Option ℤ) → lasts.last_at old v ≤ place + 1 → lasts.last_at closed v ≡ cond (reaches noted v) (place + 1) (lasts.last_at old v)) →
    ((v : Option ℤ) → reaches counting v ≡ matches x v (get_or events n d)) → counts ≡ reaches counting None → more ≡ count + cond counts 1 0 → PassesClosed openings closed limit more oldest next →
    (counts && is_over_at openings limit more next) ≡ true → IsFirstBreak (Most limit x a b) events (Some (place + 1))
opened-break events limit x a b n place count more oldest next counts d noted counting old closed openings alike low are is note is' counted sum passes surplus =
    let here : IsNext events limit x a b n more next counts closed openings = is-next events limit x a b n place count more oldest next counts d noted counting old closed openings low are is note is' counted sum passes in
    let both = and_parts counts (is_over_at openings limit more next) surplus in
    break-first (Most limit x a b) events n (place + 1) (omega (arith, are.at)) are.none
    (over-break events limit x a b n more next closed openings alike (sym here.counted ∙ both.0) here.total are.kept here.last both.1 (λ o e. passes.stops o both.1 e))

pub opened-more : (events : List Event) (limit : ℕ) (x a b : Pattern) (n place count more oldest next : ℕ) (counts : Bool) (d : Event) (noted counting : Reach) (old closed : Lasts) (openings : List Opening) (o : Opening) (new : List Opening) → asks_same x ≡ false → n < length events →
    AreOpened events limit x a b n place count oldest old openings → ((v : Option ℤ) → reaches noted v ≡ matches b v (get_or events n d)) →
    ((v : Option ℤ) → lasts.last_at old v ≤ place + 1 → lasts.last_at closed v ≡ cond (reaches noted v) (place + 1) (lasts.last_at old v)) →
    ((v : Option ℤ) → reaches counting v ≡ matches x v (get_or events n d)) → counts ≡ reaches counting None → more ≡ count + cond counts 1 0 → PassesClosed openings closed limit more oldest next →
    (counts && is_over_at openings limit more next) ≡ false → ((v : Option ℤ) → reaches o.reach v ≡ matches a v (get_or events n d)) → o.place ≡ place + 1 → o.counted ≡ more → new ≡ openings ++ kept_by o.reach o →
    AreOpened events limit x a b (n + 1) (place + 1) more next closed new
opened-more events limit x a b n place count more oldest next counts d noted counting old closed openings o new alike low are is note is' counted sum passes surplus opens at' counted' all =
    let here : IsNext events limit x a b n more next counts closed openings = is-next events limit x a b n place count more oldest next counts d noted counting old closed openings low are is note is' counted sum passes in
    let event : event_at events (suc n) ≡ Some (get_or events n d) = event-here events n d low in
    let within : next ≤ length openings = passes.within are.within in
    subst (λ k. AreOpened events limit x a b k (place + 1) more next closed new) (next-place n) record {
      at = omega (arith, are.at);
      counted = here.total;
      last = here.last;
      kept = subst (AreKept events a x (suc n)) (sym all)
          (kept-more events a x n (get_or events n d) openings o o.reach refl event opens (omega (arith, at', are.at)) (counted' ∙ here.total) are.kept);
      within = omega (arith, within, ap length all, length-append openings (kept_by o.reach o));
      passed = subst (λ t. AreClosed t closed 0 next) (sym all) (closed-more openings (kept_by o.reach o) closed next within here.passed);
      none = no-break_more (Most limit x a b) events n are.none
          (elim (cases_Bool counts) [
            | inl yes' ↦
                within-no_break events limit x a b n more next closed openings alike here.total are.kept here.last here.passed
                (sym (ap (λ c. c && is_over_at openings limit more next) yes') ∙ surplus)
            | inr no' ↦ uncounted-no_break events limit x a b (suc n) alike (sym here.counted ∙ no')
          ]);
    }

pub opened-end : (events : List Event) (limit : ℕ) (x a b : Pattern) (n place count oldest : ℕ) (closed : Lasts) (openings : List Opening) → length events ≤ n → AreOpened events limit x a b n place count oldest closed openings →
    IsFirstBreak (Most limit x a b) events None
opened-end events limit x a b n place count oldest closed openings all are = break-none (Most limit x a b) events n all are.none
