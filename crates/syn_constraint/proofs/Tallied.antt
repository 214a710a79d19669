-- One event more, where the events that are counted are others for each value of `?`: the counts of the open windows, and whether one is past the limit.
use Rattle.std.proofs.Common.{◌≡◌, ℕ, ℤ, zero, suc, ◌+◌, ◌<◌, ◌≤◌, Bool, true, false, cond, List, length, get_or, Option, None, Some, refl, ap, ◌∙◌, sym, subst, arith, inl, inr}
use Rattle.std.specs.Prelude.{◌&&◌, nat_lt, nat_le}
use Rattle.std.specs.Ordering.{int_eq}
use Rattle.std.proofs.lemmas.Bool.{cases_Bool, le-ltb, lt-leb}
use Rattle.std.proofs.lemmas.Bool.Decides.{Decides-int_eq}
use Rattle.common_lemmas.proofs.Truth.{clash, false_behind}
use Rattle.event_machine.specs.declared.Event.{Event}
use Rattle.syn_constraint.specs.declared.constraints.Pattern.{Pattern}
use Rattle.syn_constraint.specs.declared.constraints.Constraint.TheVariants.{Most}
use Rattle.syn_constraint.specs.declared.lasts.Lasts.{Lasts}
use Rattle.syn_constraint.specs.declared.reach.Reach.{Reach}
use Rattle.syn_constraint.specs.declared.reach.Reach.TheVariants.{Nowhere, Everywhere, At}
use Rattle.syn_constraint.specs.declared.surplus_by_value.Tallies.{Tallies}
use Rattle.syn_constraint.specs.Matching.{matches}
use Rattle.syn_constraint.specs.Breaking.{event_at, Breaks, IsFirstBreak}
use Rattle.syn_constraint.specs.inner.Reaching.{reaches, value_of, asks_same}
use Rattle.syn_constraint.specs.inner.Values.{number_at}
use Rattle.syn_constraint.specs.inner.Lasts.{last_at}
use Rattle.syn_constraint.specs.inner.Places.{matches_at, last_of, is_open, live_of}
use Rattle.syn_constraint.specs.inner.Tallies.{live_at, is_open_at, count_now}
use Rattle.syn_constraint.proofs.Windows.{last-here, last-same, last-within, live-within, window-live, live-window}
use Rattle.syn_constraint.proofs.Matched.{surplus-window, window-surplus, reach-value}
use Rattle.syn_constraint.proofs.Alike.{varied-event}
use Rattle.syn_constraint.proofs.Steps.{AreLast, IsReachAt, reach-at, noted-last, event-here, next-place, HasNoBreak, no-break_start, no-break_more, break-first, break-none}

-- the counts are those of the windows that are open behind n events
pub record AreTallied (events : List Event) (a b x : Pattern) (n : ℕ) (closed : Lasts) (tallies : Tallies) : Type 0 where
  pub live : (z : ℤ) → live_at tallies closed z ≡ live_of (matches_at events a (Some z)) (matches_at events b (Some z)) (matches_at events x (Some z)) n
  pub places : (z : ℤ) → number_at tallies.places z ≤ n

tallied-start : (events : List Event) (a b x : Pattern) (closed : Lasts) (tallies : Tallies) → ((z : ℤ) → number_at tallies.places z ≡ 0) → AreTallied events a b x 0 closed tallies
tallied-start events a b x closed tallies none = record {
  live = λ z. ap (λ t. cond t (number_at tallies.counts z) 0) (le-ltb (last_at closed (Some z)) (number_at tallies.places z) (omega (arith, none z)));
  places = λ z. omega (arith, none z);
}

-- ---- between: the next event is noted where it closes, and is not counted yet

mid-live : (events : List Event) (a b x : Pattern) (n : ℕ) (old new : Lasts) (tallies : Tallies) (z : ℤ) → AreLast events b n old → AreLast events b (suc n) new → AreTallied events a b x n old tallies →
    live_at tallies new z ≡ cond (matches_at events b (Some z) (suc n)) 0 (live_of (matches_at events a (Some z)) (matches_at events b (Some z)) (matches_at events x (Some z)) n)
mid-live events a b x n old new tallies z last last' are =
    let p : ℕ → Bool = matches_at events b (Some z) in
    let live : ℕ = live_of (matches_at events a (Some z)) p (matches_at events x (Some z)) n in
    elim (cases_Bool (p (suc n))) [
      | inl yes' ↦
          ap (λ t. cond t (number_at tallies.counts z) 0)
          (le-ltb (last_at new (Some z)) (number_at tallies.places z) (omega (arith, are.places z, last' (Some z), last-here p n yes')))
          ∙ sym (ap (λ t. cond t 0 live) yes')
      | inr no' ↦
          ap (λ t. cond (nat_lt t (number_at tallies.places z)) (number_at tallies.counts z) 0) (last' (Some z) ∙ last-same p n no' ∙ sym (last (Some z)))
          ∙ are.live z
          ∙ sym (ap (λ t. cond t 0 live) no')
    ]

mid-open : (events : List Event) (a b : Pattern) (n : ℕ) (opened new : Lasts) (z : ℤ) → AreLast events a n opened → AreLast events b (suc n) new →
    is_open_at opened new z ≡ cond (matches_at events b (Some z) (suc n)) false (is_open (matches_at events a (Some z)) (matches_at events b (Some z)) n)
mid-open events a b n opened new z last last' =
    let p : ℕ → Bool = matches_at events a (Some z) in
    let q : ℕ → Bool = matches_at events b (Some z) in
    ap (λ t. nat_lt 0 t && nat_le (last_at new (Some z)) t) (last (Some z))
    ∙ ap (λ t. nat_lt 0 (last_of p n) && nat_le t (last_of p n)) (last' (Some z))
    ∙ elim (cases_Bool (q (suc n))) [
      | inl yes' ↦
          false_behind (nat_lt 0 (last_of p n)) (nat_le (last_of q (suc n)) (last_of p n)) (lt-leb (last_of q (suc n)) (last_of p n) (omega (arith, last-here q n yes', last-within p n)))
          ∙ sym (ap (λ t. cond t false (is_open p q n)) yes')
      | inr no' ↦
          ap (λ t. nat_lt 0 (last_of p n) && nat_le t (last_of p n)) (last-same q n no')
          ∙ sym (ap (λ t. cond t false (is_open p q n)) no')
    ]

mid-room : (events : List Event) (a b x : Pattern) (n place : ℕ) (old new : Lasts) (tallies : Tallies) → place ≡ suc n → AreLast events b n old → AreLast events b (suc n) new → AreTallied events a b x n old tallies →
    (z : ℤ) → live_at tallies new z < place
mid-room events a b x n place old new tallies same last last' are z =
    let p : ℕ → Bool = matches_at events b (Some z) in
    let live : ℕ = live_of (matches_at events a (Some z)) p (matches_at events x (Some z)) n in
    elim (cases_Bool (p (suc n))) [
      | inl yes' ↦ omega (arith, same, mid-live events a b x n old new tallies z last last' are ∙ ap (λ t. cond t 0 live) yes')
      | inr no' ↦
          omega (
            arith,
            same,
            mid-live events a b x n old new tallies z last last' are ∙ ap (λ t. cond t 0 live) no',
            live-within (matches_at events a (Some z)) p (matches_at events x (Some z)) n,
          )
    ]

-- ---- the event is counted

tallied-more : (events : List Event) (a b x : Pattern) (n place : ℕ) (reach : Reach) (opened old closed : Lasts) (tallies new : Tallies) → place ≡ suc n → IsReachAt events x (suc n) reach →
    AreLast events a n opened → AreLast events b n old → AreLast events b (suc n) closed → AreTallied events a b x n old tallies →
    ((z : ℤ) → last_at opened (Some z) < place → live_at new closed z ≡ cond (reaches reach (Some z) && is_open_at opened closed z) (suc (live_at tallies closed z)) (live_at tallies closed z)) →
    ((z : ℤ) → number_at tallies.places z ≤ place → number_at new.places z ≤ place) → AreTallied events a b x (suc n) closed new
tallied-more events a b x n place reach opened old closed tallies new same is last was now are live places = record {
  live = λ z.
      let p : ℕ → Bool = matches_at events a (Some z) in
      let q : ℕ → Bool = matches_at events b (Some z) in
      let r : ℕ → Bool = matches_at events x (Some z) in
      live z (omega (arith, same, last (Some z), last-within p n))
      ∙ ap (λ t. cond (t && is_open_at opened closed z) (suc (live_at tallies closed z)) (live_at tallies closed z)) (is (Some z))
      ∙ ap (λ t. cond (r (suc n) && t) (suc (live_at tallies closed z)) (live_at tallies closed z)) (mid-open events a b n opened closed z last now)
      ∙ ap (λ t. cond (r (suc n) && cond (q (suc n)) false (is_open p q n)) (suc t) t) (mid-live events a b x n old closed tallies z was now are)
      ∙ joined (q (suc n)) (r (suc n)) (is_open p q n) (live_of p q r n);
  places = λ z. let h : number_at new.places z ≤ place = places z (omega (arith, same, are.places z)) in omega (arith, h, same);
}
  where
    joined : (closes counts open' : Bool) (live : ℕ) → cond (counts && cond closes false open') (suc (cond closes 0 live)) (cond closes 0 live) ≡ cond closes 0 (cond (counts && open') (suc live) live)
    joined true true open' live = refl
    joined true false open' live = refl
    joined false counts open' live = refl

-- ---- whether it is one too many

open-parts : (closes open' : Bool) → cond closes false open' ≡ true → (closes ≡ false) × (open' ≡ true)
open-parts true open' h = clash h
open-parts false open' h = (refl, h)

many-break : (events : List Event) (limit : ℕ) (a b x : Pattern) (n count : ℕ) (event : Event) (reach : Reach) (opened old closed : Lasts) (tallies : Tallies) → event_at events (suc n) ≡ Some event →
    ((v : Option ℤ) → reaches reach v ≡ matches x v event) → AreLast events a n opened → AreLast events b n old → AreLast events b (suc n) closed → AreTallied events a b x n old tallies →
    count ≡ count_now tallies opened closed reach → limit < count → Breaks (Most limit x a b) events (suc n)
many-break events limit a b x n count event Nowhere opened old closed tallies at is last was now are same many = absurd (omega (arith, same, many))
many-break events limit a b x n count event Everywhere opened old closed tallies at is last was now are same many = absurd (omega (arith, same, many))
many-break events limit a b x n count event (At z) opened old closed tallies at is last was now are same many = elim (cases_Bool (is_open_at opened closed z)) [
  | inl yes' ↦
      let p : ℕ → Bool = matches_at events a (Some z) in
      let q : ℕ → Bool = matches_at events b (Some z) in
      let r : ℕ → Bool = matches_at events x (Some z) in
      let counted : r (suc n) ≡ true = sym (reach-at events x (suc n) event (At z) at is (Some z)) ∙ (Decides-int_eq z z).1 refl in
      let parts = open-parts (q (suc n)) (is_open p q n) (sym (mid-open events a b n opened closed z last now) ∙ yes') in
      let live : count ≡ suc (live_of p q r n) =
      same ∙ ap (λ t. cond t (suc (live_at tallies closed z)) 0) yes'
      ∙ ap suc (mid-live events a b x n old closed tallies z was now are ∙ ap (λ t. cond t 0 (live_of p q r n)) parts.0) in (
        Some z,
        reach-value events x (suc n) event (At z) at is,
        window-surplus events limit x a b (Some z) (suc n) counted (live-window p q r limit n counted parts.0 parts.1 (omega (arith, many, live))),
      )
  | inr no' ↦ absurd (omega (arith, many, same ∙ ap (λ t. cond t (suc (live_at tallies closed z)) 0) no'))
]

-- a reach at no missing value, and at this one
at-one : (reach : Reach) (w : ℤ) → reaches reach None ≡ false → reaches reach (Some w) ≡ true → reach ≡ At w
at-one Nowhere w none some = clash some
at-one Everywhere w none some = clash (sym none)
at-one (At z) w none some = ap At ((Decides-int_eq z w).0 some)

few-no_break : (events : List Event) (limit : ℕ) (a b x : Pattern) (n count : ℕ) (event : Event) (reach : Reach) (opened old closed : Lasts) (tallies : Tallies) → event_at events (suc n) ≡ Some event →
    asks_same x ≡ true → ((v : Option ℤ) → reaches reach v ≡ matches x v event) → AreLast events a n opened → AreLast events b n old → AreLast events b (suc n) closed → AreTallied events a b x n old tallies →
    count ≡ count_now tallies opened closed reach → count ≤ limit → Breaks (Most limit x a b) events (suc n) → ⊥
few-no_break events limit a b x n count event reach opened old closed tallies at varied is last was now are same few (None, value, many) =
    clash (sym (varied-event x event varied) ∙ sym (is None) ∙ reach-at events x (suc n) event reach at is None ∙ (surplus-window events limit x a b None (suc n) many).0)
few-no_break events limit a b x n count event reach opened old closed tallies at varied is last was now are same few (Some w, value, many) =
    let p : ℕ → Bool = matches_at events a (Some w) in
    let q : ℕ → Bool = matches_at events b (Some w) in
    let r : ℕ → Bool = matches_at events x (Some w) in
    let both = surplus-window events limit x a b (Some w) (suc n) many in
    let tests = window-live p q r limit n refl both.0 both.1 in
    let one : reach ≡ At w = at-one reach w (is None ∙ varied-event x event varied) (reach-at events x (suc n) event reach at is (Some w) ∙ both.0) in
    let open' : is_open_at opened closed w ≡ true =
    mid-open events a b n opened closed w last now ∙ ap (λ t. cond t false (is_open p q n)) tests.0 ∙ tests.1 in
    let live : count ≡ suc (live_of p q r n) =
    same ∙ ap (count_now tallies opened closed) one ∙ ap (λ t. cond t (suc (live_at tallies closed w)) 0) open'
    ∙ ap suc (mid-live events a b x n old closed tallies w was now are ∙ ap (λ t. cond t 0 (live_of p q r n)) tests.0) in
    omega (arith, few, live, tests.2)

-- ---- the whole state

-- the places that open and close are noted, the counts are those of the open windows, and no event up to n is one too many
pub record AreWindows (events : List Event) (limit : ℕ) (x a b : Pattern) (n place : ℕ) (opened closed : Lasts) (tallies : Tallies) : Type 0 where
  pub at : place ≡ n
  pub opens : AreLast events a n opened
  pub closes : AreLast events b n closed
  pub tallied : AreTallied events a b x n closed tallies
  pub none : HasNoBreak (Most limit x a b) events n

pub windows-start : (events : List Event) (limit : ℕ) (x a b : Pattern) (opened closed : Lasts) (tallies : Tallies) → ((v : Option ℤ) → last_at opened v ≡ 0) → ((v : Option ℤ) → last_at closed v ≡ 0) → ((z : ℤ) → number_at tallies.places z ≡ 0) →
    AreWindows events limit x a b 0 0 opened closed tallies
windows-start events limit x a b opened closed tallies none none' zeros = record {
  at = refl;
  opens = none;
  closes = none';
  tallied = tallied-start events a b x closed tallies zeros;
  none = no-break_start (Most limit x a b) events;
}

-- the next event is noted where it closes
pub closed-next : (events : List Event) (limit : ℕ) (x a b : Pattern) (n place : ℕ) (d : Event) (noted : Reach) (opened old closed : Lasts) (tallies : Tallies) → n < length events → AreWindows events limit x a b n place opened old tallies →
    ((v : Option ℤ) → reaches noted v ≡ matches b v (get_or events n d)) →
    ((v : Option ℤ) → last_at old v ≤ place + 1 → last_at closed v ≡ cond (reaches noted v) (place + 1) (last_at old v)) → AreLast events b (suc n) closed
closed-next events limit x a b n place d noted opened old closed tallies low are is note =
    noted-last events b n (place + 1) noted old closed (omega (arith, are.at)) (reach-at events b (suc n) (get_or events n d) noted (event-here events n d low) is) are.closes note

pub windows-room : (events : List Event) (limit : ℕ) (x a b : Pattern) (n place : ℕ) (opened old closed : Lasts) (tallies : Tallies) → AreWindows events limit x a b n place opened old tallies → AreLast events b (suc n) closed →
    (z : ℤ) → live_at tallies closed z < place + 1
windows-room events limit x a b n place opened old closed tallies are now = mid-room events a b x n (place + 1) old closed tallies (omega (arith, are.at)) are.closes now are.tallied

pub windows-break : (events : List Event) (limit : ℕ) (x a b : Pattern) (n place count : ℕ) (d : Event) (counting : Reach) (opened old closed : Lasts) (tallies : Tallies) → n < length events → AreWindows events limit x a b n place opened old tallies →
    AreLast events b (suc n) closed → ((v : Option ℤ) → reaches counting v ≡ matches x v (get_or events n d)) → count ≡ count_now tallies opened closed counting → limit < count →
    IsFirstBreak (Most limit x a b) events (Some (place + 1))
windows-break events limit x a b n place count d counting opened old closed tallies low are now is same many =
    break-first (Most limit x a b) events n (place + 1) (omega (arith, are.at)) are.none
    (many-break events limit a b x n count (get_or events n d) counting opened old closed tallies (event-here events n d low) is are.opens are.closes now are.tallied same many)

pub windows-more : (events : List Event) (limit : ℕ) (x a b : Pattern) (n place count : ℕ) (d : Event) (counting opening : Reach) (opened opened' old closed : Lasts) (tallies new : Tallies) → asks_same x ≡ true → n < length events →
    AreWindows events limit x a b n place opened old tallies → AreLast events b (suc n) closed → ((v : Option ℤ) → reaches counting v ≡ matches x v (get_or events n d)) →
    count ≡ count_now tallies opened closed counting → count ≤ limit →
    ((z : ℤ) → last_at opened (Some z) < place + 1 → live_at new closed z ≡ cond (reaches counting (Some z) && is_open_at opened closed z) (suc (live_at tallies closed z)) (live_at tallies closed z)) →
    ((z : ℤ) → number_at tallies.places z ≤ place + 1 → number_at new.places z ≤ place + 1) →
    ((v : Option ℤ) → reaches opening v ≡ matches a v (get_or events n d)) →
    ((v : Option ℤ) → last_at opened v ≤ place + 1 → last_at opened' v ≡ cond (reaches opening v) (place + 1) (last_at opened v)) → AreWindows events limit x a b (n + 1) (place + 1) opened' closed new
windows-more events limit x a b n place count d counting opening opened opened' old closed tallies new varied low are now is same few live places is' note =
    let at : event_at events (suc n) ≡ Some (get_or events n d) = event-here events n d low in
    let next : place + 1 ≡ suc n = omega (arith, are.at) in
    subst (λ k. AreWindows events limit x a b k (place + 1) opened' closed new) (next-place n) record {
      at = next;
      opens = noted-last events a n (place + 1) opening opened opened' next (reach-at events a (suc n) (get_or events n d) opening at is') are.opens note;
      closes = now;
      tallied = tallied-more events a b x n (place + 1) counting opened old closed tallies new next (reach-at events x (suc n) (get_or events n d) counting at is) are.opens are.closes now are.tallied live places;
      none = no-break_more (Most limit x a b) events n are.none
          (few-no_break events limit a b x n count (get_or events n d) counting opened old closed tallies at varied is are.opens are.closes now are.tallied same few);
    }

pub windows-end : (events : List Event) (limit : ℕ) (x a b : Pattern) (n place : ℕ) (opened closed : Lasts) (tallies : Tallies) → length events ≤ n → AreWindows events limit x a b n place opened closed tallies → IsFirstBreak (Most limit x a b) events None
windows-end events limit x a b n place opened closed tallies all are = break-none (Most limit x a b) events n all are.none

-- a pattern with `?` matches no event without a value
pub single-reach : (x : Pattern) (event : Event) (reach : Reach) → asks_same x ≡ true → ((v : Option ℤ) → reaches reach v ≡ matches x v event) → reaches reach None ≡ false
single-reach x event reach varied is = is None ∙ varied-event x event varied
