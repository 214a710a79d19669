-- One event more: the last places, and that no event up to a place breaks the constraint.
use Rattle.std.proofs.Common.{◌≡◌, ℕ, ℤ, zero, suc, ◌+◌, ◌<◌, ◌≤◌, true, false, cond, length, List, [], ◌∷◌, Option, None, Some, refl, ap, ◌∙◌, sym, subst, arith, inl, inr, get_or}
use Rattle.std.proofs.lemmas.Bool.{cases_lt}
use Rattle.std.proofs.lemmas.Option.{slice_get_within}
use Rattle.common_lemmas.proofs.Options.{not_missing}
use Rattle.common_lemmas.proofs.Truth.{clash}
use Rattle.event_machine.specs.declared.Event.{Event}
use Rattle.syn_constraint.specs.declared.constraints.Pattern.{Pattern}
use Rattle.syn_constraint.specs.declared.constraints.Constraint.{Constraint}
use Rattle.syn_constraint.specs.declared.constraints.Constraint.TheVariants.{Before, Most}
use Rattle.syn_constraint.specs.declared.lasts.Lasts.{Lasts}
use Rattle.syn_constraint.specs.declared.reach.Reach.{Reach}
use Rattle.syn_constraint.specs.Matching.{matches}
use Rattle.syn_constraint.specs.Breaking.{event_at, MatchesAt, Breaks, IsFirstBreak}
use Rattle.syn_constraint.specs.inner.Reaching.{reaches, value_of}
use Rattle.syn_constraint.specs.inner.Lasts.{last_at, IsUnseen}
use Rattle.syn_constraint.specs.inner.Places.{matches_at, last_of}
use Rattle.syn_constraint.proofs.Windows.{last-within}
use Rattle.syn_constraint.proofs.Matched.{matches-event, early-tests, tests-early, reach-value}

-- ---- the event at the next place

pub event-here : (events : List Event) (n : ℕ) (d : Event) → n < length events → event_at events (suc n) ≡ Some (get_or events n d)
event-here [] n d low = absurd (omega (arith, low))
event-here (x ∷ events) zero d low = refl
event-here (x ∷ events) (suc n) d low = let h : suc n < length (x ∷ events) = low in event-here events n d (omega (arith, h))

pub next-place : (n : ℕ) → suc n ≡ n + 1
next-place n = omega arith

-- a place whose event is known is one of the sequence
place-within : (events : List Event) (g : Pattern) (v : Option ℤ) (k : ℕ) → MatchesAt events g v k → k ≤ length events
place-within events g v zero at = absurd (not_missing at.event at.there)
place-within events g v (suc k) at = omega (arith, slice_get_within events k at.event at.there)

break-within : (c : Constraint) (events : List Event) (k : ℕ) → Breaks c events k → k ≤ length events
break-within (Before early late) events k (v, is, comes) = place-within events late v k comes.comes
break-within (Most limit x a b) events k (v, is, many) = place-within events x v k many.counts

break-behind : (c : Constraint) (events : List Event) (k : ℕ) → Breaks c events k → 0 < k
break-behind (Before early late) events zero (v, is, comes) = absurd (not_missing comes.comes.event comes.comes.there)
break-behind (Most limit x a b) events zero (v, is, many) = absurd (not_missing many.counts.event many.counts.there)
break-behind c events (suc k) h = omega arith

-- ---- no break up to a place

abbrev pub HasNoBreak : Constraint → List Event → ℕ → Type 0
HasNoBreak c events n = (k : ℕ) → k ≤ n → Breaks c events k → ⊥

pub no-break_start : (c : Constraint) (events : List Event) → HasNoBreak c events 0
no-break_start c events = λ k low h. omega (arith, low, break-behind c events k h)

pub no-break_more : (c : Constraint) (events : List Event) (n : ℕ) → HasNoBreak c events n → (Breaks c events (suc n) → ⊥) → HasNoBreak c events (suc n)
no-break_more c events n none here = λ k low h. elim (cases_lt n k) [
  | inl above ↦ let same : k ≡ suc n = omega arith in here (subst (Breaks c events) same h)
  | inr below ↦ none k below h
]

pub break-first : (c : Constraint) (events : List Event) (n place : ℕ) → place ≡ suc n → HasNoBreak c events n → Breaks c events (suc n) → IsFirstBreak c events (Some place)
break-first c events n place same none h =
    (subst (Breaks c events) (sym same) h, λ i before broken. none i (omega (arith, before, same)) broken)

pub break-none : (c : Constraint) (events : List Event) (n : ℕ) → length events ≤ n → HasNoBreak c events n → IsFirstBreak c events None
break-none c events n all none = λ k h. none k (omega (arith, all, break-within c events k h)) h

-- ---- last places

-- the last places are those up to n at which the pattern matches
abbrev pub AreLast : List Event → Pattern → ℕ → Lasts → Type 0
AreLast events g n lasts = (v : Option ℤ) → last_at lasts v ≡ last_of (matches_at events g v) n

-- these are the values at which the pattern matches the event at the place
abbrev pub IsReachAt : List Event → Pattern → ℕ → Reach → Type 0
IsReachAt events g k reach = (v : Option ℤ) → reaches reach v ≡ matches_at events g v k

pub reach-at : (events : List Event) (g : Pattern) (k : ℕ) (event : Event) (reach : Reach) → event_at events k ≡ Some event → ((v : Option ℤ) → reaches reach v ≡ matches g v event) → IsReachAt events g k reach
reach-at events g k event reach at is = λ v. is v ∙ sym (matches-event events g v k event at)

pub noted-last : (events : List Event) (g : Pattern) (n place : ℕ) (reach : Reach) (old new : Lasts) → place ≡ suc n → IsReachAt events g (suc n) reach → AreLast events g n old →
    ((v : Option ℤ) → last_at old v ≤ place → last_at new v ≡ cond (reaches reach v) place (last_at old v)) → AreLast events g (suc n) new
noted-last events g n place reach old new same is last noted = λ v.
    noted v (omega (arith, same, last v, last-within (matches_at events g v) n))
    ∙ ap (λ t. cond t place (last_at old v)) (is v)
    ∙ ap (λ t. cond (matches_at events g v (suc n)) t (last_at old v)) same
    ∙ ap (λ t. cond (matches_at events g v (suc n)) (suc n) t) (last v)

-- nothing is noted yet
pub none-last : (events : List Event) (g : Pattern) (lasts : Lasts) → ((v : Option ℤ) → last_at lasts v ≡ 0) → AreLast events g 0 lasts
none-last events g lasts none = none

-- ---- events that come too early

-- the places of the earlier pattern are noted up to n, and no event so far comes too early
pub record AreSeen (events : List Event) (early late : Pattern) (n place : ℕ) (seen : Lasts) : Type 0 where
  pub at : place ≡ n
  pub last : AreLast events early n seen
  pub none : HasNoBreak (Before early late) events n

pub seen-start : (events : List Event) (early late : Pattern) (seen : Lasts) → ((v : Option ℤ) → last_at seen v ≡ 0) → AreSeen events early late 0 0 seen
seen-start events early late seen none = record { at = refl; last = none; none = no-break_start (Before early late) events }

unseen-break : (events : List Event) (early late : Pattern) (n : ℕ) (event : Event) (reach : Reach) (seen : Lasts) → event_at events (suc n) ≡ Some event →
    ((v : Option ℤ) → reaches reach v ≡ matches late v event) → AreLast events early n seen → IsUnseen seen reach true → Breaks (Before early late) events (suc n)
unseen-break events early late n event reach seen at is last unseen = (
  value_of reach,
  reach-value events late (suc n) event reach at is,
  tests-early events early late (value_of reach) n (sym (reach-at events late (suc n) event reach at is (value_of reach)) ∙ unseen.0) (sym (last (value_of reach)) ∙ unseen.1),
)

seen-no_break : (events : List Event) (early late : Pattern) (n : ℕ) (event : Event) (reach : Reach) (seen : Lasts) → event_at events (suc n) ≡ Some event →
    ((v : Option ℤ) → reaches reach v ≡ matches late v event) → AreLast events early n seen → IsUnseen seen reach false → Breaks (Before early late) events (suc n) → ⊥
seen-no_break events early late n event reach seen at is last unseen (v, value, comes) =
    let tests = early-tests events early late v n comes in
    let some : 0 < last_at seen v = unseen v (reach-at events late (suc n) event reach at is v ∙ tests.0) in
    omega (arith, some, last v, tests.1)

pub seen-break : (events : List Event) (early late : Pattern) (n place : ℕ) (d : Event) (reach : Reach) (seen : Lasts) → n < length events → AreSeen events early late n place seen →
    ((v : Option ℤ) → reaches reach v ≡ matches late v (get_or events n d)) → IsUnseen seen reach true → IsFirstBreak (Before early late) events (Some (place + 1))
seen-break events early late n place d reach seen low are is unseen =
    break-first (Before early late) events n (place + 1) (omega (arith, are.at)) are.none
    (unseen-break events early late n (get_or events n d) reach seen (event-here events n d low) is are.last unseen)

pub seen-more : (events : List Event) (early late : Pattern) (n place : ℕ) (d : Event) (reach noted : Reach) (old new : Lasts) → n < length events → AreSeen events early late n place old →
    ((v : Option ℤ) → reaches reach v ≡ matches late v (get_or events n d)) → IsUnseen old reach false → ((v : Option ℤ) → reaches noted v ≡ matches early v (get_or events n d)) →
    ((v : Option ℤ) → last_at old v ≤ place + 1 → last_at new v ≡ cond (reaches noted v) (place + 1) (last_at old v)) → AreSeen events early late (n + 1) (place + 1) new
seen-more events early late n place d reach noted old new low are is seen is' note =
    let at : event_at events (suc n) ≡ Some (get_or events n d) = event-here events n d low in
    subst (λ k. AreSeen events early late k (place + 1) new) (next-place n) record {
      at = omega (arith, are.at);
      last = noted-last events early n (place + 1) noted old new (omega (arith, are.at)) (reach-at events early (suc n) (get_or events n d) noted at is') are.last note;
      none = no-break_more (Before early late) events n are.none (seen-no_break events early late n (get_or events n d) reach old at is are.last seen);
    }

pub seen-end : (events : List Event) (early late : Pattern) (n place : ℕ) (seen : Lasts) → length events ≤ n → AreSeen events early late n place seen → IsFirstBreak (Before early late) events None
seen-end events early late n place seen all are = break-none (Before early late) events n all are.none
