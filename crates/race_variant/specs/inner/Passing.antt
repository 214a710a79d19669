-- The variants as they are looked for: letter by letter, and of each letter by the task that acts.
use Rattle.std.specs.Prelude.{◌≡◌, ◌↔◌, ◌<◌, ◌⊎◌, ℕ, Bool, true, false, List, [], ◌∷◌, ◌++◌, Option, Some, None, length, slice_get}
use Rattle.std.specs.List.{AllPairs, Contains}
use Rattle.event_machine.specs.declared.Event.{Event}
use Rattle.event_machine.specs.declared.Event.TheVariants.{R, E, S, D, C, T, F, X, B, Z}
use Rattle.event_machine.specs.Offers.{Offer, Nothing}
use Rattle.syn_event.specs.Numbering.{Numbering}
use Rattle.task_model.specs.Machine.{ProgramWithInputs, Tasks}
use Rattle.task_machine.specs.Conditions.{all_hold}
use Rattle.task_machine.specs.Views.{IsOpenAt, View, Completed, Abnormal, Busy, At}
use Rattle.feasible.specs.Failing.{view_at}
use Rattle.feasible.specs.Keeping.{IsSettled}
use Rattle.race_variant.specs.Variants.{letter_of, AreAscending}

-- ---- which tasks have come to rest

-- each task that has come to rest by the answers is settled
abbrev pub AreAnswers : Tasks → List Bool → Type 0
AreAnswers tasks settled = (t : ℕ) → slice_get settled t ≡ Some true → IsSettled tasks t

-- After the events the answers tell which tasks are open, and those are listed in ascending order.
pub record AreTold (setup : ProgramWithInputs) (numbers : Numbering) (bound : ℕ) (events : List Event) (settled : List Bool) (unsettled : List ℕ) : Type 0 where
  pub answers : (t : ℕ) → t < length settled → (slice_get settled t ≡ Some false) ↔ IsOpenAt setup numbers events t bound
  pub members : (t : ℕ) → Contains unsettled t ↔ (slice_get settled t ≡ Some false)
  pub rising : AllPairs (λ t u. t < u) unsettled

-- what is seen of a task that was asked so: one that is open offers nothing, and there is none past the last
abbrev pub seen_by : Option Bool → View → View
seen_by None v = Completed
seen_by (Some true) v = v
seen_by (Some false) v = At Nothing

-- what is seen of each task
abbrev pub seen_at : Tasks → List Bool → ℕ → View
seen_at tasks settled t = seen_by (slice_get settled t) (view_at tasks t)

-- what a task that is seen so offers
abbrev pub offer_seen : View → Offer
offer_seen Completed = Nothing
offer_seen Abnormal = Nothing
offer_seen Busy = Nothing
offer_seen (At offer) = offer

-- ---- events in their order

-- the task that acts in an event; the end of the program is the main program's
abbrev pub actor_of : Event → ℕ
actor_of (R c e i) = c
actor_of (E a) = a
actor_of (S a) = a
actor_of (D a k) = a
actor_of (C c e i) = c
actor_of (T c e i) = c
actor_of (F c e i) = c
actor_of (X a) = a
actor_of (B t x) = t
actor_of Z = 0

-- The event's letter stands before the l-th, or is it, and the task that acts is below t.
abbrev pub HasPassed : ℕ → ℕ → Event → Type 0
HasPassed l t e = (letter_of e < l) ⊎ ((letter_of e ≡ l) × (actor_of e < t))

-- The list has all events whose turn is past and whose conditions hold where the tasks are seen so, but the one that is skipped, in order.
pub record AreFoundOf (IsPast : Event → Type 0) (numbers : Numbering) (views : ℕ → View) (skip : Option Event) (found : List Event) : Type 0 where
  pub members : (e : Event) → Contains found e ↔ ((all_hold numbers views e ≡ true) × IsPast e × (skip ≡ Some e → ⊥))
  pub ascending : AreAscending found

-- the list has all events before the turn of the l-th letter and the task t
abbrev pub AreFound : Numbering → (ℕ → View) → Option Event → ℕ → ℕ → List Event → Type 0
AreFound numbers views skip l t found = AreFoundOf (HasPassed l t) numbers views skip found

-- the event is added behind the others, if it is not the one that is skipped
abbrev pub IsAdded : Option Event → Event → List Event → List Event → Type 0
IsAdded skip e before after = ((skip ≡ Some e) × (after ≡ before)) ⊎ ((skip ≡ Some e → ⊥) × (after ≡ (before ++ e ∷ [])))

-- the events are added one after the other, but the one that is skipped
abbrev pub AreAllAdded : Option Event → List Event → List Event → List Event → Type 0
AreAllAdded skip [] before after = after ≡ before
AreAllAdded skip (e ∷ events) before after = (mid : List Event) × IsAdded skip e before mid × AreAllAdded skip events mid after
