-- Fewer than 2^32 events can come next, where the offers of a program are known and its tasks are few: each event has a place of its own, by its letter,
-- the task that acts, and the number of a delay.
use Rattle.std.proofs.Common.{◌≡◌, ◌↔◌, ℕ, zero, suc, ◌+◌, ◌*◌, ◌-◌, ◌<◌, ◌≤◌, ◌^◌, true, List, [], ◌∷◌, ◌++◌, length, refl, sym, ap, ◌∙◌, subst, arith, ⊎_elim, ◌⊎◌, inl, inr, Option, append_assoc}
use Rattle.std.specs.Prelude.{slice_index_or, nat_le, nat_lt}
use Rattle.std.specs.declared.cmp.Ordering.TheVariants.{Less}
use Rattle.std.specs.List.{Contains}
use Rattle.std.proofs.lemmas.Bool.{and_parts, cases_lt}
use Rattle.common_lemmas.proofs.Numbers.{le_is, lt_is}
use Rattle.event_machine.specs.declared.Event.{Event}
use Rattle.event_machine.specs.declared.Event.TheVariants as event
use Rattle.event_machine.proofs.Basics.{some_path}
use Rattle.seq_file.specs.Known.{is_task, is_task_beside_main, is_alternative, is_known_member, is_known}
use Rattle.syn_event.specs.Numbering.{Numbering}
use Rattle.task_model.specs.Machine.{ProgramWithInputs}
use Rattle.task_machine.specs.Conditions.{all_hold}
use Rattle.task_machine.specs.Judging.{VerdictIs}
use Rattle.task_machine.specs.Views.{View}
use Rattle.task_machine.specs.declared.verdict.Verdict.TheVariants.{Feasible}
use Rattle.race_variant.specs.Variants.{letter_of, event_cmp, AreVariants, CanFollow}
use Rattle.race_variant.specs.GoingLaws.{VariantsAreFew}
use Rattle.race_variant.specs.KnownOffers.{OffersAreKnown}
use Rattle.race_variant.specs.declared.proposing.Letter.{Letter}
use Rattle.race_variant.specs.declared.proposing.Letter.TheVariants as letter
use Rattle.race_variant.specs.inner.Passing.{actor_of}
use Rattle.race_variant.specs.inner.Proposing.{place_of}
use Rattle.race_variant.proofs.Ascents.{one_before}
use Rattle.race_variant.proofs.Existing.{below_ten, by_views}
use Rattle.race_variant.proofs.Gathering.{contains_at}
use Rattle.race_variant.proofs.Knowing.{variants_known}
use Rattle.race_variant.proofs.Orders.{earlier_less, delay_less}
use Rattle.race_variant.proofs.Proposed.{proposed_only}

-- ---- the place of an event

-- the number of a delay, and 0 of any other event
abbrev delay_in : Event → ℕ
delay_in (event.R c e i) = 0
delay_in (event.E a) = 0
delay_in (event.S a) = 0
delay_in (event.D a k) = k
delay_in (event.C c e i) = 0
delay_in (event.T c e i) = 0
delay_in (event.F c e i) = 0
delay_in (event.X a) = 0
delay_in (event.B t x) = 0
delay_in event.Z = 0

-- by the letter, by the task that acts, and by the number of a delay
abbrev place : Event → ℕ
place e = letter_of e * 67108864 + actor_of e * 64 + delay_in e

delay_of : (e : Event) → letter_of e ≡ 3 → e ≡ event.D (actor_of e) (delay_in e)
delay_of (event.R c e i) h = absurd (omega arith)
delay_of (event.E a) h = absurd (omega arith)
delay_of (event.S a) h = absurd (omega arith)
delay_of (event.D a k) h = refl
delay_of (event.C c e i) h = absurd (omega arith)
delay_of (event.T c e i) h = absurd (omega arith)
delay_of (event.F c e i) h = absurd (omega arith)
delay_of (event.X a) h = absurd (omega arith)
delay_of (event.B t x) h = absurd (omega arith)
delay_of event.Z h = absurd (omega arith)

with_delay : (e : Event) → 0 < delay_in e → letter_of e ≡ 3
with_delay (event.R c e i) h = absurd (omega arith)
with_delay (event.E a) h = absurd (omega arith)
with_delay (event.S a) h = absurd (omega arith)
with_delay (event.D a k) h = refl
with_delay (event.C c e i) h = absurd (omega arith)
with_delay (event.T c e i) h = absurd (omega arith)
with_delay (event.F c e i) h = absurd (omega arith)
with_delay (event.X a) h = absurd (omega arith)
with_delay (event.B t x) h = absurd (omega arith)
with_delay event.Z h = absurd (omega arith)

-- ---- known numbers are low

module _ (numbers : Numbering) where
  -- the task that acts is one of the program's, or main
  actor_low : (e : Event) → is_known numbers e ≡ true → actor_of e ≤ length numbers.tasks
  actor_low (event.R c e i) h = let l : c < length numbers.tasks = lt_is c (length numbers.tasks) (and_parts (is_task numbers c) (is_known_member numbers e i) h).0 in omega arith
  actor_low (event.E a) h = let l : a < length numbers.tasks = lt_is a (length numbers.tasks) (and_parts (is_task numbers a) (nat_lt 0 a) h).0 in omega arith
  actor_low (event.S a) h = let l : a < length numbers.tasks = lt_is a (length numbers.tasks) (and_parts (is_task numbers a) (nat_lt 0 a) h).0 in omega arith
  actor_low (event.D a k) h =
      let beside : is_task_beside_main numbers a ≡ true = (and_parts (is_task_beside_main numbers a) (is_alternative k) h).0 in
      let l : a < length numbers.tasks = lt_is a (length numbers.tasks) (and_parts (is_task numbers a) (nat_lt 0 a) beside).0 in
      omega arith
  actor_low (event.C c e i) h = let l : c < length numbers.tasks = lt_is c (length numbers.tasks) (and_parts (is_task numbers c) (is_known_member numbers e i) h).0 in omega arith
  actor_low (event.T c e i) h = let l : c < length numbers.tasks = lt_is c (length numbers.tasks) (and_parts (is_task numbers c) (is_known_member numbers e i) h).0 in omega arith
  actor_low (event.F c e i) h = let l : c < length numbers.tasks = lt_is c (length numbers.tasks) (and_parts (is_task numbers c) (is_known_member numbers e i) h).0 in omega arith
  actor_low (event.X a) h = let l : a < length numbers.tasks = lt_is a (length numbers.tasks) (and_parts (is_task numbers a) (nat_lt 0 a) h).0 in omega arith
  actor_low (event.B t x) h = let l : t < length numbers.tasks = lt_is t (length numbers.tasks) (and_parts (is_task numbers t) (is_task_beside_main numbers x) h).0 in omega arith
  actor_low event.Z h = omega arith

  delay_low : (e : Event) → is_known numbers e ≡ true → delay_in e ≤ 32
  delay_low (event.R c e i) h = omega arith
  delay_low (event.E a) h = omega arith
  delay_low (event.S a) h = omega arith
  delay_low (event.D a k) h =
      let alternative : is_alternative k ≡ true = (and_parts (is_task_beside_main numbers a) (is_alternative k) h).1 in
      le_is k 32 (and_parts (nat_le 1 k) (nat_le k 32) alternative).1
  delay_low (event.C c e i) h = omega arith
  delay_low (event.T c e i) h = omega arith
  delay_low (event.F c e i) h = omega arith
  delay_low (event.X a) h = omega arith
  delay_low (event.B t x) h = omega arith
  delay_low event.Z h = omega arith

-- ---- events that can come next have places of their own

module _ (numbers : Numbering) (views : ℕ → View) where
  abbrev Holds : Event → Type 0
  Holds e = all_hold numbers views e ≡ true

  -- of one letter, but the delays, and one task there is one event
  alone : (l : Letter) (t : ℕ) → (l ≡ letter.D → ⊥) → (e f : Event) → Holds e → letter_of e ≡ place_of l → actor_of e ≡ t → Holds f → letter_of f ≡ place_of l → actor_of f ≡ t → f ≡ e
  alone l t other e f he le ae hf lf af = some_path (sym ((proposed_only numbers views l t other f).1 (hf, lf, af)) ∙ (proposed_only numbers views l t other e).1 (he, le, ae))

  same : (e f : Event) → Holds e → Holds f → letter_of f ≡ letter_of e → actor_of f ≡ actor_of e → delay_in f ≡ delay_in e → f ≡ e
  same (event.R c e i) f he hf l t' d = alone letter.R c (λ q. let no : letter.R ≡ letter.D = q in cc) (event.R c e i) f he refl refl hf l t'
  same (event.E a) f he hf l t' d = alone letter.E a (λ q. let no : letter.E ≡ letter.D = q in cc) (event.E a) f he refl refl hf l t'
  same (event.S a) f he hf l t' d = alone letter.S a (λ q. let no : letter.S ≡ letter.D = q in cc) (event.S a) f he refl refl hf l t'
  same (event.D a k) f he hf l t d = delay_of f l ∙ ap (λ n. event.D n (delay_in f)) t ∙ ap (event.D a) d
  same (event.C c e i) f he hf l t' d = alone letter.C c (λ q. let no : letter.C ≡ letter.D = q in cc) (event.C c e i) f he refl refl hf l t'
  same (event.T c e i) f he hf l t' d = alone letter.T c (λ q. let no : letter.T ≡ letter.D = q in cc) (event.T c e i) f he refl refl hf l t'
  same (event.F c e i) f he hf l t' d = alone letter.F c (λ q. let no : letter.F ≡ letter.D = q in cc) (event.F c e i) f he refl refl hf l t'
  same (event.X a) f he hf l t' d = alone letter.X a (λ q. let no : letter.X ≡ letter.D = q in cc) (event.X a) f he refl refl hf l t'
  same (event.B t y) f he hf l t' d = alone letter.B t (λ q. let no : letter.B ≡ letter.D = q in cc) (event.B t y) f he refl refl hf l t'
  same event.Z f he hf l t' d = alone letter.Z 0 (λ q. let no : letter.Z ≡ letter.D = q in cc) event.Z f he refl refl hf l t'

  -- of two events in order the first has the lower place
  rises : (e f : Event) → Holds e → Holds f → actor_of e < 1048576 → actor_of f < 1048576 → delay_in e ≤ 32 → delay_in f ≤ 32 → event_cmp e f ≡ Less → place e < place f
  rises e f he hf ae af de df less = ⊎_elim
      (λ (k : place e < place f). k)
      (λ (k : place f ≤ place e). absurd (by_letter k (cases_lt (letter_of f) (letter_of e))))
      (cases_lt (place e) (place f))
    where
      back : event_cmp f e ≡ Less → ⊥
      back h = one_before e f less h

      delays : letter_of f ≡ letter_of e → actor_of f ≡ actor_of e → delay_in f < delay_in e → event_cmp f e ≡ Less
      delays letters actors lower =
          let three : letter_of e ≡ 3 = with_delay e (omega (arith, lower)) in
          let is_e : e ≡ event.D (actor_of e) (delay_in e) = delay_of e three in
          let is_f : f ≡ event.D (actor_of e) (delay_in f) = delay_of f (letters ∙ three) ∙ ap (λ t. event.D t (delay_in f)) actors in
          subst (λ x. event_cmp x e ≡ Less) (sym is_f)
          (subst (λ x. event_cmp (event.D (actor_of e) (delay_in f)) x ≡ Less) (sym is_e) (delay_less (actor_of e) (delay_in f) (delay_in e) lower))

      by_delay : place f ≤ place e → letter_of f ≡ letter_of e → actor_of f ≡ actor_of e → (delay_in f < delay_in e) ⊎ (delay_in e ≤ delay_in f) → ⊥
      by_delay k letters actors (inl lower) = back (delays letters actors lower)
      by_delay k letters actors (inr above) =
          let numbers' : delay_in f ≡ delay_in e = omega (arith, k, letters, actors, above) in
          let is : f ≡ e = same e f he hf letters actors numbers' in
          back (subst (λ x. event_cmp x e ≡ Less) (sym is) (subst (λ x. event_cmp e x ≡ Less) is less))

      by_actor : place f ≤ place e → letter_of f ≡ letter_of e → (actor_of f < actor_of e) ⊎ (actor_of e ≤ actor_of f) → ⊥
      by_actor k letters (inl lower) = back (earlier_less f e (inr (letters, lower)))
      by_actor k letters (inr above) =
          let actors : actor_of f ≡ actor_of e = omega (arith, k, letters, above, de, df) in
          by_delay k letters actors (cases_lt (delay_in f) (delay_in e))

      by_letter : place f ≤ place e → (letter_of f < letter_of e) ⊎ (letter_of e ≤ letter_of f) → ⊥
      by_letter k (inl lower) = back (earlier_less f e (inl lower))
      by_letter k (inr above) =
          let letters : letter_of f ≡ letter_of e = omega (arith, k, above, ae, af, de, df) in
          by_actor k letters (cases_lt (actor_of f) (actor_of e))

-- ---- all that can come next

module _ (setup : ProgramWithInputs) (numbers : Numbering) (offers : OffersAreKnown setup numbers) (few : length numbers.tasks < 2 ^ 20) (bound : ℕ) (events : List Event) (skip : Option Event)
    (found : List Event) (unsettled : List ℕ) (a : AreVariants setup numbers bound events skip found unsettled) where
  follows : (e : Event) → Contains found e → CanFollow setup numbers bound events e
  follows e k = ((a.members e).0 k).0

  low : (e : Event) → Contains found e → (actor_of e < 1048576) × (delay_in e ≤ 32)
  low e k =
      let known : is_known numbers e ≡ true = variants_known setup numbers offers bound events e (follows e k) in
      let actor : actor_of e ≤ length numbers.tasks = actor_low numbers e known in
      (omega (arith, few, actor), delay_low numbers e known)

  abbrev at : ℕ → Event
  at k = slice_index_or found k event.Z

  module _ (first : Event) (there : CanFollow setup numbers bound events first) where
    well : VerdictIs setup numbers bound events Feasible
    well = λ before rest x is. there.1 before (rest ++ first ∷ []) x (ap (λ es. es ++ first ∷ []) is ∙ append_assoc before (x ∷ rest) (first ∷ []))

    seen : (views : ℕ → View) × ((e : Event) → VerdictIs setup numbers bound (events ++ e ∷ []) Feasible ↔ (all_hold numbers views e ≡ true))
    seen = by_views setup numbers bound events well there.0

    holds : (e : Event) → Contains found e → all_hold numbers seen.0 e ≡ true
    holds e k = (seen.1 e).0 (follows e k).1

    in_order : (i j : ℕ) → i < j → j < length found → place (at i) < place (at j)
    in_order i j before less =
        let within : i < length found = omega (arith, before, less) in
        let e = contains_at found i event.Z within in
        let f = contains_at found j event.Z less in
        rises numbers seen.0 (at i) (at j) (holds (at i) e) (holds (at j) f) (low (at i) e).0 (low (at j) f).0 (low (at i) e).1 (low (at j) f).1 (a.ascending i j event.Z before less)

    -- each has a place that is not below its number in the list
    above : (k : ℕ) → k < length found → k ≤ place (at k)
    above zero less = omega arith
    above (suc k) less =
        let within : suc k < length found = less in
        let lower : k ≤ place (at k) = above k (omega (arith, within)) in
        let next : place (at k) < place (at (suc k)) = in_order k (suc k) (omega arith) less in
        omega (arith, lower, next)

    last_low : (k : ℕ) → k < length found → k < 671088640
    last_low k less =
        let is = low (at k) (contains_at found k event.Z less) in
        omega (arith, above k less, is.0, is.1, below_ten (at k))

  few_found : length found < 2 ^ 32
  few_found = ⊎_elim
      (λ (few' : length found < 2 ^ 32). few')
      (λ (many : 2 ^ 32 ≤ length found). absurd (no_more many))
      (cases_lt (length found) (2 ^ 32))
    where
      no_more : 2 ^ 32 ≤ length found → ⊥
      no_more many =
          let some : 0 < length found = omega (arith, many) in
          let less : length found - 1 < length found = omega (arith, many) in
          let low' : length found - 1 < 671088640 = last_low (at 0) (follows (at 0) (contains_at found 0 event.Z some)) (length found - 1) less in
          omega (arith, many, low')

-- Fewer than 2^32 events can come next.
pub variants_are_few : VariantsAreFew
variants_are_few setup numbers offers few bound events skip found unsettled a = few_found setup numbers offers few bound events skip found unsettled a
