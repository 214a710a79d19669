-- The table of conditions says of views what the machine without queues asks of tasks, and which tasks an event needs.
use Rattle.std.proofs.Common.{◌≡◌, ℕ, zero, suc, pred, ◌+◌, ◌<◌, ◌≤◌, Bool, true, false, not, ◌&&◌, ◌||◌, ◌==◌, if◌then◌else◌, List, [], ◌∷◌, length, refl, sym, ap, ◌∙◌, subst, slice_index_or, ⊎_elim, arith, length-append, Option, Some, None, true≢false}
use Rattle.std.specs.Prelude.{All, find, option_map}
use Rattle.std.specs.List.{list_all}
use Rattle.std.proofs.lemmas.Bool.{cases_lt, and_parts, eqb-true}
use Rattle.std.proofs.lemmas.List.{get_or_append_left, get_or_push}
use Rattle.std.proofs.lemmas.List.Elements.{All-nil, All-cons}
use Rattle.std.proofs.lemmas.List.Folds.{list_all-append}
use Rattle.event_machine.specs.declared.Standing.{Standing}
use Rattle.event_machine.specs.declared.Standing.TheVariants.{Live, Waiting, Queued, Served, Completed, Killed}
use Rattle.event_machine.specs.declared.Event.{Event}
use Rattle.event_machine.specs.declared.Event.TheVariants.{R, E, S, D, C, T, F, X, B, Z}
use Rattle.event_machine.specs.Offers.{Offer, calls_in, is_any_form, is_conditional, is_timed, waits_with, opens, is_else, is_delay, is_terminate, is_finish, is_end}
use Rattle.event_machine.specs.States.{Seat, is_live}
use Rattle.event_machine.specs.States as seats
use Rattle.event_machine.specs.Programs.{Program}
use Rattle.event_machine.specs.Worlds.{still, aborts, happens, needs, others_end}
use Rattle.syn_event.specs.Numbering.{Numbering, owner_of}
use Rattle.task_model.specs.Tasks.{Task}
use Rattle.task_model.specs.Stands.{offer_of}
use Rattle.task_model.specs.TaskOps.{task_ops}
use Rattle.task_machine.specs.declared.verdict.Why.{Why}
use Rattle.task_machine.specs.Views.{View, view_in, view_of}
use Rattle.task_machine.specs.Conditions.{is_closed_view, is_served_view, is_completed_view, is_at, Condition, others_may_end, is_end_of, tasks_to, needed_of, holds, all_hold, why_of, failing_in}
use Rattle.common_lemmas.proofs.Numbers.{equal_self, le_is, le_true}
use Rattle.common_lemmas.proofs.Truth.{and_true}

-- the program of these numbers, with so many tasks
abbrev pub sized : Numbering → ℕ → Program Task
sized numbers size = record { ops = task_ops; owner = owner_of numbers; size = size }

-- ---- conditions

and_assoc : (a b c : Bool) → ((a && b) && c) ≡ (a && (b && c))
and_assoc true b c = refl
and_assoc false b c = refl

and_swap : (a b c : Bool) → (a && (b && c)) ≡ (b && (a && c))
and_swap true true c = refl
and_swap true false c = refl
and_swap false true c = refl
and_swap false false c = refl

-- A task acts where it is free and its offer passes the test.
acts_then : (z : Standing) (o : Offer) (test : Offer → Bool) (rest : Bool) → still z ≡ z →
    (not (is_closed_view (view_in z o)) && (not (is_served_view (view_in z o)) && (is_at test (view_in z o) && rest))) ≡ ((is_live z && test o) && rest)
acts_then Live o test rest h = refl
acts_then Waiting o test rest h = absurd (cc)
acts_then Queued o test rest h = absurd (cc)
acts_then (Served by true) o test rest h = refl
acts_then (Served by false) o test rest h = refl
acts_then Completed o test rest h = refl
acts_then Killed o test rest h = refl

-- the main program is at its end
ends_then : (z : Standing) (o : Offer) (test : Offer → Bool) (rest : Bool) → still z ≡ z →
    (not (is_served_view (view_in z o)) && (is_at test (view_in z o) && rest)) ≡ ((is_live z && test o) && rest)
ends_then Live o test rest h = refl
ends_then Waiting o test rest h = absurd (cc)
ends_then Queued o test rest h = absurd (cc)
ends_then (Served by true) o test rest h = refl
ends_then (Served by false) o test rest h = refl
ends_then Completed o test rest h = refl
ends_then Killed o test rest h = refl

-- another task can end
can_end_is : (z : Standing) (o : Offer) (test : Offer → Bool) → still z ≡ z →
    (not (is_served_view (view_in z o)) && ((is_completed_view (view_in z o) || is_at test (view_in z o)) && true)) ≡ (seats.is_completed z || (is_live z && test o))
can_end_is Live o test h = and_true (test o)
can_end_is Waiting o test h = absurd (cc)
can_end_is Queued o test h = absurd (cc)
can_end_is (Served by true) o test h = refl
can_end_is (Served by false) o test h = refl
can_end_is Completed o test h = refl
can_end_is Killed o test h = refl

-- The views are those of the tasks that the event needs, and the others are closed in both or in none.
pub record AreSeen (numbers : Numbering) (size : ℕ) (e : Event) (views : ℕ → View) (tasks : ℕ → Seat Task) : Type 0 where
  pub needed : (t : ℕ) → needs (sized numbers size) e t ≡ true → views t ≡ view_of (tasks t)
  pub stills : (t : ℕ) → still (tasks t).standing ≡ (tasks t).standing
  pub closed : (t : ℕ) → is_closed_view (views t) ≡ seats.is_closed (tasks t).standing

or_left : {a : Bool} (b : Bool) → a ≡ true → (a || b) ≡ true
or_left b h = ap (λ x. x || b) h

or_right : (a : Bool) {b : Bool} → b ≡ true → (a || b) ≡ true
or_right true h = refl
or_right false h = h

module _ (numbers : Numbering) (size : ℕ) (e : Event) (views : ℕ → View) (tasks : ℕ → Seat Task) (seen : AreSeen numbers size e views tasks) where
  -- what is asked of a needed task that acts
  acts_at : (t : ℕ) (test : Offer → Bool) (rest : Bool) → needs (sized numbers size) e t ≡ true →
      (not (is_closed_view (views t)) && (not (is_served_view (views t)) && (is_at test (views t) && rest))) ≡ ((is_live (tasks t).standing && test (offer_of (tasks t).local)) && rest)
  acts_at t test rest need =
      ap (λ v. not (is_closed_view v) && (not (is_served_view v) && (is_at test v && rest))) (seen.needed t need)
      ∙ acts_then (tasks t).standing (offer_of (tasks t).local) test rest (seen.stills t)

  acts_alone : (t : ℕ) (test : Offer → Bool) → needs (sized numbers size) e t ≡ true →
      (not (is_closed_view (views t)) && (not (is_served_view (views t)) && (is_at test (views t) && true))) ≡ (is_live (tasks t).standing && test (offer_of (tasks t).local))
  acts_alone t test need = acts_at t test true need ∙ and_true (is_live (tasks t).standing && test (offer_of (tasks t).local))

  -- the others, where all from 1 up to n are needed
  others_at : (n : ℕ) → ((t : ℕ) → t ≤ n → needs (sized numbers size) e t ≡ true) → list_all (holds views) (others_may_end n) ≡ others_end task_ops tasks n
  others_at zero need = refl
  others_at (suc n) need =
      list_all-append (holds views) (others_may_end n) _
      ∙ ap (λ b. b && (not (is_served_view (views (suc n))) && ((is_completed_view (views (suc n)) || is_at (waits_with is_terminate) (views (suc n))) && true))) (others_at n (λ t h. need t (omega arith)))
      ∙ ap (λ v. others_end task_ops tasks n && (not (is_served_view v) && ((is_completed_view v || is_at (waits_with is_terminate) v) && true))) (seen.needed (suc n) (need (suc n) (omega arith)))
      ∙ ap (λ b. others_end task_ops tasks n && b) (can_end_is (tasks (suc n)).standing (offer_of (tasks (suc n)).local) (waits_with is_terminate) (seen.stills (suc n)))

-- All conditions of an event hold of the views exactly where the event happens among the tasks.
pub table_happens : (numbers : Numbering) (size : ℕ) → size ≡ length numbers.tasks → (e : Event) (views : ℕ → View) (tasks : ℕ → Seat Task) →
    AreSeen numbers size e views tasks → all_hold numbers views e ≡ happens (sized numbers size) tasks e
table_happens numbers size count (R c e i) views tasks seen =
    acts_at numbers size (R c e i) views tasks seen c (calls_in is_any_form e i) _ (or_left (c == owner_of numbers e) (equal_self c))
    ∙ ap (λ b. (is_live (tasks c).standing && calls_in is_any_form e i (offer_of (tasks c).local)) && b)
    (acts_alone numbers size (R c e i) views tasks seen (owner_of numbers e) (waits_with (opens e i)) (or_right (owner_of numbers e == c) (equal_self (owner_of numbers e))))
table_happens numbers size count (E a) views tasks seen = acts_alone numbers size (E a) views tasks seen a is_finish (equal_self a)
table_happens numbers size count (S a) views tasks seen = acts_alone numbers size (S a) views tasks seen a (waits_with is_else) (equal_self a)
table_happens numbers size count (D a k) views tasks seen = acts_alone numbers size (D a k) views tasks seen a (waits_with (is_delay k)) (equal_self a)
table_happens numbers size count (C c e i) views tasks seen =
    acts_at numbers size (C c e i) views tasks seen c (calls_in is_conditional e i) _ (equal_self c)
    ∙ ap (λ b. (is_live (tasks c).standing && calls_in is_conditional e i (offer_of (tasks c).local)) && b)
    (and_true (not (is_closed_view (views (owner_of numbers e)))) ∙ ap not (seen.closed (owner_of numbers e)))
table_happens numbers size count (T c e i) views tasks seen =
    acts_at numbers size (T c e i) views tasks seen c (calls_in is_timed e i) _ (equal_self c)
    ∙ ap (λ b. (is_live (tasks c).standing && calls_in is_timed e i (offer_of (tasks c).local)) && b)
    (and_true (not (is_closed_view (views (owner_of numbers e)))) ∙ ap not (seen.closed (owner_of numbers e)))
table_happens numbers size count (F c e i) views tasks seen =
    acts_at numbers size (F c e i) views tasks seen c (calls_in is_any_form e i) _ (equal_self c)
    ∙ ap (λ b. (is_live (tasks c).standing && calls_in is_any_form e i (offer_of (tasks c).local)) && b)
    (and_true (is_closed_view (views (owner_of numbers e))) ∙ seen.closed (owner_of numbers e))
table_happens numbers size count (X a) views tasks seen =
    acts_alone numbers size (X a) views tasks seen a (is_end_of a) (equal_self a)
    ∙ and_swap (is_live (tasks a).standing) (not (a == 0)) (is_end (offer_of (tasks a).local))
table_happens numbers size count (B t x) views tasks seen = acts_alone numbers size (B t x) views tasks seen t (aborts x) (equal_self t)
table_happens numbers size count Z views tasks seen =
    ap (λ v. not (is_served_view v) && (is_at is_end v && list_all (holds views) (others_may_end (pred (length numbers.tasks))))) (seen.needed 0 (le_true 0 (pred size) (omega arith)))
    ∙ ends_then (tasks 0).standing (offer_of (tasks 0).local) is_end _ (seen.stills 0)
    ∙ ap (λ n. (is_live (tasks 0).standing && is_end (offer_of (tasks 0).local)) && list_all (holds views) (others_may_end (pred n))) (sym count)
    ∙ ap (λ b. (is_live (tasks 0).standing && is_end (offer_of (tasks 0).local)) && b)
    (others_at numbers size Z views tasks seen (pred size) (λ t h. le_true t (pred size) h))

-- ---- needed tasks

length_to : (n : ℕ) → length (tasks_to n) ≡ suc n
length_to zero = refl
length_to (suc n) = let e : length (tasks_to n) ≡ suc n = length_to n in length-append (tasks_to n) (suc n ∷ []) ∙ (let k : length (tasks_to n) + 1 ≡ suc (suc n) = omega arith in k)

-- each task up to n is listed at its number
at_to : (n t d : ℕ) → t ≤ n → slice_index_or (tasks_to n) t d ≡ t
at_to zero t d h = let e : t ≡ 0 = omega arith in ap (λ k. slice_index_or (0 ∷ []) k d) e ∙ sym e
at_to (suc n) t d h = ⊎_elim
    (λ (k : t < suc n). get_or_append_left (tasks_to n) (suc n ∷ []) d t (let e : length (tasks_to n) ≡ suc n = length_to n in omega arith) ∙ at_to n t d (omega arith))
    (λ (k : suc n ≤ t). let e : suc n ≡ t = omega arith in get_or_push (tasks_to n) (suc n) d t (length_to n ∙ e) ∙ e)
    (cases_lt t (suc n))

all_to : (P : ℕ → Type 0) (n : ℕ) → ((t : ℕ) → t ≤ n → P t) → All P (tasks_to n)
all_to P n h k d less = subst P (sym (at_to n k d (let e : length (tasks_to n) ≡ suc n = length_to n in omega arith))) (h k (let e : length (tasks_to n) ≡ suc n = length_to n in omega arith))

pub to_all : (P : ℕ → Type 0) (n : ℕ) → All P (tasks_to n) → (t : ℕ) → t ≤ n → P t
to_all P n h t le = subst P (at_to n t 0 le) (h t 0 (let e : length (tasks_to n) ≡ suc n = length_to n in omega arith))

all_one : (P : ℕ → Type 0) (a : ℕ) → P a → All P (a ∷ [])
all_one P a h = All-cons P a [] h (All-nil P)

one_all : (P : ℕ → Type 0) (a t : ℕ) → All P (a ∷ []) → (t == a) ≡ true → P t
one_all P a t h e = subst P (sym (eqb-true t a e)) (h 0 0 (omega arith))

two_all : (P : ℕ → Type 0) (a b t : ℕ) (q : Bool) → All P (a ∷ b ∷ []) → (t == a) ≡ q → (q || (t == b)) ≡ true → P t
two_all P a b t true h e k = subst P (sym (eqb-true t a e)) (h 0 0 (omega arith))
two_all P a b t false h e k = subst P (sym (eqb-true t b k)) (h 1 0 (omega arith))

-- What holds of each task that is needed in order holds of each that the machine without queues needs.
pub needed_at : (numbers : Numbering) (size : ℕ) → size ≡ length numbers.tasks → (P : ℕ → Type 0) (e : Event) → All P (needed_of numbers e) →
    (t : ℕ) → needs (sized numbers size) e t ≡ true → P t
needed_at numbers size count P (R c e i) h t need = two_all P c (owner_of numbers e) t (t == c) h refl need
needed_at numbers size count P (E a) h t need = one_all P a t h need
needed_at numbers size count P (S a) h t need = one_all P a t h need
needed_at numbers size count P (D a k) h t need = one_all P a t h need
needed_at numbers size count P (C c e i) h t need = one_all P c t h need
needed_at numbers size count P (T c e i) h t need = one_all P c t h need
needed_at numbers size count P (F c e i) h t need = one_all P c t h need
needed_at numbers size count P (X a) h t need = one_all P a t h need
needed_at numbers size count P (B u x) h t need = one_all P u t h need
needed_at numbers size count P Z h t need = to_all P (pred size) (subst (λ n. All P (tasks_to (pred n))) (sym count) h) t (le_is t (pred size) need)

-- And back.
pub needed_all : (numbers : Numbering) (size : ℕ) → size ≡ length numbers.tasks → (P : ℕ → Type 0) (e : Event) →
    ((t : ℕ) → needs (sized numbers size) e t ≡ true → P t) → All P (needed_of numbers e)
needed_all numbers size count P (R c e i) h =
    All-cons P c (owner_of numbers e ∷ []) (h c (or_left (c == owner_of numbers e) (equal_self c))) (all_one P (owner_of numbers e) (h (owner_of numbers e) (or_right (owner_of numbers e == c) (equal_self (owner_of numbers e)))))
needed_all numbers size count P (E a) h = all_one P a (h a (equal_self a))
needed_all numbers size count P (S a) h = all_one P a (h a (equal_self a))
needed_all numbers size count P (D a k) h = all_one P a (h a (equal_self a))
needed_all numbers size count P (C c e i) h = all_one P c (h c (equal_self c))
needed_all numbers size count P (T c e i) h = all_one P c (h c (equal_self c))
needed_all numbers size count P (F c e i) h = all_one P c (h c (equal_self c))
needed_all numbers size count P (X a) h = all_one P a (h a (equal_self a))
needed_all numbers size count P (B u x) h = all_one P u (h u (equal_self u))
needed_all numbers size count P Z h = subst (λ n. All P (tasks_to (pred n))) count (all_to P (pred size) (λ t le. h t (le_true t (pred size) le)))

-- ---- the first condition that fails

-- No condition fails exactly where all hold.
pub failing_none : (views : ℕ → View) (conditions : List Condition) → list_all (holds views) conditions ≡ true → failing_in views conditions ≡ None
failing_none views [] h = refl
failing_none views (x ∷ xs) h =
    let k = and_parts (holds views x) (list_all (holds views) xs) h in
    rw k.0 (failing_none views xs k.1)

fails_not : (b : Bool) (condition : Condition) (rest : Option Condition) → option_map why_of (if not b then Some condition else rest) ≡ None → (b ≡ true) × (option_map why_of rest ≡ None)
fails_not true condition rest h = (refl, h)
fails_not false condition rest h = absurd (cc)

pub none_failing : (views : ℕ → View) (conditions : List Condition) → failing_in views conditions ≡ None → list_all (holds views) conditions ≡ true
none_failing views [] h = refl
none_failing views (x ∷ xs) h =
    let k = fails_not (holds views x) x (find (λ condition. not (holds views condition)) xs) h in
    ap (λ b. b && list_all (holds views) xs) k.0 ∙ none_failing views xs k.1

-- Where not all hold, one is the first that fails.
fails_so : (b more : Bool) (condition : Condition) (rest : Option Condition) → (b && more) ≡ false → (more ≡ false → (why : Why) × (option_map why_of rest ≡ Some why)) →
    (why : Why) × (option_map why_of (if not b then Some condition else rest) ≡ Some why)
fails_so true more condition rest h next = next h
fails_so false more condition rest h next = (why_of condition, refl)

pub failing_some : (views : ℕ → View) (conditions : List Condition) → list_all (holds views) conditions ≡ false → (why : Why) × (failing_in views conditions ≡ Some why)
failing_some views [] h = absurd (true≢false h)
failing_some views (x ∷ xs) h =
    fails_so (holds views x) (list_all (holds views) xs) x (find (λ condition. not (holds views condition)) xs) h (failing_some views xs)
