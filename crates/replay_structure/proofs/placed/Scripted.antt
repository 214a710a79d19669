-- The operations of a script have literals: tasks are known, kinds are at most 10, and the rest is that of the events. There is one operation at least,
-- and there are at most three for each event, and one for each task and one more.
use Rattle.std.proofs.Common.{◌≡◌, ℕ, zero, suc, pred, ◌+◌, ◌<◌, ◌≤◌, ◌==◌, ℤ, pos, Bool, true, false, not, cond, if◌then◌else◌, ◌&&◌, ◌⊎◌, inl, inr, ◌*◌, List, [], ◌∷◌, ◌++◌, length, map, refl, sym, ap, subst, ◌∙◌, arith, length-append}
use Rattle.std.specs.List.{AllByRecursion, filter, range_with_len}
use Rattle.std.proofs.lemmas.List.{length-set, length-map}
use Rattle.ada_tree.specs.Lexical.{IsInteger}
use Rattle.event_machine.specs.declared.Event.{Event}
use Rattle.event_machine.specs.declared.Event.TheVariants.{R, E, S, D, C, T, F, X, B, Z}
use Rattle.event_machine.specs.progress.Known.{Party, Known, known_at_start, party, is_closed, is_free, put, with_callers, part, let_go, fall, suits, admits, advanced}
use Rattle.event_machine.proofs.progress.Parties.{known_below, idle_length}
use Rattle.common_lemmas.proofs.Truth.{and_left, and_right}
use Rattle.common_lemmas.proofs.Lists.{all_front, all_back, all_joined, all_kept}
use Rattle.control_script.specs.Script.{open_tasks, to_close, after_abort, operations, held, script_from, script}
use Rattle.control_script.specs.declared.Op.{Op}
use Rattle.control_script.specs.declared.Op.TheVariants.{Go, Done, Join, Hold}
use Rattle.normal_laws.specs.structure.placed.Placeable.{IsSmallIndex}
use Rattle.replay_model.specs.Promised.{HasLiteral}
use Rattle.replay_structure.specs.placed.Placeable.{HasLiterals, HasSmallIndices}
use Rattle.control_script.proofs.Writing.{as_many, as_many_at_start}
use Rattle.replay_structure.proofs.placed.Declared.{pred-less as pred-below}

-- ---- at least one

operations-some : (owner : ℕ → ℕ) (k : Known) (e : Event) → 1 ≤ length (operations owner k e)
operations-some owner k (R c e i) = omega arith
operations-some owner k (E a) = omega arith
operations-some owner k (S a) = omega arith
operations-some owner k (D a n) = omega arith
operations-some owner k (C c e i) = omega arith
operations-some owner k (T c e i) = omega arith
operations-some owner k (F c e i) = omega arith
operations-some owner k (X a) = omega arith
operations-some owner k (B t x) = omega arith
operations-some owner k Z = rw (length-append (map to_close (open_tasks k)) (to_close 0 ∷ [])) (omega arith)

pub script-some : (owner : ℕ → ℕ) (n : ℕ) (events : List Event) → 1 ≤ length (script owner n events)
script-some owner n [] = omega arith
script-some owner n (e ∷ events) = by_test (admits owner (known_at_start n) e)
  where
    front : List Op
    front = operations owner (known_at_start n) e

    back : List Op
    back = script_from owner (advanced owner (known_at_start n) e) events

    by_test : (b : Bool) → 1 ≤ length (if b then front ++ back else held (known_at_start n))
    by_test true = rw (length-append front back) (omega (arith, operations-some owner (known_at_start n) e))
    by_test false = omega arith

-- ---- not too many

filtered-few : {A : Type 0} (p : A → Bool) (xs : List A) → length (filter p xs) ≤ length xs
filtered-few p [] = omega arith
filtered-few p (x ∷ xs) = by_test (p x) (filtered-few p xs)
  where
    by_test : (b : Bool) → length (filter p xs) ≤ length xs → length (cond b (x ∷ filter p xs) (filter p xs)) ≤ suc (length xs)
    by_test true h = omega (arith, h)
    by_test false h = omega (arith, h)

ranged-length : (first n : ℕ) → length (range_with_len first n) ≡ n
ranged-length first zero = refl
ranged-length first (suc n) = ap suc (ranged-length (first + 1) n)

-- the permits to end are no more than the tasks, and one
ending-few : (k : Known) → length (map to_close (open_tasks k) ++ to_close 0 ∷ []) ≤ length k.parties + 1
ending-few k =
    let joined = length-append (map to_close (open_tasks k)) (to_close 0 ∷ []) in
    let mapped = length-map (open_tasks k) to_close in
    let filtered = filtered-few (λ t. not (is_closed k t)) (range_with_len 1 (pred (length k.parties))) in
    let ranged = ranged-length 1 (pred (length k.parties)) in
    let fewer = pred-below (length k.parties) in
    omega (arith, joined, mapped, filtered, ranged, fewer)

-- behind its end nothing is admitted
ended-script : (owner : ℕ → ℕ) (k : Known) (events : List Event) → k.ended ≡ true → length (script_from owner k events) ≡ 0
ended-script owner k [] h = ap (λ (b : Bool). length (if b then [] else Hold ∷ [])) h
ended-script owner k (e ∷ events) h =
    ap (λ (b : Bool). length (if not b && suits owner k e then operations owner k e ++ script_from owner (advanced owner k e) events else if b then [] else Hold ∷ [])) h

held-few : (k : Known) → length (held k) ≤ 1
held-few k = by_test k.ended
  where
    by_test : (b : Bool) → length (if b then [] else Hold ∷ []) ≤ 1
    by_test true = omega arith
    by_test false = omega arith

-- all but those of Z are three
operations-few : (owner : ℕ → ℕ) (k : Known) (e : Event) → (length (operations owner k e) ≤ 3) ⊎ (e ≡ Z)
operations-few owner k (R c e i) = inl (omega arith)
operations-few owner k (E a) = inl (omega arith)
operations-few owner k (S a) = inl (omega arith)
operations-few owner k (D a n) = inl (omega arith)
operations-few owner k (C c e i) = inl (omega arith)
operations-few owner k (T c e i) = inl (omega arith)
operations-few owner k (F c e i) = inl (omega arith)
operations-few owner k (X a) = inl (omega arith)
operations-few owner k (B t x) = inl (omega arith)
operations-few owner k Z = inr refl

from-few : (owner : ℕ → ℕ) (n : ℕ) (events : List Event) (k : Known) → length k.parties ≡ n → length (script_from owner k events) ≤ 3 * length events + n + 1
from-few owner n [] k same = let few = held-few k in omega (arith, few)
from-few owner n (e ∷ events) k same = by_test (admits owner k e) (operations-few owner k e) (from-few owner n events (advanced owner k e) (as_many owner k e ∙ same))
  where
    front : List Op
    front = operations owner k e

    back : List Op
    back = script_from owner (advanced owner k e) events

    by_test : (b : Bool) → (length front ≤ 3) ⊎ (e ≡ Z) → length back ≤ 3 * length events + n + 1 → length (if b then front ++ back else held k) ≤ 3 * suc (length events) + n + 1
    by_test false few rest = let one = held-few k in omega (arith, one)
    by_test true (inl few) rest = let joined = length-append front back in omega (arith, joined, few, rest)
    by_test true (inr last) rest =
        let joined = length-append front back in
        let ended : length back ≡ 0 = ended-script owner (advanced owner k e) events (ap (λ x. (advanced owner k x).ended) last) in
        let few : length front ≤ length k.parties + 1 = subst (λ x. length (operations owner k x) ≤ length k.parties + 1) (sym last) (ending-few k) in
        omega (arith, joined, ended, few, same)

-- A script has at most three operations for each event, one for each task, and one more.
pub script-few : (owner : ℕ → ℕ) (n : ℕ) (events : List Event) → length (script owner n events) ≤ 3 * length events + n + 1
script-few owner n events = from-few owner n events (known_at_start n) (as_many_at_start n)

-- ---- as many parties as before

put-length : (k : Known) (t : ℕ) (p : Party) → length (put k t p).parties ≡ length k.parties
put-length k t p = length-set k.parties t p

part-length : (k : Known) (a : ℕ) (cs : List ℕ) → length (part k a cs).parties ≡ length k.parties
part-length k a [] = refl
part-length k a (c ∷ cs) = put-length (put k a (with_callers cs (party k a))) c _ ∙ put-length k a _

fall-length : (k : Known) (x : ℕ) → length (fall k x).parties ≡ length k.parties
fall-length k x = put-length (record { parties = map (let_go x) k.parties; ended = k.ended }) x _ ∙ length-map k.parties (let_go x)

-- ---- tasks

-- who is not closed is one of the parties
open-below : (k : Known) (t : ℕ) → not (is_closed k t) ≡ true → t < length k.parties
open-below k t h = known_below (λ p. not p.closed) k t refl h

free-below : (k : Known) (t : ℕ) → is_free k t ≡ true → t < length k.parties
free-below k t h = open-below k t (and_left (not (is_closed k t)) _ h)

module _ (owner : ℕ → ℕ) (k : Known) (few : IsInteger (length k.parties)) where
  free-few : (t : ℕ) → is_free k t ≡ true → IsInteger t
  free-few t h = omega (arith, free-below k t h, few)

  range-closed : (first n : ℕ) → first + n ≤ 2147483647 → AllByRecursion (λ t. t ≤ 2147483647) (range_with_len first n)
  range-closed first zero le = tt
  range-closed first (suc n) le = (omega (arith, le), range-closed (first + 1) n (omega (arith, le)))

  closed-literals : (ts : List ℕ) → AllByRecursion (λ t. t ≤ 2147483647) ts → AllByRecursion HasLiterals (map to_close ts)
  closed-literals [] h = tt
  closed-literals (t ∷ ts) h = ((h.0, omega arith, omega arith, omega arith), closed-literals ts h.1)

  -- the permit of a task for an event with these numbers
  call-literals : (t kind arg : ℕ) (i : ℤ) → IsInteger t → IsInteger kind → IsInteger arg → IsSmallIndex i → AllByRecursion HasLiterals (Go t kind arg i ∷ Done t ∷ [])
  call-literals t kind arg i a b c d = ((a, b, c, d), (a, tt))

  abort-literals : (t x : ℕ) → IsInteger t → HasLiterals (after_abort t x)
  abort-literals t x h = by_test (x == t)
    where
      by_test : (b : Bool) → HasLiterals (if b then Join t else Done t)
      by_test true = h
      by_test false = h

  operations-literals : (e : Event) → suits owner k e ≡ true → HasSmallIndices e → AllByRecursion HasLiteral (operations owner k e) → AllByRecursion HasLiterals (operations owner k e)
  operations-literals (R c e i) s n h =
      let one : IsInteger c = free-few c (and_left (is_free k c) _ s) in
      let two : IsInteger (owner e) = free-few (owner e) (and_left (is_free k (owner e)) _ (and_right (is_free k c) _ s)) in
      ((one, omega arith, h.0, n), ((two, omega arith, h.0, n), (two, tt)))
  operations-literals (E a) s n h = call-literals a 2 0 (pos 0) (free-few a (and_left (is_free k a) _ s)) (omega arith) (omega arith) (omega arith)
  operations-literals (S a) s n h = call-literals a 3 0 (pos 0) (free-few a s) (omega arith) (omega arith) (omega arith)
  operations-literals (D a m) s n h = call-literals a 4 m (pos 0) (free-few a s) (omega arith) h.0 (omega arith)
  operations-literals (C c e i) s n h = call-literals c 5 e i (free-few c (and_left (is_free k c) _ s)) (omega arith) h.0 n
  operations-literals (T c e i) s n h = call-literals c 6 e i (free-few c (and_left (is_free k c) _ s)) (omega arith) h.0 n
  operations-literals (F c e i) s n h = call-literals c 7 e i (free-few c (and_left (is_free k c) _ s)) (omega arith) h.0 n
  operations-literals (X a) s n h = let few : IsInteger a = free-few a (and_left (is_free k a) _ s) in ((few, omega arith, omega arith, omega arith), (few, tt))
  operations-literals (B t x) s n h = ((free-few t s, omega arith, h.0, omega arith), (abort-literals t x (free-few t s), tt))
  operations-literals Z s n h =
      all_joined HasLiterals (map to_close (open_tasks k)) (to_close 0 ∷ [])
      (closed-literals (open_tasks k) (all_kept (λ t. t ≤ 2147483647) _ (range_with_len 1 (pred (length k.parties))) (range-closed 1 (pred (length k.parties)) closing)))
      ((omega arith, omega arith, omega arith, omega arith), tt)
    where
      closing : 1 + pred (length k.parties) ≤ 2147483647
      closing = pred-few (length k.parties) few
        where
          pred-few : (m : ℕ) → m ≤ 2147483647 → 1 + pred m ≤ 2147483647
          pred-few zero le = omega arith
          pred-few (suc m) le = omega (arith, le)

held-literals : (k : Known) → AllByRecursion HasLiterals (held k)
held-literals k = by_test k.ended
  where
    by_test : (b : Bool) → AllByRecursion HasLiterals (if b then [] else Hold ∷ [])
    by_test true = tt
    by_test false = (tt, tt)

from-literals : (owner : ℕ → ℕ) (events : List Event) (k : Known) → IsInteger (length k.parties) → AllByRecursion HasSmallIndices events → AllByRecursion HasLiteral (script_from owner k events) → AllByRecursion HasLiterals (script_from owner k events)
from-literals owner [] k few n h = held-literals k
from-literals owner (e ∷ events) k few n h = by_test (admits owner k e) refl h (λ i. from-literals owner events (advanced owner k e) (subst IsInteger (sym (as_many owner k e)) few) n.1 i)
  where
    front : List Op
    front = operations owner k e

    back : List Op
    back = script_from owner (advanced owner k e) events

    by_test : (b : Bool) → admits owner k e ≡ b → AllByRecursion HasLiteral (if b then front ++ back else held k) → (AllByRecursion HasLiteral back → AllByRecursion HasLiterals back) → AllByRecursion HasLiterals (if b then front ++ back else held k)
    by_test true q i rest =
        all_joined HasLiterals front back (operations-literals owner k few e (and_right (not k.ended) _ q) n.0 (all_front HasLiteral front back i)) (rest (all_back HasLiteral front back i))
    by_test false q i rest = held-literals k

-- the operations of a script of a program with n tasks
pub script-literals : (owner : ℕ → ℕ) (n : ℕ) (events : List Event) → IsInteger n → AllByRecursion HasSmallIndices events → AllByRecursion HasLiteral (script owner n events) → AllByRecursion HasLiterals (script owner n events)
script-literals owner n events few small h = from-literals owner events (known_at_start n) (subst IsInteger (sym (idle_length n)) few) small h
