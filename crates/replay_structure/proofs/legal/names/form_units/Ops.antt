-- The operations of a controller, where the numbers of the events are those of the program: their tasks are tasks of the program, their indices are
-- values of INTEGER, and a task that is waited for is one beside main.
use Rattle.std.proofs.Common.{◌≡◌, ℕ, zero, suc, pred, ◌+◌, ◌<◌, ◌≤◌, nat_lt, ◌==◌, not, ◌&&◌, ℤ, Bool, true, false, if◌then◌else◌, List, [], ◌∷◌, ◌++◌, length, map, slice_index_or, is_some, Option, Some, None, refl, sym, ap, ◌∙◌, true≢false, arith}
use Rattle.std.specs.List.{AllByRecursion, range_with_len}
use Rattle.std.specs.Option.{option_map_or}
use Rattle.common_lemmas.proofs.Truth.{clash, and_left, and_right}
use Rattle.common_lemmas.proofs.Numbers.{equal_is, lt_is, lt_true}
use Rattle.common_lemmas.proofs.Lists.{all_joined, all_kept}
use Rattle.event_machine.specs.declared.Event.{Event}
use Rattle.event_machine.specs.declared.Event.TheVariants.{R, E, S, D, C, T, F, X, B, Z}
use Rattle.event_machine.specs.progress.Known.{Party, Known, nobody, is_closed, is_free, known_at_start, admits, advanced}
use Rattle.syn_event.specs.declared.numbering.EntryInfo.{EntryInfo}
use Rattle.syn_event.specs.Numbering.{Numbering, entry_at, owner_of}
use Rattle.control_script.specs.Script.{open_tasks, to_close, after_abort, operations, held, script_from, script}
use Rattle.control_script.specs.declared.Op.{Op}
use Rattle.control_script.specs.declared.Op.TheVariants.{Go, Done, Join, Hold}
use Rattle.control_script.proofs.Writing.{as_many, as_many_at_start}
use Rattle.ada_static_rules.specs.StaticValue.{is_integer_value}
use Rattle.seq_file.specs.Known.{is_task, is_task_beside_main, is_index, fits_entry, is_known_member, is_known}

module _ (numbers : Numbering) (some : 0 < length numbers.tasks) where
  abbrev n : ℕ
  n = length numbers.tasks

  abbrev owner : ℕ → ℕ
  owner = owner_of numbers

  -- the tasks of an operation are tasks of the program, and one that is waited for is beside main
  abbrev pub IsBounded : Op → Type 0
  IsBounded (Go t kind arg index) = (t < n) × (is_integer_value index ≡ true)
  IsBounded (Done t) = t < n
  IsBounded (Join t) = is_task_beside_main numbers t ≡ true
  IsBounded Hold = Prim.Unit {0}

  -- ---- numbers

  task-within : (t : ℕ) → is_task numbers t ≡ true → t < n
  task-within t h = lt_is t n h

  beside-within : (t : ℕ) → is_task_beside_main numbers t ≡ true → t < n
  beside-within t h = task-within t (and_left (is_task numbers t) (nat_lt 0 t) h)

  -- what stands at a number that no task has
  beyond : (xs : List Party) (t : ℕ) → (t < length xs → ⊥) → slice_index_or xs t nobody ≡ nobody
  beyond [] t h = refl
  beyond (x ∷ xs) zero h = absurd (h (omega arith))
  beyond (x ∷ xs) (suc t) h = beyond xs t (λ l. h (omega (arith, l)))

  -- a task of which it is known that it is free is one of the program
  free-within : (k : Known) (t : ℕ) → is_free k t ≡ true → t < length k.parties
  free-within k t h = by_test (nat_lt t (length k.parties)) refl
    where
      by_test : (b : Bool) → nat_lt t (length k.parties) ≡ b → t < length k.parties
      by_test true e = lt_is t (length k.parties) e
      by_test false e =
          clash (sym (ap (λ (x : Party). not x.closed && not (is_some x.server)) (beyond k.parties t (λ l. true≢false (sym (lt_true t (length k.parties) l) ∙ e)))) ∙ h)

  index-fits : (i : ℤ) (info : EntryInfo) → fits_entry i info ≡ true → is_integer_value i ≡ true
  index-fits i info h = and_left (is_index i) _ h

  member-fits : (e : ℕ) (i : ℤ) → is_known_member numbers e i ≡ true → is_integer_value i ≡ true
  member-fits e i h = by_entry (entry_at numbers e) h
    where
      by_entry : (o : Option EntryInfo) → option_map_or (fits_entry i) o false ≡ true → is_integer_value i ≡ true
      by_entry None k = clash k
      by_entry (Some info) k = index-fits i info k

  call-fits : (c e : ℕ) (i : ℤ) → (is_task numbers c && is_known_member numbers e i) ≡ true → (c < n) × (is_integer_value i ≡ true)
  call-fits c e i h = (task-within c (and_left (is_task numbers c) (is_known_member numbers e i) h), member-fits e i (and_right (is_task numbers c) (is_known_member numbers e i) h))

  -- ---- operations

  closing : (ts : List ℕ) → AllByRecursion (λ t. t < n) ts → AllByRecursion IsBounded (map to_close ts)
  closing [] h = tt
  closing (t ∷ ts) h = ((h.0, refl), closing ts h.1)

  ranged : (m first : ℕ) → first + m ≤ n → AllByRecursion (λ t. t < n) (range_with_len first m)
  ranged zero first h = tt
  ranged (suc m) first h = (omega (arith, h), ranged m (first + 1) (omega (arith, h)))

  last-within : (m : ℕ) → m ≡ n → 1 + pred m ≤ n
  last-within zero e = omega (arith, e, some)
  last-within (suc m) e = omega (arith, e)

  after-bounded : (t x : ℕ) → t < n → is_task_beside_main numbers x ≡ true → IsBounded (after_abort t x)
  after-bounded t x l h = by_test (x == t) refl
    where
      by_test : (b : Bool) → (x == t) ≡ b → IsBounded (if b then Join t else Done t)
      by_test true e = ap (is_task_beside_main numbers) (sym (equal_is x t e)) ∙ h
      by_test false e = l

  operations-bounded : (k : Known) → length k.parties ≡ n → (e : Event) → is_known numbers e ≡ true → admits owner k e ≡ true → AllByRecursion IsBounded (operations owner k e)
  operations-bounded k few (R c e i) h a =
      let x = call-fits c e i h in
      let free : is_free k (owner e) ≡ true = and_left (is_free k (owner e)) _ (and_right (is_free k c) _ (and_right (not k.ended) _ a)) in
      let acceptor : owner e < length k.parties = free-within k (owner e) free in
      let there : owner e < n = omega (arith, acceptor, few) in
      (x, ((there, x.1), (there, tt)))
  operations-bounded k few (E a) h m = ((beside-within a h, refl), (beside-within a h, tt))
  operations-bounded k few (S a) h m = ((beside-within a h, refl), (beside-within a h, tt))
  operations-bounded k few (D a j) h m = let l = beside-within a (and_left (is_task_beside_main numbers a) _ h) in ((l, refl), (l, tt))
  operations-bounded k few (C c e i) h m = let x = call-fits c e i h in (x, (x.0, tt))
  operations-bounded k few (T c e i) h m = let x = call-fits c e i h in (x, (x.0, tt))
  operations-bounded k few (F c e i) h m = let x = call-fits c e i h in (x, (x.0, tt))
  operations-bounded k few (X a) h m = ((beside-within a h, refl), (h, tt))
  operations-bounded k few (B t x) h m =
      let l = task-within t (and_left (is_task numbers t) _ h) in ((l, refl), (after-bounded t x l (and_right (is_task numbers t) _ h), tt))
  operations-bounded k few Z h m =
      all_joined IsBounded (map to_close (open_tasks k)) (to_close 0 ∷ [])
      (closing (open_tasks k) (all_kept (λ t. t < n) (λ t. not (is_closed k t)) (range_with_len 1 (pred (length k.parties))) (ranged (pred (length k.parties)) 1 (last-within (length k.parties) few)))) ((some, refl), tt)

  held-bounded : (k : Known) → AllByRecursion IsBounded (held k)
  held-bounded k = by_test k.ended
    where
      by_test : (b : Bool) → AllByRecursion IsBounded (if b then [] else Hold ∷ [])
      by_test true = tt
      by_test false = (tt, tt)

  from-bounded : (events : List Event) (k : Known) → length k.parties ≡ n → AllByRecursion (λ e. is_known numbers e ≡ true) events → AllByRecursion IsBounded (script_from owner k events)
  from-bounded [] k few h = held-bounded k
  from-bounded (e ∷ events) k few h = by_test (admits owner k e) refl (from-bounded events (advanced owner k e) (as_many owner k e ∙ few) h.1)
    where
      back : List Op
      back = script_from owner (advanced owner k e) events

      by_test : (b : Bool) → admits owner k e ≡ b → AllByRecursion IsBounded back → AllByRecursion IsBounded (if b then operations owner k e ++ back else held k)
      by_test true a rest = all_joined IsBounded (operations owner k e) back (operations-bounded k few e h.0 a) rest
      by_test false a rest = held-bounded k

  -- The operations of a script of known events are so.
  pub script-bounded : (events : List Event) → AllByRecursion (λ e. is_known numbers e ≡ true) events → AllByRecursion IsBounded (script owner n events)
  script-bounded events h = from-bounded events (known_at_start n) (as_many_at_start n) h
