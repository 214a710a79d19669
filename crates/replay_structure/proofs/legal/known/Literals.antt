-- Known numbers of events have literals.
use Rattle.std.proofs.Common.{◌≡◌, ℕ, ◌-◌, ◌<◌, ◌≤◌, nat_lt, nat_le, ◌==◌, int_le, ℤ, pos, negsuc, Bool, true, false, ◌&&◌, if◌then◌else◌, List, [], ◌∷◌, ◌++◌, length, map, slice_get, Option, Some, None, refl, arith}
use Rattle.std.specs.Option.{option_map_or}
use Rattle.std.specs.List.{AllByRecursion}
use Rattle.std.proofs.lemmas.Option.{slice_get_within}
use Rattle.common_lemmas.proofs.Truth.{clash, and_left, and_right}
use Rattle.common_lemmas.proofs.Numbers.{equal_is, le_is, lt_is}
use Rattle.common_lemmas.proofs.Lists.{all_joined, all_weaker}
use Rattle.ada_tree.specs.Lexical.{IsInteger}
use Rattle.event_machine.specs.declared.Event.{Event}
use Rattle.event_machine.specs.declared.Event.TheVariants.{R, E, S, D, C, T, F, X, B, Z}
use Rattle.event_machine.specs.progress.Known.{Known, known_at_start, admits, advanced}
use Rattle.syn_event.specs.declared.numbering.EntryInfo.{EntryInfo}
use Rattle.syn_event.specs.Numbering.{Numbering, entry_at}
use Rattle.control_script.specs.Script.{open_tasks, to_close, after_abort, operations, held, script_from, script}
use Rattle.control_script.specs.declared.Op.{Op}
use Rattle.control_script.specs.declared.Op.TheVariants.{Done, Join, Hold}
use Rattle.seq_file.specs.Known.{is_task, is_task_beside_main, is_index, fits_entry, is_known_member, is_alternative, is_known}
use Rattle.normal_laws.specs.structure.placed.Placeable.{IsSmallIndex}
use Rattle.replay_model.specs.Promised.{HasLiteral}
use Rattle.replay_structure.specs.placed.Placeable.{HasSmallIndices}

-- an index of INTEGER has a literal
index-small : (z : ℤ) → is_index z ≡ true → IsSmallIndex z
index-small (pos n) h = le_is n 2147483647 (and_right (int_le (negsuc 2147483647) (pos n)) (int_le (pos n) (pos 2147483647)) h)
index-small (negsuc n) h = le_is n 2147483647 (and_left (int_le (negsuc 2147483647) (negsuc n)) (int_le (negsuc n) (pos 2147483647)) h)

module _ (numbers : Numbering) where
  -- ---- numbers

  entry-within : (e : ℕ) (info : EntryInfo) → entry_at numbers e ≡ Some info → e ≤ length numbers.entries
  entry-within e info q = by_test (e == 0) refl q
    where
      by_test : (b : Bool) → (e == 0) ≡ b → (if b then None else slice_get numbers.entries (e - 1)) ≡ Some info → e ≤ length numbers.entries
      by_test true f r = omega (arith, equal_is e 0 f)
      by_test false f r = let l : e - 1 < length numbers.entries = slice_get_within numbers.entries (e - 1) info r in omega (arith, l)

  member-there : (e : ℕ) (i : ℤ) → is_known_member numbers e i ≡ true → (e ≤ length numbers.entries) × IsSmallIndex i
  member-there e i h = by_entry (entry_at numbers e) refl h
    where
      by_entry : (o : Option EntryInfo) → entry_at numbers e ≡ o → option_map_or (fits_entry i) o false ≡ true → (e ≤ length numbers.entries) × IsSmallIndex i
      by_entry None q k = clash k
      by_entry (Some info) q k = (entry-within e info q, index-small i (and_left (is_index i) _ k))

  call-there : (c e : ℕ) (i : ℤ) → (is_task numbers c && is_known_member numbers e i) ≡ true → (e ≤ length numbers.entries) × IsSmallIndex i
  call-there c e i h = member-there e i (and_right (is_task numbers c) (is_known_member numbers e i) h)

  beside-within : (x : ℕ) → is_task_beside_main numbers x ≡ true → x < length numbers.tasks
  beside-within x h = lt_is x (length numbers.tasks) (and_left (is_task numbers x) (nat_lt 0 x) h)

  -- ---- indices

  event-small : (e : Event) → is_known numbers e ≡ true → HasSmallIndices e
  event-small (R c e i) h = (call-there c e i h).1
  event-small (E a) h = tt
  event-small (S a) h = tt
  event-small (D a n) h = tt
  event-small (C c e i) h = (call-there c e i h).1
  event-small (T c e i) h = (call-there c e i h).1
  event-small (F c e i) h = (call-there c e i h).1
  event-small (X a) h = tt
  event-small (B t x) h = tt
  event-small Z h = tt

  pub events-small : (events : List Event) → AllByRecursion (λ e. is_known numbers e ≡ true) events → AllByRecursion HasSmallIndices events
  events-small events h = all_weaker (λ e. is_known numbers e ≡ true) HasSmallIndices events event-small h

  -- ---- operations

  module _ (few_tasks : IsInteger (length numbers.tasks)) (few_entries : IsInteger (length numbers.entries)) (owner : ℕ → ℕ) where
    entry-few : (c e : ℕ) (i : ℤ) → (is_task numbers c && is_known_member numbers e i) ≡ true → e ≤ 2147483647
    entry-few c e i h = omega (arith, few_entries, (call-there c e i h).0)

    closing : (ts : List ℕ) → AllByRecursion HasLiteral (map to_close ts)
    closing [] = tt
    closing (t ∷ ts) = (omega arith, closing ts)

    after-literal : (t x : ℕ) → HasLiteral (after_abort t x)
    after-literal t x = by_test (x == t)
      where
        by_test : (b : Bool) → HasLiteral (if b then Join t else Done t)
        by_test true = tt
        by_test false = tt

    operations-literal : (k : Known) (e : Event) → is_known numbers e ≡ true → AllByRecursion HasLiteral (operations owner k e)
    operations-literal k (R c e i) h = (entry-few c e i h, (entry-few c e i h, (tt, tt)))
    operations-literal k (E a) h = (omega arith, (tt, tt))
    operations-literal k (S a) h = (omega arith, (tt, tt))
    operations-literal k (D a n) h =
        let l : n ≤ 32 = le_is n 32 (and_right (nat_le 1 n) (nat_le n 32) (and_right (is_task_beside_main numbers a) (is_alternative n) h)) in (omega (arith, l), (tt, tt))
    operations-literal k (C c e i) h = (entry-few c e i h, (tt, tt))
    operations-literal k (T c e i) h = (entry-few c e i h, (tt, tt))
    operations-literal k (F c e i) h = (entry-few c e i h, (tt, tt))
    operations-literal k (X a) h = (omega arith, (tt, tt))
    operations-literal k (B t x) h =
        let l : x < length numbers.tasks = beside-within x (and_right (is_task numbers t) (is_task_beside_main numbers x) h) in (omega (arith, few_tasks, l), (after-literal t x, tt))
    operations-literal k Z h = all_joined HasLiteral (map to_close (open_tasks k)) (to_close 0 ∷ []) (closing (open_tasks k)) (omega arith, tt)

    held-literal : (k : Known) → AllByRecursion HasLiteral (held k)
    held-literal k = by_test k.ended
      where
        by_test : (b : Bool) → AllByRecursion HasLiteral (if b then [] else Hold ∷ [])
        by_test true = tt
        by_test false = (tt, tt)

    from-literal : (events : List Event) (k : Known) → AllByRecursion (λ e. is_known numbers e ≡ true) events → AllByRecursion HasLiteral (script_from owner k events)
    from-literal [] k h = held-literal k
    from-literal (e ∷ events) k h = by_test (admits owner k e) (from-literal events (advanced owner k e) h.1)
      where
        back : List Op
        back = script_from owner (advanced owner k e) events

        by_test : (b : Bool) → AllByRecursion HasLiteral back → AllByRecursion HasLiteral (if b then operations owner k e ++ back else held k)
        by_test true rest = all_joined HasLiteral (operations owner k e) back (operations-literal k e h.0) rest
        by_test false rest = held-literal k

    -- the operations of a script of a program with n tasks
    pub script-literal : (n : ℕ) (events : List Event) → AllByRecursion (λ e. is_known numbers e ≡ true) events → AllByRecursion HasLiteral (script owner n events)
    script-literal n events h = from-literal events (known_at_start n) h
