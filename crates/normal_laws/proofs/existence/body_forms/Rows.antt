-- The bounds of the range of an array of tasks are values of its kind, so the indices of its members have fewer than 64 bits.
use Rattle.std.proofs.Common.{◌≡◌, ℕ, ℤ, pos, negsuc, zero, suc, ◌+ℤ◌, ◌-ℤ◌, ◌&&◌, Bool, true, false, List, [], ◌∷◌, map, flat_map, IfSome, Option, Some, None, refl, sym, subst, true≢false, arith}
use Rattle.std.proofs.lemmas.Int.{ints}
use Rattle.std.specs.Prelude.{int_le}
use Rattle.std.specs.List.{AllByRecursion}
use Rattle.ada_tree.specs.TypeTable.{TypeTable}
use Rattle.ada_tree.specs.PlainExpr.{PDrange}
use Rattle.ada_static_rules.specs.StaticValue.{is_integer_value}
use Rattle.syn_event.specs.declared.numbering.TaskInfo.{TaskInfo}
use Rattle.syn_event.specs.Extents.{count_to}
use Rattle.syn_event.specs.NamedTasks.{NamedTasks, NumberedTask, numbered_task, numbers_on, indices, tasks_of_range, tasks_of_name}
use Rattle.syn_event.specs.AllNumbers.{info_of_task}
use Rattle.task_laws.specs.legal.types.Typed.{HasLimits, IsTypedPart}
use Rattle.normal_laws.proofs.existence.units.TaskNames.{IsShort}
use Rattle.common_lemmas.proofs.Lists.{all_joined}

-- ---- short indices

abbrev IsShortTask : NumberedTask → Type 0
IsShortTask x = IsShort x.member

short-of : (z : ℤ) → int_le (negsuc 2147483647) z ≡ true → int_le z (pos 2147483647) ≡ true → IsShort (Some z)
short-of (pos n) low high = grind (arith, ints)
short-of (negsuc n) low high = grind (arith, ints)

numbers-short : (x : NamedTasks) (n : ℕ) (f : ℤ) → int_le (negsuc 2147483647) f ≡ true → int_le (f +ℤ pos n) (pos 2147483648) ≡ true → AllByRecursion IsShortTask (map (λ i. numbered_task x (Some i)) (numbers_on f n))
numbers-short x zero f low high = tt
numbers-short x (suc n) f low high =
    let h : int_le f (pos 2147483647) ≡ true = grind (arith, ints) in
    let l : int_le (negsuc 2147483647) (f +ℤ pos 1) ≡ true = grind (arith, ints) in
    let m : int_le ((f +ℤ pos 1) +ℤ pos n) (pos 2147483648) ≡ true = grind (arith, ints) in
    (short-of f low h, numbers-short x n (f +ℤ pos 1) l m)

pub both-sides : (z : ℤ) → is_integer_value z ≡ true → (int_le (negsuc 2147483647) z ≡ true) × (int_le z (pos 2147483647) ≡ true)
both-sides z e = by_tests (int_le (negsuc 2147483647) z) (int_le z (pos 2147483647)) e
  where
    by_tests : (a b : Bool) → (a && b) ≡ true → (a ≡ true) × (b ≡ true)
    by_tests true b f = (refl, f)
    by_tests false b f = absurd (true≢false (sym f))

extent-short : (x : NamedTasks) (f l : ℤ) → is_integer_value f ≡ true → is_integer_value l ≡ true → AllByRecursion IsShortTask (map (λ i. numbered_task x (Some i)) (numbers_on f (count_to ((l -ℤ f) +ℤ pos 1))))
extent-short x f l low high = by_count ((l -ℤ f) +ℤ pos 1) refl
  where
    by_count : (d : ℤ) → (l -ℤ f) +ℤ pos 1 ≡ d → AllByRecursion IsShortTask (map (λ i. numbered_task x (Some i)) (numbers_on f (count_to d)))
    by_count (negsuc n) e = tt
    by_count (pos n) e =
        let h : int_le l (pos 2147483647) ≡ true = (both-sides l high).1 in
        let m : int_le (f +ℤ pos n) (pos 2147483648) ≡ true = grind (arith, ints) in
        numbers-short x n f (both-sides f low).0 m

row-short : (T : TypeTable) (x : NamedTasks) (row : Option PDrange) → IfSome row (HasLimits T) → AllByRecursion IsShortTask (tasks_of_range T x row)
row-short T x None h = (tt, tt)
row-short T x (Some r) h =
    subst (λ e. AllByRecursion IsShortTask (map (λ i. numbered_task x (Some i)) (indices e))) (sym h.told) (extent-short x h.limits.first h.limits.last h.first.fits h.last.fits)

numbered-tasks-short : (T : TypeTable) (xs : List NamedTasks) → AllByRecursion (IsTypedPart T) xs → AllByRecursion IsShortTask (flat_map (tasks_of_name T) xs)
numbered-tasks-short T [] h = tt
numbered-tasks-short T (x ∷ xs) h = all_joined IsShortTask (tasks_of_name T x) (flat_map (tasks_of_name T) xs) (row-short T x x.index_range h.0) (numbered-tasks-short T xs h.1)

infos-short : (names : List (List ℕ)) (xs : List NumberedTask) → AllByRecursion IsShortTask xs → AllByRecursion (λ (i : TaskInfo). IsShort i.member) (map (info_of_task names) xs)
infos-short names [] h = tt
infos-short names (x ∷ xs) h = (h.0, infos-short names xs h.1)

-- The indices of all tasks have fewer than 64 bits.
pub members-short : (T : TypeTable) (names : List (List ℕ)) (xs : List NamedTasks) → AllByRecursion (IsTypedPart T) xs → AllByRecursion (λ (i : TaskInfo). IsShort i.member) (map (info_of_task names) (flat_map (tasks_of_name T) xs))
members-short T names xs h = infos-short names (flat_map (tasks_of_name T) xs) (numbered-tasks-short T xs h)
