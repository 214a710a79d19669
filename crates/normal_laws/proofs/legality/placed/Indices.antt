-- The indices of the members of arrays of tasks are values of INTEGER: bounds of their ranges are.
use Rattle.std.proofs.Common.{◌≡◌, ℕ, zero, suc, ℤ, pos, negsuc, ◌+ℤ◌, ◌-ℤ◌, true, List, [], ◌∷◌, map, flat_map, IfSome, Option, Some, None, refl, sym, subst, arith}
use Rattle.std.specs.Prelude.{int_le}
use Rattle.std.specs.List.{AllByRecursion}
use Rattle.std.proofs.lemmas.Int.{ints}
use Rattle.common_lemmas.proofs.Lists.{all_joined}
use Rattle.ada_tree.specs.TypeTable.{TypeTable}
use Rattle.ada_tree.specs.PlainExpr.{PDrange}
use Rattle.ada_static_rules.specs.StaticValue.{is_integer_value}
use Rattle.syn_event.specs.Extents.{count_to, extent}
use Rattle.syn_event.specs.NamedTasks.{NamedTasks, NumberedTask, numbered_task, numbers_on, indices, tasks_of_range, tasks_of_name}
use Rattle.syn_event.specs.AllNumbers.{info_of_task}
use Rattle.task_laws.specs.legal.types.Typed.{HasLimits, IsTypedPart}
use Rattle.normal_laws.specs.structure.placed.Placeable.{IsSmallIndex, HasSmallIndex}
use Rattle.normal_laws.proofs.existence.body_forms.Rows.{both-sides}

-- ---- numbers

small-of : (z : ℤ) → int_le (negsuc 2147483647) z ≡ true → int_le z (pos 2147483647) ≡ true → IsSmallIndex z
small-of (pos n) low high = grind (arith, ints)
small-of (negsuc n) low high = grind (arith, ints)

numbers-small : (n : ℕ) (f : ℤ) → int_le (negsuc 2147483647) f ≡ true → int_le (f +ℤ pos n) (pos 2147483648) ≡ true → AllByRecursion IsSmallIndex (numbers_on f n)
numbers-small zero f low high = tt
numbers-small (suc n) f low high =
    let h : int_le f (pos 2147483647) ≡ true = grind (arith, ints) in
    let l : int_le (negsuc 2147483647) (f +ℤ pos 1) ≡ true = grind (arith, ints) in
    let m : int_le ((f +ℤ pos 1) +ℤ pos n) (pos 2147483648) ≡ true = grind (arith, ints) in
    (small-of f low h, numbers-small n (f +ℤ pos 1) l m)

extent-small : (f l : ℤ) → is_integer_value f ≡ true → is_integer_value l ≡ true → AllByRecursion IsSmallIndex (numbers_on f (count_to ((l -ℤ f) +ℤ pos 1)))
extent-small f l low high = by_count ((l -ℤ f) +ℤ pos 1) refl
  where
    by_count : (d : ℤ) → (l -ℤ f) +ℤ pos 1 ≡ d → AllByRecursion IsSmallIndex (numbers_on f (count_to d))
    by_count (negsuc n) e = tt
    by_count (pos n) e =
        let h : int_le l (pos 2147483647) ≡ true = (both-sides l high).1 in
        let m : int_le (f +ℤ pos n) (pos 2147483648) ≡ true = grind (arith, ints) in
        numbers-small n f (both-sides f low).0 m

-- ---- tasks

abbrev IsSmallTask : NumberedTask → Type 0
IsSmallTask x = IfSome x.member IsSmallIndex

members-small : (x : NamedTasks) (zs : List ℤ) → AllByRecursion IsSmallIndex zs → AllByRecursion IsSmallTask (map (λ i. numbered_task x (Some i)) zs)
members-small x [] h = tt
members-small x (z ∷ zs) h = (h.0, members-small x zs h.1)

row-small : (T : TypeTable) (x : NamedTasks) (row : Option PDrange) → IfSome row (HasLimits T) → AllByRecursion IsSmallTask (tasks_of_range T x row)
row-small T x None h = (tt, tt)
row-small T x (Some r) h = members-small x (indices (extent T r)) (subst (λ e. AllByRecursion IsSmallIndex (indices e)) (sym h.told) (extent-small h.limits.first h.limits.last h.first.fits h.last.fits))

numbered-small : (T : TypeTable) (xs : List NamedTasks) → AllByRecursion (IsTypedPart T) xs → AllByRecursion IsSmallTask (flat_map (tasks_of_name T) xs)
numbered-small T [] h = tt
numbered-small T (x ∷ xs) h = all_joined IsSmallTask (tasks_of_name T x) (flat_map (tasks_of_name T) xs) (row-small T x x.index_range h.0) (numbered-small T xs h.1)

infos-small : (names : List (List ℕ)) (xs : List NumberedTask) → AllByRecursion IsSmallTask xs → AllByRecursion HasSmallIndex (map (info_of_task names) xs)
infos-small names [] h = tt
infos-small names (x ∷ xs) h = (h.0, infos-small names xs h.1)

-- The indices of all tasks are small.
pub tasks-small : (T : TypeTable) (names : List (List ℕ)) (xs : List NamedTasks) → AllByRecursion (IsTypedPart T) xs → AllByRecursion HasSmallIndex (map (info_of_task names) (flat_map (tasks_of_name T) xs))
tasks-small T names xs h = infos-small names (flat_map (tasks_of_name T) xs) (numbered-small T xs h)
