-- The members of arrays of tasks in the numbers (3.6, 4.1.1, 9.1).
use Rattle.std.proofs.Common.{◌≡◌, ℕ, ℤ, zero, suc, pos, negsuc, ◌+ℤ◌, ◌-ℤ◌, Bool, true, false, ◌==◌, ◌&&◌, if◌then◌else◌, List, [], ◌∷◌, ◌++◌, map, flat_map, option_map, find, Some, None, ok_or, is_ok, Ok, Err, refl, sym, ap, ◌∙◌, arith}
use Rattle.std.specs.Prelude.{int_le, int_lt}
use Rattle.std.specs.Ordering.{int_eq}
use Rattle.std.proofs.lemmas.Option.{none-some}
use Rattle.std.proofs.lemmas.Bool.Decides.{Decides-int_eq}
use Rattle.std.proofs.lemmas.Int.{ints}
use Rattle.ada_tree.specs.declared.naming.NameId.{NameId}
use Rattle.ada_tree.specs.TypeTable.{TypeTable}
use Rattle.ada_tree.specs.PlainExpr.{PDrange}
use Rattle.ada_tree.specs.PlainProgram.{PProgram}
use Rattle.ada_static_rules.specs.Scope.{Range}
use Rattle.syn_event.specs.declared.numbering.TaskInfo.{TaskInfo}
use Rattle.syn_event.specs.AddedNames.{task_info}
use Rattle.syn_event.specs.Extents.{extent, count_to, size_of}
use Rattle.syn_event.specs.NamedTasks.{NamedTasks, task_names_of, NumberedTask, numbered_task, numbers_on, indices, tasks_of_range, tasks_of_name, numbered_tasks}
use Rattle.syn_event.specs.AllNumbers.{info_of_task}
use Rattle.ada_value.specs.declared.values.Raised.TheVariants as raised
use Rattle.task_model.specs.Setting.{is_member, member_named}
use Rattle.task_laws.proofs.legal.rewritten_types.Lookups.{find-more}
use Rattle.normal_laws.proofs.structure.entries.Lists.{find-behind, find-mapped, found-place}
use Rattle.normal_laws.proofs.existence.seen_tasks.Finding.{no-place-passes}
use Rattle.normal_laws.proofs.structure.entries.Entries.{numbers}
use Rattle.normal_laws.proofs.existence.seen_tasks.Parts.{IsExtent, is_called, AtMostOnce}
use Rattle.normal_laws.proofs.existence.seen_tasks.Tasks.{PartsKnown, numbered-tasks-named, part-apart}
use Rattle.common_lemmas.proofs.Lists.{all_weaker, found_none, found_passes}
use Rattle.common_lemmas.proofs.Options.{some_same}

-- ---- consecutive numbers

-- a number among so many from a first one on
abbrev pub is_within : ℤ → ℕ → ℤ → Bool
is_within f n z = int_le f z && int_lt z (f +ℤ pos n)

pub in-numbers : (n : ℕ) (f z : ℤ) → is_within f n z ≡ true → find (int_eq z) (numbers_on f n) ≡ Some z
in-numbers zero f z h = let y : ⊥ = grind (arith, ints) in absurd y
in-numbers (suc n) f z h = by_test (int_eq z f) refl (in-numbers n (f +ℤ pos 1) z)
  where
    by_test : (b : Bool) → int_eq z f ≡ b → (is_within (f +ℤ pos 1) n z ≡ true → find (int_eq z) (numbers_on (f +ℤ pos 1) n) ≡ Some z) → (if b then Some f else find (int_eq z) (numbers_on (f +ℤ pos 1) n)) ≡ Some z
    by_test true e rest = let same : f ≡ z = grind (arith, Decides-int_eq) in ap (λ i. Some i) same
    by_test false e rest = rest (let q : is_within (f +ℤ pos 1) n z ≡ true = grind (arith, ints, Decides-int_eq) in q)

pub out-numbers : (n : ℕ) (f z : ℤ) → is_within f n z ≡ false → find (int_eq z) (numbers_on f n) ≡ None
out-numbers zero f z h = refl
out-numbers (suc n) f z h = by_test (int_eq z f) refl (out-numbers n (f +ℤ pos 1) z)
  where
    by_test : (b : Bool) → int_eq z f ≡ b → (is_within (f +ℤ pos 1) n z ≡ false → find (int_eq z) (numbers_on (f +ℤ pos 1) n) ≡ None) → (if b then Some f else find (int_eq z) (numbers_on (f +ℤ pos 1) n)) ≡ None
    by_test true e rest = let y : ⊥ = grind (arith, ints, Decides-int_eq) in absurd y
    by_test false e rest = rest (let q : is_within (f +ℤ pos 1) n z ≡ false = grind (arith, ints, Decides-int_eq) in q)

-- those of a range that is not empty
whole-size : (f l : ℤ) → int_le f l ≡ true → (z : ℤ) → is_within f (count_to ((l -ℤ f) +ℤ pos 1)) z ≡ (int_le f z && int_le z l)
whole-size f l h z = by_form ((l -ℤ f) +ℤ pos 1) refl
  where
    by_form : (n : ℤ) → (l -ℤ f) +ℤ pos 1 ≡ n → is_within f (count_to n) z ≡ (int_le f z && int_le z l)
    by_form (pos n) e = grind (arith, ints)
    by_form (negsuc n) e = let y : ⊥ = grind (arith, ints) in absurd y

module _ (p : PProgram) (T : TypeTable) (known : PartsKnown p T) where
  -- ---- the numbered task of a name and an index

  abbrev is_at : NameId → ℤ → NumberedTask → Bool
  is_at id z x = (x.name.0 == id.0) && is_member z x.member

  other-part : (id : NameId) (z : ℤ) (x : NamedTasks) → is_called id x ≡ false → find (is_at id z) (tasks_of_name T x) ≡ None
  other-part id z x e =
      found_none (is_at id z) (tasks_of_name T x)
      (all_weaker (λ (y : NumberedTask). y.name ≡ x.name.name) (λ (y : NumberedTask). is_at id z y ≡ false) (tasks_of_name T x) (λ y q. ap (λ (n : NameId). (n.0 == id.0) && is_member z y.member) q ∙ ap (λ b. b && is_member z y.member) e) (numbered-tasks-named p T known x))

  no-part : (id : NameId) (z : ℤ) (xs : List NamedTasks) → find (is_called id) xs ≡ None → find (is_at id z) (flat_map (tasks_of_name T) xs) ≡ None
  no-part id z [] e = refl
  no-part id z (x ∷ xs) e = by_test (is_called id x) refl e (no-part id z xs)
    where
      by_test : (b : Bool) → is_called id x ≡ b → (if b then Some x else find (is_called id) xs) ≡ None → (find (is_called id) xs ≡ None → find (is_at id z) (flat_map (tasks_of_name T) xs) ≡ None) →
          find (is_at id z) (tasks_of_name T x ++ flat_map (tasks_of_name T) xs) ≡ None
      by_test true f g rest = absurd (none-some x (sym g))
      by_test false f g rest = find-behind (is_at id z) (tasks_of_name T x) (flat_map (tasks_of_name T) xs) (other-part id z x f) ∙ rest g

  part-numbered-tasks : (id : NameId) (z : ℤ) (xs : List NamedTasks) (x : NamedTasks) → AtMostOnce (is_called id) xs → find (is_called id) xs ≡ Some x → find (is_at id z) (flat_map (tasks_of_name T) xs) ≡ find (is_at id z) (tasks_of_name T x)
  part-numbered-tasks id z [] x once e = absurd (none-some x e)
  part-numbered-tasks id z (y ∷ ys) x once e = by_test (is_called id y) refl e (part-numbered-tasks id z ys x once.1)
    where
      by_test : (b : Bool) → is_called id y ≡ b → (if b then Some y else find (is_called id) ys) ≡ Some x →
          (find (is_called id) ys ≡ Some x → find (is_at id z) (flat_map (tasks_of_name T) ys) ≡ find (is_at id z) (tasks_of_name T x)) →
          find (is_at id z) (tasks_of_name T y ++ flat_map (tasks_of_name T) ys) ≡ find (is_at id z) (tasks_of_name T x)
      by_test true f g rest =
          find-more (is_at id z) (tasks_of_name T y) (flat_map (tasks_of_name T) ys) (no-part id z ys (once.0 f)) ∙ ap (λ v. find (is_at id z) (tasks_of_name T v)) (some_same g)
      by_test false f g rest = find-behind (is_at id z) (tasks_of_name T y) (flat_map (tasks_of_name T) ys) (other-part id z y f) ∙ rest g

  -- an index of the part's range
  row-at : (id : NameId) (z : ℤ) (x : NamedTasks) (is : List ℤ) → is_called id x ≡ true → find (is_at id z) (map (λ i. numbered_task x (Some i)) is) ≡ option_map (λ i. numbered_task x (Some i)) (find (int_eq z) is)
  row-at id z x is e = find-mapped (is_at id z) (int_eq z) (λ i. numbered_task x (Some i)) (λ i. ap (λ b. b && int_eq z i) e) is

  -- the task of a name and an index is found just where the index lies in the range
  module _ (id : NameId) (x : NamedTasks) (r : PDrange) (range : Range) (found : find (is_called id) (task_names_of p) ≡ Some x) (row : x.index_range ≡ Some r) (is : IsExtent T r range) where
    abbrev test : ℤ → TaskInfo → Bool
    test z info = (info.name.0 == id.0) && is_member z info.member

    infos-at : (z : ℤ) → find (test z) (numbers p T).tasks ≡ option_map (info_of_task p.names) (option_map (λ i. numbered_task x (Some i)) (find (int_eq z) (numbers_on range.first (size_of (record { first = range.first; last = range.last })))))
    infos-at z =
        ap (λ b. if b && is_member z None then Some (task_info p.names p.name.name) else find (test z) (map (info_of_task p.names) (numbered_tasks T p))) (part-apart p T known id x found)
        ∙ find-mapped (test z) (is_at id z) (info_of_task p.names) (λ y. refl) (numbered_tasks T p)
        ∙ ap (option_map (info_of_task p.names))
        (part-numbered-tasks id z (task_names_of p) x (known.once id) found
        ∙ ap (λ o. find (is_at id z) (tasks_of_range T x o)) row
        ∙ row-at id z x (indices (extent T r)) (found_passes (is_called id) (task_names_of p) x found)
        ∙ ap (λ o. option_map (λ i. numbered_task x (Some i)) (find (int_eq z) (indices o))) is.extent)

    -- within the range
    pub member-in : (z : ℤ) → (int_le range.first z && int_le z range.last) ≡ true → (t : ℕ) × (member_named (numbers p T) id z ≡ Ok t)
    member-in z h =
        let f : find (int_eq z) (numbers_on range.first (size_of (record { first = range.first; last = range.last }))) ≡ Some z = in-numbers _ range.first z (whole-size range.first range.last is.nonempty z ∙ h) in
        let place = found-place (test z) (numbers p T).tasks (info_of_task p.names (numbered_task x (Some z))) (infos-at z ∙ ap (λ o. option_map (info_of_task p.names) (option_map (λ i. numbered_task x (Some i)) o)) f) in
        (place.0, ap (λ o. ok_or o raised.Constraint) place.2)

    pub member-out : (z : ℤ) → (int_le range.first z && int_le z range.last) ≡ false → member_named (numbers p T) id z ≡ Err raised.Constraint
    member-out z h =
        let f : find (int_eq z) (numbers_on range.first (size_of (record { first = range.first; last = range.last }))) ≡ None = out-numbers _ range.first z (whole-size range.first range.last is.nonempty z ∙ h) in
        ap (λ o. ok_or o raised.Constraint) (no-place-passes (test z) (numbers p T).tasks (infos-at z ∙ ap (λ o. option_map (info_of_task p.names) (option_map (λ i. numbered_task x (Some i)) o)) f))

    pub member-is : (z : ℤ) → is_ok (member_named (numbers p T) id z) ≡ (int_le range.first z && int_le z range.last)
    member-is z = by_test (int_le range.first z && int_le z range.last) refl
      where
        by_test : (b : Bool) → (int_le range.first z && int_le z range.last) ≡ b → is_ok (member_named (numbers p T) id z) ≡ b
        by_test true e = ap is_ok (member-in z e).1
        by_test false e = ap is_ok (member-out z e)
