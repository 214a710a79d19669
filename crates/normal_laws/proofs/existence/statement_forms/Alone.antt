-- No two tasks of the numbers have one name and one index.
use Rattle.std.proofs.Common.{◌≡◌, ℕ, ℤ, zero, suc, pos, ◌+ℤ◌, Bool, true, false, ◌==◌, ◌&&◌, if◌then◌else◌, List, [], ◌∷◌, ◌++◌, map, option_map, flat_map, find, slice_get, Option, Some, None, refl, sym, ap, ◌∙◌, subst, true≢false, ◌⊎◌, inl, inr, arith}
use Rattle.std.specs.List.{AllByRecursion}
use Rattle.std.specs.Ordering.{int_eq}
use Rattle.std.proofs.lemmas.Option.{none-some}
use Rattle.std.proofs.lemmas.Bool.{and_parts, and_from, eq-eqb}
use Rattle.std.proofs.lemmas.Bool.Decides.{Decides-int_eq}
use Rattle.std.proofs.lemmas.Int.{ints}
use Rattle.ada_tree.specs.declared.naming.NameId.{NameId}
use Rattle.ada_tree.specs.TypeTable.{TypeTable}
use Rattle.ada_tree.specs.PlainExpr.{PDrange}
use Rattle.ada_tree.specs.PlainProgram.{PProgram}
use Rattle.syn_event.specs.Extents.{Extent, extent, size_of}
use Rattle.syn_event.specs.NamedTasks.{NamedTasks, task_names_of, NumberedTask, numbered_task, numbers_on, indices, tasks_of_range, tasks_of_name, numbered_tasks}
use Rattle.normal_laws.proofs.structure.entries.Lists.{find-behind, find-mapped}
use Rattle.normal_laws.proofs.existence.seen_tasks.Parts.{is_called, AtMostOnce, once-joined}
use Rattle.normal_laws.proofs.existence.seen_tasks.Tasks.{PartsKnown, numbered-tasks-named}
use Rattle.normal_laws.proofs.existence.statement_forms.MemberNumbers.{is_within, out-numbers}
use Rattle.common_lemmas.proofs.Lists.{all_weaker, found_none, found_some}
use Rattle.common_lemmas.proofs.Options.{some_same}

-- one index and another, or none and none
abbrev pub same_member : Option ℤ → Option ℤ → Bool
same_member None None = true
same_member (Some i) (Some j) = int_eq i j
same_member _ _ = false

-- the numbered task of a name and an index, if it has one
abbrev pub is_task_named : NameId → Option ℤ → NumberedTask → Bool
is_task_named id m x = (x.name.0 == id.0) && same_member m x.member

-- ---- at most one

-- two places that pass are one
pub one-place : {A : Type 0} (q : A → Bool) (xs : List A) (j k : ℕ) (x y : A) → AtMostOnce q xs → slice_get xs j ≡ Some x → q x ≡ true → slice_get xs k ≡ Some y → q y ≡ true → j ≡ k
one-place q [] j k x y once e f g h = absurd (none-some x e)
one-place q (z ∷ xs) zero zero x y once e f g h = refl
one-place q (z ∷ xs) zero (suc k) x y once e f g h =
    let s = found_some q xs k y g h in
    absurd (none-some s.0 (sym (once.0 (subst (λ v. q v ≡ true) (sym (some_same e)) f)) ∙ s.1))
one-place q (z ∷ xs) (suc j) zero x y once e f g h =
    let s = found_some q xs j x e f in
    absurd (none-some s.0 (sym (once.0 (subst (λ v. q v ≡ true) (sym (some_same g)) h)) ∙ s.1))
one-place q (z ∷ xs) (suc j) (suc k) x y once e f g h = ap suc (one-place q xs j k x y once.1 e f g h)

-- where none passes, at most one does
none-once : {A : Type 0} (q : A → Bool) (xs : List A) → AllByRecursion (λ x. q x ≡ false) xs → AtMostOnce q xs
none-once q [] h = tt
none-once q (x ∷ xs) h = (λ e. absurd (true≢false (sym e ∙ h.0)), none-once q xs h.1)

-- consecutive numbers differ
numbers-once : (x : NamedTasks) (id : NameId) (z : ℤ) (n : ℕ) (f : ℤ) → AtMostOnce (is_task_named id (Some z)) (map (λ i. numbered_task x (Some i)) (numbers_on f n))
numbers-once x id z zero f = tt
numbers-once x id z (suc n) f = (λ e. behind (and_parts (x.name.name.0 == id.0) (int_eq z f) e).1 (and_parts (x.name.name.0 == id.0) (int_eq z f) e).0, numbers-once x id z n (f +ℤ pos 1))
  where
    behind : int_eq z f ≡ true → (x.name.name.0 == id.0) ≡ true → find (is_task_named id (Some z)) (map (λ i. numbered_task x (Some i)) (numbers_on (f +ℤ pos 1) n)) ≡ None
    behind e named =
        find-mapped (is_task_named id (Some z)) (int_eq z) (λ i. numbered_task x (Some i)) (λ i. ap (λ b. b && int_eq z i) named) (numbers_on (f +ℤ pos 1) n)
        ∙ ap (λ o. option_map (λ i. numbered_task x (Some i)) o) (out-numbers n (f +ℤ pos 1) z (let q : is_within (f +ℤ pos 1) n z ≡ false = grind (arith, ints, Decides-int_eq) in q))

-- no member stands among members of another index form
no-member : (x : NamedTasks) (id : NameId) (is : List ℤ) → AllByRecursion (λ (y : NumberedTask). is_task_named id None y ≡ false) (map (λ i. numbered_task x (Some i)) is)
no-member x id [] = tt
no-member x id (i ∷ is) = (by_test (x.name.name.0 == id.0), no-member x id is)
  where
    by_test : (b : Bool) → (b && false) ≡ false
    by_test true = refl
    by_test false = refl

module _ (p : PProgram) (T : TypeTable) (known : PartsKnown p T) where
  row-once : (x : NamedTasks) (id : NameId) (m : Option ℤ) (o : Option PDrange) → AtMostOnce (is_task_named id m) (tasks_of_range T x o)
  row-once x id m None = (λ e. refl, tt)
  row-once x id None (Some r) = none-once (is_task_named id None) _ (no-member x id (indices (extent T r)))
  row-once x id (Some z) (Some r) = by_extent (extent T r)
    where
      by_extent : (o : Option Extent) → AtMostOnce (is_task_named id (Some z)) (map (λ i. numbered_task x (Some i)) (indices o))
      by_extent (Some e) = numbers-once x id z (size_of e) e.first
      by_extent None = tt

  other-numbered-tasks : (id : NameId) (m : Option ℤ) (x : NamedTasks) → is_called id x ≡ false → find (is_task_named id m) (tasks_of_name T x) ≡ None
  other-numbered-tasks id m x e =
      found_none (is_task_named id m) (tasks_of_name T x)
      (all_weaker (λ (y : NumberedTask). y.name ≡ x.name.name) (λ (y : NumberedTask). is_task_named id m y ≡ false) (tasks_of_name T x) (λ y q. ap (λ (n : NameId). (n.0 == id.0) && same_member m y.member) q ∙ ap (λ b. b && same_member m y.member) e) (numbered-tasks-named p T known x))

  no-numbered-tasks : (id : NameId) (m : Option ℤ) (xs : List NamedTasks) → find (is_called id) xs ≡ None → find (is_task_named id m) (flat_map (tasks_of_name T) xs) ≡ None
  no-numbered-tasks id m [] e = refl
  no-numbered-tasks id m (x ∷ xs) e = by_test (is_called id x) refl e (no-numbered-tasks id m xs)
    where
      by_test : (b : Bool) → is_called id x ≡ b → (if b then Some x else find (is_called id) xs) ≡ None → (find (is_called id) xs ≡ None → find (is_task_named id m) (flat_map (tasks_of_name T) xs) ≡ None) →
          find (is_task_named id m) (tasks_of_name T x ++ flat_map (tasks_of_name T) xs) ≡ None
      by_test true f g rest = absurd (none-some x (sym g))
      by_test false f g rest = find-behind (is_task_named id m) (tasks_of_name T x) (flat_map (tasks_of_name T) xs) (other-numbered-tasks id m x f) ∙ rest g

  parts-numbered-tasks-once : (id : NameId) (m : Option ℤ) (xs : List NamedTasks) → AtMostOnce (is_called id) xs → AtMostOnce (is_task_named id m) (flat_map (tasks_of_name T) xs)
  parts-numbered-tasks-once id m [] once = tt
  parts-numbered-tasks-once id m (x ∷ xs) once =
      once-joined (is_task_named id m) (tasks_of_name T x) (flat_map (tasks_of_name T) xs) (row-once x id m x.index_range) (parts-numbered-tasks-once id m xs once.1) (by_test (is_called id x) refl)
    where
      by_test : (b : Bool) → is_called id x ≡ b → (find (is_task_named id m) (tasks_of_name T x) ≡ None) ⊎ (find (is_task_named id m) (flat_map (tasks_of_name T) xs) ≡ None)
      by_test true e = inr (no-numbered-tasks id m xs (once.0 e))
      by_test false e = inl (other-numbered-tasks id m x e)

  -- tasks of one name and one index are one
  pub numbered-tasks-alone : (j k : ℕ) (x y : NumberedTask) → slice_get (numbered_tasks T p) j ≡ Some x → slice_get (numbered_tasks T p) k ≡ Some y → x.name.0 ≡ y.name.0 → x.member ≡ y.member → j ≡ k
  numbered-tasks-alone j k x y e f name member =
      one-place (is_task_named y.name y.member) (numbered_tasks T p) j k x y (parts-numbered-tasks-once y.name y.member (task_names_of p) (known.once y.name)) e
      (and_from (x.name.0 == y.name.0) (same_member y.member x.member) (eq-eqb x.name.0 y.name.0 name) (ap (same_member y.member) member ∙ itself y.member)) f
      (and_from (y.name.0 == y.name.0) (same_member y.member y.member) (eq-eqb y.name.0 y.name.0 refl) (itself y.member))
    where
      itself : (m : Option ℤ) → same_member m m ≡ true
      itself None = refl
      itself (Some i) = grind (arith, Decides-int_eq)
