-- The tasks and entries of a normal form are as many as those of the program, so no limit is passed.
use Rattle.std.proofs.Common.{◌≡◌, ℕ, zero, suc, ◌+◌, ◌*◌, ◌≤◌, ◌==◌, ℤ, ◌+ℤ◌, pos, Bool, true, false, if◌then◌else◌, List, [], ◌∷◌, ◌++◌, length, map, flat_map, Option, Some, None, refl, sym, ap, ◌∙◌, true≢false, length-append, arith}
use Rattle.std.specs.List.{AllByRecursion}
use Rattle.std.proofs.Math.Nat.{suc-mul}
use Rattle.ada_tree.specs.declared.naming.Span.{Span}
use Rattle.ada_tree.specs.declared.naming.Word.{Word}
use Rattle.ada_tree.specs.TypeTable.{TypeTable}
use Rattle.ada_tree.specs.PlainExpr.{PDrange}
use Rattle.ada_tree.specs.PlainDecl.{PShape, OPlain, OArray, PEntry, PTask, DNumber, DObject, DEnumeration, DArray, DSubtype, DException, DIntIo, DPragma, DTask, DTaskBody, PDecls, no_decl, decl_then}
use Rattle.ada_tree.specs.PlainProgram.{PProgram}
use Rattle.syn_event.specs.declared.numbering.Mode.TheVariants.{Original, Any}
use Rattle.syn_event.specs.declared.limits.What.TheVariants.{Tasks, Entries}
use Rattle.syn_event.specs.CheckScope.{CheckScope, CheckSite, counts}
use Rattle.syn_event.specs.CheckSites as check
use Rattle.syn_event.specs.Extents.{extent}
use Rattle.syn_event.specs.NamedTasks.{NamedTasks, type_named, task_names_of_type, object_task_names, with_type, single_task_name, task_names_in, task_names_of, count_of_range, task_count, NumberedTask, numbered_task, numbers_on, indices, tasks_of_range, tasks_of_name, numbered_tasks}
use Rattle.syn_event.specs.AllNumbers.{all_numbers}
use Rattle.syn_event.specs.DeclaredTasks.{decl_list}
use Rattle.task_laws.specs.legal.sites.Met.{IsCheckMet}
use Rattle.task_model.specs.Setting.{Setting}
use Rattle.normal_model.specs.NormalTree.{normal_tree}
use Rattle.task_laws.proofs.legal.rewritten_types.Lookups.{find-all}
use Rattle.normal_laws.specs.structure.types.Laws.{IsOrdered, setting_of}
use Rattle.normal_laws.specs.structure.numbers.Single.{IsSingle}
use Rattle.normal_laws.proofs.structure.numbers.TasksNumbered.{single_task, single-numbered-tasks}
use Rattle.normal_laws.proofs.structure.numbers.Tasked.{under, normal-tasks-of}
use Rattle.common_lemmas.proofs.Lists.{all_front, all_back, all_joined, mapped_length}
use Rattle.normal_laws.proofs.legality.checks.Declared.{met-count, met-copies, numbered-met}
use Rattle.normal_laws.proofs.legality.checks.Sizes.{within, numbered-within}
use Rattle.syn_event.proofs.Counts.{indices_length, tasks_length}

-- ---- sums

-- how many tasks names stand for, and how many entries these have
abbrev pub tasks_total : TypeTable → List NamedTasks → ℕ
tasks_total T [] = 0
tasks_total T (x ∷ xs) = task_count T x + tasks_total T xs

abbrev pub entries_total : TypeTable → List NamedTasks → ℕ
entries_total T [] = 0
entries_total T (x ∷ xs) = task_count T x * length x.unit.entries + entries_total T xs

-- how many entries numbered tasks have
abbrev entries_of : List NumberedTask → ℕ
entries_of [] = 0
entries_of (y ∷ ys) = length y.unit.entries + entries_of ys

entries-joined : (xs ys : List NumberedTask) → entries_of (xs ++ ys) ≡ entries_of xs + entries_of ys
entries-joined [] ys = omega arith
entries-joined (x ∷ xs) ys = let e = entries-joined xs ys in omega (arith, e)

count-on : (n : ℕ) (z : ℤ) → length (numbers_on z n) ≡ n
count-on zero z = refl
count-on (suc n) z = ap (λ m. suc m) (count-on n (z +ℤ pos 1))

pub tasks-count : (T : TypeTable) (xs : List NamedTasks) → length (flat_map (tasks_of_name T) xs) ≡ tasks_total T xs
tasks-count T [] = refl
tasks-count T (x ∷ xs) =
    let e = length-append (tasks_of_name T x) (flat_map (tasks_of_name T) xs) in
    let a = tasks_length T x x.index_range in
    let b = tasks-count T xs in
    omega (arith, e, a, b)

row-of : (x : NamedTasks) (zs : List ℤ) → entries_of (map (λ i. numbered_task x (Some i)) zs) ≡ length zs * length x.unit.entries
row-of x [] = omega arith
row-of x (z ∷ zs) = let e = row-of x zs in let m = suc-mul (length zs) (length x.unit.entries) in omega (arith, e, m)

row-entries : (T : TypeTable) (x : NamedTasks) (o : Option PDrange) → entries_of (tasks_of_range T x o) ≡ count_of_range T o * length x.unit.entries
row-entries T x None = omega arith
row-entries T x (Some r) = row-of x (indices (extent T r)) ∙ ap (λ m. m * length x.unit.entries) (indices_length (extent T r))

pub entries-count : (T : TypeTable) (xs : List NamedTasks) → entries_of (flat_map (tasks_of_name T) xs) ≡ entries_total T xs
entries-count T [] = refl
entries-count T (x ∷ xs) =
    let e = entries-joined (tasks_of_name T x) (flat_map (tasks_of_name T) xs) in
    let a = row-entries T x x.index_range in
    let b = entries-count T xs in
    omega (arith, e, a, b)

-- ---- names of single tasks

-- a name of a single task has no index range
abbrev pub IsPlainPart : NamedTasks → Type 0
IsPlainPart x = x.unit.of_kind ≡ false → x.index_range ≡ None

abbrev AreKinds : List PTask → Type 0
AreKinds kinds = AllByRecursion (λ (t : PTask). t.of_kind ≡ true) kinds

typed-plain : (kinds : List PTask) (o : Option PTask) (ws : List Word) (row : Option PDrange) → ((t : PTask) → o ≡ Some t → t.of_kind ≡ true) → AllByRecursion IsPlainPart (task_names_of_type o ws row)
typed-plain kinds None ws row h = tt
typed-plain kinds (Some t) [] row h = tt
typed-plain kinds (Some t) (w ∷ ws) row h = ((λ e. absurd (true≢false (sym (h t refl) ∙ e))), typed-plain kinds (Some t) ws row h)

object-plain : (kinds : List PTask) (ws : List Word) (x : PShape) → AreKinds kinds → AllByRecursion IsPlainPart (object_task_names kinds ws x)
object-plain kinds ws (OPlain x) k = typed-plain kinds (type_named kinds x.mark.name) ws None (λ t e. find-all (λ (y : PTask). y.of_kind ≡ true) (λ (y : PTask). y.name.name.0 == x.mark.name.0) kinds t k e)
object-plain kinds ws (OArray r x) k = typed-plain kinds (type_named kinds x.mark.name) ws (Some r) (λ t e. find-all (λ (y : PTask). y.of_kind ≡ true) (λ (y : PTask). y.name.name.0 == x.mark.name.0) kinds t k e)

single-plain : (b : Bool) (t : PTask) (s : Span) → AllByRecursion IsPlainPart (single_task_name b t s)
single-plain true t s = tt
single-plain false t s = ((λ e. refl), tt)

kinds-more : (b : Bool) (kinds : List PTask) (t : PTask) → t.of_kind ≡ b → AreKinds kinds → AreKinds (with_type kinds b t)
kinds-more true kinds t e k = (e, k)
kinds-more false kinds t e k = k

pub parts-plain : (ds : PDecls) (kinds : List PTask) → AreKinds kinds → AllByRecursion IsPlainPart (task_names_in kinds ds)
parts-plain no_decl kinds k = tt
parts-plain (decl_then (DTask t s) rest) kinds k =
    all_joined IsPlainPart (single_task_name t.of_kind t s) (task_names_in (with_type kinds t.of_kind t) rest) (single-plain t.of_kind t s) (parts-plain rest (with_type kinds t.of_kind t) (kinds-more t.of_kind kinds t refl k))
parts-plain (decl_then (DObject ws c x i s) rest) kinds k = all_joined IsPlainPart (object_task_names kinds ws x) (task_names_in kinds rest) (object-plain kinds ws x k) (parts-plain rest kinds k)
parts-plain (decl_then (DNumber w e s) rest) kinds k = parts-plain rest kinds k
parts-plain (decl_then (DEnumeration w ws s) rest) kinds k = parts-plain rest kinds k
parts-plain (decl_then (DArray w q x s) rest) kinds k = parts-plain rest kinds k
parts-plain (decl_then (DSubtype w x s) rest) kinds k = parts-plain rest kinds k
parts-plain (decl_then (DException ws s) rest) kinds k = parts-plain rest kinds k
parts-plain (decl_then (DIntIo w s) rest) kinds k = parts-plain rest kinds k
parts-plain (decl_then (DPragma e s) rest) kinds k = parts-plain rest kinds k
parts-plain (decl_then (DTaskBody w objects its s) rest) kinds k = parts-plain rest kinds k

-- ---- what an original has

module _ (names : List (List ℕ)) (c : CheckScope) where
  abbrev At : List CheckSite → Type 0
  At xs = AllByRecursion (IsCheckMet Original names) xs

  pub tasks-within : (xs : List NamedTasks) (n : ℕ) → n ≤ 200 → At (check.tasks_sites c n xs) → n + tasks_total c.types xs ≤ 200
  tasks-within [] n le m = omega (arith, le)
  tasks-within (x ∷ xs) n le m =
      let here : n + task_count c.types x ≤ 200 = within names Tasks 200 c n (task_count c.types x) x.place refl le m.0 in
      let more : (n + task_count c.types x) + tasks_total c.types xs ≤ 200 = tasks-within xs (n + task_count c.types x) here m.1 in
      omega (arith, more)

  part-within : (x : NamedTasks) (n : ℕ) → IsPlainPart x → n ≤ 1000 → At (check.entries_of_part c n x) → n + task_count c.types x * length x.unit.entries ≤ 1000
  part-within x n plain le m = by_kind x.unit.of_kind refl m
    where
      by_kind : (b : Bool) → x.unit.of_kind ≡ b → At (if b then check.site c (counts Entries n (task_count c.types x * length x.unit.entries) x.place) ∷ [] else check.numbered c Entries n (map (λ e. e.span) x.unit.entries)) →
          n + task_count c.types x * length x.unit.entries ≤ 1000
      by_kind true e k = within names Entries 1000 c n (task_count c.types x * length x.unit.entries) x.place refl le k.0
      by_kind false e k =
          let one : task_count c.types x ≡ 1 = ap (count_of_range c.types) (plain e) in
          let same : task_count c.types x * length x.unit.entries ≡ 1 * length x.unit.entries = ap (λ m. m * length x.unit.entries) one in
          let few : n + length (map (λ (y : PEntry). y.span) x.unit.entries) ≤ 1000 = numbered-within names Entries 1000 c (map (λ (y : PEntry). y.span) x.unit.entries) n refl le k in
          let count : length (map (λ (y : PEntry). y.span) x.unit.entries) ≡ length x.unit.entries = mapped_length (λ (y : PEntry). y.span) x.unit.entries in
          let alone : 1 * length x.unit.entries ≡ length x.unit.entries = omega arith in
          omega (arith, same, few, count, alone)

  pub entries-within : (xs : List NamedTasks) (n : ℕ) → AllByRecursion IsPlainPart xs → n ≤ 1000 → At (check.entries_sites c n xs) → n + entries_total c.types xs ≤ 1000
  entries-within [] n p le m = omega (arith, le)
  entries-within (x ∷ xs) n p le m =
      let next : ℕ = n + task_count c.types x * length x.unit.entries in
      let here : n + task_count c.types x * length x.unit.entries ≤ 1000 = part-within x n p.0 le (all_front (IsCheckMet Original names) (check.entries_of_part c n x) (check.entries_sites c (n + task_count c.types x * length x.unit.entries) xs) m) in
      let more : (n + task_count c.types x * length x.unit.entries) + entries_total c.types xs ≤ 1000 =
      entries-within xs (n + task_count c.types x * length x.unit.entries) p.1 here (all_back (IsCheckMet Original names) (check.entries_of_part c n x) (check.entries_sites c (n + task_count c.types x * length x.unit.entries) xs) m) in
      omega (arith, more)

-- ---- what any text may have

module _ (names : List (List ℕ)) (d : CheckScope) where
  abbrev At' : List CheckSite → Type 0
  At' xs = AllByRecursion (IsCheckMet Any names) xs

  pub tasks-met : (xs : List NamedTasks) (n : ℕ) → n + tasks_total d.types xs ≤ 202 → At' (check.tasks_sites d n xs)
  tasks-met [] n le = tt
  tasks-met (x ∷ xs) n le = (met-count names d Tasks 202 n (task_count d.types x) x.place refl (omega (arith, le)), tasks-met xs (n + task_count d.types x) (omega (arith, le)))

  part-met : (x : NamedTasks) (n : ℕ) → IsPlainPart x → n + task_count d.types x * length x.unit.entries ≤ 2600 → At' (check.entries_of_part d n x)
  part-met x n plain le = by_kind x.unit.of_kind refl
    where
      by_kind : (b : Bool) → x.unit.of_kind ≡ b → At' (if b then check.site d (counts Entries n (task_count d.types x * length x.unit.entries) x.place) ∷ [] else check.numbered d Entries n (map (λ e. e.span) x.unit.entries))
      by_kind true e = (met-count names d Entries 2600 n (task_count d.types x * length x.unit.entries) x.place refl le, tt)
      by_kind false e =
          let one : task_count d.types x ≡ 1 = ap (count_of_range d.types) (plain e) in
          let same : task_count d.types x * length x.unit.entries ≡ 1 * length x.unit.entries = ap (λ m. m * length x.unit.entries) one in
          let count : length (map (λ (y : PEntry). y.span) x.unit.entries) ≡ length x.unit.entries = mapped_length (λ (y : PEntry). y.span) x.unit.entries in
          let alone : 1 * length x.unit.entries ≡ length x.unit.entries = omega arith in
          numbered-met names d Entries 2600 (map (λ (y : PEntry). y.span) x.unit.entries) n refl (omega (arith, le, same, count, alone))

  pub entries-met : (xs : List NamedTasks) (n : ℕ) → AllByRecursion IsPlainPart xs → n + entries_total d.types xs ≤ 2600 → At' (check.entries_sites d n xs)
  entries-met [] n p le = tt
  entries-met (x ∷ xs) n p le =
      all_joined (IsCheckMet Any names) (check.entries_of_part d n x) (check.entries_sites d (n + task_count d.types x * length x.unit.entries) xs) (part-met x n p.0 (omega (arith, le)))
      (entries-met xs (n + task_count d.types x * length x.unit.entries) p.1 (omega (arith, le)))

  -- in any text copies have no limit
  pub copies-met : (share : NamedTasks → ℕ) (xs : List NamedTasks) (n : ℕ) → At' (check.copies_sites d share n xs)
  copies-met share [] n = tt
  copies-met share (x ∷ xs) n = (met-copies names d n (share x) x.name.span, copies-met share xs (n + share x))

-- ---- a program and its normal form

module _ (p : PProgram) (T U : TypeTable) (ordered : IsOrdered p) (singles : AllByRecursion IsSingle (decl_list (normal_tree p T (all_numbers T p)).decls)) where
  abbrev g : Setting
  g = setting_of p T (all_numbers T p)

  abbrev n : PProgram
  n = normal_tree p T (all_numbers T p)

  abbrev ys : List NumberedTask
  ys = numbered_tasks T p

  under-count : (xs : List NumberedTask) → entries_of (map single_task (map (under g) xs)) ≡ entries_of xs
  under-count [] = refl
  under-count (x ∷ xs) = ap (λ m. length x.unit.entries + m) (under-count xs)

  all-tasks : flat_map (tasks_of_name U) (task_names_of n) ≡ map single_task (map (under g) ys)
  all-tasks = single-numbered-tasks U n.decls singles ∙ ap (map single_task) (normal-tasks-of p T ordered)

  pub same-tasks : tasks_total U (task_names_of n) ≡ tasks_total T (task_names_of p)
  same-tasks = sym (tasks-count U (task_names_of n)) ∙ ap (λ l. length l) all-tasks ∙ mapped_length single_task (map (under g) ys) ∙ mapped_length (under g) ys ∙ tasks-count T (task_names_of p)

  pub same-entries : entries_total U (task_names_of n) ≡ entries_total T (task_names_of p)
  same-entries = sym (entries-count U (task_names_of n)) ∙ ap entries_of all-tasks ∙ under-count ys ∙ entries-count T (task_names_of p)
