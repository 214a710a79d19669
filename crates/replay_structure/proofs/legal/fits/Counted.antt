-- An original has at most 200 tasks beside main and 1000 entries (rule 23), so their numbers have literals.
use Rattle.std.proofs.Common.{◌≡◌, ℕ, suc, ◌+◌, ◌*◌, ◌≤◌, ◌==◌, nat_le, nat_lt, Bool, true, false, ◌&&◌, if◌then◌else◌, ℤ, List, [], ◌∷◌, ◌++◌, length, map, flat_map, Option, Some, None, refl, sym, ap, subst, ◌∙◌, true≢false, arith, length-append}
use Rattle.std.specs.List.{AllByRecursion}
use Rattle.std.proofs.lemmas.Bool.{ltb-false}
use Rattle.std.proofs.lemmas.List.{length-map}
use Rattle.ada_tree.specs.declared.naming.NameId.{NameId}
use Rattle.ada_tree.specs.declared.naming.Span.{Span}
use Rattle.ada_tree.specs.declared.naming.Word.{Word}
use Rattle.ada_tree.specs.TypeTable.{TypeTable}
use Rattle.ada_tree.specs.PlainExpr.{PDrange}
use Rattle.ada_tree.specs.PlainDecl.{OPlain, OArray, PTask, DNumber, DObject, DEnumeration, DArray, DSubtype, DException, DIntIo, DPragma, DTask, DTaskBody, PDecls, no_decl, decl_then}
use Rattle.ada_tree.specs.PlainProgram.{PProgram}
use Rattle.ada_static_rules.specs.Refusals.{types_in}
use Rattle.syn_event.specs.declared.numbering.Mode.TheVariants.{Original}
use Rattle.syn_event.specs.declared.limits.What.TheVariants.{Entries}
use Rattle.syn_event.specs.AllNumbers.{entry_of_task, entries_of_tasks, all_numbers}
use Rattle.syn_event.specs.CheckRefusals.{MeetsCheckRules}
use Rattle.syn_event.specs.CheckScope.{CheckScope, CheckSite, counts}
use Rattle.syn_event.specs.CheckSites as check
use Rattle.syn_event.specs.Extents.{extent}
use Rattle.syn_event.specs.NamedTasks.{NamedTasks, named_tasks, type_named, task_names_of_type, with_type, single_task_name, task_names_in, task_names_of, count_of_range, task_count, NumberedTask, numbered_task, indices, tasks_of_range, tasks_of_name, numbered_tasks}
use Rattle.syn_event.proofs.Nothing.{test_fails}
use Rattle.task_laws.specs.legal.sites.Met.{IsCheckMet}
use Rattle.task_laws.proofs.legal.sites.Meeting.{all_check_met}
use Rattle.common_lemmas.proofs.Lists.{all_back, all_front, all_joined}
use Rattle.common_lemmas.proofs.Numbers.{le_true}
use Rattle.task_laws.proofs.legal.rewritten_types.Lookups.{find-all}
use Rattle.syn_event.proofs.Counts.{indices_length}

-- ---- limits

-- what does not pass a limit
within : (limit n k : ℕ) → n ≤ limit → (nat_le n limit && nat_lt limit (n + k)) ≡ false → n + k ≤ limit
within limit n k le e = ltb-false limit (n + k) (right (nat_le n limit) (nat_lt limit (n + k)) (le_true n limit le) e)
  where
    right : (a b : Bool) → a ≡ true → (a && b) ≡ false → b ≡ false
    right true b f g = g
    right false b f g = absurd (true≢false (sym f))

-- ---- how many tasks a name stands for

count-is : (T : TypeTable) (x : NamedTasks) → length (tasks_of_name T x) ≡ task_count T x
count-is T x = by_range x.index_range
  where
    by_range : (o : Option PDrange) → length (tasks_of_range T x o) ≡ count_of_range T o
    by_range None = refl
    by_range (Some r) = length-map (indices (extent T r)) (λ i. numbered_task x (Some i)) ∙ indices_length (extent T r)

-- ---- entries of tasks

-- the entries of all these tasks
abbrev weight : List NumberedTask → ℕ
weight [] = 0
weight (x ∷ rest) = length x.unit.entries + weight rest

weight-joined : (xs ys : List NumberedTask) → weight (xs ++ ys) ≡ weight xs + weight ys
weight-joined [] ys = omega arith
weight-joined (x ∷ xs) ys = let h : weight (xs ++ ys) ≡ weight xs + weight ys = weight-joined xs ys in omega (arith, h)

entries-length : (names : List (List ℕ)) (T : TypeTable) (t : ℕ) (xs : List NumberedTask) → length (entries_of_tasks names T t xs) ≡ weight xs
entries-length names T t [] = refl
entries-length names T t (x ∷ xs) =
    let one : length (map (entry_of_task names T t x) x.unit.entries) ≡ length x.unit.entries = length-map x.unit.entries (entry_of_task names T t x) in
    let more : length (entries_of_tasks names T (t + 1) xs) ≡ weight xs = entries-length names T (t + 1) xs in
    length-append (map (entry_of_task names T t x) x.unit.entries) (entries_of_tasks names T (t + 1) xs) ∙ ap (λ n. n + length (entries_of_tasks names T (t + 1) xs)) one ∙ ap (λ n. length x.unit.entries + n) more

members-weight : (x : NamedTasks) (is : List ℤ) → weight (map (λ i. numbered_task x (Some i)) is) ≡ length is * length x.unit.entries
members-weight x [] = omega arith
members-weight x (i ∷ is) = ap (λ n. length x.unit.entries + n) (members-weight x is) ∙ more (length is) (length x.unit.entries)
  where
    more : (m n : ℕ) → n + m * n ≡ suc m * n
    more m n = grind arith

-- a name of a single task has no range
abbrev IsSound : NamedTasks → Type 0
IsSound x = x.unit.of_kind ≡ false → x.index_range ≡ None

name-weight : (T : TypeTable) (x : NamedTasks) → weight (tasks_of_name T x) ≡ task_count T x * length x.unit.entries
name-weight T x = by_range x.index_range
  where
    one : (n : ℕ) → n + 0 ≡ 1 * n
    one n = omega arith

    by_range : (o : Option PDrange) → weight (tasks_of_range T x o) ≡ count_of_range T o * length x.unit.entries
    by_range None = one (length x.unit.entries)
    by_range (Some r) = members-weight x (indices (extent T r)) ∙ ap (λ n. n * length x.unit.entries) (indices_length (extent T r))

-- ---- what is counted

module _ (names : List (List ℕ)) (c : CheckScope) where
  abbrev M : CheckSite → Type 0
  M = IsCheckMet Original names

  abbrev T : TypeTable
  T = c.types

  tasks-few : (xs : List NamedTasks) (n : ℕ) → n ≤ 200 → AllByRecursion M (check.tasks_sites c n xs) → n + length (flat_map (tasks_of_name T) xs) ≤ 200
  tasks-few [] n le m = omega (arith, le)
  tasks-few (x ∷ xs) n le m =
      let e : (nat_le n 200 && nat_lt 200 (n + task_count T x)) ≡ false = test_fails (nat_le n 200 && nat_lt 200 (n + task_count T x)) _ m.0.limits in
      let one : n + task_count T x ≤ 200 = within 200 n (task_count T x) le e in
      let more : (n + task_count T x) + length (flat_map (tasks_of_name T) xs) ≤ 200 = tasks-few xs (n + task_count T x) one m.1 in
      let joined : length (tasks_of_name T x ++ flat_map (tasks_of_name T) xs) ≡ length (tasks_of_name T x) + length (flat_map (tasks_of_name T) xs) = length-append (tasks_of_name T x) (flat_map (tasks_of_name T) xs) in
      omega (arith, more, joined, count-is T x)

  numbered-few : (ss : List Span) (n : ℕ) → n ≤ 1000 → AllByRecursion M (check.numbered c Entries n ss) → n + length ss ≤ 1000
  numbered-few [] n le m = omega (arith, le)
  numbered-few (s ∷ ss) n le m =
      let e : (nat_le n 1000 && nat_lt 1000 (n + 1)) ≡ false = test_fails (nat_le n 1000 && nat_lt 1000 (n + 1)) _ m.0.limits in
      let more : (n + 1) + length ss ≤ 1000 = numbered-few ss (n + 1) (within 1000 n 1 le e) m.1 in
      omega (arith, more)

  part-few : (x : NamedTasks) (n : ℕ) → n ≤ 1000 → IsSound x → AllByRecursion M (check.entries_of_part c n x) → n + task_count T x * length x.unit.entries ≤ 1000
  part-few x n le sound m = by_kind x.unit.of_kind refl m
    where
      single : (o : Option PDrange) → o ≡ None → count_of_range T o * length x.unit.entries ≡ length x.unit.entries
      single o e = ap (λ q. count_of_range T q * length x.unit.entries) e ∙ one (length x.unit.entries)
        where
          one : (k : ℕ) → 1 * k ≡ k
          one k = omega arith

      by_kind : (b : Bool) → x.unit.of_kind ≡ b →
          AllByRecursion M (if b then check.site c (counts Entries n (task_count T x * length x.unit.entries) x.place) ∷ [] else check.numbered c Entries n (map (λ e. e.span) x.unit.entries)) →
          n + task_count T x * length x.unit.entries ≤ 1000
      by_kind true q i = within 1000 n (task_count T x * length x.unit.entries) le (test_fails (nat_le n 1000 && nat_lt 1000 (n + task_count T x * length x.unit.entries)) _ i.0.limits)
      by_kind false q i =
          subst (λ k. n + k ≤ 1000) (sym (single x.index_range (sound q)))
          (subst (λ k. n + k ≤ 1000) (length-map x.unit.entries (λ e. e.span)) (numbered-few (map (λ e. e.span) x.unit.entries) n le i))

  entries-few : (xs : List NamedTasks) (n : ℕ) → n ≤ 1000 → AllByRecursion IsSound xs → AllByRecursion M (check.entries_sites c n xs) → n + weight (flat_map (tasks_of_name T) xs) ≤ 1000
  entries-few [] n le sound m = omega (arith, le)
  entries-few (x ∷ xs) n le sound m =
      let k : ℕ = task_count T x * length x.unit.entries in
      let here : List CheckSite = check.entries_of_part c n x in
      let rest : List CheckSite = check.entries_sites c (n + task_count T x * length x.unit.entries) xs in
      let one : n + task_count T x * length x.unit.entries ≤ 1000 = part-few x n le sound.0 (all_front M here rest m) in
      joined (weight (flat_map (tasks_of_name T) xs)) (weight (tasks_of_name T x)) (task_count T x * length x.unit.entries) (weight (tasks_of_name T x ++ flat_map (tasks_of_name T) xs))
      (name-weight T x) (weight-joined (tasks_of_name T x) (flat_map (tasks_of_name T) xs)) (entries-few xs (n + task_count T x * length x.unit.entries) one sound.1 (all_back M here rest m))
    where
      joined : (more here k all : ℕ) → here ≡ k → all ≡ here + more → (n + k) + more ≤ 1000 → n + all ≤ 1000
      joined more here k all e f g = omega (arith, e, f, g)

-- ---- names of tasks

kinds-more : (kinds : List PTask) (t : PTask) → AllByRecursion (λ (t : PTask). t.of_kind ≡ true) kinds → AllByRecursion (λ (t : PTask). t.of_kind ≡ true) (with_type kinds t.of_kind t)
kinds-more kinds t h = by_kind t.of_kind refl
  where
    by_kind : (b : Bool) → t.of_kind ≡ b → AllByRecursion (λ (t : PTask). t.of_kind ≡ true) (with_type kinds b t)
    by_kind true e = (e, h)
    by_kind false e = h

single-sound : (b : Bool) (t : PTask) (s : Span) → AllByRecursion IsSound (single_task_name b t s)
single-sound true t s = tt
single-sound false t s = ((λ e. refl), tt)

type-sound : (kinds : List PTask) (id : NameId) (ws : List Word) (row : Option PDrange) → AllByRecursion (λ (t : PTask). t.of_kind ≡ true) kinds → AllByRecursion IsSound (task_names_of_type (type_named kinds id) ws row)
type-sound kinds id ws row h = by_found (type_named kinds id) refl
  where
    each : (t : PTask) → t.of_kind ≡ true → (vs : List Word) → AllByRecursion IsSound (map (λ w. named_tasks w w.span t row) vs)
    each t e [] = tt
    each t e (v ∷ vs) = ((λ f. absurd (true≢false (sym e ∙ f))), each t e vs)

    by_found : (o : Option PTask) → type_named kinds id ≡ o → AllByRecursion IsSound (task_names_of_type o ws row)
    by_found None e = tt
    by_found (Some t) e = each t (find-all (λ (t : PTask). t.of_kind ≡ true) (λ t. t.name.name.0 == id.0) kinds t h e) ws

names-sound : (kinds : List PTask) (ds : PDecls) → AllByRecursion (λ (t : PTask). t.of_kind ≡ true) kinds → AllByRecursion IsSound (task_names_in kinds ds)
names-sound kinds no_decl h = tt
names-sound kinds (decl_then (DTask t s) rest) h = all_joined IsSound (single_task_name t.of_kind t s) (task_names_in (with_type kinds t.of_kind t) rest) (single-sound t.of_kind t s) (names-sound (with_type kinds t.of_kind t) rest (kinds-more kinds t h))
names-sound kinds (decl_then (DObject ws c (OPlain x) i s) rest) h = all_joined IsSound (task_names_of_type (type_named kinds x.mark.name) ws None) (task_names_in kinds rest) (type-sound kinds x.mark.name ws None h) (names-sound kinds rest h)
names-sound kinds (decl_then (DObject ws c (OArray r x) i s) rest) h = all_joined IsSound (task_names_of_type (type_named kinds x.mark.name) ws (Some r)) (task_names_in kinds rest) (type-sound kinds x.mark.name ws (Some r) h) (names-sound kinds rest h)
names-sound kinds (decl_then (DTaskBody w objects its s) rest) h = names-sound kinds rest h
names-sound kinds (decl_then (DNumber w e s) rest) h = names-sound kinds rest h
names-sound kinds (decl_then (DEnumeration w ws s) rest) h = names-sound kinds rest h
names-sound kinds (decl_then (DArray w r x s) rest) h = names-sound kinds rest h
names-sound kinds (decl_then (DSubtype w x s) rest) h = names-sound kinds rest h
names-sound kinds (decl_then (DException ws s) rest) h = names-sound kinds rest h
names-sound kinds (decl_then (DIntIo w s) rest) h = names-sound kinds rest h
names-sound kinds (decl_then (DPragma e s) rest) h = names-sound kinds rest h

-- ---- the numbers of an original

module _ (p : PProgram) (checks : MeetsCheckRules p Original) where
  abbrev around : CheckScope
  around = check.around_program p

  abbrev parts : List NamedTasks
  parts = task_names_of p

  counted : AllByRecursion (IsCheckMet Original p.names) (check.counted_sites around p)
  counted = all_back (IsCheckMet Original p.names) (check.decls_sites around (check.body_names p.decls) p.decls ++ check.body_sites (check.after_decls around p.decls) 1 p.body) (check.counted_sites around p) (all_check_met p Original checks).1

  two : AllByRecursion (IsCheckMet Original p.names) (check.tasks_sites around 0 parts ++ check.entries_sites around 0 parts)
  two = all_front (IsCheckMet Original p.names) (check.tasks_sites around 0 parts ++ check.entries_sites around 0 parts) (check.all_copies_sites around parts p) counted

  pub tasks-within : length (all_numbers (types_in p) p).tasks ≤ 201
  tasks-within =
      let few : 0 + length (numbered_tasks (types_in p) p) ≤ 200 = tasks-few p.names around parts 0 (omega arith) (all_front (IsCheckMet Original p.names) (check.tasks_sites around 0 parts) (check.entries_sites around 0 parts) two) in
      let same : length (all_numbers (types_in p) p).tasks ≡ suc (length (numbered_tasks (types_in p) p)) = ap (λ n. suc n) (length-map (numbered_tasks (types_in p) p) _) in
      omega (arith, few, same)

  pub entries-within : length (all_numbers (types_in p) p).entries ≤ 1000
  entries-within =
      let few : 0 + weight (numbered_tasks (types_in p) p) ≤ 1000 = entries-few p.names around parts 0 (omega arith) (names-sound [] p.decls tt) (all_back (IsCheckMet Original p.names) (check.tasks_sites around 0 parts) (check.entries_sites around 0 parts) two) in
      let same : length (all_numbers (types_in p) p).entries ≡ length (entries_of_tasks p.names (types_in p) 1 (numbered_tasks (types_in p) p)) = length-map (entries_of_tasks p.names (types_in p) 1 (numbered_tasks (types_in p) p)) _ in
      omega (arith, few, same, entries-length p.names (types_in p) 1 (numbered_tasks (types_in p) p))
