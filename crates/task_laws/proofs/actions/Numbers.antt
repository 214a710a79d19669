-- A legal program has few tasks and entries, since its limits are low.
use Rattle.std.proofs.Common.{◌≡◌, ◌≤◌, ◌+◌, ◌*◌, ℕ, ℤ, if◌then◌else◌, Bool, true, false, ◌&&◌, ◌==◌, nat_lt, nat_le, List, [], ◌∷◌, ◌++◌, map, flat_map, length, Option, Some, None, refl, sym, ap, ◌∙◌, subst, true≢false, arith}
use Rattle.std.proofs.lemmas.Bool.Decides.{nat_tests}
use Rattle.std.proofs.lemmas.List.{length-append}
use Rattle.std.proofs.Math.ListN.{length-map}
use Rattle.std.specs.List.{AllByRecursion}
use Rattle.ada_tree.specs.declared.naming.NameId.{NameId}
use Rattle.ada_tree.specs.declared.naming.Span.{Span}
use Rattle.ada_tree.specs.declared.naming.Word.{Word}
use Rattle.ada_tree.specs.PlainExpr.{PDrange}
use Rattle.ada_tree.specs.PlainDecl.{PShape, OPlain, OArray, PTask, PEntry, DObject, DTask, PDecls, no_decl, decl_then}
use Rattle.ada_tree.specs.PlainProgram.{PProgram}
use Rattle.ada_static_rules.specs.Refusals.{types_in}
use Rattle.ada_tree.specs.TypeTable.{TypeTable}
use Rattle.syn_event.specs.declared.numbering.Mode.{Mode}
use Rattle.syn_event.specs.declared.numbering.Mode.TheVariants as mode
use Rattle.syn_event.specs.declared.limits.What.{What}
use Rattle.syn_event.specs.declared.limits.What.TheVariants.{Tasks, Entries}
use Rattle.syn_event.specs.AllNumbers.{all_numbers, info_of_task, entry_of_task, entries_of_tasks}
use Rattle.syn_event.specs.Extents.{extent}
use Rattle.syn_event.specs.Legal.{Legal}
use Rattle.syn_event.specs.Limits.{limit_of}
use Rattle.syn_event.specs.AddedNames.{with_origin}
use Rattle.syn_event.specs.Numbering.{Numbering}
use Rattle.syn_event.specs.RuleLimit.{limit_passed}
use Rattle.syn_event.specs.CheckSites.{site, check_sites, numbered, decls_sites, body_sites, body_names, after_decls, around_program, tasks_sites, entries_of_part, entries_sites, counted_sites}
use Rattle.syn_event.specs.CheckScope.{CheckScope, counts}
use Rattle.syn_event.specs.NamedTasks.{NamedTasks, named_tasks, type_named, task_names_of_type, object_task_names, with_type, single_task_name, task_names_in, task_names_of, count_of_range, task_count, NumberedTask, numbered_task, indices, tasks_of_range, tasks_of_name, numbered_tasks}
use Rattle.syn_event.proofs.Nothing.{test_fails}
use Rattle.syn_event.proofs.Kept.{Kept, kept_all}
use Rattle.common_lemmas.proofs.Lists.{all_back, all_front}
use Rattle.syn_event.proofs.Counts.{indices_length, tasks_length}
use Rattle.task_laws.specs.actions.Laws.{FewEntries, FewTasks}

-- ---- one count

within : (what : What) (limit before here : ℕ) (s : Span) → before ≤ limit → limit_passed what (Some limit) before here s ≡ [] → before + here ≤ limit
within what limit before here s start h =
    let failed = test_fails (nat_le before limit && nat_lt limit (before + here)) _ h in
    split (nat_le before limit) (nat_lt limit (before + here)) refl refl failed
  where
    split : (a b : Bool) → nat_le before limit ≡ a → nat_lt limit (before + here) ≡ b → (a && b) ≡ false → before + here ≤ limit
    split true false ea eb h = grind (arith, nat_tests)
    split true true ea eb h = absurd (true≢false h)
    split false b ea eb h = absurd (true≢false (grind (arith, nat_tests)))

module _ (m : Mode) (names : List (List ℕ)) (around : CheckScope) where
  counted : (what : What) (limit before here : ℕ) (s : Span) → limit_of m what ≡ Some limit → before ≤ limit → Kept m names (site around (counts what before here s)) → before + here ≤ limit
  counted what limit before here s is start kept =
      within what limit before here s start (subst (λ (o : Option ℕ). limit_passed what o before here s ≡ []) is kept.within)

  pub all_counted : (what : What) (limit n : ℕ) (spans : List Span) → limit_of m what ≡ Some limit → n ≤ limit → AllByRecursion (Kept m names) (numbered around what n spans) → n + length spans ≤ limit
  all_counted what limit n [] is start kept = omega (arith, start)
  all_counted what limit n (s ∷ spans) is start kept =
      let here : n + 1 ≤ limit = counted what limit n 1 s is start kept.0 in
      omega (arith, all_counted what limit (n + 1) spans is here kept.1)

-- ---- the parts of tasks

-- a part whose unit is a single task is one task
abbrev IsOne : NamedTasks → Type 0
IsOne x = x.unit.of_kind ≡ false → x.index_range ≡ None

abbrev AreKinds : List PTask → Type 0
AreKinds kinds = AllByRecursion (λ (t : PTask). t.of_kind ≡ true) kinds

ones_joined : (xs ys : List NamedTasks) → AllByRecursion IsOne xs → AllByRecursion IsOne ys → AllByRecursion IsOne (xs ++ ys)
ones_joined [] ys h k = k
ones_joined (x ∷ xs) ys h k = (h.0, ones_joined xs ys h.1 k)

kind_parts : (t : PTask) (names : List Word) (row : Option PDrange) → t.of_kind ≡ true → AllByRecursion IsOne (map (λ (w : Word). named_tasks w w.span t row) names)
kind_parts t [] row is = tt
kind_parts t (w ∷ names) row is = (λ not. absurd (true≢false (sym is ∙ not)), kind_parts t names row is)

typed_parts : (kinds : List PTask) (id : NameId) (names : List Word) (row : Option PDrange) → AreKinds kinds → AllByRecursion IsOne (task_names_of_type (type_named kinds id) names row)
typed_parts [] id names row are = tt
typed_parts (t ∷ kinds) id names row are = split (t.name.name.0 == id.0) (typed_parts kinds id names row are.1)
  where
    split : (b : Bool) → AllByRecursion IsOne (task_names_of_type (type_named kinds id) names row) → AllByRecursion IsOne (task_names_of_type (if b then Some t else type_named kinds id) names row)
    split true rest = kind_parts t names row are.0
    split false rest = rest

shape_parts : (kinds : List PTask) (names : List Word) (shape : PShape) → AreKinds kinds → AllByRecursion IsOne (object_task_names kinds names shape)
shape_parts kinds names (OPlain x) are = typed_parts kinds x.mark.name names None are
shape_parts kinds names (OArray index x) are = typed_parts kinds x.mark.name names (Some index) are

kinds_with : (kinds : List PTask) (kind : Bool) (t : PTask) → t.of_kind ≡ kind → AreKinds kinds → AreKinds (with_type kinds kind t)
kinds_with kinds true t is are = (is, are)
kinds_with kinds false t is are = are

single_one : (kind : Bool) (t : PTask) (s : Span) → AllByRecursion IsOne (single_task_name kind t s)
single_one true t s = tt
single_one false t s = (λ not. refl, tt)

parts_one : (kinds : List PTask) (ds : PDecls) → AreKinds kinds → AllByRecursion IsOne (task_names_in kinds ds)
parts_one kinds no_decl are = tt
parts_one kinds (decl_then (DTask t s) rest) are =
    ones_joined (single_task_name t.of_kind t s) (task_names_in (with_type kinds t.of_kind t) rest) (single_one t.of_kind t s) (parts_one (with_type kinds t.of_kind t) rest (kinds_with kinds t.of_kind t refl are))
parts_one kinds (decl_then (DObject names constant shape init s) rest) are = ones_joined (object_task_names kinds names shape) (task_names_in kinds rest) (shape_parts kinds names shape are) (parts_one kinds rest are)
parts_one kinds (decl_then _ rest) are = parts_one kinds rest are

-- ---- tasks

module _ (m : Mode) (names : List (List ℕ)) (around : CheckScope) (limit : ℕ) where
  tasks_within : (n : ℕ) (xs : List NamedTasks) → limit_of m Tasks ≡ Some limit → n ≤ limit → AllByRecursion (Kept m names) (tasks_sites around n xs) → n + length (flat_map (tasks_of_name around.types) xs) ≤ limit
  tasks_within n [] is start kept = omega (arith, start)
  tasks_within n (x ∷ xs) is start kept =
      let here : n + task_count around.types x ≤ limit = counted m names around Tasks limit n (task_count around.types x) x.place is start kept.0 in
      let own : length (tasks_of_name around.types x) ≡ task_count around.types x = tasks_length around.types x x.index_range in
      let rest : (n + task_count around.types x) + length (flat_map (tasks_of_name around.types) xs) ≤ limit = tasks_within (n + task_count around.types x) xs is here kept.1 in
      omega (arith, own, rest, length-append (tasks_of_name around.types x) (flat_map (tasks_of_name around.types) xs))

-- ---- entries

-- how many entries tasks have
abbrev entries_in : List NumberedTask → ℕ
entries_in [] = 0
entries_in (x ∷ rest) = length x.unit.entries + entries_in rest

entries_joined : (xs ys : List NumberedTask) → entries_in (xs ++ ys) ≡ entries_in xs + entries_in ys
entries_joined [] ys = omega arith
entries_joined (x ∷ xs) ys = omega (arith, entries_joined xs ys)

entries_numbered : (names : List (List ℕ)) (types : TypeTable) (t : ℕ) (xs : List NumberedTask) → length (entries_of_tasks names types t xs) ≡ entries_in xs
entries_numbered names types t [] = refl
entries_numbered names types t (x ∷ xs) =
    omega (arith, length-append (map (entry_of_task names types t x) x.unit.entries) (entries_of_tasks names types (t + 1) xs), length-map x.unit.entries (entry_of_task names types t x), entries_numbered names types (t + 1) xs)

row_entries : (x : NamedTasks) (is : List ℤ) → entries_in (map (λ i. numbered_task x (Some i)) is) ≡ length is * length x.unit.entries
row_entries x [] = grind arith
row_entries x (i ∷ is) = grind (arith, row_entries x is)

part_entries : (types : TypeTable) (x : NamedTasks) (row : Option PDrange) → entries_in (tasks_of_range types x row) ≡ count_of_range types row * length x.unit.entries
part_entries types x (Some r) = row_entries x (indices (extent types r)) ∙ ap (λ k. k * length x.unit.entries) (indices_length (extent types r))
part_entries types x None = omega arith

module _ (m : Mode) (names : List (List ℕ)) (around : CheckScope) (limit : ℕ) (is : limit_of m Entries ≡ Some limit) where
  part_within : (n : ℕ) (x : NamedTasks) (kind : Bool) → IsOne x → x.unit.of_kind ≡ kind → n ≤ limit → AllByRecursion (Kept m names) (if kind then site around (counts Entries n (task_count around.types x * length x.unit.entries) x.place) ∷ [] else numbered around Entries n (map (λ (e : PEntry). e.span) x.unit.entries)) →
      n + task_count around.types x * length x.unit.entries ≤ limit
  part_within n x true one same start kept = counted m names around Entries limit n (task_count around.types x * length x.unit.entries) x.place is start kept.0
  part_within n x false one same start kept =
      let all : n + length (map (λ (e : PEntry). e.span) x.unit.entries) ≤ limit = all_counted m names around Entries limit n (map (λ (e : PEntry). e.span) x.unit.entries) is start kept in
      let single : count_of_range around.types x.index_range * length x.unit.entries ≡ length x.unit.entries =
      ap (λ (row : Option PDrange). count_of_range around.types row * length x.unit.entries) (one same) ∙ omega arith in
      omega (arith, all, single, length-map x.unit.entries (λ (e : PEntry). e.span))

  entries_within : (n : ℕ) (xs : List NamedTasks) → AllByRecursion IsOne xs → n ≤ limit → AllByRecursion (Kept m names) (entries_sites around n xs) → n + entries_in (flat_map (tasks_of_name around.types) xs) ≤ limit
  entries_within n [] ones start kept = omega (arith, start)
  entries_within n (x ∷ xs) ones start kept =
      let own : n + task_count around.types x * length x.unit.entries ≤ limit = part_within n x x.unit.of_kind ones.0 refl start (all_front (Kept m names) (entries_of_part around n x) _ kept) in
      let rest : (n + task_count around.types x * length x.unit.entries) + entries_in (flat_map (tasks_of_name around.types) xs) ≤ limit =
      entries_within (n + task_count around.types x * length x.unit.entries) xs ones.1 own (all_back (Kept m names) (entries_of_part around n x) _ kept) in
      omega (arith, rest, part_entries around.types x x.index_range, entries_joined (tasks_of_name around.types x) (flat_map (tasks_of_name around.types) xs))

-- ---- the whole program

most_tasks : Mode → ℕ
most_tasks mode.Original = 200
most_tasks mode.Any = 202

tasks_limit : (m : Mode) → limit_of m Tasks ≡ Some (most_tasks m)
unfolding most_tasks
tasks_limit mode.Original = refl
tasks_limit mode.Any = refl

few_tasks : (m : Mode) → most_tasks m ≤ 202
unfolding most_tasks
few_tasks mode.Original = omega arith
few_tasks mode.Any = omega arith

most_entries : Mode → ℕ
most_entries mode.Original = 1000
most_entries mode.Any = 2600

entries_limit : (m : Mode) → limit_of m Entries ≡ Some (most_entries m)
unfolding most_entries
entries_limit mode.Original = refl
entries_limit mode.Any = refl

few_entries : (m : Mode) → most_entries m ≤ 2600
unfolding most_entries
few_entries mode.Original = omega arith
few_entries mode.Any = omega arith

module _ (p : PProgram) (types : TypeTable) (numbers : Numbering) (m : Mode) (legal : Legal p types numbers m) where
  places : AllByRecursion (Kept m p.names) (check_sites p)
  places = kept_all m p.names (check_sites p) legal.check_rules

  counted_places : AllByRecursion (Kept m p.names) (counted_sites (around_program p) p)
  counted_places = all_back (Kept m p.names) (decls_sites (around_program p) (body_names p.decls) p.decls ++ body_sites (after_decls (around_program p) p.decls) 1 p.body) _ places.1

  counted_parts : AllByRecursion (Kept m p.names) (tasks_sites (around_program p) 0 (task_names_of p) ++ entries_sites (around_program p) 0 (task_names_of p))
  counted_parts = all_front (Kept m p.names) (tasks_sites (around_program p) 0 (task_names_of p) ++ entries_sites (around_program p) 0 (task_names_of p)) _ counted_places

  same : numbers ≡ all_numbers (types_in p) p
  same = legal.its_numbers ∙ ap (λ (t : TypeTable). all_numbers t p) legal.its_types

  tasks_counted : length (all_numbers (types_in p) p).tasks ≤ 203
  tasks_counted =
      let all : 0 + length (numbered_tasks (types_in p) p) ≤ most_tasks m =
      tasks_within m p.names (around_program p) (most_tasks m) 0 (task_names_of p) (tasks_limit m) (omega arith)
      (all_front (Kept m p.names) (tasks_sites (around_program p) 0 (task_names_of p)) (entries_sites (around_program p) 0 (task_names_of p)) counted_parts) in
      omega (arith, all, few_tasks m, length-map (numbered_tasks (types_in p) p) (info_of_task p.names))

  numbered_entries : length (all_numbers (types_in p) p).entries ≤ 2600
  numbered_entries =
      let all : 0 + entries_in (numbered_tasks (types_in p) p) ≤ most_entries m =
      entries_within m p.names (around_program p) (most_entries m) (entries_limit m) 0 (task_names_of p) (parts_one [] p.decls tt) (omega arith)
      (all_back (Kept m p.names) (tasks_sites (around_program p) 0 (task_names_of p)) (entries_sites (around_program p) 0 (task_names_of p)) counted_parts) in
      omega (arith, all, few_entries m, length-map (entries_of_tasks p.names (types_in p) 1 (numbered_tasks (types_in p) p)) (with_origin p.names (entries_of_tasks p.names (types_in p) 1 (numbered_tasks (types_in p) p))), entries_numbered p.names (types_in p) 1 (numbered_tasks (types_in p) p))

  -- main and at most 202 others
  pub few_numbered : length numbers.tasks ≤ 203
  few_numbered = let n : length numbers.tasks ≡ length (all_numbers (types_in p) p).tasks = ap (λ (n : Numbering). length n.tasks) same in omega (arith, n, tasks_counted)

  few_numbered_entries : length numbers.entries ≤ 2600
  few_numbered_entries =
      let n : length numbers.entries ≡ length (all_numbers (types_in p) p).entries = ap (λ (n : Numbering). length n.entries) same in omega (arith, n, numbered_entries)

pub tasks_are_few : FewTasks
tasks_are_few p types numbers m legal = let few : length numbers.tasks ≤ 203 = few_numbered p types numbers m legal in omega (arith, few)

pub entries_are_few : FewEntries
entries_are_few p types numbers m legal = let few : length numbers.entries ≤ 2600 = few_numbered_entries p types numbers m legal in omega (arith, few)
