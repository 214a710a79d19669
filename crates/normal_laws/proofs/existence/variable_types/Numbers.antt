-- Each entry in the numbers of a program is one of a task that is declared, with what its declaration says.
use Rattle.std.proofs.Common.{◌≡◌, ℕ, ℤ, ◌+◌, ◌-◌, ◌==◌, Bool, true, false, if◌then◌else◌, List, [], ◌∷◌, ◌++◌, length, map, flat_map, is_some, slice_get, Option, Some, None, refl, ap, ◌∙◌, subst, arith}
use Rattle.std.specs.List.{AllByRecursion}
use Rattle.std.proofs.lemmas.Option.{none-some}
use Rattle.ada_tree.specs.TypeTable.{TypeTable}
use Rattle.ada_tree.specs.PlainExpr.{PDrange}
use Rattle.ada_tree.specs.PlainDecl.{PEntry, PTask}
use Rattle.ada_tree.specs.PlainProgram.{PProgram}
use Rattle.ada_static_rules.specs.Refusals.{types_in}
use Rattle.syn_event.specs.declared.numbering.TaskInfo.{TaskInfo}
use Rattle.syn_event.specs.declared.numbering.EntryInfo.{EntryInfo}
use Rattle.syn_event.specs.Numbering.{Numbering, entry_at}
use Rattle.syn_event.specs.AddedNames.{task_info, with_origin, with_origins}
use Rattle.syn_event.specs.AllNumbers.{info_of_task, first_of, last_index, family_extent, entry_of_task, entries_of_tasks, all_numbers}
use Rattle.syn_event.specs.NamedTasks.{NamedTasks, NumberedTask, numbered_task, indices, tasks_of_range, tasks_of_name, numbered_tasks, task_names_of}
use Rattle.syn_event.specs.Extents.{extent}
use Rattle.syn_event.specs.DeclaredTasks.{tasks_of}
use Rattle.task_model.specs.Setting.{Setting, unit_named, formals_of_entry, formals_in, formals_of_unit, formals_of_info}
use Rattle.normal_model.specs.Ranges.{range_of_entry, range_in, range_of_unit, range_of_info}
use Rattle.normal_laws.specs.structure.types.Laws.{setting_of}
use Rattle.task_laws.specs.legal.types.Typed.{IsFirstEntry, IsFirstTask}
use Rattle.task_laws.proofs.legal.rewritten_types.Lookups.{place-all}
use Rattle.common_lemmas.proofs.Lists.{all_joined, append_last, seam_there}

-- what is asked of each entry with its task
abbrev pub EntryRule : Type 1
EntryRule = PTask → PEntry → Type 0

-- The entry in the numbers is one of a task that is declared, and says what that says.
pub record IsEntryOf (p : PProgram) (Q : EntryRule) (tasks : List TaskInfo) (info : EntryInfo) : Type 0 where
  pub unit : PTask
  pub first : IsFirstTask (tasks_of p) unit
  pub task : TaskInfo
  pub there : slice_get tasks info.owner ≡ Some task
  pub runs : task.unit ≡ unit.name.name
  pub entry : PEntry
  pub has : Q unit entry
  pub found : IsFirstEntry unit.entries entry
  pub name : info.name ≡ entry.name.name
  pub family : info.family ≡ is_some entry.family
  pub low : info.first ≡ first_of (family_extent (types_in p) entry.family)
  pub high : info.last ≡ last_index (family_extent (types_in p) entry.family)

-- a task that is declared, of whose entries that is so
pub record IsRuled (p : PProgram) (Q : EntryRule) (t : PTask) : Type 0 where
  pub first : IsFirstTask (tasks_of p) t
  pub entries : AllByRecursion (Q t) t.entries
  pub found : AllByRecursion (IsFirstEntry t.entries) t.entries

-- ---- lists

longer : {A : Type 0} (before : List A) (x : A) → length (before ++ x ∷ []) ≡ length before + 1
longer [] x = refl
longer (y ∷ before) x = let e = longer before x in omega arith

-- ---- numbered tasks

-- what is said of the units of parts is said of those of numbered tasks
module _ (P : PTask → Type 0) (T : TypeTable) where
  row-units : (x : NamedTasks) → P x.unit → (o : Option PDrange) → AllByRecursion (λ (y : NumberedTask). P y.unit) (tasks_of_range T x o)
  row-units x h None = (h, tt)
  row-units x h (Some r) = members (indices (extent T r))
    where
      members : (is : List ℤ) → AllByRecursion (λ (y : NumberedTask). P y.unit) (map (λ i. numbered_task x (Some i)) is)
      members [] = tt
      members (i ∷ is) = (h, members is)

  numbered-task-units : (xs : List NamedTasks) → AllByRecursion (λ (x : NamedTasks). P x.unit) xs → AllByRecursion (λ (y : NumberedTask). P y.unit) (flat_map (tasks_of_name T) xs)
  numbered-task-units [] h = tt
  numbered-task-units (x ∷ xs) h = all_joined (λ (y : NumberedTask). P y.unit) (tasks_of_name T x) (flat_map (tasks_of_name T) xs) (row-units x h.0 x.index_range) (numbered-task-units xs h.1)

-- ---- entries

module _ (p : PProgram) (Q : EntryRule) where
  abbrev T : TypeTable
  T = types_in p

  entries-of : (tasks : List TaskInfo) (t : ℕ) (x : NumberedTask) → slice_get tasks t ≡ Some (info_of_task p.names x) → IsFirstTask (tasks_of p) x.unit → (es : List PEntry) → AllByRecursion (Q x.unit) es → AllByRecursion (IsFirstEntry x.unit.entries) es →
      AllByRecursion (IsEntryOf p Q tasks) (map (entry_of_task p.names T t x) es)
  entries-of tasks t x there first [] q f = tt
  entries-of tasks t x there first (e ∷ es) q f = (
    record { unit = x.unit; first = first; task = info_of_task p.names x; there = there; runs = refl; entry = e; has = q.0; found = f.0; name = refl; family = refl; low = refl; high = refl },
    entries-of tasks t x there first es q.1 f.1,
  )

  all-entries : (xs : List NumberedTask) (before : List TaskInfo) (t : ℕ) → length before ≡ t → AllByRecursion (λ (y : NumberedTask). IsRuled p Q y.unit) xs →
      AllByRecursion (IsEntryOf p Q (before ++ map (info_of_task p.names) xs)) (entries_of_tasks p.names T t xs)
  all-entries [] before t e h = tt
  all-entries (x ∷ rest) before t e h =
      let y = info_of_task p.names x in
      let tasks = before ++ y ∷ map (info_of_task p.names) rest in
      all_joined (IsEntryOf p Q tasks) (map (entry_of_task p.names T t x) x.unit.entries) (entries_of_tasks p.names T (t + 1) rest)
      (entries-of tasks t x (subst (λ n. slice_get tasks n ≡ Some y) e (seam_there before y (map (info_of_task p.names) rest))) h.0.first x.unit.entries h.0.entries h.0.found)
      (subst (λ l. AllByRecursion (IsEntryOf p Q l) (entries_of_tasks p.names T (t + 1) rest)) (append_last before y (map (info_of_task p.names) rest))
      (all-entries rest (before ++ y ∷ []) (t + 1) (longer before y ∙ ap (λ n. n + 1) e) h.1))

  -- what an entry stands for says nothing of this
  origins : (names : List (List ℕ)) (tasks : List TaskInfo) (all xs : List EntryInfo) → AllByRecursion (IsEntryOf p Q tasks) xs → AllByRecursion (IsEntryOf p Q tasks) (map (with_origin names all) xs)
  origins names tasks all [] h = tt
  origins names tasks all (x ∷ xs) h =
      let y = h.0 in
      (record { unit = y.unit; first = y.first; task = y.task; there = y.there; runs = y.runs; entry = y.entry; has = y.has; found = y.found; name = y.name; family = y.family; low = y.low; high = y.high }, origins names tasks all xs h.1)

  abbrev numbers : Numbering
  numbers = all_numbers T p

  -- each entry in the numbers
  pub entry-of : AllByRecursion (λ (x : NamedTasks). IsRuled p Q x.unit) (task_names_of p) → (e : ℕ) (info : EntryInfo) → entry_at numbers e ≡ Some info → IsEntryOf p Q numbers.tasks info
  entry-of h e info f = by_test (e == 0) f
    where
      plain : List EntryInfo
      plain = entries_of_tasks p.names T 1 (numbered_tasks T p)

      all : AllByRecursion (IsEntryOf p Q numbers.tasks) (with_origins p.names plain)
      all = origins p.names numbers.tasks plain plain (all-entries (numbered_tasks T p) (task_info p.names p.name.name ∷ []) 1 refl (numbered-task-units (IsRuled p Q) T (task_names_of p) h))

      by_test : (b : Bool) → (if b then None else slice_get numbers.entries (e - 1)) ≡ Some info → IsEntryOf p Q numbers.tasks info
      by_test true g = absurd (none-some info g)
      by_test false g = place-all (IsEntryOf p Q numbers.tasks) numbers.entries (e - 1) info all g

  abbrev g : Setting
  g = setting_of p T numbers

  unit-is : (info : EntryInfo) (h : IsEntryOf p Q numbers.tasks info) → unit_named p h.task.unit ≡ Some h.unit
  unit-is info h = ap (unit_named p) h.runs ∙ h.first

  -- the formals of the entry are those that are declared
  pub formals-are : (info : EntryInfo) (h : IsEntryOf p Q numbers.tasks info) → formals_of_info g (Some info) ≡ h.entry.formals
  formals-are info h =
      ap (λ o. formals_of_unit p o info.name) h.there ∙ ap (λ o. formals_in o info.name) (unit-is info h)
      ∙ ap (λ n. formals_in (Some h.unit) n) h.name ∙ ap formals_of_entry h.found

  -- and so is the range of a family
  pub range-is : (info : EntryInfo) (h : IsEntryOf p Q numbers.tasks info) → range_of_info g (Some info) ≡ h.entry.family
  range-is info h =
      ap (λ o. range_of_unit p o info.name) h.there ∙ ap (λ o. range_in o info.name) (unit-is info h)
      ∙ ap (λ n. range_in (Some h.unit) n) h.name ∙ ap range_of_entry h.found
