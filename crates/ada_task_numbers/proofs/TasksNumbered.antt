-- The tasks of a program and their entries, one behind the other.
use Rattle.std.specs.Prelude.{◌≡◌, ℕ, ℤ, zero, suc, pos, ◌+ℤ◌, ◌+◌, ◌<◌, List, [], ◌∷◌, ◌++◌, length, map, flat_map, take, Option, Some}
use Rattle.std.proofs.Common.{sym, ap, ◌∙◌, get_or, append_assoc, arith}
use Rattle.std.proofs.lemmas.Int.{ints}
use Rattle.std.proofs.lemmas.List.{map_more, append-nil, map-append, length-append, length-map}
use Rattle.std.proofs.lemmas.Grind.{flat_map-append}
use Rattle.ada_tree.specs.TypeTable.{TypeTable}
use Rattle.ada_tree.specs.PlainProgram.{PProgram}
use Rattle.syn_event.specs.declared.numbering.EntryInfo.{EntryInfo}
use Rattle.syn_event.specs.declared.numbering.TaskInfo.{TaskInfo}
use Rattle.syn_event.specs.Numbering.{Numbering}
use Rattle.syn_event.specs.AddedNames.{task_info, with_origins}
use Rattle.syn_event.specs.NamedTasks.{NamedTasks, task_names_of, NumberedTask, numbered_task, numbers_on, tasks_of_name, numbered_tasks}
use Rattle.syn_event.specs.AllNumbers.{info_of_task, entry_of_task, entries_of_tasks, all_numbers}
use Rattle.ada_task_numbers.specs.inner.TasksWithin.{tasks_within}
use Rattle.common_lemmas.proofs.Numbers.{int_more_zero}
use Rattle.syn_event.proofs.Counts.{numbers_length}

one_step : (z : ℤ) (n : ℕ) → (z +ℤ pos 1) +ℤ pos n ≡ z +ℤ pos (suc n)
one_step z n = omega (arith, ints)

suc_more : (n : ℕ) → suc n + 1 ≡ suc (n + 1)
suc_more n = omega arith

numbers_more : (first : ℤ) (n : ℕ) → numbers_on first (n + 1) ≡ numbers_on first n ++ (first +ℤ pos n) ∷ []
numbers_more first zero = ap (λ z. z ∷ []) (sym (int_more_zero first))
numbers_more first (suc n) = ap (numbers_on first) (suc_more n) ∙ ap (λ l. first ∷ l) (numbers_more (first +ℤ pos 1) n ∙ ap (λ z. numbers_on (first +ℤ pos 1) n ++ z ∷ []) (one_step first n))

pub within_more : (x : NamedTasks) (first : ℤ) (n : ℕ) → tasks_within x first (n + 1) ≡ tasks_within x first n ++ numbered_task x (Some (first +ℤ pos n)) ∷ []
within_more x first n = ap (map (λ i. numbered_task x (Some i))) (numbers_more first n) ∙ map-append (λ (i : ℤ). numbered_task x (Some i)) (numbers_on first n) ((first +ℤ pos n) ∷ [])

pub within_length : (x : NamedTasks) (first : ℤ) (n : ℕ) → length (tasks_within x first n) ≡ n
within_length x first n = length-map (numbers_on first n) (λ (i : ℤ). numbered_task x (Some i)) ∙ numbers_length first n

module _ (names : List (List ℕ)) (types : TypeTable) where
  -- the entries of numbered tasks one behind the other
  pub entries_append : (t : ℕ) (xs ys : List NumberedTask) → entries_of_tasks names types t (xs ++ ys) ≡ entries_of_tasks names types t xs ++ entries_of_tasks names types (t + length xs) ys
  entries_append t [] ys = ap (λ k. entries_of_tasks names types k ys) (none_more t)
    where
      none_more : (k : ℕ) → k ≡ k + 0
      none_more k = omega arith
  entries_append t (x ∷ xs) ys =
      ap (λ l. map (entry_of_task names types t x) x.unit.entries ++ l) (entries_append (t + 1) xs ys)
      ∙ sym (append_assoc (map (entry_of_task names types t x) x.unit.entries) (entries_of_tasks names types (t + 1) xs) (entries_of_tasks names types (t + 1 + length xs) ys))
      ∙ ap (λ k. (map (entry_of_task names types t x) x.unit.entries ++ entries_of_tasks names types (t + 1) xs) ++ entries_of_tasks names types k ys) (one_more t (length xs))
    where
      one_more : (k m : ℕ) → k + 1 + m ≡ k + suc m
      one_more k m = omega arith

  pub entries_one : (t : ℕ) (x : NumberedTask) → entries_of_tasks names types t (x ∷ []) ≡ map (entry_of_task names types t x) x.unit.entries
  entries_one t x = append-nil (map (entry_of_task names types t x) x.unit.entries)

  -- one step: some tasks and their entries behind those before
  pub tasks_on : (start before after : List TaskInfo) (xs ys : List NumberedTask) → before ≡ start ++ map (info_of_task names) xs → after ≡ before ++ map (info_of_task names) ys → after ≡ start ++ map (info_of_task names) (xs ++ ys)
  tasks_on start before after xs ys told here =
      here ∙ ap (λ l. l ++ map (info_of_task names) ys) told ∙ append_assoc start (map (info_of_task names) xs) (map (info_of_task names) ys) ∙ ap (λ l. start ++ l) (sym (map-append (info_of_task names) xs ys))

  pub entries_on : (start before after : List EntryInfo) (t count : ℕ) (xs ys : List NumberedTask) → before ≡ start ++ entries_of_tasks names types t xs → count ≡ t + length xs → after ≡ before ++ entries_of_tasks names types count ys
      → after ≡ start ++ entries_of_tasks names types t (xs ++ ys)
  entries_on start before after t count xs ys told is_count here =
      here
      ∙ ap (λ k. before ++ entries_of_tasks names types k ys) is_count
      ∙ ap (λ l. l ++ entries_of_tasks names types (t + length xs) ys) told
      ∙ append_assoc start (entries_of_tasks names types t xs) (entries_of_tasks names types (t + length xs) ys)
      ∙ ap (λ l. start ++ l) (sym (entries_append t xs ys))

  count_on : (start before : List TaskInfo) (xs : List NumberedTask) → before ≡ start ++ map (info_of_task names) xs → length before ≡ length start + length xs
  count_on start before xs told = ap length told ∙ length-append start (map (info_of_task names) xs) ∙ ap (λ k. length start + k) (length-map xs (info_of_task names))

  -- a member more
  pub member_tasks : (x : NamedTasks) (first : ℤ) (n : ℕ) (z : Option ℤ) (start before after : List TaskInfo) → z ≡ Some (first +ℤ pos n) → before ≡ start ++ map (info_of_task names) (tasks_within x first n) → after ≡ before ++ info_of_task names (numbered_task x z) ∷ []
      → after ≡ start ++ map (info_of_task names) (tasks_within x first (n + 1))
  member_tasks x first n z start before after at told here =
      tasks_on start before after (tasks_within x first n) (numbered_task x (Some (first +ℤ pos n)) ∷ []) told (here ∙ ap (λ (y : Option ℤ). before ++ info_of_task names (numbered_task x y) ∷ []) at) ∙ ap (λ l. start ++ map (info_of_task names) l) (sym (within_more x first n))

  pub member_entries : (x : NamedTasks) (first : ℤ) (n : ℕ) (z : Option ℤ) (tasks now : List TaskInfo) (start before after : List EntryInfo) → z ≡ Some (first +ℤ pos n) → now ≡ tasks ++ map (info_of_task names) (tasks_within x first n)
      → before ≡ start ++ entries_of_tasks names types (length tasks) (tasks_within x first n)
      → after ≡ before ++ map (entry_of_task names types (length now) (numbered_task x z)) x.unit.entries
      → after ≡ start ++ entries_of_tasks names types (length tasks) (tasks_within x first (n + 1))
  member_entries x first n z tasks now start before after at numbered told here =
      entries_on start before after (length tasks) (length now) (tasks_within x first n) (numbered_task x (Some (first +ℤ pos n)) ∷ []) told (count_on tasks now (tasks_within x first n) numbered)
      (here ∙ ap (λ (y : Option ℤ). before ++ map (entry_of_task names types (length now) (numbered_task x y)) x.unit.entries) at ∙ ap (λ l. before ++ l) (sym (entries_one (length now) (numbered_task x (Some (first +ℤ pos n))))))
      ∙ ap (λ l. start ++ entries_of_tasks names types (length tasks) l) (sym (within_more x first n))

  -- the tasks of a name more
  tasks_grown : {A : Type 0} (see : A → NamedTasks) (xs : List A) (i : ℕ) (x d : A) → i < length xs → x ≡ get_or xs i d → flat_map (tasks_of_name types) (map see (take (i + 1) xs)) ≡ flat_map (tasks_of_name types) (map see (take i xs)) ++ tasks_of_name types (see x)
  tasks_grown see xs i x d h is_x =
      ap (flat_map (tasks_of_name types)) (map_more see xs i d h)
      ∙ flat_map-append (tasks_of_name types) (map see (take i xs)) (see (get_or xs i d) ∷ [])
      ∙ ap (λ (y : NamedTasks). flat_map (tasks_of_name types) (map see (take i xs)) ++ (tasks_of_name types y ++ [])) (ap see (sym is_x))
      ∙ ap (λ l. flat_map (tasks_of_name types) (map see (take i xs)) ++ l) (append-nil (tasks_of_name types (see x)))

  pub part_tasks : {A : Type 0} (see : A → NamedTasks) (xs : List A) (i : ℕ) (x d : A) (start before after : List TaskInfo) → i < length xs → x ≡ get_or xs i d
      → before ≡ start ++ map (info_of_task names) (flat_map (tasks_of_name types) (map see (take i xs)))
      → after ≡ before ++ map (info_of_task names) (tasks_of_name types (see x))
      → after ≡ start ++ map (info_of_task names) (flat_map (tasks_of_name types) (map see (take (i + 1) xs)))
  part_tasks see xs i x d start before after h is_x told here =
      tasks_on start before after (flat_map (tasks_of_name types) (map see (take i xs))) (tasks_of_name types (see x)) told here
      ∙ ap (λ l. start ++ map (info_of_task names) l) (sym (tasks_grown see xs i x d h is_x))

  pub part_entries : {A : Type 0} (see : A → NamedTasks) (xs : List A) (i : ℕ) (x d : A) (tasks now : List TaskInfo) (before after : List EntryInfo) → i < length xs → x ≡ get_or xs i d
      → now ≡ tasks ++ map (info_of_task names) (flat_map (tasks_of_name types) (map see (take i xs)))
      → before ≡ entries_of_tasks names types (length tasks) (flat_map (tasks_of_name types) (map see (take i xs)))
      → after ≡ before ++ entries_of_tasks names types (length now) (tasks_of_name types (see x))
      → after ≡ entries_of_tasks names types (length tasks) (flat_map (tasks_of_name types) (map see (take (i + 1) xs)))
  part_entries see xs i x d tasks now before after h is_x numbered told here =
      entries_on [] before after (length tasks) (length now) (flat_map (tasks_of_name types) (map see (take i xs))) (tasks_of_name types (see x)) told (count_on tasks now (flat_map (tasks_of_name types) (map see (take i xs))) numbered) here
      ∙ ap (entries_of_tasks names types (length tasks)) (sym (tasks_grown see xs i x d h is_x))

-- all numbers of a program
pub all_is : (types : TypeTable) (p : PProgram) (parts : List NamedTasks) (tasks : List TaskInfo) (raw entries : List EntryInfo) → parts ≡ task_names_of p
    → tasks ≡ task_info p.names p.name.name ∷ map (info_of_task p.names) (flat_map (tasks_of_name types) parts)
    → raw ≡ entries_of_tasks p.names types 1 (flat_map (tasks_of_name types) parts)
    → entries ≡ with_origins p.names raw
    → record { main = p.name.name; tasks = tasks; entries = entries } ≡ all_numbers types p
all_is types p parts tasks raw entries same is_tasks is_raw is_entries =
    let made : List TaskInfo → List EntryInfo → Numbering = λ ts es. record { main = p.name.name; tasks = ts; entries = es } in
    ap (λ ts. made ts entries) (is_tasks ∙ ap (λ (l : List NamedTasks). task_info p.names p.name.name ∷ map (info_of_task p.names) (flat_map (tasks_of_name types) l)) same)
    ∙ ap (made (task_info p.names p.name.name ∷ map (info_of_task p.names) (numbered_tasks types p))) (is_entries ∙ ap (with_origins p.names) (is_raw ∙ ap (λ (l : List NamedTasks). entries_of_tasks p.names types 1 (flat_map (tasks_of_name types) l)) same))
