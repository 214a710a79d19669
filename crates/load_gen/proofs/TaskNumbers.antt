-- The program has the numbers of the definition.
use Rattle.std.proofs.Common.{◌≡◌, ℕ, zero, suc, ◌+◌, ◌≤◌, false, List, [], ◌∷◌, map, flat_map, None, refl, sym, ap, ◌∙◌, arith}
use Rattle.std.specs.List.{range_with_len}
use Rattle.ada_tree.specs.TypeTable.{TypeTable}
use Rattle.syn_event.specs.AddedNames.{is_added_name, task_info, with_origins}
use Rattle.syn_event.specs.NamedTasks.{NumberedTask, tasks_of_name, numbered_tasks}
use Rattle.syn_event.specs.Numbering.{Numbering}
use Rattle.syn_event.specs.AllNumbers.{info_of_task, entries_of_tasks, all_numbers}
use Rattle.load_gen.specs.LoadTree.{producer_id, producers, put_entry, task_with, load_names, load_tree}
use Rattle.load_gen.specs.LoadNumbers.{own_task, load_numbers}
use Rattle.load_gen.proofs.Ranges.{front_false}
use Rattle.load_gen.proofs.Texts.{IsFine, producer-fine}
use Rattle.load_gen.proofs.CheckRules.{named_producer, names-of_tasks}

abbrev numbered_buffer : NumberedTask
numbered_buffer = record { name = record { 0 = 26 }; unit = task_with 26 (put_entry ∷ []); member = None }

abbrev numbered_producer : ℕ → NumberedTask
numbered_producer k = record { name = record { 0 = 29 + k }; unit = task_with (29 + k) []; member = None }

producers-numbered : (types : TypeTable) (c k : ℕ) → flat_map (tasks_of_name types) (map named_producer (range_with_len k c)) ≡ map numbered_producer (range_with_len k c)
producers-numbered types zero k = refl
producers-numbered types (suc c) k = ap (λ xs. numbered_producer k ∷ xs) (producers-numbered types c (k + 1))

tasks-numbered : (types : TypeTable) (n : ℕ) → numbered_tasks types (load_tree n) ≡ numbered_buffer ∷ map numbered_producer (producers n)
tasks-numbered types n = ap (flat_map (tasks_of_name types)) (names-of_tasks n) ∙ ap (λ xs. numbered_buffer ∷ xs) (producers-numbered types n 1)

infos : (names : List (List ℕ)) (c k : ℕ) → ((j : ℕ) → k ≤ j → j + 1 ≤ k + c → is_added_name names record { 0 = 29 + j } ≡ false) → map (info_of_task names) (map numbered_producer (range_with_len k c)) ≡ map (λ j. own_task (producer_id j)) (range_with_len k c)
infos names zero k own = refl
infos names (suc c) k own =
    let here : is_added_name names record { 0 = 29 + k } ≡ false = own k (omega arith) (omega arith) in
    let rest : map (info_of_task names) (map numbered_producer (range_with_len (k + 1) c)) ≡ map (λ j. own_task (producer_id j)) (range_with_len (k + 1) c) = infos names c (k + 1) (λ j lo hi. own j (omega arith) (omega arith)) in
    rw (here, rest) refl

no_entries : (names : List (List ℕ)) (types : TypeTable) (t c k : ℕ) → entries_of_tasks names types t (map numbered_producer (range_with_len k c)) ≡ []
no_entries names types t zero k = refl
no_entries names types t (suc c) k = no_entries names types (t + 1) c (k + 1)

-- the numbers by the tasks beside main
abbrev of_tasks : List (List ℕ) → TypeTable → List NumberedTask → Numbering
of_tasks names types xs = record {
  main = record { 0 = 25 };
  tasks = task_info names record { 0 = 25 } ∷ map (info_of_task names) xs;
  entries = with_origins names (entries_of_tasks names types 1 xs);
}

pub numbered : (types : TypeTable) (n : ℕ) → n ≤ 100 → load_numbers n ≡ all_numbers types (load_tree n)
numbered types n le =
    let is_own : (j : ℕ) → 1 ≤ j → j + 1 ≤ 1 + n → is_added_name (load_names n) record { 0 = 29 + j } ≡ false =
    λ j lo hi. let fine : IsFine (load_names n) (29 + j) = producer-fine n j le lo (omega arith) in front_false (is_added_name (load_names n) record { 0 = 29 + j }) _ fine.free in
    let tasks : map (info_of_task (load_names n)) (map numbered_producer (producers n)) ≡ map (λ j. own_task (producer_id j)) (producers n) = infos (load_names n) n 1 is_own in
    let entries : entries_of_tasks (load_names n) types 2 (map numbered_producer (producers n)) ≡ [] = no_entries (load_names n) types 2 n 1 in
    let made : of_tasks (load_names n) types (numbered_buffer ∷ map numbered_producer (producers n)) ≡ load_numbers n = rw (tasks, entries) refl in
    sym (ap (of_tasks (load_names n) types) (tasks-numbered types n) ∙ made)
