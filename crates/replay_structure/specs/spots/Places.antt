-- Where the entries of a replay text stand among each other (this project's rule): task by task those of the program, then their doubles, then the
-- one that nobody calls and the one by which a task is seen closed; behind them those of the controller and of the idle task.
use Rattle.std.specs.Prelude.{ℕ, zero, suc, ◌+◌, ◌-◌, ◌==◌, nat_lt, if◌then◌else◌, List, [], ◌∷◌, ◌++◌, length}
use Rattle.syn_event.specs.declared.numbering.EntryInfo.{EntryInfo}
use Rattle.syn_event.specs.Numbering.{Numbering}
use Rattle.task_model.specs.Setting.{Setting}
use Rattle.replay_model.specs.ReplayTree.{last_task}
use Rattle.replay_model.specs.ReplayNumbers.{own_entries}
use Rattle.run_laws.specs.replaying.Copies.{Sort, AtOriginal, AtShadow, AtGo, AtDone, AtHold, AtJoin, AtNever, AtStop, AtRest, AtNothing, Spots}

-- ---- places, from 0, where each of a list tells how many entries a task has

-- how many entries the tasks have
abbrev pub total : List ℕ → ℕ
total [] = 0
total (k ∷ ks) = k + total ks

-- how many they have in the replay text
abbrev pub end_place : List ℕ → ℕ
end_place [] = 0
end_place (k ∷ ks) = (k + k + 2) + end_place ks

-- the place of an entry, by its place in the program
abbrev pub original_place : List ℕ → ℕ → ℕ
original_place [] i = 0
original_place (k ∷ ks) i = if nat_lt i k then i else (k + k + 2) + original_place ks (i - k)

-- that of its double
abbrev pub double_place : List ℕ → ℕ → ℕ
double_place [] i = 0
double_place (k ∷ ks) i = if nat_lt i k then k + i else (k + k + 2) + double_place ks (i - k)

-- those of the two more of a task, counted from 0 without main
abbrev pub never_place : List ℕ → ℕ → ℕ
never_place [] t = 0
never_place (k ∷ ks) zero = k + k
never_place (k ∷ ks) (suc t) = (k + k + 2) + never_place ks t

abbrev pub join_place : List ℕ → ℕ → ℕ
join_place [] t = 0
join_place (k ∷ ks) zero = k + k + 1
join_place (k ∷ ks) (suc t) = (k + k + 2) + join_place ks t

-- ---- what stands at a place

-- what stands behind a task with k entries
abbrev pub behind : ℕ → Sort → Sort
behind k (AtOriginal e) = AtOriginal (k + e)
behind k (AtShadow e) = AtShadow (k + e)
behind k (AtJoin t) = AtJoin (suc t)
behind k (AtNever t) = AtNever (suc t)
behind k x = x

-- the entries of the controller and of the idle task
abbrev pub last_sort : ℕ → Sort
last_sort zero = AtGo
last_sort (suc zero) = AtDone
last_sort (suc (suc zero)) = AtHold
last_sort (suc (suc (suc zero))) = AtStop
last_sort (suc (suc (suc (suc zero)))) = AtRest
last_sort (suc (suc (suc (suc (suc n))))) = AtNothing

-- entries and tasks are counted from 0
abbrev pub sort_at : List ℕ → ℕ → Sort
sort_at [] m = last_sort m
sort_at (k ∷ ks) m =
    if nat_lt m k then AtOriginal m
    else if nat_lt m (k + k) then AtShadow (m - k)
    else if m == k + k then AtNever 0
    else if m == k + k + 1 then AtJoin 0
    else behind k (sort_at ks (m - (k + k + 2)))

-- ---- numbers

-- how many entries the replay text has
abbrev pub bound : List ℕ → ℕ
bound ks = end_place ks + 5

-- The number of what is counted from 1: it has a place among those that there are, and else a number behind all, as numbers of every text are told.
abbrev pub number_or : List ℕ → ℕ → (ℕ → ℕ) → (ℕ → ℕ) → ℕ → ℕ
number_or ks n near far zero = suc (bound ks + far zero)
number_or ks n near far (suc i) = if nat_lt i n then suc (near i) else suc (bound ks + far (suc i))

-- a number behind all is that of no entry of the program, and of no double of one, where there are n of them
abbrev pub if_far : ℕ → ℕ → Sort → Sort
if_far n zero x = x
if_far n (suc i) x = if nat_lt i n then AtNothing else x

abbrev pub behind_all : ℕ → Sort → Sort
behind_all n (AtOriginal e) = if_far n e (AtOriginal e)
behind_all n (AtShadow e) = if_far n e (AtShadow e)
behind_all n x = x

-- what has a number; 0 is none
abbrev pub sort_of : List ℕ → (ℕ → Sort) → ℕ → Sort
sort_of ks far zero = AtNothing
sort_of ks far (suc m) = if nat_lt m (bound ks) then behind 1 (sort_at ks m) else behind_all (total ks) (far (m - bound ks))

-- The numbers of the entries of a replay text, by how many entries each task beside main has in the program. `far` numbers what no text has: entry 0
-- and those behind the last, and the entries of main and of tasks behind the last.
abbrev pub spots_by : Spots → List ℕ → Spots
spots_by far ks = record {
  original = number_or ks (total ks) (original_place ks) far.original;
  shadow = number_or ks (total ks) (double_place ks) far.shadow;
  go = end_place ks + 1;
  done = end_place ks + 2;
  hold = end_place ks + 3;
  stop = end_place ks + 4;
  rest = end_place ks + 5;
  join = number_or ks (length ks) (join_place ks) far.join;
  never = number_or ks (length ks) (never_place ks) far.never;
  sort = sort_of ks far.sort;
}

-- ---- the replay text of a normal form

-- how many entries n tasks have, from the task t on
abbrev pub counts : Numbering → ℕ → ℕ → List ℕ
counts numbers zero t = []
counts numbers (suc n) t = length (own_entries numbers t) ∷ counts numbers n (t + 1)

-- the entries of n tasks from t on, one task after the other
abbrev pub entries_from : Numbering → ℕ → ℕ → List EntryInfo
entries_from numbers zero t = []
entries_from numbers (suc n) t = own_entries numbers t ++ entries_from numbers n (t + 1)

-- The numbers of the entries of the replay text of a normal form.
abbrev pub text_spots : Spots → Setting → Spots
text_spots far g = spots_by far (counts g.numbers (last_task g.numbers) 1)
