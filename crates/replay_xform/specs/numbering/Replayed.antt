-- The numbers of a replay text, by ids that are looked up once.
use Rattle.std.specs.Prelude.{ℕ, zero, suc, ◌+◌, ◌==◌, pos, true, false, pred, List, [], ◌∷◌, ◌++◌, length, map, None}
use Rattle.std.specs.List.{filter}
use Rattle.ada_tree.specs.declared.naming.NameId.{NameId}
use Rattle.syn_event.specs.declared.numbering.EntryInfo.{EntryInfo}
use Rattle.syn_event.specs.Numbering.{Numbering}
use Rattle.syn_event.specs.AddedNames.{task_info, with_origins}
use Rattle.replay_asking.specs.declared.names.added_names.AddedNames.{AddedNames}
use Rattle.replay_asking.specs.Voice.{Voice}

-- ---- entries

abbrev pub plain_info : NameId → ℕ → EntryInfo
plain_info name owner = record { name = name; owner = owner; family = false; first = pos 0; last = pos 0; added = true; stands_for = None }

abbrev pub family_info : NameId → ℕ → ℕ → EntryInfo
family_info name owner n = record { name = name; owner = owner; family = true; first = pos 0; last = pos n; added = true; stands_for = None }

abbrev pub double_info : Voice → EntryInfo → EntryInfo
double_info v x = record { name = v.double x.name; owner = x.owner; family = x.family; first = x.first; last = x.last; added = true; stands_for = None }

-- the entries of a task in the replay text, by those that it has
abbrev pub infos_of : Voice → ℕ → List EntryInfo → List EntryInfo
infos_of v t own = own ++ map (double_info v) own ++ plain_info v.added.never t ∷ plain_info v.added.join t ∷ []

-- those of tasks from t on
abbrev pub infos_from : Voice → ℕ → List (List EntryInfo) → List EntryInfo
infos_from v t [] = []
infos_from v t (own ∷ rest) = infos_of v t own ++ infos_from v (t + 1) rest

-- the entries of n tasks from t on, task by task
abbrev pub lists_from : List EntryInfo → ℕ → ℕ → List (List EntryInfo)
lists_from entries zero t = []
lists_from entries (suc n) t = filter (λ x. x.owner == t) entries ∷ lists_from entries n (t + 1)

-- those of the controller and of the idle task, behind n tasks
abbrev pub added_infos : AddedNames → ℕ → List EntryInfo
added_infos a n =
    family_info a.go (n + 1) n ∷ family_info a.done (n + 1) n ∷ plain_info a.hold (n + 1)
    ∷ plain_info a.stop (n + 2) ∷ plain_info a.rest (n + 2) ∷ []

-- all entries, where n is the number of the last task, before it is known what they stand for
abbrev pub all_infos : Voice → ℕ → List EntryInfo
all_infos v n = infos_from v 1 (lists_from v.numbers.entries n 1) ++ added_infos v.added n

-- ---- all

-- The numbers of the replay text, whose names these are.
abbrev pub numbers_by : Voice → List (List ℕ) → Numbering
numbers_by v names = record {
  main = v.numbers.main;
  tasks = v.numbers.tasks ++ task_info names v.added.control ∷ task_info names v.added.idle ∷ [];
  entries = with_origins names (all_infos v (pred (length v.numbers.tasks)));
}
