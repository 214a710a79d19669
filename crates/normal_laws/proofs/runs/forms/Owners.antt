-- Each entry of a program is one of a task beside main.
use Rattle.std.proofs.Common.{◌≡◌, ℕ, zero, suc, ◌+◌, ◌-◌, ◌==◌, Bool, true, false, if◌then◌else◌, List, [], ◌∷◌, map, Some, None, refl, subst, slice_get, arith}
use Rattle.std.specs.List.{AllByRecursion}
use Rattle.ada_tree.specs.TypeTable.{TypeTable}
use Rattle.ada_static_rules.specs.Refusals.{types_in}
use Rattle.ada_tree.specs.PlainProgram.{PProgram}
use Rattle.syn_event.specs.declared.numbering.EntryInfo.{EntryInfo}
use Rattle.syn_event.specs.Numbering.{entry_at}
use Rattle.syn_event.specs.AddedNames.{with_origin, with_origins}
use Rattle.syn_event.specs.AllNumbers.{entry_of_task, entries_of_tasks}
use Rattle.syn_event.specs.NamedTasks.{NumberedTask, numbered_tasks}
use Rattle.normal_laws.proofs.structure.types.Variables.{all-mapped}
use Rattle.normal_laws.specs.runs.forms.Normalisable.{numbers_of}
use Rattle.common_lemmas.proofs.Lists.{all_joined}
use Rattle.common_lemmas.proofs.Options.{some_same}

-- the entry's task is one beside main
abbrev IsOwned : EntryInfo → Type 0
IsOwned info = (t : ℕ) × (info.owner ≡ suc t)

numbered-tasks-owned : (names : List (List ℕ)) (types : TypeTable) (xs : List NumberedTask) (t : ℕ) → AllByRecursion IsOwned (entries_of_tasks names types (suc t) xs)
numbered-tasks-owned names types [] t = tt
numbered-tasks-owned names types (x ∷ rest) t =
    let e : suc (t + 1) ≡ suc t + 1 = omega arith in
    all_joined IsOwned (map (entry_of_task names types (suc t) x) x.unit.entries) (entries_of_tasks names types (suc t + 1) rest)
    (all-mapped IsOwned (entry_of_task names types (suc t) x) (λ e. (t, refl)) x.unit.entries)
    (subst (λ n. AllByRecursion IsOwned (entries_of_tasks names types n rest)) e (numbered-tasks-owned names types rest (t + 1)))

origins-owned : (names : List (List ℕ)) (all xs : List EntryInfo) → AllByRecursion IsOwned xs → AllByRecursion IsOwned (map (with_origin names all) xs)
origins-owned names all [] h = tt
origins-owned names all (x ∷ xs) h = (h.0, origins-owned names all xs h.1)

got : (xs : List EntryInfo) (k : ℕ) (info : EntryInfo) → AllByRecursion IsOwned xs → slice_get xs k ≡ Some info → IsOwned info
got [] k info h e = cc
got (x ∷ xs) zero info h e = subst IsOwned (some_same e) h.0
got (x ∷ xs) (suc k) info h e = got xs k info h.1 e

pub owned : (p : PProgram) (e : ℕ) (info : EntryInfo) → entry_at (numbers_of p) e ≡ Some info → (t : ℕ) × (info.owner ≡ suc t)
owned p e info h = by_test (e == 0) h
  where
    entries : List EntryInfo
    entries = entries_of_tasks p.names (types_in p) 1 (numbered_tasks (types_in p) p)

    by_test : (z : Bool) → (if z then None else slice_get (with_origins p.names entries) (e - 1)) ≡ Some info → IsOwned info
    by_test true q = cc
    by_test false q = got (with_origins p.names entries) (e - 1) info (origins-owned p.names entries entries (numbered-tasks-owned p.names (types_in p) (numbered_tasks (types_in p) p) 0)) q
