-- The entries of a normal form are numbered task by task.
use Rattle.std.proofs.Common.{◌≡◌, ℕ, suc, ◌+◌, List, [], ◌∷◌, ◌++◌, length, map, slice_get, Some, refl, sym, ap, ap₂, ◌∙◌, subst, arith}
use Rattle.std.proofs.lemmas.List.{map-append, length-map}
use Rattle.ada_tree.specs.TypeTable.{TypeTable}
use Rattle.ada_tree.specs.PlainDecl.{PTask}
use Rattle.ada_static_rules.specs.Refusals.{types_in}
use Rattle.syn_event.specs.declared.numbering.EntryInfo.{EntryInfo}
use Rattle.syn_event.specs.Numbering.{Numbering}
use Rattle.syn_event.specs.AddedNames.{task_info, with_origin}
use Rattle.syn_event.specs.NamedTasks.{NumberedTask, numbered_tasks}
use Rattle.syn_event.specs.AllNumbers.{entry_of_task, entries_of_tasks, all_numbers}
use Rattle.syn_event.specs.DeclaredTasks.{tasks_of}
use Rattle.normal_model.specs.NormalTree.{normal_tree}
use Rattle.replay_model.specs.ReplayTree.{last_task, normal_setting}
use Rattle.replay_model.specs.ReplayNumbers.{own_entries}
use Rattle.normal_laws.specs.structure.types.Laws.{setting_of}
use Rattle.replay_structure.proofs.texts.Owned.{told, all_told, own-at}
use Rattle.normal_laws.proofs.structure.numbers.Tasked.{under, normal-tasks-of}
use Rattle.replay_structure.specs.spots.Places.{entries_from}
use Rattle.replay_structure.specs.spots.Laws.{NormalIsInOrder}

-- tasks whose own entries are those of their numbered tasks have all entries, one task after the other
from-own :
    (names : List (List ℕ)) (types : TypeTable) (all : List EntryInfo) (numbers : Numbering) (ys : List NumberedTask) (t : ℕ) →
    ((k : ℕ) (y : NumberedTask) → slice_get ys k ≡ Some y → own_entries numbers (t + k) ≡ told names types all (t + k) y y.unit.entries) →
    entries_from numbers (length ys) t ≡ all_told names types all t ys
from-own names types all numbers [] t own = refl
from-own names types all numbers (y ∷ ys) t own =
    ap₂ (λ (a b : List EntryInfo). a ++ b)
    (subst (λ v. own_entries numbers v ≡ told names types all v y y.unit.entries) (none-more t) (own 0 y refl))
    (from-own names types all numbers ys (t + 1) (λ k z at. subst (λ v. own_entries numbers v ≡ told names types all v z z.unit.entries) (one-more t k) (own (suc k) z at)))
    ∙ sym (map-append (with_origin names all) (map (entry_of_task names types t y) y.unit.entries) (entries_of_tasks names types (t + 1) ys))
  where
    none-more : (t : ℕ) → t + 0 ≡ t
    none-more t = omega arith

    one-more : (t k : ℕ) → t + suc k ≡ (t + 1) + k
    one-more t k = omega arith

pub normal_is_in_order : NormalIsInOrder
normal_is_in_order p ordered = record {
  order =
      let types = types_in p in
      let numbers = all_numbers types p in
      let form = (normal_setting p types numbers).numbers in
      let normal = normal_tree p types numbers in
      let ys = numbered_tasks types p in
      let all = entries_of_tasks p.names types 1 ys in
      let last : last_task form ≡ length ys =
      length-map (tasks_of normal) (λ (t : PTask). task_info normal.names t.name.name) ∙ ap length (normal-tasks-of p types ordered) ∙ length-map ys (under (setting_of p types numbers)) in
      ap (λ n. entries_from form n 1) last
      ∙ from-own p.names types all form ys 1 (λ k y at. own-at p.names types all ys k (1 + k) 1 y refl at);
}
