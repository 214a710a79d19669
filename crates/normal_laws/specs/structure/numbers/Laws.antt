-- The law of the numbers of a normal form.
use Rattle.std.specs.Prelude.{◌≡◌, true, is_some, codes, length}
use Rattle.std.specs.List.{AllByRecursion}
use Rattle.ada_tree.specs.declared.naming.NameId.{NameId}
use Rattle.ada_tree.specs.PlainProgram.{PProgram}
use Rattle.ada_static_rules.specs.Refusals.{types_in}
use Rattle.syn_event.specs.NamedTasks.{NamedTasks, task_names_of}
use Rattle.syn_event.specs.AllNumbers.{all_numbers}
use Rattle.syn_event.specs.DeclaredTasks.{text_of}
use Rattle.normal_model.specs.NormalTree.{normal_tree}
use Rattle.normal_laws.specs.structure.types.Laws.{IsOrdered, AreOwn}
use Rattle.normal_laws.specs.structure.units.Laws.{numbers_made}

-- the name is not DED
abbrev pub IsNotDed : PProgram → NameId → Type 0
IsNotDed p id = text_of p.names id ≡ codes "DED" → ⊥

-- No array of tasks is named DED: the names of its members would begin with DED_, so that they counted as added (this project's rule).
abbrev pub NoneIsDed : PProgram → Type 0
NoneIsDed p = AllByRecursion (λ (x : NamedTasks). is_some x.index_range ≡ true → IsNotDed p x.name.name) (task_names_of p)

-- The numbers that the normal form of a program has, as any program, are those that its definition tells, where it is made from the program's own
-- types and numbers, and the program meets the static rules and declares own names (this project's rule).
abbrev pub NormalHasNumbers : Type 0
NormalHasNumbers =
    (p : PProgram) → IsOrdered p → AreOwn p p.decls → NoneIsDed p →
    all_numbers (types_in (normal_tree p (types_in p) (all_numbers (types_in p) p))) (normal_tree p (types_in p) (all_numbers (types_in p) p))
    ≡ numbers_made p (types_in p) (all_numbers (types_in p) p)

-- A program with an array of two tasks is so.
abbrev pub IsMet : Type 0
IsMet = (p : PProgram) × IsOrdered p × AreOwn p p.decls × NoneIsDed p × (length (all_numbers (types_in p) p).tasks ≡ 3)
