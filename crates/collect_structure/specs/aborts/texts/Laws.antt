-- The laws of the types and numbers of a collecting text of a program with abort statements. They are so of each program, whether abort statements stand in it or not.
use Rattle.std.specs.Prelude.{◌≡◌, true, []}
use Rattle.ada_tree.specs.TypeTable.{TypeTable}
use Rattle.ada_tree.specs.PlainProgram.{PProgram}
use Rattle.ada_static_rules.specs.Refusals.{types_in}
use Rattle.syn_event.specs.Numbering.{Numbering}
use Rattle.syn_event.specs.AllNumbers.{all_numbers}
use Rattle.normal_model.specs.NormalTree.{first_decls}
use Rattle.task_laws.specs.legal.rewritten_types.Agreement.{Rooted, Agrees}
use Rattle.task_laws.specs.legal.rewritten_types.Laws.{behind}
use Rattle.normal_laws.specs.structure.types.Own.{own_name}
use Rattle.normal_laws.specs.structure.types.Laws.{IsOrdered, AreOwn}
use Rattle.normal_laws.specs.structure.numbers.Laws.{NoneIsDed}
use Rattle.collect_model.specs.aborts.AbortTree.{abort_tree}
use Rattle.collect_model.specs.aborts.AbortNumbers.{abort_numbers}

-- The tables of a program and of its text keep that of the first declarations.
abbrev pub AbortIsRooted : Type 0
AbortIsRooted =
    (p : PProgram) (types : TypeTable) (numbers : Numbering) → IsOrdered p → AreOwn p p.decls →
    Rooted (own_name p) (behind p.name (first_decls [] p.decls)).types (types_in p) (types_in (abort_tree p types numbers))

-- They agree on the program's own names.
abbrev pub AbortAgrees : Type 0
AbortAgrees = (p : PProgram) (types : TypeTable) (numbers : Numbering) → IsOrdered p → AreOwn p p.decls → Agrees (own_name p) (types_in p) (types_in (abort_tree p types numbers))

-- The text of a program that meets the static rules and declares own names has the numbers of the definition.
abbrev pub AbortNumbered : Type 0
AbortNumbered =
    (p : PProgram) → IsOrdered p → own_name p p.name.name.0 ≡ true → AreOwn p p.decls → NoneIsDed p →
    all_numbers (types_in (abort_tree p (types_in p) (all_numbers (types_in p) p))) (abort_tree p (types_in p) (all_numbers (types_in p) p))
    ≡ abort_numbers p (types_in p) (all_numbers (types_in p) p)
