-- The laws of the types and numbers of a replay text.
use Rattle.std.specs.Prelude.{◌≡◌, ℕ, Bool, true, List, []}
use Rattle.event_machine.specs.declared.Event.{Event}
use Rattle.ada_tree.specs.TypeTable.{TypeTable}
use Rattle.ada_tree.specs.PlainExpr.{PDrange}
use Rattle.ada_tree.specs.PlainProgram.{PProgram}
use Rattle.ada_tree.specs.Every.{EveryDrange}
use Rattle.ada_static_rules.specs.Refusals.{types_in}
use Rattle.syn_event.specs.Numbering.{Numbering}
use Rattle.syn_event.specs.Extents.{extent}
use Rattle.syn_event.specs.AllNumbers.{all_numbers}
use Rattle.normal_model.specs.NormalTree.{first_decls}
use Rattle.replay_model.specs.ReplayTree.{replay_tree}
use Rattle.replay_model.specs.ReplayNumbers.{replay_numbers}
use Rattle.task_laws.specs.legal.rewritten_types.Agreement.{Rooted, Agrees}
use Rattle.task_laws.specs.legal.rewritten_types.Laws.{behind}
use Rattle.task_laws.specs.legal.rewritten_values.Values.{old_names}
use Rattle.normal_laws.specs.structure.types.Own.{own_name}
use Rattle.normal_laws.specs.structure.types.Laws.{IsOrdered, AreOwn}
use Rattle.normal_laws.specs.structure.numbers.Laws.{NoneIsDed}
use Rattle.normal_laws.specs.existence.Laws.{IsLegalOriginal}

-- ---- types

-- The tables of a program and of its replay text keep that of the first declarations.
abbrev pub ReplayIsRooted : Type 0
ReplayIsRooted =
    (p : PProgram) (types : TypeTable) (numbers : Numbering) (events : List Event) → IsOrdered p → AreOwn p p.decls →
    Rooted (own_name p) (behind p.name (first_decls [] p.decls)).types (types_in p) (types_in (replay_tree p types numbers events))

-- They agree on the program's own names.
abbrev pub ReplayAgrees : Type 0
ReplayAgrees =
    (p : PProgram) (types : TypeTable) (numbers : Numbering) (events : List Event) → IsOrdered p → AreOwn p p.decls →
    Agrees (own_name p) (types_in p) (types_in (replay_tree p types numbers events))

-- A range in which all names are old has the same first and last value by tables that agree on old names, and static bounds in both or in none.
abbrev pub ExtentsAlike : Type 0
ExtentsAlike = (old : ℕ → Bool) (T U : TypeTable) → Agrees old T U → (r : PDrange) (k : ℕ) → EveryDrange (old_names old) k r → extent T r ≡ extent U r

-- ---- numbers

-- The replay text of a program that meets the static rules and declares own names has the numbers of the definition.
abbrev pub ReplayNumbered : Type 0
ReplayNumbered =
    (p : PProgram) (events : List Event) → IsOrdered p → own_name p p.name.name.0 ≡ true → AreOwn p p.decls → NoneIsDed p →
    all_numbers (types_in (replay_tree p (types_in p) (all_numbers (types_in p) p) events)) (replay_tree p (types_in p) (all_numbers (types_in p) p) events)
    ≡ replay_numbers p (types_in p) (all_numbers (types_in p) p)

-- Each legal original is as these laws ask.
pub record IsAsked (p : PProgram) : Type 0 where
  pub ordered : IsOrdered p
  pub name : own_name p p.name.name.0 ≡ true
  pub own : AreOwn p p.decls
  pub apart : NoneIsDed p

abbrev pub LegalIsAsked : Type 0
LegalIsAsked = (p : PProgram) → IsLegalOriginal p → IsAsked p
