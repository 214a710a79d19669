-- The laws: what the law of normal forms asks of the names, tasks and accepts of a program, of each legal program.
use Rattle.std.specs.Prelude.{◌≡◌, ℕ, ℤ, ◌<◌, ◌≤◌, ◌^◌, int_le, true, false, List, length, None}
use Rattle.std.specs.List.{AllByRecursion}
use Rattle.ada_tree.specs.NameList.{AreNames}
use Rattle.ada_tree.specs.TypeTable.{TypeTable}
use Rattle.ada_tree.specs.PlainProgram.{PProgram}
use Rattle.ada_tree.specs.WellPlaced.{IsWellPlaced, HasTokens}
use Rattle.ada_static_rules.specs.StaticValue.{value_named}
use Rattle.ada_static_rules.specs.Demand.{Demand, declares}
use Rattle.ada_static_rules.specs.Sites.{sites}
use Rattle.ada_static_rules.specs.Refusals.{types_in}
use Rattle.syn_event.specs.declared.numbering.Mode.TheVariants.{Original}
use Rattle.syn_event.specs.Numbering.{Numbering}
use Rattle.syn_event.specs.Legal.{Legal}
use Rattle.task_model.specs.Starting.{unit_of}
use Rattle.task_laws.specs.invariants.AcceptHeads.{InBody}
use Rattle.task_laws.specs.invariants.Worlds.{Conforms, IsWellMade}
use Rattle.normal_laws.specs.structure.types.Laws.{IsOrdered, AreOwn}
use Rattle.normal_laws.specs.runs.runs.Premises.{programs_of, objects_before}
use Rattle.task_laws.specs.legal.types.Typed.{IsSmall}
use Rattle.normal_laws.specs.existence.units.Weights.{IsLight}
use Rattle.normal_laws.specs.runs.forms.Normalisable.{numbers_of, setting_for, variables_of, normal_rewrite, NamesTell, IsPlain}

-- A legal program that is well placed, as each one that is read, meets the rules on types with bodies last.
abbrev pub LegalIsOrdered : Type 0
LegalIsOrdered = (p : PProgram) (types : TypeTable) (numbers : Numbering) → Legal p types numbers Original → IsWellPlaced p → IsOrdered p

-- Its names, numbers and strings are such as the source can hold.
abbrev pub LegalHasTokens : Type 0
LegalHasTokens = (p : PProgram) → IsWellPlaced p → HasTokens p

-- Tasks of one name in its normal form run one body, where no text of a name has two ids.
abbrev pub LegalNamesTell : Type 0
LegalNamesTell = (p : PProgram) (types : TypeTable) (numbers : Numbering) → Legal p types numbers Original → IsWellPlaced p → AreNames p.names → NamesTell (setting_for p)

-- Each accept in the body of each task conforms to its entry.
abbrev pub LegalConforms : Type 0
LegalConforms = (p : PProgram) (types : TypeTable) (numbers : Numbering) → Legal p types numbers Original → IsWellPlaced p → (t : ℕ) → InBody (Conforms (setting_for p) t) (unit_of p (numbers_of p) t).body

-- None of its types and subtypes is empty.
abbrev pub LegalTypesAreFull : Type 0
LegalTypesAreFull = (p : PProgram) (types : TypeTable) (numbers : Numbering) → Legal p types numbers Original → IsWellPlaced p → AllByRecursion (λ m. int_le m.first m.last ≡ true) (types_in p).marks

-- a name that is declared there, and not for all of main, is that of no constant and of no literal
abbrev pub IsFreeLocal : TypeTable → Demand → Type 0
IsFreeLocal T (declares false w) = value_named T w.name ≡ None
IsFreeLocal T _ = Unit {0}

-- What is declared as a variable of main, or in an inner scope, has the name of no constant and of no literal.
abbrev pub LocalsAreFree : Type 0
LocalsAreFree = (p : PProgram) (types : TypeTable) (numbers : Numbering) → Legal p types numbers Original → AllByRecursion (λ x. IsFreeLocal (types_in p) x.demand) (sites p)

-- The names in its declarations are its own, where its enumerations are small.
abbrev pub LegalIsOwn : Type 0
LegalIsOwn = (p : PProgram) (types : TypeTable) (numbers : Numbering) → Legal p types numbers Original → IsWellPlaced p → AreNames p.names → IsSmall (types_in p) → AreOwn p p.decls

-- Its objects are plain, where its enumerations are small.
abbrev pub LegalIsPlain : Type 0
LegalIsPlain =
    (p : PProgram) (types : TypeTable) (numbers : Numbering) → Legal p types numbers Original → IsWellPlaced p → AreNames p.names → IsSmall (types_in p) → (inputs : List (List ℤ)) (t : ℕ) →
    AllByRecursion (IsPlain (programs_of (normal_rewrite p inputs))) (objects_before (normal_rewrite p inputs) t)

-- A unit of a program with light bodies gets few variables.
abbrev pub LightHasFew : Type 0
LightHasFew = (p : PProgram) → IsLight p → (t : ℕ) → length (variables_of p t) < 2 ^ 64

-- It is well made, where its enumerations are small: accepts conform to their entries, and no formal has an empty subtype.
abbrev pub LegalIsWell : Type 0
LegalIsWell = (p : PProgram) (types : TypeTable) (numbers : Numbering) → Legal p types numbers Original → IsWellPlaced p → IsSmall (types_in p) → IsWellMade (setting_for p)

-- Its enumerations are small, where it has at most 2^31 names.
abbrev pub FewNamesSmall : Type 0
FewNamesSmall = (p : PProgram) (types : TypeTable) (numbers : Numbering) → Legal p types numbers Original → IsWellPlaced p → length p.names ≤ 2 ^ 31 → IsSmall (types_in p)
