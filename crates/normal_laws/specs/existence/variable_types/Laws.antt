-- The laws of the subtypes of the variables that the normal form of a legal program adds: they are the fields on types of what the law of normal forms asks.
use Rattle.std.specs.Prelude.{◌≡◌, ℕ, ℤ, true, List}
use Rattle.std.specs.List.{AllByRecursion}
use Rattle.ada_tree.specs.declared.naming.Span.{Span}
use Rattle.ada_tree.specs.TypeTable.{TypeTable}
use Rattle.ada_tree.specs.NameList.{AreNames}
use Rattle.ada_tree.specs.PlainProgram.{PProgram}
use Rattle.ada_tree.specs.Every.{EveryProgram}
use Rattle.ada_tree.specs.WellPlaced.{IsWellPlaced}
use Rattle.ada_static_rules.specs.Refusals.{types_in}
use Rattle.syn_event.specs.declared.numbering.Mode.{Mode}
use Rattle.syn_event.specs.Numbering.{Numbering, entry_at}
use Rattle.syn_event.specs.Legal.{Legal}
use Rattle.ada_value.specs.Values.{integer_limits, truth_limits}
use Rattle.task_model.specs.Setting.{is_family, family_limits, formals_of_info}
use Rattle.normal_model.specs.Ranges.{integer_subtype, truth_subtype, subtype_of_range, family_range}
use Rattle.task_laws.specs.legal.rewritten_values.Values.{old_names}
use Rattle.normal_laws.specs.structure.types.Own.{own_name}
use Rattle.normal_laws.specs.runs.floors.Suited.{SameRange, declared_limits, AreMarked}
use Rattle.normal_laws.specs.runs.runs.Premises.{programs_of}
use Rattle.normal_laws.specs.runs.forms.Choosing.{choosing}
use Rattle.normal_laws.specs.runs.forms.Normalisable.{numbers_of, setting_for, made_for, variables_of, normal_rewrite, IsScalar}
use Rattle.task_laws.specs.legal.types.Typed.{IsSmall}
use Rattle.task_laws.specs.legal.literals.Colours.{coloured}
use Rattle.normal_laws.specs.existence.variable_types.Ready.{IsReady}

-- A legal program is so, where it is well placed, has the names of every program and small enumerations, and the names in it are its own.
abbrev pub LegalIsReady : Type 0
LegalIsReady =
    (p : PProgram) (types : TypeTable) (numbers : Numbering) (mode : Mode) → Legal p types numbers mode → IsWellPlaced p → AreNames p.names → IsSmall (types_in p) → EveryProgram (old_names (own_name p)) p → IsReady p

-- The marks of formals are the program's own, and a variable of a formal's mark has the formal's subtype.
abbrev pub MarksAgree : Type 0
MarksAgree = (p : PProgram) (inputs : List (List ℤ)) → IsReady p → (e : ℕ) → AreMarked (programs_of (normal_rewrite p inputs)) (formals_of_info (setting_for p) (entry_at (numbers_of p) e))

-- The variable of a family's index has the family's range.
abbrev pub FamiliesAgree : Type 0
FamiliesAgree =
    (p : PProgram) (inputs : List (List ℤ)) → IsReady p → (e : ℕ) → is_family (numbers_of p) e ≡ true → (s : Span) →
    SameRange (family_limits (entry_at (numbers_of p) e)) (declared_limits (types_in (made_for p)) (subtype_of_range (types_in p) s (family_range (setting_for p) e)))

-- A variable of BOOLEAN has all truth values, and one of INTEGER all numbers, in every program.
abbrev pub TruthsAgree : Type 0
TruthsAgree = (p : PProgram) (s : Span) → SameRange truth_limits (declared_limits (types_in (made_for p)) (truth_subtype s))

abbrev pub IntegersAgree : Type 0
IntegersAgree = (p : PProgram) (s : Span) → SameRange integer_limits (declared_limits (types_in (made_for p)) (integer_subtype s))

-- Each variable that is added is scalar.
abbrev pub VariablesAreScalar : Type 0
VariablesAreScalar = (p : PProgram) → IsReady p → (t : ℕ) → AllByRecursion (IsScalar (types_in (made_for p))) (variables_of p t)

-- Two programs are ready: one in which a variable chooses a member of an array of tasks, and one with an array of tasks whose index is an enumeration.
abbrev pub IsMet : Type 0
IsMet = IsReady choosing × IsReady coloured
