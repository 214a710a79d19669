-- The laws of the types, values and objects of a normal form.
use Rattle.std.specs.Prelude.{◌≡◌, ℕ, Bool, true, false, List, [], ◌∷◌, Some, None, Ok}
use Rattle.ada_tree.specs.declared.naming.Span.{Span}
use Rattle.ada_tree.specs.declared.naming.Word.{Word}
use Rattle.ada_tree.specs.declared.static_types.Mark.{Mark}
use Rattle.ada_tree.specs.TypeTable.{TypeTable}
use Rattle.ada_tree.specs.PlainExpr.{PDrange, RGiven, RMarked}
use Rattle.ada_tree.specs.PlainDecl.{OPlain, PDecl, PDecls, decls_of}
use Rattle.ada_tree.specs.PlainProgram.{PProgram}
use Rattle.ada_tree.specs.Every.{EverySubind, EveryDecls}
use Rattle.ada_tree.specs.WellPlaced.{BodiesLast, HasTokens}
use Rattle.ada_static_rules.specs.StaticValue.{mark_named}
use Rattle.ada_static_rules.specs.Declaring.{first_scope}
use Rattle.ada_static_rules.specs.Refusals.{MeetsTypeRules, types_in}
use Rattle.syn_event.specs.Numbering.{Numbering}
use Rattle.ada_value.specs.declared.values.Limits.{Limits}
use Rattle.ada_value.specs.Values.{lower_bound, limits_named}
use Rattle.ada_value.specs.Variables.{Variables}
use Rattle.ada_value.specs.Evaluating.{range_of}
use Rattle.task_model.specs.Setting.{Setting}
use Rattle.task_model.specs.Starting.{form_of, after_declaration, objects_of}
use Rattle.normal_model.specs.Names.{variable_name}
use Rattle.normal_model.specs.Ranges.{marked, range_subtype}
use Rattle.normal_model.specs.Variables.{variable_declared}
use Rattle.normal_model.specs.NormalTree.{decls_front, first_decls, main_variables, normal_tree}
use Rattle.task_laws.specs.legal.rewritten_types.Agreement.{Rooted, Agrees}
use Rattle.task_laws.specs.legal.rewritten_types.Rewriting.{Front}
use Rattle.task_laws.specs.legal.rewritten_types.Laws.{behind}
use Rattle.task_laws.specs.legal.rewritten_values.Values.{AgreeOnValues, is_known, old_names}
use Rattle.normal_laws.specs.structure.types.Own.{own_name}

-- The program meets the static rules, and behind the first body no types and objects stand (3.9).
pub record IsOrdered (p : PProgram) : Type 0 where
  pub rules : MeetsTypeRules p
  pub last : BodiesLast p.decls

-- what a program and its normal form are, with types and numbers from which the form is made
abbrev pub setting_of : PProgram → TypeTable → Numbering → Setting
setting_of p types numbers = record { program = p; types = types; numbers = numbers }

-- No variable that the normal form adds has a name of the program's own.
abbrev pub AddedNamesAreNew : Type 0
AddedNamesAreNew = (g : Setting) (k : ℕ) → own_name g.program (variable_name g k).0 ≡ false

-- The first declarations of the normal form are such as may stay: nothing is left out but tasks, objects of task types and bodies.
abbrev pub FirstDeclsAreFront : Type 0
FirstDeclsAreFront = (p : PProgram) → IsOrdered p → Front (first_scope p.name) p.decls (first_decls [] p.decls)

-- The tables of a program and of its normal form keep that of the first declarations.
abbrev pub NormalIsRooted : Type 0
NormalIsRooted =
    (p : PProgram) (types : TypeTable) (numbers : Numbering) → IsOrdered p →
    Rooted (own_name p) (behind p.name (first_decls [] p.decls)).types (types_in p) (types_in (normal_tree p types numbers))

-- They agree on the program's own names.
abbrev pub NormalAgrees : Type 0
NormalAgrees = (p : PProgram) (types : TypeTable) (numbers : Numbering) → IsOrdered p → Agrees (own_name p) (types_in p) (types_in (normal_tree p types numbers))

-- They say the same of these names and of values.
abbrev pub NormalValues : Type 0
NormalValues =
    (p : PProgram) (types : TypeTable) (numbers : Numbering) → IsOrdered p → HasTokens p →
    AgreeOnValues (own_name p) (types_in p) (types_in (normal_tree p types numbers)) p.names (normal_tree p types numbers).names

-- each name in the declarations is the program's own
abbrev pub AreOwn : PProgram → PDecls → Type 0
AreOwn p ds = EveryDecls (old_names (own_name p)) ds

-- The objects of main at the start are those of the program, and in front of them the variables that the normal form adds.
abbrev pub MainObjects : Type 0
MainObjects =
    (p : PProgram) (types : TypeTable) (numbers : Numbering) → IsOrdered p → AreOwn p p.decls →
    objects_of (types_in (normal_tree p types numbers)) true (normal_tree p types numbers).decls []
    ≡ objects_of (types_in (normal_tree p types numbers)) true (decls_of (main_variables (setting_of p types numbers))) (objects_of (types_in p) true p.decls [])

-- So it is with the objects of a body.
abbrev pub BodyObjects : Type 0
BodyObjects =
    (p : PProgram) (types : TypeTable) (numbers : Numbering) → IsOrdered p → (objects : PDecls) (vars : List PDecl) → AreOwn p objects →
    objects_of (types_in (normal_tree p types numbers)) false (decls_front objects (decls_of vars)) []
    ≡ objects_of (types_in (normal_tree p types numbers)) false (decls_of vars) (objects_of (types_in p) false objects [])

-- A variable of a scalar type or subtype of the program has its bounds in the program, and starts with the lower one.
abbrev pub VariableIsObject : Type 0
VariableIsObject =
    (p : PProgram) (types : TypeTable) (numbers : Numbering) → IsOrdered p → (in_main : Bool) (s : Span) (w : Word) (m : Mark) (k : ℕ) →
    own_name p w.name.0 ≡ true → mark_named (types_in p) w.name ≡ Some m → is_known (types_in p) m.kind ≡ true → (vars : Variables) →
    after_declaration (types_in (normal_tree p types numbers)) in_main (variable_declared (setting_of p types numbers) s (marked w) k) vars
    ≡ record {
      name = variable_name (setting_of p types numbers) k;
      limits = limits_named (types_in p) w.name;
      index = None;
      values = lower_bound (types_in p) (limits_named (types_in p) w.name) ∷ [];
    } ∷ vars

-- a range starts with two bounds, or with the name of a type or subtype that the table has
abbrev pub HasType : TypeTable → PDrange → Type 0
HasType T (RGiven b) = Unit {0}
HasType T (RMarked x) = (m : Mark) × (mark_named T x.mark.name ≡ Some m)

-- A variable for the values of a static range of the program has the bounds of that range, where the names in its subtype are the program's own.
abbrev pub RangeForms : Type 0
RangeForms =
    (p : PProgram) (types : TypeTable) (numbers : Numbering) → IsOrdered p → (s : Span) (r : PDrange) (limits : Limits) →
    EverySubind (old_names (own_name p)) 2 (range_subtype (types_in p) s r) → HasType (types_in p) r → range_of (types_in p) [] r ≡ Ok limits → is_known (types_in p) limits.kind ≡ true →
    form_of (types_in (normal_tree p types numbers)) (OPlain (range_subtype (types_in p) s r)) ≡ Some record { limits = limits; index = None }

-- The program is as these laws ask: its names are such as the source can hold, and those in its declarations its own. So is a name of a scalar type or
-- subtype, and the names in the subtype of a static range.
pub record IsAsked (p : PProgram) (w : Word) (m : Mark) (s : Span) (r : PDrange) (limits : Limits) : Type 0 where
  pub ordered : IsOrdered p
  pub tokens : HasTokens p
  pub own : AreOwn p p.decls
  pub name : own_name p w.name.0 ≡ true
  pub mark : mark_named (types_in p) w.name ≡ Some m
  pub scalar : is_known (types_in p) m.kind ≡ true
  pub names : EverySubind (old_names (own_name p)) 2 (range_subtype (types_in p) s r)
  pub type : HasType (types_in p) r
  pub range : range_of (types_in p) [] r ≡ Ok limits
  pub values : is_known (types_in p) limits.kind ≡ true

-- A program is so, with a name and a range.
abbrev pub IsMet : Type 0
IsMet = (p : PProgram) × (w : Word) × (m : Mark) × (s : Span) × (r : PDrange) × (limits : Limits) × IsAsked p w m s r limits
