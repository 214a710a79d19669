-- The laws of rewritten declarations.
use Rattle.std.specs.Prelude.{◌≡◌, ℕ, Bool, Some, None}
use Rattle.ada_tree.specs.declared.naming.NameId.{NameId}
use Rattle.ada_tree.specs.declared.naming.Word.{Word}
use Rattle.ada_tree.specs.declared.static_types.Mark.{Mark}
use Rattle.ada_tree.specs.TypeTable.{TypeTable}
use Rattle.ada_tree.specs.PlainDecl.{PDecls}
use Rattle.ada_tree.specs.PlainProgram.{PProgram}
use Rattle.ada_static_rules.specs.Scope.{Scope}
use Rattle.ada_static_rules.specs.StaticValue.{mark_named}
use Rattle.ada_static_rules.specs.Declaring.{first_scope, after_decls}
use Rattle.ada_static_rules.specs.Refusals.{MeetsTypeRules}
use Rattle.ada_tree.specs.WellPlaced.{BodiesLast}
use Rattle.task_laws.specs.legal.rewritten_types.Agreement.{IsScalar, mark_of_kind, Rooted, Agrees}
use Rattle.task_laws.specs.legal.rewritten_types.Rewriting.{AreAdded, IsFree, Front, staying, NamesOnce}

-- what can be used behind declarations of a program of that name
abbrev pub behind : Word → PDecls → Scope
behind name ds = after_decls (first_scope name) ds

-- Where the first declarations of a program stay, and others are added behind them, both tables keep the table of the first declarations.
abbrev pub RewrittenIsRooted : Type 0
RewrittenIsRooted =
    (old : ℕ → Bool) (name : Word) (ds es added : PDecls) → Front (first_scope name) ds es → AreAdded old added →
    Rooted old (behind name es).types (behind name ds).types (after_decls (behind name es) added).types

-- Two tables that keep a sound one agree on old names.
abbrev pub RootedAgrees : Type 0
RootedAgrees = (old : ℕ → Bool) (root T U : TypeTable) → Rooted old root T U → Agrees old T U

-- Where main declares each name once, a name that means no value in the end, as that of a task type, names no type in the table.
abbrev pub UnvaluedHasNoMark : Type 0
UnvaluedHasNoMark = (name : Word) (ds : PDecls) → NamesOnce name ds → (id : NameId) → IsFree (behind name ds) id → mark_named (behind name ds).types id ≡ None

-- the kind has a declared name, by which its first mark is found
pub record IsNamedKind (T : TypeTable) (k : ℕ) : Type 0 where
  pub mark : Mark
  pub id : NameId
  pub first : mark_of_kind T k ≡ Some mark
  pub name : mark.name ≡ Some id
  pub found : mark_named T id ≡ Some mark

-- Where main declares each name once, each kind of values has a declared name.
abbrev pub KindsAreNamed : Type 0
KindsAreNamed = (name : Word) (ds : PDecls) → NamesOnce name ds → (k : ℕ) → IsScalar (behind name ds).types k → IsNamedKind (behind name ds).types k

-- Every program that meets the static rules, and in which bodies stand last, has first declarations: those but tasks, objects of task types and bodies.
abbrev pub StayingIsFront : Type 0
StayingIsFront = (p : PProgram) → MeetsTypeRules p → BodiesLast p.decls → Front (first_scope p.name) p.decls (staying (first_scope p.name) p.decls)

-- A program that meets the static rules declares each name of main once.
abbrev pub DeclaredOnce : Type 0
DeclaredOnce = (p : PProgram) → MeetsTypeRules p → NamesOnce p.name p.decls
