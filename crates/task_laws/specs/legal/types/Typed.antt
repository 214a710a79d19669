-- What the static rules leave of the types of a program's tasks: ranges of families and of arrays of tasks, and marks of formals (3.5, 3.6.1, 9.1,
-- 9.5; this project's rule).
use Rattle.std.specs.Prelude.{◌≡◌, ◌≤◌, ℕ, ℤ, pos, int_le, int_lt, true, ◌==◌, List, [], length, find, IfSome, Option, Some, None, Ok}
use Rattle.std.specs.List.{AllByRecursion}
use Rattle.ada_tree.specs.declared.naming.NameId.{NameId}
use Rattle.ada_tree.specs.declared.static_types.Kind.{Kind}
use Rattle.ada_tree.specs.declared.static_types.Kind.TheVariants.{Integer, Truth, Enumeration, Array}
use Rattle.ada_tree.specs.declared.static_types.Mark.{Mark}
use Rattle.ada_tree.specs.TypeTable.{TypeTable}
use Rattle.ada_tree.specs.PlainExpr.{PDrange, RGiven, RMarked}
use Rattle.ada_tree.specs.PlainDecl.{PEntry, PTask}
use Rattle.ada_tree.specs.PlainProgram.{PProgram}
use Rattle.ada_static_rules.specs.Scope.{kind_at}
use Rattle.ada_static_rules.specs.StaticValue.{is_integer_value, mark_named}
use Rattle.ada_static_rules.specs.Refusals.{types_in}
use Rattle.syn_event.specs.DeclaredTasks.{tasks_of}
use Rattle.syn_event.specs.Extents.{extent}
use Rattle.syn_event.specs.NamedTasks.{NamedTasks, task_names_of}
use Rattle.ada_value.specs.declared.values.Limits.{Limits}
use Rattle.ada_value.specs.Values.{word, position_of, value_at}
use Rattle.ada_value.specs.Evaluating.{range_of}
use Rattle.task_laws.specs.legal.rewritten_types.Agreement.{IsScalar}

-- ---- the size of a table

-- an enumeration has few literals, and its place is a number of 32 bits
abbrev pub IsSmallKind : ℕ → Kind → Type 0
IsSmallKind k (Enumeration names) = (length names ≤ 2147483648) × (word k ≡ k)
IsSmallKind k Integer = Unit {0}
IsSmallKind k Truth = Unit {0}
IsSmallKind k (Array index first last part) = Unit {0}

-- The enumerations of the table are small.
pub record IsSmall (T : TypeTable) : Type 0 where
  pub kinds : (k : ℕ) (x : Kind) → kind_at T k ≡ Some x → IsSmallKind k x

-- ---- positions

-- an enumeration has a literal at the position, if it is not negative; of other kinds nothing is asked
abbrev pub HasLiteral : Option Kind → ℤ → Type 0
HasLiteral (Some (Enumeration names)) z = int_lt z (pos (length names)) ≡ true
HasLiteral (Some Integer) z = Unit {0}
HasLiteral (Some Truth) z = Unit {0}
HasLiteral (Some (Array index first last part)) z = Unit {0}
HasLiteral None z = Unit {0}

-- A kind has a value at a position, which is one of 32 bits: the value of the kind there has that position. Of an enumeration it is a literal (3.5.1).
pub record HasPosition (T : TypeTable) (k : ℕ) (z : ℤ) : Type 0 where
  pub fits : is_integer_value z ≡ true
  pub same : position_of (value_at T k z) ≡ z
  pub literal : HasLiteral (kind_at T k) z

-- ---- marks and ranges

-- the name is that of a scalar type or subtype
pub record IsScalarName (T : TypeTable) (id : NameId) : Type 0 where
  pub mark : Mark
  pub named : mark_named T id ≡ Some mark
  pub scalar : IsScalar T mark.kind
  -- its first value is there
  pub first : HasPosition T mark.kind mark.first

-- a range that starts with a name starts with that of a type or subtype
abbrev pub HasTypeName : TypeTable → PDrange → Type 0
HasTypeName T (RGiven b) = Unit {0}
HasTypeName T (RMarked x) = IsScalarName T x.mark.name

-- The range is static and not empty: it comes to a range between two values of a kind, which is what the numbers read.
pub record HasLimits (T : TypeTable) (r : PDrange) : Type 0 where
  pub limits : Limits
  pub range : range_of T [] r ≡ Ok limits
  pub scalar : IsScalar T limits.kind
  pub first : HasPosition T limits.kind limits.first
  pub last : HasPosition T limits.kind limits.last
  pub name : HasTypeName T r
  pub told : extent T r ≡ Some record { first = limits.first; last = limits.last }
  pub order : int_le limits.first limits.last ≡ true

-- ---- tasks

-- a family's range is static, and the marks of formals are scalar types or subtypes
pub record IsTypedEntry (T : TypeTable) (e : PEntry) : Type 0 where
  pub family : IfSome e.family (HasLimits T)
  pub formals : AllByRecursion (λ f. IsScalarName T f.mark.name) e.formals

-- the entry is the first of its name among these
abbrev pub IsFirstEntry : List PEntry → PEntry → Type 0
IsFirstEntry all e = find (λ x. x.name.name.0 == e.name.name.0) all ≡ Some e

-- So it is with the entries of a task, each of which has a name of its own.
pub record IsTypedTask (T : TypeTable) (t : PTask) : Type 0 where
  pub entries : AllByRecursion (IsTypedEntry T) t.entries
  pub found : AllByRecursion (IsFirstEntry t.entries) t.entries

-- the task is the first of its name among these
abbrev pub IsFirstTask : List PTask → PTask → Type 0
IsFirstTask all t = find (λ x. x.name.name.0 == t.name.name.0) all ≡ Some t

-- the range of an array of tasks is static
abbrev pub IsTypedPart : TypeTable → NamedTasks → Type 0
IsTypedPart T x = IfSome x.index_range (HasLimits T)

-- The tasks of a legal program have names of their own; ranges of families and of arrays of tasks are static, and marks of formals are scalar.
pub record HasTypedTasks (p : PProgram) : Type 0 where
  pub found : AllByRecursion (IsFirstTask (tasks_of p)) (tasks_of p)
  pub tasks : AllByRecursion (IsTypedTask (types_in p)) (tasks_of p)
  pub parts : AllByRecursion (IsTypedPart (types_in p)) (task_names_of p)
