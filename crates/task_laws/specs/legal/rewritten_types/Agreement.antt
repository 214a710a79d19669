-- What two tables of types have in common for those names that are old (this project's rule). A table is asked by names and by places: what an old
-- name means, and what stands at the places to which it leads.
use Rattle.std.specs.Prelude.{◌≡◌, ℕ, ℤ, suc, ◌==◌, Bool, true, List, [], ◌∷◌, find, Option, Some, None, option_map}
use Rattle.std.specs.List.{AllByRecursion}
use Rattle.ada_tree.specs.declared.naming.NameId.{NameId}
use Rattle.ada_tree.specs.declared.static_types.Kind.{Kind}
use Rattle.ada_tree.specs.declared.static_types.Kind.TheVariants.{Integer, Truth, Array}
use Rattle.ada_tree.specs.declared.static_types.Mark.{Mark}
use Rattle.ada_tree.specs.declared.static_types.Constant.{Constant}
use Rattle.ada_tree.specs.TypeTable.{TypeTable}
use Rattle.ada_static_rules.specs.Scope.{integer_kind, truth_kind, kind_at, mark_at}
use Rattle.ada_static_rules.specs.StaticValue.{mark_named, constant_named, position_in, first_of_two}

-- ---- what is asked of a table

-- a kind, unless it is that of an array: no value is of an array's kind (3.6)
abbrev pub scalar_only : Option Kind → Option Kind
scalar_only (Some (Array index first last part)) = None
scalar_only (Some k) = Some k
scalar_only None = None

-- an enumeration literal: the place of its kind, and its position there (3.5.1)
pub record Literal : Type 0 where
  pub kind : ℕ
  pub position : ℕ

-- the literal of a name among kinds that stand from the place k on
abbrev pub literal_among : List Kind → ℕ → NameId → Option Literal
literal_among [] k id = None
literal_among (kind ∷ rest) k id = first_of_two (option_map (λ n. record { kind = k; position = n }) (position_in id kind)) (literal_among rest (suc k) id)

-- the literal of a name
abbrev pub literal_named : TypeTable → NameId → Option Literal
literal_named T id = literal_among T.kinds 0 id

-- ---- one table in another

-- the table has a kind, or a mark, at that place
abbrev pub HasKind : TypeTable → ℕ → Type 0
HasKind T k = (x : Kind) × (kind_at T k ≡ Some x)

abbrev pub HasMark : TypeTable → ℕ → Type 0
HasMark T m = (x : Mark) × (mark_at T m ≡ Some x)

-- the second table has whatever the first one has, at the same places
pub record Grows (T U : TypeTable) : Type 0 where
  pub kind : (k : ℕ) (x : Kind) → kind_at T k ≡ Some x → kind_at U k ≡ Some x
  pub mark : (m : ℕ) (x : Mark) → mark_at T m ≡ Some x → mark_at U m ≡ Some x

-- The second table has whatever the first one has, and no more of what an old name could mean: no type or subtype and no constant of an old name, no
-- enumeration literal and no kind but arrays.
pub record Keeps (old : ℕ → Bool) (T U : TypeTable) : Type 0 where
  pub grows : Grows T U
  pub marks : (id : NameId) → old id.0 ≡ true → mark_named U id ≡ mark_named T id
  pub constants : (id : NameId) → old id.0 ≡ true → constant_named U id ≡ constant_named T id
  pub literals : (id : NameId) → literal_named U id ≡ literal_named T id
  pub kinds : (k : ℕ) → scalar_only (kind_at U k) ≡ scalar_only (kind_at T k)

-- ---- places

-- of an array, the table has the mark of its components
abbrev pub HasPart : TypeTable → Kind → Type 0
HasPart T (Array index first last part) = HasMark T part
HasPart T _ = Unit {0}

-- Whatever place a table tells it has: the marks of its constants and of the components of its arrays, and the kinds of its marks; and it has a first
-- mark, which is that of named numbers.
pub record Sound (T : TypeTable) : Type 0 where
  pub constants : AllByRecursion (λ c. HasMark T c.mark) T.constants
  pub marks : AllByRecursion (λ m. HasKind T m.kind) T.marks
  pub kinds : AllByRecursion (HasPart T) T.kinds
  pub first : HasMark T 0

-- a kind of values stands at that place
abbrev pub IsScalar : TypeTable → ℕ → Type 0
IsScalar T k = (x : Kind) × (scalar_only (kind_at T k) ≡ Some x)

-- the first mark of a kind, which is that of its declaration
abbrev pub mark_of_kind : TypeTable → ℕ → Option Mark
mark_of_kind T k = find (λ m. m.kind == k) T.marks

-- The first kinds are those of INTEGER and BOOLEAN (3.5.3, 3.5.4), and each kind of values has a mark.
pub record WholeTable (T : TypeTable) : Type 0 where
  pub integers : kind_at T integer_kind ≡ Some Integer
  pub truths : kind_at T truth_kind ≡ Some Truth
  pub own : (k : ℕ) → IsScalar T k → (m : Mark) × (mark_of_kind T k ≡ Some m)

-- Two tables have one sound table in common, from which both differ in nothing that an old name could mean.
pub record Rooted (old : ℕ → Bool) (root T U : TypeTable) : Type 0 where
  pub sound : Sound root
  pub whole : WholeTable root
  pub left : Keeps old root T
  pub right : Keeps old root U

-- ---- two tables

-- Two tables agree on old names: each means the same in both, and so does whatever it leads to. Literals are the same, and so are all kinds but those
-- of arrays, at each place.
pub record Agrees (old : ℕ → Bool) (T U : TypeTable) : Type 0 where
  pub marks : (id : NameId) → old id.0 ≡ true → mark_named T id ≡ mark_named U id
  pub constants : (id : NameId) → old id.0 ≡ true → constant_named T id ≡ constant_named U id
  pub literals : (id : NameId) → literal_named T id ≡ literal_named U id
  pub kinds : (k : ℕ) → scalar_only (kind_at T k) ≡ scalar_only (kind_at U k)
  -- the kind of an old type or subtype, which may be that of an array, and the mark of its components
  pub mark_kinds : (id : NameId) (m : Mark) → old id.0 ≡ true → mark_named T id ≡ Some m → kind_at T m.kind ≡ kind_at U m.kind
  pub part_marks : (id : NameId) (m : Mark) (index : ℕ) (first last : ℤ) (part : ℕ) → old id.0 ≡ true → mark_named T id ≡ Some m →
      kind_at T m.kind ≡ Some (Array index first last part) → mark_at T part ≡ mark_at U part
  -- the first mark of each kind of values, and the kinds of INTEGER and BOOLEAN
  pub kind_marks : (k : ℕ) → IsScalar T k → mark_of_kind T k ≡ mark_of_kind U k
  pub integers : kind_at T integer_kind ≡ Some Integer
  pub truths : kind_at T truth_kind ≡ Some Truth
  -- the mark of an old constant
  pub constant_marks : (id : NameId) (c : Constant) → old id.0 ≡ true → constant_named T id ≡ Some c → mark_at T c.mark ≡ mark_at U c.mark
