-- A translation of the statements of one unit: a program, another that is made from it, and how the names, the rows of statements and the frames of
-- the two go together (this project's rule). Nothing here says which rewriter made the other program: each has a translation of its own.
use Rattle.std.specs.Prelude.{◌≡◌, ℕ, Bool, true, false, List}
use Rattle.ada_tree.specs.declared.naming.NameId.{NameId}
use Rattle.ada_tree.specs.PlainStmt.{PStmts}
use Rattle.ada_tree.specs.TypeTable.{TypeTable}
use Rattle.ada_value.specs.declared.values.Value.{Value}
use Rattle.ada_value.specs.Values.{kind_of_value}
use Rattle.ada_value.specs.Variables.{Variables}
use Rattle.task_model.specs.Setting.{Setting}
use Rattle.task_model.specs.Frames.{Around, PFrame, Control}

-- What stands inside a frame: what the frame stands in, the frames outside of it, and the variables; of a task and of its image.
abbrev pub Standing : Type 1
Standing = Around → List PFrame → Variables → Around → List PFrame → Variables → Type 0

-- Two programs, of which the second is made from the first, and what they have in common.
pub record Programs : Type 0 where
  -- what the tasks of the two programs read
  pub original : Setting
  pub made : Setting
  -- the ids of the original's names; a name that is added is none of them
  pub is_old : ℕ → Bool
  -- the ids of those of the original's names that no variable has, as names of constants and of enumeration literals
  pub is_fixed : ℕ → Bool
  -- the kinds, by their places, whose subtypes both programs have alike
  pub is_known : ℕ → Bool

-- The same with the images of a row of statements.
pub record Rewriting : Type 1 where
  pub programs : Programs
  pub image : PStmts → PStmts → Type 0

-- The whole translation.
pub record Translation : Type 1 where
  pub text : Rewriting
  -- where the innermost statements that are translated as a whole begin: in an accept body or in the unit's own, with whatever frames the image has there
  pub floor : Standing
  -- where the image stands once these are over, where that is no place in the statements
  pub beyond : Control → Control → Type 0

-- the tables of types of the two programs
abbrev pub types_before : Programs → TypeTable
types_before b = b.original.types

abbrev pub types_after : Programs → TypeTable
types_after b = b.made.types

-- a name of the original
abbrev pub IsOld : Programs → NameId → Type 0
IsOld b id = b.is_old id.0 ≡ true

-- a name that a variable may have
abbrev pub IsFree : Programs → NameId → Type 0
IsFree b id = b.is_fixed id.0 ≡ false

-- a value whose kind is known
abbrev pub IsKnown : Programs → Value → Type 0
IsKnown b v = b.is_known (kind_of_value v) ≡ true
