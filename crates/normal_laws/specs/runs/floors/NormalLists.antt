-- Rows of statements and their images in the normal form (this project's rule).
use Rattle.std.specs.Prelude.{◌≡◌, List, ◌++◌}
use Rattle.ada_tree.specs.PlainStmt.{PStmt, PStmts, no_stmt, stmt_then}
use Rattle.ada_tree.specs.PlainDecl.{PDecl}
use Rattle.task_model.specs.Frames.{in_front}
use Rattle.normal_model.specs.Walk.{after_parts, image_of}
use Rattle.normal_model.specs.Variables.{statement_variables}
use Rattle.normal_model.specs.NormalStmts.{normal_rewriter}
use Rattle.task_laws.specs.translation.Translations.{Rewriting}
use Rattle.task_laws.specs.translation.OldTexts.{OldStmt}
use Rattle.normal_laws.specs.runs.floors.Suited.{Rewritten, rewritten_unit, asked_of}

-- the second list begins with the first
abbrev pub Begin : {A : Type 0} → List A → List A → Type 0
Begin {A} xs ys = (more : List A) × (ys ≡ xs ++ more)

-- the variables of a unit behind a statement and all that stands in it, by those before it
abbrev pub behind_stmt : Rewritten → PStmt → List PDecl → List PDecl
behind_stmt w s vars = after_parts (normal_rewriter (rewritten_unit w)) s (statement_variables (rewritten_unit w) vars s)

-- A row of a unit and an image of it: that of each statement, one behind the other, each by some variables that were made before it, which the unit
-- has, with those that it makes itself, as its first ones. Images that stand one behind the other need not be those of one walk, since the rows of a
-- branch and of what stands behind it come together.
pub data Normal (w : Rewritten) : PStmts → PStmts → Type 0 where
  normal_none : Normal w no_stmt no_stmt
  normal_then : (vars : List PDecl) (s : PStmt) (r r' : PStmts) → OldStmt (asked_of w) s → Begin (behind_stmt w s vars) w.vars → Normal w r r' →
      Normal w (stmt_then s r) (in_front (image_of (normal_rewriter (rewritten_unit w)) s vars) r')

-- The rewriting of a unit into its normal form.
abbrev pub normal_lists : Rewritten → Rewriting
normal_lists w = record { programs = w.programs; image = Normal w }
