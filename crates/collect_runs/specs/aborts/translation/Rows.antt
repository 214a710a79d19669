-- Rows of statements and their images in a collecting text of a program with abort statements (this project's rule).
use Rattle.std.specs.Prelude.{ℕ, ◌≤◌}
use Rattle.ada_tree.specs.PlainStmt.{PStmt, PStmts, no_stmt, stmt_then}
use Rattle.task_model.specs.Frames.{in_front}
use Rattle.task_laws.specs.translation.Translations.{Rewriting}
use Rattle.task_laws.specs.translation.OldTexts.{Asked, OldStmt}
use Rattle.normal_model.specs.Walk.{after_parts, image_of}
use Rattle.collect_model.specs.aborts.Places.{with_place}
use Rattle.collect_model.specs.aborts.AbortTeller.{AbortTeller}
use Rattle.collect_model.specs.aborts.AbortStmts.{abort_rewriter}

-- A row of a unit of the normal form and its image: that of each statement, one behind the other, by how many places the unit has come by. The places of
-- the row are numbered behind the first number, and to the last. Each statement has what is asked of it.
pub data Telling (a : Asked) (x : AbortTeller) (first last : ℕ) : PStmts → PStmts → Type 0 where
  telling_none : Telling a x first last no_stmt no_stmt
  telling_then : (s : PStmt) (r r' : PStmts) (n : ℕ) → OldStmt a s → first ≤ n → after_parts (abort_rewriter x) s (with_place n s) ≤ last → Telling a x first last r r' →
      Telling a x first last (stmt_then s r) (in_front (image_of (abort_rewriter x) s n) r')

-- The rewriting of rows of a unit for a collecting text.
abbrev pub telling_rows : Asked → AbortTeller → ℕ → ℕ → Rewriting
telling_rows a x first last = record { programs = a.programs; image = Telling a x first last }
