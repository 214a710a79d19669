-- Rows of statements and their images in a collecting text (this project's rule).
use Rattle.ada_tree.specs.PlainStmt.{PStmt, PStmts, no_stmt, stmt_then}
use Rattle.task_model.specs.Frames.{in_front}
use Rattle.task_laws.specs.translation.Translations.{Rewriting}
use Rattle.task_laws.specs.translation.OldTexts.{Asked, OldStmt}
use Rattle.normal_model.specs.Walk.{image_of}
use Rattle.collect_model.specs.Teller.{Teller}
use Rattle.collect_model.specs.CollectStmts.{collect_rewriter}

-- A row of a unit of the normal form and its image: that of each statement, one behind the other. Each statement has what is asked of it.
pub data Telling (a : Asked) (x : Teller) : PStmts → PStmts → Type 0 where
  telling_none : Telling a x no_stmt no_stmt
  telling_then : (s : PStmt) (r r' : PStmts) → OldStmt a s → Telling a x r r' → Telling a x (stmt_then s r) (in_front (image_of (collect_rewriter x) s 0) r')

-- The rewriting of a unit for a collecting text.
abbrev pub telling_rows : Asked → Teller → Rewriting
telling_rows a x = record { programs = a.programs; image = Telling a x }
