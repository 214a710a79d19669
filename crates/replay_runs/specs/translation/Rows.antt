-- Rows of statements and their images in a replay text (this project's rule).
use Rattle.ada_tree.specs.PlainStmt.{PStmt, PStmts, no_stmt, stmt_then}
use Rattle.task_model.specs.Frames.{in_front}
use Rattle.task_laws.specs.translation.Translations.{Rewriting}
use Rattle.task_laws.specs.translation.OldTexts.{Asked, OldStmt}
use Rattle.normal_model.specs.RewrittenUnit.{RewrittenUnit}
use Rattle.normal_model.specs.Walk.{image_of}
use Rattle.replay_model.specs.ReplayStmts.{replay_rewriter}

-- A row of a unit of the normal form and its image: that of each statement, one behind the other. Each statement has what is asked of it.
pub data Replayed (a : Asked) (u : RewrittenUnit) : PStmts → PStmts → Type 0 where
  replayed_none : Replayed a u no_stmt no_stmt
  replayed_then : (s : PStmt) (r r' : PStmts) → OldStmt a s → Replayed a u r r' → Replayed a u (stmt_then s r) (in_front (image_of replay_rewriter s u) r')

-- The rewriting of a unit for a replay text.
abbrev pub replayed_rows : Asked → RewrittenUnit → Rewriting
replayed_rows a u = record { programs = a.programs; image = Replayed a u }
