-- The first abort statement of a program, in the order of its text (9.10; this project's rule). It is found by a rewriter that changes nothing, and whose state is the place of the first abort statement that it has come by.
use Rattle.std.specs.Prelude.{Option, Some, None}
use Rattle.std.specs.List.{fold}
use Rattle.ada_tree.specs.declared.naming.Span.{Span}
use Rattle.ada_tree.specs.PlainStmt.{PStmt, SAbort, no_stmt}
use Rattle.ada_tree.specs.PlainDecl.{PDecl, DTaskBody}
use Rattle.ada_tree.specs.PlainProgram.{PProgram}
use Rattle.task_model.specs.Frames.{in_front}
use Rattle.syn_event.specs.DeclaredTasks.{decl_list}
use Rattle.normal_model.specs.Walk.{Rewriter, after_body}
use Rattle.normal_model.specs.Making.{one}

-- the place that was found, or this one
abbrev pub found_or : Option Span → Span → Option Span
found_or None s = Some s
found_or (Some t) s = Some t

-- what has been found behind a statement, without its parts
abbrev pub with_stmt : Option Span → PStmt → Option Span
with_stmt found (SAbort callees s) = found_or found s
with_stmt found x = found

abbrev pub abort_finder : Rewriter (Option Span)
abort_finder = record {
  entered_stmt = with_stmt;
  entered_alternative = λ found x. found;
  lead = λ found x. no_stmt;
  left_alternative = λ found x. x;
  replaced_stmt = λ found before x. in_front before (one x);
}

-- what has been found behind a declaration: only a body has statements
abbrev pub with_decl : Option Span → PDecl → Option Span
with_decl found (DTaskBody w objects its s) = after_body abort_finder its found
with_decl found d = found

-- The place of the first abort statement of a program: the bodies of its tasks stand in front of main's.
abbrev pub first_abort : PProgram → Option Span
first_abort p = after_body abort_finder p.body (fold with_decl None (decl_list p.decls))
