-- The lines that the recorder writes, as statements (this project's rule): those of a sequence file. The line of an event is written in pieces, and ended by NEW_LINE.
use Rattle.std.specs.Prelude.{ℕ, List, [], ◌∷◌, ◌++◌, codes, decimal}
use Rattle.ada_tree.specs.declared.naming.NameId.{NameId}
use Rattle.ada_tree.specs.declared.naming.Span.{Span}
use Rattle.ada_tree.specs.PlainExpr.{EName}
use Rattle.ada_tree.specs.PlainStmt.{PWords, PValue, PStmt, SPut, SPutLine, SNewLine, PStmts, stmt_then}
use Rattle.syn_event.specs.Numbering.{Numbering, original_tasks, original_entries}
use Rattle.syn_event.specs.DeclaredTasks.{text_of}
use Rattle.normal_model.specs.Making.{one}
use Rattle.collect_model.specs.declared.AddedNames.{AddedNames}

-- `PUT("..");`
abbrev pub put_words : Span → List ℕ → PStmt
put_words s text = SPut (PWords text s ∷ []) s

-- `PUT(v);`
abbrev pub put_number : Span → NameId → PStmt
put_number s v = SPut (PValue (EName v s) ∷ []) s

-- for each variable `PUT(" "); PUT(v);`, in front of other statements
abbrev pub numbers_put : Span → List NameId → PStmts → PStmts
numbers_put s [] rest = rest
numbers_put s (v ∷ vs) rest = stmt_then (put_words s (codes " ")) (stmt_then (put_number s v) (numbers_put s vs rest))

-- A line: its letter, then a blank and a number for each of these variables, and its end.
abbrev pub line : Span → List ℕ → List NameId → PStmts
line s letter vs = stmt_then (put_words s letter) (numbers_put s vs (one (SNewLine s)))

-- The line of an event that names its task alone: E, S, X.
abbrev pub task_line : AddedNames → Span → List ℕ → PStmts
task_line n s letter = line s letter (n.subject ∷ [])

-- The line of an event that names its task and a delay alternative: D.
abbrev pub delay_line : AddedNames → Span → List ℕ → PStmts
delay_line n s letter = line s letter (n.subject ∷ n.argument ∷ [])

-- The line of an event that names a caller, an entry and a member of it: R, C, T, F.
abbrev pub call_line : AddedNames → Span → List ℕ → PStmts
call_line n s letter = line s letter (n.subject ∷ n.argument ∷ n.index ∷ [])

-- ---- the header

-- `ded-seq 1 MAIN T E`: the format, the name of the program, and how many tasks beside main and entries the original has
abbrev pub header_text : List (List ℕ) → Numbering → List ℕ
header_text names numbers =
    codes "ded-seq 1 " ++ text_of names numbers.main ++ codes " " ++ decimal (original_tasks numbers) ++ codes " " ++ decimal (original_entries numbers)

-- `PUT_LINE("..");`
abbrev pub header_put : Span → List ℕ → PStmt
header_put s text = SPutLine (PWords text s ∷ []) s
