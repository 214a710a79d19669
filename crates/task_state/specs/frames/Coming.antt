-- What comes next for a task, by its innermost frame.
use Rattle.std.specs.Prelude.{◌≡◌, Option}
use Rattle.ada_tree.specs.declared.naming.Word.{Word}
use Rattle.ada_tree.specs.PlainStmt.{PStmts, no_stmt, stmt_then, PHandlers, plain_stmt}
use Rattle.ada_value.specs.declared.values.Raised.{Raised}
use Rattle.task_model.specs.Frames as model
use Rattle.task_model.specs.Rendezvous.{behind_in}
use Rattle.task_state.specs.declared.frames.coming.Next.{Next}
use Rattle.task_state.specs.declared.frames.coming.Next.TheVariants as next
use Rattle.task_state.specs.frames.Seen.{turns_as}

-- What comes next is the first statement of the innermost frame; behind the last one it is the next turn of a loop, the end of an accept body, or that of the unit. The end of a block or handler never comes, since it is left at once.
abbrev pub IsNext : Next → PStmts → model.Around → Type 0
IsNext (next.Stmt s) rest place = rest ≡ stmt_then (plain_stmt s.now) (behind_in rest)
IsNext (next.Turn turns) rest place = (rest ≡ no_stmt) × ((name : Option Word) × (stmts : PStmts) × (place ≡ model.Loop name (turns_as turns) stmts))
IsNext (next.EndOfBody caller formals pending) rest place = (rest ≡ no_stmt) × (place ≡ model.Opened caller formals.now pending)
IsNext next.EndOfUnit rest place = (rest ≡ no_stmt) × ((handlers : PHandlers) × (taken : Option Raised) × (place ≡ model.OwnBody handlers taken))
