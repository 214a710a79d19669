-- What is read in compound statements besides the statements in them: the places of statements, names that stand once more, and what stands for others.
use Rattle.std.specs.Prelude.{List, [], ◌∷◌, Option, Some, None}
use Rattle.ada_expr_parser.specs.readers.Readers.{Reader, bind, token}
use Rattle.ada_tree.specs.declared.naming.Span.{Span}
use Rattle.ada_tree.specs.declared.naming.Word.{Word}
use Rattle.ada_tree.specs.PlainExpr.{PExpr}
use Rattle.ada_tree.specs.PlainStmt.{PHead, PStmt, SNull, SAssign, SDelay, SExit, SRaise, SAbort, SCall, SAccept, SWait, SConditional, STimed, SPut, SPutLine, SNewLine, SGet, SIf, SCase, SBlock, SLoop, PStmts, no_stmt, stmt_then, PMaybe, absent, present, PHandler}
use Rattle.ada_expr_parser.specs.declared.items.Item.{Item}
use Rattle.ada_phrase_parser.specs.Reading.{closed, again, Behind}

-- the place of a statement
abbrev pub stmt_span : PStmt → Span
stmt_span (SNull s) = s
stmt_span (SAssign x e s) = s
stmt_span (SDelay n s) = s
stmt_span (SExit w e s) = s
stmt_span (SRaise w s) = s
stmt_span (SAbort cs s) = s
stmt_span (SCall c s) = s
stmt_span (SAccept a s) = s
stmt_span (SWait x o s) = s
stmt_span (SConditional c l o s) = s
stmt_span (STimed c l n m s) = s
stmt_span (SPut ps s) = s
stmt_span (SPutLine ps s) = s
stmt_span (SNewLine s) = s
stmt_span (SGet x s) = s
stmt_span (SIf x o s) = s
stmt_span (SCase e x o s) = s
stmt_span (SBlock b s) = s
stmt_span (SLoop w c l s) = s

-- the place of the last of these statements, or of what stands before them
abbrev pub last_span : Span → PStmts → Span
last_span before no_stmt = before
last_span before (stmt_then x l) = last_span (stmt_span x) l

abbrev pub maybe : Option PStmts → PMaybe
maybe None = absent
maybe (Some l) = present l

-- behind `loop`: its statements, its end and its name (5.5)
abbrev pub loop_end : {A : Type 0} → Option Word → (Span → A) → Reader Item A
loop_end None tree = closed tree
loop_end (Some w) tree = bind (token (again w)) (λ at. closed tree)

-- the place at which an alternative begins: that of its guard, or its own first word
abbrev pub first_of_alt : Option Span → Span → Span
first_of_alt (Some guard) own = guard
first_of_alt None own = own

-- behind `accept` (9.5)
abbrev pub head_of : Word → Behind PExpr → Span → PHead
head_of w x at = record { entry = w; index = x.index; formals = x.formals; span = at }

abbrev pub with_others : List PHandler → Option PHandler → List PHandler
with_others [] None = []
with_others [] (Some x) = x ∷ []
with_others (y ∷ more) x = y ∷ with_others more x
