-- A text with a task and a call of its entry, and the program that it is (9.1, 9.5).
use Rattle.std.specs.Prelude.{ℕ, ◌+◌, false, codes, List, [], ◌∷◌, ◌++◌, None}
use Rattle.ada_tree.specs.declared.naming.Span.{Span}
use Rattle.ada_tree.specs.declared.naming.Word.{Word}
use Rattle.ada_tree.specs.NameList.{predefined}
use Rattle.ada_tree.specs.PlainStmt.{SCall, SAccept, accepting, absent, no_stmt, stmt_then, PBody, body, no_handler}
use Rattle.ada_tree.specs.PlainDecl.{DTask, DTaskBody, PDecls, no_decl, decl_then}
use Rattle.ada_tree.specs.PlainProgram.{PProgram}

abbrev pub calling_text : List ℕ
calling_text = codes "procedure P is task T is entry E; end T; task body T is begin accept E; end T; begin T.E; end P;"

abbrev pub at : ℕ → ℕ → Span
at first last = record { start = first; end = last }

-- a name of one letter
abbrev pub letter : ℕ → ℕ → Word
letter id first = record { name = record { 0 = id }; span = at first (first + 1) }

-- `begin accept E; end T;`
abbrev pub accepting_body : PBody
accepting_body = body (stmt_then (SAccept (accepting record { entry = letter 27 69; index = None; formals = []; span = at 62 71 } absent) (at 62 71)) no_stmt) no_handler

-- `task T is entry E; end T;` and its body
abbrev pub calling_decls : PDecls
calling_decls =
    decl_then (DTask record { name = letter 26 20; of_kind = false; entries = record { name = letter 27 31; family = None; formals = []; span = at 25 33 } ∷ []; priorities = [] } (at 15 40))
    (decl_then (DTaskBody (letter 26 51) no_decl accepting_body (at 41 78))
    no_decl)

abbrev pub calling : PProgram
calling = record {
  names = predefined ++ (codes "P" ∷ codes "T" ∷ codes "E" ∷ []);
  text_io = false;
  name = letter 25 10;
  decls = calling_decls;
  body = body (stmt_then (SCall record { task = record { name = letter 26 85; index = None }; entry = letter 27 87; args = None } (at 85 89)) no_stmt) no_handler;
}
