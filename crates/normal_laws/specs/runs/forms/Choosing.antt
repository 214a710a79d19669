-- A program in which a variable chooses a member of an array of tasks, for a call and for an abort.
--
-- procedure P is task type W is entry E; end W; A : array (1 .. 2) of W; I : INTEGER := 1;
-- task body W is begin accept E; end W; begin A(I).E; abort A(I); end P;
use Rattle.std.specs.Prelude.{true, false, codes, [], ◌∷◌, ◌++◌, Some, None}
use Rattle.ada_tree.specs.declared.naming.Span.{Span}
use Rattle.ada_tree.specs.NameList.{predefined}
use Rattle.ada_tree.specs.PlainExpr.{PExpr, EInteger, EName, PDrange, RGiven}
use Rattle.ada_tree.specs.PlainStmt.{PCallee, PCall, PHead, SAbort, SCall, SAccept, no_stmt, stmt_then, absent, accepting, PBody, body, no_handler}
use Rattle.ada_tree.specs.PlainDecl.{OPlain, OArray, IOne, PEntry, DObject, DTask, DTaskBody, no_decl, decl_then}
use Rattle.ada_tree.specs.PlainProgram.{PProgram}
use Rattle.normal_laws.specs.runs.runs.Example.{word, integer}

abbrev pub nowhere : Span
nowhere = record { start = 0; end = 0 }

-- `1 .. 2`
abbrev pub indices : PDrange
indices = RGiven record { first = EInteger 1 nowhere; last = EInteger 2 nowhere }

abbrev pub entry : PEntry
entry = record { name = word 27; family = None; formals = []; span = nowhere }

-- `I`, and the member of A that it chooses
abbrev pub index : PExpr
index = EName record { 0 = 29 } nowhere

abbrev pub member : PCallee
member = record { name = word 28; index = Some index }

abbrev pub the_call : PCall
the_call = record { task = member; entry = word 27; args = None }

abbrev pub head : PHead
head = record { entry = word 27; index = None; formals = []; span = nowhere }

abbrev pub main_body : PBody
main_body = body (stmt_then (SCall the_call nowhere) (stmt_then (SAbort (member ∷ []) nowhere) no_stmt)) no_handler

abbrev pub task_body : PBody
task_body = body (stmt_then (SAccept (accepting head absent) nowhere) no_stmt) no_handler

abbrev pub choosing : PProgram
choosing = record {
  names = predefined ++ (codes "P" ∷ codes "W" ∷ codes "E" ∷ codes "A" ∷ codes "I" ∷ []);
  text_io = false;
  name = word 25;
  decls = decl_then (DTask (record { name = word 26; of_kind = true; entries = entry ∷ []; priorities = [] }) nowhere)
      (decl_then (DObject (word 28 ∷ []) false (OArray indices (record { mark = word 26; bounds = None })) None nowhere)
      (decl_then (DObject (word 29 ∷ []) false (OPlain integer) (Some (IOne (EInteger 1 nowhere))) nowhere)
      (decl_then (DTaskBody (word 26) no_decl task_body nowhere)
      no_decl)));
  body = main_body;
}
