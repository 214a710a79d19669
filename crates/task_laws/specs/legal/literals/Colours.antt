-- A program with an array of tasks whose index is an enumeration.
--
-- procedure P is type C is (R, G); task type W; A : array (C) of W; task body W is begin null; end W; begin abort A(G); end P;
use Rattle.std.specs.Prelude.{ℕ, true, false, codes, [], ◌∷◌, ◌++◌, Some, None}
use Rattle.ada_tree.specs.declared.naming.Span.{Span}
use Rattle.ada_tree.specs.declared.naming.Word.{Word}
use Rattle.ada_tree.specs.NameList.{predefined}
use Rattle.ada_tree.specs.PlainExpr.{PExpr, EName, PDrange, RMarked}
use Rattle.ada_tree.specs.PlainStmt.{PCallee, SNull, SAbort, no_stmt, stmt_then, PBody, body, no_handler}
use Rattle.ada_tree.specs.PlainDecl.{OArray, DEnumeration, DObject, DTask, DTaskBody, no_decl, decl_then}
use Rattle.ada_tree.specs.PlainProgram.{PProgram}

-- one place stands for all of them, since no rule and no action looks at one
abbrev pub nowhere : Span
nowhere = record { start = 0; end = 0 }

-- the word of a name
abbrev pub word : ℕ → Word
word k = record { name = record { 0 = k }; span = nowhere }

-- all values of C
abbrev pub colours : PDrange
colours = RMarked record { mark = word 26; bounds = None }

-- `G`, and its member
abbrev pub green : PExpr
green = EName record { 0 = 28 } nowhere

abbrev pub green_member : PCallee
green_member = record { name = word 30; index = Some green }

abbrev pub colour_body : PBody
colour_body = body (stmt_then (SAbort (green_member ∷ []) nowhere) no_stmt) no_handler

abbrev pub idle_body : PBody
idle_body = body (stmt_then (SNull nowhere) no_stmt) no_handler

abbrev pub coloured : PProgram
coloured = record {
  names = predefined ++ (codes "P" ∷ codes "C" ∷ codes "R" ∷ codes "G" ∷ codes "W" ∷ codes "A" ∷ []);
  text_io = false;
  name = word 25;
  decls = decl_then (DEnumeration (word 26) (word 27 ∷ word 28 ∷ []) nowhere)
      (decl_then (DTask (record { name = word 29; of_kind = true; entries = []; priorities = [] }) nowhere)
      (decl_then (DObject (word 30 ∷ []) false (OArray colours (record { mark = word 29; bounds = None })) None nowhere)
      (decl_then (DTaskBody (word 29) no_decl idle_body nowhere)
      no_decl)));
  body = colour_body;
}
