-- A program as the law of well-placed normal forms asks.
--
-- procedure P is task T is entry E (X : in INTEGER); end T; task body T is begin accept E (X : in INTEGER); end T; begin T.E (1); end P;
use Rattle.std.specs.Prelude.{ℕ, false, codes, [], ◌∷◌, ◌++◌, Some, None}
use Rattle.ada_tree.specs.declared.naming.Span.{Span}
use Rattle.ada_tree.specs.declared.naming.Word.{Word}
use Rattle.ada_tree.specs.declared.statements.ParMode.TheVariants.{Take}
use Rattle.ada_tree.specs.NameList.{predefined}
use Rattle.ada_tree.specs.PlainExpr.{EInteger}
use Rattle.ada_tree.specs.PlainStmt.{PCall, PFormal, SCall, SAccept, no_stmt, stmt_then, absent, accepting, PBody, body, no_handler}
use Rattle.ada_tree.specs.PlainDecl.{PEntry, DTask, DTaskBody, no_decl, decl_then}
use Rattle.ada_tree.specs.PlainProgram.{PProgram}
use Rattle.ada_static_rules.specs.Refusals.{types_in}
use Rattle.syn_event.specs.AllNumbers.{all_numbers}
use Rattle.task_model.specs.Setting.{Setting}

abbrev pub nowhere : Span
nowhere = record { start = 0; end = 0 }

abbrev pub word : ℕ → Word
word id = record { name = record { 0 = id }; span = nowhere }

abbrev pub formal : PFormal
formal = record { names = word 28 ∷ []; mode = Take; mark = word 0 }

abbrev pub entry : PEntry
entry = record { name = word 27; family = None; formals = formal ∷ []; span = nowhere }

abbrev pub task_body : PBody
task_body = body (stmt_then (SAccept (accepting (record { entry = word 27; index = None; formals = formal ∷ []; span = nowhere }) absent) nowhere) no_stmt) no_handler

abbrev pub the_call : PCall
the_call = record { task = record { name = word 26; index = None }; entry = word 27; args = Some record { first = EInteger 1 nowhere ∷ []; second = None } }

abbrev pub main_body : PBody
main_body = body (stmt_then (SCall the_call nowhere) no_stmt) no_handler

abbrev pub passing : PProgram
passing = record {
  names = predefined ++ (codes "P" ∷ codes "T" ∷ codes "E" ∷ codes "X" ∷ []);
  text_io = false;
  name = word 25;
  decls = decl_then (DTask (record { name = word 26; of_kind = false; entries = entry ∷ []; priorities = [] }) nowhere)
      (decl_then (DTaskBody (word 26) no_decl task_body nowhere) no_decl);
  body = main_body;
}

-- the program with its types and numbers
abbrev pub passing_set : Setting
passing_set = record { program = passing; types = types_in passing; numbers = all_numbers (types_in passing) passing }
