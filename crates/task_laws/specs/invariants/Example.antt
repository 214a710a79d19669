-- A program whose one entry has a formal, and that is as the laws ask.
--
-- procedure MAIN is task T is entry E(X : in out INTEGER); end T; task body T is begin accept E(X : in out INTEGER) do X := 1; end E; end T; begin
-- null; end MAIN;
use Rattle.std.specs.Prelude.{◌≡◌, ℕ, false, None, codes, [], ◌∷◌, ◌++◌, length}
use Rattle.ada_tree.specs.declared.naming.Span.{Span}
use Rattle.ada_tree.specs.declared.naming.Word.{Word}
use Rattle.ada_tree.specs.declared.statements.ParMode.TheVariants as mode
use Rattle.ada_tree.specs.NameList.{predefined}
use Rattle.ada_static_rules.specs.Refusals.{types_in}
use Rattle.ada_tree.specs.PlainExpr.{EInteger}
use Rattle.ada_tree.specs.PlainStmt.{PFormal, SNull, SAssign, SAccept, no_stmt, stmt_then, present, accepting, body, no_handler}
use Rattle.ada_tree.specs.PlainDecl.{DTask, DTaskBody, no_decl, decl_then}
use Rattle.ada_tree.specs.PlainProgram.{PProgram}
use Rattle.syn_event.specs.AllNumbers.{all_numbers}
use Rattle.task_model.specs.Setting.{Setting, entry_parameters}
use Rattle.task_laws.specs.invariants.Worlds.{IsWellMade}

abbrev nowhere : Span
nowhere = record { start = 0; end = 0 }

abbrev word : ℕ → Word
word k = record { name = record { 0 = k }; span = nowhere }

abbrev formal : PFormal
formal = record { names = word 28 ∷ []; mode = mode.Both; mark = word 0 }

abbrev pub example : PProgram
example = record {
  names = predefined ++ (codes "MAIN" ∷ codes "T" ∷ codes "E" ∷ codes "X" ∷ []);
  text_io = false;
  name = word 25;
  decls = decl_then (DTask (record { name = word 26; of_kind = false; entries = record { name = word 27; family = None; formals = formal ∷ []; span = nowhere } ∷ []; priorities = [] }) nowhere)
      (decl_then (DTaskBody (word 26) no_decl
      (body (stmt_then (SAccept (accepting (record { entry = word 27; index = None; formals = formal ∷ []; span = nowhere })
      (present (stmt_then (SAssign (record { name = word 28; index = None }) (EInteger 1 nowhere) nowhere) no_stmt))) nowhere) no_stmt) no_handler) nowhere)
      no_decl);
  body = body (stmt_then (SNull nowhere) no_stmt) no_handler;
}

-- the program with its types and numbers
abbrev pub example_setting : Setting
example_setting = record { program = example; types = types_in example; numbers = all_numbers (types_in example) example }

-- The example is as the laws ask, and its entry has a formal.
abbrev pub IsMet : Type 0
IsMet = IsWellMade example_setting × (length (entry_parameters example_setting 1) ≡ 1)
