-- A program and its normal form, which are as the law asks: a family's entry with an `in out` formal is called with an index and a variable, and is
-- accepted in a selective wait with a guard.
--
-- procedure P is V : INTEGER; task T is entry E(BOOLEAN)(X : in out INTEGER); end T;
-- task body T is begin select when TRUE => accept E(TRUE)(X : in out INTEGER) do X := 1; end E; or terminate; end select; end T; begin T.E(TRUE)(V); end P;
use Rattle.std.specs.Prelude.{◌≡◌, ℕ, zero, suc, true, false, nat_lt, codes, List, [], ◌∷◌, ◌++◌, length, Some, None, is_some}
use Rattle.ada_tree.specs.declared.naming.Span.{Span}
use Rattle.ada_tree.specs.declared.naming.Word.{Word}
use Rattle.ada_tree.specs.declared.statements.ParMode.TheVariants as mode
use Rattle.ada_tree.specs.NameList.{predefined}
use Rattle.ada_static_rules.specs.Refusals.{types_in}
use Rattle.ada_static_rules.specs.StaticValue.{value_named}
use Rattle.ada_tree.specs.PlainExpr.{PExpr, EInteger, EName, PSubind, RMarked}
use Rattle.ada_tree.specs.PlainStmt.{PCall, PFormal, PHead, SAssign, SCall, SWait, no_stmt, stmt_then, absent, present, accepting, alternative, AAccept, ATerminate, PAlts, no_alt, alt_then, PBody, body, no_handler}
use Rattle.ada_tree.specs.PlainDecl.{OPlain, PDecl, DObject, DTask, DTaskBody, no_decl, decl_then}
use Rattle.ada_tree.specs.PlainProgram.{PProgram}
use Rattle.syn_event.specs.AllNumbers.{all_numbers}
use Rattle.syn_event.specs.Numbering.{Numbering}
use Rattle.task_model.specs.Setting.{Setting, entry_parameters}
use Rattle.task_model.specs.Machine.{ProgramWithInputs, setting_of}
use Rattle.normal_model.specs.NormalTree.{normal_tree, main_unit, unit_for}
use Rattle.normal_model.specs.NormalNumbers.{normal_numbers}
use Rattle.normal_model.specs.NormalStmts.{unit_variables}
use Rattle.normal_laws.specs.runs.runs.Premises.{Rewrite, IsNormalForm}

abbrev nowhere : Span
nowhere = record { start = 0; end = 0 }

abbrev pub word : ℕ → Word
word k = record { name = record { 0 = k }; span = nowhere }

abbrev pub integer : PSubind
integer = record { mark = word 0; bounds = None }

abbrev pub formal : PFormal
formal = record { names = word 28 ∷ []; mode = mode.Both; mark = word 0 }

-- V and TRUE
abbrev pub v : PExpr
v = EName record { 0 = 29 } nowhere

abbrev pub yes : PExpr
yes = EName record { 0 = 5 } nowhere

-- `T.E(TRUE)(V)`
abbrev pub the_call : PCall
the_call = record { task = record { name = word 26; index = None }; entry = word 27; args = Some record { first = yes ∷ []; second = Some (v ∷ []) } }

abbrev pub main_body : PBody
main_body = body (stmt_then (SCall the_call nowhere) no_stmt) no_handler

abbrev pub head : PHead
head = record { entry = word 27; index = Some yes; formals = formal ∷ []; span = nowhere }

-- `when TRUE => accept E(TRUE)(X : in out INTEGER) do X := 1; end E; or terminate;`
abbrev pub alternatives : PAlts
alternatives =
    alt_then
    (alternative (Some yes) (AAccept (accepting head (present (stmt_then (SAssign (record { name = word 28; index = None }) (EInteger 1 nowhere) nowhere) no_stmt))) no_stmt) nowhere)
    (alt_then (alternative None ATerminate nowhere) no_alt)

abbrev pub task_body : PBody
task_body = body (stmt_then (SWait alternatives absent nowhere) no_stmt) no_handler

abbrev pub example : PProgram
example = record {
  names = predefined ++ (codes "P" ∷ codes "T" ∷ codes "E" ∷ codes "X" ∷ codes "V" ∷ []);
  text_io = false;
  name = word 25;
  decls = decl_then (DObject (word 29 ∷ []) false (OPlain integer) None nowhere)
      (decl_then (DTask (record {
        name = word 26;
        of_kind = false;
        entries = record { name = word 27; family = Some (RMarked record { mark = word 3; bounds = None }); formals = formal ∷ []; span = nowhere } ∷ [];
        priorities = [];
      }) nowhere)
      (decl_then (DTaskBody (word 26) no_decl task_body nowhere)
      no_decl));
  body = main_body;
}

abbrev pub numbers : Numbering
numbers = all_numbers (types_in example) example

-- the program without input
abbrev pub before : ProgramWithInputs
before = record { program = example; types = types_in example; inputs = [] }

-- its normal form
abbrev pub after : ProgramWithInputs
after = record { program = normal_tree example (types_in example) numbers; types = types_in (normal_tree example (types_in example) numbers); inputs = [] }

abbrev pub setting : Setting
setting = setting_of before numbers

-- the variables of a unit: main's and those of T
abbrev pub variables : ℕ → List PDecl
variables zero = unit_variables (main_unit setting) main_body
variables (suc t) = unit_variables (unit_for setting record { 0 = 26 }) task_body

abbrev pub rewrite : Rewrite
rewrite = record {
  setup = before;
  numbers = numbers;
  made = after;
  made_numbers = normal_numbers after.program numbers;
  is_old = λ n. nat_lt n 30;
  is_fixed = λ n. is_some (value_named (types_in example) record { 0 = n });
  is_known = λ k. true;
  first = λ t. t;
  vars = variables;
}

-- The example is as the law asks, and it has such an entry and such a wait: main gets two variables, T one.
abbrev pub IsMet : Type 0
IsMet = IsNormalForm rewrite × (length (entry_parameters setting 1) ≡ 1) × (length (variables 0) ≡ 2) × (length (variables 1) ≡ 1)
