-- Two programs that are the same, with different ids: `procedure P is begin null; end P;`, where the second has a name more before P (this project's rule).
use Rattle.std.specs.Prelude.{◌++◌, ◌∷◌, List, [], codes, false, ℕ}
use Rattle.ada_tree.specs.NameList.{predefined}
use Rattle.ada_tree.specs.PlainDecl.{no_decl}
use Rattle.ada_tree.specs.PlainProgram.{PProgram}
use Rattle.ada_tree.specs.PlainStmt.{SNull, body, no_handler, no_stmt, stmt_then}
use Rattle.replay_runs.specs.same.Renamed.{no_span}

-- the program with these names, where P has this id
abbrev pub null_program : List (List ℕ) → ℕ → PProgram
null_program names p = record {
  names = names;
  text_io = false;
  name = record { name = record { 0 = p }; span = no_span };
  decls = no_decl;
  body = body (stmt_then (SNull no_span) no_stmt) no_handler;
}

abbrev pub first_program : PProgram
first_program = null_program (predefined ++ codes "P" ∷ []) 25

abbrev pub second_program : PProgram
second_program = null_program (predefined ++ codes "X" ∷ codes "P" ∷ []) 26
