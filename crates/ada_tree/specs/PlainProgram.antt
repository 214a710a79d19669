-- The plain mirror of a whole program.
use Rattle.std.specs.Prelude.{ℕ, Bool, List, map}
use Rattle.ada_tree.specs.declared.naming.Word.{Word}
use Rattle.ada_tree.specs.declared.whole.Program.{Program}
use Rattle.ada_tree.specs.PlainStmt.{PBody, plain_body}
use Rattle.ada_tree.specs.PlainDecl.{PDecls, decls_of, plain_decl}

-- a program: the texts of its names in the order of their ids, whether the context clauses stand there, its name, its declarations and its body
pub record PProgram : Type 0 where
  pub names : List (List ℕ)
  pub text_io : Bool
  pub name : Word
  pub decls : PDecls
  pub body : PBody

abbrev pub plain_program : Program → PProgram
plain_program p = record { names = p.names; text_io = p.text_io; name = p.name; decls = decls_of (map plain_decl p.decls.items); body = plain_body p.body }
