use Rattle.std.proofs.Common.{ℕ, List, map, Vec, Global, ◌≡◌}
use Rattle.std.proofs.lemmas.Result.{IfOk-weaker}
use Rattle.ada_tree.specs.declared.declarations.Decl.{Decl}
use Rattle.ada_tree.specs.PlainDecl.{plain_decl, decls_of}
use Rattle.ada_tree.specs.PlainStmt.{plain_body}
use Rattle.ada_tree.specs.PlainProgram.{plain_program}
use Rattle.ada_tree.specs.Same.{Same}
use Rattle.ada_tree.proofs.SameLaws.{Same-from_equal}
use Rattle.ada_stmt_copy.proofs.expressions.Carried.{three}
use Rattle.ada_tree_copy.proofs.whole.ProgramTreeCopy.copy.Goals as goal

pub returns-clause-equal : goal.returns-clause-equal
returns-clause-equal c =
    three (λ (n : List (List ℕ)). n) (λ (v : Vec Decl Global). map plain_decl v.items) plain_body plain_program
    (λ n d b. record { names = n; text_io = c.args.self.now.text_io; name = c.args.self.now.name; decls = decls_of d; body = b })
    _ _ _ _
    c.program_of.result c.copy-names.result c.copy_decls-decls.result c.copy-body.result
    c.program_of.ensures c.copy-names.ensures c.copy_decls-decls.ensures c.copy-body.ensures
    cc

pub returns-clause-same : goal.returns-clause-same
returns-clause-same c =
    IfOk-weaker c.program_of.result (λ x. plain_program x ≡ plain_program c.args.self.now) (λ x. Same (plain_program c.args.self.now) (plain_program x))
    (λ x e. Same-from_equal (plain_program c.args.self.now) (plain_program x) e)
    (returns-clause-equal c)
