use Rattle.std.proofs.Common.{sym, true≢false}
use Rattle.ada_tree_same.proofs.SameRows.{decls_length}
use Rattle.ada_tree_same.proofs.declarations.+same_decl.Goals as goal

pub same_decls-returns-then-a-b : goal.same_decls-returns-then-a-b
same_decls-returns-then-a-b t c = (λ e. absurd (true≢false (sym e)), λ h. absurd (c.if-a-b.true (decls_length _ _ c.args.a.now c.args.b.now h)))
