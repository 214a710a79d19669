-- A body as it is copied for a task that runs it.
use Rattle.std.specs.Prelude.{map}
use Rattle.ada_tree.specs.declared.naming.NameId.{NameId}
use Rattle.ada_tree.specs.PlainStmt.{plain_body}
use Rattle.ada_tree.specs.PlainDecl.{PDecl, DTaskBody, decls_of, plain_decl}
use Rattle.normal_model.specs.Ranges.{word_at}
use Rattle.normal_model.specs.NormalTree.{decls_front}
use Rattle.normal_form.specs.declared.unit_declarations.copies.Copied.{Copied}

-- The copy under the name of a task: the objects, the variables behind them, and the statements with their handlers.
abbrev pub copy_under : Copied → NameId → PDecl
copy_under x name = DTaskBody (word_at x.name.span name) (decls_front (decls_of (map plain_decl x.objects.now)) (decls_of (map plain_decl x.vars.now))) (plain_body x.its.now) x.span
