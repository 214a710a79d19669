-- A body as it is declared.
use Rattle.std.specs.Prelude.{map}
use Rattle.ada_tree.specs.PlainStmt.{plain_body}
use Rattle.ada_tree.specs.PlainDecl.{PDecl, DTaskBody, decls_of, plain_decl}
use Rattle.normal_form.specs.declared.body_copies.BodyDecl.{BodyDecl}

abbrev pub seen_body : BodyDecl → PDecl
seen_body x = DTaskBody x.name (decls_of (map plain_decl x.objects.now)) (plain_body x.body.now) x.span
