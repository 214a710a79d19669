use Rattle.std.proofs.Common.{◌≡◌, ◌++◌, map}
use Rattle.ada_tree.specs.PlainDecl.{decls_of, plain_decl}
use Rattle.ada_static_rules.specs.Declaring.{after_decls}
use Rattle.ada_static_rules.specs.Sites.{decls_sites}
use Rattle.ada_static_rules.specs.Sooner.{sooner}
use Rattle.ada_static_rules.specs.RefusedFirst.{refused_first}
use Rattle.ada_decl_rules.specs.duplicates.NamingsInOrder.{namings_of}
use Rattle.ada_decl_rules.specs.duplicates.NamedSoFar.{AreAt}
use Rattle.ada_types.proofs.Following.{from}
use Rattle.ada_types.proofs.declarations.walk_decls.Given as goal

-- the notes stand where the scope does, and what is left of the declarations makes the whole: of the scope, of what is refused and of what is named
abbrev pub invariant-loop-decl : goal.invariant-loop-decl
invariant-loop-decl l = record {
  at : AreAt l.scope l.notes;
  scope : after_decls l.scope (from l.decl-index l.decls) ≡ after_decls l.fn.scope (decls_of (map plain_decl l.decls));
  told : sooner l.refusal (refused_first (decls_sites l.scope (from l.decl-index l.decls))) ≡ refused_first (decls_sites l.fn.scope (decls_of (map plain_decl l.decls)));
  noted : l.notes.namings ++ namings_of (decls_sites l.scope (from l.decl-index l.decls)) ≡ l.fn.notes.namings ++ namings_of (decls_sites l.fn.scope (decls_of (map plain_decl l.decls)));
}
