use Rattle.std.proofs.Common.{◌++◌, sym, map, refl}
use Rattle.ada_tree.specs.PlainDecl.{decls_of, plain_decl}
use Rattle.ada_static_rules.specs.Sites.{decls_sites}
use Rattle.ada_decl_rules.specs.duplicates.NamingsInOrder.{namings_of}
use Rattle.ada_decl_rules.proofs.duplicates.Behind.{at_next, noted_next, noted_all}
use Rattle.ada_types.proofs.Following.{decls_scope, decls_told, decls_done}
use Rattle.ada_types.proofs.declarations.walk_decls.Goals as goal

pub loop-decl-preserved : goal.loop-decl-preserved
loop-decl-preserved c =
    let xs = c.args.decls.now in
    let i = c.loop-decl.decl-index in
    let before = c.loop-decl.invariant in
    let walked = c.in_ok-walked.ensures in
    record {
      at = at_next c.loop-decl.scope _ c.loop-decl.notes _ _ (plain_decl c.decl-item.result) before.at (sym walked.of_tasks_is) c.in_ok-note.ensures walked.scope_is;
      scope = decls_scope xs i c.decl-item.result _ _ _ c.loop-decl-test.true c.decl-item.is before.scope walked.scope_is;
      told = decls_told xs i c.decl-item.result _ _ _ _ _ _ c.loop-decl-test.true c.decl-item.is before.told walked.scope_is walked.refusal_is c.first-refusal.ensures;
      noted = noted_next c.loop-decl.scope _ c.loop-decl.notes _ _ _ xs i c.decl-item.result c.loop-decl-test.true c.decl-item.is before.at (sym walked.of_tasks_is) c.in_ok-note.ensures walked.scope_is before.noted;
    }

pub returns-clause-walked : goal.returns-clause-walked
returns-clause-walked c =
    decls_done c.args.decls.now c.loop-decl.decl-index c.args.scope c.loop-decl.scope c.loop-decl.refusal _ c.loop-decl-test.false refl c.loop-decl.invariant.scope c.loop-decl.invariant.told

pub returns-clause-noted : goal.returns-clause-noted
returns-clause-noted c =
    noted_all c.loop-decl.scope c.loop-decl.notes (c.args.notes.now.namings ++ namings_of (decls_sites c.args.scope (decls_of (map plain_decl c.args.decls.now)))) c.args.decls.now c.loop-decl.decl-index c.loop-decl-test.false c.loop-decl.invariant.noted
