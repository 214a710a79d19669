use Rattle.std.proofs.Common.{None}
use Rattle.ada_tree.specs.PlainDecl.{plain_decl}
use Rattle.collect_model.specs.FirstAbort.{with_decl}
use Rattle.collect_xform.proofs.Finding.{fold-turn}
use Rattle.collect_xform.proofs.aborts.behind_decls.Goals as goal

pub loop-decl-preserved : goal.loop-decl-preserved
loop-decl-preserved c =
    fold-turn plain_decl with_decl c.args.decls.now c.loop-decl.decl-index c.decl-item.result None c.loop-decl.found c.behind_decl-found.result c.loop-decl-test.true c.decl-item.is c.loop-decl.invariant c.behind_decl-found.ensures
