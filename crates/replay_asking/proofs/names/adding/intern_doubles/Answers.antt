use Rattle.replay_model.specs.Names.{double_texts}
use Rattle.replay_asking.proofs.names.Declared.{doubles_more}
use Rattle.replay_asking.proofs.names.adding.intern_doubles.Goals as goal

pub loop-decl-preserved : goal.loop-decl-preserved
loop-decl-preserved c =
    doubles_more (double_texts c.args.originals.now) c.args.names.now c.args.decls.now c.loop-decl.decl-index c.decl-item.result _ _ c.loop-decl-test.true c.decl-item.is c.loop-decl.invariant c.in_ok-intern_decl.ensures
