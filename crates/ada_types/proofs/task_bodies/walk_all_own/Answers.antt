use Rattle.std.proofs.Common.{refl}
use Rattle.ada_types.proofs.Following.{own_scope, own_told, own_done}
use Rattle.ada_types.proofs.task_bodies.walk_all_own.Goals as goal

pub loop-decl-preserved : goal.loop-decl-preserved
loop-decl-preserved c =
    let xs = c.args.objects.now in
    let i = c.loop-decl.decl-index in
    let before = c.loop-decl.invariant in
    let walked = c.in_ok-walked.ensures in
    record {
      scope = own_scope xs i c.decl-item.result _ _ _ c.loop-decl-test.true c.decl-item.is before.scope walked.scope_is;
      told = own_told xs i c.decl-item.result _ _ _ _ _ _ c.loop-decl-test.true c.decl-item.is before.told walked.scope_is walked.refusal_is c.first-refusal.ensures;
    }

pub returns : goal.returns
returns c =
    own_done c.args.objects.now c.loop-decl.decl-index c.args.scope c.loop-decl.scope c.loop-decl.refusal _ c.loop-decl-test.false refl c.loop-decl.invariant.scope c.loop-decl.invariant.told
