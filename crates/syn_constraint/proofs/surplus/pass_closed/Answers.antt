use Rattle.std.proofs.Common.{◌<◌, length, refl, arith}
use Rattle.syn_constraint.proofs.Noted.{closed-next}
use Rattle.syn_constraint.proofs.surplus.pass_closed.Goals as goal

pub loop-next-preserved : goal.loop-next-preserved
loop-next-preserved c = record {
  passed =
      closed-next c.args.openings.now c.args.closed.now c.args.limit c.args.count c.args.oldest c.loop-next.next c.loop-next.invariant.passed c.loop-next-test.ensures.passed;
  within = λ _. let low : c.loop-next.next < length c.args.openings.now = c.loop-next-test.ensures.within refl in omega (arith, low);
}
