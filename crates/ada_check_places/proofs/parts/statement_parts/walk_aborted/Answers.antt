use Rattle.std.proofs.Common.{◌+◌, ◌==◌, length, refl}
use Rattle.ada_check_places.proofs.parts.Naming.{aborted_more, aborted_end}
use Rattle.ada_check_places.proofs.parts.statement_parts.walk_aborted.Goals as goal

pub loop-place-preserved : goal.loop-place-preserved
loop-place-preserved c =
    aborted_more c.args.by.now c.args.around.now c.args.k c.args.names.now c.loop-place.place c.index-names-place.result (c.loop-place.place + 1 == length c.args.names.now) _ _ _ _ c.loop-place-test.true c.index-names-place.is c.loop-place.invariant
    c.in_ok-found.ensures refl c.first-refusal.ensures

pub returns : goal.returns
returns c = aborted_end c.args.by.now c.args.around.now c.args.k c.args.names.now c.loop-place.place _ _ c.loop-place-test.false c.loop-place.invariant
