use Rattle.ada_check_places.proofs.parts.Naming.{numbers_more, numbers_end}
use Rattle.ada_check_places.proofs.parts.waits.refuse_many.Goals as goal

pub loop-place-preserved : goal.loop-place-preserved
loop-place-preserved c = λ around.
    numbers_more c.args.by.now around c.args.alts.now c.loop-place.place c.index-alts-place.result _ _ _ _ c.loop-place-test.true c.index-alts-place.is (c.loop-place.invariant around) (c.refuse_count-found.ensures around) c.first-refusal.ensures

pub returns : goal.returns
returns c = λ around. numbers_end c.args.by.now around c.args.alts.now c.loop-place.place _ _ c.loop-place-test.false (c.loop-place.invariant around)
