use Rattle.ada_check_rules.proofs.rules.Listing.{cut}
use Rattle.ada_check_rules.proofs.rules.CountLaws.{formals_more, formals_end}
use Rattle.ada_check_rules.proofs.rules.counting.refuse_formals.Goals as goal

pub loop-formal-preserved : goal.loop-formal-preserved
loop-formal-preserved c = λ around.
    formals_more c.args.by.now around c.args.formals.now c.loop-formal.formal-index c.formal-item.result c.deref.result.now _ _ _ (cut c.args.formals.now c.loop-formal.formal-index c.formal-item.result c.loop-formal-test.true c.formal-item.is) c.deref.ensures.value (c.loop-formal.invariant around) (c.count_names-counted.ensures around)

pub returns : goal.returns
returns c = λ around. formals_end c.args.by.now around c.args.formals.now c.loop-formal.formal-index _ _ _ c.loop-formal-test.false (c.loop-formal.invariant around)
