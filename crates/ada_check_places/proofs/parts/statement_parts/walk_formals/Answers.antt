use Rattle.ada_check_places.proofs.parts.Naming.{formals_more, formals_end}
use Rattle.ada_check_places.proofs.parts.statement_parts.walk_formals.Goals as goal

pub loop-formal-preserved : goal.loop-formal-preserved
loop-formal-preserved c = λ around.
    formals_more c.args.by.now around c.args.formals.now c.loop-formal.formal-index c.formal-item.result _ _ _ _ _ c.loop-formal-test.true c.formal-item.is (c.loop-formal.invariant around) (c.walk_names.ensures around) c.deref.ensures.value c.first-refusal.ensures

pub returns : goal.returns
returns c = λ around. formals_end c.args.by.now around c.args.formals.now c.loop-formal.formal-index _ _ c.loop-formal-test.false (c.loop-formal.invariant around)
