use Rattle.std.proofs.Common.{refl}
use Rattle.normal_lookups.proofs.Forming.{slots_more}
use Rattle.normal_lookups.proofs.entry_forms.marks_of.Goals as goal

pub loop-formal-preserved : goal.loop-formal-preserved
loop-formal-preserved c =
    slots_more (λ x. x.mark) c.args.formals.now c.loop-formal.formal-index c.formal-item.result c.formal-item.result.mark c.deref.result.now c.loop-formal.marks.items c.add_each.new.list.items
    c.loop-formal-test.true c.formal-item.is refl c.deref.ensures.value c.loop-formal.invariant c.in_ok-add_each.ensures
