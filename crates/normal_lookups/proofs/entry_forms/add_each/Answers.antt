use Rattle.normal_lookups.proofs.Forming.{each_more}
use Rattle.normal_lookups.proofs.entry_forms.add_each.Goals as goal

pub loop-name-preserved : goal.loop-name-preserved
loop-name-preserved g c = each_more _ c.args.names.now c.loop-name._name-index c.args.list.now.items c.loop-name.list.items c.push.new.self.items c.loop-name-test.true c.loop-name.invariant c.in_ok-push.ensures.items
