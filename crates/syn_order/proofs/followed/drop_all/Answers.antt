use Rattle.std.proofs.Common.{[]}
use Rattle.syn_order.proofs.Placing.{set_there}
use Rattle.syn_order.proofs.followed.drop_all.Goals as goal

pub returns : goal.returns
returns c = set_there c.args.callers.now.items c.args.place c.clear.new.self [] c.clear.ensures.items
