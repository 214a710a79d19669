use Rattle.debug_judge.proofs.order_law.Sequences.{neighbours_exchange, alike_are_same, lists_are_same, orders_are_judged, judged_is_admitted, completions_are_apart}
use Rattle.debug_judge.proofs.order_law.laws.Goals as goal

pub returns : goal.returns
returns c = record {
  neighbours = neighbours_exchange;
  alike = alike_are_same;
  lists = lists_are_same;
  orders = orders_are_judged;
  judged = judged_is_admitted;
  met = completions_are_apart;
}
