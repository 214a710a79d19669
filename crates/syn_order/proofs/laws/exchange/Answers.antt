use Rattle.syn_order.proofs.exchange.Telling.{law_of_exchange, law_of_alike, law_of_lists, feasible_are_admitted}
use Rattle.syn_order.proofs.exchange.Examples.{three_are_exchanged}
use Rattle.syn_order.proofs.laws.exchange.Goals as goal

pub returns : goal.returns
returns g c = record {
  neighbours = law_of_exchange;
  alike = law_of_alike;
  lists = law_of_lists;
  admitted = feasible_are_admitted;
  example = three_are_exchanged;
}
