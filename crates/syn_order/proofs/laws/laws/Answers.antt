use Rattle.syn_order.proofs.Carried.{orders_of_all, same_lists_are_alike}
use Rattle.syn_order.proofs.laws.laws.Goals as goal

pub returns : goal.returns
returns c = record { orders = orders_of_all; alike = same_lists_are_alike }
