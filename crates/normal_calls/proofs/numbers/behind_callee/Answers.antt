use Rattle.normal_calls.proofs.Places.{number-behind}
use Rattle.normal_calls.proofs.numbers.behind_callee.Goals as goal

pub returns : goal.returns
returns g c = number-behind c.behind.result c.is_some.result c.moving_index.result _ _ c.args.number c.behind.ensures c.is_some.ensures c.moving_index.ensures
