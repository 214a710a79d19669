use Rattle.std.proofs.Common.{ap}
use Rattle.std.specs.Map.{lookup}
use Rattle.std.specs.Ordering.{int_eq}
use Rattle.syn_constraint.proofs.Noted.{none-set}
use Rattle.syn_constraint.proofs.by_value.ByValue.new.Goals as goal

pub returns : goal.returns
returns c = λ value.
    none-set c.in_ok-low.low.items 4096 _ c.in_ok-low.ensures (ap (lookup (int_eq value)) c.new.ensures.empty) value
