-- The values of `?` at which something holds, as the code keeps them.
use Rattle.std.specs.Prelude.{ℕ, ℤ, Bool, true, false, take, Option, Some, None}
use Rattle.std.specs.List.{list_any}
use Rattle.std.specs.Ordering.{int_eq}
use Rattle.std.specs.Option.{option_map_or}
use Rattle.syn_constraint.specs.declared.constraints.Num.{Num}
use Rattle.syn_constraint.specs.declared.constraints.Num.TheVariants.{Every, Same, Exact}
use Rattle.syn_constraint.specs.declared.constraints.Pattern.{Pattern}
use Rattle.syn_constraint.specs.declared.reach.Reach.{Reach}
use Rattle.syn_constraint.specs.declared.reach.Reach.TheVariants.{Nowhere, Everywhere, At}
use Rattle.syn_constraint.specs.Matching.{asked_of}
use Rattle.syn_constraint.specs.Lines.{number_count}

-- it holds at this value
abbrev pub reaches : Reach → Option ℤ → Bool
reaches Nowhere value = false
reaches Everywhere value = true
reaches (At z) value = option_map_or (int_eq z) value false

-- the one value at which it holds, or none where it holds at others too
abbrev pub value_of : Reach → Option ℤ
value_of Nowhere = None
value_of Everywhere = None
value_of (At z) = Some z

-- a number is asked to be the value
abbrev pub is_same : Num → Bool
is_same Every = false
is_same Same = true
is_same (Exact z) = false

-- one of the numbers that the letter of the pattern has is asked to be the value
abbrev pub asks_same : Pattern → Bool
asks_same pattern = list_any is_same (take (number_count pattern.letter) (asked_of pattern))
