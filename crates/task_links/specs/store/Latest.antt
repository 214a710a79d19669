-- The latest variable.
use Rattle.std.specs.Prelude.{[], ◌∷◌}
use Rattle.ada_value.specs.declared.values.Value.{Value}
use Rattle.ada_value.specs.Variables.{Variables, with_value}

-- The variables after the latest of them has got a value at its first place.
abbrev pub with_latest : Variables → Value → Variables
with_latest [] v = []
with_latest (o ∷ rest) v = with_value o 0 v ∷ rest
