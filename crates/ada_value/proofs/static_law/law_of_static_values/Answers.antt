use Rattle.ada_value.proofs.StaticLaws.{static_law}
use Rattle.ada_value.proofs.static_law.law_of_static_values.Goals as goal

pub returns : goal.returns
returns c = static_law
