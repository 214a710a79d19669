use Rattle.ada_expr_parser.specs.readers.Exactness.{Told}
use Rattle.ada_expr_parser.proofs.readers.Exactly.{reads_whole}
use Rattle.ada_expr_parser.proofs.readers.laws.Goals as goal

pub returns : goal.returns
returns g c = record { whole = λ ends p told s stop laws. reads_whole ends (Told told) s stop p laws }
