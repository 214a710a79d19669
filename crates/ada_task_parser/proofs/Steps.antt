-- How what the code's readers answer fits together.
use Rattle.ada_expr_parser.proofs.Steps.{fails_go_on}

pub ruleset steps = (fails_go_on)
