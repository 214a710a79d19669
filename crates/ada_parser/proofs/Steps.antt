-- How what the code's readers answer fits together.
use Rattle.ada_expr_parser.proofs.Steps.{fails_go_on}
use Rattle.ada_decl_parser.proofs.DeclSteps.{fronted_none}

pub ruleset steps = (fails_go_on)

pub ruleset rows = (fails_go_on, fronted_none)
