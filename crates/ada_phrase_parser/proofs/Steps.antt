-- How what the code's readers answer fits together.
use Rattle.ada_expr_parser.proofs.Steps.{fails_go_on}
use Rattle.ada_phrase_parser.proofs.Named.{deeper_is, index_named, named_start}

pub ruleset steps = (fails_go_on, deeper_is, index_named, named_start)
