-- How what the code's readers answer fits together.
use Rattle.ada_expr_parser.proofs.Steps.{fails_go_on}
use Rattle.ada_phrase_parser.proofs.Named.{deeper_is, named_start}
use Rattle.ada_simple_stmt_parser.proofs.Got.{got_named, got_full}

pub ruleset steps = (fails_go_on, deeper_is, got_named, named_start, got_full)
