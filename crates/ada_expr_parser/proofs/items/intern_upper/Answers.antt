use Rattle.ada_expr_parser.proofs.NameBytes.{name_is_ascii}
use Rattle.ada_expr_parser.proofs.items.intern_upper.Goals as goal

pub upper_text-requires : goal.upper_text-requires
upper_text-requires c = name_is_ascii _ (rw c.requires.name at c.requires.token.slice)
