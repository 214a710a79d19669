use Rattle.std.proofs.Common.{ap, map, flat_map, option_map}
use Rattle.ada_tree.specs.PlainExpr.{plain_expr}
use Rattle.ada_static_rules.specs.Sites.{expr_sites}
use Rattle.ada_static_rules.proofs.Listing.{not_there}
use Rattle.ada_entry_rules.proofs.actuals.walk_second.Goals as goal

pub returns-in-None : goal.returns-in-None
returns-in-None c = not_there (flat_map (expr_sites c.args.scope.now)) _ (ap (option_map (λ v. map plain_expr v.items)) c.in-None.is)
