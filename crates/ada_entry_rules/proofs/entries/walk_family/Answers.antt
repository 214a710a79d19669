use Rattle.std.proofs.Common.{ap, sym, true, option_map}
use Rattle.ada_tree.specs.PlainExpr.{plain_drange}
use Rattle.ada_static_rules.specs.Declaring.{entry_family}
use Rattle.ada_static_rules.specs.Sites.{drange_sites}
use Rattle.ada_static_rules.proofs.Listing.{not_there}
use Rattle.ada_entry_rules.proofs.entries.walk_family.Goals as goal

pub returns-in-None : goal.returns-in-None
returns-in-None c = record {
  family_is = ap (λ o. entry_family c.args.scope.now (option_map plain_drange o)) (sym c.in-None.is);
  refusal_is = not_there (drange_sites true c.args.scope.now) (option_map plain_drange c.args.index.now) (ap (option_map plain_drange) c.in-None.is);
}
