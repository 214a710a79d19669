use Rattle.std.proofs.Common.{ap, option_map}
use Rattle.ada_tree.specs.PlainDecl.{plain_init}
use Rattle.ada_decl_rules.specs.objects.inner.Initials.{holder_sites}
use Rattle.ada_static_rules.proofs.Listing.{not_there}
use Rattle.ada_decl_rules.proofs.objects.objects.walk_init_if.Goals as goal

pub returns-in-None : goal.returns-in-None
returns-in-None c = not_there (holder_sites c.args.scope.now c.args.holder) _ (ap (option_map plain_init) c.in-None.is)
