use Rattle.std.proofs.Common.{ap, option_map}
use Rattle.ada_tree.specs.PlainStmt.{plain_args}
use Rattle.ada_static_rules.specs.Sites.{args_sites}
use Rattle.ada_scopes.specs.Entries.{plain_entry}
use Rattle.ada_static_rules.proofs.Listing.{not_there}
use Rattle.ada_entry_rules.proofs.calls.walk_lists.Goals as goal

pub returns-in-None : goal.returns-in-None
returns-in-None c = not_there (args_sites c.args.scope.now (option_map (λ e. plain_entry e.now) c.args.entry)) _ (ap (option_map plain_args) c.in-None.is)
