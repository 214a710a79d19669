use Rattle.ada_decl_parser.proofs.DeclSteps.{named_named}
use Rattle.ada_decl_parser.proofs.objects.named_rest.Goals as goal

pub returns-clause-tree : goal.returns-clause-tree
returns-clause-tree c =
    rw (named_named c.args.depth c.args.names.items c.args.items.now c.index.result.now c.requires.some c.index.ensures) c.named_from.ensures.tree
