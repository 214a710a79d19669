use Rattle.ada_decl_parser.proofs.DeclSteps.{object_named}
use Rattle.ada_decl_parser.proofs.objects.object_rest.Goals as goal

pub returns-clause-tree : goal.returns-clause-tree
returns-clause-tree c =
    rw (object_named c.args.depth c.args.names.items c.args.items.now c.index.result.now c.requires.some c.index.ensures) c.object_from.ensures.tree
