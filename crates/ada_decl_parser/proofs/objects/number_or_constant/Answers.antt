use Rattle.std.proofs.Common.{◌<◌, ◌≡◌, length, arith}
use Rattle.ada_decl_parser.proofs.DeclSteps.{one_named, more_named}
use Rattle.ada_decl_parser.proofs.objects.number_or_constant.Goals as goal

pub returns-then-count-eq1-clause-tree : goal.returns-then-count-eq1-clause-tree
returns-then-count-eq1-clause-tree c =
    let one : length c.args.names.items ≡ 1 = search arith in
    rw (one_named c.args.depth c.args.names.items c.args.items.now c.index-first.result.now one c.index-first.ensures) c.number_rest.ensures.tree

pub returns-clause-tree : goal.returns-clause-tree
returns-clause-tree c =
    let more : 1 < length c.args.names.items = search arith in
    rw (more_named c.args.depth c.args.names.items c.args.items.now c.index-first.result.now more c.index-first.ensures) c.constant_rest.ensures.tree
