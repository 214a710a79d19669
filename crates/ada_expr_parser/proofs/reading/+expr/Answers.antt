use Rattle.std.proofs.Common.{arith}
use Rattle.ada_expr_parser.specs.declared.levels.Level.TheVariants.{Logical, Relation, Simple, Term, Factor}
use Rattle.ada_expr_parser.specs.Reading.{inner, relation_at, simple_at, signed_at, factor_at}
use Rattle.ada_expr_parser.proofs.Steps.{chained}
use Rattle.ada_expr_parser.proofs.Chains.{chain_further, chain_to, chain_too_deep}
use Rattle.ada_expr_parser.proofs.reading.+expr.Goals as goal

pub logical-returns-clause-tree : goal.logical-returns-clause-tree
logical-returns-clause-tree m c =
    chained _ _ c.more.result Logical c.args.depth _ (relation_at c.args.depth (inner c.args.depth)) (inner c.args.depth Relation) c.args.items.now _ _ c.in_ok-left.ensures.tree c.more.ensures.tree

pub relation-returns-clause-tree : goal.relation-returns-clause-tree
relation-returns-clause-tree m c =
    chained _ _ c.more.result Relation c.args.depth _ (simple_at c.args.depth (inner c.args.depth)) (inner c.args.depth Simple) c.args.items.now _ _ c.in_ok-left.ensures.tree c.more.ensures.tree

pub simple-returns-clause-tree : goal.simple-returns-clause-tree
simple-returns-clause-tree m c =
    chained _ _ c.more.result Simple c.args.depth _ (signed_at c.args.depth (inner c.args.depth)) (inner c.args.depth Term) c.args.items.now _ _ c.in_ok-left.ensures.tree c.more.ensures.tree

pub term-returns-clause-tree : goal.term-returns-clause-tree
term-returns-clause-tree m c =
    chained _ _ c.more.result Term c.args.depth _ (factor_at c.args.depth (inner c.args.depth)) (inner c.args.depth Factor) c.args.items.now _ _ c.in_ok-left.ensures.tree c.more.ensures.tree

pub more-returns-clause-tree : goal.more-returns-clause-tree
more-returns-clause-tree m c = λ turns enough.
    chain_to _ _ c.further.result c.args.level c.args.depth turns _ c.args.items.now _ c.last_operator-last.result c.in-Some.op c.args.height
    c.in-len1-up.len_at_least c.last_operator-last.ensures c.in-Some.ensures c.requires.height c.if-depth-height.false enough c.further.ensures.tree

pub more-returns-then-depth-height-clause-tree : goal.more-returns-then-depth-height-clause-tree
more-returns-then-depth-height-clause-tree m c = λ turns enough.
    chain_too_deep c.args.level c.args.depth turns _ c.args.items.now _ c.last_operator-last.result c.in-Some.op c.args.height
    c.in-len1-up.len_at_least c.last_operator-last.ensures c.in-Some.ensures c.requires.height c.if-depth-height.true

pub further-returns-clause-tree : goal.further-returns-clause-tree
further-returns-clause-tree m c = λ turns enough.
    chain_further _ _ c.more.result c.args.level c.args.depth turns _ c.args.last c.args.op c.in_ok-op.op c.args.items.now _ _ _ _ c.args.height c.in_ok-right.other
    enough c.in_ok-op.ensures.tree c.in_ok-right.ensures.tree c.in_ok-node.ensures (λ t still. c.more.ensures.tree t (omega (arith, still, c.max.ensures)))
