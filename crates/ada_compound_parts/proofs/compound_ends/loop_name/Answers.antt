use Rattle.ada_compound_parts.proofs.Steps.{loop_none}
use Rattle.ada_compound_parts.proofs.compound_ends.loop_name.Goals as goal

pub returns-in-None-clause-tree : goal.returns-in-None-clause-tree
returns-in-None-clause-tree c = loop_none _ _ c.loop_close.result c.args.name _ c.args.items.now c.in-None.is c.loop_close.ensures.tree
