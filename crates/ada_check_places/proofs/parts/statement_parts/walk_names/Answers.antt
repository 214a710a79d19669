use Rattle.ada_check_places.proofs.parts.Naming.{names_more, names_end}
use Rattle.ada_check_places.proofs.parts.statement_parts.walk_names.Goals as goal

pub loop-name-preserved : goal.loop-name-preserved
loop-name-preserved c = λ around. names_more c.args.by.now around c.args.names.now c.loop-name.name-index _ _ _ _ _ c.loop-name-test.true (c.loop-name.invariant around) (c.refuse_name.ensures around) c.first-refusal.ensures

pub returns : goal.returns
returns c = λ around. names_end c.args.by.now around c.args.names.now c.loop-name.name-index _ _ c.loop-name-test.false (c.loop-name.invariant around)
