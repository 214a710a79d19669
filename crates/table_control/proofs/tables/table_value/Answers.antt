use Rattle.table_control.proofs.Shapes.{value-listed, value-others}
use Rattle.table_control.proofs.tables.table_value.Goals as goal

pub returns-then-made-eq1 : goal.returns-then-made-eq1
returns-then-made-eq1 c = value-others c.args.s c.args.column c.args.made.now _ c.said.result c.others_of.result c.if-made-eq1.true c.others_of.ensures c.said.ensures

pub returns : goal.returns
returns c = value-listed c.args.s c.args.column c.args.made.now c.parts.result c.list_of.result c.if-made-eq1.false c.list_of.ensures c.parts.ensures
