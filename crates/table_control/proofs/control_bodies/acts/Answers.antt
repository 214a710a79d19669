use Rattle.std.proofs.Common.{sym}
use Rattle.replay_model.specs.tables.Columns.{is_hold}
use Rattle.table_control.proofs.Lists.{up-to-first, all-before}
use Rattle.table_control.proofs.control_bodies.acts.Goals as goal

pub returns-in-Some : goal.returns-in-Some
returns-in-Some c = up-to-first is_hold c.args.ops.now c.in-Some.place (sym c.in-Some.ensures.place)

pub returns-in-None : goal.returns-in-None
returns-in-None c = all-before is_hold c.args.ops.now (sym c.in-None.ensures.place)
