use Rattle.replay_model.specs.tables.ControlTexts.{with_control_names}
use Rattle.table_control.proofs.names.control_names.Goals as goal

pub returns-clause-texts : goal.returns-clause-texts
unfolding with_control_names
returns-clause-texts c = c.in_ok-kind.ensures.texts
