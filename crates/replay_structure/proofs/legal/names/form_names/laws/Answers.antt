use Rattle.replay_structure.proofs.legal.names.form_names.Whole.{legal_has_form_names}
use Rattle.replay_structure.proofs.legal.names.form_names.laws.Goals as goal

pub returns : goal.returns
returns c = record { named = legal_has_form_names }
