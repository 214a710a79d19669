use Rattle.collect_runs.proofs.aborts.forms.Collecting.{legal_texts_tell, legal_texts_collect}
use Rattle.collect_runs.proofs.aborts.forms.laws.Goals as goal

pub returns : goal.returns
returns c = record { tell = legal_texts_tell; collect = legal_texts_collect }
