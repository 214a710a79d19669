use Rattle.collect_model.specs.Names.{with_added}
use Rattle.collect_xform.proofs.names.add_names.Goals as goal

pub returns : goal.returns
unfolding with_added
returns c = c.intern_all.ensures
