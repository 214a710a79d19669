use Rattle.replay_xform.proofs.numbering.Spoken.{empty-double}
use Rattle.replay_xform.proofs.numbering.origins.double_name.Goals as goal

pub returns-in-None-clause-id : goal.returns-in-None-clause-id
returns-in-None-clause-id c = empty-double c.args.names.now c.args.name c.find_double-in-None.result c.in-None.ensures.text c.find_double-in-None.ensures.id
