use Rattle.replay_xform.proofs.Finished.{named}
use Rattle.replay_xform.proofs.text.put_names.Goals as goal

pub returns : goal.returns
returns c = named c.args.q.now c.args.names.now c.add_names.new.names c.deref.result.now c.add_names.result c.requires c.deref.ensures.value c.add_names.ensures
