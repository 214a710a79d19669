use Rattle.replay_asking.specs.names.Added.{with_added}
use Rattle.replay_asking.proofs.names.adding.intern_added.Goals as goal

pub returns : goal.returns
unfolding with_added
returns c = c.intern_all.ensures
