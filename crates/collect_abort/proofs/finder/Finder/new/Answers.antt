use Rattle.collect_abort.proofs.finder.Finder.new.Goals as goal

pub invariant_of-result : goal.invariant_of-result
invariant_of-result c = rw c.in_ok-insert_all.ensures.texts c.in_ok-insert_all.ensures.names
