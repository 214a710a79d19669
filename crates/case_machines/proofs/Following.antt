-- What a file of events says of its end is what the judge asks of the events.
use Rattle.std.proofs.Common.{List, [], ◌∷◌}
use Rattle.event_machine.specs.declared.Event.{Event}
use Rattle.seq_file.specs.Files.{NothingFollowsEnd}
use Rattle.seq_file.proofs.EndLemmas.{last_is_end}
use Rattle.feasible.specs.Keeping.{NothingFollows}

pub nothing_follows : (events : List Event) → NothingFollowsEnd events → NothingFollows events
nothing_follows [] h = tt
nothing_follows (e ∷ rest) h = (λ last. h.0 (last_is_end e last), nothing_follows rest h.1)
