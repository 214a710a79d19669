use Rattle.std.proofs.Common.{◌≡◌, ◌+◌, map, take}
use Rattle.seq_file.specs.Lists.{listed, most_listed}
use Rattle.debug_sequence.proofs.migrating.are_too_many.Given as goal

-- the room that is left, and the events of the lists so far
abbrev pub invariant-loop-list : goal.invariant-loop-list
invariant-loop-list l = l.room + listed (take l.list-index (map (λ v. v.items) l.lists)) ≡ most_listed
