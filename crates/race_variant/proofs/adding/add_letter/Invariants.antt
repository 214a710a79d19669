use Rattle.std.specs.Option.{option_copied}
use Rattle.race_variant.specs.inner.Passing.{AreFound, seen_at}
use Rattle.race_variant.specs.inner.Proposing.{place_of}
use Rattle.race_variant.proofs.adding.add_letter.Given as goal

-- the tasks gone by have had their turn
abbrev pub invariant-loop-t : goal.invariant-loop-t
invariant-loop-t l = AreFound l.numbers (seen_at l.j.tasks l.settled) (option_copied l.skip) (place_of l.letter) l.t l.found.items
