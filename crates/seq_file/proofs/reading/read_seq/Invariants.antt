use Rattle.std.proofs.Common.{length}
use Rattle.seq_file.proofs.Filing.{IsReadTo}
use Rattle.seq_file.proofs.reading.read_seq.Given as goal

-- the file is read up to the rest
abbrev pub invariant-loop-rest : goal.invariant-loop-rest
invariant-loop-rest l = IsReadTo l.bytes l.numbers l.names l.events.items l.rest l.ended

abbrev pub decreases-loop-rest : goal.decreases-loop-rest
decreases-loop-rest l = length l.rest
