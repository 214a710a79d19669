use Rattle.std.proofs.Common.{length}
use Rattle.input_file.proofs.Reading.{ChoicesReadTo}
use Rattle.input_file.proofs.choices.read_choices.Given as goal

-- the file is read up to the rest
abbrev pub invariant-loop-rest : goal.invariant-loop-rest
invariant-loop-rest l = ChoicesReadTo l.bytes l.choices.items l.rest l.number

abbrev pub decreases-loop-rest : goal.decreases-loop-rest
decreases-loop-rest l = length l.rest
