use Rattle.std.proofs.Common.{length}
use Rattle.input_file.proofs.Reading.{InputsReadTo}
use Rattle.input_file.proofs.inputs.read_inputs.Given as goal

-- the file is read up to the rest
abbrev pub invariant-loop-rest : goal.invariant-loop-rest
invariant-loop-rest l = InputsReadTo l.numbers l.bytes l.table l.rest l.number

abbrev pub decreases-loop-rest : goal.decreases-loop-rest
decreases-loop-rest l = length l.rest
