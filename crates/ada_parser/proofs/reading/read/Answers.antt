use Rattle.ada_parser.proofs.Answering.{placed, only_read, only_syntax, only_deep, only_fault}
use Rattle.ada_parser.proofs.reading.read.Goals as goal

pub returns-clause-placed : goal.returns-clause-placed
returns-clause-placed c = placed c.args.bytes.now c.read_bytes.result c.read_bytes.ensures.read

pub returns-clause-only_read : goal.returns-clause-only_read
returns-clause-only_read c = only_read c.args.bytes.now c.read_bytes.result c.read_bytes.ensures.read c.read_bytes.ensures.refused

pub returns-clause-only_syntax : goal.returns-clause-only_syntax
returns-clause-only_syntax c = only_syntax c.args.bytes.now c.read_bytes.result c.read_bytes.ensures.read c.read_bytes.ensures.refused

pub returns-clause-only_deep : goal.returns-clause-only_deep
returns-clause-only_deep c = only_deep c.args.bytes.now c.read_bytes.result c.read_bytes.ensures.read c.read_bytes.ensures.refused

pub returns-clause-only_fault : goal.returns-clause-only_fault
returns-clause-only_fault c = only_fault c.args.bytes.now c.read_bytes.result c.read_bytes.ensures.read c.read_bytes.ensures.refused
