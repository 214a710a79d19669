use Rattle.std.proofs.Common.{rules}
use Rattle.seq_file.proofs.Nexting.{next-by_line}
use Rattle.seq_file.proofs.reading.next_event.Goals as goal

pub returns-clause-read : goal.returns-clause-read
returns-clause-read c = next-by_line c.args.numbers.now c.args.ended c.args.count c.args.rest.now (λ b. b.now) c.line_event.result c.if-ended.false (search rules) c.line_event.ensures.read
