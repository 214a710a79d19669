use Rattle.std.proofs.Common.{sym, subst}
use Rattle.ada_parser.specs.Refusals.{IsRefusedFor}
use Rattle.ada_parser.proofs.Answering.{unsplit_for}
use Rattle.ada_parser.proofs.reading.read_bytes.Goals as goal

pub returns-in-Err-clause-refused : goal.returns-in-Err-clause-refused
returns-in-Err-clause-refused c = subst (IsRefusedFor c.args.bytes.now) (sym c.of_tokens.ensures) (unsplit_for c.args.bytes.now c.in-Err.fault c.in-Err.ensures.first_fault)
