use Rattle.std.proofs.Common.{refl}
use Rattle.seq_file.proofs.ByLines.{step-start}
use Rattle.seq_file.proofs.stepping.SeqLines.new.Goals as goal

pub returns-in-Ok-clause-opened : goal.returns-in-Ok-clause-opened
returns-in-Ok-clause-opened c = record {
  short = c.behind_header.ensures.short;
  read = step-start c.args.bytes.now c.args.numbers.now c.args.names.now c.in-Ok.rest.now c.behind_header.ensures.short c.in-Ok.ensures.read;
  same = refl;
  count = refl;
  ended = refl;
  going = refl;
}
