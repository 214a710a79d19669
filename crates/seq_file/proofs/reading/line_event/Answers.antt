use Rattle.std.proofs.Common.{sym}
use Rattle.seq_file.specs.Lines.{event_of_line}
use Rattle.seq_file.proofs.Nexting.{verdict-known}
use Rattle.seq_file.proofs.reading.line_event.Goals as goal

pub returns-in-Known-clause-read : goal.returns-in-Known-clause-read
returns-in-Known-clause-read c =
    let known = verdict-known c.args.numbers.now (event_of_line c.in-Some.line.now) c.in-Known.event c.in-Known.ensures in
    record {
      line = c.in-Some.line.now;
      cuts = sym c.in-Some.ensures.cut;
      writes = known.0;
      known = known.1;
    }
