use Rattle.std.proofs.Common.{◌≡◌, [], Err, refl}
use Rattle.debug_outcome.specs.Delivery.{Sides}
use Rattle.debug_core.proofs.Calling.{no_words}
use Rattle.debug_core.proofs.top.debug_program.Goals as goal

pub returns-in-Err : goal.returns-in-Err
returns-in-Err g c =
    let s : Sides = record {
      files = g.F.Files.told c.args.files.now;
      file_faults = g.F.Files.faults c.args.files.now;
      file_faults' = g.F.Files.faults c.args.files.now;
      loads = [];
      out = g.O.Sink.told c.args.out.now;
      out' = g.O.Sink.told c.args.out.now;
      out_faults = g.O.Sink.faults c.args.out.now;
      out_faults' = g.O.Sink.faults c.args.out.now;
      err = g.E.Sink.told c.args.err.now;
      err' = g.E.Sink.told c.tell_no_words.new.err;
      err_faults = g.E.Sink.faults c.args.err.now;
      err_faults' = g.E.Sink.faults c.tell_no_words.new.err;
    } in
    let e : c.args.words ≡ Err c.in-Err.why = c.in-Err.is in
    record { answer = record { loads = []; led = refl; is_so = rw e (no_words c.in-Err.why s c.tell_no_words.result refl refl c.tell_no_words.ensures) } }
