use Rattle.std.proofs.Common.{◌+◌, ◌∙◌, drop, arith}
use Rattle.debug_run.specs.texts.CheckText.{entry_line, entry_lines}
use Rattle.debug_run.specs.texts.RunText.{lines_at}
use Rattle.debug_run.proofs.texts.Lining.{no_entry, lines_more, lines_stop, lines_all, lines_beyond}
use Rattle.debug_run.proofs.texts.check_text.put_entries.Goals as goal

pub loop-k-preserved : goal.loop-k-preserved
loop-k-preserved g c = (
  lines_more _ _ _ (λ place info. entry_line c.args.names.now (place + 1) info) c.args.entries.now c.loop-k.k no_entry (g.K.Sink.told c.args.out.now) (g.K.Sink.told c.loop-k.out) (g.K.Sink.told c.put_entry.new.out)
      (entry_lines c.args.names.now c.args.entries.now) c.loop-k-test.true c.loop-k.invariant.0 c.in-Ok.ensures.bytes,
  c.in-Ok.ensures.cause ∙ c.loop-k.invariant.1,
)

pub returns-in-Err-clause-bytes : goal.returns-in-Err-clause-bytes
returns-in-Err-clause-bytes g c =
    lines_stop _ c.in-Err.e (λ place info. entry_line c.args.names.now (place + 1) info) c.args.entries.now c.loop-k.k no_entry (g.K.Sink.told c.args.out.now) (g.K.Sink.told c.loop-k.out) (g.K.Sink.told c.put_entry.new.out)
    (entry_lines c.args.names.now c.args.entries.now) c.loop-k-test.true c.loop-k.invariant.0 c.in-Err.ensures.bytes

pub returns-clause-bytes : goal.returns-clause-bytes
returns-clause-bytes g c =
    lines_all _ _ _ (g.K.Sink.told c.args.out.now) (g.K.Sink.told c.loop-k.out) (entry_lines c.args.names.now c.args.entries.now)
    (lines_at (λ place info. entry_line c.args.names.now (place + 1) info) c.loop-k.k (drop c.loop-k.k c.args.entries.now)) c.loop-k.invariant.0
    (lines_beyond (λ place info. entry_line c.args.names.now (place + 1) info) c.args.entries.now c.loop-k.k (omega arith))
