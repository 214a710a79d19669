use Rattle.replay_xform.proofs.numbering.Spoken.{doubled-turn}
use Rattle.replay_xform.proofs.numbering.origins.doubled.Goals as goal

pub loop-info-preserved : goal.loop-info-preserved
loop-info-preserved c = record {
  entries = doubled-turn c.args.names.now c.args.all.now c.loop-info.info-index _ c.loop-info.entries.items c.put_original.new.entries.items c.loop-info-test.true c.loop-info.invariant.entries c.in_ok-put_original.ensures.entries;
  beside = c.in_ok-put_original.ensures.beside;
}
