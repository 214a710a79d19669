use Rattle.std.proofs.Common.{◌∙◌, pos, get_or, refl}
use Rattle.std.proofs.lemmas.List.{get_or_default}
use Rattle.event_machine.specs.declared.Event.TheVariants.{R}
use Rattle.ded_io.proofs.Members.{wrote_member, wrote_member_stop}
use Rattle.ded_io.proofs.Writes.{wrote_none}
use Rattle.seq_file.specs.Files.{event_line}
use Rattle.debug_variants.proofs.placing.put_events.Goals as goal

pub loop-event-init : goal.loop-event-init
loop-event-init g c = (wrote_none _ _ _ _, refl)

pub loop-event-preserved : goal.loop-event-preserved
loop-event-preserved g c =
    let event = get_or c.args.events.now c.loop-event.event-index (R 0 0 (pos 0)) in (
      wrote_member _ _ _ _ _ event_line c.args.events.now c.loop-event.event-index event _ _ _ (g.K.Sink.told c.args.out.now) (g.K.Sink.told c.loop-event.out)
          (g.K.Sink.told c.put_event.new.out) (event_line event) c.loop-event-test.true
          (get_or_default c.args.events.now c.loop-event.event-index (R 0 0 (pos 0)) event c.loop-event-test.true) c.loop-event.invariant.0 c.in-Ok.ensures.bytes refl,
      c.in-Ok.ensures.cause ∙ c.loop-event.invariant.1,
    )

pub returns-in-Err-clause-bytes : goal.returns-in-Err-clause-bytes
returns-in-Err-clause-bytes g c =
    let event = get_or c.args.events.now c.loop-event.event-index (R 0 0 (pos 0)) in
    wrote_member_stop _ _ _ _ _ _ event_line c.args.events.now c.loop-event.event-index event _ c.in-Err.error c.in-Err.error (g.K.Sink.told c.args.out.now) (g.K.Sink.told c.loop-event.out)
    (g.K.Sink.told c.put_event.new.out) (event_line event) c.loop-event-test.true
    (get_or_default c.args.events.now c.loop-event.event-index (R 0 0 (pos 0)) event c.loop-event-test.true) c.loop-event.invariant.0 c.in-Err.ensures.bytes refl
