use Rattle.std.specs.Option.{option_copied}
use Rattle.debug_variants.proofs.Placed.{place_put, place_cut}
use Rattle.debug_variants.proofs.placing.tell_place.Goals as goal

pub returns-in-Ok-put_place-clause-place : goal.returns-in-Ok-put_place-clause-place
returns-in-Ok-put_place-clause-place g c = λ setup events s.
    place_put setup c.args.judge.now.numbers c.args.judge.now.bound events (option_copied c.args.skip) c.args.number c.variants.new.found.items c.deref.result.now c.variants.new.unsettled.items c.deref-2.result.now
    (g.K.Sink.told c.args.out.now) (g.K.Sink.told c.put_place.new.out) (g.K.Sink.faults c.args.out.now) (g.K.Sink.faults c.put_place.new.out)
    (c.in-Ok.ensures.variants setup events s) c.deref.ensures.value c.deref-2.ensures.value _ _ c.in-Ok-put_place.field-0 c.in-Ok-put_place.ensures.bytes c.in-Ok-put_place.ensures.cause

pub returns-clause-place : goal.returns-clause-place
returns-clause-place g c = λ setup events s.
    place_cut setup c.args.judge.now.numbers c.args.judge.now.bound events (option_copied c.args.skip) c.args.number c.variants.new.found.items c.deref.result.now c.variants.new.unsettled.items c.deref-2.result.now
    (g.K.Sink.told c.args.out.now) (g.K.Sink.told c.put_place.new.out) (g.K.Sink.faults c.args.out.now) (g.K.Sink.faults c.put_place.new.out)
    (c.in-Ok.ensures.variants setup events s) c.deref.ensures.value c.deref-2.ensures.value _ _ c.in-Err-put_place.field-0 c.in-Err-put_place.ensures.bytes c.in-Err-put_place.ensures.cause
