use Rattle.std.proofs.Common.{◌≡◌, ◌+◌, length, take, None, sym, ◌∙◌, arith}
use Rattle.std.proofs.lemmas.Option.{slice_get_past}
use Rattle.debug_variants.specs.VariantsOutcomes.{place_count}
use Rattle.debug_variants.proofs.Places.{count_ended, count_going, ended_so, told_all, told_last, told_stops}
use Rattle.debug_variants.proofs.telling.tell_last.Goals as goal

pub returns-then-ended : goal.returns-then-ended
returns-then-ended g c = λ setup bound events told faults h end well number.
    told_all setup c.args.numbers.now bound events well (length events) c.args.judge.now told (g.K.Sink.told c.args.out.now) faults (g.K.Sink.faults c.args.out.now) h
    (sym (count_ended events (ended_so setup events c.args.judge.now h.stands c.requires.feasible end c.ended.result (c.ended.ensures.exact setup (take (length events) events) h.stands) ∙ c.if-ended.true)))

pub returns-in-Ok : goal.returns-in-Ok
returns-in-Ok g c = λ setup bound events told faults h end well number.
    told_last setup c.args.numbers.now bound events well (length events) c.args.judge.now told (g.K.Sink.told c.args.out.now) (g.K.Sink.told c.tell_place.new.out)
    faults (g.K.Sink.faults c.args.out.now) (g.K.Sink.faults c.tell_place.new.out) h None c.args.number (sym (slice_get_past events (length events) (omega arith))) number
    (sym (count_going events (ended_so setup events c.args.judge.now h.stands c.requires.feasible end c.ended.result (c.ended.ensures.exact setup (take (length events) events) h.stands) ∙ c.if-ended.false)))
    (c.in-Ok.ensures.place setup (take (length events) events) h.stands)

pub returns-in-Err : goal.returns-in-Err
returns-in-Err g c = λ setup bound events told faults h end well number.
    let all : place_count events ≡ length events + 1 =
    count_going events (ended_so setup events c.args.judge.now h.stands c.requires.feasible end c.ended.result (c.ended.ensures.exact setup (take (length events) events) h.stands) ∙ c.if-ended.false) in
    told_stops setup c.args.numbers.now bound events well (length events) c.args.judge.now told (g.K.Sink.told c.args.out.now) (g.K.Sink.told c.tell_place.new.out)
    faults (g.K.Sink.faults c.args.out.now) (g.K.Sink.faults c.tell_place.new.out) h None c.args.number (sym (slice_get_past events (length events) (omega arith))) number
    c.in-Err.stop (omega (arith, all)) (c.in-Err.ensures.place setup (take (length events) events) h.stands)
