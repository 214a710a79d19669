use Rattle.std.proofs.Common.{◌≡◌, ◌<◌, ◌+◌, ◌-◌, ◌^◌, false, refl, sym, subst, arith}
use Rattle.seq_file.specs.declared.list_reading.Place.{Place}
use Rattle.seq_file.proofs.ListReading.{IsReadInList, inside-start, inside-more, inside-end, inside-fault}
use Rattle.seq_file.proofs.list_reading.read_list.Goals as goal

-- behind the list's line
pub loop-left-init : goal.loop-left-init
loop-left-init c =
    let start = c.args.place.now in
    let at : Place = record { rest = c.in-Some.rest; line = start.line + 1; events = start.events; ended = false } in
    let small : c.args.task < 2 ^ 64 = omega (arith, c.requires.task, c.requires.small) in
    subst (λ t. IsReadInList c.args.numbers.now c.args.task start t at c.in-Some.asked) (sym c.new-events.ensures.items)
    (inside-start c.args.numbers.now c.args.task start at c.in-Some.asked small c.in-Some.ensures c.requires.few refl refl refl)

-- one more event
pub loop-left-preserved : goal.loop-left-preserved
loop-left-preserved c =
    let start = c.args.place.now in
    let loop = c.loop-left in
    let less : loop.left ≡ (loop.left - 1) + 1 = omega (arith, c.loop-left-test.true) in
    subst (λ t. IsReadInList c.args.numbers.now c.args.task start t c.in-Ok.next.1 (loop.left - 1)) (sym c.in_ok-add.ensures.added)
    (inside-more c.args.numbers.now c.requires.short c.args.task start loop.at c.in-Ok.next.1 loop.events.items c.in-Ok.next.0 loop.left (loop.left - 1) loop.invariant c.in-Ok.ensures.read less)

-- the next line is bad, or the file ends too early
pub returns-in-Err-clause-fault : goal.returns-in-Err-clause-fault
returns-in-Err-clause-fault c = λ ne.
    let loop = c.loop-left in
    let some : 0 < loop.left = omega (arith, c.loop-left-test.true) in
    inside-fault c.args.numbers.now c.args.task c.args.place.now loop.at loop.events.items loop.left c.in-Err.error loop.invariant some c.in-Err.ensures.fault

-- all events of the list
pub returns-clause-read : goal.returns-clause-read
returns-clause-read c =
    let loop = c.loop-left in
    let none : loop.left ≡ 0 = omega (arith, c.loop-left-test.false) in
    inside-end c.args.numbers.now c.args.task c.args.place.now loop.at loop.events.items loop.left loop.invariant none
