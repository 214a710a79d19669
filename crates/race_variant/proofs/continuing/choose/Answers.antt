use Rattle.std.proofs.Common.{length, ◌%◌}
use Rattle.race_variant.proofs.Choices.{in_at}
use Rattle.race_variant.proofs.Going.{given_feasible}
use Rattle.race_variant.proofs.continuing.choose.Goals as goal

pub returns-in_err-push-clause-feasible : goal.returns-in_err-push-clause-feasible
returns-in_err-push-clause-feasible g c = λ setup events s well follow.
    let follows = follow c.in_ok-event.event (in_at c.args.found.now (g.C.Chooser.word c.args.choices.now % length c.args.found.now) c.in_ok-event.event c.in_ok-event.ensures.event) in
    given_feasible setup events c.args.j.now c.next.new.self c.in_ok-event.event (c.in_ok-_verdict.ensures.stands setup events s follows.0) c.in_ok-_verdict.ensures.numbers c.in_ok-_verdict.ensures.bound follows

pub returns-clause-feasible : goal.returns-clause-feasible
returns-clause-feasible g c = λ setup events s well follow.
    let follows = follow c.in_ok-event.event (in_at c.args.found.now (g.C.Chooser.word c.args.choices.now % length c.args.found.now) c.in_ok-event.event c.in_ok-event.ensures.event) in
    given_feasible setup events c.args.j.now c.next.new.self c.in_ok-event.event (c.in_ok-_verdict.ensures.stands setup events s follows.0) c.in_ok-_verdict.ensures.numbers c.in_ok-_verdict.ensures.bound follows
