use Rattle.std.proofs.Common.{◌+◌, [], ◌∷◌, ◌++◌, Option, subst, sym}
use Rattle.event_machine.specs.declared.Event.{Event}
use Rattle.debug_judge.specs.JudgedLines.{IsFoundOf}
use Rattle.debug_judge.proofs.Giving.{found_more}
use Rattle.debug_judge.proofs.judged_events.give.Goals as goal

pub returns : goal.returns
returns c = λ setup numbers bound events f more.
    subst
    (λ (o : Option Event). IsFoundOf setup numbers bound (events ++ c.args.event.now ∷ []) (record { verdict = c.in_ok-verdict.verdict; count = c.args.found.now.count + 1; event = o; judge = c.next.new.self }))
    (sym c.event_with-found.ensures)
    (found_more setup numbers bound events c.args.event.now c.args.found.now c.next.new.self c.in_ok-verdict.verdict f (c.in_ok-verdict.ensures.stands setup events f.stands more) c.in_ok-verdict.ensures.last
    c.in_ok-verdict.ensures.settled c.in_ok-verdict.ensures.grows c.in_ok-verdict.ensures.stays c.in_ok-verdict.ensures.numbers c.in_ok-verdict.ensures.bound)
