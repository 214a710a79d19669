use Rattle.std.proofs.Common.{◌≡◌, ◌∙◌, ap, sym, rules}
use mir.Val.{to_z, of_z}
use mir.Syntax.{w32}
use Rattle.event_machine.specs.Offers.{calls_in, is_any_form, waits_with, opens}
use Rattle.feasible.specs.Failing.{first_of, act_asked, asked}
use Rattle.feasible.proofs.conditions.failing.Goals as goal

pub returns-in-R : goal.returns-in-R
returns-in-R c =
    let seats = c.args.seats.now in
    let same : to_z w32 (of_z w32 c.in-R.i) ≡ c.in-R.i = search rules in
    c.failing_start.ensures
    ∙ ap (λ i. first_of (act_asked seats c.in-R.c (calls_in is_any_form c.in-R.e i)) (act_asked seats c.owner.result (waits_with (opens c.in-R.e i)))) same
    ∙ ap (λ o. first_of (act_asked seats c.in-R.c (calls_in is_any_form c.in-R.e c.in-R.i)) (act_asked seats o (waits_with (opens c.in-R.e c.in-R.i)))) c.owner.ensures
    ∙ ap (asked c.args.numbers.now seats) (sym c.in-R.is)
