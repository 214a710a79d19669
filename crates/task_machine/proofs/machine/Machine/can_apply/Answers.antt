-- Where the program has not ended, an action applies where its condition holds.
use Rattle.std.proofs.Common.{ap, sym, ◌∙◌}
use Rattle.task_machine.specs.Table.{can, applies_in, whole}
use Rattle.task_machine.proofs.machine.Machine.can_apply.Goals as goal

pub returns-then-not-self : goal.returns-then-not-self
returns-then-not-self c =
    let a = c.args.action in
    let m = c.self.inside in
    c.applies.ensures
    ∙ ap (λ n. applies_in n c.deref.result.now c.deref-then-not-self.result.now a) c.numbers.ensures
    ∙ ap (λ tasks. applies_in m.links.now.numbers tasks c.deref-then-not-self.result.now a) c.deref.ensures.value
    ∙ ap (λ line. applies_in m.links.now.numbers m.seats.items line a) c.deref-then-not-self.ensures.value
    ∙ ap (λ b. can (whole m.links.now.numbers m.seats.items m.line.items b) a) (sym c.if-not-self.true)
    ∙ ap (λ w. can w a) c.self.view_is
