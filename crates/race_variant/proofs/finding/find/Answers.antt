use Rattle.std.proofs.Common.{◌∙◌, OnOk, ap, sym, subst, length}
use Rattle.std.specs.Option.{option_copied}
use Rattle.common_lemmas.proofs.Results.{on_ok}
use Rattle.syn_event.specs.Numbering.{Numbering}
use Rattle.race_variant.specs.inner.Passing.{AreFound, seen_at}
use Rattle.race_variant.proofs.Whole.{found_for, left_for}
use Rattle.race_variant.proofs.finding.find.Goals as goal

pub returns-then-ended-clause-variants : goal.returns-then-ended-clause-variants
returns-then-ended-clause-variants c = λ setup events s feasible.
    left_for setup events c.args.j.now (option_copied c.args.skip) c.args.found.now.items c.args.unsettled.now.items s feasible (sym c.ended.ensures.is ∙ c.if-ended.true)
    c.requires.none c.requires.nobody

pub returns-clause-variants : goal.returns-clause-variants
returns-clause-variants c = λ setup events s feasible.
    found_for setup events c.args.j.now c.settle_all.new.j (option_copied c.args.skip) c.settle_all.new.settled.items c.settle_all.new.unsettled.items c.add_all.new.found.items c.add_all.result
    s (c.in_ok-settle_all.ensures.stands setup events s) feasible c.in_ok-settle_all.ensures.verdict
    (c.in_ok-settle_all.ensures.ended ∙ sym c.ended.ensures.is ∙ c.if-ended.false) c.in_ok-settle_all.ensures.same_numbers c.in_ok-settle_all.ensures.bound
    (c.in_ok-settle_all.ensures.told setup events s) (c.in_ok-settle_all.ensures.size ∙ ap (λ (n : Numbering). length n.tasks) c.requires.numbers) c.in_ok-settle_all.ensures.answers
    (subst (λ settled. OnOk c.add_all.result (AreFound c.args.j.now.numbers (seen_at c.settle_all.new.j.tasks settled) (option_copied c.args.skip) 10 0 c.add_all.new.found.items)) c.deref.ensures.value
    (subst (λ n. OnOk c.add_all.result (AreFound n (seen_at c.settle_all.new.j.tasks c.deref.result.now) (option_copied c.args.skip) 10 0 c.add_all.new.found.items)) c.requires.numbers c.add_all.ensures))

pub returns-clause-stands : goal.returns-clause-stands
returns-clause-stands c = λ setup events s. on_ok c.add_all.result (λ found. c.in_ok-settle_all.ensures.stands setup events s) c.add_all.ensures
