use Rattle.std.proofs.Common.{◌≡◌, ap, sym, ◌∙◌, length, rules}
use Rattle.feasible.specs.Keeping.{is_feasible}
use Rattle.race_variant.proofs.Going.{halts_ended, stuck_here, open_here}
use Rattle.race_variant.proofs.continuing.halted.Goals as goal

pub returns-then-not-is_empty-clause-halts : goal.returns-then-not-is_empty-clause-halts
returns-then-not-is_empty-clause-halts c = λ setup events s well. (c.list_variants.new.unsettled.items, c.in_ok-list_variants.ensures.variants setup events s well)

pub returns-then-ended-clause-halts : goal.returns-then-ended-clause-halts
returns-then-ended-clause-halts c = λ setup events s well.
    let stands = c.in_ok-list_variants.ensures.stands setup events s in
    halts_ended setup events c.list_variants.new.j stands (ap is_feasible c.in_ok-list_variants.ensures.verdict ∙ well) ((c.ended.ensures.exact setup events stands).0 c.if-ended.true)

pub returns-then-is_empty-clause-halts : goal.returns-then-is_empty-clause-halts
returns-then-is_empty-clause-halts c = λ setup events s well.
    let none : length c.list_variants.new.found.items ≡ 0 = search rules in
    let nobody : length c.list_variants.new.unsettled.items ≡ 0 = search rules in
    stuck_here setup events c.args.j.now c.list_variants.new.j c.list_variants.new.found.items c.list_variants.new.unsettled.items (c.in_ok-list_variants.ensures.stands setup events s)
    (ap is_feasible c.in_ok-list_variants.ensures.verdict ∙ well) (sym c.ended.ensures.is ∙ c.if-ended.false) none nobody (c.in_ok-list_variants.ensures.variants setup events s well)

pub returns-clause-halts : goal.returns-clause-halts
returns-clause-halts c = λ setup events s well.
    let none : length c.list_variants.new.found.items ≡ 0 = search rules in
    let some : length c.list_variants.new.unsettled.items ≡ 0 → ⊥ = search rules in
    open_here setup events c.args.j.now c.list_variants.new.found.items c.list_variants.new.unsettled.items none some (c.in_ok-list_variants.ensures.variants setup events s well)
