use Rattle.std.proofs.Common.{rules, ◌≤ℤ◌, ◌<ℤ◌, ◌∙◌, ap, sym, arith, option_map, w64, FitsSigned}
use Rattle.std.proofs.lemmas.Int.{ints, to_z-of_z}
use Rattle.ada_static_rules.specs.RuleChoiceBad.{overlaps_one}
use Rattle.ada_scopes.specs.Entries.{plain_range}
use Rattle.ada_entry_rules.proofs.case_choices.Choosing.{meets_is, meets_never}
use Rattle.ada_entry_rules.proofs.case_choices.choices.meets.Goals as goal

pub returns-then-range : goal.returns-then-range
returns-then-range c = λ seen shows.
    let first : FitsSigned w64 c.in-Some.range.first = search rules in
    let last : FitsSigned w64 c.in-Some.range.last = search rules in
    let ordered : c.in-Some.range.first ≤ℤ c.in-Some.range.last = grind (arith, ints) in
    c.is_some.ensures
    ∙ meets_is c.args.covered.now seen (plain_range c.in-Some.range) c.meeting.result shows ordered (simp to_z-of_z at c.meeting.ensures)
    ∙ ap (λ o. overlaps_one seen (option_map plain_range o)) (sym c.in-Some.is)

pub returns-else-range : goal.returns-else-range
returns-else-range c = λ seen shows.
    let first : FitsSigned w64 c.in-Some.range.first = search rules in
    let last : FitsSigned w64 c.in-Some.range.last = search rules in
    let less : c.in-Some.range.last <ℤ c.in-Some.range.first = grind (arith, ints) in
    c.if-range.false
    ∙ sym (meets_never seen (plain_range c.in-Some.range) less)
    ∙ ap (λ o. overlaps_one seen (option_map plain_range o)) (sym c.in-Some.is)
