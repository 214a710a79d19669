use Rattle.std.proofs.Common.{rules, ◌<ℤ◌, sym, subst, arith, option_map, w64, FitsSigned}
use Rattle.std.proofs.lemmas.Int.{ints, to_z-of_z}
use Rattle.ada_static_rules.specs.RuleChoiceBad.{with_range}
use Rattle.ada_scopes.specs.Entries.{plain_range}
use Rattle.ada_entry_rules.specs.case_choices.inner.Chosen.{Shows}
use Rattle.ada_entry_rules.proofs.case_choices.Choosing.{shows_added, shows_same}
use Rattle.ada_entry_rules.proofs.case_choices.choices.cover.Goals as goal

pub returns-then-range : goal.returns-then-range
returns-then-range c = λ seen shows.
    let first : FitsSigned w64 c.in-Some.range.first = search rules in
    let last : FitsSigned w64 c.in-Some.range.last = search rules in
    let less : c.in-Some.range.last <ℤ c.in-Some.range.first = grind (arith, ints) in
    subst (λ o. Shows c.args.covered (with_range (option_map plain_range o) seen)) (sym c.in-Some.is) (shows_same c.args.covered seen (plain_range c.in-Some.range) shows less)

pub returns-in_ok-add-in-Some : goal.returns-in_ok-add-in-Some
returns-in_ok-add-in-Some c = λ seen shows.
    let first : FitsSigned w64 c.in-Some.range.first = search rules in
    let last : FitsSigned w64 c.in-Some.range.last = search rules in
    subst (λ o. Shows c.add.new.self (with_range (option_map plain_range o) seen)) (sym c.in-Some.is)
    (shows_added c.args.covered c.add.new.self seen (plain_range c.in-Some.range) shows (simp to_z-of_z at c.in_ok-add-in-Some.ensures))
