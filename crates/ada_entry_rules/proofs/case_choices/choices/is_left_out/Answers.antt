use Rattle.std.proofs.Common.{◌≡◌, ◌∙◌, ap, sym, subst, arith, true, false, option_map}
use Rattle.std.specs.Prelude.{◌==◌}
use Rattle.std.specs.List.{list_any}
use Rattle.std.proofs.lemmas.Bool.Decides.{nat_tests}
use Rattle.ada_static_rules.specs.RuleChoiceBad.{choice_range, is_covered, left_out}
use Rattle.ada_scopes.specs.Entries.{plain_range}
use Rattle.ada_entry_rules.specs.case_choices.inner.Chosen.{AreChosen}
use Rattle.ada_entry_rules.proofs.case_choices.Choosing.{left_is, chosen_values}
use Rattle.ada_entry_rules.proofs.case_choices.choices.is_left_out.Goals as goal

pub returns-else-is_some : goal.returns-else-is_some
returns-else-is_some c = λ scope choices h.
    let other : (c.args.kind == 0) ≡ false = grind (arith, nat_tests) in
    let good : c.args.chosen.now.good ≡ true = grind (arith, nat_tests) in
    left_is scope c.args.kind (plain_range c.in-Some.values) choices c.args.chosen.now c.leaves_out.result
    (subst (λ v. AreChosen scope c.args.kind (option_map plain_range v) choices c.args.chosen.now) c.in-Some.is h) other good (sym c.if-is_some.ensures)
    (c.leaves_out.ensures (λ z. list_any (λ x. is_covered z (choice_range scope c.args.kind x)) choices) (chosen_values scope c.args.kind (option_map plain_range c.args.values) choices c.args.chosen.now h))
    ∙ ap (λ v. left_out scope c.args.kind (option_map plain_range v) choices) (sym c.in-Some.is)
