use Rattle.std.proofs.Common.{◌∙◌, ap, subst, option_map}
use Rattle.std.specs.Prelude.{[], ◌∷◌, ◌&&◌, if◌then◌else◌}
use Rattle.ada_tree.specs.PlainStmt.{plain_choice}
use Rattle.ada_static_rules.specs.RuleChoiceBad.{choice_range, overlaps_one, with_range, is_good}
use Rattle.ada_static_rules.specs.Sooner.{found}
use Rattle.ada_scopes.specs.Entries.{plain_range}
use Rattle.ada_entry_rules.specs.case_choices.inner.Chosen.{Shows}
use Rattle.ada_entry_rules.proofs.case_choices.Choosing.{chosen_more}
use Rattle.ada_entry_rules.proofs.case_choices.choices.choose.Goals as goal

pub returns : goal.returns
returns c = λ done h.
    chosen_more c.args.scope.now c.args.kind (option_map plain_range c.args.values) done (plain_choice c.args.choice.now) c.args.chosen record { covered = c.in_ok-covered.covered; refusal = c.first.result; good = c.are_both.result } c.refuse_if-own.result h
    (λ seen shows.
    c.refuse_if-own.ensures
    ∙ ap (λ b. found 9 (if b then c.span_of.result ∷ [] else [])) (c.meets.ensures seen shows ∙ ap (overlaps_one seen) c.range_of-range.ensures)
    ∙ ap (λ s. found 9 (if overlaps_one seen (choice_range c.args.scope.now c.args.kind (plain_choice c.args.choice.now)) then s ∷ [] else [])) c.span_of.ensures)
    (λ seen shows. subst (λ r. Shows c.in_ok-covered.covered (with_range r seen)) c.range_of-range.ensures (c.in_ok-covered.ensures seen shows))
    c.first.ensures
    (c.are_both.ensures ∙ ap (λ b. c.args.chosen.good && b) (c.is_good.ensures ∙ ap (is_good (option_map plain_range c.args.values)) c.range_of-range.ensures))
