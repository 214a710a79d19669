use Rattle.std.proofs.Common.{◌++◌, map, take, option_map}
use Rattle.ada_tree.specs.PlainStmt.{plain_choice}
use Rattle.ada_scopes.specs.Entries.{plain_range}
use Rattle.ada_entry_rules.proofs.case_choices.Choosing.{chosen_init, chosen_turn, chosen_all}
use Rattle.ada_entry_rules.proofs.case_choices.choices.choose_all.Goals as goal

pub loop-choice-init : goal.loop-choice-init
loop-choice-init c = λ done h. chosen_init c.args.scope.now c.args.kind (option_map plain_range c.args.values) done c.args.chosen h

pub loop-choice-preserved : goal.loop-choice-preserved
loop-choice-preserved c = λ done h.
    chosen_turn c.args.scope.now c.args.kind (option_map plain_range c.args.values) done c.args.choices.now c.loop-choice.choice-index c.choice-item.result c.in_ok-all.all c.loop-choice-test.true c.choice-item.is
    (c.in_ok-all.ensures (done ++ map plain_choice (take c.loop-choice.choice-index c.args.choices.now)) (c.loop-choice.invariant done h))

pub returns : goal.returns
returns c = λ done h.
    chosen_all c.args.scope.now c.args.kind (option_map plain_range c.args.values) done c.args.choices.now c.loop-choice.choice-index c.loop-choice.all c.loop-choice-test.false (c.loop-choice.invariant done h)
