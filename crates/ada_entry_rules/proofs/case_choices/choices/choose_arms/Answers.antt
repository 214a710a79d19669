use Rattle.std.proofs.Common.{map, take, option_map}
use Rattle.ada_tree.specs.PlainStmt.{plain_case_arm, case_arms_of}
use Rattle.ada_static_rules.specs.Sites.{arm_choices}
use Rattle.ada_scopes.specs.Entries.{plain_range}
use Rattle.ada_entry_rules.proofs.case_choices.Choosing.{chosen_start, arms_turn, arms_all}
use Rattle.ada_entry_rules.proofs.case_choices.choices.choose_arms.Goals as goal

pub loop-arm-init : goal.loop-arm-init
loop-arm-init c = chosen_start c.args.scope.now c.args.kind (option_map plain_range c.args.values) c.new.result c.new.ensures

pub loop-arm-preserved : goal.loop-arm-preserved
loop-arm-preserved c =
    arms_turn c.args.scope.now c.args.kind (option_map plain_range c.args.values) c.args.arms.now c.loop-arm.arm-index c.arm-item.result c.deref.result.now c.in_ok-all.all c.loop-arm-test.true c.arm-item.is c.deref.ensures.value
    (c.in_ok-all.ensures (arm_choices (case_arms_of (map plain_case_arm (take c.loop-arm.arm-index c.args.arms.now)))) c.loop-arm.invariant)

pub returns : goal.returns
returns c = arms_all c.args.scope.now c.args.kind (option_map plain_range c.args.values) c.args.arms.now c.loop-arm.arm-index c.loop-arm.all c.loop-arm-test.false c.loop-arm.invariant
