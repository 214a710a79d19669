use Rattle.std.proofs.Common.{take, map, option_map}
use Rattle.ada_tree.specs.PlainStmt.{plain_case_arm, case_arms_of}
use Rattle.ada_static_rules.specs.Sites.{arm_choices}
use Rattle.ada_scopes.specs.Entries.{plain_range}
use Rattle.ada_entry_rules.specs.case_choices.inner.Chosen.{AreChosen}
use Rattle.ada_entry_rules.proofs.case_choices.choices.choose_arms.Given as goal

-- the choices of so many arms are looked at
abbrev pub invariant-loop-arm : goal.invariant-loop-arm
invariant-loop-arm l = AreChosen l.scope l.kind (option_map plain_range l.values) (arm_choices (case_arms_of (map plain_case_arm (take l.arm-index l.arms)))) l.all
