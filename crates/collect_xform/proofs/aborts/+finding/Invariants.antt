use Rattle.std.proofs.Common.{◌≡◌, map, take}
use Rattle.ada_tree.specs.PlainStmt.{plain_alt, plain_arm, plain_case_arm, plain_handler, alts_of, arms_of, case_arms_of, handlers_of, seen}
use Rattle.normal_model.specs.Walk.{after_stmts, after_alts, after_arms, after_case_arms, after_handlers}
use Rattle.collect_model.specs.FirstAbort.{abort_finder}
use Rattle.collect_xform.proofs.aborts.+finding.Given as goal

abbrev pub invariant-behind_stmts-loop-stmt : goal.invariant-behind_stmts-loop-stmt
invariant-behind_stmts-loop-stmt l = l.found ≡ after_stmts abort_finder (seen (take l.stmt-index l.stmts)) l.initial.found

abbrev pub invariant-behind_alts-loop-alt : goal.invariant-behind_alts-loop-alt
invariant-behind_alts-loop-alt l = l.found ≡ after_alts abort_finder (alts_of (map plain_alt (take l.alt-index l.alts))) l.initial.found

abbrev pub invariant-behind_arms-loop-arm : goal.invariant-behind_arms-loop-arm
invariant-behind_arms-loop-arm l = l.found ≡ after_arms abort_finder (arms_of (map plain_arm (take l.arm-index l.arms))) l.initial.found

abbrev pub invariant-behind_case_arms-loop-arm : goal.invariant-behind_case_arms-loop-arm
invariant-behind_case_arms-loop-arm l = l.found ≡ after_case_arms abort_finder (case_arms_of (map plain_case_arm (take l.arm-index l.arms))) l.initial.found

abbrev pub invariant-behind_handlers-loop-handler : goal.invariant-behind_handlers-loop-handler
invariant-behind_handlers-loop-handler l = l.found ≡ after_handlers abort_finder (handlers_of (map plain_handler (take l.handler-index l.handlers))) l.initial.found
