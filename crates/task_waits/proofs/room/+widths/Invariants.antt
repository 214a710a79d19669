use Rattle.std.proofs.Common.{◌≡◌, drop}
use Rattle.std.specs.Prelude.{max}
use Rattle.task_waits.proofs.Widths.{stmt_all, alt_all, arm_all, case_arm_all, handler_all}
use Rattle.task_waits.proofs.room.+widths.Given as goal

-- the width so far and that of what is left are the whole
abbrev pub invariant-widest_among-loop-stmt : goal.invariant-widest_among-loop-stmt
invariant-widest_among-loop-stmt l = max l.width (stmt_all (drop l.stmt-index l.list)) ≡ stmt_all l.list

abbrev pub invariant-widest_alts-loop-alt : goal.invariant-widest_alts-loop-alt
invariant-widest_alts-loop-alt l = max l.width (alt_all (drop l.alt-index l.alts)) ≡ alt_all l.alts

abbrev pub invariant-widest_arms-loop-arm : goal.invariant-widest_arms-loop-arm
invariant-widest_arms-loop-arm l = max l.width (arm_all (drop l.arm-index l.arms)) ≡ arm_all l.arms

abbrev pub invariant-widest_case_arms-loop-arm : goal.invariant-widest_case_arms-loop-arm
invariant-widest_case_arms-loop-arm l = max l.width (case_arm_all (drop l.arm-index l.arms)) ≡ case_arm_all l.arms

abbrev pub invariant-widest_handlers-loop-handler : goal.invariant-widest_handlers-loop-handler
invariant-widest_handlers-loop-handler l = max l.width (handler_all (drop l.handler-index l.handlers)) ≡ handler_all l.handlers
