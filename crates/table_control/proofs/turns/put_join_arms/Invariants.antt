use Rattle.std.proofs.Common.{◌≡◌, ◌+◌, ◌++◌, map, drop}
use Rattle.ada_tree.specs.PlainStmt.{plain_case_arm}
use Rattle.replay_model.specs.tables.Turns.{join_arms}
use Rattle.table_control.proofs.turns.put_join_arms.Given as goal

abbrev pub invariant-loop-info : goal.invariant-loop-info
invariant-loop-info l = record {
  task : l.task ≡ l.first + l.info-index;
  arms : map plain_case_arm l.out.items ++ join_arms l.n l.s l.task (drop l.info-index l.infos) ≡ map plain_case_arm l.initial.out.items ++ join_arms l.n l.s l.first l.infos;
}
