use Rattle.std.proofs.Common.{◌≡◌, ◌+◌, ◌++◌, map, take}
use Rattle.ada_tree.specs.PlainStmt.{plain_case_arm}
use Rattle.collect_abort.specs.Branches.{abort_arms}
use Rattle.collect_abort.proofs.recorder.aborts.put_aborts.Given as goal

abbrev pub invariant-loop-info : goal.invariant-loop-info
invariant-loop-info l = record {
  arms : map plain_case_arm l.out.items ≡ map plain_case_arm l.initial.out.items ++ abort_arms l.s 1 (take l.info-index l.infos);
  task : l.task ≡ 1 + l.info-index;
}
