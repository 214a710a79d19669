use Rattle.std.proofs.Common.{◌≡◌, fold, map, take, drop}
use Rattle.ada_tree.specs.NameList.{interned}
use Rattle.normal_model.specs.Names.{member_texts}
use Rattle.normal_lookups.specs.names.inner.MemberNames.{name_behind}
use Rattle.normal_lookups.proofs.names.Naming.{named}
use Rattle.normal_lookups.proofs.names.task_names.name_tasks.Given as goal

abbrev pub invariant-loop-info : goal.invariant-loop-info
invariant-loop-info l = record {
  rest : fold interned l.names (member_texts l.old (drop l.info-index l.tasks)) ≡ named l.old l.tasks;
  ids : l.ids.items ≡ map (name_behind l.old (named l.old l.tasks)) (take l.info-index l.tasks);
}
