-- Each legal program has room, so its normal form is well placed.
use Rattle.ada_static_rules.specs.Refusals.{types_in}
use Rattle.syn_event.specs.NamedTasks.{task_names_of}
use Rattle.task_laws.proofs.legal.types.TaskTypes.{tasks-have-types}
use Rattle.normal_laws.proofs.structure.placed.Originals.{all_originals_placed}
use Rattle.normal_laws.specs.legality.placed.Laws.{LegalHasRoom, NormalIsPlaced}
use Rattle.normal_laws.proofs.legality.placed.Indices.{tasks-small}
use Rattle.normal_laws.proofs.legality.placed.Sizes.{light-needs-few}
use Rattle.normal_laws.proofs.legality.placed.Calling.{main-takes, bodies-take}

pub legal_has_room : LegalHasRoom
legal_has_room p h = record {
  few = light-needs-few p h.light;
  indices = (tt, tasks-small (types_in p) p.names (task_names_of p) (tasks-have-types p h.legal.type_rules h.placed h.small).parts);
  calls = main-takes p h;
  bodies = bodies-take p h;
}

pub normal_is_placed : NormalIsPlaced
normal_is_placed p h = all_originals_placed p h.legal.check_rules h.placed h.names (legal_has_room p h)
