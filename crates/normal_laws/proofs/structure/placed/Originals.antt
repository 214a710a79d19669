-- An original with its own types and numbers is as the law asks, where it has room.
use Rattle.ada_tree.specs.NameList.{AreNames}
use Rattle.ada_tree.specs.PlainProgram.{PProgram}
use Rattle.ada_static_rules.specs.Refusals.{types_in}
use Rattle.ada_tree.specs.WellPlaced.{IsWellPlaced}
use Rattle.syn_event.specs.AllNumbers.{all_numbers}
use Rattle.syn_event.specs.CheckRefusals.{MeetsCheckRules}
use Rattle.syn_event.specs.declared.numbering.Mode.TheVariants.{Original}
use Rattle.task_laws.proofs.legal.sites.Meeting.{all_check_met}
use Rattle.normal_laws.specs.structure.placed.Placeable.{HasRoom, IsPlaceable}
use Rattle.normal_laws.specs.structure.placed.Laws.{NormalIsPlaced, OriginalIsPlaced}
use Rattle.normal_laws.proofs.structure.placed.Names.{first-named}
use Rattle.normal_laws.proofs.structure.placed.Tables.{table-named}
use Rattle.normal_laws.proofs.structure.placed.Tasks.{original-tasks}
use Rattle.normal_laws.proofs.structure.placed.Whole.{normal_is_placed}

pub original_is_placeable : (p : PProgram) → MeetsCheckRules p Original → IsWellPlaced p → AreNames p.names → HasRoom (record { program = p; types = types_in p; numbers = all_numbers (types_in p) p }) →
    IsPlaceable (record { program = p; types = types_in p; numbers = all_numbers (types_in p) p })
original_is_placeable p checks placed names room = record {
  placed = placed;
  names = names;
  checks = checks;
  room = room;
  tasks = original-tasks p (types_in p) placed (all_check_met p Original checks) room.indices;
  kinds = (table-named p.names p placed.2 (first-named p.names names)).0;
  marks = (table-named p.names p placed.2 (first-named p.names names)).1;
}

pub all_normal_placed : NormalIsPlaced
all_normal_placed g h = normal_is_placed g h

pub all_originals_placed : OriginalIsPlaced
all_originals_placed p checks placed names room = normal_is_placed (record { program = p; types = types_in p; numbers = all_numbers (types_in p) p }) (original_is_placeable p checks placed names room)
