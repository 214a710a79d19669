-- The scopes of a legal program are clear, and the names in it are its own.
use Rattle.syn_event.specs.declared.numbering.Mode.TheVariants.{Original}
use Rattle.normal_laws.proofs.existence.units.Apart.{all-addressed}
use Rattle.normal_laws.proofs.existence.units.Own.{program-own}
use Rattle.normal_laws.proofs.existence.variable_types.Fields.{ready-legal}
use Rattle.normal_laws.specs.existence.clear_scopes.Laws.{CalleesAreTold, OriginalIsReady}

pub callees-are-told : CalleesAreTold
callees-are-told p rules placed small = all-addressed p rules placed small

-- So a legal original is as the fields on types want it.
pub original-is-ready : OriginalIsReady
original-is-ready p types numbers legal placed names small =
    ready-legal p types numbers Original legal placed names small (program-own p legal.type_rules legal.check_rules placed names (callees-are-told p legal.type_rules placed small))
