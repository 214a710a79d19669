-- The laws of the scopes of a legal program.
use Rattle.std.specs.List.{AllByRecursion}
use Rattle.ada_tree.specs.PlainProgram.{PProgram}
use Rattle.ada_tree.specs.NameList.{AreNames}
use Rattle.ada_tree.specs.WellPlaced.{IsWellPlaced}
use Rattle.ada_static_rules.specs.Refusals.{MeetsTypeRules, types_in}
use Rattle.ada_static_rules.specs.Sites.{sites}
use Rattle.syn_event.specs.declared.numbering.Mode.TheVariants.{Original}
use Rattle.syn_event.specs.Numbering.{Numbering}
use Rattle.syn_event.specs.Legal.{Legal}
use Rattle.ada_tree.specs.TypeTable.{TypeTable}
use Rattle.task_laws.specs.legal.sites.Met.{IsAddressed}
use Rattle.task_laws.specs.legal.types.Typed.{IsSmall}
use Rattle.normal_laws.specs.existence.variable_types.Ready.{IsReady}

-- At each place of a well placed program that meets the rules on types, and whose enumerations are small, the name of a callee is none whose
-- declaration is refused.
abbrev pub CalleesAreTold : Type 0
CalleesAreTold = (p : PProgram) → MeetsTypeRules p → IsWellPlaced p → IsSmall (types_in p) → AllByRecursion (λ x. IsAddressed x.scope x.demand) (sites p)

-- A legal original that is well placed, has the names of every program and small enumerations is as the fields on types want it.
abbrev pub OriginalIsReady : Type 0
OriginalIsReady = (p : PProgram) (types : TypeTable) (numbers : Numbering) → Legal p types numbers Original → IsWellPlaced p → AreNames p.names → IsSmall (types_in p) → IsReady p
