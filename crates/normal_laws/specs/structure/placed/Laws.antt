-- The laws of places in a normal form.
use Rattle.ada_tree.specs.NameList.{AreNames}
use Rattle.ada_tree.specs.PlainProgram.{PProgram}
use Rattle.ada_static_rules.specs.Refusals.{types_in}
use Rattle.ada_tree.specs.WellPlaced.{IsWellPlaced}
use Rattle.syn_event.specs.AllNumbers.{all_numbers}
use Rattle.syn_event.specs.CheckRefusals.{MeetsCheckRules}
use Rattle.syn_event.specs.declared.numbering.Mode.TheVariants.{Original}
use Rattle.task_model.specs.Setting.{Setting}
use Rattle.normal_model.specs.NormalTree.{normal_tree}
use Rattle.normal_laws.specs.structure.placed.Placeable.{HasRoom, IsPlaceable}
use Rattle.normal_laws.specs.structure.placed.Example.{passing_set}

-- The normal form of a program that is as asked is well placed.
abbrev pub NormalIsPlaced : Type 0
NormalIsPlaced = (g : Setting) → IsPlaceable g → IsWellPlaced (normal_tree g.program g.types g.numbers)

-- The same of an original with its own types and numbers: its names are such by the rules.
abbrev pub OriginalIsPlaced : Type 0
OriginalIsPlaced =
    (p : PProgram) → MeetsCheckRules p Original → IsWellPlaced p → AreNames p.names → HasRoom (record { program = p; types = types_in p; numbers = all_numbers (types_in p) p }) →
    IsWellPlaced (normal_tree p (types_in p) (all_numbers (types_in p) p))

-- A program is as asked.
abbrev pub IsMet : Type 0
IsMet = IsPlaceable passing_set
