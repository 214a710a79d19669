-- When a program meets all static rules, and which types and numbers it has.
use Rattle.std.specs.Prelude.{◌≡◌}
use Rattle.ada_tree.specs.PlainProgram.{PProgram}
use Rattle.ada_tree.specs.TypeTable.{TypeTable}
use Rattle.ada_static_rules.specs.Refusals.{MeetsTypeRules, types_in}
use Rattle.syn_event.specs.declared.numbering.Mode.{Mode}
use Rattle.syn_event.specs.Numbering.{Numbering}
use Rattle.syn_event.specs.CheckRefusals.{MeetsCheckRules}
use Rattle.syn_event.specs.AllNumbers.{all_numbers}

-- The program meets every static rule, and these are its types and numbers.
pub record Legal (p : PProgram) (types : TypeTable) (numbers : Numbering) (mode : Mode) : Type 0 where
  -- the rules 1 to 12, and 13 to 23
  pub type_rules : MeetsTypeRules p
  pub check_rules : MeetsCheckRules p mode
  pub its_types : types ≡ types_in p
  pub its_numbers : numbers ≡ all_numbers types p
