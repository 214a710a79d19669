-- When a text is that of a program which meets every static rule, and what it calls for where it is not (this project's rules).
use Rattle.std.specs.Prelude.{ℕ, List, ◌⊎◌}
use Rattle.ada_parser.specs.Exactly.{IsRead}
use Rattle.ada_tree.specs.PlainProgram.{PProgram}
use Rattle.ada_tree.specs.TypeTable.{TypeTable}
use Rattle.syn_event.specs.declared.numbering.Mode.{Mode}
use Rattle.syn_event.specs.Legal.{Legal}
use Rattle.syn_event.specs.Numbering.{Numbering}
use Rattle.debug_outcome.specs.Outcomes.{Outcome}
use Rattle.debug_core.specs.RuleFaults.{IsIllegal}
use Rattle.debug_core.specs.TextFaults.{IsUnreadableText}

-- The text is that of this program and of no other, and the program meets every static rule and has these types and numbers.
pub record IsLegalText (text : List ℕ) (mode : Mode) (program : PProgram) (types : TypeTable) (numbers : Numbering) : Type 0 where
  pub is_read : IsRead text program
  pub legal : Legal program types numbers mode

-- The text is that of a program which is refused, and the outcome tells it.
pub record IsIllegalText (text : List ℕ) (mode : Mode) (o : Outcome) : Type 0 where
  pub program : PProgram
  pub is_read : IsRead text program
  pub illegal : IsIllegal program mode text o

-- The text gives no program that meets every static rule: it is that of none, or of one that is refused.
abbrev pub IsRefusedText : List ℕ → Mode → Outcome → Type 0
IsRefusedText text mode o = IsUnreadableText text o ⊎ IsIllegalText text mode o
