-- What a run or a judgement starts from by the bytes of a program and of the inputs of its tasks, and what they call for where they give no start (this project's rules).
use Rattle.std.specs.Prelude.{ℕ, List, Option, ◌⊎◌}
use Rattle.ada_tree.specs.PlainProgram.{PProgram}
use Rattle.ada_tree.specs.TypeTable.{TypeTable}
use Rattle.syn_event.specs.declared.numbering.Mode.{Mode}
use Rattle.syn_event.specs.Numbering.{Numbering}
use Rattle.task_model.specs.Machine.{ProgramWithInputs}
use Rattle.debug_outcome.specs.Outcomes.{Outcome}
use Rattle.debug_core.specs.InputTexts.{AreInputs, AreBadInputs}
use Rattle.debug_core.specs.LegalTexts.{IsLegalText, IsRefusedText}

-- The text is that of this program and of no other, which meets every static rule and has these types and numbers; and these are the inputs of its tasks.
pub record IsStart (text : List ℕ) (mode : Mode) (bytes : Option (List ℕ)) (setup : ProgramWithInputs) (numbers : Numbering) : Type 0 where
  pub is_legal : IsLegalText text mode setup.program setup.types numbers
  pub are_inputs : AreInputs numbers bytes setup.inputs

-- The text is that of a program which meets every static rule, and the file of inputs is bad.
pub record HasBadInputs (text : List ℕ) (mode : Mode) (bytes : Option (List ℕ)) (o : Outcome) : Type 0 where
  pub program : PProgram
  pub types : TypeTable
  pub numbers : Numbering
  pub is_legal : IsLegalText text mode program types numbers
  pub are_bad : AreBadInputs numbers bytes o

-- There is no start: the text gives no program that meets every static rule, or it does and the file of inputs is bad.
abbrev pub IsRefusedStart : List ℕ → Mode → Option (List ℕ) → Outcome → Type 0
IsRefusedStart text mode bytes o = IsRefusedText text mode o ⊎ HasBadInputs text mode bytes o
