-- What the text in a file that is checked calls for (this project's rules).
use Rattle.std.specs.Prelude.{◌≡◌, ℕ, List, ◌⊎◌}
use Rattle.ada_tree.specs.PlainProgram.{PProgram}
use Rattle.ada_tree.specs.TypeTable.{TypeTable}
use Rattle.syn_event.specs.declared.numbering.Mode.TheVariants.{Original}
use Rattle.syn_event.specs.Numbering.{Numbering}
use Rattle.debug_run.specs.texts.CheckText.{check_text}
use Rattle.debug_outcome.specs.Outcomes.{Outcome, writes}
use Rattle.debug_core.specs.LegalTexts.{IsLegalText, IsRefusedText}

-- The text is that of a legal original, and the outcome is the text of its numbers.
pub record IsChecked (text : List ℕ) (o : Outcome) : Type 0 where
  pub program : PProgram
  pub types : TypeTable
  pub numbers : Numbering
  pub is_legal : IsLegalText text Original program types numbers
  pub is : o ≡ writes (check_text program.names numbers) 0

-- The bytes of a file that is checked call for this outcome.
abbrev pub CheckMeans : List ℕ → Outcome → Type 0
CheckMeans text o = IsChecked text o ⊎ IsRefusedText text Original o
