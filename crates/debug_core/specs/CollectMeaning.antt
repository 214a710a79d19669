-- What the text in a file that is collected calls for (this project's rules).
use Rattle.std.specs.Prelude.{ℕ, List, ◌⊎◌}
use Rattle.ada_tree.specs.PlainProgram.{PProgram}
use Rattle.ada_tree.specs.TypeTable.{TypeTable}
use Rattle.syn_event.specs.declared.numbering.Mode.TheVariants.{Original}
use Rattle.syn_event.specs.Numbering.{Numbering}
use Rattle.debug_collect.specs.CollectOutcomes.{CollectsProgram}
use Rattle.debug_outcome.specs.Outcomes.{Outcome}
use Rattle.debug_core.specs.LegalTexts.{IsLegalText, IsRefusedText}

-- The text is that of a legal original, and the outcome is that of collecting it.
pub record IsCollectedText (text : List ℕ) (o : Outcome) : Type 0 where
  pub program : PProgram
  pub types : TypeTable
  pub numbers : Numbering
  pub is_legal : IsLegalText text Original program types numbers
  pub collected : CollectsProgram program types numbers o

-- The bytes of a file that is collected call for this outcome.
abbrev pub CollectMeans : List ℕ → Outcome → Type 0
CollectMeans text o = IsCollectedText text o ⊎ IsRefusedText text Original o
