-- What the files of a replaying call for: a program and a sequence (this project's rules).
use Rattle.std.specs.Prelude.{ℕ, List, ◌⊎◌}
use Rattle.ada_tree.specs.PlainProgram.{PProgram}
use Rattle.ada_tree.specs.TypeTable.{TypeTable}
use Rattle.syn_event.specs.declared.numbering.Mode.TheVariants.{Original}
use Rattle.syn_event.specs.Numbering.{Numbering}
use Rattle.debug_collect.specs.replays.ReplayOutcomes.{ReplaysLines}
use Rattle.debug_outcome.specs.Outcomes.{Outcome}
use Rattle.debug_core.specs.LegalTexts.{IsLegalText, IsRefusedText}

-- The text is that of a legal original, and the lines call for the outcome as a sequence of its events that is replayed.
pub record AreReplayed (text lines : List ℕ) (o : Outcome) : Type 0 where
  pub program : PProgram
  pub types : TypeTable
  pub numbers : Numbering
  pub is_legal : IsLegalText text Original program types numbers
  pub replayed : ReplaysLines program types numbers lines o

-- The bytes of a program and of a sequence call for this outcome.
abbrev pub ReplayMeans : List ℕ → List ℕ → Outcome → Type 0
ReplayMeans text lines o = AreReplayed text lines o ⊎ IsRefusedText text Original o
