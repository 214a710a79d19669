-- What the files of a requiring call for: a program, a sequence and constraints (this project's rules).
use Rattle.std.specs.Prelude.{ℕ, List, ◌⊎◌}
use Rattle.ada_tree.specs.PlainProgram.{PProgram}
use Rattle.ada_tree.specs.TypeTable.{TypeTable}
use Rattle.syn_event.specs.declared.numbering.Mode.TheVariants.{Original}
use Rattle.syn_event.specs.Numbering.{Numbering}
use Rattle.debug_sequence.specs.RequireOutcomes.{RequiresLines}
use Rattle.debug_outcome.specs.Outcomes.{Outcome}
use Rattle.debug_core.specs.LegalTexts.{IsLegalText, IsRefusedText}

-- The text is that of a legal original, and the lines and the constraints call for the outcome as a sequence of its events and what is asked of it.
pub record AreRequired (text lines constraints : List ℕ) (o : Outcome) : Type 0 where
  pub program : PProgram
  pub types : TypeTable
  pub numbers : Numbering
  pub is_legal : IsLegalText text Original program types numbers
  pub required : RequiresLines program.names numbers lines constraints o

-- The bytes of a program, of a sequence and of constraints call for this outcome.
abbrev pub RequireMeans : List ℕ → List ℕ → List ℕ → Outcome → Type 0
RequireMeans text lines constraints o = AreRequired text lines constraints o ⊎ IsRefusedText text Original o
