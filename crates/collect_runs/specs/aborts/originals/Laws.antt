-- The collecting text with abort statements of a legal program collects what the program itself does (this project's rule).
use Rattle.std.specs.Prelude.{◌≡◌, true}
use Rattle.ada_tree.specs.PlainProgram.{PProgram}
use Rattle.normal_laws.specs.existence.Laws.{IsLegalOriginal}
use Rattle.collect_runs.specs.originals.Laws.{CollectsProgram}
use Rattle.collect_model.specs.aborts.Promised.{has_abort}
use Rattle.collect_model.specs.aborts.examples.Itself.{itself}
use Rattle.collect_runs.specs.aborts.starts.Texts.{abort_text}

-- The collecting text of a legal program collects the program, whether abort statements stand in it or not.
abbrev pub LegalTextsCollectPrograms : Type 0
LegalTextsCollectPrograms = (p : PProgram) → IsLegalOriginal p → CollectsProgram p (abort_text p)

-- it is a legal program with an abort statement, and its text collects it
abbrev pub IsMetBy : PProgram → Type 0
IsMetBy p = IsLegalOriginal p × (has_abort p ≡ true) × CollectsProgram p (abort_text p)

-- Nothing of this is empty: a program in which a task aborts itself is so.
abbrev pub IsMet : Type 0
IsMet = IsMetBy itself
