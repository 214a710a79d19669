-- The law that the normal form of each legal program is well placed.
use Rattle.ada_tree.specs.PlainProgram.{PProgram}
use Rattle.ada_tree.specs.WellPlaced.{IsWellPlaced}
use Rattle.normal_laws.specs.runs.forms.Choosing.{choosing}
use Rattle.normal_laws.specs.runs.forms.Normalisable.{setting_for, made_for}
use Rattle.normal_laws.specs.structure.placed.Placeable.{HasRoom}
use Rattle.task_laws.specs.legal.literals.Colours.{coloured}
use Rattle.normal_laws.specs.existence.Laws.{IsLegalOriginal}

-- Each legal program has room for its normal form: few variables, small indices of members, and actuals for formals alone (this project's rule).
abbrev pub LegalHasRoom : Type 0
LegalHasRoom = (p : PProgram) → IsLegalOriginal p → HasRoom (setting_for p)

-- So its normal form is well placed (this project's rule).
abbrev pub NormalIsPlaced : Type 0
NormalIsPlaced = (p : PProgram) → IsLegalOriginal p → IsWellPlaced (made_for p)

-- So it is with two programs that are as the law of legal programs asks: one in which a variable chooses a member of an array of tasks, and one with
-- an array of tasks whose index is an enumeration.
abbrev pub IsMet : Type 0
IsMet = IsWellPlaced (made_for choosing) × IsWellPlaced (made_for coloured)
