-- The law that the normal form of each legal program meets the rules 13 to 23.
use Rattle.ada_tree.specs.PlainProgram.{PProgram}
use Rattle.syn_event.specs.declared.numbering.Mode.TheVariants.{Any}
use Rattle.syn_event.specs.CheckRefusals.{MeetsCheckRules}
use Rattle.normal_laws.specs.runs.forms.Choosing.{choosing}
use Rattle.normal_laws.specs.runs.forms.Normalisable.{made_for}
use Rattle.task_laws.specs.legal.literals.Colours.{coloured}
use Rattle.normal_laws.specs.existence.Laws.{IsLegalOriginal}

-- The rules 13 to 23 refuse nothing in the normal form of a legal program, as a text of any kind (this project's rule).
abbrev pub NormalMeetsChecks : Type 0
NormalMeetsChecks = (p : PProgram) → IsLegalOriginal p → MeetsCheckRules (made_for p) Any

-- So it is with two programs that are as the law of legal programs asks: one in which a variable chooses a member of an array of tasks, and one with
-- an array of tasks whose index is an enumeration.
abbrev pub IsMet : Type 0
IsMet = MeetsCheckRules (made_for choosing) Any × MeetsCheckRules (made_for coloured) Any
