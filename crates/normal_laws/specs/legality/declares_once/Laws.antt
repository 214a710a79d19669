-- The law of what the normal form of a legal program declares (8.3; this project's rule).
use Rattle.std.specs.Prelude.{[]}
use Rattle.ada_tree.specs.PlainProgram.{PProgram}
use Rattle.ada_static_rules.specs.Sites.{sites}
use Rattle.normal_laws.specs.runs.forms.Choosing.{choosing}
use Rattle.normal_laws.specs.runs.forms.Normalisable.{made_for}
use Rattle.task_laws.specs.legal.literals.Colours.{coloured}
use Rattle.normal_laws.specs.existence.Laws.{IsLegalOriginal}
use Rattle.normal_laws.specs.structure.once.Once.{AllOnce}

-- Rule Duplicate refuses nothing in the normal form of a legal program.
abbrev pub NormalDeclaresOnce : Type 0
NormalDeclaresOnce = (p : PProgram) → IsLegalOriginal p → AllOnce [] (sites (made_for p))

-- So it is with two programs that are as the law of legal programs asks: one in which a variable chooses a member of an array of tasks, and one with
-- an array of tasks whose index is an enumeration.
abbrev pub IsMet : Type 0
IsMet = AllOnce [] (sites (made_for choosing)) × AllOnce [] (sites (made_for coloured))
