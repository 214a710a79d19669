-- The laws of what a collecting text of a program with abort statements declares (8.3; this project's rule). They are told of programs without abort statements too.
use Rattle.std.specs.Prelude.{[]}
use Rattle.ada_tree.specs.TypeTable.{TypeTable}
use Rattle.ada_tree.specs.PlainProgram.{PProgram}
use Rattle.ada_static_rules.specs.Sites.{sites}
use Rattle.syn_event.specs.Numbering.{Numbering}
use Rattle.task_laws.specs.legal.literals.Colours.{coloured}
use Rattle.normal_model.specs.NormalTree.{normal_tree}
use Rattle.normal_laws.specs.runs.forms.Choosing.{choosing}
use Rattle.normal_laws.specs.runs.forms.Normalisable.{made_for}
use Rattle.normal_laws.specs.existence.Laws.{IsLegalOriginal}
use Rattle.normal_laws.specs.structure.once.Once.{AllOnce}
use Rattle.collect_model.specs.aborts.AbortTree.{abort_tree}
use Rattle.collect_structure.specs.aborts.Laws.{text_for}
use Rattle.collect_structure.specs.aborts.declares_once.Names.{LeavesNames}

-- Rule Duplicate refuses nothing in the text of a program, where it refuses nothing in the normal form, and the names there leave room.
abbrev pub AbortDeclaresOnce : Type 0
AbortDeclaresOnce =
    (p : PProgram) (types : TypeTable) (numbers : Numbering) →
    AllOnce [] (sites (normal_tree p types numbers)) → LeavesNames (normal_tree p types numbers) → AllOnce [] (sites (abort_tree p types numbers))

-- The names of the normal form of a legal program leave room for its text.
abbrev pub LegalLeavesNames : Type 0
LegalLeavesNames = (p : PProgram) → IsLegalOriginal p → LeavesNames (made_for p)

-- So rule Duplicate refuses nothing in the text of a legal program.
abbrev pub LegalAbortDeclaresOnce : Type 0
LegalAbortDeclaresOnce = (p : PProgram) → IsLegalOriginal p → AllOnce [] (sites (text_for p))

-- The names of two normal forms leave room.
abbrev pub IsMet : Type 0
IsMet = LeavesNames (made_for choosing) × LeavesNames (made_for coloured)
