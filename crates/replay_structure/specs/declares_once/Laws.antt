-- The laws of what a replay text declares (8.3; this project's rule).
use Rattle.std.specs.Prelude.{◌≡◌, List, []}
use Rattle.ada_tree.specs.declared.naming.Span.{Span}
use Rattle.ada_tree.specs.TypeTable.{TypeTable}
use Rattle.ada_tree.specs.PlainStmt.{PBody}
use Rattle.ada_tree.specs.PlainProgram.{PProgram}
use Rattle.ada_static_rules.specs.Refusals.{types_in}
use Rattle.ada_static_rules.specs.Sites.{sites}
use Rattle.syn_event.specs.Numbering.{Numbering}
use Rattle.control_script.specs.declared.Op.{Op}
use Rattle.normal_model.specs.RewrittenUnit.{RewrittenUnit}
use Rattle.normal_model.specs.NormalTree.{normal_tree}
use Rattle.normal_laws.specs.runs.forms.Choosing.{choosing}
use Rattle.normal_laws.specs.runs.forms.Normalisable.{numbers_of, made_for}
use Rattle.task_laws.specs.legal.literals.Colours.{coloured}
use Rattle.normal_laws.specs.existence.Laws.{IsLegalOriginal}
use Rattle.normal_laws.specs.structure.once.Once.{AllOnce}
use Rattle.normal_laws.specs.structure.once.Names.{body_names}
use Rattle.replay_model.specs.ReplayStmts.{replay_body}
use Rattle.replay_model.specs.ReplayTree.{replay_of, normal_setting}
use Rattle.replay_structure.specs.declares_once.Names.{LeavesNames}

-- The statements of a unit in a replay text declare and name what those of the unit do, in the same order.
abbrev pub ReplayNamesSame : Type 0
ReplayNamesSame = (u : RewrittenUnit) (s : Span) (b : PBody) → body_names (replay_body u s b) ≡ body_names b

-- Rule Duplicate refuses nothing in the replay text of a normal form, whatever the operations, where it refuses nothing in the normal form, and the
-- names there are none that the text adds.
abbrev pub ReplayDeclaresOnce : Type 0
ReplayDeclaresOnce =
    (p : PProgram) (types : TypeTable) (numbers : Numbering) (ops : List Op) →
    AllOnce [] (sites (normal_tree p types numbers)) → LeavesNames (normal_tree p types numbers) → AllOnce [] (sites (replay_of (normal_setting p types numbers) ops))

-- The names of the normal form of a legal program leave room for its replay text.
abbrev pub LegalLeavesNames : Type 0
LegalLeavesNames = (p : PProgram) → IsLegalOriginal p → LeavesNames (made_for p)

-- So rule Duplicate refuses nothing in the replay text of a legal program, whatever the operations.
abbrev pub LegalReplayDeclaresOnce : Type 0
LegalReplayDeclaresOnce = (p : PProgram) → IsLegalOriginal p → (ops : List Op) → AllOnce [] (sites (replay_of (normal_setting p (types_in p) (numbers_of p)) ops))

-- So it is with two programs that are as the law of legal programs asks: one in which a variable chooses a member of an array of tasks, and one with
-- an array of tasks whose index is an enumeration. Their names leave room.
abbrev pub IsMet : Type 0
IsMet = LeavesNames (made_for choosing) × LeavesNames (made_for coloured)
