-- What a program in normal form is (this project's rule).
use Rattle.std.specs.Prelude.{◌≡◌, ℕ, false, List, [], ◌++◌}
use Rattle.std.specs.List.{AllByRecursion}
use Rattle.ada_tree.specs.PlainDecl.{PDecl, DTask, DTaskBody}
use Rattle.ada_tree.specs.PlainProgram.{PProgram}
use Rattle.syn_event.specs.DeclaredTasks.{decl_list}
use Rattle.task_model.specs.Starting.{unit_of}
use Rattle.task_laws.specs.statements.Each.{InBody}
use Rattle.task_laws.specs.legal.literals.Colours.{coloured}
use Rattle.normal_laws.specs.runs.forms.Choosing.{choosing}
use Rattle.normal_laws.specs.existence.Laws.{IsLegalOriginal}
use Rattle.replay_runs.specs.starts.Laws.{form_in}
use Rattle.replay_runs.specs.controls.formed.Laws.{IsFormed}

-- a declaration that is no task, no task type and no body (3.1)
abbrev pub IsPlain : PDecl → Type 0
IsPlain (DTask t s) = ⊥
IsPlain (DTaskBody w objects its s) = ⊥
IsPlain _ = Unit {0}

-- a task, and no task type (9.1)
abbrev pub IsTask : PDecl → Type 0
IsTask (DTask t s) = t.of_kind ≡ false
IsTask _ = ⊥

-- the body of a task (9.1)
abbrev pub IsTaskBody : PDecl → Type 0
IsTaskBody (DTaskBody w objects its s) = Unit {0}
IsTaskBody _ = ⊥

-- The declarations stand in order: first what is no task, then tasks, of which none is a task type, and then bodies (3.9).
pub record AreInOrder (ds : List PDecl) : Type 0 where
  pub first : List PDecl
  pub tasks : List PDecl
  pub bodies : List PDecl
  pub joined : ds ≡ first ++ tasks ++ bodies
  pub plain : AllByRecursion IsPlain first
  pub single : AllByRecursion IsTask tasks
  pub last : AllByRecursion IsTaskBody bodies

-- The normal form of a program is one: its declarations stand in order, no task type is declared, and each statement of each unit is formed. So no
-- callee has an index; each abort statement has one name; each index of a call or an accept is an added variable or static; each actual, and each
-- guard of a selective wait, is an added variable.
pub record IsInNormalForm (p : PProgram) : Type 0 where
  pub order : AreInOrder (decl_list (form_in p).program.decls)
  pub units : (t : ℕ) → InBody (IsFormed p t) [] (unit_of (form_in p).program (form_in p).numbers t).body

-- So is that of each legal original.
abbrev pub LegalNormalForms : Type 0
LegalNormalForms = (p : PProgram) → IsLegalOriginal p → IsInNormalForm p

-- So it is with two programs: one in which a variable chooses a member of an array of tasks, and one with an array of tasks whose index is an enumeration.
abbrev pub IsMet : Type 0
IsMet = IsInNormalForm choosing × IsInNormalForm coloured
