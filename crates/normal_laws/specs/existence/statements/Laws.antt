-- How the statements of a normal form name tasks: by simple names, and at most one in an abort statement (4.1, 9.5, 9.10; this project's rule).
use Rattle.std.specs.Prelude.{◌≡◌, ℕ, ℤ, ◌<◌, ◌≤◌, List, [], length, None}
use Rattle.std.specs.List.{AllByRecursion}
use Rattle.ada_tree.specs.PlainStmt.{PCallee, PStmt, SAbort, SCall, SConditional, STimed, PBody}
use Rattle.ada_tree.specs.PlainProgram.{PProgram}
use Rattle.task_model.specs.Setting.{Setting}
use Rattle.task_model.specs.Tasks.{Task}
use Rattle.task_model.specs.Starting.{started}
use Rattle.task_laws.specs.statements.Each.{Loops, InBody, HoldsOf}
use Rattle.task_laws.specs.statements.Laws.{StaysSo}
use Rattle.normal_model.specs.RewrittenUnit.{RewrittenUnit}
use Rattle.normal_model.specs.NormalStmts.{normal_body}
use Rattle.normal_laws.specs.runs.runs.Premises.{programs_of}
use Rattle.normal_laws.specs.runs.forms.Normalisable.{numbers_of, normal_rewrite}
use Rattle.normal_laws.specs.existence.Laws.{IsLegalOriginal}

-- the callee is a simple name and no indexed component (4.1, 4.1.1)
abbrev pub IsSimpleName : PCallee → Type 0
IsSimpleName x = x.index ≡ None

-- The callee of a call of any form is a simple name. An abort statement has at most one name, which is a simple name. Nothing is asked of other statements.
abbrev pub NamesTasksSimply : Loops → PStmt → Type 0
NamesTasksSimply loops (SAbort xs s) = (length xs ≤ 1) × AllByRecursion IsSimpleName xs
NamesTasksSimply loops (SCall x s) = IsSimpleName x.task
NamesTasksSimply loops (SConditional x l o s) = IsSimpleName x.task
NamesTasksSimply loops (STimed x l d o s) = IsSimpleName x.task
NamesTasksSimply loops _ = Unit {0}

-- So it is of each statement of a body in normal form, whatever the body.
abbrev pub BodiesNameSimply : Type 0
BodiesNameSimply = (u : RewrittenUnit) (x : PBody) → InBody NamesTasksSimply [] (normal_body u x)

-- the normal form of a program as its tasks read it, by its own types and numbers; it is `form_setting` of `replay_runs: starts`
abbrev pub made_setting : PProgram → Setting
made_setting p = (programs_of (normal_rewrite p [])).made

-- So it is of each statement of a task of a legal program's normal form as the task starts.
abbrev pub LegalTasksNameSimply : Type 0
LegalTasksNameSimply = (p : PProgram) → IsLegalOriginal p → (inputs : List (List ℤ)) (t : ℕ) → t < length (numbers_of p).tasks → HoldsOf NamesTasksSimply (started (made_setting p) inputs t)

-- After each step and each event it is still so.
abbrev pub NamesStaySimple : Type 0
NamesStaySimple = (t : Task) → HoldsOf NamesTasksSimply t → StaysSo NamesTasksSimply t
