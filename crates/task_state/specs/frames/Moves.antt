-- How the frames of a task change as it goes on: each change is told by the definition of what the whole task does, for every task that has such frames. The variables are not held here, so a change tells how many of them go.
use Rattle.std.specs.Prelude.{◌≡◌, ℕ, List, ◌++◌, drop, Option, Some, None}
use Rattle.ada_tree.specs.declared.naming.Word.{Word}
use Rattle.ada_tree.specs.PlainStmt.{PStmts, no_stmt}
use Rattle.ada_value.specs.declared.values.Value.{Value}
use Rattle.ada_value.specs.declared.values.Raised.{Raised}
use Rattle.ada_value.specs.Variables.{Variables}
use Rattle.task_model.specs.declared.parameters.FormalParameter.{FormalParameter}
use Rattle.task_model.specs.Frames.{Turns, Around, Loop, settled, raised_in, exited_in}
use Rattle.task_model.specs.Tasks.{Task, vars_of, with_control, gone_to, entered, pushed, raised_there}
use Rattle.task_model.specs.Steps.{exited, loop_left}
use Rattle.task_model.specs.Calls.{opened_objects}
use Rattle.task_model.specs.Rendezvous.{behind_of, body_opened, finished}
use Rattle.task_state.specs.frames.Stack.{Stack, control_on, framed, framed_without}

-- ---- how the frames around are left

-- Those that are over have been left.
abbrev pub Settles : Stack → Stack → Type 0
Settles old new = (vars : Variables) → control_on new vars ≡ settled (control_on old vars)

-- an exception that is raised has come to its place, where nothing is left yet; so many variables have gone
abbrev pub IsRaisedTo : Raised → ℕ → Stack → Stack → Type 0
IsRaisedTo x n old new = (vars : Variables) → control_on new (drop n vars) ≡ raised_in x old.outer old.top.place vars

-- an exception that may be pending is raised
abbrev pub IsLeftWith : Option Raised → ℕ → Stack → Stack → Type 0
IsLeftWith None n old new = (n ≡ 0) × (new ≡ old)
IsLeftWith (Some x) n old new = IsRaisedTo x n old new

-- an exit that is made has come to its place, where nothing is left yet; so many variables have gone
abbrev pub IsExitedTo : Option Word → ℕ → Stack → Stack → Type 0
IsExitedTo w n old new = (vars : Variables) → control_on new (drop n vars) ≡ exited_in w old.outer old.top.place vars

-- ---- what a task does

-- The task has gone on behind its next statement.
abbrev pub GoesOn : Stack → Stack → Type 0
GoesOn old new = (t : Task) → framed new t ≡ gone_to (behind_of (framed old t)) (framed old t)

-- The task has entered a branch of its next statement.
abbrev pub Enters : PStmts → Stack → Stack → Type 0
Enters branch old new = (t : Task) → framed new t ≡ entered branch (behind_of (framed old t)) (framed old t)

-- The task stands in a new frame, behind which its next statement is passed; it may have new variables there.
abbrev pub IsPushed : PStmts → Around → Stack → Stack → Type 0
IsPushed stmts place old new =
    (t : Task) (vars : Variables) → with_control t (control_on new vars) ≡ pushed stmts place vars (behind_of (framed old t)) (framed old t)

-- An accept body has been opened for a caller; the formals are new variables, whose values do not matter here.
abbrev pub Opens : ℕ → List FormalParameter → PStmts → PStmts → Stack → Stack → Type 0
Opens caller formals body behind old new =
    (t : Task) (values : List Value) →
    with_control t (control_on new (opened_objects t.setting.types formals values ++ vars_of t)) ≡ body_opened caller formals body behind values (framed old t)

-- At the end of an accept body the task has gone on behind it, and so many variables have gone.
abbrev pub Closes : ℕ → Stack → Stack → Type 0
Closes n old new = old.top.rest ≡ no_stmt → (t : Task) → framed_without n new t ≡ finished (framed old t)

-- The exception has been raised where the task stood, and so many variables have gone.
abbrev pub Raises : Raised → ℕ → Stack → Stack → Type 0
Raises x n old new = (t : Task) → framed_without n new t ≡ raised_there x (framed old t)

-- The exit has been made, and so many variables have gone.
abbrev pub Exits : Option Word → ℕ → Stack → Stack → Type 0
Exits w n old new = (t : Task) → framed_without n new t ≡ exited w (framed old t)

-- At the end of a loop's statements the task begins its next turn.
abbrev pub BeginsTurn : Stack → Stack → Type 0
BeginsTurn old new =
    (name : Option Word) (turns : Turns) (stmts : PStmts) → old.top.rest ≡ no_stmt → old.top.place ≡ Loop name turns stmts →
    (t : Task) → framed new t ≡ gone_to stmts (framed old t)

-- At the end of a loop's statements the task has left the loop, and so many variables have gone.
abbrev pub LeavesLoop : ℕ → Stack → Stack → Type 0
LeavesLoop n old new =
    (name : Option Word) (turns : Turns) (stmts : PStmts) → old.top.rest ≡ no_stmt → old.top.place ≡ Loop name turns stmts →
    (t : Task) → framed_without n new t ≡ loop_left turns (framed old t)
