-- The moves of the frames, which are told for every task that has them, at the task itself.
use Rattle.std.proofs.Common.{◌≡◌, ℕ, drop, Option, Result, Ok, Err, ap, ◌∙◌}
use Rattle.std.specs.Prelude.{OnOk}
use Rattle.ada_tree.specs.declared.naming.Word.{Word}
use Rattle.ada_tree.specs.PlainStmt.{PStmts}
use Rattle.ada_value.specs.declared.values.Raised.{Raised}
use Rattle.ada_value.specs.Variables.{Variables}
use Rattle.task_state.specs.frames.Stack.{Held}
use Rattle.task_state.specs.frames.Moves as moves
use Rattle.task_model.specs.Frames.{Around}
use Rattle.task_model.specs.Tasks.{entered, pushed, raised_there, vars_of, with_vars}
use Rattle.task_model.specs.Rendezvous.{behind_of}
use Rattle.task_model.specs.Steps.{exited}
use Rattle.task_state.specs.declared.state.TaskState.{TaskState}
use Rattle.task_state.specs.Plain.{plain_task, LeavesLoop}

-- ---- frames that come

pub enters_branch : {A E : Type 0} (r : Result A E) (s : TaskState) (frames : Held) (branch : PStmts) → OnOk r (moves.Enters branch s.frames.stack frames.stack) →
    OnOk r (plain_task (record s { frames = frames }) ≡ entered branch (behind_of (plain_task s)) (plain_task s))
enters_branch (Ok a) s frames branch enters = enters (plain_task s)
enters_branch (Err e) s frames branch enters = tt

pub enters_frame : {A E : Type 0} (r : Result A E) (s : TaskState) (frames : Held) (stmts : PStmts) (place : Around) → OnOk r (moves.IsPushed stmts place s.frames.stack frames.stack) →
    OnOk r (plain_task (record s { frames = frames }) ≡ pushed stmts place s.objects (behind_of (plain_task s)) (plain_task s))
enters_frame (Ok a) s frames stmts place pushes = pushes (plain_task s) s.objects
enters_frame (Err e) s frames stmts place pushes = tt

-- a frame that comes with new variables
pub enters_with : (s before : TaskState) (frames : Held) (stmts : PStmts) (place : Around) (vars : Variables) → plain_task s ≡ with_vars (plain_task before) vars →
    moves.IsPushed stmts place s.frames.stack frames.stack → plain_task (record s { frames = frames }) ≡ pushed stmts place vars (behind_of (plain_task before)) (plain_task before)
enters_with s before frames stmts place vars has pushes = pushes (plain_task s) s.objects ∙ ap (λ t. pushed stmts place (vars_of t) (behind_of t) t) has

-- ---- frames that go with their variables

pub raises_from : (s : TaskState) (frames : Held) (objects : Variables) (n : ℕ) (x : Raised) → objects ≡ drop n s.objects → moves.Raises x n s.frames.stack frames.stack →
    plain_task (record s { frames = frames; objects = objects }) ≡ raised_there x (plain_task s)
raises_from s frames objects n x left raises = ap (λ vars. plain_task (record s { frames = frames; objects = vars })) left ∙ raises (plain_task s)

pub exits_from : (s : TaskState) (frames : Held) (objects : Variables) (n : ℕ) (w : Option Word) → objects ≡ drop n s.objects → moves.Exits w n s.frames.stack frames.stack →
    plain_task (record s { frames = frames; objects = objects }) ≡ exited w (plain_task s)
exits_from s frames objects n w left exits = ap (λ vars. plain_task (record s { frames = frames; objects = vars })) left ∙ exits (plain_task s)

pub leaves_from : (s : TaskState) (frames : Held) (objects : Variables) (n : ℕ) → objects ≡ drop n s.objects → moves.LeavesLoop n s.frames.stack frames.stack →
    LeavesLoop (plain_task s) (plain_task (record s { frames = frames; objects = objects }))
leaves_from s frames objects n left leaves name turns stmts rest at =
    ap (λ vars. plain_task (record s { frames = frames; objects = vars })) left ∙ leaves name turns stmts rest at (plain_task s)
