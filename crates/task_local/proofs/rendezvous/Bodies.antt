-- The accept body that is opened, and the formals of its entry.
use Rattle.std.proofs.Common.{◌≡◌, ◌++◌, ℕ, ℤ, List, drop, length, Option, Some, None, refl, sym, ap, ◌∙◌}
use Rattle.std.proofs.Math.Seq.{drop-append_seam}
use Rattle.ada_tree.specs.TypeTable.{TypeTable}
use Rattle.ada_tree.specs.PlainStmt.{PStmt, PStmts, stmt_then}
use Rattle.ada_value.specs.declared.values.Value.{Value}
use Rattle.ada_value.specs.Variables.{Variables}
use Rattle.task_state.specs.frames.Stack.{Held}
use Rattle.task_state.specs.frames.Moves.{Opens}
use Rattle.task_model.specs.declared.parameters.FormalParameter.{FormalParameter}
use Rattle.task_model.specs.Setting.{parameters_of}
use Rattle.task_model.specs.Tasks.{Task, rest_of, vars_of}
use Rattle.task_model.specs.Calls.{opened_objects}
use Rattle.task_model.specs.Waits.{Open, Accepts, Delays, Terminates, accepting_at, alternative_for, first_accepting, open_at}
use Rattle.task_model.specs.Rendezvous.{alternative_opened, behind_of, body_opened}
use Rattle.task_state.specs.declared.state.TaskState.{TaskState}
use Rattle.task_state.specs.Plain.{plain_task}
use Rattle.task_waits.specs.Standing.{Parts, parts_opened, task_with}
use Rattle.task_waits.proofs.Standing.{open_alike}
use Rattle.task_waits.proofs.calls.Returning.{length_opened}

-- ---- the accept that is taken

pub accepts_next : (t : Task) (s : PStmt) (e : ℕ) (i : ℤ) (parts : Parts) → rest_of t ≡ stmt_then s (behind_of t) →
    parts ≡ parts_opened (first_accepting e i (open_at (task_with t.setting t.number (vars_of t)) s)) → parts ≡ parts_opened (alternative_for t e i)
accepts_next t s e i parts at is =
    is
    ∙ ap (λ r. parts_opened (first_accepting e i r)) (sym (open_alike t s))
    ∙ ap (λ rest. parts_opened (accepting_at t rest e i)) (sym at)

-- ---- the body

opened_with : (caller : ℕ) (o : Option Open) (values : List Value) (t : Task) →
    body_opened caller (parameters_of t.setting.types (parts_opened o).formals) (parts_opened o).body (parts_opened o).behind values t ≡ alternative_opened caller o values t
opened_with caller None values t = refl
opened_with caller (Some (Accepts e i head body behind)) values t = refl
opened_with caller (Some (Delays k d stmts)) values t = refl
opened_with caller (Some Terminates) values t = refl

-- the body of the parts is that of the alternative
pub opens_alternative : (caller : ℕ) (o : Option Open) (values : List Value) (t : Task) (parts : Parts) (fs : List FormalParameter) → parts ≡ parts_opened o →
    fs ≡ parameters_of t.setting.types parts.formals → body_opened caller fs parts.body parts.behind values t ≡ alternative_opened caller o values t
opens_alternative caller o values t parts fs is formals_are =
    ap (λ l. body_opened caller l parts.body parts.behind values t) formals_are
    ∙ ap (λ (p : Parts). body_opened caller (parameters_of t.setting.types p.formals) p.body p.behind values t) is
    ∙ opened_with caller o values t

pub opens_from : (s : TaskState) (frames : Held) (objects : Variables) (caller : ℕ) (fs : List FormalParameter) (body behind : PStmts) (values : List Value) →
    objects ≡ opened_objects s.links.now.types fs values ++ s.objects → Opens caller fs body behind s.frames.stack frames.stack →
    plain_task (record s { frames = frames; objects = objects }) ≡ body_opened caller fs body behind values (plain_task s)
opens_from s frames objects caller fs body behind values opened opens =
    ap (λ vars. plain_task (record s { frames = frames; objects = vars })) opened ∙ opens (plain_task s) values

-- without the formals the variables are as before
pub formals_left : (types : TypeTable) (fs : List FormalParameter) (vs : List Value) (old opened left : Variables) → opened ≡ opened_objects types fs vs ++ old →
    left ≡ drop (length fs) opened → left ≡ old
formals_left types fs vs old opened left is leaves =
    leaves
    ∙ ap (drop (length fs)) is
    ∙ ap (λ n. drop n (opened_objects types fs vs ++ old)) (sym (length_opened types fs vs))
    ∙ drop-append_seam (opened_objects types fs vs) old
