-- From the frames that are left and settled to what the whole task does.
use Rattle.std.proofs.Common.{◌≡◌, ℕ, ◌+◌, List, Option, Some, None, length, refl, sym, ap, ◌∙◌, subst, drop}
use Rattle.std.proofs.lemmas.List.{drop-drop}
use Rattle.ada_tree.specs.declared.naming.Word.{Word}
use Rattle.ada_tree.specs.PlainStmt.{PStmts}
use Rattle.ada_value.specs.declared.values.Raised.{Raised}
use Rattle.task_model.specs.declared.parameters.FormalParameter.{FormalParameter}
use Rattle.task_model.specs.Frames.{Around, Turns, Loop, Opened, brought_by, in_front, settled}
use Rattle.task_model.specs.Tasks.{with_control, vars_of}
use Rattle.task_model.specs.Steps.{loop_left}
use Rattle.task_state.specs.frames.Stack.{Stack, control_on, with_part, passed, framed, framed_without}
use Rattle.task_state.specs.frames.Seen.{all_parts}
use Rattle.task_state.specs.frames.Moves.{Settles, IsRaisedTo, IsLeftWith, IsExitedTo, GoesOn, Enters, IsPushed, Opens, Closes, Raises, Exits, LeavesLoop}

-- statements in front of the innermost of some frames
abbrev pub pieced : PStmts → Stack → Stack
pieced rest s = with_part record { rest = in_front rest s.top.rest; place = s.top.place } s.outer

pub goes_on : (old new : Stack) → Settles (passed old) new → GoesOn old new
goes_on old new settles t = ap (λ c. with_control t c) (settles (vars_of t))

pub enters : (branch : PStmts) (old new : Stack) → Settles (pieced branch (passed old)) new → Enters branch old new
enters branch old new settles t = ap (λ c. with_control t c) (settles (vars_of t))

pub is_pushed : (stmts : PStmts) (place : Around) (old new : Stack) → Settles (with_part record { rest = stmts; place = place } (all_parts (passed old))) new → IsPushed stmts place old new
is_pushed stmts place old new settles t vars = ap (λ c. with_control t c) (settles vars)

pub opens : (caller : ℕ) (formals : List FormalParameter) (body behind : PStmts) (old : Stack) →
    Opens caller formals body behind old (with_part record { rest = body; place = Opened caller formals None } (all_parts (pieced behind (passed old))))
opens caller formals body behind old t values = refl

pub raises : (x : Raised) (n : ℕ) (old landed new : Stack) → IsRaisedTo x n old landed → Settles landed new → Raises x n old new
raises x n old landed new lands settles t = ap (λ c. with_control t c) (settles (drop n (vars_of t)) ∙ ap settled (lands (vars_of t)))

pub exits : (w : Option Word) (n : ℕ) (old landed new : Stack) → IsExitedTo w n old landed → Settles landed new → Exits w n old new
exits w n old landed new lands settles t = ap (λ c. with_control t c) (settles (drop n (vars_of t)) ∙ ap settled (lands (vars_of t)))

pub leaves_loop : (rest : PStmts) (name : Option Word) (turns : Turns) (stmts : PStmts) (below new : Stack) → Settles below new →
    LeavesLoop (brought_by turns) (with_part record { rest = rest; place = Loop name turns stmts } (all_parts below)) new
leaves_loop rest name turns stmts below new settles name' turns' stmts' over at t =
    let same : turns ≡ turns' = cc in
    subst
    (λ w. framed_without (brought_by turns) new t ≡ loop_left w (framed (with_part record { rest = rest; place = Loop name turns stmts } (all_parts below)) t))
    same
    (ap (λ c. with_control t c) (settles (drop (brought_by turns) (vars_of t))))

pub closes : (caller : ℕ) (formals : List FormalParameter) (pending : Option Raised) (gone : ℕ) (rest : PStmts) (below landed new : Stack) → IsLeftWith pending gone below landed → Settles landed new →
    Closes (length formals + gone) (with_part record { rest = rest; place = Opened caller formals pending } (all_parts below)) new
closes caller formals None gone rest below landed new left settles over t =
    ap
    (λ c. with_control t c)
    (ap (λ vars. control_on new vars) (sym (drop-drop gone (length formals) (vars_of t))) ∙
    settles (drop gone (drop (length formals) (vars_of t))) ∙
    ap (λ s. settled (control_on s (drop gone (drop (length formals) (vars_of t))))) left.1 ∙
    ap (λ n. settled (control_on below (drop n (drop (length formals) (vars_of t))))) left.0)
closes caller formals (Some x) gone rest below landed new left settles over t =
    ap
    (λ c. with_control t c)
    (ap (λ vars. control_on new vars) (sym (drop-drop gone (length formals) (vars_of t))) ∙
    settles (drop gone (drop (length formals) (vars_of t))) ∙
    ap settled (left (drop (length formals) (vars_of t))))
