-- No task stands at the end of a block.
use Rattle.std.proofs.Common.{◌≡◌, ℕ, ℤ, Bool, true, false, if◌then◌else◌, List, [], ◌∷◌, ◌++◌, drop, slice_index_or, Option, Some, None, Result, Ok, Err, refl}
use Rattle.ada_tree.specs.declared.naming.Word.{Word}
use Rattle.ada_tree.specs.PlainStmt.{PTarget, PPart, PScheme, LWhile, LFor, PStmt, SNull, SAssign, SDelay, SExit, SRaise, SAbort, SCall, SAccept, SWait, SConditional, STimed, SPut, SPutLine, SNewLine, SGet, SIf, SCase, SBlock, SLoop, PStmts, no_stmt, stmt_then}
use Rattle.ada_value.specs.declared.values.Raised.{Raised}
use Rattle.ada_value.specs.declared.values.Raised.TheVariants as raised
use Rattle.ada_value.specs.declared.values.Limits.{Limits}
use Rattle.ada_value.specs.declared.values.Value.{Value}
use Rattle.ada_value.specs.declared.values.Value.TheVariants.{Number}
use Rattle.ada_value.specs.Values.{and_then, is_empty_range}
use Rattle.ada_value.specs.Texts.{parts_output}
use Rattle.ada_value.specs.Variables.{Variables}
use Rattle.task_model.specs.declared.parameters.FormalParameter.{FormalParameter}
use Rattle.task_model.specs.Frames.{Turns, Endless, While, Counting, Around, OwnBody, Block, Handling, Loop, Opened, PFrame, Control, control, in_front, settled_in, settled, brought_by, raised_in, exited_in}
use Rattle.task_model.specs.Setting.{Setting, parameters_of}
use Rattle.task_model.specs.Starting.{Unit, objects_of, started_in, unit_of}
use Rattle.task_model.specs.Tasks.{Task, rest_of, place_of, outer_of, vars_of, value_of, with_control, with_input, with_text, with_vars, gone_to, stmts_or_none, entered, pushed, raised_there, or_raised}
use Rattle.task_model.specs.Steps as steps
use Rattle.task_model.specs.Stands.{Stand, Steps, Raises, At, stand_of, stepped_at, stepped_behind, stepped_with, stepped_by}
use Rattle.task_model.specs.Rendezvous as rendezvous
use Rattle.task_model.specs.Calls.{Copies, values_handed}
use Rattle.task_model.specs.Waits.{Open, Accepts, Delays, Terminates, alternative_for, delay_stmts}
use Rattle.task_laws.specs.statements.Blocks.{HasLeftBlocks, TasksStartOutside, TasksLeaveBlocks}

-- ---- going on

twice : (o : List PFrame) (r : PStmts) (p : Around) (V : Variables) → settled (settled_in o r p V) ≡ settled_in o r p V
twice o (stmt_then s r) p V = refl
twice [] no_stmt p V = refl
twice (part ∷ parts) no_stmt (Block hs) V = twice parts part.rest part.place V
twice (part ∷ parts) no_stmt (Handling x) V = twice parts part.rest part.place V
twice (part ∷ parts) no_stmt (OwnBody hs taken) V = refl
twice (part ∷ parts) no_stmt (Loop name turns l) V = refl
twice (part ∷ parts) no_stmt (Opened caller formals pending) V = refl

goes : (rest : PStmts) (t : Task) → HasLeftBlocks (gone_to rest t)
goes rest t = twice (outer_of t) rest (place_of t) (vars_of t)

settles : (c : Control) (t : Task) → HasLeftBlocks (with_control t (settled c))
settles c t = twice c.outer c.top.rest c.top.place c.vars

enters : (l behind : PStmts) (t : Task) → HasLeftBlocks (entered l behind t)
enters l behind t = goes (in_front l behind) t

pushes : (l : PStmts) (p : Around) (V : Variables) (behind : PStmts) (t : Task) → HasLeftBlocks (pushed l p V behind t)
pushes l p V behind t = twice (record { rest = behind; place = place_of t } ∷ outer_of t) l p V

raises : (x : Raised) (t : Task) → HasLeftBlocks (raised_there x t)
raises x t = settles (raised_in x (outer_of t) (place_of t) (vars_of t)) t

or-raises : {A : Type 0} (f : A → Task) (t : Task) (r : Result A Raised) → ((a : A) → HasLeftBlocks (f a)) → HasLeftBlocks (or_raised f t r)
or-raises f t (Ok a) h = h a
or-raises f t (Err x) h = raises x t

either : (b : Bool) (t k : Task) → HasLeftBlocks t → HasLeftBlocks k → HasLeftBlocks (if b then t else k)
either true t k h j = h
either false t k h j = j

-- ---- local steps

gets : (target : PTarget) (behind : PStmts) (t : Task) (k : ℕ) (input : List ℤ) → HasLeftBlocks (steps.got target behind t k input)
gets target behind t k [] = raises raised.End t
gets target behind t k (z ∷ rest) = or-raises (λ vars. gone_to behind (with_vars (with_input t rest) vars)) (with_input t rest) (steps.stored (with_input t rest) target k (Number z)) (λ vars. goes behind (with_vars (with_input t rest) vars))

begins : (name : Option Word) (w : Word) (backwards : Bool) (l behind : PStmts) (t : Task) (r : Limits) → HasLeftBlocks (steps.counting_begun name w backwards l behind t r)
begins name w backwards l behind t r =
    either (is_empty_range r) (gone_to behind t)
    (pushed l (Loop name (Counting backwards (if backwards then r.first else r.last)) l) (steps.loop_parameter t w r.kind (if backwards then r.last else r.first) ∷ vars_of t) behind t)
    (goes behind t)
    (pushes l (Loop name (Counting backwards (if backwards then r.first else r.last)) l) (steps.loop_parameter t w r.kind (if backwards then r.last else r.first) ∷ vars_of t) behind t)

leaves : (turns : Turns) (o : List PFrame) (V : Variables) (t : Task) → HasLeftBlocks t → HasLeftBlocks (steps.left_in turns o V t)
leaves turns [] V t h = h
leaves turns (part ∷ parts) V t h = twice parts part.rest part.place (drop (brought_by turns) V)

loops : (name : Option Word) (scheme : Option PScheme) (l behind : PStmts) (t : Task) → HasLeftBlocks (steps.loop_step name scheme l behind t)
loops name None l behind t = pushes l (Loop name Endless l) (vars_of t) behind t
loops name (Some (LWhile e)) l behind t =
    or-raises (λ b. if b then pushed l (Loop name (While e) l) (vars_of t) behind t else gone_to behind t) t (steps.condition t e)
    (λ b. either b (pushed l (Loop name (While e) l) (vars_of t) behind t) (gone_to behind t) (pushes l (Loop name (While e) l) (vars_of t) behind t) (goes behind t))
loops name (Some (LFor w backwards range)) l behind t = or-raises (λ r. steps.counting_begun name w backwards l behind t r) t (steps.counted_range t range) (λ r. begins name w backwards l behind t r)

turns : (x : Turns) (l : PStmts) (t : Task) → HasLeftBlocks t → HasLeftBlocks (steps.turn_step x l t)
turns Endless l t h = goes l t
turns (While e) l t h =
    or-raises (λ b. if b then gone_to l t else steps.loop_left (While e) t) t (steps.condition t e)
    (λ b. either b (gone_to l t) (steps.loop_left (While e) t) (goes l t) (leaves (While e) (outer_of t) (vars_of t) t h))
turns (Counting backwards last) l t h =
    either (steps.has_turn backwards last (steps.counted_so_far (vars_of t))) (gone_to l (with_vars t (steps.counted_on t backwards (vars_of t)))) (steps.loop_left (Counting backwards last) t)
    (goes l (with_vars t (steps.counted_on t backwards (vars_of t)))) (leaves (Counting backwards last) (outer_of t) (vars_of t) t h)

exits : (w : Option Word) (t : Task) → HasLeftBlocks (steps.exited w t)
exits w t = settles (exited_in w (outer_of t) (place_of t) (vars_of t)) t

puts : (ps : List PPart) (closing : List ℕ) (behind : PStmts) (t : Task) → HasLeftBlocks (steps.put_step ps closing behind t)
puts ps closing behind t =
    or-raises (λ text. gone_to behind (with_text t (text ++ closing))) t (parts_output t.setting.program.names t.setting.types (vars_of t) ps) (λ text. goes behind (with_text t (text ++ closing)))

at-statement : (s : PStmt) (behind : PStmts) (t : Task) → HasLeftBlocks t → HasLeftBlocks (stepped_at s behind t)
at-statement (SNull s) behind t h = goes behind t
at-statement (SAssign target e s) behind t h = or-raises (λ vars. gone_to behind (with_vars t vars)) t (steps.assigned t target e) (λ vars. goes behind (with_vars t vars))
at-statement (SDelay d s) behind t h = goes behind t
at-statement (SExit w e s) behind t h = or-raises (λ b. if b then steps.exited w t else gone_to behind t) t (steps.exit_test t e) (λ b. either b (steps.exited w t) (gone_to behind t) (exits w t) (goes behind t))
at-statement (SRaise w s) behind t h = raises (steps.exception_meant w t) t
at-statement (SAbort xs s) behind t h = goes behind t
at-statement (SPut ps s) behind t h = puts ps [] behind t
at-statement (SPutLine ps s) behind t h = puts ps steps.line_end behind t
at-statement (SNewLine s) behind t h = puts [] steps.line_end behind t
at-statement (SGet target s) behind t h = or-raises (λ k. steps.got target behind t k t.input) t (steps.aim_of t target) (λ k. gets target behind t k t.input)
at-statement (SIf x m s) behind t h = or-raises (λ branch. entered (stmts_or_none branch) behind t) t (steps.arm_taken t x m) (λ branch. enters (stmts_or_none branch) behind t)
at-statement (SCase e x m s) behind t h = or-raises (λ branch. entered (stmts_or_none branch) behind t) t (and_then (value_of t e) (λ v. steps.case_taken t v x m)) (λ branch. enters (stmts_or_none branch) behind t)
at-statement (SBlock b s) behind t h = pushes (steps.block_stmts b) (Block (steps.block_handlers b)) (vars_of t) behind t
at-statement (SLoop name scheme l s) behind t h = loops name scheme l behind t
at-statement (SCall c s) behind t h = h
at-statement (SAccept a s) behind t h = h
at-statement (SWait x m s) behind t h = h
at-statement (SConditional c l m s) behind t h = h
at-statement (STimed c l d m s) behind t h = h

at-frame : (place : Around) (t : Task) → HasLeftBlocks t → HasLeftBlocks (stepped_behind place t)
at-frame (Loop name x l) t h = turns x l t h
at-frame (OwnBody hs taken) t h = h
at-frame (Block hs) t h = h
at-frame (Handling x) t h = h
at-frame (Opened caller formals pending) t h = h

in-rest : (rest : PStmts) (place : Around) (t : Task) → HasLeftBlocks t → HasLeftBlocks (stepped_with rest place t)
in-rest no_stmt place t h = at-frame place t h
in-rest (stmt_then s rest) place t h = at-statement s rest t h

by-stand : (s : Stand) (t : Task) → HasLeftBlocks t → HasLeftBlocks (stepped_by s t)
by-stand Steps t h = in-rest (rest_of t) (place_of t) t h
by-stand (Raises x) t h = raises x t
by-stand (At offer) t h = h

-- ---- events

opens : (caller : ℕ) (formals : List FormalParameter) (l behind : PStmts) (values : List Value) (t : Task) → HasLeftBlocks (rendezvous.body_opened caller formals l behind values t)
opens caller formals no_stmt behind values t = refl
opens caller formals (stmt_then s l) behind values t = refl

accepts : (caller : ℕ) (o : Option Open) (values : List Value) (t : Task) → HasLeftBlocks (rendezvous.alternative_opened caller o values t)
accepts caller (Some (Accepts e i head l behind)) values t = opens caller (parameters_of t.setting.types head.formals) l behind values t
accepts caller (Some (Delays k d l)) values t = refl
accepts caller (Some Terminates) values t = refl
accepts caller None values t = refl

goes-on : (pending : Option Raised) (t : Task) → HasLeftBlocks (rendezvous.going_on pending t)
goes-on None t = goes (rest_of t) t
goes-on (Some x) t = raises x t

closes : (place : Around) (t : Task) → HasLeftBlocks t → HasLeftBlocks (rendezvous.body_closed place t)
closes (Opened caller formals pending) t h = goes-on pending (rendezvous.frame_left t (outer_of t))
closes (OwnBody hs taken) t h = h
closes (Block hs) t h = h
closes (Handling x) t h = h
closes (Loop name x l) t h = h

comes-back : (t : Task) (copies : Copies) (o : Option Raised) → HasLeftBlocks (rendezvous.come_back t copies o)
comes-back t copies None = enters (rendezvous.more_in (rest_of t)) (rendezvous.behind_of t) (with_vars t copies.vars)
comes-back t copies (Some x) = raises x (with_vars t copies.vars)

resumes : (o : Option Raised) (values : List Value) (t : Task) → HasLeftBlocks (rendezvous.resumed_with o values t)
resumes (Some x) values t = raises x t
resumes None values t = comes-back t (rendezvous.copies_of t values) (rendezvous.copies_of t values).stopped

else-at : (s : PStmt) (behind : PStmts) (t : Task) → HasLeftBlocks t → HasLeftBlocks (rendezvous.else_taken_at s behind t)
else-at (SConditional c l m s) behind t h = enters m behind t
else-at (SWait x m s) behind t h = enters (stmts_or_none m) behind t
else-at s behind t h = h

else-in : (rest : PStmts) (t : Task) → HasLeftBlocks t → HasLeftBlocks (rendezvous.else_taken_in rest t)
else-in no_stmt t h = h
else-in (stmt_then s rest) t h = else-at s rest t h

delay-at : (k : ℕ) (s : PStmt) (behind : PStmts) (t : Task) → HasLeftBlocks t → HasLeftBlocks (rendezvous.delay_taken_at k s behind t)
delay-at k (STimed c l d m s) behind t h = enters m behind t
delay-at k (SWait x m s) behind t h = enters (delay_stmts x 0 k) behind t
delay-at k s behind t h = h

delay-in : (k : ℕ) (rest : PStmts) (t : Task) → HasLeftBlocks t → HasLeftBlocks (rendezvous.delay_taken_in k rest t)
delay-in k no_stmt t h = h
delay-in k (stmt_then s rest) t h = delay-at k s rest t h

passes-at : (s : PStmt) (behind : PStmts) (t : Task) → HasLeftBlocks t → HasLeftBlocks (rendezvous.passed_at s behind t)
passes-at (SAbort [] s) behind t h = h
passes-at (SAbort (x ∷ xs) s) behind t h = goes (rendezvous.names_left xs s behind) t
passes-at s behind t h = h

passes-in : (rest : PStmts) (t : Task) → HasLeftBlocks t → HasLeftBlocks (rendezvous.passed_in rest t)
passes-in no_stmt t h = h
passes-in (stmt_then s rest) t h = passes-at s rest t h

at-start : (l : PStmts) (p : Around) (V : Variables) → settled (control l p [] V) ≡ control l p [] V
at-start no_stmt p V = refl
at-start (stmt_then s l) p V = refl

starts : (g : Setting) (t : ℕ) (unit : Unit) (input : List ℤ) → HasLeftBlocks (started_in g t unit input)
starts g t unit input = at-start (steps.block_stmts unit.body) (OwnBody (steps.block_handlers unit.body) None) (objects_of g.types unit.in_main unit.decls [])

pub tasks_start_outside : TasksStartOutside
tasks_start_outside g inputs t = starts g t (unit_of g.program g.numbers t) (slice_index_or inputs t [])

pub tasks_leave_blocks : TasksLeaveBlocks
tasks_leave_blocks t h = record {
  stepped = by-stand (stand_of t) t h;
  accepted = λ e i caller calling. accepts caller (alternative_for t e i) (values_handed calling) t;
  finished = closes (place_of t) t h;
  resumed = λ acceptor. resumes (rendezvous.pending_of acceptor) (rendezvous.finals_of acceptor) t;
  raised = raises raised.Tasking t;
  took_else = else-in (rest_of t) t h;
  took_delay = λ k. delay-in k (rest_of t) t h;
  passed = passes-in (rest_of t) t h;
}
