-- A task keeps its number, whatever it does and whatever is done to it.
use Rattle.std.proofs.Common.{◌≡◌, ℕ, ℤ, Bool, true, false, if◌then◌else◌, List, [], ◌∷◌, ◌++◌, Option, Some, None, Result, Ok, Err}
use Rattle.ada_tree.specs.declared.naming.Word.{Word}
use Rattle.ada_tree.specs.PlainStmt.{PTarget, PPart, PScheme, LWhile, LFor, PStmt, SNull, SAssign, SDelay, SExit, SRaise, SAbort, SCall, SAccept, SWait, SConditional, STimed, SPut, SPutLine, SNewLine, SGet, SIf, SCase, SBlock, SLoop, PStmts, no_stmt, stmt_then}
use Rattle.ada_value.specs.declared.values.Raised.{Raised}
use Rattle.ada_value.specs.declared.values.Limits.{Limits}
use Rattle.ada_value.specs.declared.values.Value.{Value}
use Rattle.ada_value.specs.declared.values.Value.TheVariants.{Number}
use Rattle.ada_value.specs.Values.{and_then, is_empty_range}
use Rattle.ada_value.specs.Texts.{parts_output}
use Rattle.ada_value.specs.Variables.{Variables}
use Rattle.task_model.specs.Frames.{Turns, Endless, While, Counting, Around, OwnBody, Block, Handling, Loop, Opened, PFrame}
use Rattle.task_model.specs.Tasks.{Task, rest_of, place_of, outer_of, vars_of, value_of, with_input, with_text, with_vars, gone_to, stmts_or_none, entered, pushed, or_raised}
use Rattle.task_model.specs.Steps as steps
use Rattle.task_model.specs.Stands.{Stand, Steps, Raises, At, stand_of, stepped, stepped_at, stepped_behind, stepped_with, stepped_by}
use Rattle.task_model.specs.Rendezvous as rendezvous
use Rattle.task_model.specs.Calls.{Copies, values_handed}
use Rattle.task_model.specs.Waits.{Open, Accepts, Delays, Terminates, alternative_for}

module _ (n : ℕ) where
  -- the task has this number
  abbrev pub Has : Task → Type 0
  Has t = t.number ≡ n

  or-raised : {A : Type 0} (f : A → Task) (t : Task) (r : Result A Raised) → Has t → ((a : A) → Has (f a)) → Has (or_raised f t r)
  or-raised f t (Ok a) h k = k a
  or-raised f t (Err x) h k = h

  either : (b : Bool) (t k : Task) → Has t → Has k → Has (if b then t else k)
  either true t k h j = h
  either false t k h j = j

  -- ---- local steps

  gets : (target : PTarget) (behind : PStmts) (t : Task) (k : ℕ) (input : List ℤ) → Has t → Has (steps.got target behind t k input)
  gets target behind t k [] h = h
  gets target behind t k (z ∷ rest) h = or-raised (λ vars. gone_to behind (with_vars (with_input t rest) vars)) (with_input t rest) (steps.stored (with_input t rest) target k (Number z)) h (λ vars. h)

  begins : (name : Option Word) (w : Word) (backwards : Bool) (l behind : PStmts) (t : Task) (r : Limits) → Has t → Has (steps.counting_begun name w backwards l behind t r)
  begins name w backwards l behind t r h =
      either (is_empty_range r) (gone_to behind t)
      (pushed l (Loop name (Counting backwards (if backwards then r.first else r.last)) l) (steps.loop_parameter t w r.kind (if backwards then r.last else r.first) ∷ vars_of t) behind t) h h

  leaves : (turns : Turns) (o : List PFrame) (V : Variables) (t : Task) → Has t → Has (steps.left_in turns o V t)
  leaves turns [] V t h = h
  leaves turns (part ∷ parts) V t h = h

  loops : (name : Option Word) (scheme : Option PScheme) (l behind : PStmts) (t : Task) → Has t → Has (steps.loop_step name scheme l behind t)
  loops name None l behind t h = h
  loops name (Some (LWhile e)) l behind t h =
      or-raised (λ b. if b then pushed l (Loop name (While e) l) (vars_of t) behind t else gone_to behind t) t (steps.condition t e) h
      (λ b. either b (pushed l (Loop name (While e) l) (vars_of t) behind t) (gone_to behind t) h h)
  loops name (Some (LFor w backwards range)) l behind t h =
      or-raised (λ r. steps.counting_begun name w backwards l behind t r) t (steps.counted_range t range) h (λ r. begins name w backwards l behind t r h)

  turns : (x : Turns) (l : PStmts) (t : Task) → Has t → Has (steps.turn_step x l t)
  turns Endless l t h = h
  turns (While e) l t h =
      or-raised (λ b. if b then gone_to l t else steps.loop_left (While e) t) t (steps.condition t e) h
      (λ b. either b (gone_to l t) (steps.loop_left (While e) t) h (leaves (While e) (outer_of t) (vars_of t) t h))
  turns (Counting backwards last) l t h =
      either (steps.has_turn backwards last (steps.counted_so_far (vars_of t))) (gone_to l (with_vars t (steps.counted_on t backwards (vars_of t)))) (steps.loop_left (Counting backwards last) t)
      h (leaves (Counting backwards last) (outer_of t) (vars_of t) t h)

  puts : (ps : List PPart) (closing : List ℕ) (behind : PStmts) (t : Task) → Has t → Has (steps.put_step ps closing behind t)
  puts ps closing behind t h = or-raised (λ text. gone_to behind (with_text t (text ++ closing))) t (parts_output t.setting.program.names t.setting.types (vars_of t) ps) h (λ text. h)

  at-statement : (s : PStmt) (behind : PStmts) (t : Task) → Has t → Has (stepped_at s behind t)
  at-statement (SNull s) behind t h = h
  at-statement (SAssign target e s) behind t h = or-raised (λ vars. gone_to behind (with_vars t vars)) t (steps.assigned t target e) h (λ vars. h)
  at-statement (SDelay d s) behind t h = h
  at-statement (SExit w e s) behind t h = or-raised (λ b. if b then steps.exited w t else gone_to behind t) t (steps.exit_test t e) h (λ b. either b (steps.exited w t) (gone_to behind t) h h)
  at-statement (SRaise w s) behind t h = h
  at-statement (SAbort xs s) behind t h = h
  at-statement (SPut ps s) behind t h = puts ps [] behind t h
  at-statement (SPutLine ps s) behind t h = puts ps steps.line_end behind t h
  at-statement (SNewLine s) behind t h = puts [] steps.line_end behind t h
  at-statement (SGet target s) behind t h = or-raised (λ k. steps.got target behind t k t.input) t (steps.aim_of t target) h (λ k. gets target behind t k t.input h)
  at-statement (SIf x m s) behind t h = or-raised (λ branch. entered (stmts_or_none branch) behind t) t (steps.arm_taken t x m) h (λ branch. h)
  at-statement (SCase e x m s) behind t h = or-raised (λ branch. entered (stmts_or_none branch) behind t) t (and_then (value_of t e) (λ v. steps.case_taken t v x m)) h (λ branch. h)
  at-statement (SBlock b s) behind t h = h
  at-statement (SLoop name scheme l s) behind t h = loops name scheme l behind t h
  at-statement (SCall c s) behind t h = h
  at-statement (SAccept a s) behind t h = h
  at-statement (SWait x m s) behind t h = h
  at-statement (SConditional c l m s) behind t h = h
  at-statement (STimed c l d m s) behind t h = h

  at-frame : (place : Around) (t : Task) → Has t → Has (stepped_behind place t)
  at-frame (Loop name x l) t h = turns x l t h
  at-frame (OwnBody hs taken) t h = h
  at-frame (Block hs) t h = h
  at-frame (Handling x) t h = h
  at-frame (Opened caller formals pending) t h = h

  in-rest : (rest : PStmts) (place : Around) (t : Task) → Has t → Has (stepped_with rest place t)
  in-rest no_stmt place t h = at-frame place t h
  in-rest (stmt_then s rest) place t h = at-statement s rest t h

  by-stand : (s : Stand) (t : Task) → Has t → Has (stepped_by s t)
  by-stand Steps t h = in-rest (rest_of t) (place_of t) t h
  by-stand (Raises x) t h = h
  by-stand (At offer) t h = h

  pub has_stepped : (t : Task) → Has t → Has (stepped t)
  has_stepped t h = by-stand (stand_of t) t h

  -- ---- events

  opens : (caller : ℕ) (o : Option Open) (values : List Value) (t : Task) → Has t → Has (rendezvous.alternative_opened caller o values t)
  opens caller (Some (Accepts e i head l behind)) values t h = h
  opens caller (Some (Delays k d l)) values t h = h
  opens caller (Some Terminates) values t h = h
  opens caller None values t h = h

  pub has_accepted : (e : ℕ) (i : ℤ) (caller : ℕ) (calling t : Task) → Has t → Has (rendezvous.accepted e i caller calling t)
  has_accepted e i caller calling t h = opens caller (alternative_for t e i) (values_handed calling) t h

  goes-on : (pending : Option Raised) (t : Task) → Has t → Has (rendezvous.going_on pending t)
  goes-on None t h = h
  goes-on (Some x) t h = h

  left : (t : Task) (o : List PFrame) → Has t → Has (rendezvous.frame_left t o)
  left t [] h = h
  left t (part ∷ parts) h = h

  closes : (place : Around) (t : Task) → Has t → Has (rendezvous.body_closed place t)
  closes (Opened caller formals pending) t h = goes-on pending (rendezvous.frame_left t (outer_of t)) (left t (outer_of t) h)
  closes (OwnBody hs taken) t h = h
  closes (Block hs) t h = h
  closes (Handling x) t h = h
  closes (Loop name x l) t h = h

  pub has_finished : (t : Task) → Has t → Has (rendezvous.finished t)
  has_finished t h = closes (place_of t) t h

  comes-back : (t : Task) (copies : Copies) (o : Option Raised) → Has t → Has (rendezvous.come_back t copies o)
  comes-back t copies None h = h
  comes-back t copies (Some x) h = h

  resumes : (o : Option Raised) (values : List Value) (t : Task) → Has t → Has (rendezvous.resumed_with o values t)
  resumes (Some x) values t h = h
  resumes None values t h = comes-back t (rendezvous.copies_of t values) (rendezvous.copies_of t values).stopped h

  pub has_resumed : (acceptor t : Task) → Has t → Has (rendezvous.resumed acceptor t)
  has_resumed acceptor t h = resumes (rendezvous.pending_of acceptor) (rendezvous.finals_of acceptor) t h

  else-at : (s : PStmt) (behind : PStmts) (t : Task) → Has t → Has (rendezvous.else_taken_at s behind t)
  else-at (SConditional c l m s) behind t h = h
  else-at (SWait x m s) behind t h = h
  else-at s behind t h = h

  else-in : (rest : PStmts) (t : Task) → Has t → Has (rendezvous.else_taken_in rest t)
  else-in no_stmt t h = h
  else-in (stmt_then s rest) t h = else-at s rest t h

  pub has_took_else : (t : Task) → Has t → Has (rendezvous.took_else t)
  has_took_else t h = else-in (rest_of t) t h

  delay-at : (k : ℕ) (s : PStmt) (behind : PStmts) (t : Task) → Has t → Has (rendezvous.delay_taken_at k s behind t)
  delay-at k (STimed c l d m s) behind t h = h
  delay-at k (SWait x m s) behind t h = h
  delay-at k s behind t h = h

  delay-in : (k : ℕ) (rest : PStmts) (t : Task) → Has t → Has (rendezvous.delay_taken_in k rest t)
  delay-in k no_stmt t h = h
  delay-in k (stmt_then s rest) t h = delay-at k s rest t h

  pub has_took_delay : (k : ℕ) (t : Task) → Has t → Has (rendezvous.took_delay k t)
  has_took_delay k t h = delay-in k (rest_of t) t h

  passes-at : (s : PStmt) (behind : PStmts) (t : Task) → Has t → Has (rendezvous.passed_at s behind t)
  passes-at (SAbort [] s) behind t h = h
  passes-at (SAbort (x ∷ xs) s) behind t h = h
  passes-at s behind t h = h

  passes-in : (rest : PStmts) (t : Task) → Has t → Has (rendezvous.passed_in rest t)
  passes-in no_stmt t h = h
  passes-in (stmt_then s rest) t h = passes-at s rest t h

  pub has_passed : (t : Task) → Has t → Has (rendezvous.past_name t)
  has_passed t h = passes-in (rest_of t) t h
