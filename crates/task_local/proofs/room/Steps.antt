-- What a task does by itself needs no more room (5, 11, 14.3).
use Rattle.std.specs.Prelude.{ℕ, ℤ, ◌≤◌, Bool, true, false, if◌then◌else◌, List, [], ◌∷◌, ◌++◌, drop, Option, Some, None, Result, Ok, Err, IfOk}
use Rattle.ada_tree.specs.declared.naming.Word.{Word}
use Rattle.ada_tree.specs.PlainStmt.{PStmt, SNull, SAssign, SDelay, SExit, SRaise, SAbort, SCall, SAccept, SWait, SConditional, STimed, SPut, SPutLine, SNewLine, SGet, SIf, SCase, SBlock, SLoop, PStmts, no_stmt, stmt_then, body, PMaybe, absent, present, PArms, no_arm, arm_then, arm, PCaseArms, no_case_arm, case_arm_then, case_arm, PScheme, LWhile, LFor, PTarget, PPart}
use Rattle.ada_value.specs.declared.values.Value.{Value}
use Rattle.ada_value.specs.declared.values.Value.TheVariants.{Number}
use Rattle.ada_value.specs.declared.values.Raised.{Raised}
use Rattle.ada_value.specs.declared.values.Raised.TheVariants as raised
use Rattle.ada_value.specs.declared.values.Limits.{Limits}
use Rattle.ada_value.specs.Texts.{parts_output}
use Rattle.ada_value.specs.Values.{and_then, is_empty_range}
use Rattle.ada_value.specs.Variables.{Variables}
use Rattle.task_model.specs.Frames.{Turns, Endless, While, Counting, Around, OwnBody, Block, Handling, Loop, Opened, PFrame, in_front, raised_in, exited_in, brought_by}
use Rattle.task_model.specs.Tasks.{Task, rest_of, place_of, outer_of, vars_of, value_of, stmts_or_none, with_vars, with_input, with_text, gone_to, entered, pushed, raised_there, or_raised}
use Rattle.task_model.specs.Steps as steps
use Rattle.task_model.specs.Stands.{Stand, Steps, Raises, At, stand_of, stepped, stepped_by, stepped_with, stepped_at, stepped_behind}
use Rattle.task_waits.specs.Room.{widest_stmt, widest_maybe, widest_arms, widest_case_arms}
use Rattle.task_steps.specs.Sequential.{sequential_by, sequential_step}
use Rattle.task_local.specs.room.Fitting.{FitsStmts, FitsPlace, FitsParts, HasRoom}
use Rattle.task_local.proofs.room.Frames.{left_fits, right_fits, in_front_fits, settled_in_fits, settled_fits, raised_in_fits, exited_in_fits}

module _ (n : ℕ) where
  -- ---- going on

  pub gone_has_room : (rest : PStmts) (t : Task) → FitsStmts n rest → HasRoom n t → HasRoom n (gone_to rest t)
  gone_has_room rest t i k = settled_in_fits n (outer_of t) rest (place_of t) (vars_of t) i k.0.1 k.1

  pub entered_has_room : (stmts behind : PStmts) (t : Task) → FitsStmts n stmts → FitsStmts n behind → HasRoom n t → HasRoom n (entered stmts behind t)
  entered_has_room stmts behind t i b k = gone_has_room (in_front stmts behind) t (in_front_fits n stmts behind i b) k

  pub pushed_has_room : (stmts : PStmts) (place : Around) (vars : Variables) (behind : PStmts) (t : Task) → FitsStmts n stmts → FitsPlace n place → FitsStmts n behind → HasRoom n t →
      HasRoom n (pushed stmts place vars behind t)
  pushed_has_room stmts place vars behind t i p b k = settled_in_fits n (record { rest = behind; place = place_of t } ∷ outer_of t) stmts place vars i p ((b, k.0.1), k.1)

  pub raised_has_room : (x : Raised) (t : Task) → HasRoom n t → HasRoom n (raised_there x t)
  raised_has_room x t k = settled_fits n (raised_in x (outer_of t) (place_of t) (vars_of t)) (raised_in_fits n x (outer_of t) (place_of t) (vars_of t) k.0.1 k.1)

  pub exited_has_room : (w : Option Word) (t : Task) → HasRoom n t → HasRoom n (steps.exited w t)
  exited_has_room w t k = settled_fits n (exited_in w (outer_of t) (place_of t) (vars_of t)) (exited_in_fits n w (outer_of t) (place_of t) (vars_of t) k.0.1 k.1)

  -- where all that can come out leads to such a task
  or_always : {A : Type 0} (f : A → Task) (t : Task) (r : Result A Raised) → HasRoom n t → ((a : A) → HasRoom n (f a)) → HasRoom n (or_raised f t r)
  or_always f t (Ok a) k h = h a
  or_always f t (Err x) k h = raised_has_room x t k

  either_has_room : (b : Bool) (t u : Task) → HasRoom n t → HasRoom n u → HasRoom n (if◌then◌else◌ b t u)
  either_has_room true t u k l = k
  either_has_room false t u k l = l

  -- ---- branches

  abbrev FitsMaybe : PMaybe → Type 0
  FitsMaybe branch = widest_maybe branch ≤ n

  pub maybe_fits : (branch : PMaybe) → FitsMaybe branch → FitsStmts n (stmts_or_none branch)
  maybe_fits absent h = h
  maybe_fits (present stmts) h = h

  arm_fits : (t : Task) (arms : PArms) (otherwise : PMaybe) → widest_arms arms ≤ n → FitsMaybe otherwise → IfOk (steps.arm_taken t arms otherwise) FitsMaybe
  arm_fits t no_arm otherwise h o = o
  arm_fits t (arm_then (arm e stmts) rest) otherwise h o = go (steps.condition t e) (arm_fits t rest otherwise (right_fits _ _ h) o)
    where
      go : (r : Result Bool Raised) → IfOk (steps.arm_taken t rest otherwise) FitsMaybe → IfOk (and_then r (λ b. if b then Ok (present stmts) else steps.arm_taken t rest otherwise)) FitsMaybe
      go (Ok true) later = left_fits _ _ h
      go (Ok false) later = later
      go (Err x) later = tt

  case_fits : (t : Task) (v : Value) (arms : PCaseArms) (others : PMaybe) → widest_case_arms arms ≤ n → FitsMaybe others → IfOk (steps.case_taken t v arms others) FitsMaybe
  case_fits t v no_case_arm others h o = o
  case_fits t v (case_arm_then (case_arm choices stmts) rest) others h o = go (steps.choices_fit t v choices) (case_fits t v rest others (right_fits _ _ h) o)
    where
      go : (r : Result Bool Raised) → IfOk (steps.case_taken t v rest others) FitsMaybe → IfOk (and_then r (λ b. if b then Ok (present stmts) else steps.case_taken t v rest others)) FitsMaybe
      go (Ok true) later = left_fits _ _ h
      go (Ok false) later = later
      go (Err x) later = tt

  branch_has_room : (r : Result PMaybe Raised) (behind : PStmts) (t : Task) → IfOk r FitsMaybe → FitsStmts n behind → HasRoom n t →
      HasRoom n (or_raised (λ branch. entered (stmts_or_none branch) behind t) t r)
  branch_has_room (Ok branch) behind t h b k = entered_has_room (stmts_or_none branch) behind t (maybe_fits branch h) b k
  branch_has_room (Err x) behind t h b k = raised_has_room x t k

  -- ---- input

  got_has_room : (target : PTarget) (behind : PStmts) (t : Task) (k : ℕ) (input : List ℤ) → FitsStmts n behind → HasRoom n t → HasRoom n (steps.got target behind t k input)
  got_has_room target behind t k [] b h = raised_has_room raised.End t h
  got_has_room target behind t k (z ∷ rest) b h =
      or_always (λ vars. gone_to behind (with_vars (with_input t rest) vars)) (with_input t rest) (steps.stored (with_input t rest) target k (Number z)) h
      (λ vars. gone_has_room behind (with_vars (with_input t rest) vars) b h)

  -- ---- texts

  put_has_room : (parts : List PPart) (closing : List ℕ) (behind : PStmts) (t : Task) → FitsStmts n behind → HasRoom n t → HasRoom n (steps.put_step parts closing behind t)
  put_has_room parts closing behind t b k =
      or_always (λ text. gone_to behind (with_text t (text ++ closing))) t (parts_output t.setting.program.names t.setting.types (vars_of t) parts) k
      (λ text. gone_has_room behind (with_text t (text ++ closing)) b k)

  -- ---- loops

  begun_has_room : (name : Option Word) (w : Word) (backwards : Bool) (stmts behind : PStmts) (t : Task) (r : Limits) → FitsStmts n stmts → FitsStmts n behind → HasRoom n t →
      HasRoom n (steps.counting_begun name w backwards stmts behind t r)
  begun_has_room name w backwards stmts behind t r i b k =
      let turns : Turns = Counting backwards (if backwards then r.first else r.last) in
      let vars : Variables = steps.loop_parameter t w r.kind (if backwards then r.last else r.first) ∷ vars_of t in
      either_has_room (is_empty_range r) (gone_to behind t) (pushed stmts (Loop name turns stmts) vars behind t)
      (gone_has_room behind t b k) (pushed_has_room stmts (Loop name turns stmts) vars behind t i i b k)

  loop_has_room : (name : Option Word) (scheme : Option PScheme) (stmts behind : PStmts) (t : Task) → FitsStmts n stmts → FitsStmts n behind → HasRoom n t →
      HasRoom n (steps.loop_step name scheme stmts behind t)
  loop_has_room name None stmts behind t i b k = pushed_has_room stmts (Loop name Endless stmts) (vars_of t) behind t i i b k
  loop_has_room name (Some (LWhile e)) stmts behind t i b k =
      or_always (λ c. if c then pushed stmts (Loop name (While e) stmts) (vars_of t) behind t else gone_to behind t) t (steps.condition t e) k
      (λ c. either_has_room c (pushed stmts (Loop name (While e) stmts) (vars_of t) behind t) (gone_to behind t)
      (pushed_has_room stmts (Loop name (While e) stmts) (vars_of t) behind t i i b k) (gone_has_room behind t b k))
  loop_has_room name (Some (LFor w backwards range)) stmts behind t i b k =
      or_always (λ r. steps.counting_begun name w backwards stmts behind t r) t (steps.counted_range t range) k (λ r. begun_has_room name w backwards stmts behind t r i b k)

  left_has_room : (turns : Turns) (outer : List PFrame) (vars : Variables) (t : Task) → FitsParts n outer → HasRoom n t → HasRoom n (steps.left_in turns outer vars t)
  left_has_room turns [] vars t o k = k
  left_has_room turns (part ∷ parts) vars t o k = settled_in_fits n parts part.rest part.place (drop (brought_by turns) vars) o.0.0 o.0.1 o.1

  turn_has_room : (turns : Turns) (stmts : PStmts) (t : Task) → FitsStmts n stmts → HasRoom n t → HasRoom n (steps.turn_step turns stmts t)
  turn_has_room Endless stmts t i k = gone_has_room stmts t i k
  turn_has_room (While e) stmts t i k =
      or_always (λ b. if b then gone_to stmts t else steps.loop_left (While e) t) t (steps.condition t e) k
      (λ b. either_has_room b (gone_to stmts t) (steps.loop_left (While e) t) (gone_has_room stmts t i k) (left_has_room (While e) (outer_of t) (vars_of t) t k.1 k))
  turn_has_room (Counting backwards last) stmts t i k =
      let u : Task = with_vars t (steps.counted_on t backwards (vars_of t)) in
      either_has_room (steps.has_turn backwards last (steps.counted_so_far (vars_of t))) (gone_to stmts u) (steps.loop_left (Counting backwards last) t)
      (gone_has_room stmts u i k) (left_has_room (Counting backwards last) (outer_of t) (vars_of t) t k.1 k)

  -- ---- one step

  stepped_at_has_room : (s : PStmt) (behind : PStmts) (t : Task) → widest_stmt s ≤ n → FitsStmts n behind → HasRoom n t → HasRoom n (stepped_at s behind t)
  stepped_at_has_room (SNull s) behind t i b k = gone_has_room behind t b k
  stepped_at_has_room (SAssign target e s) behind t i b k =
      or_always (λ vars. gone_to behind (with_vars t vars)) t (steps.assigned t target e) k (λ vars. gone_has_room behind (with_vars t vars) b k)
  stepped_at_has_room (SDelay duration s) behind t i b k = gone_has_room behind t b k
  stepped_at_has_room (SExit w test s) behind t i b k =
      or_always (λ c. if c then steps.exited w t else gone_to behind t) t (steps.exit_test t test) k
      (λ c. either_has_room c (steps.exited w t) (gone_to behind t) (exited_has_room w t k) (gone_has_room behind t b k))
  stepped_at_has_room (SRaise w s) behind t i b k = raised_has_room (steps.exception_meant w t) t k
  stepped_at_has_room (SAbort callees s) behind t i b k = gone_has_room behind t b k
  stepped_at_has_room (SPut parts s) behind t i b k = put_has_room parts [] behind t b k
  stepped_at_has_room (SPutLine parts s) behind t i b k = put_has_room parts steps.line_end behind t b k
  stepped_at_has_room (SNewLine s) behind t i b k = put_has_room [] steps.line_end behind t b k
  stepped_at_has_room (SGet target s) behind t i b k =
      or_always (λ m. steps.got target behind t m t.input) t (steps.aim_of t target) k (λ m. got_has_room target behind t m t.input b k)
  stepped_at_has_room (SIf arms otherwise s) behind t i b k =
      branch_has_room (steps.arm_taken t arms otherwise) behind t (arm_fits t arms otherwise (left_fits _ _ i) (right_fits _ _ i)) b k
  stepped_at_has_room (SCase e arms others s) behind t i b k = go (value_of t e)
    where
      go : (r : Result Value Raised) → HasRoom n (or_raised (λ branch. entered (stmts_or_none branch) behind t) t (and_then r (λ v. steps.case_taken t v arms others)))
      go (Ok v) = branch_has_room (steps.case_taken t v arms others) behind t (case_fits t v arms others (left_fits _ _ i) (right_fits _ _ i)) b k
      go (Err x) = raised_has_room x t k
  stepped_at_has_room (SBlock (body stmts handlers) s) behind t i b k = pushed_has_room stmts (Block handlers) (vars_of t) behind t (left_fits _ _ i) (right_fits _ _ i) b k
  stepped_at_has_room (SLoop name scheme stmts s) behind t i b k = loop_has_room name scheme stmts behind t i b k
  stepped_at_has_room (SCall call s) behind t i b k = k
  stepped_at_has_room (SAccept accept s) behind t i b k = k
  stepped_at_has_room (SWait alts otherwise s) behind t i b k = k
  stepped_at_has_room (SConditional call more otherwise s) behind t i b k = k
  stepped_at_has_room (STimed call more duration after s) behind t i b k = k

  stepped_behind_has_room : (place : Around) (t : Task) → FitsPlace n place → HasRoom n t → HasRoom n (stepped_behind place t)
  stepped_behind_has_room (OwnBody handlers taken) t p k = k
  stepped_behind_has_room (Block handlers) t p k = k
  stepped_behind_has_room (Handling x) t p k = k
  stepped_behind_has_room (Loop name turns stmts) t p k = turn_has_room turns stmts t p k
  stepped_behind_has_room (Opened caller formals pending) t p k = k

  stepped_with_has_room : (rest : PStmts) (place : Around) (t : Task) → FitsStmts n rest → FitsPlace n place → HasRoom n t → HasRoom n (stepped_with rest place t)
  stepped_with_has_room no_stmt place t i p k = stepped_behind_has_room place t p k
  stepped_with_has_room (stmt_then s behind) place t i p k = stepped_at_has_room s behind t (left_fits _ _ i) (right_fits _ _ i) k

  -- The step at which a task stands so.
  pub stepped_by_has_room : (stand : Stand) (t : Task) → HasRoom n t → HasRoom n (stepped_by stand t)
  stepped_by_has_room Steps t k = stepped_with_has_room (rest_of t) (place_of t) t k.0.0 k.0.1 k
  stepped_by_has_room (Raises x) t k = raised_has_room x t k
  stepped_by_has_room (At offer) t k = k

  -- A local step.
  pub stepped_has_room : (t : Task) → HasRoom n t → HasRoom n (stepped t)
  stepped_has_room t k = stepped_by_has_room (stand_of t) t k

  sequential_by_has_room : (stand : Stand) (t : Task) → HasRoom n t → HasRoom n (sequential_by stand t)
  sequential_by_has_room Steps t k = stepped_with_has_room (rest_of t) (place_of t) t k.0.0 k.0.1 k
  sequential_by_has_room (Raises x) t k = k
  sequential_by_has_room (At offer) t k = k

  -- A step at a statement that is no synchronizing one.
  pub sequential_has_room : (t : Task) → HasRoom n t → HasRoom n (sequential_step t)
  sequential_has_room t k = sequential_by_has_room (stand_of t) t k
