-- What holds of each statement of a task holds after its local steps.
use Rattle.std.proofs.Common.{◌≡◌, ℕ, ℤ, Bool, true, false, if◌then◌else◌, List, [], ◌∷◌, ◌++◌, drop, Option, Some, None, Result, Ok, Err, refl, sym, subst}
use Rattle.ada_tree.specs.declared.naming.Word.{Word}
use Rattle.ada_tree.specs.PlainStmt.{PTarget, PPart, PScheme, LWhile, LFor, PStmt, SNull, SAssign, SDelay, SExit, SRaise, SAbort, SCall, SAccept, SWait, SConditional, STimed, SPut, SPutLine, SNewLine, SGet, SIf, SCase, SBlock, SLoop, PStmts, no_stmt, stmt_then, PMaybe, absent, present, PArms, no_arm, arm_then, arm, PCaseArms, no_case_arm, case_arm_then, case_arm, body, PHandlers}
use Rattle.ada_value.specs.declared.values.Value.{Value}
use Rattle.ada_value.specs.declared.values.Raised.{Raised}
use Rattle.ada_value.specs.declared.values.Raised.TheVariants as raised
use Rattle.ada_value.specs.declared.values.Limits.{Limits}
use Rattle.ada_value.specs.Values.{and_then, is_empty_range}
use Rattle.ada_value.specs.Variables.{Variables}
use Rattle.ada_value.specs.Texts.{parts_output}
use Rattle.task_model.specs.Frames.{Turns, Endless, While, Counting, Around, OwnBody, Block, Handling, Loop, Opened, PFrame, in_front, brought_by}
use Rattle.task_model.specs.Tasks.{Task, rest_of, place_of, outer_of, vars_of, value_of, with_input, with_text, with_vars, gone_to, stmts_or_none, entered, pushed, raised_there, or_raised}
use Rattle.task_model.specs.Steps as steps
use Rattle.task_model.specs.Stands.{Stand, Steps, Raises, At, stand_of, stepped_at, stepped_behind, stepped_with, stepped_by, stepped}
use Rattle.task_laws.proofs.invariants.Variables.{chain, ok_path}
use Rattle.task_laws.specs.statements.Each.{Loops, InParts, InStmts, InMaybe, InArms, InCaseArms, InHandlers, loops_of, InPlace, InOuter, HoldsOf}
use Rattle.task_laws.proofs.statements.Frames.{joined, at-settled, settles, at-raised, at-exited}

module _ (Each : Loops → PStmt → Type 0) where
  -- the loops around the statements of a task
  abbrev pub around : Task → Loops
  around t = loops_of (place_of t) (outer_of t)

  pub goes : (rest : PStmts) (t : Task) → InStmts Each (around t) rest → HoldsOf Each t → HoldsOf Each (gone_to rest t)
  goes rest t i h = at-settled Each (outer_of t) rest (place_of t) (vars_of t) i h.place h.outer

  pub goes-changed : (rest : PStmts) (t : Task) (vars : Variables) → InStmts Each (around t) rest → HoldsOf Each t → HoldsOf Each (gone_to rest (with_vars t vars))
  goes-changed rest t vars i h = at-settled Each (outer_of t) rest (place_of t) vars i h.place h.outer

  pub goes-raised : (x : Raised) (t : Task) → HoldsOf Each t → HoldsOf Each (raised_there x t)
  goes-raised x t h = settles Each _ (at-raised Each x (outer_of t) (place_of t) (vars_of t) h.place h.outer)

  pub goes-raised-with : (x : Raised) (t : Task) (vars : Variables) → HoldsOf Each t → HoldsOf Each (raised_there x (with_vars t vars))
  goes-raised-with x t vars h = settles Each _ (at-raised Each x (outer_of t) (place_of t) vars h.place h.outer)

  goes-exited : (w : Option Word) (t : Task) → HoldsOf Each t → HoldsOf Each (steps.exited w t)
  goes-exited w t h = settles Each _ (at-exited Each w (outer_of t) (place_of t) (vars_of t) h.place h.outer)

  goes-block : (stmts : PStmts) (handlers : PHandlers) (behind : PStmts) (t : Task) → InStmts Each (around t) stmts → InHandlers Each (around t) handlers → InStmts Each (around t) behind → HoldsOf Each t →
      HoldsOf Each (pushed stmts (Block handlers) (vars_of t) behind t)
  goes-block stmts handlers behind t i p b h = at-settled Each (record { rest = behind; place = place_of t } ∷ outer_of t) stmts (Block handlers) (vars_of t) i p ((b, h.place), h.outer)

  goes-loop : (name : Option Word) (turns : Turns) (stmts : PStmts) (vars : Variables) (behind : PStmts) (t : Task) → InStmts Each (name ∷ around t) stmts → InStmts Each (around t) behind → HoldsOf Each t →
      HoldsOf Each (pushed stmts (Loop name turns stmts) vars behind t)
  goes-loop name turns stmts vars behind t i b h = at-settled Each (record { rest = behind; place = place_of t } ∷ outer_of t) stmts (Loop name turns stmts) vars i i ((b, h.place), h.outer)

  pub goes-or : {A : Type 0} (f : A → Task) (t : Task) (r : Result A Raised) → HoldsOf Each t → ((a : A) → r ≡ Ok a → HoldsOf Each (f a)) → HoldsOf Each (or_raised f t r)
  goes-or f t (Ok a) h k = k a refl
  goes-or f t (Err x) h k = goes-raised x t h

  either : (b : Bool) (t u : Task) → HoldsOf Each t → HoldsOf Each u → HoldsOf Each (if◌then◌else◌ b t u)
  either true t u h k = h
  either false t u h k = k

  -- ---- branches

  pub of-maybe : (loops : Loops) (branch : PMaybe) → InMaybe Each loops branch → InStmts Each loops (stmts_or_none branch)
  of-maybe loops absent h = tt
  of-maybe loops (present stmts) h = h

  pub goes-entered : (stmts behind : PStmts) (t : Task) → InStmts Each (around t) stmts → InStmts Each (around t) behind → HoldsOf Each t → HoldsOf Each (entered stmts behind t)
  goes-entered stmts behind t i b h = goes (in_front stmts behind) t (joined Each (around t) stmts behind i b) h

  of-arm : (t : Task) (loops : Loops) (arms : PArms) (otherwise branch : PMaybe) → InArms Each loops arms → InMaybe Each loops otherwise → steps.arm_taken t arms otherwise ≡ Ok branch → InMaybe Each loops branch
  of-arm t loops no_arm otherwise branch h o q = subst (InMaybe Each loops) (ok_path q) o
  of-arm t loops (arm_then (arm e stmts) rest) otherwise branch h o q =
      let c = chain (steps.condition t e) (λ b. if b then Ok (present stmts) else steps.arm_taken t rest otherwise) branch q in
      by_test c.value c.rest (of-arm t loops rest otherwise branch h.1 o)
    where
      by_test : (b : Bool) → (if b then Ok (present stmts) else steps.arm_taken t rest otherwise) ≡ Ok branch → (steps.arm_taken t rest otherwise ≡ Ok branch → InMaybe Each loops branch) → InMaybe Each loops branch
      by_test true r later = subst (InMaybe Each loops) (ok_path r) h.0
      by_test false r later = later r

  of-case : (t : Task) (v : Value) (loops : Loops) (arms : PCaseArms) (others branch : PMaybe) → InCaseArms Each loops arms → InMaybe Each loops others → steps.case_taken t v arms others ≡ Ok branch → InMaybe Each loops branch
  of-case t v loops no_case_arm others branch h o q = subst (InMaybe Each loops) (ok_path q) o
  of-case t v loops (case_arm_then (case_arm choices stmts) rest) others branch h o q =
      let c = chain (steps.choices_fit t v choices) (λ b. if b then Ok (present stmts) else steps.case_taken t v rest others) branch q in
      by_test c.value c.rest (of-case t v loops rest others branch h.1 o)
    where
      by_test : (b : Bool) → (if b then Ok (present stmts) else steps.case_taken t v rest others) ≡ Ok branch → (steps.case_taken t v rest others ≡ Ok branch → InMaybe Each loops branch) → InMaybe Each loops branch
      by_test true r later = subst (InMaybe Each loops) (ok_path r) h.0
      by_test false r later = later r

  -- ---- input and output

  goes-got : (target : PTarget) (behind : PStmts) (t : Task) (k : ℕ) (input : List ℤ) → InStmts Each (around t) behind → HoldsOf Each t → HoldsOf Each (steps.got target behind t k input)
  goes-got target behind t k [] b h = goes-raised raised.End t h
  goes-got target behind t k (z ∷ rest) b h = goes-or (λ vars. gone_to behind (with_vars (with_input t rest) vars)) (with_input t rest) (steps.stored (with_input t rest) target k _) h (λ vars q. goes-changed behind (with_input t rest) vars b h)

  goes-put : (parts : List PPart) (closing : List ℕ) (behind : PStmts) (t : Task) → InStmts Each (around t) behind → HoldsOf Each t → HoldsOf Each (steps.put_step parts closing behind t)
  goes-put parts closing behind t b h =
      goes-or (λ text. gone_to behind (with_text t (text ++ closing))) t (parts_output t.setting.program.names t.setting.types (vars_of t) parts) h (λ text q. at-settled Each (outer_of t) behind (place_of t) (vars_of t) b h.place h.outer)

  -- ---- loops

  goes-begun : (name : Option Word) (w : Word) (backwards : Bool) (stmts behind : PStmts) (t : Task) (r : Limits) → InStmts Each (name ∷ around t) stmts → InStmts Each (around t) behind → HoldsOf Each t →
      HoldsOf Each (steps.counting_begun name w backwards stmts behind t r)
  goes-begun name w backwards stmts behind t r i b h =
      either (is_empty_range r) (gone_to behind t)
      (pushed stmts (Loop name (Counting backwards (if backwards then r.first else r.last)) stmts) (steps.loop_parameter t w r.kind (if backwards then r.last else r.first) ∷ vars_of t) behind t)
      (goes behind t b h)
      (goes-loop name (Counting backwards (if backwards then r.first else r.last)) stmts (steps.loop_parameter t w r.kind (if backwards then r.last else r.first) ∷ vars_of t) behind t i b h)

  goes-scheme : (name : Option Word) (scheme : Option PScheme) (stmts behind : PStmts) (t : Task) → InStmts Each (name ∷ around t) stmts → InStmts Each (around t) behind → HoldsOf Each t → HoldsOf Each (steps.loop_step name scheme stmts behind t)
  goes-scheme name None stmts behind t i b h = goes-loop name Endless stmts (vars_of t) behind t i b h
  goes-scheme name (Some (LWhile e)) stmts behind t i b h =
      goes-or (λ c. if c then pushed stmts (Loop name (While e) stmts) (vars_of t) behind t else gone_to behind t) t (steps.condition t e) h
      (λ c q. either c (pushed stmts (Loop name (While e) stmts) (vars_of t) behind t) (gone_to behind t) (goes-loop name (While e) stmts (vars_of t) behind t i b h) (goes behind t b h))
  goes-scheme name (Some (LFor w backwards range)) stmts behind t i b h =
      goes-or (λ r. steps.counting_begun name w backwards stmts behind t r) t (steps.counted_range t range) h (λ r q. goes-begun name w backwards stmts behind t r i b h)

  -- ---- one step

  goes-at : (s : PStmt) (behind : PStmts) (t : Task) → InParts Each (around t) s → InStmts Each (around t) behind → HoldsOf Each t → HoldsOf Each (stepped_at s behind t)
  goes-at (SNull s) behind t i b h = goes behind t b h
  goes-at (SAssign target e s) behind t i b h = goes-or (λ vars. gone_to behind (with_vars t vars)) t (steps.assigned t target e) h (λ vars q. goes-changed behind t vars b h)
  goes-at (SDelay duration s) behind t i b h = goes behind t b h
  goes-at (SExit w test s) behind t i b h =
      goes-or (λ c. if c then steps.exited w t else gone_to behind t) t (steps.exit_test t test) h (λ c q. either c (steps.exited w t) (gone_to behind t) (goes-exited w t h) (goes behind t b h))
  goes-at (SRaise w s) behind t i b h = goes-raised (steps.exception_meant w t) t h
  goes-at (SAbort callees s) behind t i b h = goes behind t b h
  goes-at (SPut parts s) behind t i b h = goes-put parts [] behind t b h
  goes-at (SPutLine parts s) behind t i b h = goes-put parts steps.line_end behind t b h
  goes-at (SNewLine s) behind t i b h = goes-put [] steps.line_end behind t b h
  goes-at (SGet target s) behind t i b h = goes-or (λ n. steps.got target behind t n t.input) t (steps.aim_of t target) h (λ n q. goes-got target behind t n t.input b h)
  goes-at (SIf arms otherwise s) behind t i b h =
      goes-or (λ branch. entered (stmts_or_none branch) behind t) t (steps.arm_taken t arms otherwise) h
      (λ branch q. goes-entered (stmts_or_none branch) behind t (of-maybe (around t) branch (of-arm t (around t) arms otherwise branch i.0 i.1 q)) b h)
  goes-at (SCase e arms others s) behind t i b h =
      goes-or (λ branch. entered (stmts_or_none branch) behind t) t (and_then (value_of t e) (λ v. steps.case_taken t v arms others)) h
      (λ branch q.
      let c = chain (value_of t e) (λ v. steps.case_taken t v arms others) branch q in
      goes-entered (stmts_or_none branch) behind t (of-maybe (around t) branch (of-case t c.value (around t) arms others branch i.0 i.1 c.rest)) b h)
  goes-at (SBlock (body stmts handlers) s) behind t i b h = goes-block stmts handlers behind t i.0 i.1 b h
  goes-at (SLoop name scheme stmts s) behind t i b h = goes-scheme name scheme stmts behind t i b h
  goes-at (SCall call s) behind t i b h = h
  goes-at (SAccept accept s) behind t i b h = h
  goes-at (SWait alts otherwise s) behind t i b h = h
  goes-at (SConditional call more otherwise s) behind t i b h = h
  goes-at (STimed call more duration after s) behind t i b h = h

  -- the loop is left
  goes-left : (turns : Turns) (t : Task) → (outer : List PFrame) → outer_of t ≡ outer → HoldsOf Each t → HoldsOf Each (steps.left_in turns outer (vars_of t) t)
  goes-left turns t [] e h = h
  goes-left turns t (part ∷ parts) e h =
      let o = subst (InOuter Each) e h.outer in at-settled Each parts part.rest part.place (drop (brought_by turns) (vars_of t)) o.0.0 o.0.1 o.1

  goes-turn : (name : Option Word) (turns : Turns) (stmts : PStmts) (t : Task) → InStmts Each (around t) stmts → HoldsOf Each t → HoldsOf Each (steps.turn_step turns stmts t)
  goes-turn name Endless stmts t i h = goes stmts t i h
  goes-turn name (While e) stmts t i h =
      goes-or (λ b. if b then gone_to stmts t else steps.loop_left (While e) t) t (steps.condition t e) h
      (λ b q. either b (gone_to stmts t) (steps.loop_left (While e) t) (goes stmts t i h) (goes-left (While e) t (outer_of t) refl h))
  goes-turn name (Counting backwards last) stmts t i h =
      either (steps.has_turn backwards last (steps.counted_so_far (vars_of t))) (gone_to stmts (with_vars t (steps.counted_on t backwards (vars_of t)))) (steps.loop_left (Counting backwards last) t)
      (goes-changed stmts t (steps.counted_on t backwards (vars_of t)) i h) (goes-left (Counting backwards last) t (outer_of t) refl h)

  -- the statements of the next turn
  next-turn : (place : Around) (outer : List PFrame) (name : Option Word) (turns : Turns) (stmts : PStmts) → place ≡ Loop name turns stmts → InPlace Each place outer → InStmts Each (loops_of place outer) stmts
  next-turn place outer name turns stmts e p = subst (λ q. InPlace Each q outer → InStmts Each (loops_of q outer) stmts) (sym e) (by_outer outer) p
    where
      by_outer : (o : List PFrame) → InPlace Each (Loop name turns stmts) o → InStmts Each (loops_of (Loop name turns stmts) o) stmts
      by_outer [] q = absurd q
      by_outer (part ∷ parts) q = q

  goes-behind : (place : Around) (t : Task) → place_of t ≡ place → HoldsOf Each t → HoldsOf Each (stepped_behind place t)
  goes-behind (OwnBody handlers taken) t e h = h
  goes-behind (Block handlers) t e h = h
  goes-behind (Handling x) t e h = h
  goes-behind (Loop name turns stmts) t e h = goes-turn name turns stmts t (next-turn (place_of t) (outer_of t) name turns stmts e h.place) h
  goes-behind (Opened caller formals pending) t e h = h

  goes-with : (rest : PStmts) (t : Task) → InStmts Each (around t) rest → HoldsOf Each t → HoldsOf Each (stepped_with rest (place_of t) t)
  goes-with no_stmt t i h = goes-behind (place_of t) t refl h
  goes-with (stmt_then s behind) t i h = goes-at s behind t i.0.1 i.1 h

  goes-by : (stand : Stand) (t : Task) → HoldsOf Each t → HoldsOf Each (stepped_by stand t)
  goes-by Steps t h = goes-with (rest_of t) t h.rest h
  goes-by (Raises x) t h = goes-raised x t h
  goes-by (At offer) t h = h

  -- A local step.
  pub goes-stepped : (t : Task) → HoldsOf Each t → HoldsOf Each (stepped t)
  goes-stepped t h = goes-by (stand_of t) t h
