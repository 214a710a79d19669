-- The variables of a task are held after its local steps.
use Rattle.std.proofs.Common.{◌≡◌, ℕ, ℤ, Bool, true, false, if◌then◌else◌, List, [], ◌∷◌, drop, Option, Some, None, Result, Ok, Err, refl, sym, subst, ◌++◌}
use Rattle.ada_tree.specs.declared.naming.Span.{Span}
use Rattle.ada_tree.specs.declared.naming.Word.{Word}
use Rattle.ada_tree.specs.PlainExpr.{PExpr}
use Rattle.ada_tree.specs.PlainStmt.{PTarget, PPart, PScheme, LWhile, LFor, PStmt, SNull, SAssign, SDelay, SExit, SRaise, SAbort, SCall, SAccept, SWait, SConditional, STimed, SPut, SPutLine, SNewLine, SGet, SIf, SCase, SBlock, SLoop, PStmts, no_stmt, stmt_then}
use Rattle.ada_value.specs.declared.values.Value.{Value}
use Rattle.ada_value.specs.declared.values.Value.TheVariants.{Number}
use Rattle.ada_value.specs.declared.values.Raised.{Raised}
use Rattle.ada_value.specs.declared.values.Raised.TheVariants as raised
use Rattle.ada_value.specs.declared.values.Limits.{Limits}
use Rattle.ada_value.specs.Values.{and_then, is_empty_range}
use Rattle.ada_value.specs.Variables.{Variables, checked_for, set_value}
use Rattle.ada_value.specs.Texts.{parts_output}
use Rattle.task_model.specs.Frames.{Turns, Endless, While, Counting, Around, OwnBody, Block, Handling, Loop, Opened, PFrame, in_front, brought, brought_by}
use Rattle.task_model.specs.Tasks.{Task, rest_of, place_of, outer_of, vars_of, value_of, with_input, with_text, with_vars, gone_to, stmts_or_none, entered, pushed, raised_there, or_raised}
use Rattle.task_model.specs.Steps as steps
use Rattle.task_model.specs.Stands.{Stand, Steps, Raises, At, stand_of, stepped_at, stepped_behind, stepped_with, stepped_by, stepped}
use Rattle.task_laws.proofs.invariants.Variables.{chain, ok_path}
use Rattle.task_laws.specs.statements.Each.{InStmts, HoldsOf}
use Rattle.task_laws.specs.statements.variables.Held.{AreKept, DeclaresInner, FirstInner, HeldIn, HoldsVariables}
use Rattle.task_laws.proofs.statements.Steps.{around}
use Rattle.task_laws.proofs.statements.variables.Kept.{set-kept, first-kept, held-kept}
use Rattle.task_laws.proofs.statements.variables.Frames.{Held, held-settled, held-settles, held-raised, held-exited}

module _ (inner : ℕ → Bool) (start : Variables) where
  abbrev Holds : Task → Type 0
  Holds t = HoldsVariables inner start t

  -- other variables, which are kept
  pub changes : (t : Task) (vars : Variables) → AreKept (vars_of t) vars → Holds t → Holds (with_vars t vars)
  changes t vars k h = (first-kept inner start (brought (place_of t)) (vars_of t) vars k h.0, held-kept inner start (outer_of t) (brought (place_of t)) (vars_of t) vars k h.1)

  pub goes : (rest : PStmts) (t : Task) → Holds t → Holds (gone_to rest t)
  goes rest t h = held-settled inner start (outer_of t) rest (place_of t) (vars_of t) h

  pub goes-raised : (x : Raised) (t : Task) → Holds t → Holds (raised_there x t)
  goes-raised x t h = held-settles inner start _ (held-raised inner start x (outer_of t) (place_of t) (vars_of t) h)

  goes-exited : (w : Option Word) (t : Task) → Holds t → Holds (steps.exited w t)
  goes-exited w t h = held-settles inner start _ (held-exited inner start w (outer_of t) (place_of t) (vars_of t) h)

  -- a frame that brings nothing
  goes-pushed : (stmts : PStmts) (place : Around) (vars : Variables) (behind : PStmts) (t : Task) → FirstInner inner (brought place) vars → drop (brought place) vars ≡ vars_of t → Holds t → Holds (pushed stmts place vars behind t)
  goes-pushed stmts place vars behind t f e h =
      held-settled inner start (record { rest = behind; place = place_of t } ∷ outer_of t) stmts place vars
      (f, subst (λ rest. HeldIn inner start (record { rest = behind; place = place_of t } ∷ outer_of t) rest) (sym e) h)

  pub goes-or : {A : Type 0} (f : A → Task) (t : Task) (r : Result A Raised) → Holds t → ((a : A) → r ≡ Ok a → Holds (f a)) → Holds (or_raised f t r)
  goes-or f t (Ok a) h k = k a refl
  goes-or f t (Err x) h k = goes-raised x t h

  either : (b : Bool) (t u : Task) → Holds t → Holds u → Holds (if◌then◌else◌ b t u)
  either true t u h k = h
  either false t u h k = k

  -- ---- assignments

  stored-keeps : (t : Task) (target : PTarget) (k : ℕ) (v : Value) (vars : Variables) → steps.stored t target k v ≡ Ok vars → AreKept (vars_of t) vars
  stored-keeps t target k v vars q =
      let c = chain (checked_for (steps.target_object t target) v) (λ w. Ok (set_value (vars_of t) target.name.name k w)) vars q in
      subst (AreKept (vars_of t)) (ok_path c.rest) (set-kept (vars_of t) target.name.name k v c.value c.first)

  assigned-keeps : (t : Task) (target : PTarget) (e : PExpr) (vars : Variables) → steps.assigned t target e ≡ Ok vars → AreKept (vars_of t) vars
  assigned-keeps t target e vars q =
      let c = chain (steps.aim_of t target) (λ k. and_then (value_of t e) (λ v. steps.stored t target k v)) vars q in
      let d = chain (value_of t e) (λ v. steps.stored t target c.value v) vars c.rest in
      stored-keeps t target c.value d.value vars d.rest

  goes-got : (target : PTarget) (behind : PStmts) (t : Task) (k : ℕ) (input : List ℤ) → Holds t → Holds (steps.got target behind t k input)
  goes-got target behind t k [] h = goes-raised raised.End t h
  goes-got target behind t k (z ∷ rest) h =
      goes-or (λ vars. gone_to behind (with_vars (with_input t rest) vars)) (with_input t rest) (steps.stored t target k (Number z)) h
      (λ vars q. goes behind (with_vars (with_input t rest) vars) (changes t vars (stored-keeps t target k (Number z) vars q) h))

  goes-put : (parts : List PPart) (closing : List ℕ) (behind : PStmts) (t : Task) → Holds t → Holds (steps.put_step parts closing behind t)
  goes-put parts closing behind t h =
      goes-or (λ text. gone_to behind (with_text t (text ++ closing))) t (parts_output t.setting.program.names t.setting.types (vars_of t) parts) h
      (λ text q. goes behind t h)

  -- ---- loops

  goes-begun : (name : Option Word) (w : Word) (backwards : Bool) (stmts behind : PStmts) (t : Task) (r : Limits) → inner w.name.0 ≡ true → Holds t → Holds (steps.counting_begun name w backwards stmts behind t r)
  goes-begun name w backwards stmts behind t r i h =
      either (is_empty_range r) (gone_to behind t)
      (pushed stmts (Loop name (Counting backwards (if backwards then r.first else r.last)) stmts) (steps.loop_parameter t w r.kind (if backwards then r.last else r.first) ∷ vars_of t) behind t)
      (goes behind t h)
      (goes-pushed stmts (Loop name (Counting backwards (if backwards then r.first else r.last)) stmts) (steps.loop_parameter t w r.kind (if backwards then r.last else r.first) ∷ vars_of t) behind t (i, refl, tt) refl h)

  goes-scheme : (name : Option Word) (scheme : Option PScheme) (stmts : PStmts) (s : Span) (behind : PStmts) (t : Task) → DeclaresInner inner [] (SLoop name scheme stmts s) → Holds t → Holds (steps.loop_step name scheme stmts behind t)
  goes-scheme name None stmts s behind t i h = goes-pushed stmts (Loop name Endless stmts) (vars_of t) behind t tt refl h
  goes-scheme name (Some (LWhile e)) stmts s behind t i h =
      goes-or (λ c. if c then pushed stmts (Loop name (While e) stmts) (vars_of t) behind t else gone_to behind t) t (steps.condition t e) h
      (λ c q. either c (pushed stmts (Loop name (While e) stmts) (vars_of t) behind t) (gone_to behind t) (goes-pushed stmts (Loop name (While e) stmts) (vars_of t) behind t tt refl h) (goes behind t h))
  goes-scheme name (Some (LFor w backwards range)) stmts s behind t i h =
      goes-or (λ r. steps.counting_begun name w backwards stmts behind t r) t (steps.counted_range t range) h (λ r q. goes-begun name w backwards stmts behind t r i h)

  -- ---- one step

  goes-at : (s : PStmt) (behind : PStmts) (t : Task) → DeclaresInner inner (around (DeclaresInner inner) t) s → Holds t → Holds (stepped_at s behind t)
  goes-at (SNull s) behind t i h = goes behind t h
  goes-at (SAssign target e s) behind t i h =
      goes-or (λ vars. gone_to behind (with_vars t vars)) t (steps.assigned t target e) h (λ vars q. goes behind (with_vars t vars) (changes t vars (assigned-keeps t target e vars q) h))
  goes-at (SDelay duration s) behind t i h = goes behind t h
  goes-at (SExit w test s) behind t i h =
      goes-or (λ c. if c then steps.exited w t else gone_to behind t) t (steps.exit_test t test) h (λ c q. either c (steps.exited w t) (gone_to behind t) (goes-exited w t h) (goes behind t h))
  goes-at (SRaise w s) behind t i h = goes-raised (steps.exception_meant w t) t h
  goes-at (SAbort callees s) behind t i h = goes behind t h
  goes-at (SPut parts s) behind t i h = goes-put parts [] behind t h
  goes-at (SPutLine parts s) behind t i h = goes-put parts steps.line_end behind t h
  goes-at (SNewLine s) behind t i h = goes-put [] steps.line_end behind t h
  goes-at (SGet target s) behind t i h = goes-or (λ n. steps.got target behind t n t.input) t (steps.aim_of t target) h (λ n q. goes-got target behind t n t.input h)
  goes-at (SIf arms otherwise s) behind t i h =
      goes-or (λ branch. entered (stmts_or_none branch) behind t) t (steps.arm_taken t arms otherwise) h (λ branch q. goes (in_front (stmts_or_none branch) behind) t h)
  goes-at (SCase e arms others s) behind t i h =
      goes-or (λ branch. entered (stmts_or_none branch) behind t) t (and_then (value_of t e) (λ v. steps.case_taken t v arms others)) h (λ branch q. goes (in_front (stmts_or_none branch) behind) t h)
  goes-at (SBlock b s) behind t i h = goes-pushed (steps.block_stmts b) (Block (steps.block_handlers b)) (vars_of t) behind t tt refl h
  goes-at (SLoop name scheme stmts s) behind t i h = goes-scheme name scheme stmts s behind t (loop-inner scheme i) h
    where
      loop-inner : (x : Option PScheme) → DeclaresInner inner (around (DeclaresInner inner) t) (SLoop name x stmts s) → DeclaresInner inner [] (SLoop name x stmts s)
      loop-inner None j = tt
      loop-inner (Some (LWhile e)) j = tt
      loop-inner (Some (LFor w backwards range)) j = j
  goes-at (SCall call s) behind t i h = h
  goes-at (SAccept accept s) behind t i h = h
  goes-at (SWait alts otherwise s) behind t i h = h
  goes-at (SConditional call more otherwise s) behind t i h = h
  goes-at (STimed call more duration after s) behind t i h = h

  -- ---- turns

  goes-left : (turns : Turns) (t : Task) → (outer : List PFrame) → outer_of t ≡ outer → HeldIn inner start outer (drop (brought_by turns) (vars_of t)) → Holds t → Holds (steps.left_in turns outer (vars_of t) t)
  goes-left turns t [] e k h = h
  goes-left turns t (part ∷ parts) e k h = held-settled inner start parts part.rest part.place (drop (brought_by turns) (vars_of t)) k

  -- the loop parameter one on keeps its name, and has one value
  goes-counted : (t : Task) (backwards : Bool) (last : ℤ) (name : Option Word) (stmts : PStmts) (vars : Variables) → Held inner start (Loop name (Counting backwards last) stmts) (outer_of t) vars →
      Held inner start (Loop name (Counting backwards last) stmts) (outer_of t) (steps.counted_on t backwards vars)
  goes-counted t backwards last name stmts [] h = h
  goes-counted t backwards last name stmts (o ∷ vars) h = ((h.0.0, refl, tt), h.1)

  goes-turn : (name : Option Word) (turns : Turns) (stmts : PStmts) (t : Task) → place_of t ≡ Loop name turns stmts → Holds t → Holds (steps.turn_step turns stmts t)
  goes-turn name Endless stmts t e h = goes stmts t h
  goes-turn name (While x) stmts t e h =
      goes-or (λ b. if b then gone_to stmts t else steps.loop_left (While x) t) t (steps.condition t x) h
      (λ b q. either b (gone_to stmts t) (steps.loop_left (While x) t) (goes stmts t h) (goes-left (While x) t (outer_of t) refl (subst (λ p. Held inner start p (outer_of t) (vars_of t)) e h).1 h))
  goes-turn name (Counting backwards last) stmts t e h =
      either (steps.has_turn backwards last (steps.counted_so_far (vars_of t))) (gone_to stmts (with_vars t (steps.counted_on t backwards (vars_of t)))) (steps.loop_left (Counting backwards last) t)
      (goes stmts (with_vars t (steps.counted_on t backwards (vars_of t)))
      (subst (λ p. Held inner start p (outer_of t) (steps.counted_on t backwards (vars_of t))) (sym e)
      (goes-counted t backwards last name stmts (vars_of t) (subst (λ p. Held inner start p (outer_of t) (vars_of t)) e h))))
      (goes-left (Counting backwards last) t (outer_of t) refl (subst (λ p. Held inner start p (outer_of t) (vars_of t)) e h).1 h)

  goes-behind : (place : Around) (t : Task) → place_of t ≡ place → Holds t → Holds (stepped_behind place t)
  goes-behind (OwnBody handlers taken) t e h = h
  goes-behind (Block handlers) t e h = h
  goes-behind (Handling x) t e h = h
  goes-behind (Loop name turns stmts) t e h = goes-turn name turns stmts t e h
  goes-behind (Opened caller formals pending) t e h = h

  goes-with : (rest : PStmts) (t : Task) → InStmts (DeclaresInner inner) (around (DeclaresInner inner) t) rest → Holds t → Holds (stepped_with rest (place_of t) t)
  goes-with no_stmt t i h = goes-behind (place_of t) t refl h
  goes-with (stmt_then s behind) t i h = goes-at s behind t i.0.0 h

  goes-by : (stand : Stand) (t : Task) → HoldsOf (DeclaresInner inner) t → Holds t → Holds (stepped_by stand t)
  goes-by Steps t d h = goes-with (rest_of t) t d.rest h
  goes-by (Raises x) t d h = goes-raised x t h
  goes-by (At offer) t d h = h

  -- A local step.
  pub goes-stepped : (t : Task) → HoldsOf (DeclaresInner inner) t → Holds t → Holds (stepped t)
  goes-stepped t d h = goes-by (stand_of t) t d h
