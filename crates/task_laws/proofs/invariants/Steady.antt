-- What a task does by itself keeps its statements, its accept bodies and the formals that they hold (5, 9.5, 11).
use Rattle.std.proofs.Common.{◌≡◌, ℕ, ℤ, Bool, true, false, List, [], ◌∷◌, ◌++◌, Option, Some, None, Result, Ok, Err, drop, refl, sym, subst}
use Rattle.std.specs.Prelude.{if◌then◌else◌}
use Rattle.ada_tree.specs.declared.naming.Word.{Word}
use Rattle.ada_tree.specs.PlainExpr.{PExpr}
use Rattle.ada_tree.specs.PlainStmt.{PHead, PStmt, SNull, SAssign, SDelay, SExit, SRaise, SAbort, SCall, SAccept, SWait, SConditional, STimed, SPut, SPutLine, SNewLine, SGet, SIf, SCase, SBlock, SLoop, PStmts, no_stmt, stmt_then, PHandlers, body, PMaybe, absent, present, PArms, no_arm, arm_then, arm, PCaseArms, no_case_arm, case_arm_then, case_arm, PScheme, LWhile, LFor, PTarget, PPart}
use Rattle.ada_value.specs.declared.values.Value.{Value}
use Rattle.ada_value.specs.declared.values.Raised.{Raised}
use Rattle.ada_value.specs.declared.values.Raised.TheVariants as raised
use Rattle.ada_value.specs.declared.values.Limits.{Limits}
use Rattle.ada_value.specs.Texts.{parts_output}
use Rattle.ada_value.specs.Values.{and_then, is_empty_range}
use Rattle.ada_value.specs.Variables.{Variables, checked_for, set_value}
use Rattle.task_model.specs.Setting.{Setting}
use Rattle.task_model.specs.Frames.{Turns, Endless, While, Counting, Around, OwnBody, Block, Handling, Loop, Opened, PFrame, control, in_front, brought_by}
use Rattle.task_model.specs.Tasks.{Task, rest_of, place_of, outer_of, vars_of, value_of, stmts_or_none, with_vars, with_input, with_text, gone_to, entered, pushed, raised_there, or_raised}
use Rattle.task_model.specs.Steps as steps
use Rattle.task_model.specs.Stands.{Stand, Steps, Raises, At, stand_of, stepped, stepped_by, stepped_with, stepped_at, stepped_behind}
use Rattle.task_laws.specs.invariants.AcceptHeads.{InStmt, InStmts, InMaybe, InArms, InCaseArms, InHandlers, InPlace, InParts}
use Rattle.task_laws.specs.invariants.Holding.{IsHeld, openings_in}
use Rattle.task_laws.proofs.invariants.Variables.{AreSame, is_held_same, set_same, ok_path, chain}
use Rattle.task_laws.proofs.invariants.Frames.{Good, in_front_in, good_settled, good_settle, good_raised, good_exited}

module _ (Head : PHead → Type 0) where
  -- The task u goes on from t: it is of the same program and number, with the same accept bodies open.
  pub record Goes (t u : Task) : Type 0 where
    pub good : Good Head (openings_in t.control) u.control
    pub setting : u.setting ≡ t.setting
    pub number : u.number ≡ t.number

  -- what holds of a task that stands so
  pub record Stays (t : Task) : Type 0 where
    pub rest : InStmts Head (rest_of t)
    pub place : InPlace Head (place_of t)
    pub outer : InParts Head (outer_of t)
    pub held : IsHeld (place_of t) (outer_of t) (vars_of t)

  pub goes_itself : (t : Task) → Stays t → Goes t t
  goes_itself t k = record { good = record { rest = k.rest; place = k.place; outer = k.outer; held = k.held; same = refl }; setting = refl; number = refl }

  pub goes_gone : (rest : PStmts) (t : Task) → InStmts Head rest → Stays t → Goes t (gone_to rest t)
  goes_gone rest t i k = record { good = good_settled Head (outer_of t) rest (place_of t) (vars_of t) i k.place k.outer k.held; setting = refl; number = refl }

  -- with other variables of the same subtypes
  pub goes_changed : (rest : PStmts) (t : Task) (vars : Variables) → InStmts Head rest → Stays t → AreSame (vars_of t) vars → Goes t (gone_to rest (with_vars t vars))
  goes_changed rest t vars i k h =
      record { good = good_settled Head (outer_of t) rest (place_of t) vars i k.place k.outer (is_held_same (place_of t) (outer_of t) (vars_of t) vars h k.held); setting = refl; number = refl }

  pub goes_raised : (x : Raised) (t : Task) → Stays t → Goes t (raised_there x t)
  goes_raised x t k = record {
    good = good_settle Head (openings_in t.control) _ (good_raised Head x (outer_of t) (place_of t) (vars_of t) k.place k.outer k.held);
    setting = refl;
    number = refl;
  }

  pub goes_raised_with : (x : Raised) (t : Task) (vars : Variables) → Stays t → AreSame (vars_of t) vars → Goes t (raised_there x (with_vars t vars))
  goes_raised_with x t vars k h = record {
    good = good_settle Head (openings_in t.control) _ (good_raised Head x (outer_of t) (place_of t) vars k.place k.outer (is_held_same (place_of t) (outer_of t) (vars_of t) vars h k.held));
    setting = refl;
    number = refl;
  }

  goes_exited : (w : Option Word) (t : Task) → Stays t → Goes t (steps.exited w t)
  goes_exited w t k = record {
    good = good_settle Head (openings_in t.control) _ (good_exited Head w (outer_of t) (place_of t) (vars_of t) k.place k.outer k.held);
    setting = refl;
    number = refl;
  }

  goes_block : (stmts : PStmts) (handlers : PHandlers) (behind : PStmts) (t : Task) → InStmts Head stmts → InHandlers Head handlers → InStmts Head behind → Stays t →
      Goes t (pushed stmts (Block handlers) (vars_of t) behind t)
  goes_block stmts handlers behind t i p b k = record {
    good = good_settled Head (record { rest = behind; place = place_of t } ∷ outer_of t) stmts (Block handlers) (vars_of t) i p ((b, k.place), k.outer) (tt, k.held);
    setting = refl;
    number = refl;
  }

  goes_loop : (name : Option Word) (turns : Turns) (stmts : PStmts) (vars : Variables) (behind : PStmts) (t : Task) → InStmts Head stmts → InStmts Head behind → Stays t → drop (brought_by turns) vars ≡ vars_of t →
      Goes t (pushed stmts (Loop name turns stmts) vars behind t)
  goes_loop name turns stmts vars behind t i b k h = record {
    good = good_settled Head (record { rest = behind; place = place_of t } ∷ outer_of t) stmts (Loop name turns stmts) vars i i ((b, k.place), k.outer)
        (tt, subst (IsHeld (place_of t) (outer_of t)) (sym h) k.held);
    setting = refl;
    number = refl;
  }

  goes_or : {A : Type 0} (f : A → Task) (t : Task) (r : Result A Raised) → Stays t → ((a : A) → r ≡ Ok a → Goes t (f a)) → Goes t (or_raised f t r)
  goes_or f t (Ok a) k h = h a refl
  goes_or f t (Err x) k h = goes_raised x t k

  goes_if : (b : Bool) (t u v : Task) → Goes t u → Goes t v → Goes t (if◌then◌else◌ b u v)
  goes_if true t u v k l = k
  goes_if false t u v k l = l

  -- ---- assignments

  stored_keeps : (t : Task) (target : PTarget) (k : ℕ) (v : Value) (vars : Variables) → steps.stored t target k v ≡ Ok vars → AreSame (vars_of t) vars
  stored_keeps t target k v vars h =
      let c = chain (checked_for (steps.target_object t target) v) (λ w. Ok (set_value (vars_of t) target.name.name k w)) vars h in
      subst (AreSame (vars_of t)) (ok_path c.rest) (set_same (vars_of t) target.name.name k v c.value c.first)

  assigned_keeps : (t : Task) (target : PTarget) (e : PExpr) (vars : Variables) → steps.assigned t target e ≡ Ok vars → AreSame (vars_of t) vars
  assigned_keeps t target e vars h =
      let c = chain (steps.aim_of t target) (λ k. and_then (value_of t e) (λ v. steps.stored t target k v)) vars h in
      let d = chain (value_of t e) (λ v. steps.stored t target c.value v) vars c.rest in
      stored_keeps t target c.value d.value vars d.rest

  goes_got : (target : PTarget) (behind : PStmts) (t : Task) (k : ℕ) (input : List ℤ) → InStmts Head behind → Stays t → Goes t (steps.got target behind t k input)
  goes_got target behind t k [] b s = goes_raised raised.End t s
  goes_got target behind t k (z ∷ rest) b s =
      let u : Task = with_input t rest in
      let g = goes_or (λ vars. gone_to behind (with_vars u vars)) u (steps.stored u target k _) (record { rest = s.rest; place = s.place; outer = s.outer; held = s.held })
      (λ vars h. goes_changed behind u vars b (record { rest = s.rest; place = s.place; outer = s.outer; held = s.held }) (stored_keeps u target k _ vars h)) in
      record { good = g.good; setting = g.setting; number = g.number }

  -- ---- branches

  pub maybe_in : (branch : PMaybe) → InMaybe Head branch → InStmts Head (stmts_or_none branch)
  maybe_in absent h = tt
  maybe_in (present stmts) h = h

  goes_entered : (branch : PMaybe) (behind : PStmts) (t : Task) → InMaybe Head branch → InStmts Head behind → Stays t → Goes t (entered (stmts_or_none branch) behind t)
  goes_entered branch behind t h b k = goes_gone (in_front (stmts_or_none branch) behind) t (in_front_in Head (stmts_or_none branch) behind (maybe_in branch h) b) k

  taken_in : (t : Task) (arms : PArms) (otherwise branch : PMaybe) → InArms Head arms → InMaybe Head otherwise → steps.arm_taken t arms otherwise ≡ Ok branch → InMaybe Head branch
  taken_in t no_arm otherwise branch h o q = subst (InMaybe Head) (ok_path q) o
  taken_in t (arm_then (arm e stmts) rest) otherwise branch h o q =
      let c = chain (steps.condition t e) (λ b. if b then Ok (present stmts) else steps.arm_taken t rest otherwise) branch q in
      go c.value c.rest (taken_in t rest otherwise branch h.1 o)
    where
      go : (b : Bool) → (if b then Ok (present stmts) else steps.arm_taken t rest otherwise) ≡ Ok branch → (steps.arm_taken t rest otherwise ≡ Ok branch → InMaybe Head branch) → InMaybe Head branch
      go true r later = subst (InMaybe Head) (ok_path r) h.0
      go false r later = later r

  case_in : (t : Task) (v : Value) (arms : PCaseArms) (others branch : PMaybe) → InCaseArms Head arms → InMaybe Head others → steps.case_taken t v arms others ≡ Ok branch → InMaybe Head branch
  case_in t v no_case_arm others branch h o q = subst (InMaybe Head) (ok_path q) o
  case_in t v (case_arm_then (case_arm choices stmts) rest) others branch h o q =
      let c = chain (steps.choices_fit t v choices) (λ b. if b then Ok (present stmts) else steps.case_taken t v rest others) branch q in
      go c.value c.rest (case_in t v rest others branch h.1 o)
    where
      go : (b : Bool) → (if b then Ok (present stmts) else steps.case_taken t v rest others) ≡ Ok branch → (steps.case_taken t v rest others ≡ Ok branch → InMaybe Head branch) → InMaybe Head branch
      go true r later = subst (InMaybe Head) (ok_path r) h.0
      go false r later = later r

  -- ---- loops

  goes_begun : (name : Option Word) (w : Word) (backwards : Bool) (stmts behind : PStmts) (t : Task) (r : Limits) → InStmts Head stmts → InStmts Head behind → Stays t → Goes t (steps.counting_begun name w backwards stmts behind t r)
  goes_begun name w backwards stmts behind t r i b k =
      goes_if (is_empty_range r) t (gone_to behind t)
      (pushed stmts (Loop name (Counting backwards (if backwards then r.first else r.last)) stmts) (steps.loop_parameter t w r.kind (if backwards then r.last else r.first) ∷ vars_of t) behind t)
      (goes_gone behind t b k)
      (goes_loop name (Counting backwards (if backwards then r.first else r.last)) stmts (steps.loop_parameter t w r.kind (if backwards then r.last else r.first) ∷ vars_of t) behind t i b k refl)

  goes_scheme : (name : Option Word) (scheme : Option PScheme) (stmts behind : PStmts) (t : Task) → InStmts Head stmts → InStmts Head behind → Stays t → Goes t (steps.loop_step name scheme stmts behind t)
  goes_scheme name None stmts behind t i b k = goes_loop name Endless stmts (vars_of t) behind t i b k refl
  goes_scheme name (Some (LWhile e)) stmts behind t i b k =
      goes_or (λ c. if c then pushed stmts (Loop name (While e) stmts) (vars_of t) behind t else gone_to behind t) t (steps.condition t e) k
      (λ c q. goes_if c t (pushed stmts (Loop name (While e) stmts) (vars_of t) behind t) (gone_to behind t) (goes_loop name (While e) stmts (vars_of t) behind t i b k refl) (goes_gone behind t b k))
  goes_scheme name (Some (LFor w backwards range)) stmts behind t i b k =
      goes_or (λ r. steps.counting_begun name w backwards stmts behind t r) t (steps.counted_range t range) k (λ r q. goes_begun name w backwards stmts behind t r i b k)

  -- ---- texts

  goes_put : (parts : List PPart) (closing : List ℕ) (behind : PStmts) (t : Task) → InStmts Head behind → Stays t → Goes t (steps.put_step parts closing behind t)
  goes_put parts closing behind t b k =
      goes_or (λ text. gone_to behind (with_text t (text ++ closing))) t (parts_output t.setting.program.names t.setting.types (vars_of t) parts) k
      (λ text q. record { good = good_settled Head (outer_of t) behind (place_of t) (vars_of t) b k.place k.outer k.held; setting = refl; number = refl })

  -- ---- one step

  goes_stepped_at : (s : PStmt) (behind : PStmts) (t : Task) → InStmt Head s → InStmts Head behind → Stays t → Goes t (stepped_at s behind t)
  goes_stepped_at (SNull s) behind t i b k = goes_gone behind t b k
  goes_stepped_at (SAssign target e s) behind t i b k =
      goes_or (λ vars. gone_to behind (with_vars t vars)) t (steps.assigned t target e) k (λ vars q. goes_changed behind t vars b k (assigned_keeps t target e vars q))
  goes_stepped_at (SDelay duration s) behind t i b k = goes_gone behind t b k
  goes_stepped_at (SExit w test s) behind t i b k =
      goes_or (λ c. if c then steps.exited w t else gone_to behind t) t (steps.exit_test t test) k (λ c q. goes_if c t (steps.exited w t) (gone_to behind t) (goes_exited w t k) (goes_gone behind t b k))
  goes_stepped_at (SRaise w s) behind t i b k = goes_raised (steps.exception_meant w t) t k
  goes_stepped_at (SAbort callees s) behind t i b k = goes_gone behind t b k
  goes_stepped_at (SPut parts s) behind t i b k = goes_put parts [] behind t b k
  goes_stepped_at (SPutLine parts s) behind t i b k = goes_put parts steps.line_end behind t b k
  goes_stepped_at (SNewLine s) behind t i b k = goes_put [] steps.line_end behind t b k
  goes_stepped_at (SGet target s) behind t i b k = goes_or (λ n. steps.got target behind t n t.input) t (steps.aim_of t target) k (λ n q. goes_got target behind t n t.input b k)
  goes_stepped_at (SIf arms otherwise s) behind t i b k =
      goes_or (λ branch. entered (stmts_or_none branch) behind t) t (steps.arm_taken t arms otherwise) k (λ branch q. goes_entered branch behind t (taken_in t arms otherwise branch i.0 i.1 q) b k)
  goes_stepped_at (SCase e arms others s) behind t i b k =
      goes_or (λ branch. entered (stmts_or_none branch) behind t) t (and_then (value_of t e) (λ v. steps.case_taken t v arms others)) k
      (λ branch q. let c = chain (value_of t e) (λ v. steps.case_taken t v arms others) branch q in goes_entered branch behind t (case_in t c.value arms others branch i.0 i.1 c.rest) b k)
  goes_stepped_at (SBlock (body stmts handlers) s) behind t i b k = goes_block stmts handlers behind t i.0 i.1 b k
  goes_stepped_at (SLoop name scheme stmts s) behind t i b k = goes_scheme name scheme stmts behind t i b k
  goes_stepped_at (SCall call s) behind t i b k = goes_itself t k
  goes_stepped_at (SAccept accept s) behind t i b k = goes_itself t k
  goes_stepped_at (SWait alts otherwise s) behind t i b k = goes_itself t k
  goes_stepped_at (SConditional call more otherwise s) behind t i b k = goes_itself t k
  goes_stepped_at (STimed call more duration after s) behind t i b k = goes_itself t k

  -- a task of these parts
  abbrev task_at : Setting → ℕ → List ℤ → List ℕ → PStmts → Around → List PFrame → Variables → Task
  task_at g n input output rest place outer vars = record { setting = g; number = n; control = control rest place outer vars; input = input; output = output }

  goes_left : (g : Setting) (n : ℕ) (input : List ℤ) (output : List ℕ) (rest : PStmts) (name : Option Word) (turns : Turns) (stmts : PStmts) (outer : List PFrame) (vars : Variables) →
      Stays (task_at g n input output rest (Loop name turns stmts) outer vars) →
      Goes (task_at g n input output rest (Loop name turns stmts) outer vars) (steps.loop_left turns (task_at g n input output rest (Loop name turns stmts) outer vars))
  goes_left g n input output rest name turns stmts [] vars k = goes_itself (task_at g n input output rest (Loop name turns stmts) [] vars) k
  goes_left g n input output rest name turns stmts (part ∷ parts) vars k =
      record { good = good_settled Head parts part.rest part.place (drop (brought_by turns) vars) k.outer.0.0 k.outer.0.1 k.outer.1 k.held.1; setting = refl; number = refl }

  -- the loop parameter is another, and is not asked for
  counted_held : (g : Setting) (n : ℕ) (input : List ℤ) (output : List ℕ) (rest : PStmts) (name : Option Word) (backwards : Bool) (last : ℤ) (stmts : PStmts) (outer : List PFrame) (vars : Variables) →
      IsHeld (Loop name (Counting backwards last) stmts) outer vars →
      IsHeld (Loop name (Counting backwards last) stmts) outer (steps.counted_on (task_at g n input output rest (Loop name (Counting backwards last) stmts) outer vars) backwards vars)
  counted_held g n input output rest name backwards last stmts outer [] h = h
  counted_held g n input output rest name backwards last stmts outer (o ∷ vars) h = h

  goes_turn : (g : Setting) (n : ℕ) (input : List ℤ) (output : List ℕ) (rest : PStmts) (name : Option Word) (turns : Turns) (stmts : PStmts) (outer : List PFrame) (vars : Variables) →
      Stays (task_at g n input output rest (Loop name turns stmts) outer vars) →
      Goes (task_at g n input output rest (Loop name turns stmts) outer vars) (steps.turn_step turns stmts (task_at g n input output rest (Loop name turns stmts) outer vars))
  goes_turn g n input output rest name Endless stmts outer vars k = goes_gone stmts (task_at g n input output rest (Loop name Endless stmts) outer vars) k.place k
  goes_turn g n input output rest name (While e) stmts outer vars k =
      let t = task_at g n input output rest (Loop name (While e) stmts) outer vars in
      goes_or (λ b. if b then gone_to stmts t else steps.loop_left (While e) t) t (steps.condition t e) k
      (λ b q. goes_if b t (gone_to stmts t) (steps.loop_left (While e) t) (goes_gone stmts t k.place k) (goes_left g n input output rest name (While e) stmts outer vars k))
  goes_turn g n input output rest name (Counting backwards last) stmts outer vars k =
      let t = task_at g n input output rest (Loop name (Counting backwards last) stmts) outer vars in
      goes_if (steps.has_turn backwards last (steps.counted_so_far vars)) t (gone_to stmts (with_vars t (steps.counted_on t backwards vars))) (steps.loop_left (Counting backwards last) t)
      (record {
        good = good_settled Head outer stmts (Loop name (Counting backwards last) stmts) (steps.counted_on t backwards vars) k.place k.place k.outer
            (counted_held g n input output rest name backwards last stmts outer vars k.held);
        setting = refl;
        number = refl;
      })
      (goes_left g n input output rest name (Counting backwards last) stmts outer vars k)

  goes_behind : (g : Setting) (n : ℕ) (input : List ℤ) (output : List ℕ) (rest : PStmts) (place : Around) (outer : List PFrame) (vars : Variables) →
      Stays (task_at g n input output rest place outer vars) → Goes (task_at g n input output rest place outer vars) (stepped_behind place (task_at g n input output rest place outer vars))
  goes_behind g n input output rest (OwnBody handlers taken) outer vars k = goes_itself _ k
  goes_behind g n input output rest (Block handlers) outer vars k = goes_itself _ k
  goes_behind g n input output rest (Handling x) outer vars k = goes_itself _ k
  goes_behind g n input output rest (Loop name turns stmts) outer vars k = goes_turn g n input output rest name turns stmts outer vars k
  goes_behind g n input output rest (Opened caller formals pending) outer vars k = goes_itself _ k

  goes_with : (rest : PStmts) (t : Task) → InStmts Head rest → Stays t → Goes t (stepped_with rest (place_of t) t)
  goes_with no_stmt t i k = goes_behind t.setting t.number t.input t.output (rest_of t) (place_of t) (outer_of t) (vars_of t) k
  goes_with (stmt_then s behind) t i k = goes_stepped_at s behind t i.0 i.1 k

  goes_by : (stand : Stand) (t : Task) → Stays t → Goes t (stepped_by stand t)
  goes_by Steps t k = goes_with (rest_of t) t k.rest k
  goes_by (Raises x) t k = goes_raised x t k
  goes_by (At offer) t k = goes_itself t k

  -- A local step.
  pub goes_stepped : (t : Task) → Stays t → Goes t (stepped t)
  goes_stepped t k = goes_by (stand_of t) t k
