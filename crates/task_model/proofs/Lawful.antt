-- What one task does keeps the rules that the laws of the machine use of it: a task with a local step offers nothing, and callers come and go with accept bodies alone.
use Rattle.std.proofs.Common.{◌≡◌, ℕ, ℤ, Bool, true, false, List, [], ◌∷◌, ◌++◌, Option, Some, None, Result, Ok, Err, refl, sym, ap, subst, ◌∙◌, true≢false}
use Rattle.std.specs.Prelude.{if◌then◌else◌}
use Rattle.ada_tree.specs.declared.naming.Word.{Word}
use Rattle.ada_tree.specs.PlainStmt.{PStmt, SNull, SAssign, SDelay, SExit, SRaise, SAbort, SCall, SAccept, SWait, SConditional, STimed, SPut, SPutLine, SNewLine, SGet, SIf, SCase, SBlock, SLoop, PStmts, no_stmt, stmt_then, PHandlers, PMaybe, PScheme, LWhile, LFor, PTarget, PPart}
use Rattle.event_machine.specs.declared.CallForm.{CallForm}
use Rattle.event_machine.specs.declared.Choice.{Choice}
use Rattle.event_machine.specs.Offers as offers
use Rattle.event_machine.specs.Lawful.{IsLawful, Keeps}
use Rattle.ada_value.specs.declared.values.Value.{Value}
use Rattle.ada_value.specs.declared.values.Raised.{Raised}
use Rattle.ada_value.specs.declared.values.Raised.TheVariants as raised
use Rattle.ada_value.specs.Texts.{parts_output}
use Rattle.ada_value.specs.declared.values.Limits.{Limits}
use Rattle.ada_value.specs.Values.{and_then, is_empty_range}
use Rattle.ada_value.specs.Variables.{Variables}
use Rattle.task_model.specs.Setting.{Setting, callee_task}
use Rattle.task_model.specs.Frames.{Turns, Endless, While, Counting, Around, OwnBody, Block, Handling, Loop, Opened, PFrame, Control, control, in_front, settled_in, settled, unit_with, block_with, handler_for, raised_in, is_left, exited_in, without_own, caller_at, callers_among, callers_in}
use Rattle.task_model.specs.Tasks.{Task, rest_of, place_of, outer_of, vars_of, value_of, stmts_or_none, with_vars, with_input, with_text, gone_to, entered, pushed, raised_there, or_raised}
use Rattle.task_model.specs.Steps as steps
use Rattle.task_model.specs.Calls.{Called, Copies, called, values_handed}
use Rattle.task_model.specs.Waits.{Open, Accepts, Delays, Terminates, choices_of, open_at, is_present, alternative_for}
use Rattle.task_model.specs.Stands.{Stand, Steps, Raises, At, stand_of, stand_at, offered, steps_at, stepped, stepped_by, stepped_with, stepped_at, stepped_behind, offer_of, call_stand, choices_stand, wait_stand, name_stand}
use Rattle.task_model.specs.Rendezvous as rendezvous
use Rattle.task_model.specs.TaskOps.{task_ops}
use Rattle.task_model.specs.Laws.{IsStack, IsProper}

-- A control whose frames stand so, with these callers.
record Good (callers : List ℕ) (c : Control) : Type 0 where
  stack : IsStack c.top.place c.outer
  same : callers_in c ≡ callers

-- ---- frames

good-settled : (outer : List PFrame) (rest : PStmts) (place : Around) (vars : Variables) → IsStack place outer →
    Good (caller_at place ++ callers_among outer) (settled_in outer rest place vars)
good-settled outer (stmt_then s rest) place vars h = record { stack = h; same = refl }
good-settled [] no_stmt place vars h = record { stack = h; same = refl }
good-settled (part ∷ parts) no_stmt (Block handlers) vars h = good-settled parts part.rest part.place vars h
good-settled (part ∷ parts) no_stmt (Handling x) vars h = good-settled parts part.rest part.place vars h
good-settled (part ∷ parts) no_stmt (OwnBody handlers taken) vars h = record { stack = h; same = refl }
good-settled (part ∷ parts) no_stmt (Loop name turns stmts) vars h = record { stack = h; same = refl }
good-settled (part ∷ parts) no_stmt (Opened caller formals pending) vars h = record { stack = h; same = refl }

good-settle : (callers : List ℕ) (c : Control) → Good callers c → Good callers (settled c)
good-settle callers c g =
    let s = good-settled c.outer c.top.rest c.top.place c.vars g.stack in
    record { stack = s.stack; same = s.same ∙ g.same }

good-unit : (o : Option PStmts) (x : Raised) (handlers : PHandlers) (outer : List PFrame) (vars : Variables) → outer ≡ [] →
    Good (callers_among outer) (unit_with o x handlers outer vars)
good-unit None x handlers outer vars h = record { stack = h; same = refl }
good-unit (Some stmts) x handlers outer vars h = record { stack = h; same = refl }

good-block : (o : Option PStmts) (x : Raised) (part : PFrame) (parts : List PFrame) (vars : Variables) (beyond : Control) → IsStack part.place parts →
    Good (callers_among (part ∷ parts)) beyond → Good (callers_among (part ∷ parts)) (block_with o x (part ∷ parts) vars beyond)
good-block None x part parts vars beyond h g = g
good-block (Some stmts) x part parts vars beyond h g = record { stack = h; same = refl }

good-raised : (x : Raised) (outer : List PFrame) (place : Around) (vars : Variables) → IsStack place outer →
    Good (caller_at place ++ callers_among outer) (raised_in x outer place vars)
good-raised x outer (OwnBody handlers None) vars h = good-unit (handler_for x handlers) x handlers outer vars h
good-raised x outer (OwnBody handlers (Some y)) vars h = record { stack = h; same = refl }
good-raised x outer (Opened caller formals pending) vars h = record { stack = opened outer h; same = refl }
  where
    opened : (outer : List PFrame) → IsStack (Opened caller formals pending) outer → IsStack (Opened caller formals (Some x)) outer
    opened [] k = k
    opened (part ∷ parts) k = k
good-raised x [] (Block handlers) vars h = absurd h
good-raised x [] (Handling y) vars h = absurd h
good-raised x [] (Loop name turns stmts) vars h = absurd h
good-raised x (part ∷ parts) (Block handlers) vars h =
    good-block (handler_for x handlers) x part parts vars (raised_in x parts part.place vars) h (good-raised x parts part.place vars h)
good-raised x (part ∷ parts) (Handling y) vars h = good-raised x parts part.place vars h
good-raised x (part ∷ parts) (Loop name turns stmts) vars h = good-raised x parts part.place _ h

good-if : (b : Bool) (callers : List ℕ) (c d : Control) → Good callers c → Good callers d → Good callers (if◌then◌else◌ b c d)
good-if true callers c d g h = g
good-if false callers c d g h = h

good-exited : (w : Option Word) (outer : List PFrame) (place : Around) (vars : Variables) → IsStack place outer →
    Good (caller_at place ++ callers_among outer) (exited_in w outer place vars)
good-exited w [] place vars h = record { stack = h; same = refl }
good-exited w (part ∷ parts) (Block handlers) vars h = good-exited w parts part.place vars h
good-exited w (part ∷ parts) (Handling x) vars h = good-exited w parts part.place vars h
good-exited w (part ∷ parts) (Loop name turns stmts) vars h =
    good-if (is_left w name) (callers_among (part ∷ parts)) _ _ (record { stack = h; same = refl }) (good-exited w parts part.place _ h)
good-exited w (part ∷ parts) (OwnBody handlers taken) vars h = record { stack = h; same = refl }
good-exited w (part ∷ parts) (Opened caller formals pending) vars h = record { stack = h; same = refl }

-- ---- tasks

-- the task u is proper, with the callers of t
record Kept (t u : Task) : Type 0 where
  proper : IsProper u
  same : callers_in u.control ≡ callers_in t.control

of_good : (t u : Task) → Good (callers_in t.control) u.control → Kept t u
of_good t u g = record { proper = g.stack; same = g.same }

keeps : (t u : Task) → Kept t u → Keeps task_ops IsProper t u
keeps t u k = (k.proper, k.same)

kept-gone : (rest : PStmts) (t : Task) → IsProper t → Kept t (gone_to rest t)
kept-gone rest t p = of_good t _ (good-settled (outer_of t) rest (place_of t) (vars_of t) p)

kept-raised : (x : Raised) (t : Task) → IsProper t → Kept t (raised_there x t)
kept-raised x t p = of_good t _ (good-settle _ _ (good-raised x (outer_of t) (place_of t) (vars_of t) p))

kept-exited : (w : Option Word) (t : Task) → IsProper t → Kept t (steps.exited w t)
kept-exited w t p = of_good t _ (good-settle _ _ (good-exited w (outer_of t) (place_of t) (vars_of t) p))

kept-block : (stmts : PStmts) (handlers : PHandlers) (vars : Variables) (behind : PStmts) (t : Task) → IsProper t → Kept t (pushed stmts (Block handlers) vars behind t)
kept-block stmts handlers vars behind t p = of_good t (pushed stmts (Block handlers) vars behind t) (good-settled (record { rest = behind; place = place_of t } ∷ outer_of t) stmts (Block handlers) vars p)

kept-loop : (name : Option Word) (turns : Turns) (again stmts : PStmts) (vars : Variables) (behind : PStmts) (t : Task) → IsProper t →
    Kept t (pushed stmts (Loop name turns again) vars behind t)
kept-loop name turns again stmts vars behind t p = of_good t (pushed stmts (Loop name turns again) vars behind t) (good-settled (record { rest = behind; place = place_of t } ∷ outer_of t) stmts (Loop name turns again) vars p)

kept-or : {A : Type 0} (f : A → Task) (t : Task) (r : Result A Raised) → IsProper t → ((a : A) → Kept t (f a)) → Kept t (or_raised f t r)
kept-or f t (Ok a) p h = h a
kept-or f t (Err x) p h = kept-raised x t p

kept-if : (b : Bool) (t u v : Task) → Kept t u → Kept t v → Kept t (if◌then◌else◌ b u v)
kept-if true t u v k l = k
kept-if false t u v k l = l

kept-itself : (t : Task) → IsProper t → Kept t t
kept-itself t p = record { proper = p; same = refl }

-- ---- local steps

kept-got : (target : PTarget) (behind : PStmts) (t : Task) (k : ℕ) (input : List ℤ) → IsProper t → Kept t (steps.got target behind t k input)
kept-got target behind t k [] p = kept-raised raised.End t p
kept-got target behind t k (z ∷ rest) p =
    let h = kept-or (λ vars. gone_to behind (with_vars (with_input t rest) vars)) (with_input t rest) (steps.stored t target k _) p
    (λ vars. let g = kept-gone behind (with_vars (with_input t rest) vars) p in record { proper = g.proper; same = g.same }) in
    record { proper = h.proper; same = h.same }

kept-begun : (name : Option Word) (w : Word) (backwards : Bool) (stmts behind : PStmts) (t : Task) (r : Limits) → IsProper t → Kept t (steps.counting_begun name w backwards stmts behind t r)
kept-begun name w backwards stmts behind t r p =
    kept-if (is_empty_range r) t (gone_to behind t)
    (pushed stmts (Loop name (Counting backwards (if backwards then r.first else r.last)) stmts) (steps.loop_parameter t w r.kind (if backwards then r.last else r.first) ∷ vars_of t) behind t)
    (kept-gone behind t p)
    (kept-loop name (Counting backwards (if backwards then r.first else r.last)) stmts stmts (steps.loop_parameter t w r.kind (if backwards then r.last else r.first) ∷ vars_of t) behind t p)

kept-scheme : (name : Option Word) (scheme : Option PScheme) (stmts behind : PStmts) (t : Task) → IsProper t → Kept t (steps.loop_step name scheme stmts behind t)
kept-scheme name None stmts behind t p = kept-loop name Endless stmts stmts (vars_of t) behind t p
kept-scheme name (Some (LWhile e)) stmts behind t p =
    kept-or (λ b. if b then pushed stmts (Loop name (While e) stmts) (vars_of t) behind t else gone_to behind t) t (steps.condition t e) p
    (λ b. kept-if b t (pushed stmts (Loop name (While e) stmts) (vars_of t) behind t) (gone_to behind t) (kept-loop name (While e) stmts stmts (vars_of t) behind t p) (kept-gone behind t p))
kept-scheme name (Some (LFor w backwards range)) stmts behind t p =
    kept-or (λ r. steps.counting_begun name w backwards stmts behind t r) t (steps.counted_range t range) p (λ r. kept-begun name w backwards stmts behind t r p)

-- the task is changed without its frames, and then goes on
kept-changed : (rest : PStmts) (t u : Task) → IsProper t → place_of u ≡ place_of t → outer_of u ≡ outer_of t → Kept t (gone_to rest u)
kept-changed rest t u p e f =
    let q : IsProper u = subst (λ place. IsStack place (outer_of u)) (sym e) (subst (λ outer. IsStack (place_of t) outer) (sym f) p) in
    let k = kept-gone rest u q in
    record { proper = k.proper; same = k.same ∙ ap (λ place. caller_at place ++ callers_among (outer_of u)) e ∙ ap (λ outer. caller_at (place_of t) ++ callers_among outer) f }

kept-put : (parts : List PPart) (closing : List ℕ) (behind : PStmts) (t : Task) → IsProper t → Kept t (steps.put_step parts closing behind t)
kept-put parts closing behind t p =
    kept-or (λ text. gone_to behind (with_text t (text ++ closing))) t (parts_output t.setting.program.names t.setting.types (vars_of t) parts) p
    (λ text. kept-changed behind t (with_text t (text ++ closing)) p refl refl)

kept-entered : (branch : PMaybe) (behind : PStmts) (t : Task) → IsProper t → Kept t (entered (stmts_or_none branch) behind t)
kept-entered branch behind t p = kept-gone (in_front (stmts_or_none branch) behind) t p

kept-stepped_at : (s : PStmt) (behind : PStmts) (t : Task) → IsProper t → Kept t (stepped_at s behind t)
kept-stepped_at (SNull s) behind t p = kept-gone behind t p
kept-stepped_at (SAssign target e s) behind t p =
    kept-or (λ vars. gone_to behind (with_vars t vars)) t (steps.assigned t target e) p (λ vars. kept-changed behind t (with_vars t vars) p refl refl)
kept-stepped_at (SDelay duration s) behind t p = kept-gone behind t p
kept-stepped_at (SExit w test s) behind t p =
    kept-or (λ b. if b then steps.exited w t else gone_to behind t) t (steps.exit_test t test) p (λ b. kept-if b t (steps.exited w t) (gone_to behind t) (kept-exited w t p) (kept-gone behind t p))
kept-stepped_at (SRaise w s) behind t p = kept-raised (steps.exception_meant w t) t p
kept-stepped_at (SAbort callees s) behind t p = kept-gone behind t p
kept-stepped_at (SPut parts s) behind t p = kept-put parts [] behind t p
kept-stepped_at (SPutLine parts s) behind t p = kept-put parts steps.line_end behind t p
kept-stepped_at (SNewLine s) behind t p = kept-put [] steps.line_end behind t p
kept-stepped_at (SGet target s) behind t p = kept-or (λ k. steps.got target behind t k t.input) t (steps.aim_of t target) p (λ k. kept-got target behind t k t.input p)
kept-stepped_at (SIf arms otherwise s) behind t p =
    kept-or (λ branch. entered (stmts_or_none branch) behind t) t (steps.arm_taken t arms otherwise) p (λ branch. kept-entered branch behind t p)
kept-stepped_at (SCase e arms others s) behind t p =
    kept-or (λ branch. entered (stmts_or_none branch) behind t) t (and_then (value_of t e) (λ v. steps.case_taken t v arms others)) p (λ branch. kept-entered branch behind t p)
kept-stepped_at (SBlock b s) behind t p = kept-block (steps.block_stmts b) (steps.block_handlers b) (vars_of t) behind t p
kept-stepped_at (SLoop name scheme stmts s) behind t p = kept-scheme name scheme stmts behind t p
kept-stepped_at (SCall call s) behind t p = kept-itself t p
kept-stepped_at (SAccept accept s) behind t p = kept-itself t p
kept-stepped_at (SWait alts otherwise s) behind t p = kept-itself t p
kept-stepped_at (SConditional call more otherwise s) behind t p = kept-itself t p
kept-stepped_at (STimed call more duration after s) behind t p = kept-itself t p

-- a task of these parts
abbrev task_at : Setting → ℕ → List ℤ → List ℕ → PStmts → Around → List PFrame → Variables → Task
task_at g n input output rest place outer vars = record { setting = g; number = n; control = control rest place outer vars; input = input; output = output }

kept-left : (g : Setting) (n : ℕ) (input : List ℤ) (output : List ℕ) (rest : PStmts) (name : Option Word) (turns : Turns) (stmts : PStmts) (outer : List PFrame) (vars : Variables) →
    IsStack (Loop name turns stmts) outer → Kept (task_at g n input output rest (Loop name turns stmts) outer vars) (steps.loop_left turns (task_at g n input output rest (Loop name turns stmts) outer vars))
kept-left g n input output rest name turns stmts [] vars h = absurd h
kept-left g n input output rest name turns stmts (part ∷ parts) vars h = of_good _ _ (good-settled parts part.rest part.place _ h)

kept-turn : (g : Setting) (n : ℕ) (input : List ℤ) (output : List ℕ) (rest : PStmts) (name : Option Word) (turns : Turns) (stmts : PStmts) (outer : List PFrame) (vars : Variables) →
    IsStack (Loop name turns stmts) outer → Kept (task_at g n input output rest (Loop name turns stmts) outer vars) (steps.turn_step turns stmts (task_at g n input output rest (Loop name turns stmts) outer vars))
kept-turn g n input output rest name Endless stmts outer vars h = kept-gone stmts (task_at g n input output rest (Loop name Endless stmts) outer vars) h
kept-turn g n input output rest name (While e) stmts outer vars h =
    let t = task_at g n input output rest (Loop name (While e) stmts) outer vars in
    kept-or (λ b. if b then gone_to stmts t else steps.loop_left (While e) t) t (steps.condition t e) h (λ b. kept-if b t (gone_to stmts t) (steps.loop_left (While e) t) (kept-gone stmts t h) (kept-left g n input output rest name (While e) stmts outer vars h))
kept-turn g n input output rest name (Counting backwards last) stmts outer vars h =
    let t = task_at g n input output rest (Loop name (Counting backwards last) stmts) outer vars in
    kept-if (steps.has_turn backwards last (steps.counted_so_far vars)) t (gone_to stmts (with_vars t (steps.counted_on t backwards vars))) (steps.loop_left (Counting backwards last) t)
    (let k = kept-gone stmts (with_vars t (steps.counted_on t backwards vars)) h in record { proper = k.proper; same = k.same })
    (kept-left g n input output rest name (Counting backwards last) stmts outer vars h)

kept-behind : (g : Setting) (n : ℕ) (input : List ℤ) (output : List ℕ) (rest : PStmts) (place : Around) (outer : List PFrame) (vars : Variables) →
    IsStack place outer → Kept (task_at g n input output rest place outer vars) (stepped_behind place (task_at g n input output rest place outer vars))
kept-behind g n input output rest (OwnBody handlers taken) outer vars h = record { proper = h; same = refl }
kept-behind g n input output rest (Block handlers) outer vars h = record { proper = h; same = refl }
kept-behind g n input output rest (Handling x) outer vars h = record { proper = h; same = refl }
kept-behind g n input output rest (Loop name turns stmts) outer vars h = kept-turn g n input output rest name turns stmts outer vars h
kept-behind g n input output rest (Opened caller formals pending) outer vars h = record { proper = h; same = refl }

kept-with : (rest : PStmts) (t : Task) → IsProper t → Kept t (stepped_with rest (place_of t) t)
kept-with no_stmt t p = kept-behind t.setting t.number t.input t.output (rest_of t) (place_of t) (outer_of t) (vars_of t) p
kept-with (stmt_then s behind) t p = kept-stepped_at s behind t p

kept-by : (stand : Stand) (t : Task) → IsProper t → Kept t (stepped_by stand t)
kept-by Steps t p = kept-with (rest_of t) t p
kept-by (Raises x) t p = kept-raised x t p
kept-by (At offer) t p = kept-itself t p

-- ---- what a task stands at

rests-at : (stand : Stand) → steps_at stand ≡ true → offered stand ≡ offers.Nothing
rests-at Steps h = refl
rests-at (Raises x) h = refl
rests-at (At offer) h = absurd (true≢false (sym h))

-- no statement offers an end
is_statement : offers.Offer → Bool
is_statement offers.Nothing = true
is_statement (offers.Calls form e i) = true
is_statement (offers.Waits choices) = true
is_statement offers.Finishes = false
is_statement offers.Ends = false
is_statement (offers.Aborts x) = true

statement-call : (form : CallForm) (r : Result Called Raised) → is_statement (offered (call_stand form r)) ≡ true
unfolding is_statement
statement-call form (Ok c) = refl
statement-call form (Err x) = refl

statement-choices : (choices : List Choice) → is_statement (offered (choices_stand choices)) ≡ true
unfolding is_statement
statement-choices [] = refl
statement-choices (c ∷ choices) = refl

statement-wait : (has_else : Bool) (r : Result (List Open) Raised) → is_statement (offered (wait_stand has_else r)) ≡ true
unfolding is_statement
statement-wait has_else (Ok all) = statement-choices (choices_of has_else all)
statement-wait has_else (Err x) = refl

statement-name : (r : Result ℕ Raised) → is_statement (offered (name_stand r)) ≡ true
unfolding is_statement
statement-name (Ok x) = refl
statement-name (Err x) = refl

statement-at : (t : Task) (s : PStmt) → is_statement (offered (stand_at t s)) ≡ true
unfolding is_statement
statement-at t (SCall call s) = statement-call _ (called t.setting (vars_of t) call)
statement-at t (SConditional call more otherwise s) = statement-call _ (called t.setting (vars_of t) call)
statement-at t (STimed call more duration after s) = statement-call _ (called t.setting (vars_of t) call)
statement-at t (SAccept accept s) = statement-wait false (open_at t (SAccept accept s))
statement-at t (SWait alts otherwise s) = statement-wait (is_present otherwise) (open_at t (SWait alts otherwise s))
statement-at t (SAbort [] s) = refl
statement-at t (SAbort (callee ∷ callees) s) = statement-name (callee_task t.setting (vars_of t) callee)
statement-at t _ = refl

no-finish : (t : Task) (s : PStmt) → offered (stand_at t s) ≡ offers.Finishes → ⊥
unfolding is_statement
no-finish t s h = true≢false (sym (statement-at t s) ∙ ap is_statement h)

no-end : (t : Task) (s : PStmt) → offered (stand_at t s) ≡ offers.Ends → ⊥
unfolding is_statement
no-end t s h = true≢false (sym (statement-at t s) ∙ ap is_statement h)

-- ---- what others do to a task

kept-copied : (t : Task) (copies : Copies) (o : Option Raised) → IsProper t → Kept t (rendezvous.come_back t copies o)
kept-copied t copies None p = kept-changed _ t (with_vars t copies.vars) p refl refl
kept-copied t copies (Some x) p =
    let k = kept-raised x (with_vars t copies.vars) p in record { proper = k.proper; same = k.same }

kept-resumed : (o : Option Raised) (values : List Value) (t : Task) → IsProper t → Kept t (rendezvous.resumed_with o values t)
kept-resumed (Some x) values t p = kept-raised x t p
kept-resumed None values t p = kept-copied t (rendezvous.copies_of t values) (rendezvous.copies_of t values).stopped p

kept-else : (rest : PStmts) (t : Task) → IsProper t → Kept t (rendezvous.else_taken_in rest t)
kept-else no_stmt t p = kept-itself t p
kept-else (stmt_then (SConditional call more otherwise s) rest) t p = kept-gone _ t p
kept-else (stmt_then (SWait alts otherwise s) rest) t p = kept-gone _ t p
kept-else (stmt_then _ rest) t p = kept-itself t p

kept-delay : (k : ℕ) (rest : PStmts) (t : Task) → IsProper t → Kept t (rendezvous.delay_taken_in k rest t)
kept-delay k no_stmt t p = kept-itself t p
kept-delay k (stmt_then (STimed call more duration after s) rest) t p = kept-gone _ t p
kept-delay k (stmt_then (SWait alts otherwise s) rest) t p = kept-gone _ t p
kept-delay k (stmt_then _ rest) t p = kept-itself t p

kept-passed : (rest : PStmts) (t : Task) → IsProper t → Kept t (rendezvous.passed_in rest t)
kept-passed no_stmt t p = kept-itself t p
kept-passed (stmt_then (SAbort [] s) rest) t p = kept-itself t p
kept-passed (stmt_then (SAbort (callee ∷ callees) s) rest) t p = kept-gone _ t p
kept-passed (stmt_then _ rest) t p = kept-itself t p

-- an accept puts its caller in front
accepting-opened : (caller : ℕ) (o : Option Open) (values : List Value) (t : Task) → IsProper t →
    IsProper (rendezvous.alternative_opened caller o values t) × (callers_in (rendezvous.alternative_opened caller o values t).control ≡ caller ∷ callers_in t.control)
accepting-opened caller (Some (Accepts e i head body behind)) values t p = (p, refl)
accepting-opened caller (Some (Delays k duration stmts)) values t p = (p, refl)
accepting-opened caller (Some Terminates) values t p = (p, refl)
accepting-opened caller None values t p = (p, refl)

-- the end of a rendezvous drops its caller
going : (o : Option Raised) (t : Task) → IsProper t → Kept t (rendezvous.going_on o t)
going None t p = kept-gone (rest_of t) t p
going (Some x) t p = kept-raised x t p

finishing : (g : Setting) (n : ℕ) (input : List ℤ) (output : List ℕ) (rest : PStmts) (place : Around) (outer : List PFrame) (vars : Variables) →
    IsStack place outer → offer_of (task_at g n input output rest place outer vars) ≡ offers.Finishes →
    (c : ℕ) × IsProper (rendezvous.finished (task_at g n input output rest place outer vars)) ×
    ((caller_at place ++ callers_among outer) ≡ c ∷ callers_in (rendezvous.finished (task_at g n input output rest place outer vars)).control)
finishing g n input output (stmt_then s rest) place outer vars p h = absurd (no-finish (task_at g n input output (stmt_then s rest) place outer vars) s h)
finishing g n input output no_stmt (OwnBody handlers taken) outer vars p h = let e : ◌≡◌ {A = offers.Offer} offers.Ends offers.Finishes = h in absurd (cc)
finishing g n input output no_stmt (Block handlers) outer vars p h = let e : ◌≡◌ {A = offers.Offer} offers.Nothing offers.Finishes = h in absurd (cc)
finishing g n input output no_stmt (Handling x) outer vars p h = let e : ◌≡◌ {A = offers.Offer} offers.Nothing offers.Finishes = h in absurd (cc)
finishing g n input output no_stmt (Loop name turns stmts) outer vars p h = let e : ◌≡◌ {A = offers.Offer} offers.Nothing offers.Finishes = h in absurd (cc)
finishing g n input output no_stmt (Opened caller formals pending) [] vars p h = absurd p
finishing g n input output no_stmt (Opened caller formals pending) (part ∷ parts) vars p h =
    let k = going pending (task_at g n input output part.rest part.place parts (without_own (Opened caller formals pending) vars)) p in
    (caller, k.proper, ap (λ cs. caller ∷ cs) (sym k.same))

ending : (g : Setting) (n : ℕ) (input : List ℤ) (output : List ℕ) (rest : PStmts) (place : Around) (outer : List PFrame) (vars : Variables) →
    IsStack place outer → offer_of (task_at g n input output rest place outer vars) ≡ offers.Ends → (caller_at place ++ callers_among outer) ≡ []
ending g n input output (stmt_then s rest) place outer vars p h = absurd (no-end (task_at g n input output (stmt_then s rest) place outer vars) s h)
ending g n input output no_stmt (OwnBody handlers taken) outer vars p h = ap callers_among p
ending g n input output no_stmt (Block handlers) outer vars p h = let e : ◌≡◌ {A = offers.Offer} offers.Nothing offers.Ends = h in absurd (cc)
ending g n input output no_stmt (Handling x) outer vars p h = let e : ◌≡◌ {A = offers.Offer} offers.Nothing offers.Ends = h in absurd (cc)
ending g n input output no_stmt (Loop name turns stmts) outer vars p h = let e : ◌≡◌ {A = offers.Offer} offers.Nothing offers.Ends = h in absurd (cc)
ending g n input output no_stmt (Opened caller formals pending) outer vars p h = let e : ◌≡◌ {A = offers.Offer} offers.Finishes offers.Ends = h in absurd (cc)

-- Each task keeps the rules.
pub lawful : IsLawful task_ops IsProper
lawful = record {
  rests = λ t h. rests-at (stand_of t) h;
  stepped = λ t p h. keeps t (stepped t) (kept-by (stand_of t) t p);
  resumed = λ acceptor t other p. keeps t (rendezvous.resumed acceptor t) (kept-resumed (rendezvous.pending_of acceptor) (rendezvous.finals_of acceptor) t p);
  raised = λ t p. keeps t (rendezvous.call_failed t) (kept-raised raised.Tasking t p);
  took_else = λ t p. keeps t (rendezvous.took_else t) (kept-else (rest_of t) t p);
  took_delay = λ k t p. keeps t (rendezvous.took_delay k t) (kept-delay k (rest_of t) t p);
  passed = λ t p. keeps t (rendezvous.past_name t) (kept-passed (rest_of t) t p);
  accepted = λ e i c caller t other p h. accepting-opened c (alternative_for t e i) (values_handed caller) t p;
  finished = λ t p h. finishing t.setting t.number t.input t.output (rest_of t) (place_of t) (outer_of t) (vars_of t) p h;
  ended = λ t p h. ending t.setting t.number t.input t.output (rest_of t) (place_of t) (outer_of t) (vars_of t) p h;
}
