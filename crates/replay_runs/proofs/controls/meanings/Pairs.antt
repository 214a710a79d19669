-- Pairs come to where they ask, and take local steps.
use Rattle.std.proofs.Common.{◌≡◌, ℕ, suc, ◌≤◌, ℤ, Bool, true, false, List, [], ◌∷◌, length, Result, Ok, Err, refl, sym, ap, ◌∙◌, true≢false, arith}
use Rattle.event_machine.specs.declared.CallForm.{CallForm}
use Rattle.event_machine.specs.declared.CallForm.TheVariants as form
use Rattle.event_machine.specs.declared.Choice.{Choice}
use Rattle.event_machine.specs.declared.Event.{Event}
use Rattle.ada_tree.specs.PlainStmt.{PStmt, SNull, SAssign, SDelay, SExit, SRaise, SAbort, SCall, SAccept, SWait, SConditional, STimed, SPut, SPutLine, SNewLine, SGet, SIf, SCase, SBlock, SLoop, PStmts, no_stmt, stmt_then}
use Rattle.ada_tree.specs.PlainProgram.{PProgram}
use Rattle.ada_value.specs.declared.values.Raised.{Raised}
use Rattle.ada_value.specs.Variables.{Variables}
use Rattle.task_model.specs.Setting.{callee_task}
use Rattle.task_model.specs.Frames.{Around, OwnBody, Block, Handling, Loop, Opened, PFrame, Control, control, settled_in}
use Rattle.task_model.specs.Tasks.{Task, vars_of}
use Rattle.task_model.specs.Calls.{Called, called}
use Rattle.task_model.specs.Waits.{Open, open_at, choices_of, is_present}
use Rattle.task_model.specs.Stands.{Stand, Steps, Raises, At, call_stand, choices_stand, wait_stand, name_stand, stand_at, stand_of, can_step, stepped}
use Rattle.task_laws.specs.statements.Blocks.{HasLeftBlocks, LeavesBlocks}
use Rattle.task_laws.specs.statements.Each.{HoldsOf}
use Rattle.task_laws.specs.statements.Laws.{ExitLeaves, StaysSo}
use Rattle.task_laws.proofs.statements.Blocks.{tasks_leave_blocks}
use Rattle.task_laws.proofs.statements.Carried.{stays-so, exits_stay}
use Rattle.task_laws.specs.translation.Images.{IsLocal, local_null, local_assign, local_delay, local_exit, local_raise, local_no_abort, local_put, local_put_line, local_new_line, local_get, local_if, local_case, local_block, local_loop}
use Rattle.task_laws.specs.translation.OldTexts.{only_names}
use Rattle.task_laws.specs.translation.Controls.{frame, task_in, Under, on_floor, in_block, in_handler, in_endless, in_while, in_count, inside, behind, Alike, alike, IsAtLocal, at_statement, at_turn, are_inside, StepAlike}
use Rattle.normal_laws.specs.runs.floors.Preludes.{Reaches, reaches_here, reaches_by}
use Rattle.normal_model.specs.RewrittenUnit.{RewrittenUnit}
use Rattle.normal_laws.specs.existence.Laws.{IsLegalOriginal}
use Rattle.normal_laws.specs.existence.statements.Laws.{NamesTasksSimply}
use Rattle.normal_laws.proofs.existence.statements.Normal.{names_stay_simple}
use Rattle.replay_runs.specs.translation.Rows.{replayed_rows}
use Rattle.replay_runs.specs.translation.Floors.{ReplayFloor, plain_body, handled_body, taken_handler, accept_body, AtAsking, unit_over, unit_left, empty_over, body_over, body_left, below_at}
use Rattle.replay_runs.specs.translation.Rows.{Replayed, replayed_none, replayed_then}
use Rattle.replay_runs.specs.controls.Asking.{unit_of_task}
use Rattle.replay_runs.specs.controls.translated.Laws.{form_and_text, unit_translation}
use Rattle.replay_runs.proofs.controls.translated.Starting.{legal_steps_alike}
use Rattle.replay_runs.proofs.controls.images.Catching.{images_come_to_ask}
use Rattle.replay_runs.proofs.controls.indices.Joined.{units_stay}
use Rattle.replay_runs.specs.controls.formed.Laws.{IsFormed}
use Rattle.replay_runs.specs.controls.indices.Laws.{KeepsUnit, StaysKept}
use Rattle.replay_runs.specs.controls.meanings.Pairs.{IsOfForm, Comes}
use Rattle.replay_runs.specs.controls.meanings.Laws.{LegalPairsStep, PairsCome, TasksStayOfForm}
use Rattle.replay_runs.proofs.controls.meanings.Numbered.{has_stepped, has_accepted, has_finished, has_resumed, has_took_else, has_took_delay, has_passed}

-- ---- alone

pub tasks_stay : TasksStayOfForm
tasks_stay p t σ own = record {
  stepped = kept (stepped σ) (has_stepped t σ own.number) blocks.stepped formed.stepped exits.stepped names.stepped variables.stepped;
  accepted = λ e i caller calling. kept _ (has_accepted t e i caller calling σ own.number) (blocks.accepted e i caller calling) (formed.accepted e i caller calling) (exits.accepted e i caller calling) (names.accepted e i caller calling) (variables.accepted e i caller calling);
  finished = kept _ (has_finished t σ own.number) blocks.finished formed.finished exits.finished names.finished variables.finished;
  resumed = λ acceptor. kept _ (has_resumed t acceptor σ own.number) (blocks.resumed acceptor) (formed.resumed acceptor) (exits.resumed acceptor) (names.resumed acceptor) (variables.resumed acceptor);
  raised = kept _ own.number blocks.raised formed.raised exits.raised names.raised variables.raised;
  took_else = kept _ (has_took_else t σ own.number) blocks.took_else formed.took_else exits.took_else names.took_else variables.took_else;
  took_delay = λ k. kept _ (has_took_delay t k σ own.number) (blocks.took_delay k) (formed.took_delay k) (exits.took_delay k) (names.took_delay k) (variables.took_delay k);
  passed = kept _ (has_passed t σ own.number) blocks.passed formed.passed exits.passed names.passed variables.passed;
}
  where
    blocks : LeavesBlocks σ
    blocks = tasks_leave_blocks σ own.left

    formed : StaysSo (IsFormed p t) σ
    formed = stays-so (IsFormed p t) (λ loops c d cs s i. absurd i) σ own.formed

    exits : StaysSo ExitLeaves σ
    exits = exits_stay σ own.exits

    names : StaysSo NamesTasksSimply σ
    names = names_stay_simple σ own.simply

    variables : StaysKept p t σ
    variables = units_stay p t σ own.variables

    kept : (u : Task) → u.number ≡ t → HasLeftBlocks u → HoldsOf (IsFormed p t) u → HoldsOf ExitLeaves u → HoldsOf NamesTasksSimply u → KeepsUnit p t u → IsOfForm p t u
    kept u n l f e s v = record { there = own.there; number = n; left = l; formed = f; exits = e; simply = s; variables = v }

-- ---- to where the image asks

pub left_there : (κ κ' : Task) → Reaches κ κ' → HasLeftBlocks κ → HasLeftBlocks κ'
left_there κ κ' (reaches_here _) h = h
left_there κ κ' (reaches_by _ _ can silent more) h = left_there (stepped κ) κ' more (tasks_leave_blocks κ h).stepped

pub pairs_come : PairsCome
pairs_come p events t σ κ pair = go (can_step σ) refl
  where
    go : (b : Bool) → can_step σ ≡ b → Comes p events t σ κ
    go true q = record { reached = κ; reach = reaches_here κ; based = record { pair = pair; asks = λ h. absurd (true≢false (sym q ∙ h)) } }
    go false q =
        let c = images_come_to_ask p events t σ κ pair.alike pair.left pair.own.simply q in
        record {
          reached = c.reached;
          reach = c.reach;
          based = record { pair = record { own = pair.own; alike = c.alike; left = left_there κ c.reached c.reach pair.left }; asks = λ h. c.asks };
        }

-- ---- local steps

-- what a task stands at there is no local step of a statement that does not synchronize
abbrev is_plain : Stand → Bool
is_plain Steps = true
is_plain (Raises x) = false
is_plain (At offer) = false

pub no-call : (f : CallForm) (r : Result Called Raised) → call_stand f r ≡ Steps → ⊥
no-call f (Ok c) e = true≢false (sym (ap is_plain e))
no-call f (Err x) e = true≢false (sym (ap is_plain e))

pub no-choice : (cs : List Choice) → choices_stand cs ≡ Steps → ⊥
no-choice [] e = true≢false (sym (ap is_plain e))
no-choice (c ∷ cs) e = true≢false (sym (ap is_plain e))

pub no-wait : (b : Bool) (r : Result (List Open) Raised) → wait_stand b r ≡ Steps → ⊥
no-wait b (Ok all) e = no-choice (choices_of b all) e
no-wait b (Err x) e = true≢false (sym (ap is_plain e))

pub no-name : (r : Result ℕ Raised) → name_stand r ≡ Steps → ⊥
no-name (Ok x) e = true≢false (sym (ap is_plain e))
no-name (Err x) e = true≢false (sym (ap is_plain e))

-- a statement with such a step does not synchronize
pub plain : (t : Task) (s : PStmt) → stand_at t s ≡ Steps → IsLocal s
plain t (SNull s) e = local_null s
plain t (SAssign x y s) e = local_assign x y s
plain t (SDelay d s) e = local_delay d s
plain t (SExit w x s) e = local_exit w x s
plain t (SRaise w s) e = local_raise w s
plain t (SAbort [] s) e = local_no_abort s
plain t (SAbort (x ∷ xs) s) e = absurd (no-name (callee_task t.setting (vars_of t) x) e)
plain t (SCall c s) e = absurd (no-call form.Plain (called t.setting (vars_of t) c) e)
plain t (SAccept a s) e = absurd (no-wait false (open_at t (SAccept a s)) e)
plain t (SWait x m s) e = absurd (no-wait (is_present m) (open_at t (SWait x m s)) e)
plain t (SConditional c l m s) e = absurd (no-call form.Conditional (called t.setting (vars_of t) c) e)
plain t (STimed c l d m s) e = absurd (no-call form.Timed (called t.setting (vars_of t) c) e)
plain t (SPut ps s) e = local_put ps s
plain t (SPutLine ps s) e = local_put_line ps s
plain t (SNewLine s) e = local_new_line s
plain t (SGet x s) e = local_get x s
plain t (SIf x m s) e = local_if x m s
plain t (SCase x y m s) e = local_case x y m s
plain t (SBlock b s) e = local_block b s
plain t (SLoop w x l s) e = local_loop w x l s

-- no more frames stand outside once those that are over are left
pub fewer : (o : List PFrame) (r : PStmts) (q : Around) (V : Variables) → length (settled_in o r q V).outer ≤ length o
fewer o (stmt_then s r) q V = omega arith
fewer [] no_stmt (OwnBody hs taken) V = omega arith
fewer [] no_stmt (Block hs) V = omega arith
fewer [] no_stmt (Handling x) V = omega arith
fewer [] no_stmt (Loop name turns l) V = omega arith
fewer [] no_stmt (Opened caller formals pending) V = omega arith
fewer (part ∷ parts) no_stmt (OwnBody hs taken) V = omega arith
fewer (part ∷ parts) no_stmt (Block hs) V = let k = fewer parts part.rest part.place V in omega (arith, k)
fewer (part ∷ parts) no_stmt (Handling x) V = let k = fewer parts part.rest part.place V in omega (arith, k)
fewer (part ∷ parts) no_stmt (Loop name turns l) V = omega arith
fewer (part ∷ parts) no_stmt (Opened caller formals pending) V = omega arith

-- so a frame that is over is not one of them
pub not-left : (o : List PFrame) (r : PStmts) (q : Around) (V : Variables) (place : Around) → settled_in o r q V ≡ control no_stmt place (frame r q ∷ o) V → ⊥
not-left o r q V place e =
    let k = fewer o r q V in
    let n : length (settled_in o r q V).outer ≡ suc (length o) = ap (λ (c : Control). length c.outer) e in omega (arith, k, n)

module _ (p : PProgram) (events : List Event) (t : ℕ) where
  abbrev u : RewrittenUnit
  u = unit_of_task p t

  -- at the end of a frame
  at-end : (k : ℕ) {q q' : Around} {o o' : List PFrame} {V V' : Variables} → ReplayFloor (replayed_rows (only_names (form_and_text p events)) u) u (below_at (replayed_rows (only_names (form_and_text p events)) u) u k) q o V q' o' V' →
      (n : ℕ) (i : List ℤ) (w : List ℕ) → stand_of (task_in (form_and_text p events).original n i w (control no_stmt q o V)) ≡ Steps → ⊥
  at-end k (plain_body s V V' ext per) n i w e = true≢false (sym (ap is_plain e))
  at-end k (handled_body s h h' hs hs' V V' im ext per) n i w e = true≢false (sym (ap is_plain e))
  at-end k (taken_handler s hs a V V' ext per) n i w e = true≢false (sym (ap is_plain e))
  at-end k (accept_body a) n i w e = true≢false (sym (ap is_plain e))

  at-frame : (n : ℕ) (i : List ℤ) (w : List ℕ) {q q' : Around} {o o' : List PFrame} {V V' : Variables} → Under (unit_translation p events t) q o V q' o' V' →
      HasLeftBlocks (task_in (form_and_text p events).original n i w (control no_stmt q o V)) → stand_of (task_in (form_and_text p events).original n i w (control no_stmt q o V)) ≡ Steps → IsAtLocal no_stmt q
  at-frame n i w (on_floor f) left e = absurd (at-end f.0 f.1 n i w e)
  at-frame n i w (in_block {p = q} {o = o} {V = V} hs hs' r r' h im v) left e = absurd (not-left o r q V (Block hs) left)
  at-frame n i w (in_handler {p = q} {o = o} {V = V} a r r' im v) left e = absurd (not-left o r q V (Handling a) left)
  at-frame n i w (in_endless name l l' r r' h im v) left e = at_turn name _ l
  at-frame n i w (in_while name a l l' r r' old h im v) left e = at_turn name _ l
  at-frame n i w (in_count name backwards last l l' r r' b old known h im v) left e = at_turn name _ l

  at-local : (n : ℕ) (i : List ℤ) (w : List ℕ) {r r' : PStmts} → Replayed (only_names (form_and_text p events)) u r r' → {q q' : Around} {o o' : List PFrame} {V V' : Variables} → Under (unit_translation p events t) q o V q' o' V' →
      HasLeftBlocks (task_in (form_and_text p events).original n i w (control r q o V)) → stand_of (task_in (form_and_text p events).original n i w (control r q o V)) ≡ Steps → IsAtLocal r q
  at-local n i w replayed_none v left e = at-frame n i w v left e
  at-local n i w (replayed_then s r r' old im) {q} {q'} {o} {o'} {V} v left e = at_statement s r q (plain (task_in (form_and_text p events).original n i w (control (stmt_then s r) q o V)) s e)

  -- behind its statements a task has no local step
  at-asking : (k n : ℕ) (i : List ℤ) (w : List ℕ) {c d : Control} → AtAsking (replayed_rows (only_names (form_and_text p events)) u) u (below_at (replayed_rows (only_names (form_and_text p events)) u) u k) c d →
      stand_of (task_in (form_and_text p events).original n i w c) ≡ Steps → ⊥
  at-asking k n i w (unit_over s hs taken V V' ext per) e = true≢false (sym (ap is_plain e))
  at-asking k n i w (unit_left s hs taken x V V' ext per) e = true≢false (sym (ap is_plain e))
  at-asking k n i w (empty_over a) e = true≢false (sym (ap is_plain e))
  at-asking k n i w (body_over a) e = true≢false (sym (ap is_plain e))
  at-asking k n i w (body_left x a) e = true≢false (sym (ap is_plain e))

  alike-step : IsLegalOriginal p → (σ κ : Task) → Alike (unit_translation p events t) σ κ → HasLeftBlocks σ → HoldsOf ExitLeaves σ → stand_of σ ≡ Steps → StepAlike (unit_translation p events t) σ κ
  alike-step h σ κ (alike n i w c d (inside r r' im v)) left exits e = legal_steps_alike p events h t σ κ (are_inside n i w r r' im v) (at-local n i w im v left e) exits
  alike-step h σ κ (alike n i w c d (behind c1 d1 a)) left exits e = absurd (at-asking a.0 n i w a.1 e)

pub legal_pairs_step : LegalPairsStep
legal_pairs_step p events h t σ κ based e =
    let pair = based.pair in
    let s = alike-step p events t h σ κ pair.alike pair.own.left pair.own.exits e in (
      s.steps_too,
      pairs_come p events t (stepped σ) (stepped κ) (record { own = (tasks_stay p t σ pair.own).stepped; alike = s.after; left = (tasks_leave_blocks κ pair.left).stepped }),
    )
