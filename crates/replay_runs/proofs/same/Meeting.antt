-- What a renaming of ids does to a task as a rendezvous starts and ends, its call fails, another part is taken, and an abort goes on (9.5, 9.7, 9.10, 11.5).
use Rattle.std.proofs.Common.{◌++◌, ◌∙◌, ◌∷◌, ◌≡◌, Bool, Err, List, None, Ok, Option, Result, Some, [], ap, false, map, option_map, refl, sym, true, ℕ, ℤ}
use Rattle.std.proofs.lemmas.List.{map-append}
use Rattle.ada_tree.specs.PlainExpr.{EAttribute, EAttributeOf, EBinary, EIndex, EInteger, EName, EParen, EUnary, PExpr}
use Rattle.ada_tree.specs.PlainStmt.{PCall, PCallee, PStmt, PStmts, SAbort, SAccept, SAssign, SBlock, SCall, SCase, SConditional, SDelay, SExit, SGet, SIf, SLoop, SNewLine, SNull, SPut, SPutLine, SRaise, STimed, SWait, no_stmt, stmt_then}
use Rattle.ada_tree.specs.declared.naming.NameId.{NameId}
use Rattle.ada_tree.specs.declared.naming.Span.{Span}
use Rattle.ada_tree.specs.declared.statements.ParMode.{ParMode}
use Rattle.ada_tree.specs.declared.statements.ParMode.TheVariants.{Both, Give, Take}
use Rattle.event_machine.specs.progress.Known.{part}
use Rattle.ada_value.specs.Variables.{Object, Variables, checked_for, object_named, value_there}
use Rattle.ada_value.specs.declared.values.Raised.{Raised}
use Rattle.ada_value.specs.declared.values.Value.{Value}
use Rattle.task_model.specs.Calls.{Called, Copies, call_in, called, comes_back, copied_back, copied_one, copies_on, finals_if, finals_in, opened_objects, stored_back, values_handed, variable_of}
use Rattle.task_model.specs.Frames.{Around, Block, Handling, Loop, Opened, OwnBody, PFrame, control, in_front}
use Rattle.task_model.specs.Rendezvous.{accepted, alternative_opened, behind_in, behind_of, body_closed, body_opened, call_ended, call_failed, come_back, copies_at, copies_of, delay_taken_at, delay_taken_in, else_taken_at, else_taken_in, finals_at, finals_of, finished, frame_left, going_on, more_at, more_in, names_left, passed_at, passed_in, past_name, pending_at, pending_of, resumed, resumed_with, returned, took_delay, took_else}
use Rattle.task_model.specs.Setting.{entry_parameters, lists_of, parameters_of}
use Rattle.task_model.specs.Tasks.{Task, entered, gone_to, outer_of, place_of, rest_of, stmts_or_none, vars_of, with_control, with_vars}
use Rattle.task_model.specs.Waits.{Accepts, Delays, Open, Terminates, alternative_for, delay_stmts}
use Rattle.task_model.specs.declared.parameters.FormalParameter.{FormalParameter}
use Rattle.replay_runs.proofs.same.Going.{entered_same, gone_same, in_front_same, or_none_same, own_dropped, raised_there_same}
use Rattle.replay_runs.proofs.same.Names.{checked_for_same, kept, set_value_same, then_kept}
use Rattle.replay_runs.proofs.same.Settings.{entry_parameters_same, lists_same, parameters_same}
use Rattle.replay_runs.proofs.same.Waiting.{alternative_same, call_in_same, called_same, delay_stmts_same, handed_same, opened_same}
use Rattle.replay_runs.specs.same.Renamed.{IsRenaming, no_span, renamed_call, renamed_callee, renamed_expr, renamed_id, renamed_stmt, renamed_stmts, renamed_types}
use Rattle.replay_runs.specs.same.inner.RenamedTasks.{renamed_around, renamed_copies, renamed_frame, renamed_open, renamed_parameter, renamed_state}
use Rattle.replay_runs.specs.same.inner.RenamedValues.{renamed_object, renamed_raised, renamed_result, renamed_vars}
use Rattle.ada_value.specs.declared.values.Raised.TheVariants as raised

module _ (f : ℕ → ℕ) (r : IsRenaming f) where
  -- ---- values that come back

  finals_if_same : (b : Bool) (o : Object) (rest rest' : List Value) → rest' ≡ rest → finals_if b (renamed_object f o) rest' ≡ finals_if b o rest
  finals_if_same true o rest rest' e = ap (λ vs. value_there o 0 ∷ vs) e
  finals_if_same false o rest rest' e = e

  finals_in_same : (xs : List FormalParameter) (vars : Variables) → finals_in (map (renamed_parameter f) xs) (renamed_vars f vars) ≡ finals_in xs vars
  finals_in_same [] vars = refl
  finals_in_same (x ∷ xs) [] = refl
  finals_in_same (x ∷ xs) (o ∷ vars) = finals_if_same (comes_back x.mode) o (finals_in xs vars) _ (finals_in_same xs vars)

  variable_same : (e : PExpr) → variable_of (renamed_expr f e) ≡ option_map (renamed_id f) (variable_of e)
  variable_same (EName id s) = refl
  variable_same (EInteger n s) = refl
  variable_same (EIndex w e s) = refl
  variable_same (EAttribute m w s) = refl
  variable_same (EAttributeOf m w e s) = refl
  variable_same (EParen e s) = refl
  variable_same (EUnary op e s) = refl
  variable_same (EBinary op l q s) = refl

  stored_by : (vars : Variables) (o : Option NameId) (v : Value) → stored_back (renamed_vars f vars) (option_map (renamed_id f) o) v ≡ renamed_result f (renamed_vars f) (stored_back vars o v)
  stored_by vars None v = refl
  stored_by vars (Some id) v = then_kept f r (renamed_vars f) (checked_for (object_named vars id) v) _ _ _ (checked_for_same f r vars id v) (λ w. ap Ok (set_value_same f r vars id 0 w))

  stored_same : (vars : Variables) (e : PExpr) (v : Value) → stored_back (renamed_vars f vars) (variable_of (renamed_expr f e)) v
      ≡ renamed_result f (renamed_vars f) (stored_back vars (variable_of e) v)
  stored_same vars e v = ap (λ o. stored_back (renamed_vars f vars) o v) (variable_same e) ∙ stored_by vars (variable_of e) v

  copies_same : (more more' : Variables → Copies) → ((vars : Variables) → more' (renamed_vars f vars) ≡ renamed_copies f (more vars)) → (vars : Variables) (x : Result Variables Raised) →
      copies_on more' (renamed_vars f vars) (renamed_result f (renamed_vars f) x) ≡ renamed_copies f (copies_on more vars x)
  copies_same more more' each vars (Ok changed) = each changed
  copies_same more more' each vars (Err x) = refl

  copied_value : (more more' : List Value → Variables → Copies) → ((vs : List Value) (vars : Variables) → more' vs (renamed_vars f vars) ≡ renamed_copies f (more vs vars)) →
      (e : PExpr) (v : Value) (vs : List Value) (vars : Variables) →
      copies_on (λ changed. more' vs changed) (renamed_vars f vars) (stored_back (renamed_vars f vars) (variable_of (renamed_expr f e)) v)
      ≡ renamed_copies f (copies_on (λ changed. more vs changed) vars (stored_back vars (variable_of e) v))
  copied_value more more' each e v vs vars = ap (copies_on (λ changed. more' vs changed) (renamed_vars f vars)) (stored_same vars e v)
      ∙ copies_same (more vs) (more' vs) (each vs) vars (stored_back vars (variable_of e) v)

  copied_one_same : (more more' : List Value → Variables → Copies) → ((vs : List Value) (vars : Variables) → more' vs (renamed_vars f vars) ≡ renamed_copies f (more vs vars)) →
      (mode : ParMode) (e : PExpr) (vs : List Value) (vars : Variables) → copied_one more' mode (renamed_expr f e) vs (renamed_vars f vars) ≡ renamed_copies f (copied_one more mode e vs vars)
  copied_one_same more more' each Take e vs vars = each vs vars
  copied_one_same more more' each Give e [] vars = refl
  copied_one_same more more' each Both e [] vars = refl
  copied_one_same more more' each Give e (v ∷ vs) vars = copied_value more more' each e v vs vars
  copied_one_same more more' each Both e (v ∷ vs) vars = copied_value more more' each e v vs vars

  copied_same : (xs : List FormalParameter) (es : List PExpr) (vs : List Value) (vars : Variables) →
      copied_back (map (renamed_parameter f) xs) (map (renamed_expr f) es) vs (renamed_vars f vars) ≡ renamed_copies f (copied_back xs es vs vars)
  copied_same [] es vs vars = refl
  copied_same (x ∷ xs) [] vs vars = refl
  copied_same (x ∷ xs) (e ∷ es) vs vars = copied_one_same (λ ws changed. copied_back xs es ws changed) (λ ws changed. copied_back (map (renamed_parameter f) xs) (map (renamed_expr f) es) ws changed)
      (λ ws changed. copied_same xs es ws changed) x.mode e vs vars

  -- ---- parts of statements

  behind_in_same : (stmts : PStmts) → behind_in (renamed_stmts f stmts) ≡ renamed_stmts f (behind_in stmts)
  behind_in_same no_stmt = refl
  behind_in_same (stmt_then s rest) = refl

  more_at_same : (s : PStmt) → more_at (renamed_stmt f s) ≡ renamed_stmts f (more_at s)
  more_at_same (SConditional call more otherwise s) = refl
  more_at_same (STimed call more d later s) = refl
  more_at_same (SNull s) = refl
  more_at_same (SAssign x e s) = refl
  more_at_same (SDelay d s) = refl
  more_at_same (SExit w e s) = refl
  more_at_same (SRaise w s) = refl
  more_at_same (SPut ps s) = refl
  more_at_same (SPutLine ps s) = refl
  more_at_same (SNewLine s) = refl
  more_at_same (SGet x s) = refl
  more_at_same (SIf x o s) = refl
  more_at_same (SCase e x o s) = refl
  more_at_same (SBlock b s) = refl
  more_at_same (SLoop w c k s) = refl
  more_at_same (SCall call s) = refl
  more_at_same (SAccept a s) = refl
  more_at_same (SWait x o s) = refl
  more_at_same (SAbort cs s) = refl

  more_in_same : (stmts : PStmts) → more_in (renamed_stmts f stmts) ≡ renamed_stmts f (more_in stmts)
  more_in_same no_stmt = refl
  more_in_same (stmt_then s rest) = more_at_same s

  pending_same : (place : Around) → pending_at (renamed_around f place) ≡ option_map (renamed_raised f) (pending_at place)
  pending_same (OwnBody handlers taken) = refl
  pending_same (Block handlers) = refl
  pending_same (Handling x) = refl
  pending_same (Loop name turns stmts) = refl
  pending_same (Opened caller xs pending) = refl

  finals_same : (place : Around) (vars : Variables) → finals_at (renamed_around f place) (renamed_vars f vars) ≡ finals_at place vars
  finals_same (OwnBody handlers taken) vars = refl
  finals_same (Block handlers) vars = refl
  finals_same (Handling x) vars = refl
  finals_same (Loop name turns stmts) vars = refl
  finals_same (Opened caller xs pending) vars = finals_in_same xs vars

  left_names_same : (cs : List PCallee) (s : Span) (behind : PStmts) → names_left (map (renamed_callee f) cs) no_span (renamed_stmts f behind) ≡ renamed_stmts f (names_left cs s behind)
  left_names_same [] s behind = refl
  left_names_same (c ∷ cs) s behind = refl

  module _ (names : List (List ℕ)) where
    abbrev again : Task → Task
    again t = renamed_state f names t

    abbrev stmts' : PStmts → PStmts
    stmts' = renamed_stmts f

    -- ---- a rendezvous starts

    body_opened_same : (caller : ℕ) (xs : List FormalParameter) (its behind : PStmts) (vs : List Value) (t : Task) →
        body_opened caller (map (renamed_parameter f) xs) (stmts' its) (stmts' behind) vs (again t) ≡ again (body_opened caller xs its behind vs t)
    body_opened_same caller xs its behind vs t = λ i. with_control (again t)
        (control (stmts' its) (Opened caller (map (renamed_parameter f) xs) None)
        (record { rest = rest_same i; place = renamed_around f (place_of t) } ∷ map (renamed_frame f) (outer_of t)) (vars_same i))
      where
        rest_same : in_front (stmts' behind) (behind_in (stmts' (rest_of t))) ≡ stmts' (in_front behind (behind_of t))
        rest_same = ap (in_front (stmts' behind)) (behind_in_same (rest_of t)) ∙ in_front_same f r behind (behind_of t)

        vars_same : opened_objects (renamed_types f t.setting.types) (map (renamed_parameter f) xs) vs ++ renamed_vars f (vars_of t)
            ≡ renamed_vars f (opened_objects t.setting.types xs vs ++ vars_of t)
        vars_same = ap (λ os. os ++ renamed_vars f (vars_of t)) (opened_same f r t.setting.types xs vs) ∙ sym (map-append (renamed_object f) (opened_objects t.setting.types xs vs) (vars_of t))

    opened_by : (caller : ℕ) (o : Option Open) (vs : List Value) (t : Task) → alternative_opened caller (option_map (renamed_open f) o) vs (again t) ≡ again (alternative_opened caller o vs t)
    opened_by caller None vs t = body_opened_same caller [] no_stmt no_stmt vs t
    opened_by caller (Some Terminates) vs t = body_opened_same caller [] no_stmt no_stmt vs t
    opened_by caller (Some (Delays k duration stmts)) vs t = body_opened_same caller [] no_stmt no_stmt vs t
    opened_by caller (Some (Accepts e i head its behind)) vs t =
        ap (λ xs. body_opened caller xs (stmts' its) (stmts' behind) vs (again t)) (parameters_same f r t.setting.types head.formals)
        ∙ body_opened_same caller (parameters_of t.setting.types head.formals) its behind vs t

    pub accepted_same : (e : ℕ) (i : ℤ) (c : ℕ) (calling t : Task) → accepted e i c (again calling) (again t) ≡ again (accepted e i c calling t)
    accepted_same e i c calling t = (λ j. alternative_opened c (alternative_same f r names t e i j) (handed_same f r names calling j) (again t))
        ∙ opened_by c (alternative_for t e i) (values_handed calling) t

    -- ---- a rendezvous ends

    going_same : (o : Option Raised) (t : Task) → going_on (option_map (renamed_raised f) o) (again t) ≡ again (going_on o t)
    going_same None t = gone_same f r names (rest_of t) t
    going_same (Some x) t = raised_there_same f r names x t

    frame_left_same : (t : Task) (parts : List PFrame) → frame_left (again t) (map (renamed_frame f) parts) ≡ again (frame_left t parts)
    frame_left_same t [] = refl
    frame_left_same t (part ∷ parts) = ap (λ vs. with_control (again t) (control (stmts' part.rest) (renamed_around f part.place) (map (renamed_frame f) parts) vs))
        (own_dropped f r (place_of t) (vars_of t))

    closed_same : (place : Around) (t : Task) → body_closed (renamed_around f place) (again t) ≡ again (body_closed place t)
    closed_same (OwnBody handlers taken) t = refl
    closed_same (Block handlers) t = refl
    closed_same (Handling x) t = refl
    closed_same (Loop name turns stmts) t = refl
    closed_same (Opened caller xs pending) t = ap (going_on (option_map (renamed_raised f) pending)) (frame_left_same t (outer_of t)) ∙ going_same pending (frame_left t (outer_of t))

    pub finished_same : (t : Task) → finished (again t) ≡ again (finished t)
    finished_same t = closed_same (place_of t) t

    come_back_same : (t : Task) (x : Copies) (o : Option Raised) → come_back (again t) (renamed_copies f x) (option_map (renamed_raised f) o) ≡ again (come_back t x o)
    come_back_same t x None =
        (λ i. entered (more_in_same (rest_of t) i) (behind_in_same (rest_of t) i) (with_vars (again t) (renamed_vars f x.vars)))
        ∙ entered_same f r names (more_in (rest_of t)) (behind_of t) (with_vars t x.vars)
    come_back_same t x (Some y) = raised_there_same f r names y (with_vars t x.vars)

    ended_same : (t : Task) (call : PCall) (x : Result Called Raised) (vs : List Value) → call_ended (again t) (renamed_call f call) (kept f r x) vs ≡ renamed_copies f (call_ended t call x vs)
    ended_same t call (Ok c) vs =
        (λ i. copied_back (entry_parameters_same f r names t.setting c.entry i) (lists_same f r t.setting.numbers c.entry call.args i).actuals vs (renamed_vars f (vars_of t)))
        ∙ copied_same (entry_parameters t.setting c.entry) (lists_of t.setting.numbers c.entry call.args).actuals vs (vars_of t)
    ended_same t call (Err x) vs = refl

    copies_at_same : (t : Task) (o : Option PCall) (vs : List Value) → copies_at (again t) (option_map (renamed_call f) o) vs ≡ renamed_copies f (copies_at t o vs)
    copies_at_same t None vs = refl
    copies_at_same t (Some call) vs = ap (λ x. call_ended (again t) (renamed_call f call) x vs) (called_same f r names t.setting (vars_of t) call)
        ∙ ended_same t call (called t.setting (vars_of t) call) vs

    copies_of_same : (t : Task) (vs : List Value) → copies_of (again t) vs ≡ renamed_copies f (copies_of t vs)
    copies_of_same t vs = ap (λ o. copies_at (again t) o vs) (call_in_same f r (rest_of t)) ∙ copies_at_same t (call_in (rest_of t)) vs

    returned_same : (vs : List Value) (t : Task) → returned vs (again t) ≡ again (returned vs t)
    returned_same vs t = ap (λ (x : Copies). come_back (again t) x x.stopped) (copies_of_same t vs) ∙ come_back_same t (copies_of t vs) (copies_of t vs).stopped

    resumed_by : (o : Option Raised) (vs : List Value) (t : Task) → resumed_with (option_map (renamed_raised f) o) vs (again t) ≡ again (resumed_with o vs t)
    resumed_by (Some x) vs t = raised_there_same f r names x t
    resumed_by None vs t = returned_same vs t

    pub resumed_same : (acceptor t : Task) → resumed (again acceptor) (again t) ≡ again (resumed acceptor t)
    resumed_same acceptor t = (λ i. resumed_with (pending_same (place_of acceptor) i) (finals_same (place_of acceptor) (vars_of acceptor) i) (again t))
        ∙ resumed_by (pending_of acceptor) (finals_of acceptor) t

    pub failed_same : (t : Task) → call_failed (again t) ≡ again (call_failed t)
    failed_same t = raised_there_same f r names raised.Tasking t

    -- ---- other parts of calls and waits

    else_at_same : (s : PStmt) (behind : PStmts) (t : Task) → else_taken_at (renamed_stmt f s) (stmts' behind) (again t) ≡ again (else_taken_at s behind t)
    else_at_same (SConditional call more otherwise s) behind t = entered_same f r names otherwise behind t
    else_at_same (SWait x o s) behind t = ap (λ k. entered k (stmts' behind) (again t)) (or_none_same f r o) ∙ entered_same f r names (stmts_or_none o) behind t
    else_at_same (SNull s) behind t = refl
    else_at_same (SAssign x e s) behind t = refl
    else_at_same (SDelay d s) behind t = refl
    else_at_same (SExit w e s) behind t = refl
    else_at_same (SRaise w s) behind t = refl
    else_at_same (SPut ps s) behind t = refl
    else_at_same (SPutLine ps s) behind t = refl
    else_at_same (SNewLine s) behind t = refl
    else_at_same (SGet x s) behind t = refl
    else_at_same (SIf x o s) behind t = refl
    else_at_same (SCase e x o s) behind t = refl
    else_at_same (SBlock b s) behind t = refl
    else_at_same (SLoop w c k s) behind t = refl
    else_at_same (SCall call s) behind t = refl
    else_at_same (STimed call more d later s) behind t = refl
    else_at_same (SAccept a s) behind t = refl
    else_at_same (SAbort cs s) behind t = refl

    else_in_same : (stmts : PStmts) (t : Task) → else_taken_in (stmts' stmts) (again t) ≡ again (else_taken_in stmts t)
    else_in_same no_stmt t = refl
    else_in_same (stmt_then s rest) t = else_at_same s rest t

    pub else_same : (t : Task) → took_else (again t) ≡ again (took_else t)
    else_same t = else_in_same (rest_of t) t

    delay_at_same : (k : ℕ) (s : PStmt) (behind : PStmts) (t : Task) → delay_taken_at k (renamed_stmt f s) (stmts' behind) (again t) ≡ again (delay_taken_at k s behind t)
    delay_at_same k (STimed call more d later s) behind t = entered_same f r names later behind t
    delay_at_same k (SWait x o s) behind t = ap (λ l. entered l (stmts' behind) (again t)) (delay_stmts_same f r x 0 k) ∙ entered_same f r names (delay_stmts x 0 k) behind t
    delay_at_same k (SNull s) behind t = refl
    delay_at_same k (SAssign x e s) behind t = refl
    delay_at_same k (SDelay d s) behind t = refl
    delay_at_same k (SExit w e s) behind t = refl
    delay_at_same k (SRaise w s) behind t = refl
    delay_at_same k (SPut ps s) behind t = refl
    delay_at_same k (SPutLine ps s) behind t = refl
    delay_at_same k (SNewLine s) behind t = refl
    delay_at_same k (SGet x s) behind t = refl
    delay_at_same k (SIf x o s) behind t = refl
    delay_at_same k (SCase e x o s) behind t = refl
    delay_at_same k (SBlock b s) behind t = refl
    delay_at_same k (SLoop w c l s) behind t = refl
    delay_at_same k (SCall call s) behind t = refl
    delay_at_same k (SConditional call more otherwise s) behind t = refl
    delay_at_same k (SAccept a s) behind t = refl
    delay_at_same k (SAbort cs s) behind t = refl

    delay_in_same : (k : ℕ) (stmts : PStmts) (t : Task) → delay_taken_in k (stmts' stmts) (again t) ≡ again (delay_taken_in k stmts t)
    delay_in_same k no_stmt t = refl
    delay_in_same k (stmt_then s rest) t = delay_at_same k s rest t

    pub delay_same : (k : ℕ) (t : Task) → took_delay k (again t) ≡ again (took_delay k t)
    delay_same k t = delay_in_same k (rest_of t) t

    -- ---- abort

    passed_at_same : (s : PStmt) (behind : PStmts) (t : Task) → passed_at (renamed_stmt f s) (stmts' behind) (again t) ≡ again (passed_at s behind t)
    passed_at_same (SAbort [] s) behind t = refl
    passed_at_same (SAbort (c ∷ cs) s) behind t = ap (λ k. gone_to k (again t)) (left_names_same cs s behind) ∙ gone_same f r names (names_left cs s behind) t
    passed_at_same (SNull s) behind t = refl
    passed_at_same (SAssign x e s) behind t = refl
    passed_at_same (SDelay d s) behind t = refl
    passed_at_same (SExit w e s) behind t = refl
    passed_at_same (SRaise w s) behind t = refl
    passed_at_same (SPut ps s) behind t = refl
    passed_at_same (SPutLine ps s) behind t = refl
    passed_at_same (SNewLine s) behind t = refl
    passed_at_same (SGet x s) behind t = refl
    passed_at_same (SIf x o s) behind t = refl
    passed_at_same (SCase e x o s) behind t = refl
    passed_at_same (SBlock b s) behind t = refl
    passed_at_same (SLoop w c k s) behind t = refl
    passed_at_same (SCall call s) behind t = refl
    passed_at_same (SConditional call more otherwise s) behind t = refl
    passed_at_same (STimed call more d later s) behind t = refl
    passed_at_same (SAccept a s) behind t = refl
    passed_at_same (SWait x o s) behind t = refl

    passed_in_same : (stmts : PStmts) (t : Task) → passed_in (stmts' stmts) (again t) ≡ again (passed_in stmts t)
    passed_in_same no_stmt t = refl
    passed_in_same (stmt_then s rest) t = passed_at_same s rest t

    pub past_same : (t : Task) → past_name (again t) ≡ again (past_name t)
    past_same t = passed_in_same (rest_of t) t
