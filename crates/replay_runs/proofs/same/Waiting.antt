-- What a renaming of ids does to calls, accepts and waits, and to what a task stands at (9.5, 9.7, 9.10).
use Rattle.std.proofs.Common.{◌++◌, ◌+◌, ◌==◌, ◌∙◌, ◌∷◌, ◌≡◌, Bool, Err, List, None, Ok, Option, Result, Some, [], ap, false, if◌then◌else◌, map, option_map, refl, true, ℕ, ℤ}
use Rattle.std.specs.List.{cons_option, filter_map}
use Rattle.ada_tree.specs.PlainExpr.{PExpr}
use Rattle.ada_tree.specs.PlainStmt.{AAccept, ADelay, ATerminate, PAccept, PAltKind, PAlts, PCall, PCallee, PHead, PMaybe, PStmt, PStmts, SAbort, SAccept, SAssign, SBlock, SCall, SCase, SConditional, SDelay, SExit, SGet, SIf, SLoop, SNewLine, SNull, SPut, SPutLine, SRaise, STimed, SWait, absent, accepting, alt_then, alternative, no_alt, no_stmt, present, stmt_then}
use Rattle.ada_tree.specs.TypeTable.{TypeTable}
use Rattle.ada_tree.specs.declared.statements.ParMode.{ParMode}
use Rattle.ada_tree.specs.declared.statements.ParMode.TheVariants.{Both, Give, Take}
use Rattle.ada_static_rules.specs.Sites.{is_present}
use Rattle.event_machine.specs.declared.CallForm.{CallForm}
use Rattle.event_machine.specs.declared.Choice.{Choice}
use Rattle.ada_value.specs.Evaluating.{evaluated}
use Rattle.ada_value.specs.Values.{and_then, checked, truth_limits}
use Rattle.ada_value.specs.Variables.{Variables}
use Rattle.ada_value.specs.declared.values.Raised.{Raised}
use Rattle.ada_value.specs.declared.values.Value.{Value}
use Rattle.task_model.specs.Calls.{Called, call_in, call_of, called, called_by, called_with, opened_object, opened_objects, opening, opening_values, openings, values_handed}
use Rattle.task_model.specs.Frames.{Around, Block, Handling, Loop, Opened, OwnBody}
use Rattle.task_model.specs.Setting.{Lists, Setting, callee_task, entry_of, entry_parameters, lists_of, member_index}
use Rattle.task_model.specs.Stands.{At, Raises, Stand, Steps, abort_stand, call_stand, choices_stand, name_stand, stand_at, stand_behind, stand_of, stand_with, wait_stand}
use Rattle.task_model.specs.Tasks.{Task, place_of, rest_of, stmts_or_none, value_of, vars_of}
use Rattle.task_model.specs.Waits.{Accepts, Delays, Open, Terminates, accept_choice, accept_opened, accepting_at, accepts_member, alternative_for, alternatives_open, choices_of, delay_choice, delay_here, delay_part, delay_stmts, delays_with, else_choice, first_accepting, guard_holds, is_shorter, kind_opened, open_at, opened_if, terminate_choice}
use Rattle.task_model.specs.declared.parameters.FormalParameter.{FormalParameter}
use Rattle.replay_runs.proofs.same.Going.{or_none_same}
use Rattle.replay_runs.proofs.same.Lists.{any_mapped, find_mapped}
use Rattle.replay_runs.proofs.same.Names.{checked_kept, evaluated_same, kept, lower_same, then_kept, then_like}
use Rattle.replay_runs.proofs.same.Settings.{callee_same, entry_parameters_same, entry_same, lists_same, member_index_same}
use Rattle.replay_runs.specs.same.Renamed.{IsRenaming, renamed_accept, renamed_alt_kind, renamed_alts, renamed_args, renamed_call, renamed_callee, renamed_expr, renamed_head, renamed_maybe, renamed_stmt, renamed_stmts, renamed_types}
use Rattle.replay_runs.specs.same.inner.RenamedTasks.{renamed_around, renamed_lists, renamed_numbers, renamed_open, renamed_parameter, renamed_setting, renamed_state}
use Rattle.replay_runs.specs.same.inner.RenamedValues.{renamed_object, renamed_raised, renamed_result, renamed_vars}
use Rattle.event_machine.specs.declared.Choice.TheVariants as choice
use Rattle.event_machine.specs.declared.CallForm.TheVariants as form

module _ (f : ℕ → ℕ) (r : IsRenaming f) where
  filter_mapped : {A B : Type 0} (h : A → A) (k l : A → Option B) → ((x : A) → k (h x) ≡ l x) → (xs : List A) → filter_map k (map h xs) ≡ filter_map l xs
  filter_mapped h k l like [] = refl
  filter_mapped h k l like (x ∷ xs) = λ i. cons_option (like x i) (filter_mapped h k l like xs i)

  -- ---- calls

  opening_in : (types : TypeTable) (vars : Variables) (x : FormalParameter) (e : PExpr) →
      and_then (evaluated (renamed_types f types) (renamed_vars f vars) (renamed_expr f e)) (λ v. checked x.limits v) ≡ kept f r (and_then (evaluated types vars e) (λ v. checked x.limits v))
  opening_in types vars x e = then_kept f r (λ (v : Value). v) (evaluated types vars e) _ _ _ (evaluated_same f r types vars e) (λ v. checked_kept f r x.limits v)

  opening_same : (types : TypeTable) (vars : Variables) (x : FormalParameter) (mode : ParMode) (e : PExpr) →
      opening (renamed_types f types) (renamed_vars f vars) (renamed_parameter f x) mode (renamed_expr f e) ≡ kept f r (opening types vars x mode e)
  opening_same types vars x Take e = opening_in types vars x e
  opening_same types vars x Give e = ap Ok (lower_same f r types x.limits)
  opening_same types vars x Both e = opening_in types vars x e

  openings_same : (types : TypeTable) (vars : Variables) (xs : List FormalParameter) (es : List PExpr) →
      openings (renamed_types f types) (renamed_vars f vars) (map (renamed_parameter f) xs) (map (renamed_expr f) es) ≡ kept f r (openings types vars xs es)
  openings_same types vars [] es = refl
  openings_same types vars (x ∷ xs) [] = then_kept f r (λ (vs : List Value). vs) (openings types vars xs []) _ _ _ (openings_same types vars xs [])
      (λ vs. ap (λ v. Ok (v ∷ vs)) (lower_same f r types x.limits))
  openings_same types vars (x ∷ xs) (e ∷ es) = then_kept f r (λ (vs : List Value). vs) (opening types vars x x.mode e) _ _ _ (opening_same types vars x x.mode e)
      (λ v. then_kept f r (λ (vs : List Value). vs) (openings types vars xs es) _ _ _ (openings_same types vars xs es) (λ vs. refl))

  pub opened_same : (types : TypeTable) (xs : List FormalParameter) (vs : List Value) →
      opened_objects (renamed_types f types) (map (renamed_parameter f) xs) vs ≡ map (renamed_object f) (opened_objects types xs vs)
  opened_same types [] vs = refl
  opened_same types (x ∷ xs) [] = λ i. opened_object (renamed_parameter f x) (lower_same f r types x.limits i) ∷ opened_same types xs [] i
  opened_same types (x ∷ xs) (v ∷ vs) = ap (λ os. opened_object (renamed_parameter f x) v ∷ os) (opened_same types xs vs)

  module _ (names : List (List ℕ)) where
    called_with_same : (g : Setting) (vars : Variables) (e : ℕ) (lists : Lists) →
        called_with (renamed_setting f names g) (renamed_vars f vars) e (renamed_lists f lists) ≡ kept f r (called_with g vars e lists)
    called_with_same g vars e lists = then_kept f r (λ (c : Called). c) (member_index g vars e lists.index) _ _ _ (member_index_same f r names g vars e lists.index)
        (λ i. then_kept f r (λ (c : Called). c) (openings g.types vars (entry_parameters g e) lists.actuals) _ _ _
        (ap (λ xs. openings (renamed_types f g.types) (renamed_vars f vars) xs (map (renamed_expr f) lists.actuals)) (entry_parameters_same f r names g e)
        ∙ openings_same g.types vars (entry_parameters g e) lists.actuals) (λ vs. refl))

    owner_called : (g : Setting) (vars : Variables) (call : PCall) (e : ℕ) →
        called_with (renamed_setting f names g) (renamed_vars f vars) e (lists_of (renamed_numbers f g.numbers) e (option_map (renamed_args f) call.args))
        ≡ kept f r (called_with g vars e (lists_of g.numbers e call.args))
    owner_called g vars call e = ap (called_with (renamed_setting f names g) (renamed_vars f vars) e) (lists_same f r g.numbers e call.args)
        ∙ called_with_same g vars e (lists_of g.numbers e call.args)

    pub called_same : (g : Setting) (vars : Variables) (call : PCall) → called (renamed_setting f names g) (renamed_vars f vars) (renamed_call f call) ≡ kept f r (called g vars call)
    called_same g vars call = then_kept f r (λ (c : Called). c) (callee_task g vars call.task) _ _ _ (callee_same f r names g vars call.task)
        (λ owner. ap (λ e. called_with (renamed_setting f names g) (renamed_vars f vars) e (lists_of (renamed_numbers f g.numbers) e (option_map (renamed_args f) call.args)))
        (entry_same f r g.numbers owner call.entry.name) ∙ owner_called g vars call (entry_of g.numbers owner call.entry.name))

  call_of_same : (s : PStmt) → call_of (renamed_stmt f s) ≡ option_map (renamed_call f) (call_of s)
  call_of_same (SCall call s) = refl
  call_of_same (SConditional call more otherwise s) = refl
  call_of_same (STimed call more d later s) = refl
  call_of_same (SNull s) = refl
  call_of_same (SAssign x e s) = refl
  call_of_same (SDelay d s) = refl
  call_of_same (SExit w e s) = refl
  call_of_same (SRaise w s) = refl
  call_of_same (SAbort cs s) = refl
  call_of_same (SAccept a s) = refl
  call_of_same (SWait x o s) = refl
  call_of_same (SPut ps s) = refl
  call_of_same (SPutLine ps s) = refl
  call_of_same (SNewLine s) = refl
  call_of_same (SGet x s) = refl
  call_of_same (SIf x o s) = refl
  call_of_same (SCase e x o s) = refl
  call_of_same (SBlock b s) = refl
  call_of_same (SLoop w c k s) = refl

  pub call_in_same : (stmts : PStmts) → call_in (renamed_stmts f stmts) ≡ option_map (renamed_call f) (call_in stmts)
  call_in_same no_stmt = refl
  call_in_same (stmt_then s rest) = call_of_same s

  values_kept : (x : Result Called Raised) → opening_values (Some (kept f r x)) ≡ opening_values (Some x)
  values_kept (Ok c) = refl
  values_kept (Err x) = refl

  module _ (names : List (List ℕ)) where
    values_by : (g : Setting) (vars : Variables) (o : Option PCall) →
        opening_values (called_by (renamed_setting f names g) (renamed_vars f vars) (option_map (renamed_call f) o)) ≡ opening_values (called_by g vars o)
    values_by g vars None = refl
    values_by g vars (Some call) = ap (λ x. opening_values (Some x)) (called_same names g vars call) ∙ values_kept (called g vars call)

    pub handed_same : (t : Task) → values_handed (renamed_state f names t) ≡ values_handed t
    handed_same t = ap (λ o. opening_values (called_by (renamed_setting f names t.setting) (renamed_vars f (vars_of t)) o)) (call_in_same (rest_of t))
        ∙ values_by t.setting (vars_of t) (call_in (rest_of t))

    -- ---- open alternatives

    guard_same : (t : Task) (o : Option PExpr) → guard_holds (renamed_state f names t) (option_map (renamed_expr f) o) ≡ kept f r (guard_holds t o)
    guard_same t None = refl
    guard_same t (Some e) = then_kept f r (λ (b : Bool). b) (value_of t e) _ _ _ (evaluated_same f r t.setting.types (vars_of t) e)
        (λ v. then_kept f r (λ (b : Bool). b) (checked truth_limits v) _ _ _ (checked_kept f r truth_limits v) (λ w. refl))

    accepted_at : (t : Task) (head : PHead) (o : PMaybe) (behind : PStmts) (e : ℕ) →
        and_then (member_index (renamed_setting f names t.setting) (renamed_vars f (vars_of t)) e (option_map (renamed_expr f) head.index))
        (λ i. Ok (Accepts e i (renamed_head f head) (stmts_or_none (renamed_maybe f o)) (renamed_stmts f behind)))
        ≡ renamed_result f (renamed_open f) (and_then (member_index t.setting (vars_of t) e head.index) (λ i. Ok (Accepts e i head (stmts_or_none o) behind)))
    accepted_at t head o behind e = then_kept f r (renamed_open f) (member_index t.setting (vars_of t) e head.index) _ _ _ (member_index_same f r names t.setting (vars_of t) e head.index)
        (λ i. ap (λ k. Ok (Accepts e i (renamed_head f head) k (renamed_stmts f behind))) (or_none_same f r o))

    accept_same : (t : Task) (a : PAccept) (behind : PStmts) → accept_opened (renamed_state f names t) (renamed_accept f a) (renamed_stmts f behind)
        ≡ renamed_result f (renamed_open f) (accept_opened t a behind)
    accept_same t (accepting head o) behind =
        ap (λ e. and_then (member_index (renamed_setting f names t.setting) (renamed_vars f (vars_of t)) e (option_map (renamed_expr f) head.index))
        (λ i. Ok (Accepts e i (renamed_head f head) (stmts_or_none (renamed_maybe f o)) (renamed_stmts f behind)))) (entry_same f r t.setting.numbers t.number head.entry.name)
        ∙ accepted_at t head o behind (entry_of t.setting.numbers t.number head.entry.name)

    kind_same : (t : Task) (x : PAltKind) (k : ℕ) → kind_opened (renamed_state f names t) (renamed_alt_kind f x) k ≡ renamed_result f (renamed_open f) (kind_opened t x k)
    kind_same t (AAccept a stmts) k = accept_same t a stmts
    kind_same t (ADelay duration stmts) k = refl
    kind_same t ATerminate k = refl

  delays_same : (x : PAltKind) (k : ℕ) → delays_with (renamed_alt_kind f x) k ≡ delays_with x k
  delays_same (AAccept a stmts) k = refl
  delays_same (ADelay duration stmts) k = refl
  delays_same ATerminate k = refl

  opened_if_same : (b : Bool) (x x' : Result Open Raised) (y y' : Result (List Open) Raised) → x' ≡ renamed_result f (renamed_open f) x → y' ≡ renamed_result f (map (renamed_open f)) y →
      opened_if b x' y' ≡ renamed_result f (map (renamed_open f)) (opened_if b x y)
  opened_if_same true x x' y y' h k = then_like f r (renamed_open f) (map (renamed_open f)) x x' _ _ h (λ o. then_like f r (map (renamed_open f)) (map (renamed_open f)) y y' _ _ k (λ os. refl))
  opened_if_same false x x' y y' h k = k

  module _ (names : List (List ℕ)) where
    alternatives_same : (t : Task) (xs : PAlts) (k : ℕ) → alternatives_open (renamed_state f names t) (renamed_alts f xs) k ≡ renamed_result f (map (renamed_open f)) (alternatives_open t xs k)
    alternatives_same t no_alt k = refl
    alternatives_same t (alt_then (alternative guard x s) rest) k = then_kept f r (map (renamed_open f)) (guard_holds t guard) _ _ _ (guard_same names t guard)
        (λ b. opened_if_same b (kind_opened t x k) _ (alternatives_open t rest (delays_with x k)) _ (kind_same names t x k)
        (ap (alternatives_open (renamed_state f names t) (renamed_alts f rest)) (delays_same x k) ∙ alternatives_same t rest (delays_with x k)))

    pub open_same : (t : Task) (s : PStmt) → open_at (renamed_state f names t) (renamed_stmt f s) ≡ renamed_result f (map (renamed_open f)) (open_at t s)
    open_same t (SAccept a s) = then_like f r (renamed_open f) (map (renamed_open f)) (accept_opened t a no_stmt) _ _ _ (accept_same names t a no_stmt) (λ o. refl)
    open_same t (SWait xs o s) = alternatives_same t xs 0
    open_same t (SCall call s) = refl
    open_same t (SConditional call more otherwise s) = refl
    open_same t (STimed call more d later s) = refl
    open_same t (SNull s) = refl
    open_same t (SAssign x e s) = refl
    open_same t (SDelay d s) = refl
    open_same t (SExit w e s) = refl
    open_same t (SRaise w s) = refl
    open_same t (SAbort cs s) = refl
    open_same t (SPut ps s) = refl
    open_same t (SPutLine ps s) = refl
    open_same t (SNewLine s) = refl
    open_same t (SGet x s) = refl
    open_same t (SIf x o s) = refl
    open_same t (SCase e x o s) = refl
    open_same t (SBlock b s) = refl
    open_same t (SLoop w c k s) = refl

  -- ---- choices

  accept_choice_same : (o : Open) → accept_choice (renamed_open f o) ≡ accept_choice o
  accept_choice_same (Accepts e i head stmts behind) = refl
  accept_choice_same (Delays k duration stmts) = refl
  accept_choice_same Terminates = refl

  shorter_same : (bound : ℕ) (o : Open) → is_shorter bound (renamed_open f o) ≡ is_shorter bound o
  shorter_same bound (Accepts e i head stmts behind) = refl
  shorter_same bound (Delays k duration stmts) = refl
  shorter_same bound Terminates = refl

  delay_choice_same : (all : List Open) (o : Open) → delay_choice (map (renamed_open f) all) (renamed_open f o) ≡ delay_choice all o
  delay_choice_same all (Accepts e i head stmts behind) = refl
  delay_choice_same all (Delays k duration stmts) =
      ap (λ b. if b then None else Some (choice.Delay k)) (any_mapped (renamed_open f) (is_shorter duration) (is_shorter duration) (shorter_same duration) all)
  delay_choice_same all Terminates = refl

  terminate_choice_same : (o : Open) → terminate_choice (renamed_open f o) ≡ terminate_choice o
  terminate_choice_same (Accepts e i head stmts behind) = refl
  terminate_choice_same (Delays k duration stmts) = refl
  terminate_choice_same Terminates = refl

  choices_same : (has_else : Bool) (all : List Open) → choices_of has_else (map (renamed_open f) all) ≡ choices_of has_else all
  choices_same has_else all = λ i.
      filter_mapped (renamed_open f) accept_choice accept_choice accept_choice_same all i
      ++ (else_choice has_else
      ++ (filter_mapped (renamed_open f) (delay_choice (map (renamed_open f) all)) (delay_choice all) (delay_choice_same all) all i
      ++ filter_mapped (renamed_open f) terminate_choice terminate_choice terminate_choice_same all i))

  -- ---- what a task stands at

  -- what a task stands at, where an exception has another id
  abbrev pub renamed_stand : Stand → Stand
  renamed_stand Steps = Steps
  renamed_stand (Raises x) = Raises (renamed_raised f x)
  renamed_stand (At offer) = At offer

  call_kept : (form : CallForm) (x : Result Called Raised) → call_stand form (kept f r x) ≡ renamed_stand (call_stand form x)
  call_kept form (Ok c) = refl
  call_kept form (Err x) = refl

  choices_kept : (cs : List Choice) → choices_stand cs ≡ renamed_stand (choices_stand cs)
  choices_kept [] = refl
  choices_kept (c ∷ cs) = refl

  wait_kept : (has_else : Bool) (x : Result (List Open) Raised) → wait_stand has_else (renamed_result f (map (renamed_open f)) x) ≡ renamed_stand (wait_stand has_else x)
  wait_kept has_else (Ok all) = ap choices_stand (choices_same has_else all) ∙ choices_kept (choices_of has_else all)
  wait_kept has_else (Err x) = refl

  name_kept : (x : Result ℕ Raised) → name_stand (kept f r x) ≡ renamed_stand (name_stand x)
  name_kept (Ok n) = refl
  name_kept (Err x) = refl

  is_present_same : (o : PMaybe) → is_present (renamed_maybe f o) ≡ is_present o
  is_present_same absent = refl
  is_present_same (present stmts) = refl

  module _ (names : List (List ℕ)) where
    call_stands : (form : CallForm) (t : Task) (call : PCall) →
        call_stand form (called (renamed_setting f names t.setting) (renamed_vars f (vars_of t)) (renamed_call f call)) ≡ renamed_stand (call_stand form (called t.setting (vars_of t) call))
    call_stands form t call = ap (call_stand form) (called_same names t.setting (vars_of t) call) ∙ call_kept form (called t.setting (vars_of t) call)

    abort_stands : (t : Task) (callees : List PCallee) → abort_stand (renamed_state f names t) (map (renamed_callee f) callees) ≡ renamed_stand (abort_stand t callees)
    abort_stands t [] = refl
    abort_stands t (callee ∷ callees) = ap name_stand (callee_same f r names t.setting (vars_of t) callee) ∙ name_kept (callee_task t.setting (vars_of t) callee)

    stand_at_same : (t : Task) (s : PStmt) → stand_at (renamed_state f names t) (renamed_stmt f s) ≡ renamed_stand (stand_at t s)
    stand_at_same t (SCall call s) = call_stands form.Plain t call
    stand_at_same t (SConditional call more otherwise s) = call_stands form.Conditional t call
    stand_at_same t (STimed call more d later s) = call_stands form.Timed t call
    stand_at_same t (SAccept a s) = ap (wait_stand false) (open_same names t (SAccept a s)) ∙ wait_kept false (open_at t (SAccept a s))
    stand_at_same t (SWait xs o s) = (λ i. wait_stand (is_present_same o i) (open_same names t (SWait xs o s) i)) ∙ wait_kept (is_present o) (open_at t (SWait xs o s))
    stand_at_same t (SAbort cs s) = abort_stands t cs
    stand_at_same t (SNull s) = refl
    stand_at_same t (SAssign x e s) = refl
    stand_at_same t (SDelay d s) = refl
    stand_at_same t (SExit w e s) = refl
    stand_at_same t (SRaise w s) = refl
    stand_at_same t (SPut ps s) = refl
    stand_at_same t (SPutLine ps s) = refl
    stand_at_same t (SNewLine s) = refl
    stand_at_same t (SGet x s) = refl
    stand_at_same t (SIf x o s) = refl
    stand_at_same t (SCase e x o s) = refl
    stand_at_same t (SBlock b s) = refl
    stand_at_same t (SLoop w c k s) = refl

    stand_behind_same : (place : Around) → stand_behind (renamed_around f place) ≡ renamed_stand (stand_behind place)
    stand_behind_same (OwnBody handlers taken) = refl
    stand_behind_same (Block handlers) = refl
    stand_behind_same (Handling x) = refl
    stand_behind_same (Loop name turns stmts) = refl
    stand_behind_same (Opened caller xs pending) = refl

    stand_with_same : (t : Task) (rest : PStmts) (place : Around) → stand_with (renamed_state f names t) (renamed_stmts f rest) (renamed_around f place) ≡ renamed_stand (stand_with t rest place)
    stand_with_same t no_stmt place = stand_behind_same place
    stand_with_same t (stmt_then s rest) place = stand_at_same t s

    pub stand_same : (t : Task) → stand_of (renamed_state f names t) ≡ renamed_stand (stand_of t)
    stand_same t = stand_with_same t (rest_of t) (place_of t)

    -- ---- what is taken

    accepts_same : (e : ℕ) (i : ℤ) (o : Open) → accepts_member e i (renamed_open f o) ≡ accepts_member e i o
    accepts_same e i (Accepts n j head stmts behind) = refl
    accepts_same e i (Delays k duration stmts) = refl
    accepts_same e i Terminates = refl

    first_same : (e : ℕ) (i : ℤ) (x : Result (List Open) Raised) → first_accepting e i (renamed_result f (map (renamed_open f)) x) ≡ option_map (renamed_open f) (first_accepting e i x)
    first_same e i (Ok all) = find_mapped (renamed_open f) (accepts_member e i) (accepts_member e i) (accepts_same e i) all
    first_same e i (Err x) = refl

    accepting_same : (t : Task) (rest : PStmts) (e : ℕ) (i : ℤ) → accepting_at (renamed_state f names t) (renamed_stmts f rest) e i ≡ option_map (renamed_open f) (accepting_at t rest e i)
    accepting_same t no_stmt e i = refl
    accepting_same t (stmt_then s rest) e i = ap (first_accepting e i) (open_same names t s) ∙ first_same e i (open_at t s)

    pub alternative_same : (t : Task) (e : ℕ) (i : ℤ) → alternative_for (renamed_state f names t) e i ≡ option_map (renamed_open f) (alternative_for t e i)
    alternative_same t e i = accepting_same t (rest_of t) e i

  delay_part_same : (x : PAltKind) → delay_part (renamed_alt_kind f x) ≡ option_map (renamed_stmts f) (delay_part x)
  delay_part_same (AAccept a stmts) = refl
  delay_part_same (ADelay duration stmts) = refl
  delay_part_same ATerminate = refl

  delay_here_same : (o : Option PStmts) (b : Bool) (later : PStmts) → delay_here (option_map (renamed_stmts f) o) b (renamed_stmts f later) ≡ renamed_stmts f (delay_here o b later)
  delay_here_same (Some stmts) true later = refl
  delay_here_same (Some stmts) false later = refl
  delay_here_same None b later = refl

  pub delay_stmts_same : (xs : PAlts) (m k : ℕ) → delay_stmts (renamed_alts f xs) m k ≡ renamed_stmts f (delay_stmts xs m k)
  delay_stmts_same no_alt m k = refl
  delay_stmts_same (alt_then (alternative guard x s) rest) m k =
      (λ i. delay_here (delay_part_same x i) (k == m + 1) (delay_stmts (renamed_alts f rest) (delays_same x m i) k))
      ∙ (ap (delay_here (option_map (renamed_stmts f) (delay_part x)) (k == m + 1)) (delay_stmts_same rest (delays_with x m) k)
      ∙ delay_here_same (delay_part x) (k == m + 1) (delay_stmts rest (delays_with x m) k))
