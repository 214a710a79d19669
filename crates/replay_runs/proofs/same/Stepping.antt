-- What a renaming of ids does to the local steps of a task (5, 11.3, 14.3).
use Rattle.std.proofs.Common.{◌&&◌, ◌++◌, ◌+ℤ◌, ◌-ℤ◌, ◌||◌, ◌∙◌, ◌∷◌, ◌≡◌, Bool, List, None, Ok, Option, Some, [], ap, drop, if◌then◌else◌, map, option_map, pos, refl, ℕ, ℤ}
use Rattle.ada_tree.specs.PlainExpr.{PDrange, PExpr, RGiven, RMarked}
use Rattle.ada_tree.specs.PlainStmt.{LFor, LWhile, PArms, PBody, PCaseArms, PChoice, PMaybe, PPart, PScheme, PStmt, PStmts, PTarget, SAbort, SAccept, SAssign, SBlock, SCall, SCase, SConditional, SDelay, SExit, SGet, SIf, SLoop, SNewLine, SNull, SPut, SPutLine, SRaise, STimed, SWait, arm, arm_then, body, case_arm, case_arm_then, no_arm, no_case_arm, no_stmt, stmt_then}
use Rattle.ada_tree.specs.declared.naming.NameId.{NameId}
use Rattle.ada_tree.specs.declared.naming.Word.{Word}
use Rattle.ada_value.specs.Evaluating.{range_of}
use Rattle.ada_value.specs.Texts.{parts_output}
use Rattle.ada_value.specs.Values.{and_then, is_empty_range, lies_in, limits_named, position_of}
use Rattle.ada_value.specs.Variables.{Variables, checked_for, object_named, value_there}
use Rattle.ada_value.specs.declared.values.Limits.{Limits}
use Rattle.ada_value.specs.declared.values.Value.{Value}
use Rattle.ada_value.specs.declared.values.Value.TheVariants.{Number}
use Rattle.task_model.specs.Frames.{Around, Block, Counting, Endless, Handling, Loop, Opened, OwnBody, PFrame, Turns, While, brought_by, exited_in, settled, settled_in}
use Rattle.task_model.specs.Stands.{stepped_at, stepped_behind, stepped_with}
use Rattle.task_model.specs.Steps.{aim_at, aim_of, arm_taken, assign_step, assigned, block_step, case_step, case_taken, choice_end, choice_fits, choices_fit, condition, counted_on, counted_range, counted_so_far, counting_begun, exception_meant, exit_step, exit_test, exited, get_step, got, has_turn, if_step, left_in, line_end, loop_left, loop_parameter, loop_step, put_step, raise_step, range_checked, stored, target_object, turn_step}
use Rattle.task_model.specs.Tasks.{Task, entered, gone_to, outer_of, place_of, pushed, raised_there, stmts_or_none, value_of, vars_of, with_control, with_input, with_text, with_vars}
use Rattle.replay_runs.proofs.same.Going.{entered_same, exited_same, gone_same, handled_by_same, or_none_same, or_raised_kept, or_raised_like, pushed_same, raised_named_same, raised_there_same, settled_control, settled_same, turns_dropped}
use Rattle.replay_runs.proofs.same.Lists.{if_like}
use Rattle.replay_runs.proofs.same.Names.{checked_for_same, component_place_same, condition_same, evaluated_same, if_kept, kept, limits_named_same, limits_of_kind_same, parts_same, range_same, set_value_same, then_kept, value_at_same}
use Rattle.replay_runs.specs.same.Renamed.{IsRenaming, renamed_arms, renamed_body, renamed_case_arms, renamed_choice, renamed_drange, renamed_expr, renamed_id, renamed_maybe, renamed_part, renamed_scheme, renamed_stmt, renamed_stmts, renamed_target, renamed_word}
use Rattle.replay_runs.specs.same.inner.RenamedTasks.{KeepsTextsOf, names_for, renamed_around, renamed_frame, renamed_state, renamed_turns}
use Rattle.replay_runs.specs.same.inner.RenamedValues.{renamed_object, renamed_raised, renamed_result, renamed_vars}
use Rattle.ada_value.specs.declared.values.Raised.TheVariants as raised

module _ (f : ℕ → ℕ) (r : IsRenaming f) (names : List (List ℕ)) where
  abbrev again : Task → Task
  again t = renamed_state f names t

  abbrev stmts' : PStmts → PStmts
  stmts' = renamed_stmts f

  value_same : (t : Task) (e : PExpr) → value_of (again t) (renamed_expr f e) ≡ kept f r (value_of t e)
  value_same t e = evaluated_same f r t.setting.types (vars_of t) e

  test_same : (t : Task) (e : PExpr) → condition (again t) (renamed_expr f e) ≡ kept f r (condition t e)
  test_same t e = condition_same f r t.setting.types (vars_of t) e

  -- ---- targets

  aim_same : (t : Task) (id : NameId) (o : Option PExpr) →
      aim_at (again t) (object_named (renamed_vars f (vars_of t)) (renamed_id f id)) (option_map (renamed_expr f) o) ≡ kept f r (aim_at t (object_named (vars_of t) id) o)
  aim_same t id None = refl
  aim_same t id (Some e) = then_kept f r (λ (n : ℕ). n) (value_of t e) _ _ _ (value_same t e) (λ v. component_place_same f r (vars_of t) id v)

  target_same : (t : Task) (x : PTarget) → aim_of (again t) (renamed_target f x) ≡ kept f r (aim_of t x)
  target_same t x = aim_same t x.name.name x.index

  stored_same : (t : Task) (x : PTarget) (k : ℕ) (v : Value) → stored (again t) (renamed_target f x) k v ≡ renamed_result f (renamed_vars f) (stored t x k v)
  stored_same t x k v = then_kept f r (renamed_vars f) (checked_for (target_object t x) v) _ _ _ (checked_for_same f r (vars_of t) x.name.name v)
      (λ w. ap Ok (set_value_same f r (vars_of t) x.name.name k w))

  -- ---- assignment and GET

  assigned_same : (t : Task) (x : PTarget) (e : PExpr) → assigned (again t) (renamed_target f x) (renamed_expr f e) ≡ renamed_result f (renamed_vars f) (assigned t x e)
  assigned_same t x e = then_kept f r (renamed_vars f) (aim_of t x) _ _ _ (target_same t x)
      (λ k. then_kept f r (renamed_vars f) (value_of t e) _ _ _ (value_same t e) (λ v. stored_same t x k v))

  assign_same : (x : PTarget) (e : PExpr) (behind : PStmts) (t : Task) → assign_step (renamed_target f x) (renamed_expr f e) (stmts' behind) (again t) ≡ again (assign_step x e behind t)
  assign_same x e behind t = or_raised_like f r names (renamed_vars f) (λ vars. gone_to behind (with_vars t vars)) (λ vars. gone_to (stmts' behind) (with_vars (again t) vars)) t
      (assigned t x e) _ (assigned_same t x e) (λ vars. gone_same f r names behind (with_vars t vars))

  got_same : (x : PTarget) (behind : PStmts) (t : Task) (k : ℕ) (zs : List ℤ) → got (renamed_target f x) (stmts' behind) (again t) k zs ≡ again (got x behind t k zs)
  got_same x behind t k [] = raised_there_same f r names raised.End t
  got_same x behind t k (z ∷ rest) = or_raised_like f r names (renamed_vars f) (λ vars. gone_to behind (with_vars (with_input t rest) vars))
      (λ vars. gone_to (stmts' behind) (with_vars (with_input (again t) rest) vars)) (with_input t rest) (stored t x k (Number z)) _ (stored_same t x k (Number z))
      (λ vars. gone_same f r names behind (with_vars (with_input t rest) vars))

  get_same : (x : PTarget) (behind : PStmts) (t : Task) → get_step (renamed_target f x) (stmts' behind) (again t) ≡ again (get_step x behind t)
  get_same x behind t = or_raised_kept f r names (λ k. got x behind t k t.input) (λ k. got (renamed_target f x) (stmts' behind) (again t) k t.input) t (aim_of t x) _ (target_same t x)
      (λ k. got_same x behind t k t.input)

  -- ---- PUT

  put_same : (xs : List PPart) (closing : List ℕ) (behind : PStmts) (t : Task) → KeepsTextsOf f names t →
      put_step (map (renamed_part f) xs) closing (stmts' behind) (again t) ≡ again (put_step xs closing behind t)
  put_same xs closing behind t keeps = or_raised_kept f r names (λ text. gone_to behind (with_text t (text ++ closing))) (λ text. gone_to (stmts' behind) (with_text (again t) (text ++ closing))) t
      (parts_output t.setting.program.names t.setting.types (vars_of t) xs) _ (parts_same f r t.setting.program.names (names_for names t.setting.program.names) keeps t.setting.types (vars_of t) xs)
      (λ text. gone_same f r names behind (with_text t (text ++ closing)))

  -- ---- if and case

  branch_same : (behind : PStmts) (t : Task) (o : PMaybe) → entered (stmts_or_none (renamed_maybe f o)) (stmts' behind) (again t) ≡ again (entered (stmts_or_none o) behind t)
  branch_same behind t o = ap (λ k. entered k (stmts' behind) (again t)) (or_none_same f r o) ∙ entered_same f r names (stmts_or_none o) behind t

  arms_same : (t : Task) (arms : PArms) (otherwise : PMaybe) → arm_taken (again t) (renamed_arms f arms) (renamed_maybe f otherwise) ≡ renamed_result f (renamed_maybe f) (arm_taken t arms otherwise)
  arms_same t no_arm otherwise = refl
  arms_same t (arm_then (arm e stmts) rest) otherwise = then_kept f r (renamed_maybe f) (condition t e) _ _ _ (test_same t e)
      (λ b. if_like (renamed_result f (renamed_maybe f)) b b refl refl (arms_same t rest otherwise))

  if_same : (arms : PArms) (otherwise : PMaybe) (behind : PStmts) (t : Task) →
      if_step (renamed_arms f arms) (renamed_maybe f otherwise) (stmts' behind) (again t) ≡ again (if_step arms otherwise behind t)
  if_same arms otherwise behind t = or_raised_like f r names (renamed_maybe f) (λ branch. entered (stmts_or_none branch) behind t)
      (λ branch. entered (stmts_or_none branch) (stmts' behind) (again t)) t
      (arm_taken t arms otherwise) _ (arms_same t arms otherwise) (branch_same behind t)

  end_same : (t : Task) (o : Option PExpr) (a : Value) → choice_end (again t) (option_map (renamed_expr f) o) a ≡ kept f r (choice_end t o a)
  end_same t None a = refl
  end_same t (Some e) a = value_same t e

  fits_same : (t : Task) (v : Value) (c : PChoice) → choice_fits (again t) v (renamed_choice f c) ≡ kept f r (choice_fits t v c)
  fits_same t v c = then_kept f r (λ (b : Bool). b) (value_of t c.first) _ _ _ (value_same t c.first)
      (λ a. then_kept f r (λ (b : Bool). b) (choice_end t c.last a) _ _ _ (end_same t c.last a) (λ b. refl))

  one_fits_same : (t : Task) (v : Value) (cs : List PChoice) → choices_fit (again t) v (map (renamed_choice f) cs) ≡ kept f r (choices_fit t v cs)
  one_fits_same t v [] = refl
  one_fits_same t v (c ∷ rest) = then_kept f r (λ (b : Bool). b) (choice_fits t v c) _ _ _ (fits_same t v c) (λ b. if_like (kept f r) b b refl refl (one_fits_same t v rest))

  case_arms_same : (t : Task) (v : Value) (arms : PCaseArms) (others : PMaybe) →
      case_taken (again t) v (renamed_case_arms f arms) (renamed_maybe f others) ≡ renamed_result f (renamed_maybe f) (case_taken t v arms others)
  case_arms_same t v no_case_arm others = refl
  case_arms_same t v (case_arm_then (case_arm choices stmts) rest) others = then_kept f r (renamed_maybe f) (choices_fit t v choices) _ _ _ (one_fits_same t v choices)
      (λ b. if_like (renamed_result f (renamed_maybe f)) b b refl refl (case_arms_same t v rest others))

  case_same : (e : PExpr) (arms : PCaseArms) (others : PMaybe) (behind : PStmts) (t : Task) →
      case_step (renamed_expr f e) (renamed_case_arms f arms) (renamed_maybe f others) (stmts' behind) (again t) ≡ again (case_step e arms others behind t)
  case_same e arms others behind t = or_raised_like f r names (renamed_maybe f) (λ branch. entered (stmts_or_none branch) behind t)
      (λ branch. entered (stmts_or_none branch) (stmts' behind) (again t)) t
      (and_then (value_of t e) (λ v. case_taken t v arms others)) _
      (then_kept f r (renamed_maybe f) (value_of t e) _ _ _ (value_same t e) (λ v. case_arms_same t v arms others)) (branch_same behind t)

  -- ---- blocks, exit and raise

  block_same : (b : PBody) (behind : PStmts) (t : Task) → block_step (renamed_body f b) (stmts' behind) (again t) ≡ again (block_step b behind t)
  block_same (body stmts handlers) behind t = pushed_same f r names stmts (Block handlers) (vars_of t) behind t

  left_same : (w : Option Word) (t : Task) → exited (option_map (renamed_word f) w) (again t) ≡ again (exited w t)
  left_same w t = ap (with_control (again t)) (ap settled (exited_same f r w (outer_of t) (place_of t) (vars_of t)) ∙ settled_control f r (exited_in w (outer_of t) (place_of t) (vars_of t)))

  exit_test_same : (t : Task) (o : Option PExpr) → exit_test (again t) (option_map (renamed_expr f) o) ≡ kept f r (exit_test t o)
  exit_test_same t None = refl
  exit_test_same t (Some e) = test_same t e

  exit_same : (w : Option Word) (o : Option PExpr) (behind : PStmts) (t : Task) →
      exit_step (option_map (renamed_word f) w) (option_map (renamed_expr f) o) (stmts' behind) (again t) ≡ again (exit_step w o behind t)
  exit_same w o behind t = or_raised_kept f r names (λ b. if b then exited w t else gone_to behind t)
      (λ b. if b then exited (option_map (renamed_word f) w) (again t) else gone_to (stmts' behind) (again t)) t (exit_test t o) _ (exit_test_same t o)
      (λ b. if_like again b b refl (left_same w t) (gone_same f r names behind t))

  meant_same : (w : Option Word) (t : Task) → exception_meant (option_map (renamed_word f) w) (again t) ≡ renamed_raised f (exception_meant w t)
  meant_same (Some w) t = raised_named_same f r w.name
  meant_same None t = handled_by_same f r t.control

  raise_same : (w : Option Word) (t : Task) → raise_step (option_map (renamed_word f) w) (again t) ≡ again (raise_step w t)
  raise_same w t = ap (λ x. raised_there x (again t)) (meant_same w t) ∙ raised_there_same f r names (exception_meant w t) t

  -- ---- loops

  range_checked_kept : (mark x : Limits) → range_checked mark x ≡ kept f r (range_checked mark x)
  range_checked_kept mark x = if_kept f r (is_empty_range x || (lies_in mark x.first && lies_in mark x.last)) _ _ refl refl

  counted_same : (t : Task) (x : PDrange) → counted_range (again t) (renamed_drange f x) ≡ kept f r (counted_range t x)
  counted_same t (RGiven b) = range_same f r t.setting.types (vars_of t) (RGiven b)
  counted_same t (RMarked x) = then_kept f r (λ (l : Limits). l) (range_of t.setting.types (vars_of t) (RMarked x)) _ _ _ (range_same f r t.setting.types (vars_of t) (RMarked x))
      (λ l. ap (λ m. range_checked m l) (limits_named_same f r t.setting.types x.mark.name) ∙ range_checked_kept (limits_named t.setting.types x.mark.name) l)

  parameter_same : (t : Task) (w : Word) (k : ℕ) (z : ℤ) → loop_parameter (again t) (renamed_word f w) k z ≡ renamed_object f (loop_parameter t w k z)
  parameter_same t w k z = λ i. record {
    name = renamed_id f w.name;
    limits = limits_of_kind_same f r t.setting.types k i;
    index = None;
    values = value_at_same f r t.setting.types k z i ∷ [];
  }

  begun_same : (name : Option Word) (w : Word) (backwards : Bool) (stmts behind : PStmts) (t : Task) (x : Limits) →
      counting_begun (option_map (renamed_word f) name) (renamed_word f w) backwards (stmts' stmts) (stmts' behind) (again t) x ≡ again (counting_begun name w backwards stmts behind t x)
  begun_same name w backwards stmts behind t x = if_like again (is_empty_range x) (is_empty_range x) refl (gone_same f r names behind t)
      (ap (λ o. pushed (stmts' stmts) (Loop (option_map (renamed_word f) name) (Counting backwards (if backwards then x.first else x.last)) (stmts' stmts)) (o ∷ renamed_vars f (vars_of t))
      (stmts' behind) (again t)) (parameter_same t w x.kind (if backwards then x.last else x.first))
      ∙ pushed_same f r names stmts (Loop name (Counting backwards (if backwards then x.first else x.last)) stmts)
      (loop_parameter t w x.kind (if backwards then x.last else x.first) ∷ vars_of t) behind t)

  loop_same : (name : Option Word) (o : Option PScheme) (stmts behind : PStmts) (t : Task) →
      loop_step (option_map (renamed_word f) name) (option_map (renamed_scheme f) o) (stmts' stmts) (stmts' behind) (again t) ≡ again (loop_step name o stmts behind t)
  loop_same name None stmts behind t = pushed_same f r names stmts (Loop name Endless stmts) (vars_of t) behind t
  loop_same name (Some (LWhile e)) stmts behind t = or_raised_kept f r names
      (λ b. if b then pushed stmts (Loop name (While e) stmts) (vars_of t) behind t else gone_to behind t)
      (λ b. if b then pushed (stmts' stmts) (Loop (option_map (renamed_word f) name) (While (renamed_expr f e)) (stmts' stmts)) (renamed_vars f (vars_of t)) (stmts' behind)
      (again t) else gone_to (stmts' behind) (again t))
      t (condition t e) _ (test_same t e) (λ b. if_like again b b refl (pushed_same f r names stmts (Loop name (While e) stmts) (vars_of t) behind t) (gone_same f r names behind t))
  loop_same name (Some (LFor w backwards x)) stmts behind t = or_raised_kept f r names
      (λ l. counting_begun name w backwards stmts behind t l)
      (λ l. counting_begun (option_map (renamed_word f) name) (renamed_word f w) backwards (stmts' stmts) (stmts' behind) (again t) l)
      t (counted_range t x) _ (counted_same t x) (begun_same name w backwards stmts behind t)

  left_in_same : (turns : Turns) (outer : List PFrame) (vars : Variables) (t : Task) →
      left_in (renamed_turns f turns) (map (renamed_frame f) outer) (renamed_vars f vars) (again t) ≡ again (left_in turns outer vars t)
  left_in_same turns [] vars t = refl
  left_in_same turns (part ∷ parts) vars t = ap (with_control (again t))
      (ap (settled_in (map (renamed_frame f) parts) (stmts' part.rest) (renamed_around f part.place)) (turns_dropped f r turns vars)
      ∙ settled_same f r parts part.rest part.place (drop (brought_by turns) vars))

  loop_left_same : (turns : Turns) (t : Task) → loop_left (renamed_turns f turns) (again t) ≡ again (loop_left turns t)
  loop_left_same turns t = left_in_same turns (outer_of t) (vars_of t) t

  so_far_same : (vars : Variables) → counted_so_far (renamed_vars f vars) ≡ counted_so_far vars
  so_far_same [] = refl
  so_far_same (o ∷ rest) = refl

  counted_on_same : (t : Task) (backwards : Bool) (vars : Variables) → counted_on (again t) backwards (renamed_vars f vars) ≡ renamed_vars f (counted_on t backwards vars)
  counted_on_same t backwards [] = refl
  counted_on_same t backwards (o ∷ rest) = λ i. record {
    name = renamed_id f o.name;
    limits = o.limits;
    index = o.index;
    values = value_at_same f r t.setting.types o.limits.kind (if backwards then position_of (value_there o 0) -ℤ pos 1 else position_of (value_there o 0) +ℤ pos 1) i ∷ [];
  } ∷ renamed_vars f rest

  turn_same : (turns : Turns) (stmts : PStmts) (t : Task) → turn_step (renamed_turns f turns) (stmts' stmts) (again t) ≡ again (turn_step turns stmts t)
  turn_same Endless stmts t = gone_same f r names stmts t
  turn_same (While e) stmts t = or_raised_kept f r names (λ b. if b then gone_to stmts t else loop_left (While e) t)
      (λ b. if b then gone_to (stmts' stmts) (again t) else loop_left (While (renamed_expr f e)) (again t)) t (condition t e) _ (test_same t e)
      (λ b. if_like again b b refl (gone_same f r names stmts t) (loop_left_same (While e) t))
  turn_same (Counting backwards last) stmts t = if_like again _ (has_turn backwards last (counted_so_far (vars_of t))) (ap (has_turn backwards last) (so_far_same (vars_of t)))
      (ap (λ vars. gone_to (stmts' stmts) (with_vars (again t) vars)) (counted_on_same t backwards (vars_of t)) ∙ gone_same f r names stmts (with_vars t (counted_on t backwards (vars_of t))))
      (loop_left_same (Counting backwards last) t)

  -- ---- the step

  stepped_at_same : (s : PStmt) (behind : PStmts) (t : Task) → KeepsTextsOf f names t → stepped_at (renamed_stmt f s) (stmts' behind) (again t) ≡ again (stepped_at s behind t)
  stepped_at_same (SNull s) behind t keeps = gone_same f r names behind t
  stepped_at_same (SAssign x e s) behind t keeps = assign_same x e behind t
  stepped_at_same (SDelay duration s) behind t keeps = gone_same f r names behind t
  stepped_at_same (SExit w o s) behind t keeps = exit_same w o behind t
  stepped_at_same (SRaise w s) behind t keeps = raise_same w t
  stepped_at_same (SAbort callees s) behind t keeps = gone_same f r names behind t
  stepped_at_same (SPut parts s) behind t keeps = put_same parts [] behind t keeps
  stepped_at_same (SPutLine parts s) behind t keeps = put_same parts line_end behind t keeps
  stepped_at_same (SNewLine s) behind t keeps = put_same [] line_end behind t keeps
  stepped_at_same (SGet x s) behind t keeps = get_same x behind t
  stepped_at_same (SIf arms otherwise s) behind t keeps = if_same arms otherwise behind t
  stepped_at_same (SCase e arms others s) behind t keeps = case_same e arms others behind t
  stepped_at_same (SBlock b s) behind t keeps = block_same b behind t
  stepped_at_same (SLoop name scheme stmts s) behind t keeps = loop_same name scheme stmts behind t
  stepped_at_same (SCall call s) behind t keeps = refl
  stepped_at_same (SAccept x s) behind t keeps = refl
  stepped_at_same (SWait alts otherwise s) behind t keeps = refl
  stepped_at_same (SConditional call more otherwise s) behind t keeps = refl
  stepped_at_same (STimed call more duration later s) behind t keeps = refl

  stepped_behind_same : (place : Around) (t : Task) → stepped_behind (renamed_around f place) (again t) ≡ again (stepped_behind place t)
  stepped_behind_same (Loop name turns stmts) t = turn_same turns stmts t
  stepped_behind_same (OwnBody handlers taken) t = refl
  stepped_behind_same (Block handlers) t = refl
  stepped_behind_same (Handling x) t = refl
  stepped_behind_same (Opened caller formals pending) t = refl

  pub stepped_with_same : (rest : PStmts) (place : Around) (t : Task) → KeepsTextsOf f names t → stepped_with (stmts' rest) (renamed_around f place) (again t) ≡ again (stepped_with rest place t)
  stepped_with_same no_stmt place t keeps = stepped_behind_same place t
  stepped_with_same (stmt_then s rest) place t keeps = stepped_at_same s rest t keeps
