-- The statements of a normal form declare and name what those of the program do, in the same order.
use Rattle.std.proofs.Common.{◌≡◌, ℕ, ◌+◌, Bool, true, false, List, [], ◌∷◌, ◌++◌, length, map, Option, Some, None, refl, sym, ap, ap₂, ◌∙◌}
use Rattle.std.proofs.lemmas.List.{append-nil, append_assoc}
use Rattle.ada_tree.specs.declared.naming.Span.{Span}
use Rattle.ada_tree.specs.declared.naming.Word.{Word}
use Rattle.ada_tree.specs.declared.naming.NameId.{NameId}
use Rattle.ada_tree.specs.declared.statements.ParMode.{ParMode}
use Rattle.ada_tree.specs.declared.statements.ParMode.TheVariants.{Take, Give, Both}
use Rattle.ada_tree.specs.PlainExpr.{PExpr}
use Rattle.ada_tree.specs.PlainStmt.{PCallee, PCall, PStmt, SNull, SAssign, SDelay, SExit, SRaise, SAbort, SCall, SAccept, SWait, SConditional, STimed, SPut, SPutLine, SNewLine, SGet, SIf, SCase, SBlock, SLoop, PStmts, no_stmt, stmt_then, PMaybe, absent, present, PAccept, accepting, PAlt, alternative, PAltKind, AAccept, ADelay, ATerminate, PAlts, no_alt, alt_then, PArms, no_arm, arm_then, arm, PCaseArms, no_case_arm, case_arm_then, case_arm, case_arms_of, PBody, body, PHandlers, no_handler, handler_then, handler}
use Rattle.ada_tree.specs.PlainDecl.{PDecl}
use Rattle.ada_static_rules.specs.Sites.{all_names, with_words}
use Rattle.syn_event.specs.declared.numbering.TaskInfo.{TaskInfo}
use Rattle.task_model.specs.Setting.{Setting}
use Rattle.task_model.specs.Frames.{in_front}
use Rattle.task_model.specs.Calls.{variable_of}
use Rattle.normal_model.specs.Making.{one, or_null, Kept, kept_before, moving}
use Rattle.normal_model.specs.Members.{callee_kept, member_arm, by_member, chosen_if, chosen, known_callee, members_of}
use Rattle.normal_model.specs.Calls.{Slot, slots_called, lists_called, actual_before, actuals_before, copied_to, actual_behind, actuals_behind, indices_kept, actual_number, call_before, call_behind, call_to, plain_image, is_chosen, flagged, part_taken, select_if, select_image}
use Rattle.normal_model.specs.RewrittenUnit.{RewrittenUnit}
use Rattle.normal_model.specs.Waits.{accept_kept, head_of, accept_left, accept_image, kind_kept, kind_left, under_guard, guarded_before, alternative_before, behind_guard, all_guards, raised_unless, closed_test, wait_image}
use Rattle.normal_model.specs.Aborts.{abort_of, callee_aborted, callees_aborted, abort_image}
use Rattle.normal_model.specs.Variables.{statement_variables, alternative_variables}
use Rattle.normal_model.specs.Walk.{Rewriter, after_parts, after_stmts, after_accept, after_kind, after_alt, after_alts, after_arms, after_case_arms, alts_leads, leads, parts_rewritten, rewritten, inside_maybe, inside_accept, inside_kind, inside_alts, inside_arms, inside_case_arms, inside_body, inside_handlers}
use Rattle.normal_model.specs.NormalStmts.{normal_image, normal_rewriter, normal_body}
use Rattle.ada_decl_rules.specs.duplicates.NamingsInOrder.{declared, named_once}
use Rattle.ada_decl_rules.specs.declared.duplicates.namings_in_order.Naming.{Naming}
use Rattle.normal_laws.specs.structure.once.Names.{label_names, scheme_names, stmt_names, stmts_names, maybe_names, accept_names, alts_names, kind_names, arms_names, case_arms_names, body_names, handlers_names}

-- ---- lists of statements

pub front-names : (a b : PStmts) → stmts_names (in_front a b) ≡ stmts_names a ++ stmts_names b
front-names no_stmt b = refl
front-names (stmt_then x l) b = ap (λ m. stmt_names x ++ m) (front-names l b) ∙ sym (append_assoc (stmt_names x) (stmts_names l) (stmts_names b))

-- statements that name nothing in front of others, and both
pub quiet-front : (a b : PStmts) (m : List Naming) → stmts_names a ≡ [] → stmts_names b ≡ m → stmts_names (in_front a b) ≡ m
quiet-front a b m p q = front-names a b ∙ ap₂ (λ (k l : List Naming). k ++ l) p q

null-names : (s : Span) (l : PStmts) → stmts_names (or_null s l) ≡ stmts_names l
null-names s no_stmt = refl
null-names s (stmt_then x l) = refl

-- ---- what is put in front of statements and behind them names nothing

kept-quiet : (g : Setting) (s : Span) (xs : List Kept) (k : ℕ) → stmts_names (kept_before g s xs k) ≡ []
kept-quiet g s [] k = refl
kept-quiet g s (x ∷ xs) k = kept-quiet g s xs (k + 1)

module _ (g : Setting) (s : Span) where
  before-quiet : (mode : ParMode) (e : PExpr) (k : ℕ) → stmts_names (actual_before g s mode e k) ≡ []
  before-quiet Take e k = refl
  before-quiet Give e k = refl
  before-quiet Both e k = refl

  all-before-quiet : (xs : List Slot) (es : List PExpr) (k : ℕ) → stmts_names (actuals_before g s xs es k) ≡ []
  all-before-quiet [] es k = refl
  all-before-quiet (x ∷ xs) [] k = refl
  all-before-quiet (x ∷ xs) (e ∷ es) k = quiet-front (actual_before g s x.mode e k) (actuals_before g s xs es (k + 1)) [] (before-quiet x.mode e k) (all-before-quiet xs es (k + 1))

  copied-quiet : (e : PExpr) (o : Option NameId) (k : ℕ) → stmts_names (copied_to g s e o k) ≡ []
  copied-quiet e None k = refl
  copied-quiet e (Some id) k = refl

  behind-quiet : (mode : ParMode) (e : PExpr) (k : ℕ) → stmts_names (actual_behind g s mode e k) ≡ []
  behind-quiet Take e k = refl
  behind-quiet Give e k = copied-quiet e (variable_of e) k
  behind-quiet Both e k = copied-quiet e (variable_of e) k

  all-behind-quiet : (xs : List Slot) (es : List PExpr) (k : ℕ) → stmts_names (actuals_behind g s xs es k) ≡ []
  all-behind-quiet [] es k = refl
  all-behind-quiet (x ∷ xs) [] k = refl
  all-behind-quiet (x ∷ xs) (e ∷ es) k = quiet-front (actual_behind g s x.mode e k) (actuals_behind g s xs es (k + 1)) [] (behind-quiet x.mode e k) (all-behind-quiet xs es (k + 1))

  -- ---- callees

  arms-quiet : (x : PCallee) (what : Word → PStmts) → ((w : Word) → stmts_names (what w) ≡ []) → (infos : List TaskInfo) → case_arms_names (case_arms_of (map (member_arm g s x what) infos)) ≡ []
  arms-quiet x what q [] = refl
  arms-quiet x what q (info ∷ infos) = ap₂ (λ (a b : List Naming). a ++ b) (q _) (arms-quiet x what q infos)

  member-quiet : (x : PCallee) (k : ℕ) (what : Word → PStmts) → ((w : Word) → stmts_names (what w) ≡ []) → stmt_names (by_member g s x k what) ≡ []
  member-quiet x k what q = ap (λ (a : List Naming). a ++ []) (arms-quiet x what q (members_of g x.name.name))

  chosen-quiet : (o : Option PExpr) (x : PCallee) (k : ℕ) (what : Word → PStmts) → ((w : Word) → stmts_names (what w) ≡ []) → stmts_names (chosen_if o g s x k what) ≡ []
  chosen-quiet None x k what q = q (known_callee g x)
  chosen-quiet (Some e) x k what q = ap (λ (a : List Naming). a ++ []) (member-quiet x k what q)

  -- ---- calls

  call-before-quiet : (c : PCall) (n : ℕ) → stmts_names (call_before g s c n) ≡ []
  call-before-quiet c n =
      quiet-front (kept_before g s (indices_kept g s c) n) (actuals_before g s (slots_called g c) (lists_called g c).actuals (actual_number g s c n)) []
      (kept-quiet g s (indices_kept g s c) n) (all-before-quiet (slots_called g c) (lists_called g c).actuals (actual_number g s c n))

  call-behind-quiet : (c : PCall) (n : ℕ) → stmts_names (call_behind g s c n) ≡ []
  call-behind-quiet c n = all-behind-quiet (slots_called g c) (lists_called g c).actuals (actual_number g s c n)

  plain-quiet : (c : PCall) (n : ℕ) → stmts_names (plain_image g s c n) ≡ []
  plain-quiet c n =
      quiet-front (call_before g s c n) (in_front (chosen g s c.task n (λ w. one (SCall (call_to g s c n w) s))) (call_behind g s c n)) [] (call-before-quiet c n)
      (quiet-front (chosen g s c.task n (λ w. one (SCall (call_to g s c n w) s))) (call_behind g s c n) []
      (chosen-quiet (moving g.types c.task.index) c.task n (λ w. one (SCall (call_to g s c n w) s)) (λ w. refl)) (call-behind-quiet c n))

  -- a conditional or timed call, by its form, names what its parts name
  part-names : (c : PCall) (n : ℕ) (met other : PStmts) → stmt_names (part_taken g s c n met other) ≡ stmts_names met ++ stmts_names other
  part-names c n met other = ap₂ (λ (a b : List Naming). a ++ b) (append-nil (stmts_names (or_null s met)) ∙ null-names s met) (null-names s other)

  if-names : (b : Bool) (form : PCall → PStmts → PStmts → PStmt) → ((c : PCall) (m o : PStmts) → stmt_names (form c m o) ≡ stmts_names m ++ stmts_names o) → (c : PCall) (n : ℕ) (met other : PStmts) →
      stmts_names (select_if b form g s c n met other) ≡ stmts_names met ++ stmts_names other
  if-names true form f c n met other =
      ap₂ (λ (a b : List Naming). a ++ (b ++ []))
      (member-quiet c.task n (λ w. one (form (call_to g s c n w) (flagged g s c n 1) (flagged g s c n 2))) (λ w. ap (λ (a : List Naming). a ++ []) (f (call_to g s c n w) (flagged g s c n 1) (flagged g s c n 2))))
      (part-names c n met other)
      ∙ append-nil (stmts_names met ++ stmts_names other)
  if-names false form f c n met other = append-nil (stmt_names (form (call_to g s c n (known_callee g c.task)) met other)) ∙ f (call_to g s c n (known_callee g c.task)) met other

  select-names : (form : PCall → PStmts → PStmts → PStmt) → ((c : PCall) (m o : PStmts) → stmt_names (form c m o) ≡ stmts_names m ++ stmts_names o) → (c : PCall) (n : ℕ) (behind other : PStmts) →
      stmts_names (select_image form g s c n behind other) ≡ stmts_names behind ++ stmts_names other
  select-names form f c n behind other =
      quiet-front (call_before g s c n) (select_if (is_chosen g c) form g s c n (in_front (call_behind g s c n) behind) other) (stmts_names behind ++ stmts_names other) (call-before-quiet c n)
      (if-names (is_chosen g c) form f c n (in_front (call_behind g s c n) behind) other
      ∙ ap (λ (a : List Naming). a ++ stmts_names other) (quiet-front (call_behind g s c n) behind (stmts_names behind) (call-behind-quiet c n) refl))

  -- ---- aborts

  aborted-quiet : (cs : List PCallee) (n : ℕ) → stmts_names (callees_aborted g s cs n) ≡ []
  aborted-quiet [] n = refl
  aborted-quiet (c ∷ cs) n =
      quiet-front (callee_aborted g s c n) (callees_aborted g s cs (n + length (callee_kept g s c))) []
      (quiet-front (kept_before g s (callee_kept g s c) n) (chosen g s c n (abort_of s)) [] (kept-quiet g s (callee_kept g s c) n) (chosen-quiet (moving g.types c.index) c n (abort_of s) (λ w. refl)))
      (aborted-quiet cs (n + length (callee_kept g s c)))

  abort-quiet : (cs : List PCallee) (n : ℕ) → stmts_names (abort_image g s cs n) ≡ []
  abort-quiet [] n = refl
  abort-quiet (c ∷ cs) n = aborted-quiet (c ∷ cs) n

-- ---- accepts and waits

module _ (u : RewrittenUnit) where
  abbrev r : Rewriter (List PDecl)
  r = normal_rewriter u

  left-names : (s : Span) (a : PAccept) (k : ℕ) → accept_names (accept_left u s a k) ≡ accept_names a
  left-names s (accepting h o) k = refl

  accept-image-names : (s : Span) (a : PAccept) (n : ℕ) → stmts_names (accept_image u s a n) ≡ accept_names a
  accept-image-names s a n =
      quiet-front (kept_before u.setting s (accept_kept u s (head_of a)) n) (one (SAccept (accept_left u s a n) s)) (accept_names a) (kept-quiet u.setting s (accept_kept u s (head_of a)) n)
      (append-nil (accept_names (accept_left u s a n)) ∙ left-names s a n)

  kind-left-names : (s : Span) (x : PAltKind) (k : ℕ) → kind_names (kind_left u s x k) ≡ kind_names x
  kind-left-names s (AAccept a l) k = ap (λ (m : List Naming). m ++ stmts_names l) (left-names s a k)
  kind-left-names s (ADelay d l) k = refl
  kind-left-names s ATerminate k = refl

  guard-quiet : (s : Span) (n : ℕ) (xs : List Kept) → stmts_names (under_guard u s n xs) ≡ []
  guard-quiet s n [] = refl
  guard-quiet s n (x ∷ xs) = ap (λ (a : List Naming). ((a ++ []) ++ []) ++ []) (kept-quiet u.setting s (x ∷ xs) (n + 1))

  guarded-quiet : (s : Span) (o : Option PExpr) (xs : List Kept) (n : ℕ) → stmts_names (guarded_before u s o xs n) ≡ []
  guarded-quiet s None xs n = kept-quiet u.setting s xs n
  guarded-quiet s (Some e) xs n = guard-quiet s n xs

  lead-quiet : (x : PAlt) (n : ℕ) → stmts_names (alternative_before u x n) ≡ []
  lead-quiet (alternative g x s) n = guarded-quiet s g (kind_kept u s x) n

  leads-quiet : (x : PAlts) (t : List PDecl) → stmts_names (alts_leads r x t) ≡ []
  leads-quiet no_alt t = refl
  leads-quiet (alt_then x l) t = quiet-front (alternative_before u x (length t)) (alts_leads r l (after_alt r x t)) [] (lead-quiet x (length t)) (leads-quiet l (after_alt r x t))

  raised-quiet : (s : Span) (es : List PExpr) → stmts_names (raised_unless s es) ≡ []
  raised-quiet s [] = refl
  raised-quiet s (e ∷ es) = refl

  closed-quiet : (s : Span) (o : PMaybe) (guards : Option (List PExpr)) → stmts_names (closed_test s o guards) ≡ []
  closed-quiet s absent (Some guards) = raised-quiet s guards
  closed-quiet s absent None = refl
  closed-quiet s (present l) guards = refl

  wait-names : (s : Span) (x : PAlts) (o : PMaybe) → stmts_names (wait_image s x o) ≡ alts_names x ++ maybe_names o
  wait-names s x o = quiet-front (closed_test s o (all_guards x)) (one (SWait x o s)) (alts_names x ++ maybe_names o) (closed-quiet s o (all_guards x)) (append-nil (alts_names x ++ maybe_names o))

  -- ---- the walk

  mutual
    -- what stands in the place of a statement, where `t` are the variables behind those that it asks for itself
    image-same : (x : PStmt) (n : ℕ) (t : List PDecl) → stmts_names (in_front (leads r x t) (normal_image u n (parts_rewritten r x t))) ≡ stmt_names x
    image-same (SNull s) n t = refl
    image-same (SAssign x e s) n t = refl
    image-same (SDelay d s) n t = refl
    image-same (SExit w e s) n t = refl
    image-same (SRaise w s) n t = refl
    image-same (SPut ps s) n t = refl
    image-same (SPutLine ps s) n t = refl
    image-same (SNewLine s) n t = refl
    image-same (SGet x s) n t = refl
    image-same (SAbort cs s) n t = abort-quiet u.setting s cs n
    image-same (SCall c s) n t = plain-quiet u.setting s c n
    image-same (SAccept a s) n t = accept-image-names s (inside_accept r a t) n ∙ accept-same a t
    image-same (SWait x o s) n t =
        quiet-front (alts_leads r x t) (wait_image s (inside_alts r x t) (inside_maybe r o (after_alts r x t))) (alts_names x ++ maybe_names o) (leads-quiet x t)
        (wait-names s (inside_alts r x t) (inside_maybe r o (after_alts r x t)) ∙ ap₂ (λ (a b : List Naming). a ++ b) (alts-same x t) (maybe-same o (after_alts r x t)))
    image-same (SConditional c b o s) n t =
        select-names u.setting s (λ call met other. SConditional call met other s) (λ c m o. refl) c n (rewritten r b t) (rewritten r o (after_stmts r b t))
        ∙ ap₂ (λ (a b : List Naming). a ++ b) (stmts-same b t) (stmts-same o (after_stmts r b t))
    image-same (STimed c b d a s) n t =
        select-names u.setting s (λ call met other. STimed call met d other s) (λ c m o. refl) c n (rewritten r b t) (rewritten r a (after_stmts r b t))
        ∙ ap₂ (λ (a b : List Naming). a ++ b) (stmts-same b t) (stmts-same a (after_stmts r b t))
    image-same (SIf x o s) n t = append-nil (arms_names (inside_arms r x t) ++ maybe_names (inside_maybe r o (after_arms r x t))) ∙ ap₂ (λ (a b : List Naming). a ++ b) (arms-same x t) (maybe-same o (after_arms r x t))
    image-same (SCase e x o s) n t =
        append-nil (case_arms_names (inside_case_arms r x t) ++ maybe_names (inside_maybe r o (after_case_arms r x t))) ∙ ap₂ (λ (a b : List Naming). a ++ b) (case-arms-same x t) (maybe-same o (after_case_arms r x t))
    image-same (SBlock b s) n t = append-nil (body_names (inside_body r b t)) ∙ inner-same b t
    image-same (SLoop w c l s) n t = append-nil (label_names w ++ (scheme_names c ++ stmts_names (rewritten r l t))) ∙ ap (λ (a : List Naming). label_names w ++ (scheme_names c ++ a)) (stmts-same l t)

    stmts-same : (l : PStmts) (t : List PDecl) → stmts_names (rewritten r l t) ≡ stmts_names l
    stmts-same no_stmt t = refl
    stmts-same (stmt_then x l) t =
        let t' : List PDecl = statement_variables u t x in
        front-names (in_front (leads r x t') (normal_image u (length t) (parts_rewritten r x t'))) (rewritten r l (after_parts r x t'))
        ∙ ap₂ (λ (a b : List Naming). a ++ b) (image-same x (length t) t') (stmts-same l (after_parts r x t'))

    maybe-same : (o : PMaybe) (t : List PDecl) → maybe_names (inside_maybe r o t) ≡ maybe_names o
    maybe-same absent t = refl
    maybe-same (present l) t = stmts-same l t

    accept-same : (a : PAccept) (t : List PDecl) → accept_names (inside_accept r a t) ≡ accept_names a
    accept-same (accepting h o) t = ap (λ (m : List Naming). declared false [] (all_names h.formals) ++ m) (maybe-same o t)

    kind-same : (x : PAltKind) (t : List PDecl) → kind_names (inside_kind r x t) ≡ kind_names x
    kind-same (AAccept a l) t = ap₂ (λ (a b : List Naming). a ++ b) (accept-same a t) (stmts-same l (after_accept r a t))
    kind-same (ADelay d l) t = stmts-same l t
    kind-same ATerminate t = refl

    alts-same : (x : PAlts) (t : List PDecl) → alts_names (inside_alts r x t) ≡ alts_names x
    alts-same no_alt t = refl
    alts-same (alt_then (alternative g x s) l) t =
        let t' : List PDecl = alternative_variables u t (alternative g x s) in
        ap₂ (λ (a b : List Naming). a ++ b)
        (kind-left-names s (inside_kind r x t') (behind_guard g (length t)) ∙ kind-same x t') (alts-same l (after_kind r x t'))

    arms-same : (x : PArms) (t : List PDecl) → arms_names (inside_arms r x t) ≡ arms_names x
    arms-same no_arm t = refl
    arms-same (arm_then (arm e l) rest) t = ap₂ (λ (a b : List Naming). a ++ b) (stmts-same l t) (arms-same rest (after_stmts r l t))

    case-arms-same : (x : PCaseArms) (t : List PDecl) → case_arms_names (inside_case_arms r x t) ≡ case_arms_names x
    case-arms-same no_case_arm t = refl
    case-arms-same (case_arm_then (case_arm cs l) rest) t = ap₂ (λ (a b : List Naming). a ++ b) (stmts-same l t) (case-arms-same rest (after_stmts r l t))

    inner-same : (b : PBody) (t : List PDecl) → body_names (inside_body r b t) ≡ body_names b
    inner-same (body l hs) t = ap₂ (λ (a b : List Naming). a ++ b) (stmts-same l t) (handlers-same [] hs (after_stmts r l t))

    handlers-same : (names : List ℕ) (hs : PHandlers) (t : List PDecl) → handlers_names names (inside_handlers r hs t) ≡ handlers_names names hs
    handlers-same names no_handler t = refl
    handlers-same names (handler_then (handler ws l s) rest) t =
        ap₂ (λ (a b : List Naming). named_once names ws ++ (a ++ b)) (stmts-same l t) (handlers-same (with_words names ws) rest (after_stmts r l t))

  -- The body of a unit in the normal form declares and names what the unit's does.
  pub body-same : (b : PBody) → body_names (normal_body u b) ≡ body_names b
  body-same b = inner-same b []
