-- The statements of a collecting text declare and name what those of the normal form do, in the same order, with names that are new among them: the formal of the caller, and TASKING_ERROR in handlers.
use Rattle.std.proofs.Common.{◌≡◌, ℕ, ◌+◌, ◌==◌, false, ◌||◌, List, [], ◌∷◌, ◌++◌, refl, sym, ap, subst}
use Rattle.std.specs.List.{AllByRecursion}
use Rattle.std.proofs.lemmas.List.{append-nil}
use Rattle.common_lemmas.proofs.Lists.{all_front, all_back}
use Rattle.ada_tree.specs.declared.naming.Span.{Span}
use Rattle.ada_tree.specs.declared.naming.Word.{Word}
use Rattle.ada_tree.specs.PlainStmt.{PCall, PHead, PStmt, SNull, SAssign, SDelay, SExit, SRaise, SAbort, SCall, SAccept, SWait, SConditional, STimed, SPut, SPutLine, SNewLine, SGet, SIf, SCase, SBlock, SLoop, PStmts, no_stmt, stmt_then, PMaybe, absent, present, accepting, alternative, AAccept, ADelay, ATerminate, PAlts, no_alt, alt_then, PArms, no_arm, arm_then, arm, PCaseArms, no_case_arm, case_arm_then, case_arm, PBody, body, PHandlers, no_handler, handler_then, handler}
use Rattle.ada_static_rules.specs.RuleDuplicate.{is_predefined}
use Rattle.ada_static_rules.specs.Sites.{all_names, with_words}
use Rattle.ada_decl_rules.specs.declared.duplicates.namings_in_order.Naming.{Naming}
use Rattle.ada_decl_rules.specs.declared.duplicates.namings_in_order.Naming.TheVariants.{Once}
use Rattle.ada_decl_rules.specs.duplicates.NamingsInOrder.{declared, named_once}
use Rattle.normal_model.specs.Making.{or_null}
use Rattle.normal_model.specs.Walk.{Rewriter, after_parts, after_stmts, after_maybe, after_alts, after_arms, after_case_arms, leads, parts_rewritten, rewritten, inside_maybe, inside_alts, inside_arms, inside_case_arms, inside_body, inside_handlers}
use Rattle.task_model.specs.Frames.{in_front}
use Rattle.normal_laws.specs.structure.once.Apart.{IsFreeOf}
use Rattle.normal_laws.specs.structure.once.Names.{label_names, scheme_names, stmt_names, stmts_names, maybe_names, accept_names, alts_names, arms_names, case_arms_names, body_names, handlers_names}
use Rattle.normal_laws.proofs.structure.once.Rewritten.{front-names}
use Rattle.replay_model.specs.ReplayStmts.{with_handlers}
use Rattle.replay_structure.proofs.declares_once.Grown.{alone-from, IsGood, IsSame, good-fit, same-joined, declared-same}
use Rattle.collect_model.specs.Teller.{Teller}
use Rattle.collect_model.specs.Calling.{tasking_error, plain_image, conditional_image, timed_image}
use Rattle.collect_model.specs.Serving.{accept_told}
use Rattle.collect_model.specs.Waiting.{alternatives_told, else_told}
use Rattle.collect_model.specs.CollectStmts.{collect_image, collect_rewriter, main_body, task_body}
use Rattle.collect_structure.proofs.asked.Kept.{no-leads}

-- Beside fixed names F, where the names X are new, and the formal of the caller is one of them.
module _ (F X : List ℕ) (u : Teller) (predefined-not : is_predefined u.added.caller.0 ≡ false) (free : IsFreeOf F u.added.caller.0) (one-new : (x : ℕ) → IsFreeOf X x → (u.added.caller.0 == x) ≡ false) where
  abbrev Good : Naming → Type 0
  Good = IsGood F X

  abbrev Same : List Naming → List Naming → Type 0
  Same = IsSame F X

  abbrev r : Rewriter ℕ
  r = collect_rewriter u

  -- ---- lists

  none : Same [] []
  none = record { fit = tt; fixed = refl }

  same-nil : (A B : List Naming) → Same A B → Same A (B ++ [])
  same-nil A B h = subst (Same A) (sym (append-nil B)) h

  kept : (A : List Naming) → AllByRecursion Good A → Same A A
  kept A h = record { fit = good-fit F X A h; fixed = refl }

  -- an exception that a handler names once more
  once-more : (w : Word) (A B : List Naming) → Same A B → Same A (Once false w ∷ B)
  once-more w A B h = record { fit = ((refl, tt), h.fit); fixed = h.fixed }

  -- the caller in front of formals
  pub caller-more : (s : Span) (ws : List Word) → AllByRecursion Good (declared false [] ws) → Same (declared false [] ws) (declared false [] (record { name = u.added.caller; span = s } ∷ ws))
  caller-more s ws h =
      let more = declared-same F X false [] (u.added.caller.0 ∷ []) (λ x c i. by_one x (one-new x c)) ws h in
      record { fit = ((alone-from false false (record { name = u.added.caller; span = s }) predefined-not refl, (free, tt)), more.fit); fixed = more.fixed }
    where
      by_one : (x : ℕ) → (u.added.caller.0 == x) ≡ false → IsFreeOf (u.added.caller.0 ∷ []) x
      by_one x e = ap (λ b. b || false) e

  -- ---- what is made of one statement

  or-null-names : (s : Span) (l : PStmts) → stmts_names (or_null s l) ≡ stmts_names l
  or-null-names s no_stmt = refl
  or-null-names s (stmt_then x l) = refl

  plain-same : (s : Span) (c : PCall) → Same [] (stmts_names (plain_image u s c))
  plain-same s c = once-more (tasking_error s) [] [] none

  parts-same : (s : Span) (A : List Naming) (B : List Naming) (met other : PStmts) → Same A (stmts_names met) → Same B (stmts_names other) →
      Same (A ++ B) (Once false (tasking_error s) ∷ (((stmts_names (or_null s met) ++ []) ++ stmts_names other) ++ []))
  parts-same s A B met other h k =
      once-more (tasking_error s) (A ++ B) _
      (same-nil (A ++ B) _
      (same-joined F X A (stmts_names (or_null s met) ++ []) B (stmts_names other) (same-nil A (stmts_names (or_null s met)) (subst (Same A) (sym (or-null-names s met)) h)) k))

  conditional-same : (s : Span) (c : PCall) (A B : List Naming) (met other : PStmts) → Same A (stmts_names met) → Same B (stmts_names other) → Same (A ++ B) (stmts_names (conditional_image u s c met other))
  conditional-same s c A B met other h k = parts-same s A B met other h k

  timed-same : (s : Span) (c : PCall) (d : ℕ) (A B : List Naming) (met other : PStmts) → Same A (stmts_names met) → Same B (stmts_names other) → Same (A ++ B) (stmts_names (timed_image u s c met d other))
  timed-same s c d A B met other h k = parts-same s A B met other h k

  -- an accept, where its statements are rewritten
  accept-made : (s : Span) (i : PHead) (o o' : PMaybe) → AllByRecursion Good (declared false [] (all_names i.formals)) → Same (maybe_names o) (maybe_names o') →
      Same (accept_names (accepting i o)) (accept_names (accept_told u s (accepting i o')))
  accept-made s i o absent h k =
      same-joined F X (declared false [] (all_names i.formals)) _ (maybe_names o) [] (caller-more i.entry.span (all_names i.formals) h) k
  accept-made s i o (present l) h k =
      same-joined F X (declared false [] (all_names i.formals)) _ (maybe_names o) _ (caller-more i.entry.span (all_names i.formals) h)
      (same-nil (maybe_names o) (stmts_names l ++ []) (same-nil (maybe_names o) (stmts_names l) k))

  -- ---- the walk

  mutual
    stmt : (x : PStmt) (t : ℕ) → AllByRecursion Good (stmt_names x) → Same (stmt_names x) (stmts_names (in_front (leads r x t) (collect_image u (parts_rewritten r x t))))
    stmt (SNull s) t h = none
    stmt (SAssign x y s) t h = none
    stmt (SDelay m s) t h = none
    stmt (SExit w y s) t h = none
    stmt (SRaise w s) t h = none
    stmt (SPut ps s) t h = none
    stmt (SPutLine ps s) t h = none
    stmt (SNewLine s) t h = none
    stmt (SGet x s) t h = none
    stmt (SAbort xs s) t h = none
    stmt (SCall x s) t h = plain-same s x
    stmt (SAccept (accepting i o) s) t h =
        let own : List Naming = declared false [] (all_names i.formals) in
        same-nil (accept_names (accepting i o)) _ (accept-made s i o (inside_maybe r o t) (all_front Good own (maybe_names o) h) (maybe o t (all_back Good own (maybe_names o) h)))
    stmt (SWait x o s) t h =
        subst (λ l. Same (alts_names x ++ maybe_names o) (stmts_names (in_front l (collect_image u (SWait (inside_alts r x t) (inside_maybe r o (after_alts r x t)) s))))) (sym (no-leads u x t))
        (same-nil (alts_names x ++ maybe_names o) _
        (same-joined F X (alts_names x) (alts_names (alternatives_told u (inside_alts r x t) 1)) (maybe_names o) _
        (alts x t 1 (all_front Good (alts_names x) (maybe_names o) h))
        (otherwise o s (after_alts r x t) (all_back Good (alts_names x) (maybe_names o) h))))
    stmt (SConditional x l o s) t h =
        conditional-same s x (stmts_names l) (stmts_names o) (rewritten r l t) (rewritten r o (after_stmts r l t)) (stmts l t (all_front Good (stmts_names l) (stmts_names o) h))
        (stmts o (after_stmts r l t) (all_back Good (stmts_names l) (stmts_names o) h))
    stmt (STimed x l m o s) t h =
        timed-same s x m (stmts_names l) (stmts_names o) (rewritten r l t) (rewritten r o (after_stmts r l t)) (stmts l t (all_front Good (stmts_names l) (stmts_names o) h))
        (stmts o (after_stmts r l t) (all_back Good (stmts_names l) (stmts_names o) h))
    stmt (SIf x o s) t h =
        same-nil (arms_names x ++ maybe_names o) _
        (same-joined F X (arms_names x) (arms_names (inside_arms r x t)) (maybe_names o) _ (arms x t (all_front Good (arms_names x) (maybe_names o) h)) (maybe o (after_arms r x t) (all_back Good (arms_names x) (maybe_names o) h)))
    stmt (SCase y x o s) t h =
        same-nil (case_arms_names x ++ maybe_names o) _
        (same-joined F X (case_arms_names x) (case_arms_names (inside_case_arms r x t)) (maybe_names o) _ (case_arms x t (all_front Good (case_arms_names x) (maybe_names o) h))
        (maybe o (after_case_arms r x t) (all_back Good (case_arms_names x) (maybe_names o) h)))
    stmt (SBlock x s) t h = same-nil (body_names x) _ (body-of x t h)
    stmt (SLoop w c l s) t h =
        let front : AllByRecursion Good (label_names w) = all_front Good (label_names w) (scheme_names c ++ stmts_names l) h in
        let behind : AllByRecursion Good (scheme_names c ++ stmts_names l) = all_back Good (label_names w) (scheme_names c ++ stmts_names l) h in
        same-nil (label_names w ++ (scheme_names c ++ stmts_names l)) _
        (same-joined F X (label_names w) (label_names w) (scheme_names c ++ stmts_names l) _ (kept (label_names w) front)
        (same-joined F X (scheme_names c) (scheme_names c) (stmts_names l) _ (kept (scheme_names c) (all_front Good (scheme_names c) (stmts_names l) behind)) (stmts l t (all_back Good (scheme_names c) (stmts_names l) behind))))

    stmts : (l : PStmts) (t : ℕ) → AllByRecursion Good (stmts_names l) → Same (stmts_names l) (stmts_names (rewritten r l t))
    stmts no_stmt t h = none
    stmts (stmt_then x l) t h =
        subst (Same (stmt_names x ++ stmts_names l)) (sym (front-names (in_front (leads r x t) (collect_image u (parts_rewritten r x t))) (rewritten r l (after_parts r x t))))
        (same-joined F X (stmt_names x) _ (stmts_names l) _ (stmt x t (all_front Good (stmt_names x) (stmts_names l) h)) (stmts l (after_parts r x t) (all_back Good (stmt_names x) (stmts_names l) h)))

    maybe : (o : PMaybe) (t : ℕ) → AllByRecursion Good (maybe_names o) → Same (maybe_names o) (maybe_names (inside_maybe r o t))
    maybe absent t h = none
    maybe (present l) t h = stmts l t h

    -- the else part of a wait
    otherwise : (o : PMaybe) (s : Span) (t : ℕ) → AllByRecursion Good (maybe_names o) → Same (maybe_names o) (maybe_names (else_told u s (inside_maybe r o t)))
    otherwise absent s t h = none
    otherwise (present l) s t h = stmts l t h

    alts : (x : PAlts) (t j : ℕ) → AllByRecursion Good (alts_names x) → Same (alts_names x) (alts_names (alternatives_told u (inside_alts r x t) j))
    alts no_alt t j h = none
    alts (alt_then (alternative g (AAccept (accepting i o) l) s) rest) t j h =
        let v : ℕ = after_maybe r o t in
        let here : List Naming = accept_names (accepting i o) ++ stmts_names l in
        let k : AllByRecursion Good here = all_front Good here (alts_names rest) h in
        let own : List Naming = declared false [] (all_names i.formals) in
        let first : AllByRecursion Good (accept_names (accepting i o)) = all_front Good (accept_names (accepting i o)) (stmts_names l) k in
        same-joined F X here _ (alts_names rest) _
        (same-joined F X (accept_names (accepting i o)) _ (stmts_names l) _ (accept-made s i o (inside_maybe r o t) (all_front Good own (maybe_names o) first) (maybe o t (all_back Good own (maybe_names o) first))) (stmts l v (all_back Good (accept_names (accepting i o)) (stmts_names l) k)))
        (alts rest (after_stmts r l v) j (all_back Good here (alts_names rest) h))
    alts (alt_then (alternative g (ADelay m l) s) rest) t j h =
        same-joined F X (stmts_names l) _ (alts_names rest) _ (stmts l t (all_front Good (stmts_names l) (alts_names rest) h)) (alts rest (after_stmts r l t) (j + 1) (all_back Good (stmts_names l) (alts_names rest) h))
    alts (alt_then (alternative g ATerminate s) rest) t j h = alts rest t j h

    arms : (x : PArms) (t : ℕ) → AllByRecursion Good (arms_names x) → Same (arms_names x) (arms_names (inside_arms r x t))
    arms no_arm t h = none
    arms (arm_then (arm y l) rest) t h =
        same-joined F X (stmts_names l) _ (arms_names rest) _ (stmts l t (all_front Good (stmts_names l) (arms_names rest) h)) (arms rest (after_stmts r l t) (all_back Good (stmts_names l) (arms_names rest) h))

    case_arms : (x : PCaseArms) (t : ℕ) → AllByRecursion Good (case_arms_names x) → Same (case_arms_names x) (case_arms_names (inside_case_arms r x t))
    case_arms no_case_arm t h = none
    case_arms (case_arm_then (case_arm cs l) rest) t h =
        same-joined F X (stmts_names l) _ (case_arms_names rest) _ (stmts l t (all_front Good (stmts_names l) (case_arms_names rest) h))
        (case_arms rest (after_stmts r l t) (all_back Good (stmts_names l) (case_arms_names rest) h))

    body-of : (x : PBody) (t : ℕ) → AllByRecursion Good (body_names x) → Same (body_names x) (body_names (inside_body r x t))
    body-of (body l hs) t h =
        same-joined F X (stmts_names l) _ (handlers_names [] hs) _ (stmts l t (all_front Good (stmts_names l) (handlers_names [] hs) h)) (handlers [] hs (after_stmts r l t) (all_back Good (stmts_names l) (handlers_names [] hs) h))

    handlers : (names : List ℕ) (x : PHandlers) (t : ℕ) → AllByRecursion Good (handlers_names names x) → Same (handlers_names names x) (handlers_names names (inside_handlers r x t))
    handlers names no_handler t h = none
    handlers names (handler_then (handler ws l s) rest) t h =
        let own : List Naming = named_once names ws in
        let later : List Naming = handlers_names (with_words names ws) rest in
        let behind : AllByRecursion Good (stmts_names l ++ later) = all_back Good own (stmts_names l ++ later) h in
        same-joined F X own own (stmts_names l ++ later) _ (kept own (all_front Good own (stmts_names l ++ later) h))
        (same-joined F X (stmts_names l) _ later _ (stmts l t (all_front Good (stmts_names l) later behind)) (handlers (with_words names ws) rest (after_stmts r l t) (all_back Good (stmts_names l) later behind)))

  -- ---- units

  -- The body of main declares and names what that of the normal form does, with new names.
  pub main-same : (b : PBody) → AllByRecursion Good (body_names b) → Same (body_names b) (body_names (main_body u b))
  main-same b h = body-of b 0 h

  held-names : (s : Span) (b : PBody) → stmts_names (with_handlers s b) ≡ body_names b
  held-names s (body l no_handler) = sym (append-nil (stmts_names l))
  held-names s (body l (handler_then h hs)) = append-nil (body_names (body l (handler_then h hs)))

  -- So does that of a task.
  pub task-same : (s : Span) (b : PBody) → AllByRecursion Good (body_names b) → Same (body_names b) (body_names (task_body u s b))
  task-same s b h =
      same-nil (body_names b) _
      (same-nil (body_names b) _
      (same-nil (body_names b) (stmts_names (with_handlers s (inside_body r b 0))) (subst (Same (body_names b)) (sym (held-names s (inside_body r b 0))) (body-of b 0 h))))
