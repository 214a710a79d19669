-- The statements of a unit in the normal form are as asked, from what is asked of those of the program and from the pieces.
use Rattle.std.proofs.Common.{◌≡◌, ℕ, ◌+◌, List, [], ◌++◌, length, Option, Some, None, option_map, refl, sym, ap, subst, arith}
use Rattle.ada_tree.specs.declared.naming.Span.{Span}
use Rattle.ada_tree.specs.PlainExpr.{PExpr}
use Rattle.ada_tree.specs.PlainStmt.{PStmt, SNull, SAssign, SDelay, SExit, SRaise, SAbort, SCall, SAccept, SWait, SConditional, STimed, SPut, SPutLine, SNewLine, SGet, SIf, SCase, SBlock, SLoop, PStmts, no_stmt, stmt_then, PMaybe, absent, present, accepting, alternative, PAltKind, AAccept, ADelay, ATerminate, PAlts, no_alt, alt_then, PArms, no_arm, arm_then, arm, PCaseArms, no_case_arm, case_arm_then, case_arm, PBody, body, PHandlers, no_handler, handler_then, handler}
use Rattle.ada_tree.specs.PlainDecl.{PDecl}
use Rattle.ada_tree.specs.Every.{alts_count, arms_count}
use Rattle.ada_static_rules.specs.Sites.{arm_choices, is_present, with_words}
use Rattle.task_model.specs.Setting.{Setting}
use Rattle.normal_model.specs.Making.{variable, kept_subtypes}
use Rattle.normal_model.specs.Calls.{call_subtypes, select_subtypes}
use Rattle.normal_model.specs.Aborts.{abort_subtypes}
use Rattle.normal_model.specs.Walk.{Rewriter, after_parts, after_stmts, after_maybe, after_kind, after_alts, after_arms, after_case_arms, after_body, after_handlers, leads, parts_rewritten, rewritten, inside_maybe, inside_kind, inside_alts, inside_arms, inside_case_arms, inside_body, inside_handlers}
use Rattle.normal_model.specs.RewrittenUnit.{RewrittenUnit}
use Rattle.normal_model.specs.Waits.{accept_kept, kind_kept, head_left, kind_left, behind_guard, alternative_subtypes, all_guards, wait_image, closed_test}
use Rattle.normal_model.specs.Variables.{statement_variables}
use Rattle.normal_model.specs.NormalStmts.{normal_image, normal_rewriter, normal_body}
use Rattle.task_model.specs.Frames.{in_front}
use Rattle.normal_model.proofs.VariablesLemmas.{Begins, begins-trans, stmts-begin, maybe-begins, alts-begin, arms-begin, case_arms-begin, handlers-begin, normal-adds}
use Rattle.task_laws.specs.legal.asked.Asked.{Asks, AskedStmt, AskedStmts, AskedSome, AskedMaybe, AskedAlts, AskedKind, AskedArms, AskedCaseArms, AskedBody, AskedHandlers}
use Rattle.normal_laws.specs.structure.asked.Pieces.{AreVariables, Pieces}
use Rattle.normal_laws.proofs.structure.asked.Lists.{HasStmt, some-front, some-back, asked-join, asked-some, asked-all, added-there}
use Rattle.normal_laws.proofs.structure.asked.Calls.{plain-asked, plain-some, conditional-asked, timed-asked, select-some, abort-asked, abort-some}
use Rattle.normal_laws.proofs.structure.asked.Waits.{accept-asked, accept-some, head-asked, leads-asked, alternative-there, guards-are, closed-asked, wait-some}

-- ---- what a rewriter keeps of parts

module _ {S : Type 0} (r : Rewriter S) where
  present-same : (o : PMaybe) (t : S) → is_present (inside_maybe r o t) ≡ is_present o
  present-same absent t = refl
  present-same (present l) t = refl

  alts-same : (x : PAlts) (t : S) → alts_count (inside_alts r x t) ≡ alts_count x
  alts-same no_alt t = refl
  alts-same (alt_then (alternative g k s) l) t = ap (λ n. 1 + n) (alts-same l (after_kind r k (r.entered_alternative t (alternative g k s))))

  arms-same : (x : PArms) (t : S) → arms_count (inside_arms r x t) ≡ arms_count x
  arms-same no_arm t = refl
  arms-same (arm_then (arm e l) rest) t = ap (λ n. 1 + n) (arms-same rest (after_stmts r l t))

  choices-same : (x : PCaseArms) (t : S) → arm_choices (inside_case_arms r x t) ≡ arm_choices x
  choices-same no_case_arm t = refl
  choices-same (case_arm_then (case_arm cs l) rest) t = ap (λ xs. cs ++ xs) (choices-same rest (after_stmts r l t))

module _ {C D : Type 0} (u : RewrittenUnit) (vars : List PDecl) (b : Asks C) (a : Asks D) (R : C → D → Type 0) (P : Pieces u vars b a R) where
  abbrev g : Setting
  g = u.setting

  abbrev r : Rewriter (List PDecl)
  r = normal_rewriter u

  -- what stands in the place of a statement is one at least
  image-some : (n : ℕ) (x : PStmt) → HasStmt (normal_image u n x)
  image-some n (SAccept x s) = accept-some u vars b a R P s x n
  image-some n (SWait x o s) = wait-some u vars b a R P s x o
  image-some n (SConditional x l o s) = select-some u vars b a R P (λ call met other. SConditional call met other s) s x n l o
  image-some n (STimed x l d o s) = select-some u vars b a R P (λ call met other. STimed call met d other s) s x n l o
  image-some n (SCall x s) = plain-some u vars b a R P s x n
  image-some n (SAbort xs s) = abort-some u vars b a R P s xs n
  image-some n (SNull s) = tt
  image-some n (SAssign x e s) = tt
  image-some n (SDelay d s) = tt
  image-some n (SExit w e s) = tt
  image-some n (SRaise w s) = tt
  image-some n (SPut ps s) = tt
  image-some n (SPutLine ps s) = tt
  image-some n (SNewLine s) = tt
  image-some n (SGet x s) = tt
  image-some n (SIf x o s) = tt
  image-some n (SCase e x o s) = tt
  image-some n (SBlock x s) = tt
  image-some n (SLoop w c l s) = tt

  rewritten-some : (x : PStmt) (l : PStmts) (t : List PDecl) → HasStmt (rewritten r (stmt_then x l) t)
  rewritten-some x l t =
      some-front (r.replaced_stmt t (leads r x (r.entered_stmt t x)) (parts_rewritten r x (r.entered_stmt t x))) _
      (some-back (leads r x (r.entered_stmt t x)) _ (image-some (length t) (parts_rewritten r x (r.entered_stmt t x))))

  mutual
    stmt : (x : PStmt) (c : C) (d : D) (k : ℕ) (t : List PDecl) → R c d → AskedStmt b c k x → Begins (after_parts r x (statement_variables u t x)) vars →
        AskedStmts a d k (in_front (leads r x (statement_variables u t x)) (normal_image u (length t) (parts_rewritten r x (statement_variables u t x))))
    stmt (SNull s) c d k t rel h begins = (P.plain c d k (SNull s) tt rel h, tt)
    stmt (SAssign x e s) c d k t rel h begins = (P.plain c d k (SAssign x e s) tt rel h, tt)
    stmt (SDelay n s) c d k t rel h begins = (P.plain c d k (SDelay n s) tt rel h, tt)
    stmt (SExit w e s) c d k t rel h begins = (P.plain c d k (SExit w e s) tt rel h, tt)
    stmt (SRaise w s) c d k t rel h begins = (P.plain c d k (SRaise w s) tt rel h, tt)
    stmt (SPut ps s) c d k t rel h begins = (P.plain c d k (SPut ps s) tt rel h, tt)
    stmt (SPutLine ps s) c d k t rel h begins = (P.plain c d k (SPutLine ps s) tt rel h, tt)
    stmt (SNewLine s) c d k t rel h begins = (P.plain c d k (SNewLine s) tt rel h, tt)
    stmt (SGet x s) c d k t rel h begins = (P.plain c d k (SGet x s) tt rel h, tt)
    stmt (SAbort xs s) c d k t rel h begins = abort-asked u vars b a R P c d k s xs (length t) rel h.0 h.1 h.2 (added-there g vars s (abort_subtypes g s xs) t begins)
    stmt (SCall x s) c d k t rel h begins = plain-asked u vars b a R P c d k s x (length t) rel h.0 h.1 h.2 (added-there g vars s (call_subtypes g s x) t begins)
    stmt (SAccept (accepting i o) s) c d k t rel h begins =
        let t' : List PDecl = statement_variables u t (SAccept (accepting i o) s) in
        accept-asked u vars b a R P c d k s i (inside_maybe r o t') (length t) rel h.0
        (added-there g vars s (kept_subtypes (accept_kept u s i)) t (begins-trans (maybe-begins r (normal-adds u) o t') begins))
        (maybe o (b.accepting c i) (a.accepting d (head_left u s i (length t))) (k + 1) t' (P.accepting c d k s i (length t) rel h.0) h.1 begins)
    stmt (SWait x o s) c d k t rel h begins =
        let t' : List PDecl = after_alts r x t in
        let before : Begins t' vars = begins-trans (maybe-begins r (normal-adds u) o t') begins in
        let xs : PAlts = inside_alts r x t in
        let o' : PMaybe = inside_maybe r o t' in
        asked-join a d k (leads r (SWait x o s) t) (wait_image s xs o') (leads-asked u vars b a R P x c d k t rel h.3 before)
        (asked-join a d k (closed_test s o' (all_guards xs)) (stmt_then (SWait xs o' s) no_stmt)
        (closed-asked u vars b a R P c d k x (is_present o) s rel h.0 h.2 o' (all_guards xs) (guards-are u vars b a R P x t before)) (
          (
            P.outer c d k k s rel h.0 (omega arith),
            subst a.many (sym (alts-same r x t)) (P.many (alts_count x) h.1),
            subst (λ m. a.wait d k xs m s) (sym (present-same r o t')) (P.wait c d k x (is_present o) s t rel h.2 h.3),
            alts x c d (k + 1) t rel h.3 before,
            maybe o c d (k + 1) t' rel h.4 begins,
          ),
          tt,
        ))
    stmt (SConditional x l o s) c d k t rel h begins =
        let t' : List PDecl = statement_variables u t (SConditional x l o s) in
        let t2 : List PDecl = after_stmts r l t' in
        let second : Begins t2 vars = begins-trans (stmts-begin r (normal-adds u) o t2) begins in
        let first : Begins t' vars = begins-trans (stmts-begin r (normal-adds u) l t') second in
        let other : AskedSome a d (k + 1) (rewritten r o t2) = some o c d (k + 1) t2 rel h.5 begins in
        conditional-asked u vars b a R P c d k s x (length t) rel h.0 h.1 h.2 h.3 (added-there g vars s (select_subtypes g s x) t first) (rewritten r l t') (rewritten r o t2)
        (stmts l c d (k + 1) t' rel h.4 second) (asked-all a d (k + 1) (rewritten r o t2) other) other
    stmt (STimed x l n o s) c d k t rel h begins =
        let t' : List PDecl = statement_variables u t (STimed x l n o s) in
        let t2 : List PDecl = after_stmts r l t' in
        let second : Begins t2 vars = begins-trans (stmts-begin r (normal-adds u) o t2) begins in
        let first : Begins t' vars = begins-trans (stmts-begin r (normal-adds u) l t') second in
        timed-asked u vars b a R P c d k s x (length t) rel h.0 h.1 h.2 h.3 (added-there g vars s (select_subtypes g s x) t first) (rewritten r l t') (rewritten r o t2)
        (stmts l c d (k + 1) t' rel h.5 second) (stmts o c d (k + 1) t2 rel h.6 begins) n h.4
    stmt (SIf x o s) c d k t rel h begins =
        let t' : List PDecl = after_arms r x t in
        let before : Begins t' vars = begins-trans (maybe-begins r (normal-adds u) o t') begins in (
          (
            P.outer c d k k s rel h.0 (omega arith),
            subst a.many (sym (arms-same r x t)) (P.many (arms_count x) h.1),
            arms x c d (k + 1) t rel h.2 before,
            maybe o c d (k + 1) t' rel h.3 begins,
          ),
          tt,
        )
    stmt (SCase e x o s) c d k t rel h begins =
        let t' : List PDecl = after_case_arms r x t in
        let before : Begins t' vars = begins-trans (maybe-begins r (normal-adds u) o t') begins in (
          (
            P.outer c d k k s rel h.0 (omega arith),
            subst (λ xs. a.selector d (k + 1) e xs (is_present (inside_maybe r o t')) s) (sym (choices-same r x t))
                (subst (λ m. a.selector d (k + 1) e (arm_choices x) m s) (sym (present-same r o t')) (P.selector c d (k + 1) e (arm_choices x) (is_present o) s rel h.1)),
            case_arms x c d (k + 1) e t rel h.2 before,
            maybe o c d (k + 1) t' rel h.3 begins,
          ),
          tt,
        )
    stmt (SBlock x s) c d k t rel h begins = ((P.outer c d k k s rel h.0 (omega arith), body-of x c d (k + 1) t rel h.1 begins), tt)
    stmt (SLoop w x l s) c d k t rel h begins = (
      (
        P.outer c d k k s rel h.0 (omega arith),
        P.loop c d (k + 1) w x rel h.1,
        some l (b.looping c w x) (a.looping d w x) (k + 1) t (P.looping c d (k + 1) w x rel h.1) h.2 begins,
      ),
      tt,
    )

    stmts : (l : PStmts) (c : C) (d : D) (k : ℕ) (t : List PDecl) → R c d → AskedStmts b c k l → Begins (after_stmts r l t) vars → AskedStmts a d k (rewritten r l t)
    stmts no_stmt c d k t rel h begins = tt
    stmts (stmt_then x l) c d k t rel h begins =
        let t' : List PDecl = after_parts r x (r.entered_stmt t x) in
        asked-join a d k (r.replaced_stmt t (leads r x (r.entered_stmt t x)) (parts_rewritten r x (r.entered_stmt t x))) (rewritten r l t')
        (stmt x c d k t rel h.0 (begins-trans (stmts-begin r (normal-adds u) l t') begins))
        (stmts l c d k t' rel h.1 begins)

    some : (l : PStmts) (c : C) (d : D) (k : ℕ) (t : List PDecl) → R c d → AskedSome b c k l → Begins (after_stmts r l t) vars → AskedSome a d k (rewritten r l t)
    some no_stmt c d k t rel h begins = P.many 0 h
    some (stmt_then x l) c d k t rel h begins =
        let t' : List PDecl = after_parts r x (r.entered_stmt t x) in
        asked-some a P.some d k (rewritten r (stmt_then x l) t) (rewritten-some x l t)
        (asked-join a d k (r.replaced_stmt t (leads r x (r.entered_stmt t x)) (parts_rewritten r x (r.entered_stmt t x))) (rewritten r l t')
        (stmt x c d k t rel h.1 (begins-trans (stmts-begin r (normal-adds u) l t') begins))
        (stmts l c d k t' rel h.2 begins))

    maybe : (o : PMaybe) (c : C) (d : D) (k : ℕ) (t : List PDecl) → R c d → AskedMaybe b c k o → Begins (after_maybe r o t) vars → AskedMaybe a d k (inside_maybe r o t)
    maybe absent c d k t rel h begins = tt
    maybe (present l) c d k t rel h begins = some l c d k t rel h begins

    alts : (x : PAlts) (c : C) (d : D) (k : ℕ) (t : List PDecl) → R c d → AskedAlts b c k x → Begins (after_alts r x t) vars → AskedAlts a d k (inside_alts r x t)
    alts no_alt c d k t rel h begins = tt
    alts (alt_then (alternative None x s) l) c d k t rel h begins =
        let t1 : List PDecl = r.entered_alternative t (alternative None x s) in
        let t2 : List PDecl = after_kind r x t1 in
        let here : Begins t2 vars = begins-trans (alts-begin r (normal-adds u) l t2) begins in (
          P.outer c d k k s rel h.0 (omega arith),
          tt,
          kind x c d (k + 1) None s (length t) t1 rel h.2 (alternative-there u vars b a R P None x s t here) here,
          alts l c d k t2 rel h.3 begins,
        )
    alts (alt_then (alternative (Some e) x s) l) c d k t rel h begins =
        let t1 : List PDecl = r.entered_alternative t (alternative (Some e) x s) in
        let t2 : List PDecl = after_kind r x t1 in
        let here : Begins t2 vars = begins-trans (alts-begin r (normal-adds u) l t2) begins in
        let v : AreVariables g vars s (alternative_subtypes u (alternative (Some e) x s)) (length t) = alternative-there u vars b a R P (Some e) x s t here in (
          P.outer c d k k s rel h.0 (omega arith),
          P.guard_test c d k (k + 1) s (length t) rel h.0 v.0 (omega arith),
          kind x c d (k + 1) (Some e) s (length t) t1 rel h.2 v.1 here,
          alts l c d k t2 rel h.3 begins,
        )

    -- what stands in an alternative, where the variable of its index has the number behind that of its guard
    kind : (x : PAltKind) (c : C) (d : D) (k : ℕ) (guard : Option PExpr) (s : Span) (j : ℕ) (t : List PDecl) → R c d → AskedKind b c k guard s x →
        AreVariables g vars s (kept_subtypes (kind_kept u s x)) (behind_guard guard j) → Begins (after_kind r x t) vars →
        AskedKind a d k (option_map (λ e. variable g s j) guard) s (kind_left u s (inside_kind r x t) (behind_guard guard j))
    kind (AAccept (accepting i o) l) c d k guard s j t rel h v begins =
        let t' : List PDecl = after_maybe r o t in
        let n : ℕ = behind_guard guard j in (
          (
            head-asked u vars b a R P c d k s i n rel h.0.0 v,
            maybe o (b.accepting c i) (a.accepting d (head_left u s i n)) (k + 1) t (P.accepting c d k s i n rel h.0.0) h.0.1 (begins-trans (stmts-begin r (normal-adds u) l t') begins),
          ),
          stmts l c d k t' rel h.1 begins,
        )
    kind (ADelay n l) c d k guard s j t rel h v begins = (P.delay c d k guard (λ e. variable g s j) s rel h.0, P.duration n h.1, stmts l c d k t rel h.2 begins)
    kind ATerminate c d k guard s j t rel h v begins = tt

    arms : (x : PArms) (c : C) (d : D) (k : ℕ) (t : List PDecl) → R c d → AskedArms b c k x → Begins (after_arms r x t) vars → AskedArms a d k (inside_arms r x t)
    arms no_arm c d k t rel h begins = tt
    arms (arm_then (arm e l) rest) c d k t rel h begins =
        let t' : List PDecl = after_stmts r l t in
        (P.condition c d k e rel h.0, some l c d k t rel h.1 (begins-trans (arms-begin r (normal-adds u) rest t') begins), arms rest c d k t' rel h.2 begins)

    case_arms : (x : PCaseArms) (c : C) (d : D) (k : ℕ) (e : PExpr) (t : List PDecl) → R c d → AskedCaseArms b c k e x → Begins (after_case_arms r x t) vars → AskedCaseArms a d k e (inside_case_arms r x t)
    case_arms no_case_arm c d k e t rel h begins = tt
    case_arms (case_arm_then (case_arm cs l) rest) c d k e t rel h begins =
        let t' : List PDecl = after_stmts r l t in
        (P.choices c d k e cs rel h.0, some l c d k t rel h.1 (begins-trans (case_arms-begin r (normal-adds u) rest t') begins), case_arms rest c d k e t' rel h.2 begins)

    body-of : (x : PBody) (c : C) (d : D) (k : ℕ) (t : List PDecl) → R c d → AskedBody b c k x → Begins (after_body r x t) vars → AskedBody a d k (inside_body r x t)
    body-of (body l hs) c d k t rel h begins =
        let t' : List PDecl = after_stmts r l t in
        (some l c d k t rel h.0 (begins-trans (handlers-begin r (normal-adds u) hs t') begins), P.handlers hs t' h.1, handlers hs c d k [] t' rel h.2 begins)

    handlers : (x : PHandlers) (c : C) (d : D) (k : ℕ) (names : List ℕ) (t : List PDecl) → R c d → AskedHandlers b c k names x → Begins (after_handlers r x t) vars → AskedHandlers a d k names (inside_handlers r x t)
    handlers no_handler c d k names t rel h begins = tt
    handlers (handler_then (handler ws l s) rest) c d k names t rel h begins =
        let t' : List PDecl = after_stmts r l t in (
          P.outer c d k k s rel h.0 (omega arith),
          P.handler c d k names ws rel h.1,
          some l (b.handling c) (a.handling d) (k + 1) t (P.handling c d rel) h.2 (begins-trans (handlers-begin r (normal-adds u) rest t') begins),
          handlers rest c d k (with_words names ws) t' rel h.3 begins,
        )

  -- The body of a unit in the normal form is as asked, where the unit's variables are among those.
  pub body-keeps : (c : C) (d : D) (k : ℕ) (x : PBody) → R c d → AskedBody b c k x → Begins (after_body r x []) vars → AskedBody a d k (normal_body u x)
  body-keeps c d k x rel h begins = body-of x c d k [] rel h begins
