-- The statements of a unit in a replay text are as asked, from what is asked of those of the normal form and from the pieces.
use Rattle.std.proofs.Common.{◌≡◌, ℕ, ◌+◌, ◌≤◌, ◌==◌, Bool, true, false, if◌then◌else◌, List, [], ◌∷◌, length, refl, sym, subst, ◌∙◌, arith}
use Rattle.std.specs.List.{AllByRecursion}
use Rattle.ada_tree.specs.declared.naming.Span.{Span}
use Rattle.ada_tree.specs.PlainExpr.{PExpr}
use Rattle.ada_tree.specs.PlainStmt.{PCallee, PStmt, SNull, SAssign, SDelay, SExit, SRaise, SAbort, SCall, SAccept, SWait, SConditional, STimed, SPut, SPutLine, SNewLine, SGet, SIf, SCase, SBlock, SLoop, PStmts, no_stmt, stmt_then, PMaybe, absent, present, PAccept, accepting, PAlt, alternative, AAccept, ADelay, ATerminate, PAlts, no_alt, alt_then, PArms, no_arm, arm_then, arm, PCaseArms, no_case_arm, case_arm_then, case_arm, PBody, body, PHandlers, no_handler, handler_then, handler}
use Rattle.ada_tree.specs.Every.{alts_count, arms_count}
use Rattle.ada_static_rules.specs.Sites.{arm_choices, is_present, with_words}
use Rattle.task_model.specs.Frames.{in_front}
use Rattle.normal_model.specs.Making.{one}
use Rattle.normal_model.specs.Walk.{Rewriter, after_parts, after_stmts, after_maybe, after_alts, after_arms, after_case_arms, leads, parts_rewritten, rewritten, inside_maybe, inside_alts, inside_arms, inside_case_arms, inside_body, inside_handlers}
use Rattle.normal_model.specs.RewrittenUnit.{RewrittenUnit}
use Rattle.task_laws.specs.legal.asked.Asked.{Asks, AskedStmt, AskedStmts, AskedSome, AskedMaybe, AskedAlts, AskedArms, AskedCaseArms, AskedBody, AskedHandlers}
use Rattle.normal_laws.proofs.structure.asked.Lists.{HasStmt, some-front, some-back, asked-join, asked-some, asked-all}
use Rattle.replay_model.specs.Asking.{done, permit_is_for, ask_which, branch}
use Rattle.replay_model.specs.Serving.{serve, accept_image}
use Rattle.replay_model.specs.Waiting.{Pause, pauses_of, alternative_branches, else_branch, wait_image}
use Rattle.replay_model.specs.Calling.{plain_image, conditional_image, timed_image}
use Rattle.replay_model.specs.ReplayStmts.{task_called, abort_image, replay_image, replay_rewriter, with_handlers, last_kind, replay_body}
use Rattle.replay_structure.specs.asked.Pieces.{StandsAt, IsAlternative, first_alternative, later_alternative, Pieces}
use Rattle.replay_structure.proofs.asked.Kept.{still_parts, still_stmts, still_maybe, still_alts, still_arms, still_case_arms, no-leads, present-kept, choices-kept, pauses-kept}
use Rattle.replay_structure.proofs.asked.Asking.{done-asked, ask-only-asked, ask-which-asked}
use Rattle.replay_structure.proofs.asked.Serving.{serve-asked, serve-some, accept-asked}
use Rattle.replay_structure.proofs.asked.Calling.{plain-asked, conditional-asked, timed-asked}
use Rattle.replay_structure.proofs.asked.Waiting.{pausing-asked, ending-asked, passing-asked}

module _ {C D : Type 0} (u : RewrittenUnit) (H : ℕ → Type 0) (b : Asks C) (a : Asks D) (R : C → D → Type 0) (P : Pieces u H b a R) where
  abbrev r : Rewriter RewrittenUnit
  r = replay_rewriter

  -- ---- aborts

  callees : (c : C) (d : D) (k n : ℕ) (xs : List PCallee) → R c d → H k → AllByRecursion (b.callee c (k + 1)) xs → StandsAt (k + 1) n → AllByRecursion (a.callee d n) xs
  callees c d k n [] rel near h le = tt
  callees c d k n (x ∷ xs) rel near h le = (P.callee c d k (k + 1) n x rel near (omega arith, omega arith) h.0 le, callees c d k n xs rel near h.1 le)

  abort-asked : (c : C) (d : D) (k n : ℕ) (s : Span) (x : PCallee) → R c d → b.outer c k s → b.aborts c (k + 1) (x ∷ []) → b.callee c (k + 1) x → StandsAt k n → AskedStmts a d n (abort_image u s x)
  abort-asked c d k n s x rel o q i le =
      ask-which-asked u H b a R P c d k s rel h n (branch (permit_is_for u s 9 (task_called u x)) (stmt_then (SAbort (x ∷ []) s) (if task_called u x == u.task then no_stmt else one (done u s))) no_arm) (omega (arith, le)) (P.some 0)
      (P.aborted c d k (n + 1) s x rel h i (omega (arith, le)), (P.some _, gone, said (task_called u x == u.task)), tt)
    where
      h : H k
      h = P.here c k s o

      gone : AskedStmt a d (n + 1) (SAbort (x ∷ []) s)
      gone = (P.outer c d k (n + 1) s rel h (omega (arith, le)), P.aborts c d (k + 1) ((n + 1) + 1) (x ∷ []) rel q (omega (arith, le)), callees c d k ((n + 1) + 1) (x ∷ []) rel h (i, tt) (omega (arith, le)))

      said : (own : Bool) → AskedStmts a d (n + 1) (if own then no_stmt else one (done u s))
      said true = tt
      said false = (done-asked u H b a R P c d k s rel h (n + 1) (omega (arith, le)), tt)

  -- ---- what stands for a statement is one at least

  image-some : (t : RewrittenUnit) (x : PStmt) → HasStmt (replay_image t x)
  image-some t (SAbort [] s) = tt
  image-some t (SAbort (x ∷ []) s) = tt
  image-some t (SAbort (x ∷ y ∷ xs) s) = tt
  image-some t (SAccept x s) = accept-some x
    where
      accept-some : (x : PAccept) → HasStmt (accept_image t s x)
      accept-some (accepting h o) = tt
  image-some t (SWait x o s) = tt
  image-some t (SConditional x l o s) = tt
  image-some t (STimed x l d o s) = tt
  image-some t (SCall x s) = tt
  image-some t (SNull s) = tt
  image-some t (SAssign x e s) = tt
  image-some t (SDelay d s) = tt
  image-some t (SExit w e s) = tt
  image-some t (SRaise w s) = tt
  image-some t (SPut ps s) = tt
  image-some t (SPutLine ps s) = tt
  image-some t (SNewLine s) = tt
  image-some t (SGet x s) = tt
  image-some t (SIf x o s) = tt
  image-some t (SCase e x o s) = tt
  image-some t (SBlock x s) = tt
  image-some t (SLoop w c l s) = tt

  rewritten-some : (x : PStmt) (l : PStmts) (t : RewrittenUnit) → HasStmt (rewritten r (stmt_then x l) t)
  rewritten-some x l t = some-front (r.replaced_stmt t (leads r x t) (parts_rewritten r x t)) _ (some-back (leads r x t) _ (image-some t (parts_rewritten r x t)))

  -- ---- branches of a wait

  branches-many : (s : Span) (ps : List Pause) (x : PAlts) (o : PMaybe) (t v : RewrittenUnit) → b.many (alts_count x) → a.many (arms_count (alternative_branches u ps (else_branch u s (inside_maybe r o v)) (inside_alts r x t) 1))
  branches-many s ps no_alt absent t v h = P.many 0 h
  branches-many s ps no_alt (present l) t v h = P.some 0
  branches-many s ps (alt_then (alternative g (AAccept y l) p) rest) o t v h = P.some _
  branches-many s ps (alt_then (alternative g (ADelay n l) p) rest) o t v h = P.some _
  branches-many s ps (alt_then (alternative g ATerminate p) rest) o t v h = P.some _

  -- what stands for a wait, by its branches
  wait-asked : (x : PAlts) (o : PMaybe) (s : Span) (c : C) (d : D) (k n : ℕ) (t v : RewrittenUnit) → t ≡ u → R c d → StandsAt k n → H k → b.many (alts_count x) →
      AskedArms a d (n + 1) (alternative_branches u (pauses_of x) (else_branch u s (inside_maybe r o v)) (inside_alts r x t) 1) →
      AskedStmts a d n (in_front (leads r (SWait x o s) t) (wait_image t s (inside_alts r x t) (inside_maybe r o v)))
  wait-asked x o s c d k n t v e rel le near some_alts asked =
      let xs : PAlts = inside_alts r x t in
      let others : PArms = else_branch u s (inside_maybe r o v) in
      subst (λ l. AskedStmts a d n (in_front l (wait_image t s xs (inside_maybe r o v)))) (sym (no-leads x t))
      (subst (λ q. AskedStmts a d n (wait_image q s xs (inside_maybe r o v))) (sym e)
      (subst (λ ps. AskedStmts a d n (ask_which u s (alternative_branches u ps others xs 1))) (sym (pauses-kept x t))
      (ask-which-asked u H b a R P c d k s rel near n (alternative_branches u (pauses_of x) others xs 1) (omega (arith, le)) (branches-many s (pauses_of x) x o t v some_alts) asked)))

  arms-many : (x : PArms) (t : RewrittenUnit) → b.many (arms_count x) → a.many (arms_count (inside_arms r x t))
  arms-many no_arm t h = P.many 0 h
  arms-many (arm_then (arm e l) rest) t h = P.some _

  -- ---- statements

  mutual
    stmt : (x : PStmt) (c : C) (d : D) (k n : ℕ) (t : RewrittenUnit) → t ≡ u → R c d → StandsAt k n → AskedStmt b c k x → AskedStmts a d n (in_front (leads r x t) (replay_image t (parts_rewritten r x t)))
    stmt (SNull s) c d k n t e rel le h = (P.plain c d k n (SNull s) tt rel h le, tt)
    stmt (SAssign x y s) c d k n t e rel le h = (P.plain c d k n (SAssign x y s) tt rel h le, tt)
    stmt (SDelay m s) c d k n t e rel le h = (P.plain c d k n (SDelay m s) tt rel h le, tt)
    stmt (SExit w y s) c d k n t e rel le h = (P.plain c d k n (SExit w y s) tt rel h le, tt)
    stmt (SRaise w s) c d k n t e rel le h = (P.plain c d k n (SRaise w s) tt rel h le, tt)
    stmt (SPut ps s) c d k n t e rel le h = (P.plain c d k n (SPut ps s) tt rel h le, tt)
    stmt (SPutLine ps s) c d k n t e rel le h = (P.plain c d k n (SPutLine ps s) tt rel h le, tt)
    stmt (SNewLine s) c d k n t e rel le h = (P.plain c d k n (SNewLine s) tt rel h le, tt)
    stmt (SGet x s) c d k n t e rel le h = (P.plain c d k n (SGet x s) tt rel h le, tt)
    stmt (SAbort [] s) c d k n t e rel le h = ((P.outer c d k n s rel (P.here c k s h.0) (omega (arith, le)), P.aborts c d (k + 1) (n + 1) [] rel h.1 (omega (arith, le)), tt), tt)
    stmt (SAbort (x ∷ []) s) c d k n t e rel le h = subst (λ v. AskedStmts a d n (abort_image v s x)) (sym e) (abort-asked c d k n s x rel h.0 h.1 h.2.0 le)
    stmt (SAbort (x ∷ y ∷ xs) s) c d k n t e rel le h =
        ((P.outer c d k n s rel (P.here c k s h.0) (omega (arith, le)), P.aborts c d (k + 1) (n + 1) (x ∷ y ∷ xs) rel h.1 (omega (arith, le)), callees c d k (n + 1) (x ∷ y ∷ xs) rel (P.here c k s h.0) h.2 (omega (arith, le))), tt)
    stmt (SCall x s) c d k n t e rel le h =
        subst (λ v. AskedStmts a d n (plain_image v s x)) (sym e) (plain-asked u H b a R P c d k (k + 1) s x rel (P.here c k s h.0) (omega arith, omega arith) h.1 h.2 n le)
    stmt (SAccept (accepting i o) s) c d k n t e rel le h =
        subst (λ v. AskedStmts a d n (accept_image v s (accepting i (inside_maybe r o t)))) (sym e)
        (accept-asked u H b a R P c d k s i rel h.0 n (inside_maybe r o t) le (maybe o (b.accepting c i) (a.accepting d i) (k + 1) ((((n + 1) + 1) + 1) + 1) t e (P.in_accept c d k i rel h.0) (omega (arith, le)) h.1))
    stmt (SWait x o s) c d k n t e rel le h =
        let v : RewrittenUnit = after_alts r x t in
        let f : v ≡ u = still_alts x t ∙ e in
        let near : H k = P.here c k s h.0 in
        wait-asked x o s c d k n t v e rel le near h.1
        (branches x c d k n t e rel near le x (is_present o) s h.2 h.3 1 (omega arith) (λ y i. i) (else_branch u s (inside_maybe r o v)) (else-asked o c d k n s v f rel near le x h.2 h.3 h.4) h.3)
    stmt (SConditional x l o s) c d k n t e rel le h =
        subst (λ v. AskedStmts a d n (conditional_image v s x (rewritten r l t) (rewritten r o (after_stmts r l t)))) (sym e)
        (conditional-asked u H b a R P c d k (k + 2) s x rel (P.here c k s h.0) (omega arith, omega arith) h.2 h.3 n (rewritten r l t) (rewritten r o (after_stmts r l t)) le
        (stmts l c d (k + 1) (n + 1) t e rel (omega (arith, le)) h.4)
        (stmts o c d (k + 1) (n + 1) (after_stmts r l t) (still_stmts l t ∙ e) rel (omega (arith, le)) (asked-all b c (k + 1) o h.5)))
    stmt (STimed x l m o s) c d k n t e rel le h =
        subst (λ v. AskedStmts a d n (timed_image v s x (rewritten r l t) m (rewritten r o (after_stmts r l t)))) (sym e)
        (timed-asked u H b a R P c d k (k + 2) s x rel (P.here c k s h.0) (omega arith, omega arith) h.2 h.3 n (rewritten r l t) m (rewritten r o (after_stmts r l t)) le h.4
        (stmts l c d (k + 1) (n + 1) t e rel (omega (arith, le)) h.5)
        (stmts o c d (k + 1) (n + 1) (after_stmts r l t) (still_stmts l t ∙ e) rel (omega (arith, le)) h.6))
    stmt (SIf x o s) c d k n t e rel le h = (
      (
        P.outer c d k n s rel (P.here c k s h.0) (omega (arith, le)),
        arms-many x t h.1,
        arms x c d (k + 1) (n + 1) t e rel (omega (arith, le)) h.2,
        maybe o c d (k + 1) (n + 1) (after_arms r x t) (still_arms x t ∙ e) rel (omega (arith, le)) h.3,
      ),
      tt,
    )
    stmt (SCase y x o s) c d k n t e rel le h =
        let v : RewrittenUnit = after_case_arms r x t in (
          (
            P.outer c d k n s rel (P.here c k s h.0) (omega (arith, le)),
            subst (λ m. a.selector d (n + 1) y (arm_choices (inside_case_arms r x t)) m s) (sym (present-kept o v))
                (subst (λ cs. a.selector d (n + 1) y cs (is_present o) s) (sym (choices-kept x t)) (P.selector c d (k + 1) (n + 1) y (arm_choices x) (is_present o) s rel h.1 (omega (arith, le)))),
            case_arms x c d (k + 1) (n + 1) y t e rel (omega (arith, le)) h.2,
            maybe o c d (k + 1) (n + 1) v (still_case_arms x t ∙ e) rel (omega (arith, le)) h.3,
          ),
          tt,
        )
    stmt (SBlock x s) c d k n t e rel le h = ((P.outer c d k n s rel (P.here c k s h.0) (omega (arith, le)), body-of x c d (k + 1) (n + 1) t e rel (omega (arith, le)) h.1), tt)
    stmt (SLoop w x l s) c d k n t e rel le h = (
      (
        P.outer c d k n s rel (P.here c k s h.0) (omega (arith, le)),
        P.loop c d (k + 1) (n + 1) w x rel h.1 (omega (arith, le)),
        some l (b.looping c w x) (a.looping d w x) (k + 1) (n + 1) t e (P.looping c d (k + 1) w x rel h.1) (omega (arith, le)) h.2,
      ),
      tt,
    )

    stmts : (l : PStmts) (c : C) (d : D) (k n : ℕ) (t : RewrittenUnit) → t ≡ u → R c d → StandsAt k n → AskedStmts b c k l → AskedStmts a d n (rewritten r l t)
    stmts no_stmt c d k n t e rel le h = tt
    stmts (stmt_then x l) c d k n t e rel le h =
        asked-join a d n (in_front (leads r x t) (replay_image t (parts_rewritten r x t))) (rewritten r l (after_parts r x t))
        (stmt x c d k n t e rel le h.0) (stmts l c d k n (after_parts r x t) (still_parts x t ∙ e) rel le h.1)

    some : (l : PStmts) (c : C) (d : D) (k n : ℕ) (t : RewrittenUnit) → t ≡ u → R c d → StandsAt k n → AskedSome b c k l → AskedSome a d n (rewritten r l t)
    some no_stmt c d k n t e rel le h = P.many 0 h
    some (stmt_then x l) c d k n t e rel le h =
        asked-some a P.some d n (rewritten r (stmt_then x l) t) (rewritten-some x l t)
        (asked-join a d n (in_front (leads r x t) (replay_image t (parts_rewritten r x t))) (rewritten r l (after_parts r x t))
        (stmt x c d k n t e rel le h.1) (stmts l c d k n (after_parts r x t) (still_parts x t ∙ e) rel le h.2))

    maybe : (o : PMaybe) (c : C) (d : D) (k n : ℕ) (t : RewrittenUnit) → t ≡ u → R c d → StandsAt k n → AskedMaybe b c k o → AskedMaybe a d n (inside_maybe r o t)
    maybe absent c d k n t e rel le h = tt
    maybe (present l) c d k n t e rel le h = some l c d k n t e rel le h

    arms : (x : PArms) (c : C) (d : D) (k n : ℕ) (t : RewrittenUnit) → t ≡ u → R c d → StandsAt k n → AskedArms b c k x → AskedArms a d n (inside_arms r x t)
    arms no_arm c d k n t e rel le h = tt
    arms (arm_then (arm y l) rest) c d k n t e rel le h =
        (P.condition c d k n y rel h.0 le, some l c d k n t e rel le h.1, arms rest c d k n (after_stmts r l t) (still_stmts l t ∙ e) rel le h.2)

    case_arms : (x : PCaseArms) (c : C) (d : D) (k n : ℕ) (y : PExpr) (t : RewrittenUnit) → t ≡ u → R c d → StandsAt k n → AskedCaseArms b c k y x → AskedCaseArms a d n y (inside_case_arms r x t)
    case_arms no_case_arm c d k n y t e rel le h = tt
    case_arms (case_arm_then (case_arm cs l) rest) c d k n y t e rel le h =
        (P.choices c d k n y cs rel h.0 le, some l c d k n t e rel le h.1, case_arms rest c d k n y (after_stmts r l t) (still_stmts l t ∙ e) rel le h.2)

    body-of : (x : PBody) (c : C) (d : D) (k n : ℕ) (t : RewrittenUnit) → t ≡ u → R c d → StandsAt k n → AskedBody b c k x → AskedBody a d n (inside_body r x t)
    body-of (body l hs) c d k n t e rel le h =
        let v : RewrittenUnit = after_stmts r l t in
        let f : v ≡ u = still_stmts l t ∙ e in
        (some l c d k n t e rel le h.0, subst (λ x. a.handlers (inside_handlers r hs x)) (sym f) (P.handlers hs h.1), handlers hs c d k n [] v f rel le h.2)

    handlers : (x : PHandlers) (c : C) (d : D) (k n : ℕ) (names : List ℕ) (t : RewrittenUnit) → t ≡ u → R c d → StandsAt k n → AskedHandlers b c k names x → AskedHandlers a d n names (inside_handlers r x t)
    handlers no_handler c d k n names t e rel le h = tt
    handlers (handler_then (handler ws l s) rest) c d k n names t e rel le h = (
      P.outer c d k n s rel (P.here c k s h.0) (omega (arith, le)),
      P.handler c d k n names ws rel h.1 le,
      some l (b.handling c) (a.handling d) (k + 1) (n + 1) t e (P.handling c d rel) (omega (arith, le)) h.2,
      handlers rest c d k n (with_words names ws) (after_stmts r l t) (still_stmts l t ∙ e) rel le h.3,
    )

    -- the branch of the else part of a wait with these alternatives
    else-asked : (o : PMaybe) (c : C) (d : D) (k n : ℕ) (s : Span) (t : RewrittenUnit) → t ≡ u → R c d → H k → StandsAt k n → (x : PAlts) → b.wait c k x (is_present o) s → AskedAlts b c (k + 1) x → AskedMaybe b c (k + 1) o →
        AskedArms a d (n + 1) (else_branch u s (inside_maybe r o t))
    else-asked absent c d k n s t e rel near le x w all h = tt
    else-asked (present l) c d k n s t e rel near le x w all h = (
      P.passes c d k (n + 1) s rel near (omega (arith, le)),
      (
        P.some _,
        passing-asked u H b a R P c d k (n + 1) s x s rel near w all (omega (arith, le)),
        (done-asked u H b a R P c d k s rel near (n + 1) (omega (arith, le)), asked-all a d (n + 1) (rewritten r l t) (some l c d (k + 1) (n + 1) t e rel (omega (arith, le)) h)),
      ),
      tt,
    )

    -- the branches of the last alternatives of a wait, whose delays are numbered from a number on
    branches : (x : PAlts) (c : C) (d : D) (k n : ℕ) (t : RewrittenUnit) → t ≡ u → R c d → H k → StandsAt k n →
        (whole : PAlts) (els : Bool) (place : Span) → b.wait c k whole els place → AskedAlts b c (k + 1) whole →
        (j : ℕ) → j + length (pauses_of x) ≤ 1 + length (pauses_of whole) → ((y : PAlt) → IsAlternative y x → IsAlternative y whole) →
        (others : PArms) → AskedArms a d (n + 1) others → AskedAlts b c (k + 1) x →
        AskedArms a d (n + 1) (alternative_branches u (pauses_of whole) others (inside_alts r x t) j)
    branches no_alt c d k n t e rel near le whole els place w all j few sub others q h = q
    branches (alt_then (alternative g (AAccept (accepting i o) l) s) rest) c d k n t e rel near le whole els place w all j few sub others q h =
        let v : RewrittenUnit = after_maybe r o t in
        let f : v ≡ u = still_maybe o t ∙ e in
        let l' : PStmts = rewritten r l v in
        let o' : PMaybe = inside_maybe r o t in
        let first : PStmts = serve u s (accepting i o') in
        let kept : AskedMaybe a (a.accepting d i) ((((n + 1) + 1) + 1) + 1) o' =
        maybe o (b.accepting c i) (a.accepting d i) (((k + 1) + 1) + 1) ((((n + 1) + 1) + 1) + 1) t e (P.in_accept c d ((k + 1) + 1) i rel h.2.0.0) (omega (arith, le)) h.2.0.1 in (
          P.taken c d k (n + 1) whole els place g i o l s rel near w all (sub (alternative g (AAccept (accepting i o) l) s) (first_alternative rest)) (omega (arith, le)),
          asked-some a P.some d (n + 1) (in_front first l') (some-front first l' (serve-some u H b a R P c d ((k + 1) + 1) s i rel h.2.0.0 n o'))
              (asked-join a d (n + 1) first l' (serve-asked u H b a R P c d ((k + 1) + 1) s i rel h.2.0.0 (n + 1) o' (omega (arith, le)) kept)
              (stmts l c d ((k + 1) + 1) (n + 1) v f rel (omega (arith, le)) h.2.1)),
          branches rest c d k n (after_stmts r l v) (still_stmts l v ∙ f) rel near le whole els place w all j few (λ y m. sub y (later_alternative (alternative g (AAccept (accepting i o) l) s) rest m)) others q h.3,
        )
    branches (alt_then (alternative g (ADelay m l) s) rest) c d k n t e rel near le whole els place w all j few sub others q h = (
      P.due c d k (n + 1) whole els place g m l s j rel near w all (sub (alternative g (ADelay m l) s) (first_alternative rest)) (omega (arith, few)) (omega (arith, le)),
      (
        P.some _,
        pausing-asked u H b a R P c d k s rel near whole els place w all (n + 1) j (omega (arith, le)),
        (done-asked u H b a R P c d k s rel near (n + 1) (omega (arith, le)), stmts l c d ((k + 1) + 1) (n + 1) t e rel (omega (arith, le)) h.2.2),
      ),
      branches rest c d k n (after_stmts r l t) (still_stmts l t ∙ e) rel near le whole els place w all (j + 1) (omega (arith, few)) (λ y i. sub y (later_alternative (alternative g (ADelay m l) s) rest i)) others q h.3,
    )
    branches (alt_then (alternative g ATerminate s) rest) c d k n t e rel near le whole els place w all j few sub others q h = (
      P.ends c d k (n + 1) whole els place g s rel near w all (sub (alternative g ATerminate s) (first_alternative rest)) (omega (arith, le)),
      (P.some 0, ending-asked u H b a R P c d k s rel near whole els place w all (n + 1) (omega (arith, le)), tt),
      branches rest c d k n t e rel near le whole els place w all j few (λ y i. sub y (later_alternative (alternative g ATerminate s) rest i)) others q h.3,
    )

  -- ---- units

  few-kinds : (m : ℕ) → last_kind m ≤ 10
  few-kinds m = by_test (m == 0)
    where
      by_test : (c : Bool) → (if c then 10 else 8) ≤ 10
      by_test true = omega arith
      by_test false = omega arith

  -- with handlers or without, the statements of a body stand one or two deeper
  with-handlers : (x : PBody) (c : C) (d : D) (k : ℕ) (s : Span) → R c d → H k → 1 ≤ k → AskedBody b c k x → AskedSome a d (k + 1) (with_handlers s (inside_body r x u))
  with-handlers (body l no_handler) c d k s rel near low h = some l c d k (k + 1) u refl rel (omega (arith, low)) h.0
  with-handlers (body l (handler_then (handler ws m p) hs)) c d k s rel near low h =
      (P.some 0, (P.outer c d k (k + 1) s rel near (omega arith), body-of (body l (handler_then (handler ws m p) hs)) c d k ((k + 1) + 1) u refl rel (omega (arith, low)) h), tt)

  -- The body of a unit in a replay text is as asked.
  pub replay-keeps : (c : C) (d : D) (k : ℕ) (s : Span) (x : PBody) → R c d → H k → 1 ≤ k → AskedBody b c k x → AskedBody a d k (replay_body u s x)
  replay-keeps c d k s x rel near low h = (
    (
      P.some 2,
      (
        P.outer c d k k s rel near (omega arith),
        (
          with-handlers x c d k s rel near low h,
          P.others s _,
          (
            P.outer c d k (k + 1) s rel near (omega arith),
            P.other c d k (k + 1) rel near (omega arith),
            (P.some 0, P.null (b.handling c) (a.handling d) k ((k + 1) + 1) s (P.handling c d rel) near (omega arith), tt),
            tt,
          ),
        ),
      ),
      ask-only-asked u H b a R P c d k s rel near k (last_kind u.task) (few-kinds u.task) (omega arith),
    ),
    P.no_others,
    tt,
  )
