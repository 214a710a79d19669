-- The statements of a unit in a collecting text are as asked, from what is asked of those of the normal form and from the pieces.
use Rattle.std.proofs.Common.{◌≡◌, ℕ, ◌+◌, ◌≤◌, Bool, List, [], ◌∷◌, Option, Some, None, IfSome, refl, sym, subst, arith}
use Rattle.std.specs.List.{AllByRecursion}
use Rattle.ada_tree.specs.declared.naming.Span.{Span}
use Rattle.ada_tree.specs.PlainExpr.{PExpr}
use Rattle.ada_tree.specs.PlainStmt.{PCallee, PStmt, SNull, SAssign, SDelay, SExit, SRaise, SAbort, SCall, SAccept, SWait, SConditional, STimed, SPut, SPutLine, SNewLine, SGet, SIf, SCase, SBlock, SLoop, PStmts, no_stmt, stmt_then, PMaybe, absent, present, accepting, alternative, AAccept, ADelay, ATerminate, PAlts, no_alt, alt_then, PArms, no_arm, arm_then, arm, PCaseArms, no_case_arm, case_arm_then, case_arm, PBody, body, PHandlers, no_handler, handler_then, handler}
use Rattle.ada_tree.specs.Every.{alts_count, arms_count}
use Rattle.ada_static_rules.specs.Sites.{arm_choices, is_present, with_words}
use Rattle.task_model.specs.Frames.{in_front}
use Rattle.normal_model.specs.Walk.{Rewriter, after_parts, after_stmts, after_maybe, after_alts, after_arms, after_case_arms, leads, parts_rewritten, rewritten, inside_maybe, inside_alts, inside_arms, inside_case_arms, inside_body, inside_handlers}
use Rattle.task_laws.specs.legal.asked.Asked.{Asks, AskedStmt, AskedStmts, AskedSome, AskedMaybe, AskedAlts, AskedArms, AskedCaseArms, AskedBody, AskedHandlers}
use Rattle.normal_laws.proofs.structure.asked.Lists.{HasStmt, some-front, some-back, asked-join, asked-some, asked-all}
use Rattle.replay_model.specs.ReplayStmts.{with_handlers}
use Rattle.replay_structure.specs.asked.Pieces.{StandsAt}
use Rattle.collect_model.specs.Teller.{Teller}
use Rattle.collect_model.specs.Serving.{head_telling}
use Rattle.collect_model.specs.Waiting.{alternatives_told, else_told}
use Rattle.collect_model.specs.CollectStmts.{collect_image, collect_rewriter, main_body, task_body}
use Rattle.collect_structure.specs.asked.Pieces.{Pieces}
use Rattle.collect_structure.proofs.asked.Kept.{no-leads, present-kept, choices-kept}
use Rattle.collect_structure.proofs.asked.Telling.{own-asked, plain-asked, conditional-asked, timed-asked, accept-asked}

module _ {C D : Type 0} (u : Teller) (H : ℕ → Type 0) (b : Asks C) (a : Asks D) (R : C → D → Type 0) (P : Pieces u H b a R) where
  abbrev r : Rewriter ℕ
  r = collect_rewriter u

  callees : (c : C) (d : D) (k n : ℕ) (xs : List PCallee) → R c d → H k → AllByRecursion (b.callee c (k + 1)) xs → StandsAt (k + 1) n → AllByRecursion (a.callee d n) xs
  callees c d k n [] rel near h le = tt
  callees c d k n (x ∷ xs) rel near h le = (P.callee c d k (k + 1) n x rel near (omega arith, omega arith) h.0 le, callees c d k n xs rel near h.1 le)

  -- ---- what stands for a statement is one at least

  image-some : (x : PStmt) → HasStmt (collect_image u x)
  image-some (SAbort xs s) = tt
  image-some (SAccept x s) = tt
  image-some (SWait x o s) = tt
  image-some (SConditional x l o s) = tt
  image-some (STimed x l d o s) = tt
  image-some (SCall x s) = tt
  image-some (SNull s) = tt
  image-some (SAssign x e s) = tt
  image-some (SDelay d s) = tt
  image-some (SExit w e s) = tt
  image-some (SRaise w s) = tt
  image-some (SPut ps s) = tt
  image-some (SPutLine ps s) = tt
  image-some (SNewLine s) = tt
  image-some (SGet x s) = tt
  image-some (SIf x o s) = tt
  image-some (SCase e x o s) = tt
  image-some (SBlock x s) = tt
  image-some (SLoop w c l s) = tt

  rewritten-some : (x : PStmt) (l : PStmts) (t : ℕ) → HasStmt (rewritten r (stmt_then x l) t)
  rewritten-some x l t = some-front (r.replaced_stmt t (leads r x t) (parts_rewritten r x t)) _ (some-back (leads r x t) _ (image-some (parts_rewritten r x t)))

  arms-many : (x : PArms) (t : ℕ) → b.many (arms_count x) → a.many (arms_count (inside_arms r x t))
  arms-many no_arm t h = P.many 0 h
  arms-many (arm_then (arm e l) rest) t h = P.some _

  alts-many : (x : PAlts) (t k : ℕ) → b.many (alts_count x) → a.many (alts_count (alternatives_told u (inside_alts r x t) k))
  alts-many no_alt t k h = P.many 0 h
  alts-many (alt_then (alternative g y s) rest) t k h = P.some _

  guard : (g : Option PExpr) (c : C) (d : D) (k n : ℕ) → R c d → StandsAt k n → IfSome g (b.condition c k) → IfSome g (a.condition d n)
  guard None c d k n rel le h = tt
  guard (Some e) c d k n rel le h = P.condition c d k n e rel h le

  else-present : (o : PMaybe) (s : Span) (t : ℕ) → is_present (else_told u s (inside_maybe r o t)) ≡ is_present o
  else-present absent s t = refl
  else-present (present l) s t = refl

  -- ---- statements

  mutual
    stmt : (x : PStmt) (c : C) (d : D) (k n t : ℕ) → R c d → StandsAt k n → AskedStmt b c k x → AskedStmts a d n (in_front (leads r x t) (collect_image u (parts_rewritten r x t)))
    stmt (SNull s) c d k n t rel le h = (P.plain c d k n (SNull s) tt rel h le, tt)
    stmt (SAssign x y s) c d k n t rel le h = (P.plain c d k n (SAssign x y s) tt rel h le, tt)
    stmt (SDelay m s) c d k n t rel le h = (P.plain c d k n (SDelay m s) tt rel h le, tt)
    stmt (SExit w y s) c d k n t rel le h = (P.plain c d k n (SExit w y s) tt rel h le, tt)
    stmt (SRaise w s) c d k n t rel le h = (P.plain c d k n (SRaise w s) tt rel h le, tt)
    stmt (SPut ps s) c d k n t rel le h = (P.plain c d k n (SPut ps s) tt rel h le, tt)
    stmt (SPutLine ps s) c d k n t rel le h = (P.plain c d k n (SPutLine ps s) tt rel h le, tt)
    stmt (SNewLine s) c d k n t rel le h = (P.plain c d k n (SNewLine s) tt rel h le, tt)
    stmt (SGet x s) c d k n t rel le h = (P.plain c d k n (SGet x s) tt rel h le, tt)
    stmt (SAbort xs s) c d k n t rel le h =
        ((P.outer c d k n s rel (P.here c k s h.0) (omega (arith, le)), P.aborts c d (k + 1) (n + 1) xs rel h.1 (omega (arith, le)), callees c d k (n + 1) xs rel (P.here c k s h.0) h.2 (omega (arith, le))), tt)
    stmt (SCall x s) c d k n t rel le h = plain-asked u H b a R P c d k (k + 1) s x rel (P.here c k s h.0) (omega arith, omega arith) h.1 h.2 n le refl
    stmt (SAccept (accepting i o) s) c d k n t rel le h = (
      accept-asked u H b a R P c d k s i rel h.0 n (inside_maybe r o t) le
          (maybe o (b.accepting c i) (a.accepting d (head_telling u i)) (k + 1) ((n + 1) + 1) t (P.in_accept c d k i rel h.0) (omega (arith, le)) h.1),
      tt,
    )
    stmt (SWait x o s) c d k n t rel le h =
        subst (λ l. AskedStmts a d n (in_front l (collect_image u (SWait (inside_alts r x t) (inside_maybe r o (after_alts r x t)) s)))) (sym (no-leads u x t)) (
          (
            P.outer c d k n s rel (P.here c k s h.0) (omega (arith, le)),
            alts-many x t 1 h.1,
            subst (λ others. a.wait d n (alternatives_told u (inside_alts r x t) 1) others s) (sym (else-present o s (after_alts r x t))) (P.wait c d k n x (is_present o) s t rel (P.here c k s h.0) h.2 h.3 le),
            alts x c d k n t 1 rel (P.here c k s h.0) le x (is_present o) s h.2 (omega arith) h.3,
            else-asked o c d k n s (after_alts r x t) rel (P.here c k s h.0) le h.4,
          ),
          tt,
        )
    stmt (SConditional x l o s) c d k n t rel le h =
        conditional-asked u H b a R P c d k (k + 2) s x rel (P.here c k s h.0) (omega arith, omega arith) h.2 h.3 n le (rewritten r l t) (rewritten r o (after_stmts r l t)) refl
        (stmts l c d (k + 1) (n + 1) t rel (omega (arith, le)) h.4)
        (stmts o c d (k + 1) (n + 1) (after_stmts r l t) rel (omega (arith, le)) (asked-all b c (k + 1) o h.5))
    stmt (STimed x l m o s) c d k n t rel le h =
        timed-asked u H b a R P c d k (k + 2) s x rel (P.here c k s h.0) (omega arith, omega arith) h.2 h.3 n le (rewritten r l t) m (rewritten r o (after_stmts r l t)) refl h.4
        (stmts l c d (k + 1) (n + 1) t rel (omega (arith, le)) h.5)
        (stmts o c d (k + 1) (n + 1) (after_stmts r l t) rel (omega (arith, le)) h.6)
    stmt (SIf x o s) c d k n t rel le h = (
      (
        P.outer c d k n s rel (P.here c k s h.0) (omega (arith, le)),
        arms-many x t h.1,
        arms x c d (k + 1) (n + 1) t rel (omega (arith, le)) h.2,
        maybe o c d (k + 1) (n + 1) (after_arms r x t) rel (omega (arith, le)) h.3,
      ),
      tt,
    )
    stmt (SCase y x o s) c d k n t rel le h =
        let v : ℕ = after_case_arms r x t in (
          (
            P.outer c d k n s rel (P.here c k s h.0) (omega (arith, le)),
            subst (λ m. a.selector d (n + 1) y (arm_choices (inside_case_arms r x t)) m s) (sym (present-kept u o v))
                (subst (λ cs. a.selector d (n + 1) y cs (is_present o) s) (sym (choices-kept u x t)) (P.selector c d (k + 1) (n + 1) y (arm_choices x) (is_present o) s rel h.1 (omega (arith, le)))),
            case_arms x c d (k + 1) (n + 1) y t rel (omega (arith, le)) h.2,
            maybe o c d (k + 1) (n + 1) v rel (omega (arith, le)) h.3,
          ),
          tt,
        )
    stmt (SBlock x s) c d k n t rel le h = ((P.outer c d k n s rel (P.here c k s h.0) (omega (arith, le)), body-of x c d (k + 1) (n + 1) t rel (omega (arith, le)) h.1), tt)
    stmt (SLoop w x l s) c d k n t rel le h = (
      (
        P.outer c d k n s rel (P.here c k s h.0) (omega (arith, le)),
        P.loop c d (k + 1) (n + 1) w x rel h.1 (omega (arith, le)),
        some l (b.looping c w x) (a.looping d w x) (k + 1) (n + 1) t (P.looping c d (k + 1) w x rel h.1) (omega (arith, le)) h.2,
      ),
      tt,
    )

    stmts : (l : PStmts) (c : C) (d : D) (k n t : ℕ) → R c d → StandsAt k n → AskedStmts b c k l → AskedStmts a d n (rewritten r l t)
    stmts no_stmt c d k n t rel le h = tt
    stmts (stmt_then x l) c d k n t rel le h =
        asked-join a d n (in_front (leads r x t) (collect_image u (parts_rewritten r x t))) (rewritten r l (after_parts r x t))
        (stmt x c d k n t rel le h.0) (stmts l c d k n (after_parts r x t) rel le h.1)

    some : (l : PStmts) (c : C) (d : D) (k n t : ℕ) → R c d → StandsAt k n → AskedSome b c k l → AskedSome a d n (rewritten r l t)
    some no_stmt c d k n t rel le h = P.many 0 h
    some (stmt_then x l) c d k n t rel le h =
        asked-some a P.some d n (rewritten r (stmt_then x l) t) (rewritten-some x l t)
        (asked-join a d n (in_front (leads r x t) (collect_image u (parts_rewritten r x t))) (rewritten r l (after_parts r x t))
        (stmt x c d k n t rel le h.1) (stmts l c d k n (after_parts r x t) rel le h.2))

    maybe : (o : PMaybe) (c : C) (d : D) (k n t : ℕ) → R c d → StandsAt k n → AskedMaybe b c k o → AskedMaybe a d n (inside_maybe r o t)
    maybe absent c d k n t rel le h = tt
    maybe (present l) c d k n t rel le h = some l c d k n t rel le h

    -- the last alternatives of a wait, whose delays are numbered from a number on
    alts : (x : PAlts) (c : C) (d : D) (k n t j : ℕ) → R c d → H k → StandsAt k n → (whole : PAlts) (els : Bool) (place : Span) → b.wait c k whole els place →
        j + alts_count x ≤ 1 + alts_count whole → AskedAlts b c (k + 1) x → AskedAlts a d (n + 1) (alternatives_told u (inside_alts r x t) j)
    alts no_alt c d k n t j rel near le whole els place w few h = tt
    alts (alt_then (alternative g (AAccept (accepting i o) l) s) rest) c d k n t j rel near le whole els place w few h =
        let v : ℕ = after_maybe r o t in (
          P.outer c d k (n + 1) s rel near (omega (arith, le)),
          guard g c d ((k + 1) + 1) ((n + 1) + 1) rel (omega (arith, le)) h.1,
          (accept-asked u H b a R P c d ((k + 1) + 1) s i rel h.2.0.0 ((n + 1) + 1) (inside_maybe r o t) (omega (arith, le)) (maybe o (b.accepting c i) (a.accepting d (head_telling u i)) (((k + 1) + 1) + 1) ((((n + 1) + 1) + 1) + 1) t (P.in_accept c d ((k + 1) + 1) i rel h.2.0.0) (omega (arith, le)) h.2.0.1), stmts l c d ((k + 1) + 1) ((n + 1) + 1) v rel (omega (arith, le)) h.2.1),
          alts rest c d k n (after_stmts r l v) j rel near le whole els place w (omega (arith, few)) h.3,
        )
    alts (alt_then (alternative g (ADelay m l) s) rest) c d k n t j rel near le whole els place w few h = (
      P.outer c d k (n + 1) s rel near (omega (arith, le)),
      guard g c d ((k + 1) + 1) ((n + 1) + 1) rel (omega (arith, le)) h.1,
      (
        P.delay c d k ((n + 1) + 1) g s rel near h.2.0 (omega (arith, le)),
        P.duration m h.2.1,
        (
          (
            P.outer c d k ((n + 1) + 1) s rel near (omega (arith, le)),
            P.recorder c d k (((n + 1) + 1) + 1) s rel near (omega (arith, le)),
            P.delayed c d k (((n + 1) + 1) + 1) whole els place s j rel near w (omega (arith, few)) (omega (arith, le)),
          ),
          stmts l c d ((k + 1) + 1) ((n + 1) + 1) t rel (omega (arith, le)) h.2.2,
        ),
      ),
      alts rest c d k n (after_stmts r l t) (j + 1) rel near le whole els place w (omega (arith, few)) h.3,
    )
    alts (alt_then (alternative g ATerminate s) rest) c d k n t j rel near le whole els place w few h = (
      P.outer c d k (n + 1) s rel near (omega (arith, le)),
      guard g c d ((k + 1) + 1) ((n + 1) + 1) rel (omega (arith, le)) h.1,
      tt,
      alts rest c d k n t j rel near le whole els place w (omega (arith, few)) h.3,
    )

    else-asked : (o : PMaybe) (c : C) (d : D) (k n : ℕ) (s : Span) (t : ℕ) → R c d → H k → StandsAt k n → AskedMaybe b c (k + 1) o → AskedMaybe a d (n + 1) (else_told u s (inside_maybe r o t))
    else-asked absent c d k n s t rel near le h = tt
    else-asked (present l) c d k n s t rel near le h = (
      P.some _,
      own-asked u H b a R P c d k (n + 1) s 3 rel near (omega arith) (omega (arith, le)),
      asked-all a d (n + 1) (rewritten r l t) (some l c d (k + 1) (n + 1) t rel (omega (arith, le)) h),
    )

    arms : (x : PArms) (c : C) (d : D) (k n t : ℕ) → R c d → StandsAt k n → AskedArms b c k x → AskedArms a d n (inside_arms r x t)
    arms no_arm c d k n t rel le h = tt
    arms (arm_then (arm y l) rest) c d k n t rel le h = (P.condition c d k n y rel h.0 le, some l c d k n t rel le h.1, arms rest c d k n (after_stmts r l t) rel le h.2)

    case_arms : (x : PCaseArms) (c : C) (d : D) (k n : ℕ) (y : PExpr) (t : ℕ) → R c d → StandsAt k n → AskedCaseArms b c k y x → AskedCaseArms a d n y (inside_case_arms r x t)
    case_arms no_case_arm c d k n y t rel le h = tt
    case_arms (case_arm_then (case_arm cs l) rest) c d k n y t rel le h = (P.choices c d k n y cs rel h.0 le, some l c d k n t rel le h.1, case_arms rest c d k n y (after_stmts r l t) rel le h.2)

    body-of : (x : PBody) (c : C) (d : D) (k n t : ℕ) → R c d → StandsAt k n → AskedBody b c k x → AskedBody a d n (inside_body r x t)
    body-of (body l hs) c d k n t rel le h =
        let v : ℕ = after_stmts r l t in
        (some l c d k n t rel le h.0, P.handlers hs v h.1, handlers hs c d k n [] v rel le h.2)

    handlers : (x : PHandlers) (c : C) (d : D) (k n : ℕ) (names : List ℕ) (t : ℕ) → R c d → StandsAt k n → AskedHandlers b c k names x → AskedHandlers a d n names (inside_handlers r x t)
    handlers no_handler c d k n names t rel le h = tt
    handlers (handler_then (handler ws l s) rest) c d k n names t rel le h = (
      P.outer c d k n s rel (P.here c k s h.0) (omega (arith, le)),
      P.handled c d k n names ws rel h.1 le,
      some l (b.handling c) (a.handling d) (k + 1) (n + 1) t (P.handling c d rel) (omega (arith, le)) h.2,
      handlers rest c d k n (with_words names ws) (after_stmts r l t) rel le h.3,
    )

  -- ---- units

  -- The body of main in a collecting text is as asked.
  pub main-keeps : (c : C) (d : D) (k : ℕ) (x : PBody) → R c d → 1 ≤ k → AskedBody b c k x → AskedBody a d k (main_body u x)
  main-keeps c d k x rel low h = body-of x c d k k 0 rel (omega (arith, low)) h

  -- with handlers or without, the statements of a body stand one or two deeper
  with-handlers : (x : PBody) (c : C) (d : D) (k : ℕ) (s : Span) → R c d → H k → 1 ≤ k → AskedBody b c k x → AskedSome a d (k + 1) (with_handlers s (inside_body r x 0))
  with-handlers (body l no_handler) c d k s rel near low h = some l c d k (k + 1) 0 rel (omega (arith, low)) h.0
  with-handlers (body l (handler_then (handler ws m p) hs)) c d k s rel near low h =
      (P.some 0, (P.outer c d k (k + 1) s rel near (omega arith), body-of (body l (handler_then (handler ws m p) hs)) c d k ((k + 1) + 1) 0 rel (omega (arith, low)) h), tt)

  -- So is that of a task.
  pub task-keeps : (c : C) (d : D) (k : ℕ) (s : Span) (x : PBody) → R c d → H k → 1 ≤ k → AskedBody b c k x → AskedBody a d k (task_body u s x)
  task-keeps c d k s x rel near low h = (
    (
      P.some 1,
      (
        P.outer c d k k s rel near (omega arith),
        (
          with-handlers x c d k s rel near low h,
          P.others s _,
          (
            P.outer c d k (k + 1) s rel near (omega arith),
            P.other c d k (k + 1) rel near (omega arith),
            (P.some 0, P.null (b.handling c) (a.handling d) k ((k + 1) + 1) s (P.handling c d rel) near (omega arith), tt),
            tt,
          ),
        ),
      ),
      (own-asked u H b a R P c d k k s 8 rel near (omega arith) (omega arith), tt),
    ),
    P.no_others,
    tt,
  )
