-- The statements of a unit in a collecting text of a program with abort statements are as asked, from what is asked of those of the normal form and from the pieces.
use Rattle.std.proofs.Common.{◌≡◌, ℕ, ◌+◌, ◌≤◌, Bool, List, [], ◌∷◌, Option, Some, None, IfSome, refl, sym, subst, arith}
use Rattle.std.specs.List.{AllByRecursion}
use Rattle.ada_tree.specs.declared.naming.Span.{Span}
use Rattle.ada_tree.specs.PlainExpr.{PExpr}
use Rattle.ada_tree.specs.PlainStmt.{PCallee, PStmt, SNull, SAssign, SDelay, SExit, SRaise, SAbort, SCall, SAccept, SWait, SConditional, STimed, SPut, SPutLine, SNewLine, SGet, SIf, SCase, SBlock, SLoop, PStmts, no_stmt, stmt_then, PMaybe, absent, present, accepting, alternative, AAccept, ADelay, ATerminate, PAlts, no_alt, alt_then, PArms, no_arm, arm_then, arm, PCaseArms, no_case_arm, case_arm_then, case_arm, PBody, body, PHandlers, no_handler, handler_then, handler}
use Rattle.ada_tree.specs.Every.{alts_count, arms_count}
use Rattle.ada_static_rules.specs.Sites.{arm_choices, is_present, with_words}
use Rattle.task_model.specs.Frames.{in_front}
use Rattle.normal_model.specs.Walk.{Rewriter, after_parts, after_stmts, after_maybe, after_alts, after_arms, after_case_arms, after_body, after_handlers, leads, image_of, parts_rewritten, rewritten, inside_maybe, inside_alts, inside_arms, inside_case_arms, inside_body, inside_handlers}
use Rattle.task_laws.specs.legal.asked.Asked.{Asks, AskedStmt, AskedStmts, AskedSome, AskedMaybe, AskedAlts, AskedArms, AskedCaseArms, AskedBody, AskedHandlers}
use Rattle.normal_laws.proofs.structure.asked.Lists.{HasStmt, some-front, some-back, asked-join, asked-some, asked-all}
use Rattle.replay_model.specs.ReplayStmts.{with_handlers}
use Rattle.replay_structure.specs.asked.Pieces.{StandsAt}
use Rattle.collect_model.specs.Serving.{head_telling}
use Rattle.collect_model.specs.aborts.AbortTeller.{AbortTeller}
use Rattle.collect_model.specs.aborts.Places.{with_place, places_in}
use Rattle.collect_model.specs.aborts.Serving.{service_watched, accept_told, is_not_refused}
use Rattle.collect_model.specs.aborts.Waiting.{alternatives_told, else_told, behind_alternatives, wait_told, is_taken, else_branch, branches}
use Rattle.collect_model.specs.aborts.AbortStmts.{image_told, abort_rewriter, main_body, task_body}
use Rattle.collect_structure.specs.aborts.asked.Pieces.{IsPlace, Pieces}
use Rattle.collect_structure.proofs.aborts.asked.Kept.{no-leads, present-kept, choices-kept, behind-all, branches-kept}
use Rattle.collect_structure.proofs.aborts.asked.Places.{counted, stmts-grow, maybe-grows, alts-grow, arms-grow, case_arms-grow, handlers-grow}
use Rattle.collect_structure.proofs.aborts.asked.Telling.{own-asked, over-asked, or-null-asked, plain-asked, conditional-asked, timed-asked, accept-asked, service-asked, repeated-asked}
use Rattle.collect_structure.proofs.aborts.asked.Waits.{unless-asked, delayed-asked, else-asked}

module _ {C D : Type 0} (u : AbortTeller) (most : ℕ) (H : ℕ → Type 0) (b : Asks C) (a : Asks D) (R S : C → D → Type 0) (P : Pieces u most H b a R S) where
  abbrev r : Rewriter ℕ
  r = abort_rewriter u

  callees : (c : C) (d : D) (k n : ℕ) (xs : List PCallee) → R c d → H k → AllByRecursion (b.callee c (k + 1)) xs → StandsAt (k + 1) n → AllByRecursion (a.callee d n) xs
  callees c d k n [] rel near h le = tt
  callees c d k n (x ∷ xs) rel near h le = (P.callee c d k (k + 1) n x rel near (omega arith, omega arith) h.0 le, callees c d k n xs rel near h.1 le)

  -- ---- what stands for a statement is one at least

  image-some : (n : ℕ) (x : PStmt) → HasStmt (image_told u n x)
  image-some n (SAbort [] s) = tt
  image-some n (SAbort (x ∷ []) s) = tt
  image-some n (SAbort (x ∷ y ∷ xs) s) = tt
  image-some n (SAccept x s) = tt
  image-some n (SWait x o s) = tt
  image-some n (SConditional x l o s) = tt
  image-some n (STimed x l d o s) = tt
  image-some n (SCall x s) = tt
  image-some n (SNull s) = tt
  image-some n (SAssign x e s) = tt
  image-some n (SDelay d s) = tt
  image-some n (SExit w e s) = tt
  image-some n (SRaise w s) = tt
  image-some n (SPut ps s) = tt
  image-some n (SPutLine ps s) = tt
  image-some n (SNewLine s) = tt
  image-some n (SGet x s) = tt
  image-some n (SIf x o s) = tt
  image-some n (SCase e x o s) = tt
  image-some n (SBlock x s) = tt
  image-some n (SLoop w c l s) = tt

  rewritten-some : (x : PStmt) (l : PStmts) (t : ℕ) → HasStmt (rewritten r (stmt_then x l) t)
  rewritten-some x l t = let v : ℕ = with_place t x in some-front (image_of r x t) _ (some-back (leads r x v) _ (image-some (t + 1) (parts_rewritten r x v)))

  arms-many : (x : PArms) (t : ℕ) → b.many (arms_count x) → a.many (arms_count (inside_arms r x t))
  arms-many no_arm t h = P.many 0 h
  arms-many (arm_then (arm e l) rest) t h = P.some _

  alts-many : (x : PAlts) (t p : ℕ) → b.many (alts_count x) → a.many (alts_count (alternatives_told u p (inside_alts r x t) 1 1))
  alts-many no_alt t p h = P.many 0 h
  alts-many (alt_then (alternative g y s) rest) t p h = P.some _

  guard : (g : Option PExpr) (c : C) (d : D) (k n : ℕ) → S c d → StandsAt k n → IfSome g (b.condition c k) → IfSome g (a.condition d n)
  guard None c d k n rel le h = tt
  guard (Some e) c d k n rel le h = P.condition c d k n e rel h le

  else-present : (o : PMaybe) (s : Span) (t j : ℕ) → is_present (else_told u s (inside_maybe r o t) j) ≡ is_present o
  else-present absent s t j = refl
  else-present (present l) s t j = refl

  -- ---- waits

  place-few : (x : PAlts) (o : PMaybe) (t : ℕ) → after_maybe r o (after_alts r x (t + 1)) ≤ most → IsPlace most (t + 1)
  place-few x o t few = (omega arith, omega (arith, few, maybe-grows u o (after_alts r x (t + 1)), alts-grow u x (t + 1)))

  -- a wait at the place of number p, behind whose alternatives stand their statements
  wait-asked : (x : PAlts) (o : PMaybe) (s : Span) (c : C) (d : D) (k n p : ℕ) → R c d → StandsAt k n → 1 ≤ p → after_maybe r o (after_alts r x p) ≤ most → AskedStmt b c k (SWait x o s) →
      AskedAlts a (a.looping d None None) (((n + 1) + 1) + 1) (alternatives_told u p (inside_alts r x p) 1 1) →
      AskedArms a d (n + 1) (branches u s p (inside_alts r x p) (inside_maybe r o (after_alts r x p)) 1) →
      AskedStmts a d n (image_told u p (SWait (inside_alts r x p) (inside_maybe r o (after_alts r x p)) s))
  wait-asked x o s c d k n p rel le low few h tried behind =
      let t' : ℕ = after_alts r x p in
      let x' : PAlts = inside_alts r x p in
      let o' : PMaybe = inside_maybe r o t' in
      let d' : D = a.looping d None None in
      let beside : S c d = P.near c d rel in
      let inner : S c d' = P.in_loop c d beside in
      let near : H k = P.here c k s h.0 in
      let grown = maybe-grows u o t' in
      let place : IsPlace most p = (low, omega (arith, few, grown, alts-grow u x p)) in
      let e = behind-all u x p 1 in
      let waits : AskedStmt a d' ((n + 1) + 1) (wait_told u s p x' o') = (
        P.outer c d' k ((n + 1) + 1) s inner near (omega (arith, le)),
        alts-many x p p h.1,
        subst (λ others. a.wait d' ((n + 1) + 1) (alternatives_told u p x' 1 1) others s) (sym (else-present o s t' (behind_alternatives x' 1)))
            (P.wait c d' k ((n + 1) + 1) x (is_present o) s p p inner near place h.2 h.3 (omega (arith, le))),
        tried,
        else-asked u most H b a R S P c d' k x (is_present o) s s p inner near place h.2 (((n + 1) + 1) + 1) (behind_alternatives x' 1) o' (omega (arith, e)) (omega (arith, le)),
      ) in (
        repeated-asked u most H b a R S P c d k s p beside near place n (service_watched u s p (wait_told u s p x' o')) (is_taken u s) (omega (arith, le))
            (service-asked u most H b a R S P c d' k s p inner near place (n + 1) (wait_told u s p x' o') (omega (arith, le)) waits)
            (P.leaves_wait c d k (n + 1) s beside near (omega (arith, le))),
        (
          (
            P.outer c d k n s beside near (omega (arith, le)),
            subst a.many (sym (branches-kept u s p x o p t' 1)) (P.branched c k x (is_present o) s h.2),
            behind,
            tt,
          ),
          tt,
        ),
      )

  -- the branch of the else part
  else-behind : (o : PMaybe) (s : Span) (c : C) (d : D) (k n : ℕ) → S c d → H k → StandsAt k n → (whole : PAlts) (els : Bool) (place : Span) → b.wait c k whole els place → AskedMaybe a d (n + 1) o →
      (i : ℕ) → i ≤ 1 + alts_count whole → AskedArms a d (n + 1) (else_branch u s o i)
  else-behind absent s c d k n rel near le whole els place w m i few = tt
  else-behind (present l) s c d k n rel near le whole els place w m i few = (
    P.chose c d k (n + 1) whole els place s i rel near w few (omega (arith, le)),
    or-null-asked u most H b a R S P c d k (n + 1) s l rel near (omega (arith, le)) (asked-all a d (n + 1) l m),
    tt,
  )

  -- ---- statements

  mutual
    stmt : (x : PStmt) (c : C) (d : D) (k n t : ℕ) → R c d → StandsAt k n → after_parts r x (with_place t x) ≤ most → AskedStmt b c k x → AskedStmts a d n (image_of r x t)
    stmt (SNull s) c d k n t rel le few h = (P.plain c d k n (SNull s) tt rel h le, tt)
    stmt (SAssign x y s) c d k n t rel le few h = (P.plain c d k n (SAssign x y s) tt rel h le, tt)
    stmt (SDelay m s) c d k n t rel le few h = (P.plain c d k n (SDelay m s) tt rel h le, tt)
    stmt (SExit w y s) c d k n t rel le few h = (P.plain c d k n (SExit w y s) tt rel h le, tt)
    stmt (SRaise w s) c d k n t rel le few h = (P.plain c d k n (SRaise w s) tt rel h le, tt)
    stmt (SPut ps s) c d k n t rel le few h = (P.plain c d k n (SPut ps s) tt rel h le, tt)
    stmt (SPutLine ps s) c d k n t rel le few h = (P.plain c d k n (SPutLine ps s) tt rel h le, tt)
    stmt (SNewLine s) c d k n t rel le few h = (P.plain c d k n (SNewLine s) tt rel h le, tt)
    stmt (SGet x s) c d k n t rel le few h = (P.plain c d k n (SGet x s) tt rel h le, tt)
    stmt (SAbort [] s) c d k n t rel le few h = ((P.outer c d k n s (P.near c d rel) (P.here c k s h.0) (omega (arith, le)), P.aborts c d (k + 1) (n + 1) [] rel h.1 (omega (arith, le)), tt), tt)
    stmt (SAbort (x ∷ []) s) c d k n t rel le few h =
        let near : H k = P.here c k s h.0 in
        let beside : S c d = P.near c d rel in
        ((P.outer c d k n s beside near (omega (arith, le)), P.recorder c d k (n + 1) s beside near (omega (arith, le)), P.aborted c d k (n + 1) s x beside near h.1 h.2.0 (omega (arith, le))), tt)
    stmt (SAbort (x ∷ y ∷ xs) s) c d k n t rel le few h =
        let near : H k = P.here c k s h.0 in (
          (
            P.outer c d k n s (P.near c d rel) near (omega (arith, le)),
            P.aborts c d (k + 1) (n + 1) (x ∷ y ∷ xs) rel h.1 (omega (arith, le)),
            callees c d k (n + 1)
                (x ∷ y ∷ xs) rel near h.2 (omega (arith, le)),
          ),
          tt,
        )
    stmt (SCall x s) c d k n t rel le few h = plain-asked u most H b a R S P c d k (k + 1) s x rel (P.here c k s h.0) (omega arith, omega arith) h.1 h.2 n le refl
    stmt (SAccept (accepting i o) s) c d k n t rel le few h =
        let beside : S c d = P.near c d rel in
        let inner : S c (a.looping d None None) = P.in_loop c d beside in
        let near : H k = P.here_accepted c k i h.0 in
        let place : IsPlace most (t + 1) = (omega arith, omega (arith, few, maybe-grows u o (t + 1))) in
        let served : AskedStmt a (a.looping d None None) ((n + 1) + 1) (SAccept (accept_told u s (t + 1) (accepting i (inside_maybe r o (t + 1)))) s) =
        accept-asked u most H b a R S P c (a.looping d None None) k s i (t + 1) inner h.0 place ((n + 1) + 1) (inside_maybe r o (t + 1)) (omega (arith, le))
        (maybe o (b.accepting c i) (a.accepting (a.looping d None None) (head_telling u.teller i)) (k + 1) ((((n + 1) + 1) + 1) + 1) (t + 1)
        (P.in_accept c (a.looping d None None) k i inner h.0) (omega (arith, le)) few h.1) in (
          repeated-asked u most H b a R S P c d k s (t + 1) beside near place n
              (service_watched u s (t + 1) (SAccept (accept_told u s (t + 1) (accepting i (inside_maybe r o (t + 1)))) s)) (is_not_refused u s (t + 1)) (omega (arith, le))
              (service-asked u most H b a R S P c (a.looping d None None) k s (t + 1) inner near place (n + 1)
              (SAccept (accept_told u s (t + 1) (accepting i (inside_maybe r o (t + 1)))) s) (omega (arith, le)) served)
              (P.leaves c d k (n + 1) s (t + 1) beside near place (omega (arith, le))),
          (over-asked u most H b a R S P c d k n s (t + 1) beside near place (omega (arith, le)), tt),
        )
    stmt (SWait x o s) c d k n t rel le few h =
        subst (λ l. AskedStmts a d n (in_front l (image_told u (t + 1) (SWait (inside_alts r x (t + 1)) (inside_maybe r o (after_alts r x (t + 1))) s)))) (sym (no-leads u x (t + 1)))
        (wait-asked x o s c d k n (t + 1) rel le (omega arith) few h
        (alts x c (a.looping d None None) k n (t + 1) (t + 1) 1 1 (P.in_loop c d (P.near c d rel)) (P.here c k s h.0) (place-few x o t few) le
        (omega (arith, few, maybe-grows u o (after_alts r x (t + 1)))) x (is_present o) s h.2 (omega arith) (omega arith) h.3)
        (behind x (inside_maybe r o (after_alts r x (t + 1))) s c d k n (t + 1) (t + 1) 1 rel (P.here c k s h.0) (place-few x o t few) le
        (omega (arith, few, maybe-grows u o (after_alts r x (t + 1)))) x (is_present o) s h.2 (omega arith) h.3
        (else-behind (inside_maybe r o (after_alts r x (t + 1))) s c d k n (P.near c d rel) (P.here c k s h.0) le x (is_present o) s h.2
        (maybe o c d (k + 1) (n + 1) (after_alts r x (t + 1)) rel (omega (arith, le)) few h.4))))
    stmt (SConditional x l o s) c d k n t rel le few h =
        conditional-asked u most H b a R S P c d k (k + 2) s x rel (P.here c k s h.0) (omega arith, omega arith) h.2 h.3 n le (rewritten r l t) (rewritten r o (after_stmts r l t)) refl
        (stmts l c d (k + 1) (n + 1) t rel (omega (arith, le)) (omega (arith, few, stmts-grow u o (after_stmts r l t))) h.4)
        (stmts o c d (k + 1) (n + 1) (after_stmts r l t) rel (omega (arith, le)) few (asked-all b c (k + 1) o h.5))
    stmt (STimed x l m o s) c d k n t rel le few h =
        timed-asked u most H b a R S P c d k (k + 2) s x rel (P.here c k s h.0) (omega arith, omega arith) h.2 h.3 n le (rewritten r l t) m (rewritten r o (after_stmts r l t)) refl h.4
        (stmts l c d (k + 1) (n + 1) t rel (omega (arith, le)) (omega (arith, few, stmts-grow u o (after_stmts r l t))) h.5)
        (stmts o c d (k + 1) (n + 1) (after_stmts r l t) rel (omega (arith, le)) few h.6)
    stmt (SIf x o s) c d k n t rel le few h = (
      (
        P.outer c d k n s (P.near c d rel) (P.here c k s h.0) (omega (arith, le)),
        arms-many x t h.1,
        arms x c d (k + 1) (n + 1) t rel (omega (arith, le)) (omega (arith, few, maybe-grows u o (after_arms r x t))) h.2,
        maybe o c d (k + 1) (n + 1) (after_arms r x t) rel (omega (arith, le)) few h.3,
      ),
      tt,
    )
    stmt (SCase y x o s) c d k n t rel le few h =
        let v : ℕ = after_case_arms r x t in (
          (
            P.outer c d k n s (P.near c d rel) (P.here c k s h.0) (omega (arith, le)),
            subst (λ m. a.selector d (n + 1) y (arm_choices (inside_case_arms r x t)) m s) (sym (present-kept u o v))
                (subst (λ cs. a.selector d (n + 1) y cs (is_present o) s) (sym (choices-kept u x t)) (P.selector c d (k + 1) (n + 1) y (arm_choices x) (is_present o) s rel h.1 (omega (arith, le)))),
            case_arms x c d (k + 1) (n + 1) y t rel (omega (arith, le)) (omega (arith, few, maybe-grows u o v)) h.2,
            maybe o c d (k + 1) (n + 1) v rel (omega (arith, le)) few h.3,
          ),
          tt,
        )
    stmt (SBlock x s) c d k n t rel le few h = ((P.outer c d k n s (P.near c d rel) (P.here c k s h.0) (omega (arith, le)), body-of x c d (k + 1) (n + 1) t rel (omega (arith, le)) few h.1), tt)
    stmt (SLoop w x l s) c d k n t rel le few h = (
      (
        P.outer c d k n s (P.near c d rel) (P.here c k s h.0) (omega (arith, le)),
        P.loop c d (k + 1) (n + 1) w x rel h.1 (omega (arith, le)),
        some l (b.looping c w x) (a.looping d w x) (k + 1) (n + 1) t (P.looping c d (k + 1) w x rel h.1) (omega (arith, le)) few h.2,
      ),
      tt,
    )

    stmts : (l : PStmts) (c : C) (d : D) (k n t : ℕ) → R c d → StandsAt k n → after_stmts r l t ≤ most → AskedStmts b c k l → AskedStmts a d n (rewritten r l t)
    stmts no_stmt c d k n t rel le few h = tt
    stmts (stmt_then x l) c d k n t rel le few h =
        let v : ℕ = after_parts r x (with_place t x) in
        asked-join a d n (image_of r x t) (rewritten r l v) (stmt x c d k n t rel le (omega (arith, few, stmts-grow u l v)) h.0) (stmts l c d k n v rel le few h.1)

    some : (l : PStmts) (c : C) (d : D) (k n t : ℕ) → R c d → StandsAt k n → after_stmts r l t ≤ most → AskedSome b c k l → AskedSome a d n (rewritten r l t)
    some no_stmt c d k n t rel le few h = P.many 0 h
    some (stmt_then x l) c d k n t rel le few h =
        let v : ℕ = after_parts r x (with_place t x) in
        asked-some a P.some d n (rewritten r (stmt_then x l) t) (rewritten-some x l t)
        (asked-join a d n (image_of r x t) (rewritten r l v) (stmt x c d k n t rel le (omega (arith, few, stmts-grow u l v)) h.1) (stmts l c d k n v rel le few h.2))

    maybe : (o : PMaybe) (c : C) (d : D) (k n t : ℕ) → R c d → StandsAt k n → after_maybe r o t ≤ most → AskedMaybe b c k o → AskedMaybe a d n (inside_maybe r o t)
    maybe absent c d k n t rel le few h = tt
    maybe (present l) c d k n t rel le few h = some l c d k n t rel le few h

    -- the last alternatives of a wait, whose numbers are from j on, and whose delays are numbered from e on; in the loop d, two deeper than the loop
    alts : (x : PAlts) (c : C) (d : D) (k n t p j e : ℕ) → S c d → H k → IsPlace most p → StandsAt k n → after_alts r x t ≤ most →
        (whole : PAlts) (els : Bool) (place : Span) → b.wait c k whole els place →
        j + alts_count x ≤ 1 + alts_count whole → e ≤ j → AskedAlts b c (k + 1) x → AskedAlts a d (((n + 1) + 1) + 1) (alternatives_told u p (inside_alts r x t) j e)
    alts no_alt c d k n t p j e rel near here le few whole els place w number low h = tt
    alts (alt_then (alternative g (AAccept (accepting i o) l) s) rest) c d k n t p j e rel near here le few whole els place w number low h =
        let v : ℕ = after_maybe r o t in
        let v' : ℕ = after_stmts r l v in
        let m : ℕ = (((n + 1) + 1) + 1) + 1 in (
          P.outer c d k (((n + 1) + 1) + 1) s rel near (omega (arith, le)),
          guard g c d ((k + 1) + 1) m rel (omega (arith, le)) h.1,
          (
            accept-asked u most H b a R S P c d ((k + 1) + 1) s i p rel h.2.0.0 here m (inside_maybe r o t) (omega (arith, le))
                (maybe o (b.accepting c i) (a.accepting d (head_telling u.teller i)) (((k + 1) + 1) + 1) ((m + 1) + 1) t (P.in_accept c d ((k + 1) + 1) i rel h.2.0.0) (omega (arith, le))
                (omega (arith, few, alts-grow u rest v', stmts-grow u l v)) h.2.0.1),
            unless-asked u most H b a R S P c d k whole els place s p rel near here w m j (omega (arith, number)) (omega (arith, le)),
          ),
          alts rest c d k n v' p (j + 1) e rel near here le few whole els place w (omega (arith, number)) (omega (arith, low)) h.3,
        )
    alts (alt_then (alternative g (ADelay q l) s) rest) c d k n t p j e rel near here le few whole els place w number low h =
        let m : ℕ = (((n + 1) + 1) + 1) + 1 in (
          P.outer c d k (((n + 1) + 1) + 1) s rel near (omega (arith, le)),
          guard g c d ((k + 1) + 1) m rel (omega (arith, le)) h.1,
          (
            P.delay c d k m g s rel near h.2.0 (omega (arith, le)),
            P.duration q h.2.1,
            delayed-asked u most H b a R S P c d k whole els place s p rel near here w m e j (omega (arith, number, low)) (omega (arith, number)) (omega (arith, le)),
          ),
          alts rest c d k n (after_stmts r l t) p (j + 1) (e + 1) rel near here le few whole els place w (omega (arith, number)) (omega (arith, low)) h.3,
        )
    alts (alt_then (alternative g ATerminate s) rest) c d k n t p j e rel near here le few whole els place w number low h = (
      P.outer c d k (((n + 1) + 1) + 1) s rel near (omega (arith, le)),
      guard g c d ((k + 1) + 1) ((((n + 1) + 1) + 1) + 1) rel (omega (arith, le)) h.1,
      tt,
      alts rest c d k n t p (j + 1) e rel near here le few whole els place w (omega (arith, number)) (omega (arith, low)) h.3,
    )

    -- the branches of the last alternatives of a wait, in front of that of the else part
    behind : (x : PAlts) (o : PMaybe) (s : Span) (c : C) (d : D) (k n t p j : ℕ) → R c d → H k → IsPlace most p → StandsAt k n → after_alts r x t ≤ most →
        (whole : PAlts) (els : Bool) (place : Span) → b.wait c k whole els place → j + alts_count x ≤ 1 + alts_count whole → AskedAlts b c (k + 1) x →
        ((i : ℕ) → i ≤ 1 + alts_count whole → AskedArms a d (n + 1) (else_branch u s o i)) → AskedArms a d (n + 1) (branches u s p (inside_alts r x t) o j)
    behind no_alt o s c d k n t p j rel near here le few whole els place w number h m = m j (omega (arith, number))
    behind (alt_then (alternative g (AAccept (accepting i o') l) s') rest) o s c d k n t p j rel near here le few whole els place w number h m =
        let v : ℕ = after_maybe r o' t in
        let v' : ℕ = after_stmts r l v in (
          P.chose c d k (n + 1) whole els place s' j (P.near c d rel) near w (omega (arith, number)) (omega (arith, le)),
          (
            P.some _,
            over-asked u most H b a R S P c d k (n + 1) s' p (P.near c d rel) near here (omega (arith, le)),
            stmts l c d ((k + 1) + 1) (n + 1) v rel (omega (arith, le)) (omega (arith, few, alts-grow u rest v')) h.2.1,
          ),
          behind rest o s c d k n v' p (j + 1) rel near here le few whole els place w (omega (arith, number)) h.3 m,
        )
    behind (alt_then (alternative g (ADelay q l) s') rest) o s c d k n t p j rel near here le few whole els place w number h m =
        let v : ℕ = after_stmts r l t in (
          P.chose c d k (n + 1) whole els place s' j (P.near c d rel) near w (omega (arith, number)) (omega (arith, le)),
          or-null-asked u most H b a R S P c d k (n + 1) s' (rewritten r l t) (P.near c d rel) near (omega (arith, le))
              (stmts l c d ((k + 1) + 1) (n + 1) t rel (omega (arith, le)) (omega (arith, few, alts-grow u rest v)) h.2.2),
          behind rest o s c d k n v p (j + 1) rel near here le few whole els place w (omega (arith, number)) h.3 m,
        )
    behind (alt_then (alternative g ATerminate s') rest) o s c d k n t p j rel near here le few whole els place w number h m =
        behind rest o s c d k n t p (j + 1) rel near here le few whole els place w (omega (arith, number)) h.3 m

    arms : (x : PArms) (c : C) (d : D) (k n t : ℕ) → R c d → StandsAt k n → after_arms r x t ≤ most → AskedArms b c k x → AskedArms a d n (inside_arms r x t)
    arms no_arm c d k n t rel le few h = tt
    arms (arm_then (arm y l) rest) c d k n t rel le few h =
        let v : ℕ = after_stmts r l t in
        (P.condition c d k n y (P.near c d rel) h.0 le, some l c d k n t rel le (omega (arith, few, arms-grow u rest v)) h.1, arms rest c d k n v rel le few h.2)

    case_arms : (x : PCaseArms) (c : C) (d : D) (k n : ℕ) (y : PExpr) (t : ℕ) → R c d → StandsAt k n → after_case_arms r x t ≤ most → AskedCaseArms b c k y x →
        AskedCaseArms a d n y (inside_case_arms r x t)
    case_arms no_case_arm c d k n y t rel le few h = tt
    case_arms (case_arm_then (case_arm cs l) rest) c d k n y t rel le few h =
        let v : ℕ = after_stmts r l t in
        (P.choices c d k n y cs rel h.0 le, some l c d k n t rel le (omega (arith, few, case_arms-grow u rest v)) h.1, case_arms rest c d k n y v rel le few h.2)

    body-of : (x : PBody) (c : C) (d : D) (k n t : ℕ) → R c d → StandsAt k n → after_body r x t ≤ most → AskedBody b c k x → AskedBody a d n (inside_body r x t)
    body-of (body l hs) c d k n t rel le few h =
        let v : ℕ = after_stmts r l t in
        (some l c d k n t rel le (omega (arith, few, handlers-grow u hs v)) h.0, P.handlers hs v h.1, handlers hs c d k n [] v rel le few h.2)

    handlers : (x : PHandlers) (c : C) (d : D) (k n : ℕ) (names : List ℕ) (t : ℕ) → R c d → StandsAt k n → after_handlers r x t ≤ most → AskedHandlers b c k names x →
        AskedHandlers a d n names (inside_handlers r x t)
    handlers no_handler c d k n names t rel le few h = tt
    handlers (handler_then (handler ws l s) rest) c d k n names t rel le few h =
        let v : ℕ = after_stmts r l t in (
          P.outer c d k n s (P.near c d rel) (P.here c k s h.0) (omega (arith, le)),
          P.handled c d k n names ws rel h.1 le,
          some l (b.handling c) (a.handling d) (k + 1) (n + 1) t (P.handling c d rel) (omega (arith, le)) (omega (arith, few, handlers-grow u rest v)) h.2,
          handlers rest c d k n (with_words names ws) v rel le few h.3,
        )

  -- ---- units

  counted-few : (x : PBody) → places_in x ≤ most → after_body r x 0 ≤ most
  counted-few x few = subst (λ n. n ≤ most) (sym (counted u x)) few

  -- The body of main in the text is as asked, if it has no more places.
  pub main-keeps : (c : C) (d : D) (k : ℕ) (x : PBody) → R c d → 1 ≤ k → places_in x ≤ most → AskedBody b c k x → AskedBody a d k (main_body u x)
  main-keeps c d k x rel low few h = body-of x c d k k 0 rel (omega (arith, low)) (counted-few x few) h

  -- with handlers or without, the statements of a body stand one or two deeper
  with-handlers : (x : PBody) (c : C) (d : D) (k : ℕ) (s : Span) → R c d → H k → 1 ≤ k → places_in x ≤ most → AskedBody b c k x → AskedSome a d (k + 1) (with_handlers s (inside_body r x 0))
  with-handlers (body l no_handler) c d k s rel near low few h = some l c d k (k + 1) 0 rel (omega (arith, low)) (counted-few (body l no_handler) few) h.0
  with-handlers (body l (handler_then (handler ws m p) hs)) c d k s rel near low few h = (
    P.some 0,
    (
      P.outer c d k (k + 1) s (P.near c d rel) near (omega arith),
      body-of (body l (handler_then (handler ws m p) hs)) c d k ((k + 1) + 1) 0 rel (omega (arith, low)) (counted-few (body l (handler_then (handler ws m p) hs)) few) h,
    ),
    tt,
  )

  -- So is that of a task.
  pub task-keeps : (c : C) (d : D) (k : ℕ) (s : Span) (x : PBody) → R c d → H k → 1 ≤ k → places_in x ≤ most → AskedBody b c k x → AskedBody a d k (task_body u s x)
  task-keeps c d k s x rel near low few h =
      let beside : S c d = P.near c d rel in (
        (
          P.some 1,
          (
            P.outer c d k k s beside near (omega arith),
            (
              with-handlers x c d k s rel near low few h,
              P.others s _,
              (
                P.outer c d k (k + 1) s beside near (omega arith),
                P.other c d k (k + 1) beside near (omega arith),
                (P.some 0, P.null (b.handling c) (a.handling d) k ((k + 1) + 1) s (P.in_handler c d beside) near (omega arith), tt),
                tt,
              ),
            ),
          ),
          (own-asked u most H b a R S P c d k k s 8 beside near (omega arith) (omega arith), tt),
        ),
        P.no_others,
        tt,
      )
