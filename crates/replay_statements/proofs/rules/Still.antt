-- A rewriter whose state stays: two that keep their states and say the same of each statement rewrite alike.
use Rattle.std.proofs.Common.{◌≡◌, refl, sym, ap, ◌∙◌}
use Rattle.ada_tree.specs.PlainStmt.{PStmt, SNull, SAssign, SDelay, SExit, SRaise, SAbort, SCall, SAccept, SWait, SConditional, STimed, SPut, SPutLine, SNewLine, SGet, SIf, SCase, SBlock, SLoop, PStmts, no_stmt, stmt_then, PMaybe, absent, present, PAccept, accepting, PAlt, alternative, PAltKind, AAccept, ADelay, ATerminate, PAlts, no_alt, alt_then, PArms, no_arm, arm_then, arm, PCaseArms, no_case_arm, case_arm_then, case_arm, PBody, body, PHandlers, no_handler, handler_then, handler}
use Rattle.task_model.specs.Frames.{in_front}
use Rattle.normal_model.specs.Walk.{Rewriter, after_parts, after_stmts, after_maybe, after_accept, after_kind, after_alts, after_arms, after_case_arms, after_body, after_handlers, alts_leads, leads, parts_rewritten, rewritten, inside_maybe, inside_accept, inside_kind, inside_alts, inside_arms, inside_case_arms, inside_body, inside_handlers}

-- the rewriter keeps this state, puts nothing in front of a wait, and leaves alternatives as they are
pub record Keeps (S : Type 0) (w : Rewriter S) (t : S) : Type 0 where
  pub entered_stmt : (x : PStmt) → w.entered_stmt t x ≡ t
  pub entered_alternative : (x : PAlt) → w.entered_alternative t x ≡ t
  pub lead : (x : PAlt) → w.lead t x ≡ no_stmt
  pub left_alternative : (x : PAlt) → w.left_alternative t x ≡ x

module _ {S : Type 0} (w : Rewriter S) (t : S) (k : Keeps S w t) where
  mutual
    still_parts : (x : PStmt) → after_parts w x t ≡ t
    still_parts (SAccept a s) = still_accept a
    still_parts (SWait x o s) = ap (after_maybe w o) (still_alts x) ∙ still_maybe o
    still_parts (SConditional c b o s) = ap (after_stmts w o) (still_stmts b) ∙ still_stmts o
    still_parts (STimed c b d a s) = ap (after_stmts w a) (still_stmts b) ∙ still_stmts a
    still_parts (SIf x o s) = ap (after_maybe w o) (still_arms x) ∙ still_maybe o
    still_parts (SCase e x o s) = ap (after_maybe w o) (still_case_arms x) ∙ still_maybe o
    still_parts (SBlock b s) = still_body b
    still_parts (SLoop n c l s) = still_stmts l
    still_parts (SNull s) = refl
    still_parts (SAssign x e s) = refl
    still_parts (SDelay d s) = refl
    still_parts (SExit n e s) = refl
    still_parts (SRaise n s) = refl
    still_parts (SAbort cs s) = refl
    still_parts (SCall c s) = refl
    still_parts (SPut ps s) = refl
    still_parts (SPutLine ps s) = refl
    still_parts (SNewLine s) = refl
    still_parts (SGet x s) = refl

    pub still_stmts : (l : PStmts) → after_stmts w l t ≡ t
    still_stmts no_stmt = refl
    still_stmts (stmt_then x l) = ap (λ u. after_stmts w l (after_parts w x u)) (k.entered_stmt x) ∙ ap (after_stmts w l) (still_parts x) ∙ still_stmts l

    still_maybe : (o : PMaybe) → after_maybe w o t ≡ t
    still_maybe absent = refl
    still_maybe (present l) = still_stmts l

    still_accept : (a : PAccept) → after_accept w a t ≡ t
    still_accept (accepting h o) = still_maybe o

    still_kind : (x : PAltKind) → after_kind w x t ≡ t
    still_kind (AAccept a l) = ap (after_stmts w l) (still_accept a) ∙ still_stmts l
    still_kind (ADelay d l) = still_stmts l
    still_kind ATerminate = refl

    still_alts : (x : PAlts) → after_alts w x t ≡ t
    still_alts no_alt = refl
    still_alts (alt_then (alternative g x s) l) = ap (λ u. after_alts w l (after_kind w x u)) (k.entered_alternative (alternative g x s)) ∙ ap (after_alts w l) (still_kind x) ∙ still_alts l

    still_arms : (x : PArms) → after_arms w x t ≡ t
    still_arms no_arm = refl
    still_arms (arm_then (arm e l) rest) = ap (after_arms w rest) (still_stmts l) ∙ still_arms rest

    still_case_arms : (x : PCaseArms) → after_case_arms w x t ≡ t
    still_case_arms no_case_arm = refl
    still_case_arms (case_arm_then (case_arm cs l) rest) = ap (after_case_arms w rest) (still_stmts l) ∙ still_case_arms rest

    still_body : (b : PBody) → after_body w b t ≡ t
    still_body (body l hs) = ap (after_handlers w hs) (still_stmts l) ∙ still_handlers hs

    still_handlers : (hs : PHandlers) → after_handlers w hs t ≡ t
    still_handlers no_handler = refl
    still_handlers (handler_then (handler ws l s) rest) = ap (after_handlers w rest) (still_stmts l) ∙ still_handlers rest

  -- what alternatives put in front of their wait
  still_alts_leads : (x : PAlts) → alts_leads w x t ≡ no_stmt
  still_alts_leads no_alt = refl
  still_alts_leads (alt_then (alternative g x s) l) =
      ap (λ a. in_front a (alts_leads w l (after_kind w x (w.entered_alternative t (alternative g x s))))) (k.lead (alternative g x s))
      ∙ ap (λ u. alts_leads w l (after_kind w x u)) (k.entered_alternative (alternative g x s))
      ∙ ap (alts_leads w l) (still_kind x)
      ∙ still_alts_leads l

  pub still_leads : (x : PStmt) → leads w x t ≡ no_stmt
  still_leads (SWait x o s) = still_alts_leads x
  still_leads (SAccept a s) = refl
  still_leads (SConditional c b o s) = refl
  still_leads (STimed c b d a s) = refl
  still_leads (SIf x o s) = refl
  still_leads (SCase e x o s) = refl
  still_leads (SBlock b s) = refl
  still_leads (SLoop n c l s) = refl
  still_leads (SNull s) = refl
  still_leads (SAssign x e s) = refl
  still_leads (SDelay d s) = refl
  still_leads (SExit n e s) = refl
  still_leads (SRaise n s) = refl
  still_leads (SAbort cs s) = refl
  still_leads (SCall c s) = refl
  still_leads (SPut ps s) = refl
  still_leads (SPutLine ps s) = refl
  still_leads (SNewLine s) = refl
  still_leads (SGet x s) = refl

-- ---- two rewriters

module _ {S T : Type 0} (w : Rewriter S) (t : S) (k : Keeps S w t) (v : Rewriter T) (u : T) (j : Keeps T v u) (same : (x : PStmt) → w.replaced_stmt t no_stmt x ≡ v.replaced_stmt u no_stmt x) where
  -- by states that are those that are kept
  stmts_behind : (t' : S) (u' : T) → t' ≡ t → u' ≡ u → (l : PStmts) → rewritten w l t ≡ rewritten v l u → rewritten w l t' ≡ rewritten v l u'
  stmts_behind t' u' p q l e = ap (rewritten w l) p ∙ e ∙ sym (ap (rewritten v l) q)

  maybe_behind : (t' : S) (u' : T) → t' ≡ t → u' ≡ u → (o : PMaybe) → inside_maybe w o t ≡ inside_maybe v o u → inside_maybe w o t' ≡ inside_maybe v o u'
  maybe_behind t' u' p q o e = ap (inside_maybe w o) p ∙ e ∙ sym (ap (inside_maybe v o) q)

  mutual
    alike : (x : PStmt) → parts_rewritten w x t ≡ parts_rewritten v x u
    alike (SAccept a s) = ap (λ b. SAccept b s) (alike_accept a)
    alike (SWait x o s) = λ i. SWait (alike_alts x i) (maybe_behind (after_alts w x t) (after_alts v x u) (still_alts w t k x) (still_alts v u j x) o (alike_maybe o) i) s
    alike (SConditional c b o s) = λ i. SConditional c (alike_stmts b i) (stmts_behind (after_stmts w b t) (after_stmts v b u) (still_stmts w t k b) (still_stmts v u j b) o (alike_stmts o) i) s
    alike (STimed c b d a s) = λ i. STimed c (alike_stmts b i) d (stmts_behind (after_stmts w b t) (after_stmts v b u) (still_stmts w t k b) (still_stmts v u j b) a (alike_stmts a) i) s
    alike (SIf x o s) = λ i. SIf (alike_arms x i) (maybe_behind (after_arms w x t) (after_arms v x u) (still_arms w t k x) (still_arms v u j x) o (alike_maybe o) i) s
    alike (SCase e x o s) = λ i. SCase e (alike_case_arms x i) (maybe_behind (after_case_arms w x t) (after_case_arms v x u) (still_case_arms w t k x) (still_case_arms v u j x) o (alike_maybe o) i) s
    alike (SBlock b s) = ap (λ c. SBlock c s) (alike_body b)
    alike (SLoop n c l s) = ap (λ m. SLoop n c m s) (alike_stmts l)
    alike (SNull s) = refl
    alike (SAssign x e s) = refl
    alike (SDelay d s) = refl
    alike (SExit n e s) = refl
    alike (SRaise n s) = refl
    alike (SAbort cs s) = refl
    alike (SCall c s) = refl
    alike (SPut ps s) = refl
    alike (SPutLine ps s) = refl
    alike (SNewLine s) = refl
    alike (SGet x s) = refl

    alike_stmts : (l : PStmts) → rewritten w l t ≡ rewritten v l u
    alike_stmts no_stmt = refl
    alike_stmts (stmt_then x l) =
        ap (λ a. in_front (w.replaced_stmt t (leads w x a) (parts_rewritten w x a)) (rewritten w l (after_parts w x a))) (k.entered_stmt x)
        ∙ (λ i. in_front (w.replaced_stmt t (still_leads w t k x i) (alike x i)) (stmts_behind (after_parts w x t) (after_parts v x u) (still_parts w t k x) (still_parts v u j x) l (alike_stmts l) i))
        ∙ ap (λ a. in_front a (rewritten v l (after_parts v x u))) (same (parts_rewritten v x u) ∙ ap (λ a. v.replaced_stmt u a (parts_rewritten v x u)) (sym (still_leads v u j x)))
        ∙ sym (ap (λ a. in_front (v.replaced_stmt u (leads v x a) (parts_rewritten v x a)) (rewritten v l (after_parts v x a))) (j.entered_stmt x))

    alike_maybe : (o : PMaybe) → inside_maybe w o t ≡ inside_maybe v o u
    alike_maybe absent = refl
    alike_maybe (present l) = ap present (alike_stmts l)

    alike_accept : (a : PAccept) → inside_accept w a t ≡ inside_accept v a u
    alike_accept (accepting h o) = ap (accepting h) (alike_maybe o)

    alike_kind : (x : PAltKind) → inside_kind w x t ≡ inside_kind v x u
    alike_kind (AAccept a l) = λ i. AAccept (alike_accept a i) (stmts_behind (after_accept w a t) (after_accept v a u) (still_accept w t k a) (still_accept v u j a) l (alike_stmts l) i)
    alike_kind (ADelay d l) = ap (ADelay d) (alike_stmts l)
    alike_kind ATerminate = refl

    alike_alts : (x : PAlts) → inside_alts w x t ≡ inside_alts v x u
    alike_alts no_alt = refl
    alike_alts (alt_then (alternative g x s) l) =
        ap (λ a. alt_then (w.left_alternative t (alternative g (inside_kind w x a) s)) (inside_alts w l (after_kind w x a))) (k.entered_alternative (alternative g x s))
        ∙ (λ i. alt_then (k.left_alternative (alternative g (inside_kind w x t) s) i) (inside_alts w l (still_kind w t k x i)))
        ∙ (λ i. alt_then (alternative g (alike_kind x i) s) (alike_alts l i))
        ∙ sym (λ i. alt_then (j.left_alternative (alternative g (inside_kind v x u) s) i) (inside_alts v l (still_kind v u j x i)))
        ∙ sym (ap (λ a. alt_then (v.left_alternative u (alternative g (inside_kind v x a) s)) (inside_alts v l (after_kind v x a))) (j.entered_alternative (alternative g x s)))

    alike_arms : (x : PArms) → inside_arms w x t ≡ inside_arms v x u
    alike_arms no_arm = refl
    alike_arms (arm_then (arm e l) rest) =
        ap (λ a. arm_then (arm e (rewritten w l t)) (inside_arms w rest a)) (still_stmts w t k l)
        ∙ (λ i. arm_then (arm e (alike_stmts l i)) (alike_arms rest i))
        ∙ sym (ap (λ a. arm_then (arm e (rewritten v l u)) (inside_arms v rest a)) (still_stmts v u j l))

    alike_case_arms : (x : PCaseArms) → inside_case_arms w x t ≡ inside_case_arms v x u
    alike_case_arms no_case_arm = refl
    alike_case_arms (case_arm_then (case_arm cs l) rest) =
        ap (λ a. case_arm_then (case_arm cs (rewritten w l t)) (inside_case_arms w rest a)) (still_stmts w t k l)
        ∙ (λ i. case_arm_then (case_arm cs (alike_stmts l i)) (alike_case_arms rest i))
        ∙ sym (ap (λ a. case_arm_then (case_arm cs (rewritten v l u)) (inside_case_arms v rest a)) (still_stmts v u j l))

    pub alike_body : (b : PBody) → inside_body w b t ≡ inside_body v b u
    alike_body (body l hs) =
        ap (λ a. body (rewritten w l t) (inside_handlers w hs a)) (still_stmts w t k l)
        ∙ (λ i. body (alike_stmts l i) (alike_handlers hs i))
        ∙ sym (ap (λ a. body (rewritten v l u) (inside_handlers v hs a)) (still_stmts v u j l))

    alike_handlers : (hs : PHandlers) → inside_handlers w hs t ≡ inside_handlers v hs u
    alike_handlers no_handler = refl
    alike_handlers (handler_then (handler ws l s) rest) =
        ap (λ a. handler_then (handler ws (rewritten w l t) s) (inside_handlers w rest a)) (still_stmts w t k l)
        ∙ (λ i. handler_then (handler ws (alike_stmts l i) s) (alike_handlers rest i))
        ∙ sym (ap (λ a. handler_then (handler ws (rewritten v l u) s) (inside_handlers v rest a)) (still_stmts v u j l))
