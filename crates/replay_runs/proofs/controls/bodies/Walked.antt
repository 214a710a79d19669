-- What holds of each accept statement of a unit of the normal form, and of one of DED_NEVER, holds of each in the replay text.
use Rattle.std.proofs.Common.{◌≡◌, ℕ, ◌+◌, ◌==◌, Bool, true, false, if◌then◌else◌, List, [], ◌∷◌, refl, sym, ◌∙◌, subst}
use Rattle.ada_tree.specs.declared.naming.Span.{Span}
use Rattle.ada_tree.specs.PlainStmt.{PHead, PStmt, SNull, SAssign, SDelay, SExit, SRaise, SAbort, SCall, SAccept, SWait, SConditional, STimed, SPut, SPutLine, SNewLine, SGet, SIf, SCase, SBlock, SLoop, PStmts, no_stmt, stmt_then, PMaybe, absent, present, accepting, alternative, AAccept, ADelay, ATerminate, PAlts, no_alt, alt_then, PArms, no_arm, arm_then, arm, PCaseArms, no_case_arm, case_arm_then, case_arm, PBody, body, PHandlers, no_handler, handler_then, handler}
use Rattle.task_model.specs.Frames.{in_front}
use Rattle.task_laws.specs.invariants.AcceptHeads.{InStmt, InStmts, InMaybe, InAlts, InArms, InCaseArms, InBody, InHandlers}
use Rattle.task_laws.specs.statements.Each as each
use Rattle.normal_model.specs.Making.{one}
use Rattle.normal_model.specs.RewrittenUnit.{RewrittenUnit}
use Rattle.normal_model.specs.Waits.{head_of}
use Rattle.normal_model.specs.Walk.{Rewriter, after_parts, after_stmts, after_maybe, after_kind, after_alts, after_arms, after_case_arms, after_alt, alts_leads, rewritten, inside_maybe, inside_alts, inside_arms, inside_case_arms, inside_body, inside_handlers, image_of}
use Rattle.replay_model.specs.Asking.{done}
use Rattle.replay_model.specs.Serving.{finish, accept_asking, saying_so, serve}
use Rattle.replay_model.specs.Waiting.{Pause, pauses_of, only_pause, alternative_branches, else_branch, wait_image}
use Rattle.replay_model.specs.ReplayStmts.{task_called, replay_rewriter, with_handlers, replay_body}
use Rattle.replay_structure.specs.asked.Pieces.{never_head}
use Rattle.replay_structure.proofs.asked.Kept.{still_parts, still_stmts, still_accept, still_kind, still_alts, still_arms, still_case_arms}

abbrev r : Rewriter RewrittenUnit
r = replay_rewriter

module _ (Head : PHead → Type 0) where
  abbrev Row : PStmts → Type 0
  Row = InStmts Head

  -- rows one behind the other
  in-front : (a b : PStmts) → Row a → Row b → Row (in_front a b)
  in-front no_stmt b h k = k
  in-front (stmt_then x a) b h k = (h.0, in-front a b h.1 k)

  -- of the accepts among alternatives
  abbrev pub HeadsOf : PAlts → Type 0
  HeadsOf no_alt = Unit {0}
  HeadsOf (alt_then (alternative guard (AAccept accept stmts) s) rest) = Head (head_of accept) × HeadsOf rest
  HeadsOf (alt_then (alternative guard (ADelay duration stmts) s) rest) = HeadsOf rest
  HeadsOf (alt_then (alternative guard ATerminate s) rest) = HeadsOf rest

  -- ---- what is added

  module _ (t : RewrittenUnit) (s : Span) where
    in-finish : Row (finish t s)
    in-finish = (tt, ((((tt, tt), tt), tt), tt))

    in-saying : (x : PStmt) → InStmt Head x → InStmt Head (saying_so t s x)
    in-saying x h = ((h, tt), ((tt, (tt, tt)), tt))

    in-serve : (h : PHead) (o : PMaybe) → Head h → InMaybe Head o → Row (serve t s (accepting h o))
    in-serve h absent fits its = ((fits, (tt, in-finish)), (tt, tt))
    in-serve h (present l) fits its = (
      in-saying (accept_asking t s (accepting h (present l))) (fits, (tt, ((its, ((tt, ((((tt, tt), tt), tt), (tt, tt))), tt)), in-finish))),
      (tt, tt),
    )

    in-pauses : (k : ℕ) (xs : List Pause) (n : ℕ) → InAlts Head (only_pause s k xs n)
    in-pauses k [] n = tt
    in-pauses k (x ∷ xs) n = (tt, in-pauses k xs (n + 1))

    in-else : (o : PMaybe) → Head (never_head t s) → InMaybe Head o → InArms Head (else_branch t s o)
    in-else absent never h = tt
    in-else (present l) never h = ((((((never, tt), tt), tt), (tt, tt)), (tt, h)), tt)

    in-abort : (b : Bool) → Row (if b then no_stmt else one (done t s))
    in-abort true = tt
    in-abort false = (tt, tt)

  -- ---- the walk

  module _ (u : RewrittenUnit) (Each : each.Loops → PStmt → Type 0) (accepts : (loops : each.Loops) (h : PHead) (o : PMaybe) (s : Span) → Each loops (SAccept (accepting h o) s) → Head h) (waits : (loops : each.Loops) (alts : PAlts) (o : PMaybe) (s : Span) → Each loops (SWait alts o s) → HeadsOf alts × ((t : Span) → Head (never_head u t))) where
    -- what alternatives put in front of their wait
    in-leads : (x : PAlts) (t : RewrittenUnit) → Row (alts_leads r x t)
    in-leads no_alt t = tt
    in-leads (alt_then x l) t = in-leads l (after_alt r x t)

    mutual
      in-stmts : (loops : each.Loops) (l : PStmts) (t : RewrittenUnit) → t ≡ u → each.InStmts Each loops l → Row (rewritten r l t)
      in-stmts loops no_stmt t e h = tt
      in-stmts loops (stmt_then x l) t e h = in-front (image_of r x t) (rewritten r l (after_parts r x t)) (in-image loops x t e h.0.0 h.0.1) (in-stmts loops l (after_parts r x t) (still_parts x t ∙ e) h.1)

      in-image : (loops : each.Loops) (x : PStmt) (t : RewrittenUnit) → t ≡ u → Each loops x → each.InParts Each loops x → Row (image_of r x t)
      in-image loops (SCall c s) t e h k = (tt, (((((tt, tt), ((((tt, tt), ((tt, (tt, tt)), tt)), tt), tt))), (tt, tt)), tt))
      in-image loops (SConditional c b o s) t e h k =
          let met : Row (rewritten r b t) = in-stmts loops b t e k.0 in
          let behind : Row (rewritten r o (after_stmts r b t)) = in-stmts loops o (after_stmts r b t) (still_stmts b t ∙ e) k.1 in
          (tt, ((((tt, met), ((((tt, tt), ((tt, (tt, tt)), tt)), tt), (((tt, (tt, tt)), behind), tt))), (tt, tt)), tt))
      in-image loops (STimed c b d a s) t e h k =
          let met : Row (rewritten r b t) = in-stmts loops b t e k.0 in
          let behind : Row (rewritten r a (after_stmts r b t)) = in-stmts loops a (after_stmts r b t) (still_stmts b t ∙ e) k.1 in
          (tt, ((((tt, met), ((((tt, tt), ((tt, (tt, tt)), tt)), tt), (((tt, (tt, tt)), behind), tt))), (tt, tt)), tt))
      in-image loops (SAccept (accepting head o) s) t e h k = (tt, (((in-serve t s head (inside_maybe r o t) (accepts loops head o s h) (in-maybe [] o t e k), tt), (tt, tt)), tt))
      in-image loops (SWait alts o s) t e h k =
          let w = waits loops alts o s h in
          let never : (p : Span) → Head (never_head t p) = λ p. subst (λ (v : RewrittenUnit). Head (never_head v p)) (sym e) (w.1 p) in
          let branches = in-branches loops (pauses_of (inside_alts r alts t)) (else_branch t s (inside_maybe r o (after_alts r alts t)))
          (in-else t s (inside_maybe r o (after_alts r alts t)) (never s) (in-maybe loops o (after_alts r alts t) (still_alts alts t ∙ e) k.1)) alts t t e w.0 never k.0 1 in
          in-front (alts_leads r alts t) (wait_image t s (inside_alts r alts t) (inside_maybe r o (after_alts r alts t))) (in-leads alts t) (tt, ((branches, (tt, tt)), tt))
      in-image loops (SAbort [] s) t e h k = (tt, tt)
      in-image loops (SAbort (x ∷ []) s) t e h k = (tt, ((((tt, in-abort t s (task_called t x == t.task)), tt), (tt, tt)), tt))
      in-image loops (SAbort (x ∷ y ∷ xs) s) t e h k = (tt, tt)
      in-image loops (SIf x o s) t e h k = ((in-arms loops x t e k.0, in-maybe loops o (after_arms r x t) (still_arms x t ∙ e) k.1), tt)
      in-image loops (SCase c x o s) t e h k = ((in-case-arms loops x t e k.0, in-maybe loops o (after_case_arms r x t) (still_case_arms x t ∙ e) k.1), tt)
      in-image loops (SBlock b s) t e h k = (in-body loops b t e k, tt)
      in-image loops (SLoop w c l s) t e h k = (in-stmts (w ∷ loops) l t e k, tt)
      in-image loops (SNull s) t e h k = (tt, tt)
      in-image loops (SAssign x y s) t e h k = (tt, tt)
      in-image loops (SDelay d s) t e h k = (tt, tt)
      in-image loops (SExit w y s) t e h k = (tt, tt)
      in-image loops (SRaise w s) t e h k = (tt, tt)
      in-image loops (SPut ps s) t e h k = (tt, tt)
      in-image loops (SPutLine ps s) t e h k = (tt, tt)
      in-image loops (SNewLine s) t e h k = (tt, tt)
      in-image loops (SGet x s) t e h k = (tt, tt)

      in-maybe : (loops : each.Loops) (o : PMaybe) (t : RewrittenUnit) → t ≡ u → each.InMaybe Each loops o → InMaybe Head (inside_maybe r o t)
      in-maybe loops absent t e h = tt
      in-maybe loops (present l) t e h = in-stmts loops l t e h

      -- the branches of alternatives, in a wait of the unit v
      in-branches : (loops : each.Loops) (pauses : List Pause) (others : PArms) → InArms Head others → (x : PAlts) (v t : RewrittenUnit) → t ≡ u → HeadsOf x → ((p : Span) → Head (never_head v p)) →
          each.InAlts Each loops x → (k : ℕ) → InArms Head (alternative_branches v pauses others (inside_alts r x t) k)
      in-branches loops pauses others rest no_alt v t e heads never h k = rest
      in-branches loops pauses others rest (alt_then (alternative guard (AAccept (accepting head o) l) s) more) v t e heads never h k = (
        in-front (serve v s (accepting head (inside_maybe r o t))) (rewritten r l (after_maybe r o t)) (in-serve v s head (inside_maybe r o t) heads.0 (in-maybe [] o t e h.0.0))
            (in-stmts loops l (after_maybe r o t) (still_accept (accepting head o) t ∙ e) h.0.1),
        in-branches loops pauses others rest more v (after_kind r (AAccept (accepting head o) l) t) (still_kind (AAccept (accepting head o) l) t ∙ e) heads.1 never h.1 k,
      )
      in-branches loops pauses others rest (alt_then (alternative guard (ADelay d l) s) more) v t e heads never h k = (
        (((((never s, tt), tt), in-pauses v s k pauses 1), tt), (tt, in-stmts loops l t e h.0)),
        in-branches loops pauses others rest more v (after_stmts r l t) (still_stmts l t ∙ e) heads never h.1 (k + 1),
      )
      in-branches loops pauses others rest (alt_then (alternative guard ATerminate s) more) v t e heads never h k =
          ((((((never s, tt), tt), (tt, tt)), tt), tt), in-branches loops pauses others rest more v t e heads never h.1 k)

      in-arms : (loops : each.Loops) (x : PArms) (t : RewrittenUnit) → t ≡ u → each.InArms Each loops x → InArms Head (inside_arms r x t)
      in-arms loops no_arm t e h = tt
      in-arms loops (arm_then (arm c l) rest) t e h = (in-stmts loops l t e h.0, in-arms loops rest (after_stmts r l t) (still_stmts l t ∙ e) h.1)

      in-case-arms : (loops : each.Loops) (x : PCaseArms) (t : RewrittenUnit) → t ≡ u → each.InCaseArms Each loops x → InCaseArms Head (inside_case_arms r x t)
      in-case-arms loops no_case_arm t e h = tt
      in-case-arms loops (case_arm_then (case_arm cs l) rest) t e h = (in-stmts loops l t e h.0, in-case-arms loops rest (after_stmts r l t) (still_stmts l t ∙ e) h.1)

      in-body : (loops : each.Loops) (b : PBody) (t : RewrittenUnit) → t ≡ u → each.InBody Each loops b → InBody Head (inside_body r b t)
      in-body loops (body l hs) t e h = (in-stmts loops l t e h.0, in-handlers loops hs (after_stmts r l t) (still_stmts l t ∙ e) h.1)

      in-handlers : (loops : each.Loops) (hs : PHandlers) (t : RewrittenUnit) → t ≡ u → each.InHandlers Each loops hs → InHandlers Head (inside_handlers r hs t)
      in-handlers loops no_handler t e h = tt
      in-handlers loops (handler_then (handler ws l s) rest) t e h = (in-stmts loops l t e h.0, in-handlers loops rest (after_stmts r l t) (still_stmts l t ∙ e) h.1)

    -- a body whose statements stand in a block where it has handlers
    in-kept : (s : Span) (b : PBody) → InBody Head b → Row (with_handlers s b)
    in-kept s (body l no_handler) h = h.0
    in-kept s (body l (handler_then x hs)) h = (h, tt)

    -- So it is of the body of a unit.
    pub in-unit : (s : Span) (b : PBody) → each.InBody Each [] b → InBody Head (replay_body u s b)
    in-unit s b h = (((in-kept s (inside_body r b u) (in-body [] b u refl h), (((tt, tt), tt))), (tt, (((((tt, tt), tt), tt)), tt))), tt)
