-- The statements of a replay text declare and name what those of the normal form do, in the same order.
use Rattle.std.proofs.Common.{◌≡◌, ℕ, ◌+◌, ◌==◌, Bool, true, false, if◌then◌else◌, List, [], ◌∷◌, ◌++◌, refl, sym, ap, ap₂, ◌∙◌}
use Rattle.std.proofs.lemmas.List.{append-nil, append_assoc}
use Rattle.ada_tree.specs.declared.naming.Span.{Span}
use Rattle.ada_tree.specs.PlainStmt.{PCallee, PCall, PStmt, SNull, SAssign, SDelay, SExit, SRaise, SAbort, SCall, SAccept, SWait, SConditional, STimed, SPut, SPutLine, SNewLine, SGet, SIf, SCase, SBlock, SLoop, PStmts, no_stmt, stmt_then, PMaybe, absent, present, PAccept, accepting, alternative, PAltKind, AAccept, ADelay, ATerminate, PAlts, no_alt, alt_then, PArms, no_arm, arm_then, arm, PCaseArms, no_case_arm, case_arm_then, case_arm, PBody, body, PHandlers, no_handler, handler_then, handler}
use Rattle.ada_static_rules.specs.Sites.{all_names, with_words}
use Rattle.normal_model.specs.Making.{one}
use Rattle.normal_model.specs.RewrittenUnit.{RewrittenUnit}
use Rattle.normal_model.specs.Walk.{after_parts, after_stmts, after_accept, after_kind, after_alt, after_alts, after_arms, after_case_arms, alts_leads, image_of, rewritten, inside_maybe, inside_accept, inside_kind, inside_alts, inside_arms, inside_case_arms, inside_body, inside_handlers}
use Rattle.ada_decl_rules.specs.duplicates.NamingsInOrder.{declared, named_once}
use Rattle.ada_decl_rules.specs.declared.duplicates.namings_in_order.Naming.{Naming}
use Rattle.normal_laws.specs.structure.once.Names.{label_names, scheme_names, stmt_names, stmts_names, maybe_names, accept_names, alts_names, kind_names, arms_names, case_arms_names, body_names, handlers_names}
use Rattle.replay_model.specs.Asking.{done, permit_is_for, ask_which, branch}
use Rattle.replay_model.specs.Serving.{serve, accept_image}
use Rattle.replay_model.specs.Waiting.{Pause, pauses_of, only_pause, pausing, alternative_branches, else_branch, wait_image}
use Rattle.replay_model.specs.ReplayStmts.{task_called, replay_image, replay_rewriter, with_handlers, abort_image, replay_body}
use Rattle.normal_laws.proofs.structure.once.Rewritten.{front-names, quiet-front}

-- ---- lists of statements

-- what stands in a list alone
alone : (l : List Naming) → (l ++ []) ++ [] ≡ l
alone l = append-nil (l ++ []) ∙ append-nil l

module _ (u : RewrittenUnit) (s : Span) where
  which-names : (arms : PArms) → stmts_names (ask_which u s arms) ≡ arms_names arms
  which-names arms = alone (arms_names arms)

  -- ---- calls

  conditional-names : (c : PCall) (b o : PStmts) → stmts_names (replay_image u (SConditional c b o s)) ≡ stmts_names b ++ stmts_names o
  conditional-names c b o = alone (stmts_names b ++ (stmts_names o ++ [])) ∙ ap (λ (l : List Naming). stmts_names b ++ l) (append-nil (stmts_names o))

  timed-names : (c : PCall) (b : PStmts) (d : ℕ) (a : PStmts) → stmts_names (replay_image u (STimed c b d a s)) ≡ stmts_names b ++ stmts_names a
  timed-names c b d a = alone (stmts_names b ++ (stmts_names a ++ [])) ∙ ap (λ (l : List Naming). stmts_names b ++ l) (append-nil (stmts_names a))

  -- ---- accepts

  serve-names : (a : PAccept) → stmts_names (serve u s a) ≡ accept_names a
  serve-names (accepting h absent) = append-nil (declared false [] (all_names h.formals) ++ [])
  serve-names (accepting h (present l)) =
      let kept : List Naming = (stmts_names l ++ []) ++ [] in
      append-nil (((declared false [] (all_names h.formals) ++ kept) ++ []) ++ []) ∙ alone (declared false [] (all_names h.formals) ++ kept) ∙ ap (λ (m : List Naming). declared false [] (all_names h.formals) ++ m) (alone (stmts_names l))

  accept-names : (a : PAccept) → stmts_names (accept_image u s a) ≡ accept_names a
  accept-names a = alone (stmts_names (serve u s a) ++ []) ∙ append-nil (stmts_names (serve u s a)) ∙ serve-names a

  -- ---- aborts

  abort-names : (x : PCallee) → stmts_names (abort_image u s x) ≡ []
  abort-names x = by_test (task_called u x == u.task)
    where
      by_test : (b : Bool) → stmts_names (ask_which u s (branch (permit_is_for u s 9 (task_called u x)) (stmt_then (SAbort (x ∷ []) s) (if b then no_stmt else one (done u s))) no_arm)) ≡ []
      by_test true = refl
      by_test false = refl

  -- ---- waits

  pauses-names : (k : ℕ) (xs : List Pause) (n : ℕ) → alts_names (only_pause s k xs n) ≡ []
  pauses-names k [] n = refl
  pauses-names k (x ∷ xs) n = pauses-names k xs (n + 1)

  pausing-names : (xs : List Pause) (k : ℕ) → stmt_names (pausing u s xs k) ≡ []
  pausing-names xs k = append-nil (alts_names (only_pause s k xs 1)) ∙ pauses-names k xs 1

  else-names : (o : PMaybe) → arms_names (else_branch u s o) ≡ maybe_names o
  else-names absent = refl
  else-names (present l) = append-nil (stmts_names l)

branches-names : (u : RewrittenUnit) (pauses : List Pause) (others : PArms) (x : PAlts) (k : ℕ) → arms_names (alternative_branches u pauses others x k) ≡ alts_names x ++ arms_names others
branches-names u pauses others no_alt k = refl
branches-names u pauses others (alt_then (alternative g (AAccept a l) s) rest) k =
    ap₂ (λ (b c : List Naming). b ++ c) (front-names (serve u s a) l ∙ ap (λ (b : List Naming). b ++ stmts_names l) (serve-names u s a)) (branches-names u pauses others rest k)
    ∙ sym (append_assoc (accept_names a ++ stmts_names l) (alts_names rest) (arms_names others))
branches-names u pauses others (alt_then (alternative g (ADelay d l) s) rest) k =
    ap₂ (λ (b c : List Naming). (b ++ stmts_names l) ++ c) (pausing-names u s pauses k) (branches-names u pauses others rest (k + 1))
    ∙ sym (append_assoc (stmts_names l) (alts_names rest) (arms_names others))
branches-names u pauses others (alt_then (alternative g ATerminate s) rest) k = branches-names u pauses others rest k

wait-names : (u : RewrittenUnit) (s : Span) (x : PAlts) (o : PMaybe) → stmts_names (wait_image u s x o) ≡ alts_names x ++ maybe_names o
wait-names u s x o =
    which-names u s (alternative_branches u (pauses_of x) (else_branch u s o) x 1) ∙ branches-names u (pauses_of x) (else_branch u s o) x 1 ∙ ap (λ (l : List Naming). alts_names x ++ l) (else-names u s o)

-- ---- the walk

leads-quiet : (x : PAlts) (u : RewrittenUnit) → stmts_names (alts_leads replay_rewriter x u) ≡ []
leads-quiet no_alt u = refl
leads-quiet (alt_then x l) u = leads-quiet l (after_alt replay_rewriter x u)

mutual
  image-same : (x : PStmt) (u : RewrittenUnit) → stmts_names (image_of replay_rewriter x u) ≡ stmt_names x
  image-same (SNull s) u = refl
  image-same (SAssign x e s) u = refl
  image-same (SDelay d s) u = refl
  image-same (SExit w e s) u = refl
  image-same (SRaise w s) u = refl
  image-same (SPut ps s) u = refl
  image-same (SPutLine ps s) u = refl
  image-same (SNewLine s) u = refl
  image-same (SGet x s) u = refl
  image-same (SAbort [] s) u = refl
  image-same (SAbort (c ∷ []) s) u = abort-names u s c
  image-same (SAbort (c ∷ d ∷ cs) s) u = refl
  image-same (SCall c s) u = refl
  image-same (SAccept a s) u = accept-names u s (inside_accept replay_rewriter a u) ∙ accept-same a u
  image-same (SWait x o s) u =
      quiet-front (alts_leads replay_rewriter x u) (wait_image u s (inside_alts replay_rewriter x u) (inside_maybe replay_rewriter o (after_alts replay_rewriter x u))) (alts_names x ++ maybe_names o) (leads-quiet x u)
      (wait-names u s (inside_alts replay_rewriter x u) (inside_maybe replay_rewriter o (after_alts replay_rewriter x u))
      ∙ ap₂ (λ (a b : List Naming). a ++ b) (alts-same x u) (maybe-same o (after_alts replay_rewriter x u)))
  image-same (SConditional c b o s) u =
      conditional-names u s c (rewritten replay_rewriter b u) (rewritten replay_rewriter o (after_stmts replay_rewriter b u))
      ∙ ap₂ (λ (x y : List Naming). x ++ y) (stmts-same b u) (stmts-same o (after_stmts replay_rewriter b u))
  image-same (STimed c b d a s) u =
      timed-names u s c (rewritten replay_rewriter b u) d (rewritten replay_rewriter a (after_stmts replay_rewriter b u))
      ∙ ap₂ (λ (x y : List Naming). x ++ y) (stmts-same b u) (stmts-same a (after_stmts replay_rewriter b u))
  image-same (SIf x o s) u =
      append-nil (arms_names (inside_arms replay_rewriter x u) ++ maybe_names (inside_maybe replay_rewriter o (after_arms replay_rewriter x u)))
      ∙ ap₂ (λ (a b : List Naming). a ++ b) (arms-same x u) (maybe-same o (after_arms replay_rewriter x u))
  image-same (SCase e x o s) u =
      append-nil (case_arms_names (inside_case_arms replay_rewriter x u) ++ maybe_names (inside_maybe replay_rewriter o (after_case_arms replay_rewriter x u)))
      ∙ ap₂ (λ (a b : List Naming). a ++ b) (case-arms-same x u) (maybe-same o (after_case_arms replay_rewriter x u))
  image-same (SBlock b s) u = append-nil (body_names (inside_body replay_rewriter b u)) ∙ inner-same b u
  image-same (SLoop w c l s) u =
      append-nil (label_names w ++ (scheme_names c ++ stmts_names (rewritten replay_rewriter l u))) ∙ ap (λ (a : List Naming). label_names w ++ (scheme_names c ++ a)) (stmts-same l u)

  stmts-same : (l : PStmts) (u : RewrittenUnit) → stmts_names (rewritten replay_rewriter l u) ≡ stmts_names l
  stmts-same no_stmt u = refl
  stmts-same (stmt_then x l) u =
      front-names (image_of replay_rewriter x u) (rewritten replay_rewriter l (after_parts replay_rewriter x u))
      ∙ ap₂ (λ (a b : List Naming). a ++ b) (image-same x u) (stmts-same l (after_parts replay_rewriter x u))

  maybe-same : (o : PMaybe) (u : RewrittenUnit) → maybe_names (inside_maybe replay_rewriter o u) ≡ maybe_names o
  maybe-same absent u = refl
  maybe-same (present l) u = stmts-same l u

  accept-same : (a : PAccept) (u : RewrittenUnit) → accept_names (inside_accept replay_rewriter a u) ≡ accept_names a
  accept-same (accepting h o) u = ap (λ (m : List Naming). declared false [] (all_names h.formals) ++ m) (maybe-same o u)

  kind-same : (x : PAltKind) (u : RewrittenUnit) → kind_names (inside_kind replay_rewriter x u) ≡ kind_names x
  kind-same (AAccept a l) u = ap₂ (λ (a b : List Naming). a ++ b) (accept-same a u) (stmts-same l (after_accept replay_rewriter a u))
  kind-same (ADelay d l) u = stmts-same l u
  kind-same ATerminate u = refl

  alts-same : (x : PAlts) (u : RewrittenUnit) → alts_names (inside_alts replay_rewriter x u) ≡ alts_names x
  alts-same no_alt u = refl
  alts-same (alt_then (alternative g x s) l) u = ap₂ (λ (a b : List Naming). a ++ b) (kind-same x u) (alts-same l (after_kind replay_rewriter x u))

  arms-same : (x : PArms) (u : RewrittenUnit) → arms_names (inside_arms replay_rewriter x u) ≡ arms_names x
  arms-same no_arm u = refl
  arms-same (arm_then (arm e l) rest) u = ap₂ (λ (a b : List Naming). a ++ b) (stmts-same l u) (arms-same rest (after_stmts replay_rewriter l u))

  case-arms-same : (x : PCaseArms) (u : RewrittenUnit) → case_arms_names (inside_case_arms replay_rewriter x u) ≡ case_arms_names x
  case-arms-same no_case_arm u = refl
  case-arms-same (case_arm_then (case_arm cs l) rest) u = ap₂ (λ (a b : List Naming). a ++ b) (stmts-same l u) (case-arms-same rest (after_stmts replay_rewriter l u))

  inner-same : (b : PBody) (u : RewrittenUnit) → body_names (inside_body replay_rewriter b u) ≡ body_names b
  inner-same (body l hs) u = ap₂ (λ (a b : List Naming). a ++ b) (stmts-same l u) (handlers-same [] hs (after_stmts replay_rewriter l u))

  handlers-same : (names : List ℕ) (hs : PHandlers) (u : RewrittenUnit) → handlers_names names (inside_handlers replay_rewriter hs u) ≡ handlers_names names hs
  handlers-same names no_handler u = refl
  handlers-same names (handler_then (handler ws l s) rest) u =
      ap₂ (λ (a b : List Naming). named_once names ws ++ (a ++ b)) (stmts-same l u) (handlers-same (with_words names ws) rest (after_stmts replay_rewriter l u))

-- ---- bodies

held-names : (s : Span) (b : PBody) → stmts_names (with_handlers s b) ≡ body_names b
held-names s (body l no_handler) = sym (append-nil (stmts_names l))
held-names s (body l (handler_then h hs)) = append-nil (body_names (body l (handler_then h hs)))

-- The body of a unit in a replay text declares and names what the unit's does.
pub body-same : (u : RewrittenUnit) (s : Span) (b : PBody) → body_names (replay_body u s b) ≡ body_names b
body-same u s b =
    let its : PBody = inside_body replay_rewriter b u in
    append-nil ((stmts_names (with_handlers s its) ++ []) ++ []) ∙ alone (stmts_names (with_handlers s its)) ∙ held-names s its ∙ inner-same b u
