-- The statements of a collecting text of a program with abort statements declare and name what those of the normal form do, and the formal of the caller. What an alternative of a wait declares stands behind the wait, so the order differs.
use Rattle.std.proofs.Common.{◌≡◌, ℕ, ◌+◌, ◌==◌, false, List, [], ◌∷◌, ◌++◌, sym, subst, ◌∙◌}
use Rattle.std.specs.List.{AllByRecursion}
use Rattle.std.proofs.lemmas.List.{append-nil}
use Rattle.common_lemmas.proofs.Lists.{all_front, all_back, all_joined}
use Rattle.ada_tree.specs.declared.naming.Span.{Span}
use Rattle.ada_tree.specs.PlainStmt.{PHead, PStmt, SNull, SAssign, SDelay, SExit, SRaise, SAbort, SCall, SAccept, SWait, SConditional, STimed, SPut, SPutLine, SNewLine, SGet, SIf, SCase, SBlock, SLoop, PStmts, no_stmt, stmt_then, PMaybe, absent, present, accepting, alternative, AAccept, ADelay, ATerminate, PAlts, no_alt, alt_then, PArms, no_arm, arm_then, arm, PCaseArms, no_case_arm, case_arm_then, case_arm, PBody, body, PHandlers, no_handler, handler_then, handler}
use Rattle.ada_static_rules.specs.RuleDuplicate.{is_predefined}
use Rattle.ada_static_rules.specs.Sites.{all_names, with_words}
use Rattle.ada_decl_rules.specs.declared.duplicates.namings_in_order.Naming.{Naming}
use Rattle.ada_decl_rules.specs.duplicates.NamingsInOrder.{declared, named_once}
use Rattle.normal_model.specs.Making.{or_null}
use Rattle.normal_model.specs.Walk.{Rewriter, after_parts, after_stmts, after_maybe, after_alts, after_arms, after_case_arms, image_of, rewritten, inside_maybe, inside_alts, inside_arms, inside_case_arms, inside_body, inside_handlers}
use Rattle.task_model.specs.Frames.{in_front}
use Rattle.normal_laws.specs.structure.once.Apart.{IsFreeOf, IsFitIn}
use Rattle.normal_laws.specs.structure.once.Names.{label_names, scheme_names, stmt_names, stmts_names, maybe_names, accept_names, alts_names, arms_names, case_arms_names, body_names, handlers_names}
use Rattle.normal_laws.proofs.structure.once.Rewritten.{front-names}
use Rattle.replay_model.specs.ReplayStmts.{with_handlers}
use Rattle.replay_structure.proofs.declares_once.Grown.{IsGood, IsSame, good-fit}
use Rattle.collect_structure.proofs.declares_once.Statements.{caller-more}
use Rattle.collect_model.specs.aborts.AbortTeller.{AbortTeller}
use Rattle.collect_model.specs.aborts.Places.{with_place}
use Rattle.collect_model.specs.aborts.Serving.{accept_told}
use Rattle.collect_model.specs.aborts.Waiting.{alternatives_told, behind_alternatives, else_told, else_branch, branches}
use Rattle.collect_model.specs.aborts.AbortStmts.{image_told, abort_rewriter, main_body, task_body}
use Rattle.collect_structure.proofs.aborts.asked.Kept.{no-leads}
use Rattle.collect_structure.proofs.aborts.declares_once.Loose.{body-loose}

-- Beside fixed names F, where the names X are new, and the formal of the caller is one of them.
module _ (F X : List ℕ) (u : AbortTeller) (predefined-not : is_predefined u.teller.added.caller.0 ≡ false) (free : IsFreeOf F u.teller.added.caller.0)
    (one-new : (x : ℕ) → IsFreeOf X x → (u.teller.added.caller.0 == x) ≡ false) where
  abbrev Good : Naming → Type 0
  Good = IsGood F X

  abbrev Fit : List Naming → Type 0
  Fit A = AllByRecursion (IsFitIn F) A

  abbrev r : Rewriter ℕ
  r = abort_rewriter u

  -- ---- lists

  both : (A B : List Naming) → Fit A → Fit B → Fit (A ++ B)
  both A B h k = all_joined (IsFitIn F) A B h k

  nil : (A : List Naming) → Fit A → Fit (A ++ [])
  nil A h = both A [] h tt

  kept : (A : List Naming) → AllByRecursion Good A → Fit A
  kept A h = good-fit F X A h

  -- ---- what is made of one statement

  or-null-fit : (s : Span) (l : PStmts) → Fit (stmts_names l) → Fit (stmts_names (or_null s l))
  or-null-fit s no_stmt h = tt
  or-null-fit s (stmt_then x l) h = h

  -- what follows a call, and the other part
  parts-fit : (A B : List Naming) → Fit A → Fit B → Fit (((A ++ []) ++ B) ++ [])
  parts-fit A B h k = nil ((A ++ []) ++ B) (both (A ++ []) B (nil A h) k)

  -- the formals of an accept, with that of the caller
  abbrev with-caller : PHead → List Naming
  with-caller i = declared false [] (record { name = u.teller.added.caller; span = i.entry.span } ∷ all_names i.formals)

  -- an accept, where its statements are rewritten
  accept-made : (s : Span) (p : ℕ) (i : PHead) (o : PMaybe) → AllByRecursion Good (declared false [] (all_names i.formals)) → Fit (maybe_names o) →
      Fit (accept_names (accept_told u s p (accepting i o)))
  accept-made s p i absent h k =
      let more = caller-more F X u.teller predefined-not free one-new i.entry.span (all_names i.formals) h in nil (with-caller i) more.fit
  accept-made s p i (present l) h k =
      let more = caller-more F X u.teller predefined-not free one-new i.entry.span (all_names i.formals) h in
      both (with-caller i) (((stmts_names l ++ []) ++ []) ++ []) more.fit (nil ((stmts_names l ++ []) ++ []) (nil (stmts_names l ++ []) (nil (stmts_names l) k)))

  else-fit : (s : Span) (o : PMaybe) (j : ℕ) → Fit (maybe_names (else_told u s o j))
  else-fit s absent j = tt
  else-fit s (present l) j = tt

  else-branch-fit : (s : Span) (o : PMaybe) (j : ℕ) → Fit (maybe_names o) → Fit (arms_names (else_branch u s o j))
  else-branch-fit s absent j h = tt
  else-branch-fit s (present l) j h = nil (stmts_names (or_null s l)) (or-null-fit s l h)

  -- ---- the walk

  mutual
    stmt : (x : PStmt) (t : ℕ) → AllByRecursion Good (stmt_names x) → Fit (stmts_names (image_of r x t))
    stmt (SNull s) t h = tt
    stmt (SAssign x y s) t h = tt
    stmt (SDelay m s) t h = tt
    stmt (SExit w y s) t h = tt
    stmt (SRaise w s) t h = tt
    stmt (SPut ps s) t h = tt
    stmt (SPutLine ps s) t h = tt
    stmt (SNewLine s) t h = tt
    stmt (SGet x s) t h = tt
    stmt (SAbort [] s) t h = tt
    stmt (SAbort (x ∷ []) s) t h = tt
    stmt (SAbort (x ∷ y ∷ xs) s) t h = tt
    stmt (SCall x s) t h = tt
    stmt (SAccept (accepting i o) s) t h =
        let own : List Naming = declared false [] (all_names i.formals) in
        let told : List Naming = accept_names (accept_told u s (t + 1) (accepting i (inside_maybe r o (t + 1)))) in
        nil (((told ++ []) ++ []) ++ [])
        (nil ((told ++ []) ++ [])
        (nil (told ++ []) (nil told (accept-made s (t + 1) i (inside_maybe r o (t + 1)) (all_front Good own (maybe_names o) h) (maybe o (t + 1) (all_back Good own (maybe_names o) h))))))
    stmt (SWait x o s) t h =
        let p : ℕ = t + 1 in
        let x' : PAlts = inside_alts r x p in
        let o' : PMaybe = inside_maybe r o (after_alts r x p) in
        let first : AllByRecursion Good (alts_names x) = all_front Good (alts_names x) (maybe_names o) h in
        let j : ℕ = behind_alternatives x' 1 in
        let W : List Naming = alts_names (alternatives_told u p x' 1 1) ++ maybe_names (else_told u s o' j) in
        subst (λ l. Fit (stmts_names (in_front l (image_told u p (SWait x' o' s))))) (sym (no-leads u x p))
        (both (((W ++ []) ++ []) ++ []) ((arms_names (branches u s p x' o' 1) ++ []) ++ [])
        (nil ((W ++ []) ++ []) (nil (W ++ []) (nil W (both (alts_names (alternatives_told u p x' 1 1)) (maybe_names (else_told u s o' j)) (alts x p p 1 1 first) (else-fit s o' j)))))
        (nil (arms_names (branches u s p x' o' 1) ++ [])
        (nil (arms_names (branches u s p x' o' 1)) (behind x o' s p p 1 first (maybe o (after_alts r x p) (all_back Good (alts_names x) (maybe_names o) h))))))
    stmt (SConditional x l o s) t h =
        parts-fit (stmts_names (rewritten r l t)) (stmts_names (rewritten r o (after_stmts r l t))) (stmts l t (all_front Good (stmts_names l) (stmts_names o) h))
        (stmts o (after_stmts r l t) (all_back Good (stmts_names l) (stmts_names o) h))
    stmt (STimed x l m o s) t h =
        parts-fit (stmts_names (rewritten r l t)) (stmts_names (rewritten r o (after_stmts r l t))) (stmts l t (all_front Good (stmts_names l) (stmts_names o) h))
        (stmts o (after_stmts r l t) (all_back Good (stmts_names l) (stmts_names o) h))
    stmt (SIf x o s) t h =
        nil (arms_names (inside_arms r x t) ++ maybe_names (inside_maybe r o (after_arms r x t)))
        (both (arms_names (inside_arms r x t)) (maybe_names (inside_maybe r o (after_arms r x t))) (arms x t (all_front Good (arms_names x) (maybe_names o) h))
        (maybe o (after_arms r x t) (all_back Good (arms_names x) (maybe_names o) h)))
    stmt (SCase y x o s) t h =
        nil (case_arms_names (inside_case_arms r x t) ++ maybe_names (inside_maybe r o (after_case_arms r x t)))
        (both (case_arms_names (inside_case_arms r x t)) (maybe_names (inside_maybe r o (after_case_arms r x t)))
        (case_arms x t (all_front Good (case_arms_names x) (maybe_names o) h)) (maybe o (after_case_arms r x t) (all_back Good (case_arms_names x) (maybe_names o) h)))
    stmt (SBlock x s) t h = nil (body_names (inside_body r x t)) (body-of x t h)
    stmt (SLoop w c l s) t h =
        let front : AllByRecursion Good (label_names w) = all_front Good (label_names w) (scheme_names c ++ stmts_names l) h in
        let behind : AllByRecursion Good (scheme_names c ++ stmts_names l) = all_back Good (label_names w) (scheme_names c ++ stmts_names l) h in
        nil (label_names w ++ (scheme_names c ++ stmts_names (rewritten r l t)))
        (both (label_names w) (scheme_names c ++ stmts_names (rewritten r l t)) (kept (label_names w) front)
        (both (scheme_names c) (stmts_names (rewritten r l t)) (kept (scheme_names c) (all_front Good (scheme_names c) (stmts_names l) behind))
        (stmts l t (all_back Good (scheme_names c) (stmts_names l) behind))))

    stmts : (l : PStmts) (t : ℕ) → AllByRecursion Good (stmts_names l) → Fit (stmts_names (rewritten r l t))
    stmts no_stmt t h = tt
    stmts (stmt_then x l) t h =
        let v : ℕ = after_parts r x (with_place t x) in
        subst Fit (sym (front-names (image_of r x t) (rewritten r l v)))
        (both (stmts_names (image_of r x t)) (stmts_names (rewritten r l v)) (stmt x t (all_front Good (stmt_names x) (stmts_names l) h)) (stmts l v (all_back Good (stmt_names x) (stmts_names l) h)))

    maybe : (o : PMaybe) (t : ℕ) → AllByRecursion Good (maybe_names o) → Fit (maybe_names (inside_maybe r o t))
    maybe absent t h = tt
    maybe (present l) t h = stmts l t h

    -- the alternatives of a wait, in the wait
    alts : (x : PAlts) (t p j e : ℕ) → AllByRecursion Good (alts_names x) → Fit (alts_names (alternatives_told u p (inside_alts r x t) j e))
    alts no_alt t p j e h = tt
    alts (alt_then (alternative g (AAccept (accepting i o) l) s) rest) t p j e h =
        let v : ℕ = after_maybe r o t in
        let here : List Naming = accept_names (accepting i o) ++ stmts_names l in
        let k : AllByRecursion Good here = all_front Good here (alts_names rest) h in
        let own : List Naming = declared false [] (all_names i.formals) in
        let first : AllByRecursion Good (accept_names (accepting i o)) = all_front Good (accept_names (accepting i o)) (stmts_names l) k in
        let told : List Naming = accept_names (accept_told u s p (accepting i (inside_maybe r o t))) in
        both (told ++ []) (alts_names (alternatives_told u p (inside_alts r rest (after_stmts r l v)) (j + 1) e))
        (nil told (accept-made s p i (inside_maybe r o t) (all_front Good own (maybe_names o) first) (maybe o t (all_back Good own (maybe_names o) first))))
        (alts rest (after_stmts r l v) p (j + 1) e (all_back Good here (alts_names rest) h))
    alts (alt_then (alternative g (ADelay m l) s) rest) t p j e h = alts rest (after_stmts r l t) p (j + 1) (e + 1) (all_back Good (stmts_names l) (alts_names rest) h)
    alts (alt_then (alternative g ATerminate s) rest) t p j e h = alts rest t p (j + 1) e h

    -- and their statements behind it
    behind : (x : PAlts) (o : PMaybe) (s : Span) (t p j : ℕ) → AllByRecursion Good (alts_names x) → Fit (maybe_names o) → Fit (arms_names (branches u s p (inside_alts r x t) o j))
    behind no_alt o s t p j h k = else-branch-fit s o j k
    behind (alt_then (alternative g (AAccept (accepting i o') l) s') rest) o s t p j h k =
        let v : ℕ = after_maybe r o' t in
        let here : List Naming = accept_names (accepting i o') ++ stmts_names l in
        both (stmts_names (rewritten r l v)) (arms_names (branches u s p (inside_alts r rest (after_stmts r l v)) o (j + 1)))
        (stmts l v (all_back Good (accept_names (accepting i o')) (stmts_names l) (all_front Good here (alts_names rest) h)))
        (behind rest o s (after_stmts r l v) p (j + 1) (all_back Good here (alts_names rest) h) k)
    behind (alt_then (alternative g (ADelay m l) s') rest) o s t p j h k =
        both (stmts_names (or_null s' (rewritten r l t))) (arms_names (branches u s p (inside_alts r rest (after_stmts r l t)) o (j + 1)))
        (or-null-fit s' (rewritten r l t) (stmts l t (all_front Good (stmts_names l) (alts_names rest) h)))
        (behind rest o s (after_stmts r l t) p (j + 1) (all_back Good (stmts_names l) (alts_names rest) h) k)
    behind (alt_then (alternative g ATerminate s') rest) o s t p j h k = behind rest o s t p (j + 1) h k

    arms : (x : PArms) (t : ℕ) → AllByRecursion Good (arms_names x) → Fit (arms_names (inside_arms r x t))
    arms no_arm t h = tt
    arms (arm_then (arm y l) rest) t h =
        both (stmts_names (rewritten r l t)) (arms_names (inside_arms r rest (after_stmts r l t))) (stmts l t (all_front Good (stmts_names l) (arms_names rest) h))
        (arms rest (after_stmts r l t) (all_back Good (stmts_names l) (arms_names rest) h))

    case_arms : (x : PCaseArms) (t : ℕ) → AllByRecursion Good (case_arms_names x) → Fit (case_arms_names (inside_case_arms r x t))
    case_arms no_case_arm t h = tt
    case_arms (case_arm_then (case_arm cs l) rest) t h =
        both (stmts_names (rewritten r l t)) (case_arms_names (inside_case_arms r rest (after_stmts r l t)))
        (stmts l t (all_front Good (stmts_names l) (case_arms_names rest) h)) (case_arms rest (after_stmts r l t) (all_back Good (stmts_names l) (case_arms_names rest) h))

    body-of : (x : PBody) (t : ℕ) → AllByRecursion Good (body_names x) → Fit (body_names (inside_body r x t))
    body-of (body l hs) t h =
        both (stmts_names (rewritten r l t)) (handlers_names [] (inside_handlers r hs (after_stmts r l t)))
        (stmts l t (all_front Good (stmts_names l) (handlers_names [] hs) h)) (handlers [] hs (after_stmts r l t) (all_back Good (stmts_names l) (handlers_names [] hs) h))

    handlers : (names : List ℕ) (x : PHandlers) (t : ℕ) → AllByRecursion Good (handlers_names names x) → Fit (handlers_names names (inside_handlers r x t))
    handlers names no_handler t h = tt
    handlers names (handler_then (handler ws l s) rest) t h =
        let own : List Naming = named_once names ws in
        let later : List Naming = handlers_names (with_words names ws) rest in
        let behind : AllByRecursion Good (stmts_names l ++ later) = all_back Good own (stmts_names l ++ later) h in
        both own (stmts_names (rewritten r l t) ++ handlers_names (with_words names ws) (inside_handlers r rest (after_stmts r l t))) (kept own (all_front Good own (stmts_names l ++ later) h))
        (both (stmts_names (rewritten r l t)) (handlers_names (with_words names ws) (inside_handlers r rest (after_stmts r l t)))
        (stmts l t (all_front Good (stmts_names l) later behind)) (handlers (with_words names ws) rest (after_stmts r l t) (all_back Good (stmts_names l) later behind)))

  -- ---- units

  -- The body of main is as fine as that of the normal form, and fixes no name, as that does.
  pub main-same : (b : PBody) → AllByRecursion Good (body_names b) → IsSame F X (body_names b) (body_names (main_body u b))
  main-same b h = record { fit = body-of b 0 h; fixed = body-loose (main_body u b) ∙ sym (body-loose b) }

  held-names : (s : Span) (b : PBody) → stmts_names (with_handlers s b) ≡ body_names b
  held-names s (body l no_handler) = sym (append-nil (stmts_names l))
  held-names s (body l (handler_then h hs)) = append-nil (body_names (body l (handler_then h hs)))

  -- So is that of a task.
  pub task-same : (s : Span) (b : PBody) → AllByRecursion Good (body_names b) → IsSame F X (body_names b) (body_names (task_body u s b))
  task-same s b h = record {
    fit =
        nil ((stmts_names (with_handlers s (inside_body r b 0)) ++ []) ++ [])
        (nil (stmts_names (with_handlers s (inside_body r b 0)) ++ [])
        (nil (stmts_names (with_handlers s (inside_body r b 0))) (subst Fit (sym (held-names s (inside_body r b 0))) (body-of b 0 h))));
    fixed = body-loose (task_body u s b) ∙ sym (body-loose b);
  }
