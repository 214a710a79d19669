-- The text of well placed statements is those statements, at the places where they stand: the productions, by recursion on the tree (chapters 5, 9 and 11).
use Rattle.std.proofs.Common.{◌≡◌, ℕ, zero, suc, ◌+◌, ◌≤◌, List, None, Some, subst, arith}
use Rattle.ada_tree.specs.PlainExpr.{PExpr}
use Rattle.ada_tree.specs.PlainStmt.{PCall, PStmt, SNull, SAssign, SDelay, SExit, SRaise, SAbort, SCall, SAccept, SWait, SConditional, STimed, SPut, SPutLine, SNewLine, SGet, SIf, SCase, SBlock, SLoop, PStmts, no_stmt, stmt_then, PMaybe, absent, present, PAccept, accepting, PAlt, alternative, PAltKind, AAccept, ADelay, ATerminate, PAlts, no_alt, alt_then, PArm, arm, PArms, no_arm, arm_then, PCaseArm, case_arm, PCaseArms, no_case_arm, case_arm_then, PBody, body, PHandler, handler, PHandlers, no_handler, handler_then}
use Rattle.ada_tree.specs.WellPlaced.{well_placed}
use Rattle.ada_tree.specs.Every.{EveryCall, arms_count, alts_count, EveryExpr, EveryStmt, EveryStmts, EverySome, EveryMaybe, EveryAccept, EveryAlt, EveryAltKind, EveryAlts, EveryArm, EveryArms, EveryCaseArm, EveryCaseArms, EveryBody, EveryHandler, EveryHandlers}
use Rattle.ada_tree.specs.Same.{SameStmt, SameStmts, SameMaybe, SameAccept, SameAlt, SameAltKind, SameAlts, SameArm, SameArms, SameCaseArm, SameCaseArms, SameBody, SameHandler, SameHandlers}
use Rattle.ada_lexer.specs.declared.symbols.Symbol.TheVariants as key
use Rattle.ada_phrase_parser.specs.Spelling.{Source, ◌▷◌, Key}
use Rattle.ada_stmt_parser.specs.Statements.{IsStmt, AnyStmts, Stmts, ElsePart, OthersPart, IsAccept, IsAlt, IsAltKind, IsAlts, MoreAlts, IsArm, IsArms, MoreArms, IsCaseArm, IsCaseArms, IsBody, HandlerPart, MoreHandlers, IsHandler}
use Rattle.ada_printer.specs.Layout.{deeper}
use Rattle.ada_printer.specs.StmtText.{stmt_form_text, stmts_text, else_text, others_text, accept_text, alt_kind_text, alt_text, alts_text, more_alts_text, arm_text, arms_text, more_arms_text, case_arm_text, case_arms_text, body_text, exception_text, handler_text, handlers_text}
use Rattle.read_back.proofs.Classes.{Anything, Plain}
use Rattle.read_back.proofs.Told.{Setting, names_of, source_of, told_nothing}
use Rattle.read_back.proofs.Expressions.{read_expr}
use Rattle.read_back.proofs.Phrases.{Found}
use Rattle.read_back.proofs.Productions.{null_from, assign_from, delay_from, exit_from, raise_from, abort_from, call_from, put_from, put_line_from, new_line_from, get_from, stmts_from, any_stmts_from, else_from, others_from}
use Rattle.read_back.proofs.Compounds.{accept_from, accept_do_from, accept_stmt_from, accept_kind_from, delay_kind_from, terminate_from, alt_from, guarded_from, alts_from, more_alts_from, wait_from, conditional_from, timed_from, arm_from, arms_from, more_arms_from, if_from, case_arm_from, case_arms_from, case_from, handler_from, handlers_from, exception_from, body_from, block_from, loop_from}

module _ (w : Setting) (n : List (List ℕ)) where
  abbrev m : List (List ℕ)
  m = names_of w

  abbrev src : Source
  src = source_of w

  -- ---- what stands at a nesting stands at most 300 deep

  expr_low : (k : ℕ) (e : PExpr) → EveryExpr (well_placed n) k e → k ≤ 300
  expr_low k e every = let x = read_expr w n k e 0 every in omega (arith, x.low)

  accept_low : (k : ℕ) (a : PAccept) → EveryAccept (well_placed n) k a → k ≤ 300
  accept_low k (accepting h o) every = every.0

  stmt_low : (k : ℕ) (x : PStmt) → EveryStmt (well_placed n) k x → k ≤ 300
  stmt_low k (SNull s) every = every
  stmt_low k (SNewLine s) every = every
  stmt_low k (SAccept a s) every = accept_low k a every
  stmt_low k x every = every.0

  some_low : (k : ℕ) (l : PStmts) → EverySome (well_placed n) k l → k ≤ 300
  some_low k no_stmt every = absurd (omega (arith, every))
  some_low k (stmt_then x l) every = stmt_low k x every.1

  arms_low : (k : ℕ) (x : PArms) → 1 ≤ arms_count x → EveryArms (well_placed n) k x → k ≤ 300
  arms_low k no_arm some every = absurd (omega (arith, some))
  arms_low k (arm_then (arm e l) x) some every = expr_low k e every.0.0

  alts_low : (k : ℕ) (x : PAlts) → 1 ≤ alts_count x → EveryAlts (well_placed n) k x → k ≤ 300
  alts_low k no_alt some every = absurd (omega (arith, some))
  alts_low k (alt_then (alternative g x s) l) some every = every.0.0

  body_low : (k : ℕ) (b : PBody) → EveryBody (well_placed n) k b → k ≤ 300
  body_low k (body l hs) every = some_low k l every.0

  -- where no level is left nothing stands deeper
  none_deeper : {A : Type 0} (k : ℕ) → 300 ≤ k + 0 → k + 1 ≤ 300 → A
  none_deeper k deep low = absurd (omega (arith, deep, low))

  one_deeper : (k d : ℕ) → 300 ≤ k + suc d → 300 ≤ (k + 1) + d
  one_deeper k d deep = omega (arith, deep)

  -- two deeper is one deeper than one deeper
  next_nesting : (k : ℕ) (c : PCall) → EveryCall (well_placed n) (k + 2) c → EveryCall (well_placed n) ((k + 1) + 1) c
  next_nesting k c every = let same : k + 2 ≡ (k + 1) + 1 = omega arith in subst (λ j. EveryCall (well_placed n) j c) same every

  mutual
    pub read_stmt : (k d level : ℕ) (x : PStmt) (at : ℕ) → 300 ≤ k + d → EveryStmt (well_placed n) k x → Found w n (SameStmt n m x) Anything Anything (IsStmt src d) at (stmt_form_text n level x)
    read_stmt k d level (SNull s) at deep every = null_from w n d level at s
    read_stmt k d level (SAssign x e s) at deep every = assign_from w n k d level x e s at deep every.1 every.2
    read_stmt k d level (SDelay t s) at deep every = delay_from w n d level t s at every.1
    read_stmt k d level (SExit v e s) at deep every = exit_from w n k d level v e s at deep every.1 every.2
    read_stmt k d level (SRaise v s) at deep every = raise_from w n d level v s at every.1
    read_stmt k d level (SAbort xs s) at deep every = abort_from w n k d level xs s at deep every.1 every.2
    read_stmt k d level (SCall c s) at deep every = call_from w n k d level c s at deep every.1
    read_stmt k d level (SAccept a s) at deep every = accept_stmt_from w n d level a s at (read_accept k d level a at deep every)
    read_stmt k zero level (SWait x o s) at deep every = none_deeper k deep (alts_low (k + 1) x every.1 every.2)
    read_stmt k (suc d) level (SWait x o s) at deep every =
        wait_from w n d level x o s at (read_alts (k + 1) d level x _ (one_deeper k d deep) every.1 every.2) (read_else (k + 1) d level o _ (one_deeper k d deep) every.3)
    read_stmt k zero level (SConditional c b o s) at deep every = none_deeper k deep every.1
    read_stmt k (suc d) level (SConditional c b o s) at deep every =
        conditional_from w n (k + 1) d level c b o s at (one_deeper k d deep) (next_nesting k c every.2) (read_any (k + 1) d (deeper level) b _ (one_deeper k d deep) every.3) (read_some (k + 1) d (deeper level) o _ (one_deeper k d deep) every.4)
    read_stmt k zero level (STimed c b t o s) at deep every = none_deeper k deep every.1
    read_stmt k (suc d) level (STimed c b t o s) at deep every =
        timed_from w n (k + 1) d level c b t o s at (one_deeper k d deep) (next_nesting k c every.2) every.4 (read_any (k + 1) d (deeper level) b _ (one_deeper k d deep) every.3) (read_any (k + 1) d (deeper level) o _ (one_deeper k d deep) every.5)
    read_stmt k d level (SPut ps s) at deep every = put_from w n k d level ps s at deep every.1
    read_stmt k d level (SPutLine ps s) at deep every = put_line_from w n k d level ps s at deep every.1
    read_stmt k d level (SNewLine s) at deep every = new_line_from w n d level s at
    read_stmt k d level (SGet x s) at deep every = get_from w n k d level x s at deep every.1
    read_stmt k zero level (SIf x o s) at deep every = none_deeper k deep (arms_low (k + 1) x every.1 every.2)
    read_stmt k (suc d) level (SIf x o s) at deep every =
        if_from w n d level x o s at (read_arms (k + 1) d level x _ (one_deeper k d deep) every.1 every.2) (read_else (k + 1) d level o _ (one_deeper k d deep) every.3)
    read_stmt k zero level (SCase e x o s) at deep every = none_deeper k deep (expr_low (k + 1) e every.1)
    read_stmt k (suc d) level (SCase e x o s) at deep every =
        case_from w n (k + 1) d level e x o s at (one_deeper k d deep) every.1 (read_case_arms (k + 1) d (deeper level) x _ (one_deeper k d deep) every.2) (read_others (k + 1) d (deeper level) o _ (one_deeper k d deep) every.3)
    read_stmt k zero level (SBlock b s) at deep every = none_deeper k deep (body_low (k + 1) b every.1)
    read_stmt k (suc d) level (SBlock b s) at deep every = block_from w n d level b s at (read_body (k + 1) d level b _ (one_deeper k d deep) every.1)
    read_stmt k zero level (SLoop v c l s) at deep every = none_deeper k deep (some_low (k + 1) l every.3)
    read_stmt k (suc d) level (SLoop v c l s) at deep every =
        loop_from w n (k + 1) d level v c l s at (one_deeper k d deep) every.1 every.2 (read_some (k + 1) d (deeper level) l _ (one_deeper k d deep) every.3)

    pub read_any : (k d level : ℕ) (x : PStmts) (at : ℕ) → 300 ≤ k + d → EveryStmts (well_placed n) k x → Found w n (SameStmts n m x) Anything Anything (AnyStmts src d) at (stmts_text n level x)
    read_any k d level no_stmt at deep every = (no_stmt, told_nothing w)
    read_any k d level (stmt_then x l) at deep every = any_stmts_from w n d level x l at (read_stmt k d level x _ deep every.0) (read_any k d level l _ deep every.1)

    pub read_some : (k d level : ℕ) (x : PStmts) (at : ℕ) → 300 ≤ k + d → EverySome (well_placed n) k x → Found w n (SameStmts n m x) Anything Anything (Stmts src d) at (stmts_text n level x)
    read_some k d level no_stmt at deep every = absurd (omega (arith, every))
    read_some k d level (stmt_then x l) at deep every = stmts_from w n d level x l at (read_stmt k d level x _ deep every.1) (read_any k d level l _ deep every.2)

    pub read_else : (k d level : ℕ) (x : PMaybe) (at : ℕ) → 300 ≤ k + d → EveryMaybe (well_placed n) k x → Found w n (SameMaybe n m x) Anything Anything (ElsePart src d) at (else_text n level x)
    read_else k d level absent at deep every = (absent, told_nothing w)
    read_else k d level (present l) at deep every = else_from w n d level l at (read_some k d (deeper level) l _ deep every)

    pub read_others : (k d level : ℕ) (x : PMaybe) (at : ℕ) → 300 ≤ k + d → EveryMaybe (well_placed n) k x → Found w n (SameMaybe n m x) Anything Anything (OthersPart src d) at (others_text n level x)
    read_others k d level absent at deep every = (absent, told_nothing w)
    read_others k d level (present l) at deep every = others_from w n d level l at (read_some k d (deeper level) l _ deep every)

    pub read_accept : (k d level : ℕ) (x : PAccept) (at : ℕ) → 300 ≤ k + d → EveryAccept (well_placed n) k x → Found w n (SameAccept n m x) Anything Anything (IsAccept src d) at (accept_text n level x)
    read_accept k d level (accepting h absent) at deep every = accept_from w n k d level h at deep every.1
    read_accept k zero level (accepting h (present l)) at deep every = none_deeper k deep (some_low (k + 1) l every.2)
    read_accept k (suc d) level (accepting h (present l)) at deep every =
        accept_do_from w n k d level h l at deep every.1 (read_some (k + 1) d (deeper level) l _ (one_deeper k d deep) every.2)

    pub read_alt : (k d level : ℕ) (x : PAlt) (at : ℕ) → 300 ≤ k + d → EveryAlt (well_placed n) k x → Found w n (SameAlt n m x) Anything Anything (IsAlt src d) at (alt_text n level x)
    read_alt k d level (alternative None x s) at deep every = alt_from w n d level x s at (read_alt_kind k d level x at deep every.2)
    read_alt k d level (alternative (Some e) x s) at deep every = guarded_from w n k d level e x s at deep every.1 (read_alt_kind k d (deeper level) x _ deep every.2)

    pub read_alt_kind : (k d level : ℕ) (x : PAltKind) (at : ℕ) → 300 ≤ k + d → EveryAltKind (well_placed n) (k + 1) x → Found w n (SameAltKind n m x) Anything Anything (IsAltKind src d) at (alt_kind_text n level x)
    read_alt_kind k zero level (AAccept a l) at deep every = none_deeper k deep (accept_low (k + 1) a every.0)
    read_alt_kind k (suc d) level (AAccept a l) at deep every =
        accept_kind_from w n d level a l at (read_accept (k + 1) d level a _ (one_deeper k d deep) every.0) (read_any (k + 1) d level l _ (one_deeper k d deep) every.1)
    read_alt_kind k zero level (ADelay t l) at deep every = none_deeper k deep every.0
    read_alt_kind k (suc d) level (ADelay t l) at deep every = delay_kind_from w n d level t l at every.1 (read_any (k + 1) d level l _ (one_deeper k d deep) every.2)
    read_alt_kind k d level ATerminate at deep every = terminate_from w n d level at

    pub read_alts : (k d level : ℕ) (x : PAlts) (at : ℕ) → 300 ≤ k + d → 1 ≤ alts_count x → EveryAlts (well_placed n) k x → Found w n (SameAlts n m x) Anything Anything (IsAlts src d) at (alts_text n level x)
    read_alts k d level no_alt at deep some every = absurd (omega (arith, some))
    read_alts k d level (alt_then x l) at deep some every = alts_from w n d level x l at (read_alt k d (deeper level) x _ deep every.0) (read_more_alts k d level l _ deep every.1)

    pub read_more_alts : (k d level : ℕ) (x : PAlts) (at : ℕ) → 300 ≤ k + d → EveryAlts (well_placed n) k x → Found w n (SameAlts n m x) Anything Anything (MoreAlts src d) at (more_alts_text n level x)
    read_more_alts k d level no_alt at deep every = (no_alt, told_nothing w)
    read_more_alts k d level (alt_then x l) at deep every = more_alts_from w n d level x l at (read_alt k d (deeper level) x _ deep every.0) (read_more_alts k d level l _ deep every.1)

    pub read_arm : (k d level : ℕ) (x : PArm) (at : ℕ) → 300 ≤ k + d → EveryArm (well_placed n) k x → Found w n (SameArm n m x) Anything Anything (IsArm src d) at (arm_text n level x)
    read_arm k d level (arm e l) at deep every = arm_from w n k d level e l at deep every.0 (read_some k d (deeper level) l _ deep every.1)

    pub read_arms : (k d level : ℕ) (x : PArms) (at : ℕ) → 300 ≤ k + d → 1 ≤ arms_count x → EveryArms (well_placed n) k x → Found w n (SameArms n m x) Anything Anything (λ y. Key key.If ▷ IsArms src d y) at (arms_text n level x)
    read_arms k d level no_arm at deep some every = absurd (omega (arith, some))
    read_arms k d level (arm_then x l) at deep some every = arms_from w n d level x l at (read_arm k d level x _ deep every.0) (read_more_arms k d level l _ deep every.1)

    pub read_more_arms : (k d level : ℕ) (x : PArms) (at : ℕ) → 300 ≤ k + d → EveryArms (well_placed n) k x → Found w n (SameArms n m x) Anything Anything (MoreArms src d) at (more_arms_text n level x)
    read_more_arms k d level no_arm at deep every = (no_arm, told_nothing w)
    read_more_arms k d level (arm_then x l) at deep every = more_arms_from w n d level x l at (read_arm k d level x _ deep every.0) (read_more_arms k d level l _ deep every.1)

    pub read_case_arm : (k d level : ℕ) (x : PCaseArm) (at : ℕ) → 300 ≤ k + d → EveryCaseArm (well_placed n) k x → Found w n (SameCaseArm n m x) Anything Anything (IsCaseArm src d) at (case_arm_text n level x)
    read_case_arm k d level (case_arm cs l) at deep every = case_arm_from w n k d level cs l at deep every.0 every.1 (read_some k d (deeper level) l _ deep every.2)

    pub read_case_arms : (k d level : ℕ) (x : PCaseArms) (at : ℕ) → 300 ≤ k + d → EveryCaseArms (well_placed n) k x → Found w n (SameCaseArms n m x) Anything Anything (IsCaseArms src d) at (case_arms_text n level x)
    read_case_arms k d level no_case_arm at deep every = (no_case_arm, told_nothing w)
    read_case_arms k d level (case_arm_then x l) at deep every = case_arms_from w n d level x l at (read_case_arm k d level x _ deep every.0) (read_case_arms k d level l _ deep every.1)

    pub read_body : (k d level : ℕ) (x : PBody) (at : ℕ) → 300 ≤ k + d → EveryBody (well_placed n) k x → Found w n (SameBody n m x) Plain Anything (IsBody src d) at (body_text n level x)
    read_body k d level (body l hs) at deep every = body_from w n d level l hs at every.1 (read_some k d (deeper level) l _ deep every.0) (read_exception k d level hs _ deep every.2)

    pub read_exception : (k d level : ℕ) (x : PHandlers) (at : ℕ) → 300 ≤ k + d → EveryHandlers (well_placed n) k x → Found w n (SameHandlers n m x) Anything Anything (HandlerPart src d) at (exception_text n level x)
    read_exception k d level no_handler at deep every = (no_handler, told_nothing w)
    read_exception k d level (handler_then x l) at deep every = exception_from w n d level x l at (read_handler k d (deeper level) x _ deep every.0) (read_handlers k d (deeper level) l _ deep every.1)

    pub read_handler : (k d level : ℕ) (x : PHandler) (at : ℕ) → 300 ≤ k + d → EveryHandler (well_placed n) k x → Found w n (SameHandler n m x) Anything Anything (IsHandler src d) at (handler_text n level x)
    read_handler k zero level (handler ws l s) at deep every = none_deeper k deep (some_low (k + 1) l every.2)
    read_handler k (suc d) level (handler ws l s) at deep every = handler_from w n d level ws l s at every.1 (read_some (k + 1) d (deeper level) l _ (one_deeper k d deep) every.2)

    pub read_handlers : (k d level : ℕ) (x : PHandlers) (at : ℕ) → 300 ≤ k + d → EveryHandlers (well_placed n) k x → Found w n (SameHandlers n m x) Anything Anything (MoreHandlers src d) at (handlers_text n level x)
    read_handlers k d level no_handler at deep every = (no_handler, told_nothing w)
    read_handlers k d level (handler_then x l) at deep every = handlers_from w n d level x l at (read_handler k d level x _ deep every.0) (read_handlers k d level l _ deep every.1)
