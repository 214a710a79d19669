-- The texts of compound statements and their parts from the texts that were put one behind the other. Each lemma is told what the part is, and its level below.
use Rattle.std.specs.Prelude.{◌≡◌, ◌≤◌, ◌<◌, ℕ, List, [], ◌∷◌, Option, Some, None, codes, length, map}
use Rattle.std.proofs.Common.{sym, subst}
use Rattle.ada_tree.specs.declared.naming.Span.{Span}
use Rattle.ada_tree.specs.declared.naming.Word.{Word}
use Rattle.ada_tree.specs.PlainExpr.{PExpr}
use Rattle.ada_tree.specs.PlainStmt.{PCall, PScheme, PChoice, PHead, PStmt, SWait, SConditional, STimed, SIf, SCase, SBlock, SLoop, PStmts, PMaybe, absent, present, PAccept, accepting, PAlt, alternative, PAltKind, AAccept, ADelay, ATerminate, PAlts, PArm, arm, PArms, PCaseArm, case_arm, PCaseArms, PBody, body, PHandler, handler, handlers_of}
use Rattle.ded_io.specs.Written.{◌⧺◌}
use Rattle.ada_printer.specs.Layout.{deeper, indent, separated, word_text, later_word}
use Rattle.ada_printer.specs.ExprText.{expr_text}
use Rattle.ada_printer.specs.StmtText.{call_text, head_text, delay_text, choice_text, caught_text, label_text, scheme_text, stmt_form_text, stmt_text, stmts_text, else_text, others_text, accept_text, alt_kind_text, alt_text, later_alt_text, alts_text, arm_text, later_arm_text, arms_text, case_arm_text, case_arms_text, body_text, handler_text, handlers_text}
use Rattle.ded_io.specs.pages.Pages.{Drawing, Drew}
use Rattle.ded_io.proofs.pages.Drawn.{drew_none, drew_then}
use Rattle.ada_printer.proofs.Listed.{not_below_zero, not_below_one}
use Rattle.ada_printer.proofs.Rowed.{drew_line, drew_three, drew_four, drew_nothing}

module _ (names : List (List ℕ)) (level : ℕ) where
  -- statements that were put at a level that is the one below
  below : (n : ℕ) (k : PStmts) (a b : Drawing) → n ≡ deeper level → Drew a b (stmts_text names n k) → Drew a b (stmts_text names (deeper level) k)
  below n k a b e = subst (λ m. Drew a b (stmts_text names m k)) e

  pub simple_there : (p q : PStmt) (a b c : Drawing) → p ≡ q → Drew a b (indent level) → Drew b c (stmt_form_text names level q) → Drew a c (stmt_text names level p)
  simple_there p q a b c is front form = subst (λ r. Drew a c (stmt_text names level r)) (sym is) (drew_then a b c _ _ front form)

  pub wait_there : (p : PStmt) (x : PAlts) (o : PMaybe) (s : Span) (a b c d e f : Drawing) → p ≡ SWait x o s → Drew a b (indent level) → Drew b c (codes "select\n") → Drew c d (alts_text names level x) → Drew d e (else_text names level o) → Drew e f (indent level ⧺ codes "end select;\n") → Drew a f (stmt_text names level p)
  wait_there p x o s a b c d e f is front word alts otherwise end =
      simple_there p (SWait x o s) a b f is front (drew_then b c f _ _ word (drew_then c d f _ _ alts (drew_then d e f _ _ otherwise end)))

  pub conditional_there : (p : PStmt) (n : ℕ) (x : PCall) (k o : PStmts) (s : Span) (a b c d e f g h : Drawing) → n ≡ deeper level → p ≡ SConditional x k o s → Drew a b (indent level) → Drew b c (codes "select\n") → Drew c d (indent n ⧺ call_text names x) → Drew d e (stmts_text names n k) → Drew e f (indent level ⧺ codes "else\n") → Drew f g (stmts_text names n o) → Drew g h (indent level ⧺ codes "end select;\n") → Drew a h (stmt_text names level p)
  conditional_there p n x k o s a b c d e f g h deep is front word line behind mid otherwise end =
      let line' : Drew c d (indent (deeper level) ⧺ call_text names x) = subst (λ m. Drew c d (indent m ⧺ call_text names x)) deep line in
      simple_there p (SConditional x k o s) a b h is front
      (drew_then b c h _ _ word (drew_then c e h _ _ (drew_line c d e _ _ _ line' (below n k d e deep behind)) (drew_then e g h _ _ (drew_line e f g _ _ _ mid (below n o f g deep otherwise)) end)))

  pub timed_there : (p : PStmt) (n : ℕ) (x : PCall) (k o : PStmts) (t : ℕ) (s : Span) (a b c d e f g h i : Drawing) → n ≡ deeper level → p ≡ STimed x k t o s → Drew a b (indent level) → Drew b c (codes "select\n") → Drew c d (indent n ⧺ call_text names x) → Drew d e (stmts_text names n k) → Drew e f (indent level ⧺ codes "or\n") → Drew f g (indent n ⧺ delay_text t) → Drew g h (stmts_text names n o) → Drew h i (indent level ⧺ codes "end select;\n") → Drew a i (stmt_text names level p)
  timed_there p n x k o t s a b c d e f g h i deep is front word line behind mid late after end =
      let line' : Drew c d (indent (deeper level) ⧺ call_text names x) = subst (λ m. Drew c d (indent m ⧺ call_text names x)) deep line in
      let late' : Drew f g (indent (deeper level) ⧺ delay_text t) = subst (λ m. Drew f g (indent m ⧺ delay_text t)) deep late in
      simple_there p (STimed x k t o s) a b i is front
      (drew_then b c i _ _ word
      (drew_then c e i _ _ (drew_line c d e _ _ _ line' (below n k d e deep behind))
      (drew_line e f i _ _ _ mid (drew_then f h i _ _ (drew_line f g h _ _ _ late' (below n o g h deep after)) end))))

  pub if_there : (p : PStmt) (x : PArms) (o : PMaybe) (s : Span) (a b c d e : Drawing) → p ≡ SIf x o s → Drew a b (indent level) → Drew b c (arms_text names level x) → Drew c d (else_text names level o) → Drew d e (indent level ⧺ codes "end if;\n") → Drew a e (stmt_text names level p)
  if_there p x o s a b c d e is front arms otherwise end =
      simple_there p (SIf x o s) a b e is front (drew_then b c e _ _ arms (drew_then c d e _ _ otherwise end))

  pub case_there : (p : PStmt) (n : ℕ) (v : PExpr) (x : PCaseArms) (o : PMaybe) (s : Span) (a b c d e f : Drawing) → n ≡ deeper level → p ≡ SCase v x o s → Drew a b (indent level) → Drew b c (codes "case " ⧺ (expr_text names v ⧺ codes " is\n")) → Drew c d (case_arms_text names n x) → Drew d e (others_text names n o) → Drew e f (indent level ⧺ codes "end case;\n") → Drew a f (stmt_text names level p)
  case_there p n v x o s a b c d e f deep is front head arms others end =
      simple_there p (SCase v x o s) a b f is front
      (drew_three b c f _ _ _ _ head
      (drew_then c d f _ _ (subst (λ m. Drew c d (case_arms_text names m x)) deep arms) (drew_then d e f _ _ (subst (λ m. Drew d e (others_text names m o)) deep others) end)))

  pub block_there : (p : PStmt) (x : PBody) (s : Span) (a b c d : Drawing) → p ≡ SBlock x s → Drew a b (indent level) → Drew b c (body_text names level x) → Drew c d (indent level ⧺ codes "end;\n") → Drew a d (stmt_text names level p)
  block_there p x s a b c d is front inside end = simple_there p (SBlock x s) a b d is front (drew_then b c d _ _ inside end)

  pub loop_there : (p : PStmt) (n : ℕ) (w : Option Word) (x : Option PScheme) (k : PStmts) (s : Span) (a b c d e : Drawing) → n ≡ deeper level → p ≡ SLoop w x k s → Drew a b (indent level) → Drew b c (label_text names w ⧺ (scheme_text names x ⧺ codes "loop\n")) → Drew c d (stmts_text names n k) → Drew d e (indent level ⧺ (codes "end loop" ⧺ (later_word names w ⧺ codes ";\n"))) → Drew a e (stmt_text names level p)
  loop_there p n w x k s a b c d e deep is front head inside end =
      simple_there p (SLoop w x k s) a b e is front (drew_three b c e _ _ _ _ head (drew_then c d e _ _ (below n k c d deep inside) end))

  pub else_there : (o : PMaybe) (n : ℕ) (k : PStmts) (a b c : Drawing) → n ≡ deeper level → o ≡ present k → Drew a b (indent level ⧺ codes "else\n") → Drew b c (stmts_text names n k) → Drew a c (else_text names level o)
  else_there o n k a b c deep is line inside = subst (λ q. Drew a c (else_text names level q)) (sym is) (drew_line a b c _ _ _ line (below n k b c deep inside))

  pub others_there : (o : PMaybe) (n : ℕ) (k : PStmts) (a b c : Drawing) → n ≡ deeper level → o ≡ present k → Drew a b (indent level ⧺ codes "when others =>\n") → Drew b c (stmts_text names n k) → Drew a c (others_text names level o)
  others_there o n k a b c deep is line inside = subst (λ q. Drew a c (others_text names level q)) (sym is) (drew_line a b c _ _ _ line (below n k b c deep inside))

  pub accept_there : (p : PAccept) (n : ℕ) (h : PHead) (k : PStmts) (a b c d e : Drawing) → n ≡ deeper level → p ≡ accepting h (present k) → Drew a b (head_text names h.entry h.index h.formals) → Drew b c (codes " do\n") → Drew c d (stmts_text names n k) → Drew d e (indent level ⧺ (codes "end " ⧺ (word_text names h.entry ⧺ codes ";\n"))) → Drew a e (accept_text names level p)
  accept_there p n h k a b c d e deep is head word inside end =
      subst (λ q. Drew a e (accept_text names level q)) (sym is) (drew_then a b e _ _ head (drew_then b c e _ _ word (drew_then c d e _ _ (below n k c d deep inside) end)))

  pub bare_accept_there : (p : PAccept) (h : PHead) (a b c : Drawing) → p ≡ accepting h absent → Drew a b (head_text names h.entry h.index h.formals) → Drew b c (codes ";\n") → Drew a c (accept_text names level p)
  bare_accept_there p h a b c is head end = subst (λ q. Drew a c (accept_text names level q)) (sym is) (drew_then a b c _ _ head end)

  pub alt_accept_there : (p : PAltKind) (x : PAccept) (k : PStmts) (a b c d : Drawing) → p ≡ AAccept x k → Drew a b (indent level) → Drew b c (accept_text names level x) → Drew c d (stmts_text names level k) → Drew a d (alt_kind_text names level p)
  alt_accept_there p x k a b c d is front head behind =
      subst (λ q. Drew a d (alt_kind_text names level q)) (sym is) (drew_then a b d _ _ front (drew_then b c d _ _ head behind))

  pub alt_delay_there : (p : PAltKind) (t : ℕ) (k : PStmts) (a b c : Drawing) → p ≡ ADelay t k → Drew a b (indent level ⧺ delay_text t) → Drew b c (stmts_text names level k) → Drew a c (alt_kind_text names level p)
  alt_delay_there p t k a b c is line behind = subst (λ q. Drew a c (alt_kind_text names level q)) (sym is) (drew_line a b c _ _ _ line behind)

  pub guarded_there : (p : PAlt) (n : ℕ) (v : PExpr) (k : PAltKind) (s : Span) (a b c : Drawing) → n ≡ deeper level → p ≡ alternative (Some v) k s → Drew a b (indent level ⧺ (codes "when " ⧺ (expr_text names v ⧺ codes " =>\n"))) → Drew b c (alt_kind_text names n k) → Drew a c (alt_text names level p)
  guarded_there p n v k s a b c deep is line inside =
      subst (λ q. Drew a c (alt_text names level q)) (sym is) (drew_four a b c _ _ _ _ _ line (subst (λ m. Drew b c (alt_kind_text names m k)) deep inside))

  pub unguarded_there : (p : PAlt) (k : PAltKind) (s : Span) (a b : Drawing) → p ≡ alternative None k s → Drew a b (alt_kind_text names level k) → Drew a b (alt_text names level p)
  unguarded_there p k s a b is inside = subst (λ q. Drew a b (alt_text names level q)) (sym is) inside

  pub later_alt_there : (x : PAlt) (n : ℕ) (a b c : Drawing) → n ≡ deeper level → Drew a b (indent level ⧺ codes "or\n") → Drew b c (alt_text names n x) → Drew a c (later_alt_text names level x)
  later_alt_there x n a b c deep line inside = drew_line a b c _ _ _ line (subst (λ m. Drew b c (alt_text names m x)) deep inside)

  pub arm_there : (p : PArm) (n : ℕ) (v : PExpr) (k : PStmts) (a b c d : Drawing) → n ≡ deeper level → p ≡ arm v k → Drew a b (expr_text names v) → Drew b c (codes " then\n") → Drew c d (stmts_text names n k) → Drew a d (arm_text names level p)
  arm_there p n v k a b c d deep is test word inside =
      subst (λ q. Drew a d (arm_text names level q)) (sym is) (drew_then a b d _ _ test (drew_then b c d _ _ word (below n k c d deep inside)))

  pub later_arm_there : (x : PArm) (a b c : Drawing) → Drew a b (indent level ⧺ codes "elsif ") → Drew b c (arm_text names level x) → Drew a c (later_arm_text names level x)
  later_arm_there x a b c line inside = drew_line a b c _ _ _ line inside

  pub case_arm_there : (p : PCaseArm) (n : ℕ) (xs : List PChoice) (k : PStmts) (a b c : Drawing) → n ≡ deeper level → p ≡ case_arm xs k → Drew a b (indent level ⧺ (codes "when " ⧺ (separated (codes " | ") (choice_text names) xs ⧺ codes " =>\n"))) → Drew b c (stmts_text names n k) → Drew a c (case_arm_text names level p)
  case_arm_there p n xs k a b c deep is line inside =
      subst (λ q. Drew a c (case_arm_text names level q)) (sym is) (drew_four a b c _ _ _ _ _ line (below n k b c deep inside))

  pub handler_there : (p : PHandler) (n : ℕ) (ws : List Word) (k : PStmts) (s : Span) (a b c : Drawing) → n ≡ deeper level → p ≡ handler ws k s → Drew a b (indent level ⧺ (codes "when " ⧺ (caught_text names ws ⧺ codes " =>\n"))) → Drew b c (stmts_text names n k) → Drew a c (handler_text names level p)
  handler_there p n ws k s a b c deep is line inside =
      subst (λ q. Drew a c (handler_text names level q)) (sym is) (drew_four a b c _ _ _ _ _ line (below n k b c deep inside))

  pub handled_there : (A : Type 0) (f : A → PHandler) (p : PBody) (n : ℕ) (k : PStmts) (xs : List A) (a b c d e : Drawing) → n ≡ deeper level → p ≡ body k (handlers_of (map f xs)) → 1 ≤ length xs → Drew a b (codes "begin\n") → Drew b c (stmts_text names n k) → Drew c d (indent level ⧺ codes "exception\n") → Drew d e (handlers_text names n (handlers_of (map f xs))) → Drew a e (body_text names level p)
  handled_there A f p n k [] a b c d e deep is some word inside line handlers = absurd (not_below_zero some)
  handled_there A f p n k (x ∷ xs) a b c d e deep is some word inside line handlers =
      subst (λ q. Drew a e (body_text names level q)) (sym is)
      (drew_then a b e _ _ word
      (drew_then b c e _ _ (below n k b c deep inside) (drew_line c d e _ _ _ line (subst (λ m. Drew d e (handlers_text names m (handlers_of (map f (x ∷ xs))))) deep handlers))))

  pub unhandled_there : (A : Type 0) (f : A → PHandler) (p : PBody) (n : ℕ) (k : PStmts) (xs : List A) (a b c : Drawing) → n ≡ deeper level → p ≡ body k (handlers_of (map f xs)) → length xs < 1 → Drew a b (codes "begin\n") → Drew b c (stmts_text names n k) → Drew a c (body_text names level p)
  unhandled_there A f p n k [] a b c deep is none word inside =
      subst (λ q. Drew a c (body_text names level q)) (sym is) (drew_then a b c _ _ word (drew_nothing b c _ (below n k b c deep inside)))
  unhandled_there A f p n k (x ∷ xs) a b c deep is none word inside = absurd (not_below_one (length xs) none)

  pub else_none : (o : PMaybe) (a : Drawing) → o ≡ absent → Drew a a (else_text names level o)
  else_none o a is = subst (λ q. Drew a a (else_text names level q)) (sym is) (drew_none a)

  pub others_none : (o : PMaybe) (a : Drawing) → o ≡ absent → Drew a a (others_text names level o)
  others_none o a is = subst (λ q. Drew a a (others_text names level q)) (sym is) (drew_none a)

  pub terminate_there : (p : PAltKind) (a b : Drawing) → p ≡ ATerminate → Drew a b (indent level ⧺ codes "terminate;\n") → Drew a b (alt_kind_text names level p)
  terminate_there p a b is line = subst (λ q. Drew a b (alt_kind_text names level q)) (sym is) line
