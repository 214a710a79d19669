-- The texts of compound statements, accept statements, alternatives, branches, bodies and handlers, put together of the texts of what they hold (chapters 5, 9 and 11).
use Rattle.std.proofs.Common.{ℕ, zero, suc, ◌+◌, ◌≤◌, List, [], ◌∷◌, length, codes, Option, None, Some, IfSome, All, refl, inr}
use Rattle.ada_tree.specs.declared.naming.Span.{Span}
use Rattle.ada_tree.specs.declared.naming.Word.{Word}
use Rattle.ada_tree.specs.PlainExpr.{PExpr}
use Rattle.ada_tree.specs.PlainStmt.{PCall, PChoice, PScheme, PHead, SAccept, SWait, SConditional, STimed, SIf, SCase, SBlock, SLoop, PStmts, PMaybe, absent, present, PAccept, accepting, PAlt, alternative, PAltKind, AAccept, ADelay, ATerminate, PAlts, alt_then, PArm, arm, PArms, arm_then, PCaseArm, case_arm, PCaseArms, case_arm_then, PBody, body, PHandler, handler, PHandlers, no_handler, handler_then}
use Rattle.ada_tree.specs.WellPlaced.{LastIfOthers, OthersLast, well_placed}
use Rattle.ada_tree.specs.Every.{EveryWord, EveryExpr, EveryCall, EveryChoice, EveryScheme, EveryHead}
use Rattle.ada_tree.specs.Same.{SameOption, SameExpr, SameCall, SameStmt, SameStmts, SameMaybe, SameAccept, SameAlt, SameAltKind, SameAlts, SameArm, SameArms, SameCaseArm, SameCaseArms, SameBody, SameHandler, SameHandlers}
use Rattle.ada_tree.specs.Lexical.{IsDuration}
use Rattle.ada_lexer.specs.declared.symbols.Symbol.TheVariants as key
use Rattle.ada_phrase_parser.specs.Spelling.{Source, Spelling, ◌▷◌, Key}
use Rattle.ada_phrase_parser.specs.Phrases.{EndOf, Guard, WhenRaised, DelayOf}
use Rattle.ada_stmt_parser.specs.Statements.{Call, IsStmt, AnyStmts, Stmts, ElsePart, OthersPart, IsAccept, IsAlt, IsAltKind, IsAlts, MoreAlts, IsArm, IsArms, MoreArms, IsCaseArm, IsCaseArms, IsBody, HandlerPart, MoreHandlers, IsHandler}
use Rattle.ded_io.specs.Written.{◌⧺◌}
use Rattle.ada_printer.specs.Layout.{deeper, indent, separated, word_text}
use Rattle.ada_printer.specs.ExprText.{expr_text}
use Rattle.ada_printer.specs.StmtText.{delay_text, call_text, head_text, choice_text, caught_text, label_text, scheme_text, stmt_form_text, stmts_text, else_text, others_text, accept_text, alt_kind_text, alt_text, alts_text, more_alts_text, arm_text, arms_text, more_arms_text, case_arm_text, case_arms_text, body_text, exception_text, handler_text, handlers_text}
use Rattle.read_back.proofs.Classes.{Anything, Plain}
use Rattle.read_back.proofs.Told.{Setting, names_of, source_of, Told, Blank, Line, Sign, Filled, told_as, told_same, told_any, told_then, told_indent, told_bits, told_last, told_closed, told_placed, filled_key, filled_then}
use Rattle.read_back.proofs.NamesAndLiterals.{IsOldName, new_word, told_word}
use Rattle.read_back.proofs.Phrases.{group, group3, group4, under_first, over_first, Found, read_call, read_choices, read_raised, read_label, read_again, read_scheme, read_delay, new_head, read_head, is_expression, is_operand}
use Rattle.read_back.proofs.Productions.{ungroup, called, nothing_first, filled_behind}

-- ---- a handler for all others stands last in what is the same

last_same : (n m : List (List ℕ)) (x y : PHandler) (k l : PHandlers) → SameHandler n m x y → SameHandlers n m k l → LastIfOthers x k → LastIfOthers y l
last_same n m (handler [] a s) (handler [] b t) no_handler no_handler one more last = tt
last_same n m (handler [] a s) (handler [] b t) no_handler (handler_then z l) one more last = absurd more
last_same n m (handler [] a s) (handler [] b t) (handler_then u k) l one more last = absurd last
last_same n m (handler [] a s) (handler (v ∷ vs) b t) k l one more last = absurd one.0
last_same n m (handler (v ∷ vs) a s) (handler [] b t) k l one more last = absurd one.0
last_same n m (handler (v ∷ vs) a s) (handler (u ∷ us) b t) k l one more last = tt

others_same : (n m : List (List ℕ)) (x y : PHandlers) → SameHandlers n m x y → OthersLast x → OthersLast y
others_same n m no_handler no_handler same last = tt
others_same n m no_handler (handler_then y l) same last = absurd same
others_same n m (handler_then x k) no_handler same last = absurd same
others_same n m (handler_then x k) (handler_then y l) same last = (last_same n m x y k l same.0 same.1 last.0, others_same n m k l same.1 last.1)

filled_raised : (ws : List Word) (Q : Spelling) → Filled (WhenRaised ws ▷ Q)
filled_raised [] Q = filled_then (filled_then filled_key)
filled_raised (v ∷ ws) Q = filled_then (filled_then filled_key)

filled_accept : (source : Source) (d : ℕ) (b : PAccept) → Filled (IsAccept source d b)
filled_accept source d (accepting h absent) said = said.1
filled_accept source d (accepting h (present l)) said = said.1

filled_kind : (source : Source) (d : ℕ) (x : PAltKind) → Filled (IsAltKind source d x)
filled_kind source zero (AAccept a l) said = said
filled_kind source (suc d) (AAccept a l) said = filled_then {P = IsAccept source d a} {Q = AnyStmts source d l} (filled_accept source d a) said
filled_kind source zero (ADelay t l) said = said
filled_kind source (suc d) (ADelay t l) said = filled_then {P = DelayOf t} {Q = AnyStmts source d l} (filled_then filled_key) said
filled_kind source d ATerminate said = filled_then {P = Key key.Terminate} {Q = Key key.Semicolon} filled_key said

module _ (w : Setting) (n : List (List ℕ)) where
  abbrev m : List (List ℕ)
  m = names_of w

  abbrev src : Source
  src = source_of w

  -- `end NAME;`
  pub read_end : (v : Word) (at from : ℕ) → IsOldName w n v.name → Told w (Unit {0}) Plain Anything (EndOf (new_word w n from v)) at (codes "end " ⧺ (word_text n v ⧺ codes ";\n"))
  read_end v at from good =
      told_as w (told_bits w (Sign key.End ∷ Blank ∷ []) (told_closed w (Sign key.Semicolon ∷ Line ∷ []) (told_word w n v good) refl refl) refl)
      (λ items said same. (under_first (λ more p. over_first (λ front named. inr (_, named)) p) said, tt))

  -- ---- accept statements

  pub accept_from : (k d level : ℕ) (h : PHead) (at : ℕ) → 300 ≤ k + d → EveryHead (well_placed n) k h → Found w n (SameAccept n m (accepting h absent)) Anything Anything (IsAccept src d) at (accept_text n level (accepting h absent))
  accept_from k d level h at deep good =
      let y = read_head w n k d h at deep good in
      let p = told_placed w (filled_behind filled_key) (told_any w (told_closed w (Sign key.Semicolon ∷ Line ∷ []) (y.2 h.span) refl refl)) in
      (accepting (new_head w n at h y.0 y.1 p.0) absent, told_same w p.1 (λ same. (same, tt)))

  pub accept_do_from : (k d level : ℕ) (h : PHead) (l : PStmts) (at : ℕ) → 300 ≤ k + suc d → EveryHead (well_placed n) k h →
      Found w n (SameStmts n m l) Anything Anything (Stmts src d) ((at + length (head_text n h.entry h.index h.formals)) + 4) (stmts_text n (deeper level) l) → Found w n (SameAccept n m (accepting h (present l))) Anything Anything (IsAccept src (suc d)) at (accept_text n level (accepting h (present l)))
  accept_do_from k d level h l at deep good inside =
      let y = read_head w n k (suc d) h at deep good in
      let told = told_then w (y.2 h.span) (told_bits w (Blank ∷ Sign key.Do ∷ Line ∷ []) (told_then w inside.1 (told_indent w level (read_end h.entry _ (at + 7) good.0)) refl) refl) refl in
      let p = told_placed w (filled_then (filled_then filled_key)) (told_any w told) in
      (accepting (new_head w n at h y.0 y.1 p.0) (present inside.0), told_same w p.1 (λ same. (same.0, same.1.0)))

  pub accept_stmt_from : (d level : ℕ) (a : PAccept) (s : Span) (at : ℕ) → Found w n (SameAccept n m a) Anything Anything (IsAccept src d) at (accept_text n level a) → Found w n (SameStmt n m (SAccept a s)) Anything Anything (IsStmt src d) at (stmt_form_text n level (SAccept a s))
  accept_stmt_from d level a s at inside =
      let p = told_placed w (filled_accept src d inside.0) inside.1 in (SAccept inside.0 p.0, p.1)

  -- ---- alternatives

  pub accept_kind_from : (d level : ℕ) (a : PAccept) (l : PStmts) (at : ℕ) → Found w n (SameAccept n m a) Anything Anything (IsAccept src d) (at + length (indent level)) (accept_text n level a) →
      Found w n (SameStmts n m l) Anything Anything (AnyStmts src d) ((at + length (indent level)) + length (accept_text n level a)) (stmts_text n level l) → Found w n (SameAltKind n m (AAccept a l)) Anything Anything (IsAltKind src (suc d)) at (alt_kind_text n level (AAccept a l))
  accept_kind_from d level a l at one more = (AAccept one.0 more.0, told_indent w level (told_then w one.1 more.1 refl))

  pub delay_kind_from : (d level t : ℕ) (l : PStmts) (at : ℕ) → IsDuration t → Found w n (SameStmts n m l) Anything Anything (AnyStmts src d) ((at + length (indent level)) + length (delay_text t)) (stmts_text n level l) →
      Found w n (SameAltKind n m (ADelay t l)) Anything Anything (IsAltKind src (suc d)) at (alt_kind_text n level (ADelay t l))
  delay_kind_from d level t l at good more = (ADelay t more.0, told_same w (told_indent w level (told_then w (read_delay w n t _ good) more.1 refl)) (λ same. (refl, same.1)))

  pub terminate_from : (d level at : ℕ) → Found w n (SameAltKind n m ATerminate) Anything Anything (IsAltKind src d) at (alt_kind_text n level ATerminate)
  terminate_from d level at = (ATerminate, told_indent w level (told_last w (Sign key.Terminate ∷ Sign key.Semicolon ∷ Line ∷ []) refl))

  pub alt_from : (d level : ℕ) (x : PAltKind) (s : Span) (at : ℕ) → Found w n (SameAltKind n m x) Anything Anything (IsAltKind src d) at (alt_kind_text n level x) → Found w n (SameAlt n m (alternative None x s)) Anything Anything (IsAlt src d) at (alt_text n level (alternative None x s))
  alt_from d level x s at inside =
      let told : Told w (SameOption (SameExpr n m) None None × SameAltKind n m x inside.0) Anything Anything (Guard d None ▷ IsAltKind src d inside.0) at (alt_kind_text n level x) = told_as w inside.1 (λ items said same. (nothing_first said, (tt, same))) in
      let p = told_placed w (filled_behind (filled_kind src d inside.0)) told in
      (alternative None inside.0 p.0, p.1)

  pub guarded_from : (k d level : ℕ) (e : PExpr) (x : PAltKind) (s : Span) (at : ℕ) → 300 ≤ k + d → EveryExpr (well_placed n) (k + 1) e →
      Found w n (SameAltKind n m x) Anything Anything (IsAltKind src d) ((((at + length (indent level)) + 5) + length (expr_text n e)) + 4) (alt_kind_text n (deeper level) x) → Found w n (SameAlt n m (alternative (Some e) x s)) Anything Anything (IsAlt src d) at (alt_text n level (alternative (Some e) x s))
  guarded_from k d level e x s at deep good inside =
      let f = is_operand w n k d e ((at + length (indent level)) + 5) deep good in
      let told = told_indent w level (told_bits w (Sign key.When ∷ Blank ∷ []) (told_then w f.1 (told_bits w (Blank ∷ Sign key.Arrow ∷ Line ∷ []) inside.1 refl) refl) refl) in
      let p = told_placed w (filled_behind (filled_kind src d inside.0)) (told_as w told (λ items said same. (group3 said, same))) in
      (alternative (Some f.0) inside.0 p.0, p.1)

  pub alts_from : (d level : ℕ) (x : PAlt) (k : PAlts) (at : ℕ) → Found w n (SameAlt n m x) Anything Anything (IsAlt src d) at (alt_text n (deeper level) x) →
      Found w n (SameAlts n m k) Anything Anything (MoreAlts src d) (at + length (alt_text n (deeper level) x)) (more_alts_text n level k) → Found w n (SameAlts n m (alt_then x k)) Anything Anything (IsAlts src d) at (alts_text n level (alt_then x k))
  alts_from d level x k at one more = (alt_then one.0 more.0, told_then w one.1 more.1 refl)

  pub more_alts_from : (d level : ℕ) (x : PAlt) (k : PAlts) (at : ℕ) → Found w n (SameAlt n m x) Anything Anything (IsAlt src d) ((at + length (indent level)) + 3) (alt_text n (deeper level) x) →
      Found w n (SameAlts n m k) Anything Anything (MoreAlts src d) (at + length (indent level ⧺ (codes "or\n" ⧺ alt_text n (deeper level) x))) (more_alts_text n level k) → Found w n (SameAlts n m (alt_then x k)) Anything Anything (MoreAlts src d) at (more_alts_text n level (alt_then x k))
  more_alts_from d level x k at one more =
      (alt_then one.0 more.0, told_as w (told_then w (told_indent w level (told_bits w (Sign key.Or ∷ Line ∷ []) one.1 refl)) more.1 refl) (λ items said same. (ungroup said, same)))

  pub wait_from : (d level : ℕ) (x : PAlts) (o : PMaybe) (s : Span) (at : ℕ) → Found w n (SameAlts n m x) Anything Anything (IsAlts src d) (at + 7) (alts_text n level x) →
      Found w n (SameMaybe n m o) Anything Anything (ElsePart src d) ((at + 7) + length (alts_text n level x)) (else_text n level o) → Found w n (SameStmt n m (SWait x o s)) Anything Anything (IsStmt src (suc d)) at (stmt_form_text n level (SWait x o s))
  wait_from d level x o s at one other =
      let told = told_bits w (Sign key.Select ∷ Line ∷ []) (told_then w one.1 (told_then w other.1 (told_indent w level (told_last w (Sign key.End ∷ Blank ∷ Sign key.Select ∷ Sign key.Semicolon ∷ Line ∷ []) refl)) refl) refl) refl in
      let p = told_placed w (filled_then filled_key) (told_any w (told_as w told (λ items said same. (under_first (λ more q. group q) said, (same.0, same.1.0))))) in
      (SWait one.0 other.0 p.0, p.1)

  -- ---- conditional and timed entry calls

  called_from : (k d level : ℕ) (c : PCall) (b : PStmts) (at : ℕ) → 300 ≤ k + d → EveryCall (well_placed n) (k + 1) c → (y : PStmts) → Told w (SameStmts n m b y) Anything Anything (AnyStmts src d y) ((at + length (indent level)) + length (call_text n c)) (stmts_text n level b) →
      (f : PCall) × Told w (SameCall n m c f × SameStmts n m b y) Anything Anything ((Call d f ▷ Key key.Semicolon) ▷ AnyStmts src d y) at (indent level ⧺ (call_text n c ⧺ stmts_text n level b))
  called_from k d level c b at deep good y told =
      let f = read_call w n k d c (at + length (indent level)) deep good in
      (f.0, told_indent w level (told_then w f.1 told refl))

  pub conditional_from : (k d level : ℕ) (c : PCall) (b o : PStmts) (s : Span) (at : ℕ) → 300 ≤ k + d → EveryCall (well_placed n) (k + 1) c →
      Found w n (SameStmts n m b) Anything Anything (AnyStmts src d) (((at + 7) + length (indent (deeper level))) + length (call_text n c)) (stmts_text n (deeper level) b) →
      Found w n (SameStmts n m o) Anything Anything (Stmts src d) ((((at + 7) + length (indent (deeper level) ⧺ (call_text n c ⧺ stmts_text n (deeper level) b))) + length (indent level)) + 5) (stmts_text n (deeper level) o) →
      Found w n (SameStmt n m (SConditional c b o s)) Anything Anything (IsStmt src (suc d)) at (stmt_form_text n level (SConditional c b o s))
  conditional_from k d level c b o s at deep good one other =
      let f = called_from k d (deeper level) c b (at + 7) deep good one.0 one.1 in
      let told = told_bits w (Sign key.Select ∷ Line ∷ []) (told_then w f.1 (told_then w (told_indent w level (told_bits w (Sign key.Else ∷ Line ∷ []) other.1 refl)) (told_indent w level (told_last w (Sign key.End ∷ Blank ∷ Sign key.Select ∷ Sign key.Semicolon ∷ Line ∷ []) refl)) refl) refl) refl in
      let p = told_placed w (filled_then filled_key) (told_any w (told_as w told (λ items said same. (under_first (λ more q. called q) said, (same.0.0, same.0.1, same.1.0))))) in
      (SConditional f.0 one.0 other.0 p.0, p.1)

  pub timed_from : (k d level : ℕ) (c : PCall) (b : PStmts) (t : ℕ) (o : PStmts) (s : Span) (at : ℕ) → 300 ≤ k + d → EveryCall (well_placed n) (k + 1) c → IsDuration t →
      Found w n (SameStmts n m b) Anything Anything (AnyStmts src d) (((at + 7) + length (indent (deeper level))) + length (call_text n c)) (stmts_text n (deeper level) b) →
      Found w n (SameStmts n m o) Anything Anything (AnyStmts src d) ((((((at + 7) + length (indent (deeper level) ⧺ (call_text n c ⧺ stmts_text n (deeper level) b))) + length (indent level)) + 3) + length (indent (deeper level))) + length (delay_text t)) (stmts_text n (deeper level) o) →
      Found w n (SameStmt n m (STimed c b t o s)) Anything Anything (IsStmt src (suc d)) at (stmt_form_text n level (STimed c b t o s))
  timed_from k d level c b t o s at deep good fine one other =
      let f = called_from k d (deeper level) c b (at + 7) deep good one.0 one.1 in
      let late = told_indent w (deeper level) (told_then w (read_delay w n t _ fine) other.1 refl) in
      let told = told_bits w (Sign key.Select ∷ Line ∷ []) (told_then w f.1 (told_indent w level (told_bits w (Sign key.Or ∷ Line ∷ []) (told_then w late (told_indent w level (told_last w (Sign key.End ∷ Blank ∷ Sign key.Select ∷ Sign key.Semicolon ∷ Line ∷ []) refl)) refl) refl)) refl) refl in
      let p = told_placed w (filled_then filled_key) (told_any w (told_as w told (λ items said same. (under_first (λ more q. called (under_first (λ rest r. group r) q)) said, (same.0.0, same.0.1, refl, same.1.0.1))))) in
      (STimed f.0 one.0 t other.0 p.0, p.1)

  -- ---- branches

  pub arm_from : (k d level : ℕ) (e : PExpr) (l : PStmts) (at : ℕ) → 300 ≤ k + d → EveryExpr (well_placed n) k e → Found w n (SameStmts n m l) Anything Anything (Stmts src d) ((at + length (expr_text n e)) + 6) (stmts_text n (deeper level) l) →
      Found w n (SameArm n m (arm e l)) Anything Anything (IsArm src d) at (arm_text n level (arm e l))
  arm_from k d level e l at deep good inside =
      let f = is_expression w n k d e at deep good in
      (arm f.0 inside.0, told_then w f.1 (told_bits w (Blank ∷ Sign key.Then ∷ Line ∷ []) inside.1 refl) refl)

  pub arms_from : (d level : ℕ) (x : PArm) (k : PArms) (at : ℕ) → Found w n (SameArm n m x) Anything Anything (IsArm src d) (at + 3) (arm_text n level x) →
      Found w n (SameArms n m k) Anything Anything (MoreArms src d) (at + length (codes "if " ⧺ arm_text n level x)) (more_arms_text n level k) → Found w n (SameArms n m (arm_then x k)) Anything Anything (λ y. Key key.If ▷ IsArms src d y) at (arms_text n level (arm_then x k))
  arms_from d level x k at one more =
      (arm_then one.0 more.0, told_any w (told_as w (told_then w (told_bits w (Sign key.If ∷ Blank ∷ []) one.1 refl) more.1 refl) (λ items said same. (ungroup said, same))))

  pub more_arms_from : (d level : ℕ) (x : PArm) (k : PArms) (at : ℕ) → Found w n (SameArm n m x) Anything Anything (IsArm src d) ((at + length (indent level)) + 6) (arm_text n level x) →
      Found w n (SameArms n m k) Anything Anything (MoreArms src d) (at + length (indent level ⧺ (codes "elsif " ⧺ arm_text n level x))) (more_arms_text n level k) → Found w n (SameArms n m (arm_then x k)) Anything Anything (MoreArms src d) at (more_arms_text n level (arm_then x k))
  more_arms_from d level x k at one more =
      (arm_then one.0 more.0, told_as w (told_then w (told_indent w level (told_bits w (Sign key.Elsif ∷ Blank ∷ []) one.1 refl)) more.1 refl) (λ items said same. (ungroup said, same)))

  pub if_from : (d level : ℕ) (x : PArms) (o : PMaybe) (s : Span) (at : ℕ) → Found w n (SameArms n m x) Anything Anything (λ y. Key key.If ▷ IsArms src d y) at (arms_text n level x) →
      Found w n (SameMaybe n m o) Anything Anything (ElsePart src d) (at + length (arms_text n level x)) (else_text n level o) → Found w n (SameStmt n m (SIf x o s)) Anything Anything (IsStmt src (suc d)) at (stmt_form_text n level (SIf x o s))
  if_from d level x o s at arms other =
      let told = told_then w arms.1 (told_then w other.1 (told_indent w level (told_last w (Sign key.End ∷ Blank ∷ Sign key.If ∷ Sign key.Semicolon ∷ Line ∷ []) refl)) refl) refl in
      let p = told_placed w (filled_then filled_key) (told_as w told (λ items said same. (under_first (λ more q. group q) (ungroup said), (same.0, same.1.0)))) in
      (SIf arms.0 other.0 p.0, p.1)

  pub case_arm_from : (k d level : ℕ) (cs : List PChoice) (l : PStmts) (at : ℕ) → 300 ≤ k + d → 1 ≤ length cs → All (EveryChoice (well_placed n) k) cs →
      Found w n (SameStmts n m l) Anything Anything (Stmts src d) ((((at + length (indent level)) + 5) + length (separated (codes " | ") (choice_text n) cs)) + 4) (stmts_text n (deeper level) l) → Found w n (SameCaseArm n m (case_arm cs l)) Anything Anything (IsCaseArm src d) at (case_arm_text n level (case_arm cs l))
  case_arm_from k d level cs l at deep some good inside =
      let xs = read_choices w n k d cs ((at + length (indent level)) + 5) deep some good in
      (case_arm xs.0 inside.0, told_indent w level (told_as w (told_bits w (Sign key.When ∷ Blank ∷ []) (told_then w xs.1 (told_bits w (Blank ∷ Sign key.Arrow ∷ Line ∷ []) inside.1 refl) refl) refl) (λ items said same. (group3 said, same))))

  pub case_arms_from : (d level : ℕ) (x : PCaseArm) (k : PCaseArms) (at : ℕ) → Found w n (SameCaseArm n m x) Anything Anything (IsCaseArm src d) at (case_arm_text n level x) →
      Found w n (SameCaseArms n m k) Anything Anything (IsCaseArms src d) (at + length (case_arm_text n level x)) (case_arms_text n level k) → Found w n (SameCaseArms n m (case_arm_then x k)) Anything Anything (IsCaseArms src d) at (case_arms_text n level (case_arm_then x k))
  case_arms_from d level x k at one more = (case_arm_then one.0 more.0, told_then w one.1 more.1 refl)

  pub case_from : (k d level : ℕ) (e : PExpr) (x : PCaseArms) (o : PMaybe) (s : Span) (at : ℕ) → 300 ≤ k + d → EveryExpr (well_placed n) k e →
      Found w n (SameCaseArms n m x) Anything Anything (IsCaseArms src d) (((at + 5) + length (expr_text n e)) + 4) (case_arms_text n (deeper level) x) →
      Found w n (SameMaybe n m o) Anything Anything (OthersPart src d) ((((at + 5) + length (expr_text n e)) + 4) + length (case_arms_text n (deeper level) x)) (others_text n (deeper level) o) →
      Found w n (SameStmt n m (SCase e x o s)) Anything Anything (IsStmt src (suc d)) at (stmt_form_text n level (SCase e x o s))
  case_from k d level e x o s at deep good arms other =
      let f = is_expression w n k d e (at + 5) deep good in
      let told = told_bits w (Sign key.Case ∷ Blank ∷ []) (told_then w f.1 (told_bits w (Blank ∷ Sign key.Is ∷ Line ∷ []) (told_then w arms.1 (told_then w other.1 (told_indent w level (told_last w (Sign key.End ∷ Blank ∷ Sign key.Case ∷ Sign key.Semicolon ∷ Line ∷ []) refl)) refl) refl) refl) refl) refl in
      let p = told_placed w (filled_then filled_key) (told_any w (told_as w told (λ items said same. (under_first (λ more q. group4 q) said, (same.0, same.1.0, same.1.1.0))))) in
      (SCase f.0 arms.0 other.0 p.0, p.1)

  -- ---- bodies and handlers

  pub handler_from : (d level : ℕ) (ws : List Word) (l : PStmts) (s : Span) (at : ℕ) → All (EveryWord (well_placed n)) ws →
      Found w n (SameStmts n m l) Anything Anything (Stmts src d) ((((at + length (indent level)) + 5) + length (caught_text n ws)) + 4) (stmts_text n (deeper level) l) → Found w n (SameHandler n m (handler ws l s)) Anything Anything (IsHandler src (suc d)) at (handler_text n level (handler ws l s))
  handler_from d level ws l s at good inside =
      let y = read_raised w n ws (at + length (indent level)) good inside.1 in
      let p = told_placed w (filled_raised y.0 _) (told_indent w level y.1) in
      (handler y.0 inside.0 p.0, p.1)

  pub handlers_from : (d level : ℕ) (x : PHandler) (k : PHandlers) (at : ℕ) → Found w n (SameHandler n m x) Anything Anything (IsHandler src d) at (handler_text n level x) →
      Found w n (SameHandlers n m k) Anything Anything (MoreHandlers src d) (at + length (handler_text n level x)) (handlers_text n level k) → Found w n (SameHandlers n m (handler_then x k)) Anything Anything (MoreHandlers src d) at (handlers_text n level (handler_then x k))
  handlers_from d level x k at one more = (handler_then one.0 more.0, told_then w one.1 more.1 refl)

  pub exception_from : (d level : ℕ) (x : PHandler) (k : PHandlers) (at : ℕ) → Found w n (SameHandler n m x) Anything Anything (IsHandler src d) ((at + length (indent level)) + 10) (handler_text n (deeper level) x) →
      Found w n (SameHandlers n m k) Anything Anything (MoreHandlers src d) (((at + length (indent level)) + 10) + length (handler_text n (deeper level) x)) (handlers_text n (deeper level) k) →
      Found w n (SameHandlers n m (handler_then x k)) Anything Anything (HandlerPart src d) at (exception_text n level (handler_then x k))
  exception_from d level x k at one more = (handler_then one.0 more.0, told_indent w level (told_bits w (Sign key.Exception ∷ Line ∷ []) (told_then w one.1 more.1 refl) refl))

  pub body_from : (d level : ℕ) (l : PStmts) (hs : PHandlers) (at : ℕ) → OthersLast hs → Found w n (SameStmts n m l) Anything Anything (Stmts src d) (at + 6) (stmts_text n (deeper level) l) →
      Found w n (SameHandlers n m hs) Anything Anything (HandlerPart src d) ((at + 6) + length (stmts_text n (deeper level) l)) (exception_text n level hs) → Found w n (SameBody n m (body l hs)) Plain Anything (IsBody src d) at (body_text n level (body l hs))
  body_from d level l hs at last inside more =
      (body inside.0 more.0, told_as w (told_bits w (Sign key.Begin ∷ Line ∷ []) (told_then w inside.1 more.1 refl) refl) (λ items said same. ((others_same n m hs more.0 same.1 last, said), same)))

  filled_body : (d : ℕ) (b : PBody) → Filled (IsBody src d b)
  filled_body d (body l hs) said = filled_then filled_key said.1

  pub block_from : (d level : ℕ) (b : PBody) (s : Span) (at : ℕ) → Found w n (SameBody n m b) Plain Anything (IsBody src d) at (body_text n level b) → Found w n (SameStmt n m (SBlock b s)) Anything Anything (IsStmt src (suc d)) at (stmt_form_text n level (SBlock b s))
  block_from d level b s at inside =
      let p = told_placed w (filled_then (filled_body d inside.0)) (told_any w (told_then w inside.1 (told_indent w level (told_last w (Sign key.End ∷ Sign key.Semicolon ∷ Line ∷ []) refl)) refl)) in
      (SBlock inside.0 p.0, told_same w p.1 (λ same. same.0))

  pub loop_from : (k d level : ℕ) (v : Option Word) (c : Option PScheme) (l : PStmts) (s : Span) (at : ℕ) → 300 ≤ k + d → IfSome v (EveryWord (well_placed n)) → IfSome c (EveryScheme (well_placed n) k) →
      Found w n (SameStmts n m l) Anything Anything (Stmts src d) (((at + length (label_text n v)) + length (scheme_text n c)) + 5) (stmts_text n (deeper level) l) → Found w n (SameStmt n m (SLoop v c l s)) Anything Anything (IsStmt src (suc d)) at (stmt_form_text n level (SLoop v c l s))
  loop_from k d level v c l s at deep good fine inside =
      let u = read_label w n v at good in
      let y = read_scheme w n k d c (at + length (label_text n v)) deep fine in
      let told = told_then w u.1 (told_then w y.1 (told_bits w (Sign key.Loop ∷ Line ∷ []) (told_then w inside.1 (told_indent w level (told_bits w (Sign key.End ∷ Blank ∷ Sign key.Loop ∷ []) (told_closed w (Sign key.Semicolon ∷ Line ∷ []) (read_again w n v _ at good) refl refl) refl)) refl) refl) refl) refl in
      let p = told_placed w (filled_behind (filled_behind (filled_then filled_key))) (told_as w told (λ items said same. (under_first (λ more q. group3 q) said, (same.0, same.1.0, same.1.1.0)))) in
      (SLoop u.0 y.0 inside.0 p.0, p.1)
