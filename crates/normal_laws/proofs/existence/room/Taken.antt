-- In statements that are as the law of normal forms asks, calls have actuals for formals alone.
use Rattle.std.proofs.Common.{◌≡◌, ℕ, ◌+◌, Bool, List, [], ◌∷◌, Option, Some, None, IfSome, refl, sym, ap, subst, ◌∙◌}
use Rattle.std.specs.List.{AllByRecursion}
use Rattle.ada_tree.specs.declared.naming.Span.{Span}
use Rattle.ada_tree.specs.PlainExpr.{PExpr}
use Rattle.ada_tree.specs.PlainStmt.{PCallee, PArgs, PCall, PStmt, PStmts, PMaybe, PAltKind, PAlts, PArms, PCaseArms, PBody, PHandlers}
use Rattle.ada_static_rules.specs.Sites.{with_words}
use Rattle.task_model.specs.Setting.{Setting, Lists, is_family, lists_in, lists_of}
use Rattle.normal_model.specs.Calls.{Slot, entry_called, lists_called, slots_called}
use Rattle.task_laws.specs.translation.Translations.{Programs}
use Rattle.task_laws.specs.translation.OldTexts.{OldStmt, old_null, old_assign, old_delay, old_exit, old_raise, old_abort, old_call, old_accept, old_wait, old_conditional, old_timed, old_put, old_put_line, old_new_line, old_get, old_if, old_case, old_block, old_loop, OldStmts, old_no_stmt, old_stmt, OldMaybe, old_absent, old_present, OldAlts, old_no_alt, old_alt, OldKind, old_accepts, old_delays, old_terminates, OldArms, old_no_arm, old_arm, OldCaseArms, old_no_case_arm, old_case_arm, OldHandlers, old_no_handler, old_handler, OldBody, old_body}
use Rattle.normal_laws.specs.runs.floors.Suited.{HasLists, no_lists, plain_lists, family_lists, AreCopied, none_copied, copied_then, IsCall, Rewritten, asked_of}
use Rattle.task_laws.specs.legal.asked.Asked.{Asks, AskedStmt, AskedStmts, AskedSome, AskedMaybe, AskedAlts, AskedKind, AskedArms, AskedCaseArms, AskedBody, AskedHandlers}
use Rattle.normal_laws.specs.structure.placed.Placeable.{AreTaken, call_asks}

-- ---- the lists of a call

abbrev in-lists : Bool → Option PArgs → Lists
in-lists f None = record { index = None; actuals = [] }
in-lists f (Some args) = lists_in f args

lists-same : (g : Setting) (e : ℕ) (o : Option PArgs) → lists_of g.numbers e o ≡ in-lists (is_family g.numbers e) o
lists-same g e None = refl
lists-same g e (Some args) = refl

actuals-same : (f : Bool) (o : Option PArgs) (index : Option PExpr) (actuals : List PExpr) → HasLists f o index actuals → (in-lists f o).actuals ≡ actuals
actuals-same f o index actuals no_lists = refl
actuals-same f o index actuals (plain_lists args) = refl
actuals-same f o index actuals (family_lists e second) = refl

copied-taken : (b : Programs) (xs : List Slot) (es : List PExpr) → AreCopied b xs es → AreTaken xs es
copied-taken b xs es none_copied = tt
copied-taken b xs es (copied_then x ys e fs c rest) = tt

module _ (w : Rewritten) where
  abbrev g : Setting
  g = w.programs.original

  taken : (c : PCall) → IsCall w.programs c → AreTaken (slots_called g c) (lists_called g c).actuals
  taken c h =
      let e : (lists_called g c).actuals ≡ h.actuals =
      ap-actuals (lists-same g (entry_called g c) c.args) ∙ actuals-same (is_family g.numbers (entry_called g c)) c.args h.index h.actuals h.lists in
      subst (AreTaken (slots_called g c)) (sym e) (copied-taken w.programs (slots_called g c) h.actuals h.copies)
    where
      ap-actuals : {x y : Lists} → x ≡ y → x.actuals ≡ y.actuals
      ap-actuals f = ap (λ z. z.actuals) f

  abbrev a : Asks (Unit {0})
  a = call_asks g

  guard : (k : ℕ) (o : Option PExpr) → IfSome o (a.condition tt k)
  guard k None = tt
  guard k (Some e) = tt

  callees : (k : ℕ) (xs : List PCallee) → AllByRecursion (a.callee tt k) xs
  callees k [] = tt
  callees k (x ∷ xs) = (tt, callees k xs)

  mutual
    stmt : (k : ℕ) (x : PStmt) → OldStmt (asked_of w) x → AskedStmt a tt k x
    stmt k x (old_null s) = tt
    stmt k x (old_assign t e s i j) = tt
    stmt k x (old_delay n s) = tt
    stmt k x (old_exit v e s i) = tt
    stmt k x (old_raise v s) = tt
    stmt k x (old_abort cs s i) = (tt, tt, callees (k + 1) cs)
    stmt k x (old_call c s i j) = (tt, tt, taken c j)
    stmt k x (old_accept h o s i j m) = (tt, maybe (k + 1) o m)
    stmt k x (old_wait xs o s q i m) = (tt, tt, tt, alts (k + 1) xs i, maybe (k + 1) o m)
    stmt k x (old_conditional c l m s i j h q) = (tt, tt, tt, taken c j, stmts (k + 1) l h, some (k + 1) m q)
    stmt k x (old_timed c l n m s i j h q) = (tt, tt, tt, taken c j, tt, stmts (k + 1) l h, stmts (k + 1) m q)
    stmt k x (old_put ps s i) = tt
    stmt k x (old_put_line ps s i) = tt
    stmt k x (old_new_line s) = tt
    stmt k x (old_get t s i) = tt
    stmt k x (old_if xs o s i m) = (tt, tt, arms (k + 1) xs i, maybe (k + 1) o m)
    stmt k x (old_case e xs o s q i m) = (tt, tt, case_arms (k + 1) e xs i, maybe (k + 1) o m)
    stmt k x (old_block l hs s i m) = (tt, (some (k + 1) l i, tt, handlers (k + 1) [] hs m))
    stmt k x (old_loop v c l s q i) = (tt, tt, some (k + 1) l i)

    stmts : (k : ℕ) (l : PStmts) → OldStmts (asked_of w) l → AskedStmts a tt k l
    stmts k l old_no_stmt = tt
    stmts k l (old_stmt x rest i j) = (stmt k x i, stmts k rest j)

    some : (k : ℕ) (l : PStmts) → OldStmts (asked_of w) l → AskedSome a tt k l
    some k l old_no_stmt = tt
    some k l (old_stmt x rest i j) = (tt, stmt k x i, stmts k rest j)

    maybe : (k : ℕ) (o : PMaybe) → OldMaybe (asked_of w) o → AskedMaybe a tt k o
    maybe k o old_absent = tt
    maybe k o (old_present l i) = some k l i

    alts : (k : ℕ) (x : PAlts) → OldAlts (asked_of w) x → AskedAlts a tt k x
    alts k x old_no_alt = tt
    alts k x (old_alt t y s rest q i j) = (tt, guard (k + 1) t, kind (k + 1) t s y i, alts k rest j)

    kind : (k : ℕ) (t : Option PExpr) (s : Span) (x : PAltKind) → OldKind (asked_of w) x → AskedKind a tt k t s x
    kind k t s x (old_accepts h o l q i m j) = ((tt, maybe (k + 1) o m), stmts k l j)
    kind k t s x (old_delays n l j) = (tt, tt, stmts k l j)
    kind k t s x old_terminates = tt

    arms : (k : ℕ) (x : PArms) → OldArms (asked_of w) x → AskedArms a tt k x
    arms k x old_no_arm = tt
    arms k x (old_arm e l rest q i j) = (tt, some k l i, arms k rest j)

    case_arms : (k : ℕ) (e : PExpr) (x : PCaseArms) → OldCaseArms (asked_of w) x → AskedCaseArms a tt k e x
    case_arms k e x old_no_case_arm = tt
    case_arms k e x (old_case_arm cs l rest q i j) = (tt, some k l i, case_arms k e rest j)

    handlers : (k : ℕ) (names : List ℕ) (x : PHandlers) → OldHandlers (asked_of w) x → AskedHandlers a tt k names x
    handlers k names x old_no_handler = tt
    handlers k names x (old_handler ws l s rest i j) = (tt, tt, some (k + 1) l i, handlers k (with_words names ws) rest j)

  -- A body that is as the law of normal forms asks has such calls.
  pub body-taken : (k : ℕ) (x : PBody) → OldBody (asked_of w) x → AskedBody a tt k x
  body-taken k x (old_body l hs i j) = (some k l i, tt, handlers k [] hs j)
