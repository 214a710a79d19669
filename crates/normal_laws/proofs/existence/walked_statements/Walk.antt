-- From what is known of each place of a body to statements that are as a rewriter asks.
use Rattle.std.proofs.Common.{ℕ, ◌+◌, false, List, [], ◌∷◌, ◌++◌, flat_map, Option, Some, None, IfSome}
use Rattle.std.specs.List.{AllByRecursion}
use Rattle.std.proofs.lemmas.List.Elements.{recursion_from_All}
use Rattle.ada_tree.specs.declared.naming.Word.{Word}
use Rattle.ada_tree.specs.PlainExpr.{PExpr, PDrange, RGiven, RMarked}
use Rattle.ada_tree.specs.PlainStmt.{PCallee, PFormal, PScheme, LWhile, LFor, PHead, PStmt, SNull, SAssign, SDelay, SExit, SRaise, SAbort, SCall, SAccept, SWait, SConditional, STimed, SPut, SPutLine, SNewLine, SGet, SIf, SCase, SBlock, SLoop, PStmts, no_stmt, stmt_then, PMaybe, absent, present, accepting, alternative, PAltKind, AAccept, ADelay, ATerminate, PAlts, no_alt, alt_then, PArms, no_arm, arm_then, arm, PCaseArms, no_case_arm, case_arm_then, case_arm, PBody, body, PHandlers, no_handler, handler_then, handler}
use Rattle.ada_tree.specs.Every.{Rules, EveryWord, EveryDrange, EveryCallee, EveryFormal, EveryScheme, EveryHead, EveryStmt, EveryStmts, EverySome, EveryMaybe, EveryAlts, EveryAltKind, EveryArms, EveryCaseArms, EveryBody, EveryHandlers}
use Rattle.ada_static_rules.specs.Scope.{Scope, Range}
use Rattle.ada_tree.specs.declared.naming.Span.{Span}
use Rattle.ada_static_rules.specs.ExprTypes.{kind_of}
use Rattle.ada_static_rules.specs.RuleChoiceBad.{selected_range}
use Rattle.ada_static_rules.specs.Demand.{labels, Site}
use Rattle.ada_static_rules.specs.Sites.{site, if_there, names_sites, drange_sites, expr_sites, formal_mark_sites, formals_sites, all_names, callee_sites, call_sites, accept_index_sites, head_sites, scheme_sites, loop_scope, stmt_sites, stmts_sites, maybe_sites, accept_sites, is_present, alts_sites, alt_sites, arms_sites, case_arms_sites, body_sites, handlers_sites, condition_sites, choice_sites, handler_names_sites, with_words}
use Rattle.ada_static_rules.specs.Scope.{entry_named}
use Rattle.ada_static_rules.specs.Declaring.{inner_scope, with_formals}
use Rattle.syn_event.specs.CheckScope.{CheckScope, CheckSite}
use Rattle.syn_event.specs.CheckScope as check_demand
use Rattle.syn_event.specs.CheckSites as check
use Rattle.syn_event.specs.declared.limits.What.TheVariants.{Alternatives}
use Rattle.task_laws.specs.translation.OldNames.{OldRange, old_given, old_marked, OldScheme, old_endless, old_while, old_for}
use Rattle.task_laws.specs.translation.OldTexts.{Asked, OldCallees, old_no_callee, old_callee, OldWords, old_no_word, old_word, OldFormals, old_no_formal, old_formal, OldHead, OldStmt, old_null, old_assign, old_delay, old_exit, old_raise, old_abort, old_call, old_accept, old_wait, old_conditional, old_timed, old_put, old_put_line, old_new_line, old_get, old_if, old_case, old_block, old_loop, OldStmts, old_no_stmt, old_stmt, OldMaybe, old_absent, old_present, OldAlts, old_no_alt, old_alt, OldKind, old_accepts, old_delays, old_terminates, OldArms, old_no_arm, old_arm, OldCaseArms, old_no_case_arm, old_case_arm, OldHandlers, old_no_handler, old_handler, OldBody, old_body}
use Rattle.normal_laws.specs.existence.inner.Gives.{Known, Gives}
use Rattle.normal_laws.proofs.existence.walked_statements.Names.{expr-old, option-old, bounds-old, target-old, call-old, parts-old, choices-old}
use Rattle.common_lemmas.proofs.Lists.{all_back, all_front, all_joined}

-- what a rule asks of the names of formals it asks of each of them
pub words-all : (r : Rules) (fs : List PFormal) → AllByRecursion (EveryFormal r) fs → AllByRecursion (EveryWord r) (all_names fs)
words-all r [] h = tt
words-all r (f ∷ fs) h = all_joined (EveryWord r) f.names (all_names fs) (recursion_from_All (EveryWord r) f.names h.0.0.1) (words-all r fs h.1)

module _ (a : Asked) (r : Rules) (k : Known) (g : Gives a r k) where
  abbrev AllAt : List Site → Type 0
  AllAt xs = AllByRecursion k.place xs

  abbrev AllChecked : List CheckSite → Type 0
  AllChecked xs = AllByRecursion k.check_place xs

  -- ---- lists of places

  front : (xs ys : List Site) → AllAt (xs ++ ys) → AllAt xs
  front xs ys h = all_front k.place xs ys h

  back : (xs ys : List Site) → AllAt (xs ++ ys) → AllAt ys
  back xs ys h = all_back k.place xs ys h

  check-front : (xs ys : List CheckSite) → AllChecked (xs ++ ys) → AllChecked xs
  check-front xs ys h = all_front k.check_place xs ys h

  check-back : (xs ys : List CheckSite) → AllChecked (xs ++ ys) → AllChecked ys
  check-back xs ys h = all_back k.check_place xs ys h

  -- of three lists
  first-of : (xs ys zs : List Site) → AllAt (xs ++ ys ++ zs) → AllAt xs
  first-of xs ys zs h = front xs ys (front (xs ++ ys) zs h)

  second-of : (xs ys zs : List Site) → AllAt (xs ++ ys ++ zs) → AllAt ys
  second-of xs ys zs h = back xs ys (front (xs ++ ys) zs h)

  third-of : (xs ys zs : List Site) → AllAt (xs ++ ys ++ zs) → AllAt zs
  third-of xs ys zs h = back (xs ++ ys) zs h

  check-first : (xs ys zs : List CheckSite) → AllChecked (xs ++ ys ++ zs) → AllChecked xs
  check-first xs ys zs h = check-front xs ys (check-front (xs ++ ys) zs h)

  check-second : (xs ys zs : List CheckSite) → AllChecked (xs ++ ys ++ zs) → AllChecked ys
  check-second xs ys zs h = check-back xs ys (check-front (xs ++ ys) zs h)

  check-third : (xs ys zs : List CheckSite) → AllChecked (xs ++ ys ++ zs) → AllChecked zs
  check-third xs ys zs h = check-back (xs ++ ys) zs h

  -- ---- names that are declared

  words-free : (ws : List Word) (s : Scope) → AllByRecursion (EveryWord r) ws → AllAt (names_sites false s ws) → OldWords a.programs ws
  words-free [] s e h = old_no_word
  words-free (w ∷ ws) s e h = old_word w ws (g.old w.name e.0) (g.free s w h.0) (words-free ws _ e.1 h.1)

  words-split : (vs ws : List Word) → OldWords a.programs (vs ++ ws) → OldWords a.programs vs × OldWords a.programs ws
  words-split [] ws h = (old_no_word, h)
  words-split (v ∷ vs) ws (old_word _ _ p q rest) = let m = words-split vs ws rest in (old_word v vs p q m.0, m.1)

  formals-of : (fs : List PFormal) → AllByRecursion (EveryFormal r) fs → OldWords a.programs (all_names fs) → OldFormals a.programs fs
  formals-of [] e h = old_no_formal
  formals-of (f ∷ fs) e h = let m = words-split f.names (all_names fs) h in old_formal f fs m.0 (g.old f.mark.name e.0.1) (formals-of fs e.1 m.1)

  -- ---- heads, callees, ranges

  head-old : (s : Scope) (c : CheckScope) (n : ℕ) (h : PHead) → EveryHead r n h → AllAt (head_sites s h) → OldHead a.programs h
  head-old s c n h e m =
      let fs = recursion_from_All (EveryFormal r) h.formals e.2 in
      let at = back (if_there (accept_index_sites s (entry_named s.own h.entry.name)) h.index) (formals_sites s h.formals) m.1 in
      record {
        index = option-old a.programs r g.old h.index (n + 1) e.1;
        formals = formals-of h.formals fs (words-free (all_names h.formals) (inner_scope s) (words-all r h.formals fs) (front (names_sites false (inner_scope s) (all_names h.formals)) (formal_mark_sites s h.formals) at));
      }

  callees-old : (s : Scope) (c : CheckScope) (n : ℕ) (xs : List PCallee) → k.scopes s c → AllByRecursion (EveryCallee r n) xs →
      AllAt (flat_map (callee_sites s) xs) → AllChecked (check.aborted_sites c n xs) → OldCallees a xs
  callees-old s c n [] known e h m = old_no_callee
  callees-old s c n (x ∷ []) known e h m =
      old_callee x [] (option-old a.programs r g.old x.index n e.0.1) (g.callee s c n x known e.0 (front (callee_sites s x) [] h) m) old_no_callee
  callees-old s c n (x ∷ y ∷ rest) known e h m =
      old_callee x (y ∷ rest) (option-old a.programs r g.old x.index n e.0.1)
      (g.callee s c n x known e.0 (front (callee_sites s x) (flat_map (callee_sites s) (y ∷ rest)) h) (check-front (check.callee_sites c n x) (check.aborted_sites c n (y ∷ rest)) m.1))
      (callees-old s c n (y ∷ rest) known e.1 (back (callee_sites s x) (flat_map (callee_sites s) (y ∷ rest)) h) (check-back (check.callee_sites c n x) (check.aborted_sites c n (y ∷ rest)) m.1))

  range-old : (s : Scope) (c : CheckScope) (n : ℕ) (x : PDrange) → k.scopes s c → EveryDrange r n x → AllAt (drange_sites false s x) → OldRange a.programs x
  range-old s c n (RGiven b) known e h = old_given b (expr-old a.programs r g.old b.first n e.1) (expr-old a.programs r g.old b.last n e.2)
  range-old s c n (RMarked x) known e h = old_marked x (g.old x.mark.name e.0) (g.mark s c x.mark known h.0) (bounds-old a.programs r g.old x.bounds n e.1)

  scheme-old : (s : Scope) (c : CheckScope) (n : ℕ) (o : Option PScheme) → k.scopes s c → IfSome o (EveryScheme r n) → AllAt (if_there (scheme_sites s) o) → OldScheme a.programs o
  scheme-old s c n None known e h = old_endless
  scheme-old s c n (Some (LWhile x)) known e h = old_while x (expr-old a.programs r g.old x n e)
  scheme-old s c n (Some (LFor w backwards x)) known e h =
      old_for w backwards x (g.old w.name e.0) (g.free (inner_scope s) w h.0) (range-old s c n x known e.1 h.1)

  -- ---- statements

  mutual
    stmt : (x : PStmt) (s : Scope) (c : CheckScope) (n : ℕ) → k.scopes s c → EveryStmt r n x → AllAt (stmt_sites s x) → AllChecked (check.stmt_sites c n x) → OldStmt a x
    stmt (SNull p) s c n known e h m = old_null p
    stmt (SAssign t x p) s c n known e h m = old_assign t x p (target-old a.programs r g.old t (n + 1) e.1) (expr-old a.programs r g.old x (n + 1) e.2)
    stmt (SDelay d p) s c n known e h m = old_delay d p
    stmt (SExit w x p) s c n known e h m = old_exit w x p (option-old a.programs r g.old x (n + 1) e.2)
    stmt (SRaise w p) s c n known e h m = old_raise w p
    stmt (SAbort cs p) s c n known e h m = old_abort cs p (callees-old s c (n + 1) cs known (recursion_from_All (EveryCallee r (n + 1)) cs e.2) h m.1)
    stmt (SCall x p) s c n known e h m = old_call x p (call-old a.programs r g.old x (n + 1) e.1) (g.call s c (n + 1) x known e.1 (call-old a.programs r g.old x (n + 1) e.1) h m.1)
    stmt (SAccept (accepting d o) p) s c n known e h m =
        let at = front (head_sites s d) (maybe_sites (with_formals (inner_scope s) d.formals) o) h in
        let checked = check-front (check.head_sites c n d) (check.maybe_sites (check.in_accept c d) (n + 1) o) m in
        old_accept d o p (head-old s c n d e.1 at) (g.head s c n d known e.1 at checked)
        (maybe o (with_formals (inner_scope s) d.formals) (check.in_accept c d) (n + 1) (g.in_accept s c n d known at checked) e.2
        (back (head_sites s d) (maybe_sites (with_formals (inner_scope s) d.formals) o) h) (check-back (check.head_sites c n d) (check.maybe_sites (check.in_accept c d) (n + 1) o) m))
    stmt (SWait x o p) s c n known e h m =
        let xs : List CheckSite = check.numbered c Alternatives 0 (check.alt_places x) in
        let ys : List CheckSite = check.alts_sites c (n + 1) x in
        let zs : List CheckSite = check.maybe_sites c (n + 1) o in
        old_wait x o p (g.wait c x (is_present o) p m.1.0)
        (alts x s c (n + 1) known e.2 (front (alts_sites s x) (maybe_sites s o) h) (check-second xs ys zs m.1.1))
        (maybe o s c (n + 1) known e.3 (back (alts_sites s x) (maybe_sites s o) h) (check-third xs ys zs m.1.1))
    stmt (SConditional x l o p) s c n known e h m =
        let xs : List Site = call_sites s x in
        let ys : List Site = stmts_sites s l in
        let zs : List Site = stmts_sites s o in
        let us : List CheckSite = check.call_sites c (n + 2) x in
        let vs : List CheckSite = check.stmts_sites c (n + 1) l in
        let ws : List CheckSite = check.stmts_sites c (n + 1) o in
        old_conditional x l o p (call-old a.programs r g.old x (n + 2) e.2)
        (g.call s c (n + 2) x known e.2 (call-old a.programs r g.old x (n + 2) e.2) (first-of xs ys zs h) (check-first us vs ws m.1.1))
        (stmts l s c (n + 1) known e.3 (second-of xs ys zs h) (check-second us vs ws m.1.1))
        (some o s c (n + 1) known e.4 (third-of xs ys zs h) (check-third us vs ws m.1.1))
    stmt (STimed x l d o p) s c n known e h m =
        let xs : List Site = call_sites s x in
        let ys : List Site = stmts_sites s l in
        let zs : List Site = stmts_sites s o in
        let us : List CheckSite = check.call_sites c (n + 2) x in
        let vs : List CheckSite = check.stmts_sites c (n + 1) l in
        let ws : List CheckSite = check.stmts_sites c (n + 1) o in
        old_timed x l d o p (call-old a.programs r g.old x (n + 2) e.2)
        (g.call s c (n + 2) x known e.2 (call-old a.programs r g.old x (n + 2) e.2) (first-of xs ys zs h) (check-first us vs ws m.1.1))
        (stmts l s c (n + 1) known e.3 (second-of xs ys zs h) (check-second us vs ws m.1.1))
        (stmts o s c (n + 1) known e.5 (third-of xs ys zs h) (check-third us vs ws m.1.1))
    stmt (SPut ps p) s c n known e h m = old_put ps p (parts-old a.programs r g.old ps (n + 1) (recursion_from_All _ ps e.1.1))
    stmt (SPutLine ps p) s c n known e h m = old_put_line ps p (parts-old a.programs r g.old ps (n + 1) (recursion_from_All _ ps e.1.1))
    stmt (SNewLine p) s c n known e h m = old_new_line p
    stmt (SGet t p) s c n known e h m = old_get t p (target-old a.programs r g.old t (n + 1) e.1)
    stmt (SIf x o p) s c n known e h m =
        old_if x o p
        (arms x s c (n + 1) known e.2 (front (arms_sites s x) (maybe_sites s o) h) (check-front (check.arms_sites c (n + 1) x) (check.maybe_sites c (n + 1) o) m.1))
        (maybe o s c (n + 1) known e.3 (back (arms_sites s x) (maybe_sites s o) h) (check-back (check.arms_sites c (n + 1) x) (check.maybe_sites c (n + 1) o) m.1))
    stmt (SCase y x o p) s c n known e h m =
        let xs : List Site = expr_sites s y in
        let ys : List Site = case_arms_sites s (kind_of s y) (selected_range s y) x in
        let zs : List Site = maybe_sites s o in
        let us : List CheckSite = check.expr_sites c (n + 1) y in
        let vs : List CheckSite = check.case_arms_sites c (n + 1) x in
        let ws : List CheckSite = check.maybe_sites c (n + 1) o in
        old_case y x o p (expr-old a.programs r g.old y (n + 1) e.1)
        (case_arms x s c (n + 1) (kind_of s y) (selected_range s y) known e.2 (second-of xs ys zs h.1) (check-second us vs ws m.1))
        (maybe o s c (n + 1) known e.3 (third-of xs ys zs h.1) (check-third us vs ws m.1))
    stmt (SBlock (body l hs) p) s c n known e h m =
        old_block l hs p
        (some l s c (n + 1) known e.1.0 (front (stmts_sites s l) (handlers_sites s [] hs) h) (check-front (check.stmts_sites c (n + 1) l) (check.handlers_sites c (n + 1) hs) m.1))
        (handlers hs s c (n + 1) [] known e.1.2 (back (stmts_sites s l) (handlers_sites s [] hs) h) (check-back (check.stmts_sites c (n + 1) l) (check.handlers_sites c (n + 1) hs) m.1))
    stmt (SLoop w x l p) s c n known e h m =
        let xs : List Site = if_there (λ y. site s (labels y) ∷ []) w in
        let ys : List Site = if_there (scheme_sites s) x in
        let zs : List Site = stmts_sites (loop_scope s x) l in
        let us : List CheckSite = check.if_there (λ y. check.site c (check_demand.declares y) ∷ []) w in
        let vs : List CheckSite = check.if_there (check.scheme_sites c (n + 1)) x in
        let ws : List CheckSite = check.stmts_sites (check.in_loop c w x) (n + 1) l in
        let schemed = second-of xs ys zs h in
        old_loop w x l p (scheme-old s c (n + 1) x known e.2 schemed)
        (some l (loop_scope s x) (check.in_loop c w x) (n + 1) (g.looping s c w x known schemed) e.3 (third-of xs ys zs h) (check-third us vs ws m.1))

    stmts : (l : PStmts) (s : Scope) (c : CheckScope) (n : ℕ) → k.scopes s c → EveryStmts r n l → AllAt (stmts_sites s l) → AllChecked (check.stmts_sites c n l) → OldStmts a l
    stmts no_stmt s c n known e h m = old_no_stmt
    stmts (stmt_then x l) s c n known e h m =
        old_stmt x l
        (stmt x s c n known e.0 (front (stmt_sites s x) (stmts_sites s l) h) (check-front (check.stmt_sites c n x) (check.stmts_sites c n l) m))
        (stmts l s c n known e.1 (back (stmt_sites s x) (stmts_sites s l) h) (check-back (check.stmt_sites c n x) (check.stmts_sites c n l) m))

    some : (l : PStmts) (s : Scope) (c : CheckScope) (n : ℕ) → k.scopes s c → EverySome r n l → AllAt (stmts_sites s l) → AllChecked (check.stmts_sites c n l) → OldStmts a l
    some no_stmt s c n known e h m = old_no_stmt
    some (stmt_then x l) s c n known e h m =
        old_stmt x l
        (stmt x s c n known e.1 (front (stmt_sites s x) (stmts_sites s l) h) (check-front (check.stmt_sites c n x) (check.stmts_sites c n l) m))
        (stmts l s c n known e.2 (back (stmt_sites s x) (stmts_sites s l) h) (check-back (check.stmt_sites c n x) (check.stmts_sites c n l) m))

    maybe : (o : PMaybe) (s : Scope) (c : CheckScope) (n : ℕ) → k.scopes s c → EveryMaybe r n o → AllAt (maybe_sites s o) → AllChecked (check.maybe_sites c n o) → OldMaybe a o
    maybe absent s c n known e h m = old_absent
    maybe (present l) s c n known e h m = old_present l (some l s c n known e h m)

    alts : (x : PAlts) (s : Scope) (c : CheckScope) (n : ℕ) → k.scopes s c → EveryAlts r n x → AllAt (alts_sites s x) → AllChecked (check.alts_sites c n x) → OldAlts a x
    alts no_alt s c n known e h m = old_no_alt
    alts (alt_then (alternative guard x p) l) s c n known e h m =
        let xs : List Site = if_there (condition_sites s) guard in
        let ys : List Site = alt_sites s x in
        let zs : List Site = alts_sites s l in
        let us : List CheckSite = check.if_there (check.expr_sites c (n + 1)) guard in
        let vs : List CheckSite = check.alt_sites c (n + 1) guard p x in
        let ws : List CheckSite = check.alts_sites c n l in
        old_alt guard x p l (option-old a.programs r g.old guard (n + 1) e.0.1)
        (alt x s c (n + 1) guard p known e.0.2 (second-of xs ys zs h) (check-second us vs ws m.1))
        (alts l s c n known e.1 (third-of xs ys zs h) (check-third us vs ws m.1))

    alt : (x : PAltKind) (s : Scope) (c : CheckScope) (n : ℕ) (guard : Option PExpr) (p : Span) → k.scopes s c → EveryAltKind r n x → AllAt (alt_sites s x) → AllChecked (check.alt_sites c n guard p x) → OldKind a x
    alt (AAccept (accepting d o) l) s c n guard p known e h m =
        let inner : List Site = maybe_sites (with_formals (inner_scope s) d.formals) o in
        let both = front (accept_sites s (accepting d o)) (stmts_sites s l) h in
        let at = front (head_sites s d) inner both in
        let deeper : List CheckSite = check.maybe_sites (check.in_accept c d) (n + 1) o in
        let two = check-front (check.accept_sites c n (accepting d o)) (check.stmts_sites c n l) m in
        let checked = check-front (check.head_sites c n d) deeper two in
        old_accepts d o l (head-old s c n d e.0.1 at) (g.head s c n d known e.0.1 at checked)
        (maybe o (with_formals (inner_scope s) d.formals) (check.in_accept c d) (n + 1) (g.in_accept s c n d known at checked) e.0.2 (back (head_sites s d) inner both) (check-back (check.head_sites c n d) deeper two))
        (stmts l s c n known e.1 (back (accept_sites s (accepting d o)) (stmts_sites s l) h) (check-back (check.accept_sites c n (accepting d o)) (check.stmts_sites c n l) m))
    alt (ADelay d l) s c n guard p known e h m = old_delays d l (stmts l s c n known e.2 h (check-back (check.delay_sites c n guard p) (check.stmts_sites c n l) m))
    alt ATerminate s c n guard p known e h m = old_terminates

    arms : (x : PArms) (s : Scope) (c : CheckScope) (n : ℕ) → k.scopes s c → EveryArms r n x → AllAt (arms_sites s x) → AllChecked (check.arms_sites c n x) → OldArms a x
    arms no_arm s c n known e h m = old_no_arm
    arms (arm_then (arm y l) rest) s c n known e h m =
        let xs : List Site = condition_sites s y in
        let ys : List Site = stmts_sites s l in
        let zs : List Site = arms_sites s rest in
        let us : List CheckSite = check.expr_sites c n y in
        let vs : List CheckSite = check.stmts_sites c n l in
        let ws : List CheckSite = check.arms_sites c n rest in
        old_arm y l rest (expr-old a.programs r g.old y n e.0.0)
        (some l s c n known e.0.1 (second-of xs ys zs h) (check-second us vs ws m))
        (arms rest s c n known e.1 (third-of xs ys zs h) (check-third us vs ws m))

    case_arms : (x : PCaseArms) (s : Scope) (c : CheckScope) (n : ℕ) (q : Option ℕ) (range : Option Range) → k.scopes s c → EveryCaseArms r n x → AllAt (case_arms_sites s q range x) → AllChecked (check.case_arms_sites c n x) → OldCaseArms a x
    case_arms no_case_arm s c n q range known e h m = old_no_case_arm
    case_arms (case_arm_then (case_arm cs l) rest) s c n q range known e h m =
        let xs : List Site = flat_map (choice_sites s q range) cs in
        let ys : List Site = stmts_sites s l in
        let zs : List Site = case_arms_sites s q range rest in
        let us : List CheckSite = flat_map (check.choice_sites c n) cs in
        let vs : List CheckSite = check.stmts_sites c n l in
        let ws : List CheckSite = check.case_arms_sites c n rest in
        old_case_arm cs l rest (choices-old a.programs r g.old cs n (recursion_from_All _ cs e.0.1))
        (some l s c n known e.0.2 (second-of xs ys zs h) (check-second us vs ws m))
        (case_arms rest s c n q range known e.1 (third-of xs ys zs h) (check-third us vs ws m))

    handlers : (x : PHandlers) (s : Scope) (c : CheckScope) (n : ℕ) (names : List ℕ) → k.scopes s c → EveryHandlers r n x → AllAt (handlers_sites s names x) → AllChecked (check.handlers_sites c n x) → OldHandlers a x
    handlers no_handler s c n names known e h m = old_no_handler
    handlers (handler_then (handler ws l p) rest) s c n names known e h m =
        let xs : List Site = handler_names_sites s names ws in
        let ys : List Site = stmts_sites s l in
        let zs : List Site = handlers_sites s (with_words names ws) rest in
        old_handler ws l p rest
        (some l s (check.handling c) (n + 1) (g.handling s c known) e.0.2 (second-of xs ys zs h) (check-front (check.stmts_sites (check.handling c) (n + 1) l) (check.handlers_sites c n rest) m.1))
        (handlers rest s c n (with_words names ws) known e.1 (third-of xs ys zs h) (check-back (check.stmts_sites (check.handling c) (n + 1) l) (check.handlers_sites c n rest) m.1))

  -- a body at such scopes
  pub body-as-asked : (x : PBody) (s : Scope) (c : CheckScope) (n : ℕ) → k.scopes s c → EveryBody r n x → AllAt (body_sites s x) → AllChecked (check.body_sites c n x) → OldBody a x
  body-as-asked (body l hs) s c n known e h m =
      old_body l hs
      (some l s c n known e.0 (front (stmts_sites s l) (handlers_sites s [] hs) h) (check-front (check.stmts_sites c n l) (check.handlers_sites c n hs) m))
      (handlers hs s c n [] known e.2 (back (stmts_sites s l) (handlers_sites s [] hs) h) (check-back (check.stmts_sites c n l) (check.handlers_sites c n hs) m))
