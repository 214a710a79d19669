-- At no place of a legal program does a name mean what is refused.
use Rattle.std.proofs.Common.{◌≡◌, ℕ, Bool, true, false, if◌then◌else◌, List, [], ◌∷◌, ◌++◌, map, flat_map, Option, Some, None}
use Rattle.std.specs.List.{AllByRecursion}
use Rattle.ada_tree.specs.declared.naming.NameId.{NameId}
use Rattle.ada_tree.specs.declared.naming.Word.{Word}
use Rattle.ada_tree.specs.declared.statements.ParMode.{ParMode}
use Rattle.ada_tree.specs.declared.statements.ParMode.TheVariants.{Take, Give, Both}
use Rattle.ada_tree.specs.TypeTable.{TypeTable}
use Rattle.ada_tree.specs.PlainExpr.{PExpr, EInteger, EName, EIndex, EAttribute, EAttributeOf, EParen, EUnary, EBinary, PBounds, PDrange, RGiven, RMarked}
use Rattle.ada_tree.specs.PlainStmt.{PTarget, PCallee, PArgs, PCall, PFormal, PPart, PWords, PValue, PChoice, PScheme, LWhile, LFor, PHead, PStmt, SNull, SAssign, SDelay, SExit, SRaise, SAbort, SCall, SAccept, SWait, SConditional, STimed, SPut, SPutLine, SNewLine, SGet, SIf, SCase, SBlock, SLoop, PStmts, no_stmt, stmt_then, PMaybe, absent, present, PAccept, accepting, alternative, PAltKind, AAccept, ADelay, ATerminate, PAlts, no_alt, alt_then, arm, PArms, no_arm, arm_then, case_arm, PCaseArms, no_case_arm, case_arm_then, PBody, body, handler, PHandlers, no_handler, handler_then}
use Rattle.ada_static_rules.specs.Scope.{Scope, integer_kind, truth_kind, Range, Unclear, meaning, Family, single, family, unclear, EntryPart, FormalPart, entry_named}
use Rattle.ada_static_rules.specs.ExprTypes.{nodes, kind_of}
use Rattle.ada_static_rules.specs.RuleTextUse.{is_image_of}
use Rattle.ada_static_rules.specs.RuleMismatch.{target_kind}
use Rattle.ada_static_rules.specs.RuleArgCount.{called_entry}
use Rattle.ada_static_rules.specs.RuleChoiceBad.{selected_range}
use Rattle.ada_static_rules.specs.Demand.{node, labels, must_be_of, Site}
use Rattle.ada_static_rules.specs.Sites.{site, if_there, names_sites, expr_sites, part_nodes, expr_of, static_of, static_if, bounds_sites, constraint_sites, mark_sites, drange_sites, condition_sites, all_names, formals_sites, callee_sites, written_actual_sites, actual_sites, actuals_sites, free_args_sites, args_sites, call_sites, accept_index_sites, head_sites, plain_part_sites, part_sites, target_sites, choice_sites, handler_names_sites, with_words, scheme_sites, loop_scope, stmt_sites, stmts_sites, maybe_sites, accept_sites, alts_sites, alt_sites, arms_sites, case_arms_sites, body_sites, handlers_sites}
use Rattle.ada_static_rules.specs.Declaring.{inner_scope, with_formals}
use Rattle.task_laws.specs.legal.sites.Met.{IsMet}
use Rattle.task_laws.proofs.legal.types.MainScopes.{StandsWhole}
use Rattle.task_laws.proofs.legal.types.InnerScopes.{IsApartLocal, AreApart, accept-stands}
use Rattle.task_laws.proofs.legal.types.LoopScopes.{loop-stands}
use Rattle.task_laws.proofs.legal.types.BodyScopes.{no-unclear}
use Rattle.common_lemmas.proofs.Lists.{all_back, all_front, all_joined, all_second, all_third}

-- no name is unclear there
abbrev pub IsClearScope : Scope → Type 0
IsClearScope s = (id : NameId) → meaning s id ≡ Some Unclear → ⊥

abbrev pub AllClear : List Site → Type 0
AllClear xs = AllByRecursion (λ (x : Site). IsClearScope x.scope) xs

pub clear-join : (xs ys : List Site) → AllClear xs → AllClear ys → AllClear (xs ++ ys)
clear-join xs ys h k = all_joined (λ (x : Site). IsClearScope x.scope) xs ys h k

pub clear-flat : {A : Type 0} (f : A → List Site) → ((x : A) → AllClear (f x)) → (xs : List A) → AllClear (flat_map f xs)
clear-flat f h [] = tt
clear-flat f h (x ∷ xs) = clear-join (f x) (flat_map f xs) (h x) (clear-flat f h xs)

pub clear-if : {A : Type 0} (f : A → List Site) → ((x : A) → AllClear (f x)) → (o : Option A) → AllClear (if_there f o)
clear-if f h (Some x) = h x
clear-if f h None = tt

module _ (s : Scope) (c : IsClearScope s) where
  nodes-clear : (b : Bool) (ns : List PExpr) → AllClear (map (λ n. site s (node b n)) ns)
  nodes-clear b [] = tt
  nodes-clear b (n ∷ ns) = (c, nodes-clear b ns)

  pub expr-clear : (e : PExpr) → AllClear (expr_sites s e)
  expr-clear e = (c, nodes-clear false (nodes e))

  pub of-clear : (k : Option ℕ) (e : PExpr) → AllClear (expr_of s k e)
  of-clear k e = clear-join (expr_sites s e) _ (expr-clear e) (c, tt)

  pub static-clear : (k : Option ℕ) (e : PExpr) → AllClear (static_of s k e)
  static-clear k e = clear-join (expr_of s k e) _ (of-clear k e) (c, tt)

  if-clear : (b : Bool) (e : PExpr) → AllClear (static_if b s e)
  if-clear true e = (c, tt)
  if-clear false e = tt

  bounds-clear : (st : Bool) (b : PBounds) → AllClear (bounds_sites st s b)
  bounds-clear st b =
      clear-join (expr_sites s b.first ++ static_if st s b.first ++ expr_sites s b.last ++ static_if st s b.last) _
      (clear-join (expr_sites s b.first ++ static_if st s b.first ++ expr_sites s b.last) _
      (clear-join (expr_sites s b.first ++ static_if st s b.first) _ (clear-join (expr_sites s b.first) _ (expr-clear b.first) (if-clear st b.first)) (expr-clear b.last)) (if-clear st b.last))
      (c, tt)

  pub constraint-clear : (st : Bool) (k : Option ℕ) (b : PBounds) → AllClear (constraint_sites st s k b)
  constraint-clear st k b = clear-join (bounds_sites st s b) _ (bounds-clear st b) (c, (c, tt))

  pub drange-clear : (st : Bool) (r : PDrange) → AllClear (drange_sites st s r)
  drange-clear st (RGiven b) = clear-join (bounds_sites st s b) _ (bounds-clear st b) (c, tt)
  drange-clear st (RMarked x) = (c, clear-if _ (constraint-clear st _) x.bounds)

  pub names-clear : (fixed : Bool) (ws : List Word) (here : List ℕ) → AllClear (names_sites fixed (record s { here = here }) ws)
  names-clear fixed [] here = tt
  names-clear fixed (w ∷ ws) here = (c, names-clear fixed ws (w.name.0 ∷ here))

  callee-clear : (x : PCallee) → AllClear (callee_sites s x)
  callee-clear x = (c, clear-if (expr_sites s) expr-clear x.index)

  written-clear : (m : ParMode) (e : PExpr) → AllClear (written_actual_sites s m e)
  written-clear m (EName id sp) = (c, tt)
  written-clear m (EInteger n sp) = (c, expr-clear (EInteger n sp))
  written-clear m (EIndex w e sp) = (c, expr-clear (EIndex w e sp))
  written-clear m (EAttribute w a sp) = (c, expr-clear (EAttribute w a sp))
  written-clear m (EAttributeOf w a e sp) = (c, expr-clear (EAttributeOf w a e sp))
  written-clear m (EParen e sp) = (c, expr-clear (EParen e sp))
  written-clear m (EUnary op e sp) = (c, expr-clear (EUnary op e sp))
  written-clear m (EBinary op l r sp) = (c, expr-clear (EBinary op l r sp))

  actual-clear : (m : ParMode) (e : PExpr) → AllClear (actual_sites s m e)
  actual-clear Take e = expr-clear e
  actual-clear Give e = written-clear Give e
  actual-clear Both e = written-clear Both e

  actuals-clear : (fs : List FormalPart) (es : List PExpr) → AllClear (actuals_sites s fs es)
  actuals-clear [] [] = tt
  actuals-clear (f ∷ fs) [] = tt
  actuals-clear [] (e ∷ es) = clear-join (expr_sites s e) _ (expr-clear e) (actuals-clear [] es)
  actuals-clear (f ∷ fs) (e ∷ es) = clear-join (actual_sites s f.mode e) _ (actual-clear f.mode e) (c, actuals-clear fs es)

  exprs-clear : (es : List PExpr) → AllClear (flat_map (expr_sites s) es)
  exprs-clear es = clear-flat (expr_sites s) expr-clear es

  free-clear : (args : PArgs) → AllClear (free_args_sites s args)
  free-clear args = clear-join (flat_map (expr_sites s) args.first) _ (exprs-clear args.first) (clear-if (flat_map (expr_sites s)) exprs-clear args.second)

  args-clear : (o : Option EntryPart) (args : PArgs) → AllClear (args_sites s o args)
  args-clear None args = free-clear args
  args-clear (Some entry) args = by_family entry.family
    where
      by_family : (f : Family) → AllClear (args_sites s (Some (record entry { family = f })) args)
      by_family single = clear-join (actuals_sites s entry.formals args.first) _ (actuals-clear entry.formals args.first) (clear-if (flat_map (expr_sites s)) exprs-clear args.second)
      by_family (family r) = clear-join (flat_map (expr_of s (Some r.kind)) args.first) _ (clear-flat (expr_of s (Some r.kind)) (of-clear (Some r.kind)) args.first) (clear-if (actuals_sites s entry.formals) (actuals-clear entry.formals) args.second)
      by_family unclear = free-clear args

  call-clear : (x : PCall) → AllClear (call_sites s x)
  call-clear x = clear-join (callee_sites s x.task) _ (callee-clear x.task) (c, clear-if _ (args-clear (called_entry (meaning s x.task.name.name) x.entry.name)) x.args)

  index-clear : (o : Option EntryPart) (e : PExpr) → AllClear (accept_index_sites s o e)
  index-clear None e = expr-clear e
  index-clear (Some entry) e = by_family entry.family
    where
      by_family : (f : Family) → AllClear (accept_index_sites s (Some (record entry { family = f })) e)
      by_family single = expr-clear e
      by_family (family r) = clear-join (expr_of s (Some r.kind) e) _ (of-clear (Some r.kind) e) (c, tt)
      by_family unclear = expr-clear e

  pub formals-clear : (fs : List PFormal) → AllClear (formals_sites s fs)
  formals-clear fs = clear-join (names_sites false (inner_scope s) (all_names fs)) _ (names-clear false (all_names fs) []) (clear-flat (λ f. mark_sites _ s f.mark) (λ f. (c, tt)) fs)

  head-clear : (h : PHead) → AllClear (head_sites s h)
  head-clear h = (c, clear-join (if_there (accept_index_sites s (entry_named s.own h.entry.name)) h.index) (formals_sites s h.formals) (clear-if _ (index-clear (entry_named s.own h.entry.name)) h.index) (formals-clear h.formals))

  target-clear : (t : PTarget) → AllClear (target_sites s t)
  target-clear t = (c, clear-if (expr_sites s) expr-clear t.index)

  choice-clear : (k : Option ℕ) (r : Option Range) (x : PChoice) → AllClear (choice_sites s k r x)
  choice-clear k r x = clear-join (static_of s k x.first) _ (static-clear k x.first) (c, clear-if _ (λ e. clear-join (static_of s k e) _ (static-clear k e) (c, (c, tt))) x.last)

  handler-clear : (names : List ℕ) (ws : List Word) → AllClear (handler_names_sites s names ws)
  handler-clear names [] = tt
  handler-clear names (w ∷ ws) = (c, (c, handler-clear (w.name.0 ∷ names) ws))

  scheme-clear : (x : PScheme) → AllClear (scheme_sites s x)
  scheme-clear (LWhile e) = of-clear (Some truth_kind) e
  scheme-clear (LFor w r x) = (c, drange-clear false x)

  plain-clear : (alone : Bool) (e : PExpr) → AllClear (plain_part_sites s alone e)
  plain-clear true e = by_test (is_image_of e)
    where
      by_test : (b : Bool) → AllClear (if b then [] else site s (must_be_of e (Some integer_kind)) ∷ [])
      by_test true = tt
      by_test false = (c, tt)
  plain-clear false e = tt

  part-nodes-clear : (e : PExpr) → AllClear (part_nodes s e)
  part-nodes-clear (EInteger n sp) = (c, tt)
  part-nodes-clear (EName id sp) = (c, tt)
  part-nodes-clear (EIndex w e sp) = (c, nodes-clear false (nodes e))
  part-nodes-clear (EAttribute w a sp) = (c, tt)
  part-nodes-clear (EAttributeOf w a e sp) = (c, nodes-clear false (nodes e))
  part-nodes-clear (EParen e sp) = (c, nodes-clear false (nodes e))
  part-nodes-clear (EUnary op e sp) = (c, nodes-clear false (nodes e))
  part-nodes-clear (EBinary op l r sp) = (c, nodes-clear false (nodes l ++ nodes r))

  part-clear : (alone : Bool) (x : PPart) → AllClear (part_sites s alone x)
  part-clear alone (PWords t sp) = tt
  part-clear alone (PValue e) = (c, clear-join (part_nodes s e) _ (part-nodes-clear e) (c, plain-clear alone e))

-- ---- three parts of a list

pub clear-three : (xs ys zs : List Site) → AllClear xs → AllClear ys → AllClear zs → AllClear (xs ++ ys ++ zs)
clear-three xs ys zs h k l = clear-join (xs ++ ys) zs (clear-join xs ys h k) l

-- ---- statements

-- what is known of the places
abbrev pub IsPlace : TypeTable → Site → Type 0
IsPlace T x = IsMet x × IsApartLocal T x.demand

pub mets : (T : TypeTable) (xs : List Site) → AllByRecursion (IsPlace T) xs → AllByRecursion IsMet xs
mets T [] h = tt
mets T (x ∷ xs) h = (h.0.0, mets T xs h.1)

pub aparts : (T : TypeTable) (xs : List Site) → AllByRecursion (IsPlace T) xs → AreApart T xs
aparts T [] h = tt
aparts T (x ∷ xs) h = (h.0.1, aparts T xs h.1)

module _ (T : TypeTable) where
  abbrev Known : List Site → Type 0
  Known xs = AllByRecursion (IsPlace T) xs

  clear-of : (s : Scope) → StandsWhole T s → IsClearScope s
  clear-of s h id e = no-unclear T s id h e

  mutual
    stmt-clear : (x : PStmt) (s : Scope) → StandsWhole T s → Known (stmt_sites s x) → AllClear (stmt_sites s x)
    stmt-clear (SNull sp) s h k = tt
    stmt-clear (SAssign t e sp) s h k = clear-join (target_sites s t) _ (target-clear s (clear-of s h) t) (of-clear s (clear-of s h) (target_kind s t) e)
    stmt-clear (SDelay d sp) s h k = tt
    stmt-clear (SExit w e sp) s h k = clear-if (condition_sites s) (of-clear s (clear-of s h) (Some truth_kind)) e
    stmt-clear (SRaise w sp) s h k = clear-if _ (λ x. (clear-of s h, tt)) w
    stmt-clear (SAbort cs sp) s h k = clear-flat (callee_sites s) (callee-clear s (clear-of s h)) cs
    stmt-clear (SCall x sp) s h k = call-clear s (clear-of s h) x
    stmt-clear (SAccept a sp) s h k = accept-clear a s h k
    stmt-clear (SWait x o sp) s h k = clear-join (alts_sites s x) (maybe_sites s o) (alts-clear x s h (all_front _ (alts_sites s x) (maybe_sites s o) k)) (maybe-clear o s h (all_back _ (alts_sites s x) (maybe_sites s o) k))
    stmt-clear (SConditional x b o sp) s h k =
        clear-three (call_sites s x) (stmts_sites s b) (stmts_sites s o) (call-clear s (clear-of s h) x) (stmts-clear b s h (all_second _ (call_sites s x) (stmts_sites s b) (stmts_sites s o) k)) (stmts-clear o s h (all_third _ (call_sites s x) (stmts_sites s b) (stmts_sites s o) k))
    stmt-clear (STimed x b d a sp) s h k =
        clear-three (call_sites s x) (stmts_sites s b) (stmts_sites s a) (call-clear s (clear-of s h) x) (stmts-clear b s h (all_second _ (call_sites s x) (stmts_sites s b) (stmts_sites s a) k)) (stmts-clear a s h (all_third _ (call_sites s x) (stmts_sites s b) (stmts_sites s a) k))
    stmt-clear (SPut ps sp) s h k = clear-flat _ (part-clear s (clear-of s h) _) ps
    stmt-clear (SPutLine ps sp) s h k = clear-flat _ (part-clear s (clear-of s h) false) ps
    stmt-clear (SNewLine sp) s h k = tt
    stmt-clear (SGet t sp) s h k = clear-join (target_sites s t) _ (target-clear s (clear-of s h) t) (clear-of s h, tt)
    stmt-clear (SIf x o sp) s h k = clear-join (arms_sites s x) (maybe_sites s o) (arms-clear x s h (all_front _ (arms_sites s x) (maybe_sites s o) k)) (maybe-clear o s h (all_back _ (arms_sites s x) (maybe_sites s o) k))
    stmt-clear (SCase e x o sp) s h k =
        let arms = case_arms_sites s (kind_of s e) (selected_range s e) x in (
          clear-of s h,
          clear-three (expr_sites s e) arms (maybe_sites s o) (expr-clear s (clear-of s h) e) (case-arms-clear x (kind_of s e) (selected_range s e) s h (all_second _ (expr_sites s e) arms (maybe_sites s o) k.1)) (maybe-clear o s h (all_third _ (expr_sites s e) arms (maybe_sites s o) k.1)),
        )
    stmt-clear (SBlock b sp) s h k = body-clear b s h k
    stmt-clear (SLoop w x l sp) s h k =
        let label = if_there (λ y. site s (labels y) ∷ []) w in
        let scheme = if_there (scheme_sites s) x in
        let stmts = stmts_sites (loop_scope s x) l in
        let known = all_second (IsPlace T) label scheme stmts k in
        clear-three label scheme stmts (clear-if _ (λ y. (clear-of s h, tt)) w) (clear-if (scheme_sites s) (scheme-clear s (clear-of s h)) x)
        (stmts-clear l (loop_scope s x) (loop-stands T s x h (mets T scheme known) (aparts T scheme known)) (all_third _ label scheme stmts k))

    stmts-clear : (l : PStmts) (s : Scope) → StandsWhole T s → Known (stmts_sites s l) → AllClear (stmts_sites s l)
    stmts-clear no_stmt s h k = tt
    stmts-clear (stmt_then x l) s h k = clear-join (stmt_sites s x) (stmts_sites s l) (stmt-clear x s h (all_front _ (stmt_sites s x) (stmts_sites s l) k)) (stmts-clear l s h (all_back _ (stmt_sites s x) (stmts_sites s l) k))

    maybe-clear : (o : PMaybe) (s : Scope) → StandsWhole T s → Known (maybe_sites s o) → AllClear (maybe_sites s o)
    maybe-clear absent s h k = tt
    maybe-clear (present l) s h k = stmts-clear l s h k

    accept-clear : (a : PAccept) (s : Scope) → StandsWhole T s → Known (accept_sites s a) → AllClear (accept_sites s a)
    accept-clear (accepting d o) s h k =
        let inner = with_formals (inner_scope s) d.formals in
        let known = all_front (IsPlace T) (head_sites s d) (maybe_sites inner o) k in
        clear-join (head_sites s d) (maybe_sites inner o) (head-clear s (clear-of s h) d)
        (maybe-clear o inner (accept-stands T s d h (mets T (head_sites s d) known) (aparts T (head_sites s d) known)) (all_back _ (head_sites s d) (maybe_sites inner o) k))

    alts-clear : (l : PAlts) (s : Scope) → StandsWhole T s → Known (alts_sites s l) → AllClear (alts_sites s l)
    alts-clear no_alt s h k = tt
    alts-clear (alt_then (alternative g x sp) l) s h k =
        let guard = if_there (condition_sites s) g in
        clear-three guard (alt_sites s x) (alts_sites s l) (clear-if (condition_sites s) (of-clear s (clear-of s h) (Some truth_kind)) g) (alt-clear x s h (all_second _ guard (alt_sites s x) (alts_sites s l) k)) (alts-clear l s h (all_third _ guard (alt_sites s x) (alts_sites s l) k))

    alt-clear : (x : PAltKind) (s : Scope) → StandsWhole T s → Known (alt_sites s x) → AllClear (alt_sites s x)
    alt-clear (AAccept a l) s h k = clear-join (accept_sites s a) (stmts_sites s l) (accept-clear a s h (all_front _ (accept_sites s a) (stmts_sites s l) k)) (stmts-clear l s h (all_back _ (accept_sites s a) (stmts_sites s l) k))
    alt-clear (ADelay d l) s h k = stmts-clear l s h k
    alt-clear ATerminate s h k = tt

    arms-clear : (l : PArms) (s : Scope) → StandsWhole T s → Known (arms_sites s l) → AllClear (arms_sites s l)
    arms-clear no_arm s h k = tt
    arms-clear (arm_then (arm e l) rest) s h k =
        clear-three (condition_sites s e) (stmts_sites s l) (arms_sites s rest) (of-clear s (clear-of s h) (Some truth_kind) e) (stmts-clear l s h (all_second _ (condition_sites s e) (stmts_sites s l) (arms_sites s rest) k)) (arms-clear rest s h (all_third _ (condition_sites s e) (stmts_sites s l) (arms_sites s rest) k))

    case-arms-clear : (l : PCaseArms) (n : Option ℕ) (r : Option Range) (s : Scope) → StandsWhole T s → Known (case_arms_sites s n r l) → AllClear (case_arms_sites s n r l)
    case-arms-clear no_case_arm n r s h k = tt
    case-arms-clear (case_arm_then (case_arm cs l) rest) n r s h k =
        let choices = flat_map (choice_sites s n r) cs in
        clear-three choices (stmts_sites s l) (case_arms_sites s n r rest) (clear-flat (choice_sites s n r) (choice-clear s (clear-of s h) n r) cs) (stmts-clear l s h (all_second _ choices (stmts_sites s l) (case_arms_sites s n r rest) k)) (case-arms-clear rest n r s h (all_third _ choices (stmts_sites s l) (case_arms_sites s n r rest) k))

    pub body-clear : (b : PBody) (s : Scope) → StandsWhole T s → Known (body_sites s b) → AllClear (body_sites s b)
    body-clear (body l hs) s h k = clear-join (stmts_sites s l) (handlers_sites s [] hs) (stmts-clear l s h (all_front _ (stmts_sites s l) (handlers_sites s [] hs) k)) (handlers-clear hs [] s h (all_back _ (stmts_sites s l) (handlers_sites s [] hs) k))

    handlers-clear : (l : PHandlers) (ns : List ℕ) (s : Scope) → StandsWhole T s → Known (handlers_sites s ns l) → AllClear (handlers_sites s ns l)
    handlers-clear no_handler ns s h k = tt
    handlers-clear (handler_then (handler ws l sp) rest) ns s h k =
        let names = handler_names_sites s ns ws in
        let more = handlers_sites s (with_words ns ws) rest in
        clear-three names (stmts_sites s l) more (handler-clear s (clear-of s h) ns ws) (stmts-clear l s h (all_second _ names (stmts_sites s l) more k)) (handlers-clear rest (with_words ns ws) s h (all_third _ names (stmts_sites s l) more k))
