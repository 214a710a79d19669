-- The names in statements: what holds of each name in scope, of the predefined ones, and of each name that is not reserved, holds of them.
use Rattle.std.proofs.Common.{◌≡◌, ℕ, ◌+◌, ◌<◌, Bool, true, false, ◌||◌, ◌==◌, List, [], ◌∷◌, ◌++◌, length, flat_map, Option, Some, None, option_map, IfSome, refl, sym, subst, true≢false}
use Rattle.std.specs.List.{AllByRecursion, list_any}
use Rattle.std.proofs.lemmas.Bool.{eqb-true}
use Rattle.std.proofs.lemmas.List.Elements.{All-from_recursion}
use Rattle.ada_tree.specs.declared.naming.NameId.{NameId}
use Rattle.ada_tree.specs.declared.naming.Span.{Span}
use Rattle.ada_tree.specs.declared.naming.Word.{Word}
use Rattle.ada_tree.specs.declared.statements.ParMode.{ParMode}
use Rattle.ada_tree.specs.PlainExpr.{PExpr}
use Rattle.ada_tree.specs.PlainStmt.{PCallee, PFormal, PScheme, LWhile, LFor, PHead, PStmt, SNull, SAssign, SDelay, SExit, SRaise, SAbort, SCall, SAccept, SWait, SConditional, STimed, SPut, SPutLine, SNewLine, SGet, SIf, SCase, SBlock, SLoop, PStmts, no_stmt, stmt_then, PMaybe, absent, present, PAccept, accepting, alternative, PAltKind, AAccept, ADelay, ATerminate, PAlts, no_alt, alt_then, arm, PArms, no_arm, arm_then, case_arm, PCaseArms, no_case_arm, case_arm_then, PBody, body, handler, PHandlers, no_handler, handler_then}
use Rattle.ada_tree.specs.Every.{Rules, EveryWord, EveryExpr, EveryCallee, EveryScheme, EveryHead, EveryStmt, EveryStmts, EverySome, EveryMaybe, EveryAccept, EveryAltKind, EveryAlts, EveryArms, EveryCaseArms, EveryBody, EveryHandlers}
use Rattle.ada_static_rules.specs.ExprTypes.{kind_of}
use Rattle.ada_static_rules.specs.Scope.{Scope, Range, truth_kind, Family, single, family, unclear, Marking, ScalarMark, ArrayMark, TaskMark, NoMark, UnknownMark, UnclearMark, EntryPart, entry_named, marking}
use Rattle.ada_static_rules.specs.Declaring.{inner_scope, with_names, with_formals, formal_thing, loop_thing}
use Rattle.ada_static_rules.specs.Demand.{Site, names_exception, labels, gets, chooses}
use Rattle.ada_static_rules.specs.Sites.{site, if_there, names_sites, expr_sites, expr_of, condition_sites, accept_index_sites, formals_sites, all_names, formal_mark_sites, callee_sites, call_sites, target_sites, head_sites, choice_sites, arm_choices, is_present, handler_names_sites, with_words, scheme_sites, loop_scope, stmt_sites, stmts_sites, maybe_sites, accept_sites, alts_sites, alt_sites, arms_sites, case_arms_sites, body_sites, handlers_sites}
use Rattle.ada_static_rules.specs.RuleMismatch.{target_kind}
use Rattle.ada_static_rules.specs.RuleChoiceBad.{selected_range}
use Rattle.syn_event.specs.declared.numbering.Mode.TheVariants.{Original}
use Rattle.syn_event.specs.declared.limits.What.TheVariants.{Alternatives}
use Rattle.syn_event.specs.declared.meanings.Meant.TheVariants as meant
use Rattle.syn_event.specs.DeclaredTasks.{text_of}
use Rattle.syn_event.specs.CheckScope.{CheckScope, CheckSite, declares, accepts as check_accepts, waits}
use Rattle.syn_event.specs.CheckSites.{with_meant, formal_names, in_accept, in_loop, handling, site as check_site, if_there as check_if_there, stands, numbered, names_sites as check_names_sites, expr_sites as check_expr_sites, select_sites as check_select_sites, scheme_sites as check_scheme_sites, choice_sites as check_choice_sites, head_sites as check_head_sites, delay_sites, alt_places, stmt_sites as check_stmt_sites, stmts_sites as check_stmts_sites, maybe_sites as check_maybe_sites, accept_sites as check_accept_sites, alts_sites as check_alts_sites, alt_sites as check_alt_sites, arms_sites as check_arms_sites, case_arms_sites as check_case_arms_sites, body_sites as check_body_sites, handlers_sites as check_handlers_sites}
use Rattle.syn_event.specs.RuleReservedName.{is_reserved}
use Rattle.syn_event.specs.RuleExitPlace.{is_left}
use Rattle.task_laws.specs.legal.sites.Met.{IsCheckMet}
use Rattle.task_laws.proofs.legal.sites.Around.{test-holds, test-fails, IsOther, OwnThing, OwnLoop, OwnWord, Around, seen, entry-somewhere, name-both, names-both}
use Rattle.task_laws.proofs.legal.sites.NamedParts.{IsFit, Q, expr-own, expr-of-own, drange-own, target-own, callee-own, call-own, text-own, choices-own, formals-own}
use Rattle.common_lemmas.proofs.Lists.{all_back, all_front}
use Rattle.syn_event.proofs.CheckScopes.{meant_joined}

module _ (Own : ℕ → Type 0) (first : (k : ℕ) → k < 25 → Own k) (texts : List (List ℕ)) (declared : (id : NameId) → is_reserved (text_of texts id) ≡ false → Own id.0) where
  abbrev R : Rules
  R = Q Own first

  abbrev M : CheckSite → Type 0
  M x = IsCheckMet Original texts x

  -- ---- names that are declared

  pub declared-own : (a : CheckScope) (w : Word) → M (check_site a (declares w)) → Own w.name.0
  declared-own a w h = declared w.name (test-fails (is_reserved (text_of texts w.name)) w.span h.reserved)

  pub words-own : (a : CheckScope) (ws : List Word) → AllByRecursion M (check_names_sites a ws) → AllByRecursion (OwnWord Own) ws
  words-own a [] h = tt
  words-own a (w ∷ ws) h = (declared-own a w h.0, words-own a ws h.1)

  formal-thing : (mode : ParMode) (m : Marking) → OwnThing Own (formal_thing mode m) × IsOther (formal_thing mode m)
  formal-thing mode (ScalarMark m k) = (tt, tt)
  formal-thing mode (ArrayMark m r p) = (tt, tt)
  formal-thing mode (TaskMark es) = (tt, tt)
  formal-thing mode NoMark = (tt, tt)
  formal-thing mode UnknownMark = (tt, tt)
  formal-thing mode UnclearMark = (tt, tt)

  loop-thing : (o : Option ℕ) → OwnThing Own (loop_thing o) × IsOther (loop_thing o)
  loop-thing (Some m) = (tt, tt)
  loop-thing None = (tt, tt)

  -- ---- scopes in statements

  formals-around : (fs : List PFormal) (s : Scope) (a : CheckScope) → AllByRecursion (OwnWord Own) (formal_names fs) → Around Own s a → Around Own (with_formals s fs) (with_meant meant.Inner a (formal_names fs))
  formals-around [] s a o h = h
  formals-around (f ∷ fs) s a o h =
      let thing = formal_thing f.mode (marking s f.mark.name) in
      let t = formal-thing f.mode (marking s f.mark.name) in
      subst (Around Own (with_formals (with_names thing s f.names) fs)) (sym (meant_joined meant.Inner a f.names (formal_names fs)))
      (formals-around fs (with_names thing s f.names) (with_meant meant.Inner a f.names) (all_back (OwnWord Own) f.names (formal_names fs) o)
      (names-both Own thing meant.Inner f.names s a (all_front (OwnWord Own) f.names (formal_names fs) o) t.0 t.1 h))

  accept-around : (h : PHead) (s : Scope) (a : CheckScope) → AllByRecursion (OwnWord Own) (formal_names h.formals) → Around Own s a → Around Own (with_formals (inner_scope s) h.formals) (in_accept a h)
  accept-around h s a o r =
      formals-around h.formals (inner_scope s) (record a { accepting = h.entry.name ∷ a.accepting; loops = [] }) o
      record { names = r.names; own = r.own; loops = tt; types = r.types; main = r.main }

  label-own : (w : Option Word) → IfSome w (OwnWord Own) → OwnLoop Own (option_map (λ (x : Word). x.name) w)
  label-own (Some w) h = h
  label-own None h = tt

  -- the parameter of a loop
  abbrev OwnScheme : Option PScheme → Type 0
  OwnScheme (Some (LFor w r x)) = Own w.name.0
  OwnScheme _ = Unit {0}

  loop-around : (w : Option Word) (c : Option PScheme) (s : Scope) (a : CheckScope) → IfSome w (OwnWord Own) → OwnScheme c → Around Own s a → Around Own (loop_scope s c) (in_loop a w c)
  loop-around w None s a o p h = record { names = h.names; own = h.own; loops = (label-own w o, h.loops); types = h.types; main = h.main }
  loop-around w (Some (LWhile e)) s a o p h = record { names = h.names; own = h.own; loops = (label-own w o, h.loops); types = h.types; main = h.main }
  loop-around w (Some (LFor x r y)) s a o p h =
      let t = loop-thing _ in
      name-both Own _ meant.Inner x (inner_scope s) (record a { loops = option_map (λ (z : Word). z.name) w ∷ a.loops }) p t.0 t.1
      record { names = h.names; own = h.own; loops = (label-own w o, h.loops); types = h.types; main = h.main }

  -- an exit names a loop around it
  exit-own : (w : Option Word) (ls : List (Option NameId)) → AllByRecursion (OwnLoop Own) ls → list_any (is_left w) ls ≡ true → IfSome w (EveryWord R)
  exit-own None ls o h = tt
  exit-own (Some w) [] o h = absurd (true≢false (sym h))
  exit-own (Some w) (None ∷ ls) o h = exit-own (Some w) ls o.1 h
  exit-own (Some w) (Some n ∷ ls) o h = by_test (n.0 == w.name.0) refl h (exit-own (Some w) ls o.1)
    where
      by_test : (b : Bool) → (n.0 == w.name.0) ≡ b → (b || list_any (is_left (Some w)) ls) ≡ true → (list_any (is_left (Some w)) ls ≡ true → Own w.name.0) → Own w.name.0
      by_test true f g rest = subst Own (eqb-true n.0 w.name.0 f) o.0
      by_test false f g rest = rest g

  if-checked : {A : Type 0} (f : A → List CheckSite) (o : Option A) (P : A → Type 0) → ((x : A) → AllByRecursion M (f x) → P x) → AllByRecursion M (check_if_there f o) → IfSome o P
  if-checked f (Some x) P g h = g x h
  if-checked f None P g h = tt

  if-met : {A : Type 0} (f : A → List Site) (o : Option A) (P : A → Type 0) → ((x : A) → AllByRecursion IsFit (f x) → P x) → AllByRecursion IsFit (if_there f o) → IfSome o P
  if-met f (Some x) P g h = g x h
  if-met f None P g h = tt

  module _ (s : Scope) (a : CheckScope) (around : Around Own s a) where
    -- ---- heads of accepts

    index-own : (k : ℕ) (o : Option EntryPart) (e : PExpr) → AllByRecursion IsFit (accept_index_sites s o e) → EveryExpr R k e
    index-own k None e h = expr-own Own first s around.names k e h
    index-own k (Some entry) e h = by_family entry.family h
      where
        by_family : (f : Family) → AllByRecursion IsFit (accept_index_sites s (Some (record entry { family = f })) e) → EveryExpr R k e
        by_family single g = expr-own Own first s around.names k e g
        by_family unclear g = expr-own Own first s around.names k e g
        by_family (family r) g = expr-of-own Own first s around.names k (Some r.kind) e (all_front IsFit (expr_of s (Some r.kind) e) _ g)

    head-words : (j : ℕ) (h : PHead) → AllByRecursion M (check_head_sites a j h) → AllByRecursion (OwnWord Own) (formal_names h.formals)
    head-words j h m =
        words-own a (formal_names h.formals)
        (all_back M (stands a j h.span ∷ check_site a (check_accepts h) ∷ check_if_there (check_expr_sites a (j + 1)) h.index) (check_names_sites a (formal_names h.formals)) m)

    head-own : (k j : ℕ) (h : PHead) → AllByRecursion IsFit (head_sites s h) → AllByRecursion M (check_head_sites a j h) → EveryHead R k h
    head-own k j h f m =
        let index = if_there (accept_index_sites s (entry_named s.own h.entry.name)) h.index in
        let formals = all_back IsFit index (formals_sites s h.formals) f.1 in (
          entry-somewhere Own s h.entry.name around.names around.own (test-holds _ h.entry.span f.0.met.known),
          if-met (accept_index_sites s (entry_named s.own h.entry.name)) h.index (EveryExpr R (k + 1)) (λ e g. index-own (k + 1) (entry_named s.own h.entry.name) e g) (all_front IsFit index (formals_sites s h.formals) f.1),
          formals-own Own first s around.names h.formals (head-words j h m) (all_back IsFit (names_sites false (inner_scope s) (all_names h.formals)) (formal_mark_sites s h.formals) formals),
        )

    -- ---- loops and handlers

    scheme-own : (k : ℕ) (c : PScheme) (j : ℕ) → AllByRecursion IsFit (scheme_sites s c) → AllByRecursion M (check_scheme_sites a j c) → EveryScheme R k c
    scheme-own k (LWhile e) j h m = expr-of-own Own first s around.names k (Some truth_kind) e h
    scheme-own k (LFor w r x) j h m = (declared-own a w m.0, drange-own Own first s around.names false k x h.1)

    parameter-own : (c : Option PScheme) (j : ℕ) → AllByRecursion M (check_if_there (check_scheme_sites a j) c) → OwnScheme c
    parameter-own None j m = tt
    parameter-own (Some (LWhile e)) j m = tt
    parameter-own (Some (LFor w r x)) j m = declared-own a w m.0

    schemes-own : (k : ℕ) (c : Option PScheme) (j : ℕ) → AllByRecursion IsFit (if_there (scheme_sites s) c) → AllByRecursion M (check_if_there (check_scheme_sites a j) c) → IfSome c (EveryScheme R k)
    schemes-own k None j h m = tt
    schemes-own k (Some c) j h m = scheme-own k c j h m

    raised-list : (before : List ℕ) (ws : List Word) → AllByRecursion IsFit (handler_names_sites s before ws) → AllByRecursion (EveryWord R) ws
    raised-list before [] h = tt
    raised-list before (w ∷ ws) h = (seen Own s w.name w.span around.names h.0.met.known, raised-list (w.name.0 ∷ before) ws h.1.1)

    callees-list : (k : ℕ) (cs : List PCallee) → AllByRecursion IsFit (flat_map (callee_sites s) cs) → AllByRecursion (EveryCallee R k) cs
    callees-list k [] h = tt
    callees-list k (c ∷ cs) h = (callee-own Own first s around.names k c (all_front IsFit (callee_sites s c) _ h), callees-list k cs (all_back IsFit (callee_sites s c) _ h))

  -- ---- statements

  some-of : (k : ℕ) (l : PStmts) → EveryStmts R k l → EverySome R k l
  some-of k no_stmt h = tt
  some-of k (stmt_then x l) h = (tt, h.0, h.1)

  mutual
    stmt-own : (x : PStmt) (s : Scope) (a : CheckScope) (k j : ℕ) → Around Own s a → AllByRecursion IsFit (stmt_sites s x) → AllByRecursion M (check_stmt_sites a j x) → EveryStmt R k x
    stmt-own (SNull sp) s a k j r h m = tt
    stmt-own (SAssign t e sp) s a k j r h m = (
      tt,
      target-own Own first s r.names (k + 1) t (all_front IsFit (target_sites s t) (expr_of s (target_kind s t) e) h),
      expr-of-own Own first s r.names (k + 1) (target_kind s t) e (all_back IsFit (target_sites s t) (expr_of s (target_kind s t) e) h),
    )
    stmt-own (SDelay d sp) s a k j r h m = (tt, tt)
    stmt-own (SExit w e sp) s a k j r h m = (
      tt,
      exit-own w a.loops r.loops (test-holds (list_any (is_left w) a.loops) sp m.1.0.exits),
      if-met (condition_sites s) e (EveryExpr R (k + 1)) (λ x g. expr-of-own Own first s r.names (k + 1) (Some truth_kind) x g) h,
    )
    stmt-own (SRaise w sp) s a k j r h m = (tt, if-met (λ x. site s (names_exception x) ∷ []) w (EveryWord R) (λ x g. seen Own s x.name x.span r.names g.0.met.known) h)
    stmt-own (SAbort cs sp) s a k j r h m = (tt, tt, All-from_recursion (EveryCallee R (k + 1)) cs (callees-list s a r (k + 1) cs h))
    stmt-own (SCall c sp) s a k j r h m = (tt, call-own Own first s r.names a r (k + 1) c m.1.0.main h)
    stmt-own (SAccept x sp) s a k j r h m = accept-own x s a k j r h m
    stmt-own (SWait x o sp) s a k j r h m =
        let front = stands a j sp ∷ check_site a (waits x (is_present o) sp) ∷ numbered a Alternatives 0 (alt_places x) in
        let alts = check_alts_sites a (j + 1) x in
        let maybe = check_maybe_sites a (j + 1) o in (
          tt,
          tt,
          alts-own x s a (k + 1) (j + 1) r (all_front IsFit (alts_sites s x) (maybe_sites s o) h) (all_back M front alts (all_front M (front ++ alts) maybe m)),
          maybe-own o s a (k + 1) (j + 1) r (all_back IsFit (alts_sites s x) (maybe_sites s o) h) (all_back M (front ++ alts) maybe m),
        )
    stmt-own (SConditional c b o sp) s a k j r h m =
        let front = stands a j sp ∷ check_select_sites a j c in
        let one = check_stmts_sites a (j + 1) b in
        let two = check_stmts_sites a (j + 1) o in
        let behind = all_front IsFit (call_sites s c ++ stmts_sites s b) (stmts_sites s o) h in (
          tt,
          tt,
          call-own Own first s r.names a r (k + 2) c m.1.1.0.main (all_front IsFit (call_sites s c) (stmts_sites s b) behind),
          stmts-own b s a (k + 1) (j + 1) r (all_back IsFit (call_sites s c) (stmts_sites s b) behind) (all_back M front one (all_front M (front ++ one) two m)),
          some-of (k + 1) o (stmts-own o s a (k + 1) (j + 1) r (all_back IsFit (call_sites s c ++ stmts_sites s b) (stmts_sites s o) h) (all_back M (front ++ one) two m)),
        )
    stmt-own (STimed c b d o sp) s a k j r h m =
        let front = stands a j sp ∷ check_select_sites a j c in
        let one = check_stmts_sites a (j + 1) b in
        let two = check_stmts_sites a (j + 1) o in
        let behind = all_front IsFit (call_sites s c ++ stmts_sites s b) (stmts_sites s o) h in (
          tt,
          tt,
          call-own Own first s r.names a r (k + 2) c m.1.1.0.main (all_front IsFit (call_sites s c) (stmts_sites s b) behind),
          stmts-own b s a (k + 1) (j + 1) r (all_back IsFit (call_sites s c) (stmts_sites s b) behind) (all_back M front one (all_front M (front ++ one) two m)),
          tt,
          stmts-own o s a (k + 1) (j + 1) r (all_back IsFit (call_sites s c ++ stmts_sites s b) (stmts_sites s o) h) (all_back M (front ++ one) two m),
        )
    stmt-own (SPut ps sp) s a k j r h m = (tt, text-own Own first s r.names (k + 1) (length ps == 1) ps h)
    stmt-own (SPutLine ps sp) s a k j r h m = (tt, text-own Own first s r.names (k + 1) false ps h)
    stmt-own (SNewLine sp) s a k j r h m = tt
    stmt-own (SGet t sp) s a k j r h m = (tt, target-own Own first s r.names (k + 1) t (all_front IsFit (target_sites s t) (site s (gets t) ∷ []) h))
    stmt-own (SIf x o sp) s a k j r h m =
        let front = stands a j sp ∷ check_arms_sites a (j + 1) x in (
          tt,
          tt,
          arms-own x s a (k + 1) (j + 1) r (all_front IsFit (arms_sites s x) (maybe_sites s o) h) (all_front M front (check_maybe_sites a (j + 1) o) m).1,
          maybe-own o s a (k + 1) (j + 1) r (all_back IsFit (arms_sites s x) (maybe_sites s o) h) (all_back M front (check_maybe_sites a (j + 1) o) m),
        )
    stmt-own (SCase e x o sp) s a k j r h m =
        let front = stands a j sp ∷ check_expr_sites a (j + 1) e in
        let arms = check_case_arms_sites a (j + 1) x in
        let maybe = check_maybe_sites a (j + 1) o in
        let choose = site s (chooses e (arm_choices x) (is_present o) sp) ∷ expr_sites s e in
        let choices = case_arms_sites s (kind_of s e) (selected_range s e) x in
        let lower = all_front IsFit (choose ++ choices) (maybe_sites s o) h in (
          tt,
          expr-own Own first s r.names (k + 1) e (all_front IsFit choose choices lower).1,
          case-arms-own x s a (k + 1) (j + 1) (kind_of s e) (selected_range s e) r (all_back IsFit choose choices lower) (all_back M front arms (all_front M (front ++ arms) maybe m)),
          maybe-own o s a (k + 1) (j + 1) r (all_back IsFit (choose ++ choices) (maybe_sites s o) h) (all_back M (front ++ arms) maybe m),
        )
    stmt-own (SBlock b sp) s a k j r h m = (tt, body-own b s a (k + 1) (j + 1) r h m.1)
    stmt-own (SLoop w c l sp) s a k j r h m =
        let named = λ (x : Word). check_site a (declares x) ∷ [] in
        let front = stands a j sp ∷ check_if_there named w in
        let schemes = check_if_there (check_scheme_sites a (j + 1)) c in
        let inner = check_stmts_sites (in_loop a w c) (j + 1) l in
        let lower = all_front M (front ++ schemes) inner m in
        let label = if-checked named w (OwnWord Own) (λ x g. declared-own a x g.0) (all_front M front schemes lower).1 in
        let one = if_there (λ (x : Word). site s (labels x) ∷ []) w in
        let two = if_there (scheme_sites s) c in
        let three = stmts_sites (loop_scope s c) l in (
          tt,
          label,
          schemes-own s a r (k + 1) c (j + 1) (all_back IsFit one two (all_front IsFit (one ++ two) three h)) (all_back M front schemes lower),
          some-of (k + 1) l
              (stmts-own l (loop_scope s c) (in_loop a w c) (k + 1) (j + 1) (loop-around w c s a label (parameter-own s a r c (j + 1) (all_back M front schemes lower)) r)
              (all_back IsFit (one ++ two) three h) (all_back M (front ++ schemes) inner m)),
        )

    stmts-own : (l : PStmts) (s : Scope) (a : CheckScope) (k j : ℕ) → Around Own s a → AllByRecursion IsFit (stmts_sites s l) → AllByRecursion M (check_stmts_sites a j l) → EveryStmts R k l
    stmts-own no_stmt s a k j r h m = tt
    stmts-own (stmt_then x l) s a k j r h m = (
      stmt-own x s a k j r (all_front IsFit (stmt_sites s x) (stmts_sites s l) h) (all_front M (check_stmt_sites a j x) (check_stmts_sites a j l) m),
      stmts-own l s a k j r (all_back IsFit (stmt_sites s x) (stmts_sites s l) h) (all_back M (check_stmt_sites a j x) (check_stmts_sites a j l) m),
    )

    maybe-own : (o : PMaybe) (s : Scope) (a : CheckScope) (k j : ℕ) → Around Own s a → AllByRecursion IsFit (maybe_sites s o) → AllByRecursion M (check_maybe_sites a j o) → EveryMaybe R k o
    maybe-own absent s a k j r h m = tt
    maybe-own (present l) s a k j r h m = some-of k l (stmts-own l s a k j r h m)

    accept-own : (x : PAccept) (s : Scope) (a : CheckScope) (k j : ℕ) → Around Own s a → AllByRecursion IsFit (accept_sites s x) → AllByRecursion M (check_accept_sites a j x) → EveryAccept R k x
    accept-own (accepting x o) s a k j r h m =
        let inner = maybe_sites (with_formals (inner_scope s) x.formals) o in
        let check = check_maybe_sites (in_accept a x) (j + 1) o in
        let head = all_front M (check_head_sites a j x) check m in (
          tt,
          head-own s a r k j x (all_front IsFit (head_sites s x) inner h) head,
          maybe-own o (with_formals (inner_scope s) x.formals) (in_accept a x) (k + 1) (j + 1) (accept-around x s a (head-words s a r j x head) r)
              (all_back IsFit (head_sites s x) inner h) (all_back M (check_head_sites a j x) check m),
        )

    alts-own : (l : PAlts) (s : Scope) (a : CheckScope) (k j : ℕ) → Around Own s a → AllByRecursion IsFit (alts_sites s l) → AllByRecursion M (check_alts_sites a j l) → EveryAlts R k l
    alts-own no_alt s a k j r h m = tt
    alts-own (alt_then (alternative g x sp) l) s a k j r h m =
        let guard = if_there (condition_sites s) g in
        let one = stands a j sp ∷ check_if_there (check_expr_sites a (j + 1)) g in
        let two = check_alt_sites a (j + 1) g sp x in
        let lower = all_front IsFit (guard ++ alt_sites s x) (alts_sites s l) h in (
          (
            tt,
            if-met (condition_sites s) g (EveryExpr R (k + 1)) (λ e f. expr-of-own Own first s r.names (k + 1) (Some truth_kind) e f) (all_front IsFit guard (alt_sites s x) lower),
            alt-own x g sp s a (k + 1) (j + 1) r (all_back IsFit guard (alt_sites s x) lower) (all_back M one two (all_front M (one ++ two) (check_alts_sites a j l) m)),
          ),
          alts-own l s a k j r (all_back IsFit (guard ++ alt_sites s x) (alts_sites s l) h) (all_back M (one ++ two) (check_alts_sites a j l) m),
        )

    alt-own : (x : PAltKind) (g : Option PExpr) (sp : Span) (s : Scope) (a : CheckScope) (k j : ℕ) → Around Own s a → AllByRecursion IsFit (alt_sites s x) → AllByRecursion M (check_alt_sites a j g sp x) → EveryAltKind R k x
    alt-own (AAccept x l) g sp s a k j r h m = (
      accept-own x s a k j r (all_front IsFit (accept_sites s x) (stmts_sites s l) h) (all_front M (check_accept_sites a j x) (check_stmts_sites a j l) m),
      stmts-own l s a k j r (all_back IsFit (accept_sites s x) (stmts_sites s l) h) (all_back M (check_accept_sites a j x) (check_stmts_sites a j l) m),
    )
    alt-own (ADelay d l) g sp s a k j r h m = (tt, tt, stmts-own l s a k j r h (all_back M (delay_sites a j g sp) (check_stmts_sites a j l) m))
    alt-own ATerminate g sp s a k j r h m = tt

    arms-own : (l : PArms) (s : Scope) (a : CheckScope) (k j : ℕ) → Around Own s a → AllByRecursion IsFit (arms_sites s l) → AllByRecursion M (check_arms_sites a j l) → EveryArms R k l
    arms-own no_arm s a k j r h m = tt
    arms-own (arm_then (arm e l) rest) s a k j r h m =
        let lower = all_front IsFit (condition_sites s e ++ stmts_sites s l) (arms_sites s rest) h in
        let check = check_expr_sites a j e in (
          (
            expr-of-own Own first s r.names k (Some truth_kind) e (all_front IsFit (condition_sites s e) (stmts_sites s l) lower),
            some-of k l
                (stmts-own l s a k j r (all_back IsFit (condition_sites s e) (stmts_sites s l) lower)
                (all_back M check (check_stmts_sites a j l) (all_front M (check ++ check_stmts_sites a j l) (check_arms_sites a j rest) m))),
          ),
          arms-own rest s a k j r (all_back IsFit (condition_sites s e ++ stmts_sites s l) (arms_sites s rest) h) (all_back M (check ++ check_stmts_sites a j l) (check_arms_sites a j rest) m),
        )

    case-arms-own : (l : PCaseArms) (s : Scope) (a : CheckScope) (k j : ℕ) (o : Option ℕ) (range : Option Range) → Around Own s a → AllByRecursion IsFit (case_arms_sites s o range l) → AllByRecursion M (check_case_arms_sites a j l) → EveryCaseArms R k l
    case-arms-own no_case_arm s a k j o range r h m = tt
    case-arms-own (case_arm_then (case_arm cs l) rest) s a k j o range r h m =
        let choices = flat_map (choice_sites s o range) cs in
        let behind = case_arms_sites s o range rest in
        let lower = all_front IsFit (choices ++ stmts_sites s l) behind h in
        let check = flat_map (check_choice_sites a j) cs in (
          (
            tt,
            choices-own Own first s r.names k o range cs (all_front IsFit choices (stmts_sites s l) lower),
            some-of k l
                (stmts-own l s a k j r (all_back IsFit choices (stmts_sites s l) lower)
                (all_back M check (check_stmts_sites a j l) (all_front M (check ++ check_stmts_sites a j l) (check_case_arms_sites a j rest) m))),
          ),
          case-arms-own rest s a k j o range r (all_back IsFit (choices ++ stmts_sites s l) behind h) (all_back M (check ++ check_stmts_sites a j l) (check_case_arms_sites a j rest) m),
        )

    pub body-own : (b : PBody) (s : Scope) (a : CheckScope) (k j : ℕ) → Around Own s a → AllByRecursion IsFit (body_sites s b) → AllByRecursion M (check_body_sites a j b) → EveryBody R k b
    body-own (body l hs) s a k j r h m = (
      some-of k l (stmts-own l s a k j r (all_front IsFit (stmts_sites s l) (handlers_sites s [] hs) h) (all_front M (check_stmts_sites a j l) (check_handlers_sites a j hs) m)),
      tt,
      handlers-own hs s a k j [] r (all_back IsFit (stmts_sites s l) (handlers_sites s [] hs) h) (all_back M (check_stmts_sites a j l) (check_handlers_sites a j hs) m),
    )

    handlers-own : (l : PHandlers) (s : Scope) (a : CheckScope) (k j : ℕ) (before : List ℕ) → Around Own s a → AllByRecursion IsFit (handlers_sites s before l) → AllByRecursion M (check_handlers_sites a j l) → EveryHandlers R k l
    handlers-own no_handler s a k j before r h m = tt
    handlers-own (handler_then (handler ws l sp) rest) s a k j before r h m =
        let raised = handler_names_sites s before ws in
        let behind = handlers_sites s (with_words before ws) rest in
        let lower = all_front IsFit (raised ++ stmts_sites s l) behind h in
        let one = stands a j sp ∷ check_stmts_sites (handling a) (j + 1) l in (
          (
            tt,
            All-from_recursion (EveryWord R) ws (raised-list s a r before ws (all_front IsFit raised (stmts_sites s l) lower)),
            some-of (k + 1) l
                (stmts-own l s (handling a) (k + 1) (j + 1) record { names = r.names; own = r.own; loops = r.loops; types = r.types; main = r.main }
                (all_back IsFit raised (stmts_sites s l) lower) (all_front M one (check_handlers_sites a j rest) m).1),
          ),
          handlers-own rest s a k j (with_words before ws) r (all_back IsFit (raised ++ stmts_sites s l) behind h) (all_back M one (check_handlers_sites a j rest) m),
        )
