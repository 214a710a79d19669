-- What is refused first in a statement, by what is refused first in its parts and in the statements in it.
use Rattle.std.specs.Prelude.{ℕ, ◌+◌, [], ◌∷◌, ◌++◌, flat_map, Option, None}
use Rattle.ada_tree.specs.declared.naming.Span.{Span}
use Rattle.ada_tree.specs.PlainExpr.{PExpr}
use Rattle.ada_tree.specs.PlainStmt.{PAccept, accepting, PStmt, SNull, SAssign, SDelay, SExit, SRaise, SAbort, SCall, SAccept, SWait, SConditional, STimed, SPut, SPutLine, SNewLine, SGet, SIf, SCase, SBlock, SLoop, PAlt, alternative, PAltKind, AAccept, ADelay, ATerminate, PArm, arm, PCaseArm, case_arm, body, PHandler, handler}
use Rattle.ada_static_rules.specs.Sites.{is_present}
use Rattle.syn_event.specs.declared.limits.What.TheVariants.{Alternatives}
use Rattle.syn_event.specs.CheckRefusals.{CheckRefusal}
use Rattle.syn_event.specs.CheckScope.{CheckScope, declares, waits, exits}
use Rattle.syn_event.specs.CheckSites.{site, if_there, numbered, alt_places, in_accept, in_loop, handling, expr_sites, target_sites, aborted_sites, call_sites, select_sites, part_sites, choice_sites, scheme_sites, head_sites, delay_sites, raise_sites, stmts_sites, maybe_sites, alts_sites, arms_sites, case_arms_sites, handlers_sites}
use Rattle.ada_check_rules.specs.rules.Sooner.{sooner}
use Rattle.ada_check_rules.specs.rules.RefusedFirst.{Standard, refused_first_at, refused_first}
use Rattle.ada_check_places.specs.parts.inner.WalkedExpr.{deep}

-- ---- what a statement asks itself

-- how deep a statement stands; that is asked at the head of an accept
abbrev pub depth_met : Standard → CheckScope → ℕ → PStmt → Option CheckRefusal
depth_met by around k (SNull s) = deep by around k s
depth_met by around k (SAssign t e s) = deep by around k s
depth_met by around k (SDelay d s) = deep by around k s
depth_met by around k (SExit w e s) = deep by around k s
depth_met by around k (SRaise w s) = deep by around k s
depth_met by around k (SAbort cs s) = deep by around k s
depth_met by around k (SCall c s) = deep by around k s
depth_met by around k (SAccept a s) = None
depth_met by around k (SWait x o s) = deep by around k s
depth_met by around k (SConditional c b o s) = deep by around k s
depth_met by around k (STimed c b d a s) = deep by around k s
depth_met by around k (SPut ps s) = deep by around k s
depth_met by around k (SPutLine ps s) = deep by around k s
depth_met by around k (SNewLine s) = deep by around k s
depth_met by around k (SGet t s) = deep by around k s
depth_met by around k (SIf x o s) = deep by around k s
depth_met by around k (SCase e x o s) = deep by around k s
depth_met by around k (SBlock b s) = deep by around k s
depth_met by around k (SLoop w c l s) = deep by around k s

-- the parts, of that nesting, of a statement in which no statements stand
abbrev pub simple_met : Standard → CheckScope → ℕ → PStmt → Option CheckRefusal
simple_met by around k (SAssign t e s) = refused_first by (target_sites around k t ++ expr_sites around k e)
simple_met by around k (SExit w e s) = sooner (refused_first_at by around (exits w s)) (refused_first by (if_there (expr_sites around k) e))
simple_met by around k (SRaise w s) = refused_first by (raise_sites around w s)
simple_met by around k (SAbort cs s) = refused_first by (aborted_sites around k cs)
simple_met by around k (SCall c s) = refused_first by (call_sites around k c)
simple_met by around k (SPut ps s) = refused_first by (flat_map (part_sites around k) ps)
simple_met by around k (SPutLine ps s) = refused_first by (flat_map (part_sites around k) ps)
simple_met by around k (SGet t s) = refused_first by (target_sites around k t)
simple_met by around k _ = None

-- an accept without its statements
abbrev pub accept_own_met : Standard → CheckScope → ℕ → PAccept → Option CheckRefusal
accept_own_met by around k (accepting h o) = refused_first by (head_sites around k h)

-- what stands in a statement of that nesting before the statements in it
abbrev pub before_met : Standard → CheckScope → ℕ → PStmt → Option CheckRefusal
before_met by around k (SAccept a s) = accept_own_met by around k a
before_met by around k (SWait x o s) = refused_first by (site around (waits x (is_present o) s) ∷ numbered around Alternatives 0 (alt_places x))
before_met by around k (SConditional c b o s) = refused_first by (select_sites around k c)
before_met by around k (STimed c b d a s) = refused_first by (select_sites around k c)
before_met by around k (SCase e x o s) = refused_first by (expr_sites around (k + 1) e)
before_met by around k (SLoop w c l s) = sooner (refused_first by (if_there (λ x. site around (declares x) ∷ []) w)) (refused_first by (if_there (scheme_sites around (k + 1)) c))
before_met by around k _ = None

abbrev pub own_met : Standard → CheckScope → ℕ → PStmt → Option CheckRefusal
own_met by around k x = sooner (depth_met by around k x) (sooner (simple_met by around (k + 1) x) (before_met by around k x))

-- ---- the statements in a statement

-- the statements of an accept
abbrev pub within_met : Standard → CheckScope → ℕ → PAccept → Option CheckRefusal
within_met by around k (accepting h o) = refused_first by (maybe_sites (in_accept around h) (k + 1) o)

-- those that come first in it
abbrev pub inner_met : Standard → CheckScope → ℕ → PStmt → Option CheckRefusal
inner_met by around k (SAccept a s) = within_met by around k a
inner_met by around k (SWait x o s) = refused_first by (alts_sites around (k + 1) x)
inner_met by around k (SConditional c b o s) = refused_first by (stmts_sites around (k + 1) b)
inner_met by around k (STimed c b d a s) = refused_first by (stmts_sites around (k + 1) b)
inner_met by around k (SIf x o s) = refused_first by (arms_sites around (k + 1) x)
inner_met by around k (SCase e x o s) = refused_first by (case_arms_sites around (k + 1) x)
inner_met by around k (SBlock (body l hs) s) = refused_first by (stmts_sites around (k + 1) l)
inner_met by around k (SLoop w c l s) = refused_first by (stmts_sites (in_loop around w c) (k + 1) l)
inner_met by around k _ = None

-- those behind them: of an else part, of a delay, for other choices, of handlers
abbrev pub rest_met : Standard → CheckScope → ℕ → PStmt → Option CheckRefusal
rest_met by around k (SWait x o s) = refused_first by (maybe_sites around (k + 1) o)
rest_met by around k (SConditional c b o s) = refused_first by (stmts_sites around (k + 1) o)
rest_met by around k (STimed c b d a s) = refused_first by (stmts_sites around (k + 1) a)
rest_met by around k (SIf x o s) = refused_first by (maybe_sites around (k + 1) o)
rest_met by around k (SCase e x o s) = refused_first by (maybe_sites around (k + 1) o)
rest_met by around k (SBlock (body l hs) s) = refused_first by (handlers_sites around (k + 1) hs)
rest_met by around k _ = None

abbrev pub stmt_met : Standard → CheckScope → ℕ → PStmt → Option CheckRefusal
stmt_met by around k x = sooner (own_met by around k x) (sooner (inner_met by around k x) (rest_met by around k x))

-- ---- members of lists

-- what an alternative of that guard and place asks itself
abbrev pub kind_own_met : Standard → CheckScope → ℕ → Option PExpr → Span → PAltKind → Option CheckRefusal
kind_own_met by around k g s (AAccept a l) = accept_own_met by around k a
kind_own_met by around k g s (ADelay d l) = refused_first by (delay_sites around k g s)
kind_own_met by around k g s ATerminate = None

abbrev pub alt_own_met : Standard → CheckScope → ℕ → PAlt → Option CheckRefusal
alt_own_met by around k (alternative g x s) = sooner (deep by around k s) (sooner (refused_first by (if_there (expr_sites around (k + 1)) g)) (kind_own_met by around (k + 1) g s x))

-- the statements in an alternative
abbrev pub kind_met : Standard → CheckScope → ℕ → PAltKind → Option CheckRefusal
kind_met by around k (AAccept a l) = sooner (within_met by around k a) (refused_first by (stmts_sites around k l))
kind_met by around k (ADelay d l) = refused_first by (stmts_sites around k l)
kind_met by around k ATerminate = None

abbrev pub alt_met : Standard → CheckScope → ℕ → PAlt → Option CheckRefusal
alt_met by around k (alternative g x s) = sooner (alt_own_met by around k (alternative g x s)) (kind_met by around (k + 1) x)

abbrev pub arm_met : Standard → CheckScope → ℕ → PArm → Option CheckRefusal
arm_met by around k (arm e l) = sooner (refused_first by (expr_sites around k e)) (refused_first by (stmts_sites around k l))

abbrev pub case_arm_met : Standard → CheckScope → ℕ → PCaseArm → Option CheckRefusal
case_arm_met by around k (case_arm choices l) = sooner (refused_first by (flat_map (choice_sites around k) choices)) (refused_first by (stmts_sites around k l))

abbrev pub handler_met : Standard → CheckScope → ℕ → PHandler → Option CheckRefusal
handler_met by around k (handler ws l s) = sooner (deep by around k s) (refused_first by (stmts_sites (handling around) (k + 1) l))
