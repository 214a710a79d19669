-- What is refused first in a statement, or in a member of a list of the tree, is what is refused first at its places.
use Rattle.std.specs.Prelude.{◌≡◌, ℕ, ◌+◌, List, [], ◌∷◌, ◌++◌, map, flat_map, Option, None, refl}
use Rattle.std.proofs.Common.{sym, ap, ◌∙◌}
use Rattle.ada_tree.specs.declared.naming.Span.{Span}
use Rattle.ada_tree.specs.PlainExpr.{PExpr, plain_expr}
use Rattle.ada_tree.specs.declared.statements.Stmt.{Stmt}
use Rattle.ada_tree.specs.declared.statements.CaseChoice.{CaseChoice}
use Rattle.ada_tree.specs.declared.statements.Arm.{Arm, out-Arm}
use Rattle.ada_tree.specs.declared.statements.CaseArm.{CaseArm, out-CaseArm}
use Rattle.ada_tree.specs.declared.statements.Handler.{Handler, out-Handler}
use Rattle.ada_tree.specs.PlainStmt.{plain_stmt, plain_arm, plain_case_arm, plain_choice, plain_handler, stmts_of, accepting, PStmt, SNull, SAssign, SDelay, SExit, SRaise, SAbort, SCall, SAccept, SWait, SConditional, STimed, SPut, SPutLine, SNewLine, SGet, SIf, SCase, SBlock, SLoop, PStmts, stmt_then, PAlt, PAlts, alt_then, alternative, PAltKind, AAccept, ADelay, ATerminate, PArm, PArms, arm_then, arm, PCaseArm, PCaseArms, case_arm_then, case_arm, body, PHandler, PHandlers, handler_then, handler}
use Rattle.ada_static_rules.specs.Sites.{is_present}
use Rattle.ada_tree.proofs.Rows.{plain_arm-out, plain_case_arm-out, plain_handler-out}
use Rattle.syn_event.specs.declared.limits.What.TheVariants.{Nesting, Alternatives}
use Rattle.syn_event.specs.CheckRefusals.{CheckRefusal}
use Rattle.syn_event.specs.CheckScope.{CheckScope, CheckSite, declares, waits, exits, counts}
use Rattle.syn_event.specs.CheckSites.{site, stands, if_there, numbered, alt_places, in_accept, in_loop, handling, expr_sites, target_sites, aborted_sites, call_sites, select_sites, part_sites, choice_sites, scheme_sites, head_sites, delay_sites, raise_sites, stmt_sites, stmts_sites, maybe_sites, alts_sites, alt_sites, arms_sites, case_arms_sites, handlers_sites}
use Rattle.ada_check_rules.specs.rules.Sooner.{sooner}
use Rattle.ada_check_rules.specs.rules.RefusedFirst.{Standard, refused_first}
use Rattle.ada_check_places.specs.parts.inner.WalkedExpr.{deep}
use Rattle.ada_check_places.specs.statements.inner.Walked.{kind_own_met, kind_met, alt_met, arm_met, case_arm_met, handler_met, stmt_met}
use Rattle.ada_check_rules.proofs.rules.SoonerLaws.{sooner_assoc, sooner_none}
use Rattle.ada_check_rules.proofs.rules.Meeting.{met_none, met_cons, met_append, before, joined}
use Rattle.ada_check_places.proofs.parts.Walking.{under, alone}

-- places behind others, in one list with those that come before
three : (by : Standard) (xs ys zs : List CheckSite) → refused_first by (xs ++ ys ++ zs) ≡ sooner (refused_first by xs) (sooner (refused_first by ys) (refused_first by zs))
three by xs ys zs = met_append by (xs ++ ys) zs ∙ ap (λ o. sooner o (refused_first by zs)) (met_append by xs ys) ∙ sooner_assoc (refused_first by xs) (refused_first by ys) (refused_first by zs)

-- ---- one member more of a list

pub arms_next : (by : Standard) (around : CheckScope) (k : ℕ) (x : PArm) (l : PArms) → refused_first by (arms_sites around k (arm_then x l)) ≡ sooner (arm_met by around k x) (refused_first by (arms_sites around k l))
arms_next by around k (arm e l) rest =
    three by (expr_sites around k e) (stmts_sites around k l) (arms_sites around k rest) ∙ sym (sooner_assoc (refused_first by (expr_sites around k e)) (refused_first by (stmts_sites around k l)) (refused_first by (arms_sites around k rest)))

pub case_arms_next : (by : Standard) (around : CheckScope) (k : ℕ) (x : PCaseArm) (l : PCaseArms) → refused_first by (case_arms_sites around k (case_arm_then x l)) ≡ sooner (case_arm_met by around k x) (refused_first by (case_arms_sites around k l))
case_arms_next by around k (case_arm choices l) rest =
    three by (flat_map (choice_sites around k) choices) (stmts_sites around k l) (case_arms_sites around k rest)
    ∙ sym (sooner_assoc (refused_first by (flat_map (choice_sites around k) choices)) (refused_first by (stmts_sites around k l)) (refused_first by (case_arms_sites around k rest)))

pub handlers_next : (by : Standard) (around : CheckScope) (k : ℕ) (x : PHandler) (l : PHandlers) → refused_first by (handlers_sites around k (handler_then x l)) ≡ sooner (handler_met by around k x) (refused_first by (handlers_sites around k l))
handlers_next by around k (handler ws l s) rest =
    met_cons by around (counts Nesting 0 k s) (stmts_sites (handling around) (k + 1) l ++ handlers_sites around k rest)
    ∙ ap (sooner (deep by around k s)) (met_append by (stmts_sites (handling around) (k + 1) l) (handlers_sites around k rest))
    ∙ sym (sooner_assoc (deep by around k s) (refused_first by (stmts_sites (handling around) (k + 1) l)) (refused_first by (handlers_sites around k rest)))

alt_parts : (by : Standard) (around : CheckScope) (k : ℕ) (g : Option PExpr) (s : Span) (x : PAltKind) → refused_first by (alt_sites around k g s x) ≡ sooner (kind_own_met by around k g s x) (kind_met by around k x)
alt_parts by around k g s (AAccept (accepting h o) l) = three by (head_sites around k h) (maybe_sites (in_accept around h) (k + 1) o) (stmts_sites around k l)
alt_parts by around k g s (ADelay d l) = met_append by (delay_sites around k g s) (stmts_sites around k l)
alt_parts by around k g s ATerminate = met_none by

-- what an alternative asks itself, the statements in it, and the alternatives behind it
regrouped : (a b c d e : Option CheckRefusal) → sooner a (sooner b (sooner (sooner c d) e)) ≡ sooner (sooner (sooner a (sooner b c)) d) e
regrouped a b c d e =
    ap (λ o. sooner a (sooner b o)) (sooner_assoc c d e)
    ∙ ap (sooner a) (sym (sooner_assoc b c (sooner d e)))
    ∙ sym (sooner_assoc a (sooner b c) (sooner d e))
    ∙ sym (sooner_assoc (sooner a (sooner b c)) d e)

pub alts_next : (by : Standard) (around : CheckScope) (k : ℕ) (x : PAlt) (l : PAlts) → refused_first by (alts_sites around k (alt_then x l)) ≡ sooner (alt_met by around k x) (refused_first by (alts_sites around k l))
alts_next by around k (alternative g x s) rest =
    met_cons by around (counts Nesting 0 k s) (if_there (expr_sites around (k + 1)) g ++ alt_sites around (k + 1) g s x ++ alts_sites around k rest)
    ∙ ap (sooner (deep by around k s)) (three by (if_there (expr_sites around (k + 1)) g) (alt_sites around (k + 1) g s x) (alts_sites around k rest))
    ∙ ap (λ o. sooner (deep by around k s) (sooner (refused_first by (if_there (expr_sites around (k + 1)) g)) (sooner o (refused_first by (alts_sites around k rest))))) (alt_parts by around (k + 1) g s x)
    ∙ regrouped (deep by around k s) (refused_first by (if_there (expr_sites around (k + 1)) g)) (kind_own_met by around (k + 1) g s x) (kind_met by around (k + 1) x) (refused_first by (alts_sites around k rest))

-- ---- statements

-- a statement that asks nothing but how deep it stands
only : (a : Option CheckRefusal) → sooner (sooner a None) None ≡ a
only a = sooner_none (sooner a None) ∙ sooner_none a

-- a statement with parts, but without statements in it
parts_only : (a b : Option CheckRefusal) → sooner (sooner a (sooner b None)) None ≡ sooner a b
parts_only a b = sooner_none (sooner a (sooner b None)) ∙ ap (sooner a) (sooner_none b)

-- a statement with what stands before the statements in it, and two lists of those
pub both : (by : Standard) (xs ys zs : List CheckSite) (a : Option CheckRefusal) → a ≡ refused_first by xs → sooner a (sooner (refused_first by ys) (refused_first by zs)) ≡ refused_first by (xs ++ ys ++ zs)
both by xs ys zs a h = ap (λ o. sooner o (sooner (refused_first by ys) (refused_first by zs))) h ∙ sym (three by xs ys zs)

-- the same with one list
one : (by : Standard) (xs ys : List CheckSite) (a : Option CheckRefusal) → a ≡ refused_first by xs → sooner a (sooner (refused_first by ys) None) ≡ refused_first by (xs ++ ys)
one by xs ys a h = ap (sooner a) (sooner_none (refused_first by ys)) ∙ joined by xs ys a (refused_first by ys) h refl

-- how deep a statement stands, and what stands before the statements in it
headed : (by : Standard) (around : CheckScope) (k : ℕ) (s : Span) (xs : List CheckSite) → sooner (deep by around k s) (refused_first by xs) ≡ refused_first by (stands around k s ∷ xs)
headed by around k s xs = under by around k s xs _ refl

bare : (by : Standard) (around : CheckScope) (k : ℕ) (s : Span) → sooner (deep by around k s) None ≡ refused_first by (stands around k s ∷ [])
bare by around k s = sooner_none (deep by around k s) ∙ alone by around k s

pub stmt_is_met : (by : Standard) (around : CheckScope) (k : ℕ) (x : PStmt) → stmt_met by around k x ≡ refused_first by (stmt_sites around k x)
stmt_is_met by around k (SNull s) = only (deep by around k s) ∙ alone by around k s
stmt_is_met by around k (SAssign t e s) = parts_only _ _ ∙ headed by around k s (target_sites around (k + 1) t ++ expr_sites around (k + 1) e)
stmt_is_met by around k (SDelay d s) = only (deep by around k s) ∙ alone by around k s
stmt_is_met by around k (SExit w e s) = parts_only _ _ ∙ under by around k s (site around (exits w s) ∷ if_there (expr_sites around (k + 1)) e) _ (before by around (exits w s) (if_there (expr_sites around (k + 1)) e) _ _ refl refl)
stmt_is_met by around k (SRaise w s) = parts_only _ _ ∙ headed by around k s (raise_sites around w s)
stmt_is_met by around k (SAbort cs s) = parts_only _ _ ∙ headed by around k s (aborted_sites around (k + 1) cs)
stmt_is_met by around k (SCall c s) = parts_only _ _ ∙ headed by around k s (call_sites around (k + 1) c)
stmt_is_met by around k (SAccept (accepting h o) s) = one by (head_sites around k h) (maybe_sites (in_accept around h) (k + 1) o) _ refl
stmt_is_met by around k (SWait x o s) =
    let form = site around (waits x (is_present o) s) ∷ numbered around Alternatives 0 (alt_places x) in
    both by (stands around k s ∷ form) (alts_sites around (k + 1) x) (maybe_sites around (k + 1) o) _ (headed by around k s form)
stmt_is_met by around k (SConditional c b o s) = both by (stands around k s ∷ select_sites around k c) (stmts_sites around (k + 1) b) (stmts_sites around (k + 1) o) _ (headed by around k s (select_sites around k c))
stmt_is_met by around k (STimed c b d a s) = both by (stands around k s ∷ select_sites around k c) (stmts_sites around (k + 1) b) (stmts_sites around (k + 1) a) _ (headed by around k s (select_sites around k c))
stmt_is_met by around k (SPut ps s) = parts_only _ _ ∙ headed by around k s (flat_map (part_sites around (k + 1)) ps)
stmt_is_met by around k (SPutLine ps s) = parts_only _ _ ∙ headed by around k s (flat_map (part_sites around (k + 1)) ps)
stmt_is_met by around k (SNewLine s) = only (deep by around k s) ∙ alone by around k s
stmt_is_met by around k (SGet t s) = parts_only _ _ ∙ headed by around k s (target_sites around (k + 1) t)
stmt_is_met by around k (SIf x o s) = both by (stands around k s ∷ []) (arms_sites around (k + 1) x) (maybe_sites around (k + 1) o) _ (bare by around k s)
stmt_is_met by around k (SCase e x o s) = both by (stands around k s ∷ expr_sites around (k + 1) e) (case_arms_sites around (k + 1) x) (maybe_sites around (k + 1) o) _ (headed by around k s (expr_sites around (k + 1) e))
stmt_is_met by around k (SBlock (body l hs) s) = both by (stands around k s ∷ []) (stmts_sites around (k + 1) l) (handlers_sites around (k + 1) hs) _ (bare by around k s)
stmt_is_met by around k (SLoop w c l s) =
    let label = if_there (λ x. site around (declares x) ∷ []) w in
    let scheme = if_there (scheme_sites around (k + 1)) c in
    one by (stands around k s ∷ label ++ scheme) (stmts_sites (in_loop around w c) (k + 1) l) _ (under by around k s (label ++ scheme) _ (sym (met_append by label scheme)))

pub stmt_next : (by : Standard) (around : CheckScope) (k : ℕ) (x : PStmt) (l : PStmts) → refused_first by (stmts_sites around k (stmt_then x l)) ≡ sooner (stmt_met by around k x) (refused_first by (stmts_sites around k l))
stmt_next by around k x l = met_append by (stmt_sites around k x) (stmts_sites around k l) ∙ ap (λ o. sooner o (refused_first by (stmts_sites around k l))) (sym (stmt_is_met by around k x))

-- ---- members of the declared lists

pub arm_told : (by : Standard) (around : CheckScope) (k : ℕ) (x : Arm) (vs : List Stmt) (a b r : Option CheckRefusal) → r ≡ sooner a b
    → a ≡ refused_first by (expr_sites around k (plain_expr (out-Arm x).test)) → b ≡ refused_first by (stmts_sites around k (stmts_of (map plain_stmt vs))) → vs ≡ (out-Arm x).stmts.items
    → r ≡ arm_met by around k (plain_arm x)
arm_told by around k x vs a b r is is_a is_b same =
    is
    ∙ ap (λ o. sooner o b) is_a
    ∙ ap (sooner (refused_first by (expr_sites around k (plain_expr (out-Arm x).test)))) (is_b ∙ ap (λ l. refused_first by (stmts_sites around k (stmts_of (map plain_stmt l)))) same)
    ∙ ap (arm_met by around k) (sym (plain_arm-out x))

pub case_arm_told : (by : Standard) (around : CheckScope) (k : ℕ) (x : CaseArm) (cs : List CaseChoice) (vs : List Stmt) (a b r : Option CheckRefusal) → r ≡ sooner a b
    → a ≡ refused_first by (flat_map (choice_sites around k) (map plain_choice cs)) → cs ≡ (out-CaseArm x).choices.items
    → b ≡ refused_first by (stmts_sites around k (stmts_of (map plain_stmt vs))) → vs ≡ (out-CaseArm x).stmts.items
    → r ≡ case_arm_met by around k (plain_case_arm x)
case_arm_told by around k x cs vs a b r is is_a same_choices is_b same =
    is
    ∙ ap (λ o. sooner o b) (is_a ∙ ap (λ l. refused_first by (flat_map (choice_sites around k) (map plain_choice l))) same_choices)
    ∙ ap (sooner (refused_first by (flat_map (choice_sites around k) (map plain_choice (out-CaseArm x).choices.items)))) (is_b ∙ ap (λ l. refused_first by (stmts_sites around k (stmts_of (map plain_stmt l)))) same)
    ∙ ap (case_arm_met by around k) (sym (plain_case_arm-out x))

pub handler_told : (by : Standard) (around now : CheckScope) (k n : ℕ) (x : Handler) (vs : List Stmt) (a b r : Option CheckRefusal) → r ≡ sooner a b
    → a ≡ deep by around k (out-Handler x).span → b ≡ refused_first by (stmts_sites now n (stmts_of (map plain_stmt vs))) → now ≡ handling around → n ≡ k + 1 → vs ≡ (out-Handler x).stmts.items
    → r ≡ handler_met by around k (plain_handler x)
handler_told by around now k n x vs a b r is is_a is_b inside deeper same =
    is
    ∙ ap (λ o. sooner o b) is_a
    ∙ ap (sooner (deep by around k (out-Handler x).span))
    (is_b
    ∙ ap (λ s. refused_first by (stmts_sites s n (stmts_of (map plain_stmt vs)))) inside
    ∙ ap (λ m. refused_first by (stmts_sites (handling around) m (stmts_of (map plain_stmt vs)))) deeper
    ∙ ap (λ l. refused_first by (stmts_sites (handling around) (k + 1) (stmts_of (map plain_stmt l)))) same)
    ∙ ap (handler_met by around k) (sym (plain_handler-out x))
