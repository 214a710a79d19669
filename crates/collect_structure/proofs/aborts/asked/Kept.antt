-- The rewriter of a collecting text of a program with abort statements puts nothing in front of a wait, keeps the choices of a case statement and whether there are others, and passes by no fewer places.
use Rattle.std.proofs.Common.{◌≡◌, ℕ, ◌+◌, ◌++◌, refl, ap, arith}
use Rattle.ada_tree.specs.PlainStmt.{no_stmt, PMaybe, absent, present, alternative, AAccept, ADelay, ATerminate, PAlts, no_alt, alt_then, PCaseArms, no_case_arm, case_arm_then, case_arm}
use Rattle.ada_tree.specs.Every.{alts_count, arms_count}
use Rattle.ada_tree.specs.declared.naming.Span.{Span}
use Rattle.ada_static_rules.specs.Sites.{arm_choices, is_present}
use Rattle.normal_model.specs.Walk.{after_stmts, after_kind, alts_leads, inside_maybe, inside_alts, inside_case_arms}
use Rattle.collect_model.specs.aborts.AbortTeller.{AbortTeller}
use Rattle.collect_model.specs.aborts.Waiting.{behind_alternatives, branches}
use Rattle.collect_model.specs.aborts.AbortStmts.{abort_rewriter}
use Rattle.collect_structure.specs.aborts.asked.Pieces.{branches_count}

pub no-leads : (x : AbortTeller) (y : PAlts) (t : ℕ) → alts_leads (abort_rewriter x) y t ≡ no_stmt
no-leads x no_alt t = refl
no-leads x (alt_then (alternative g k s) l) t = no-leads x l (after_kind (abort_rewriter x) k t)

pub present-kept : (x : AbortTeller) (o : PMaybe) (t : ℕ) → is_present (inside_maybe (abort_rewriter x) o t) ≡ is_present o
present-kept x absent t = refl
present-kept x (present l) t = refl

pub choices-kept : (x : AbortTeller) (y : PCaseArms) (t : ℕ) → arm_choices (inside_case_arms (abort_rewriter x) y t) ≡ arm_choices y
choices-kept x no_case_arm t = refl
choices-kept x (case_arm_then (case_arm cs l) rest) t = ap (λ xs. cs ++ xs) (choices-kept x rest (after_stmts (abort_rewriter x) l t))

-- ---- waits

-- the else part has the number behind those of the alternatives
pub behind-all : (x : AbortTeller) (y : PAlts) (t j : ℕ) → behind_alternatives (inside_alts (abort_rewriter x) y t) j ≡ j + alts_count y
behind-all x no_alt t j = omega arith
behind-all x (alt_then (alternative g k s) l) t j = let e = behind-all x l (after_kind (abort_rewriter x) k t) (j + 1) in omega (arith, e)

-- the branches behind a wait
pub branches-kept : (x : AbortTeller) (s : Span) (p : ℕ) (y : PAlts) (o : PMaybe) (t t' j : ℕ) →
    arms_count (branches x s p (inside_alts (abort_rewriter x) y t) (inside_maybe (abort_rewriter x) o t') j) ≡ branches_count y (is_present o)
branches-kept x s p no_alt absent t t' j = refl
branches-kept x s p no_alt (present l) t t' j = refl
branches-kept x s p (alt_then (alternative g (AAccept a l) r) rest) o t t' j = ap (λ n. 1 + n) (branches-kept x s p rest o (after_kind (abort_rewriter x) (AAccept a l) t) t' (j + 1))
branches-kept x s p (alt_then (alternative g (ADelay d l) r) rest) o t t' j = ap (λ n. 1 + n) (branches-kept x s p rest o (after_kind (abort_rewriter x) (ADelay d l) t) t' (j + 1))
branches-kept x s p (alt_then (alternative g ATerminate r) rest) o t t' j = branches-kept x s p rest o t t' (j + 1)
