-- The rewriter of a collecting text puts nothing in front of a wait, and keeps the choices of a case statement and whether there are others.
use Rattle.std.proofs.Common.{◌≡◌, ℕ, ◌++◌, refl, ap}
use Rattle.ada_tree.specs.PlainStmt.{no_stmt, PMaybe, absent, present, alternative, PAlts, no_alt, alt_then, PCaseArms, no_case_arm, case_arm_then, case_arm}
use Rattle.ada_static_rules.specs.Sites.{arm_choices, is_present}
use Rattle.normal_model.specs.Walk.{after_stmts, after_kind, alts_leads, inside_maybe, inside_case_arms}
use Rattle.collect_model.specs.Teller.{Teller}
use Rattle.collect_model.specs.CollectStmts.{collect_rewriter}

pub no-leads : (x : Teller) (y : PAlts) (t : ℕ) → alts_leads (collect_rewriter x) y t ≡ no_stmt
no-leads x no_alt t = refl
no-leads x (alt_then (alternative g k s) l) t = no-leads x l (after_kind (collect_rewriter x) k t)

pub present-kept : (x : Teller) (o : PMaybe) (t : ℕ) → is_present (inside_maybe (collect_rewriter x) o t) ≡ is_present o
present-kept x absent t = refl
present-kept x (present l) t = refl

pub choices-kept : (x : Teller) (y : PCaseArms) (t : ℕ) → arm_choices (inside_case_arms (collect_rewriter x) y t) ≡ arm_choices y
choices-kept x no_case_arm t = refl
choices-kept x (case_arm_then (case_arm cs l) rest) t = ap (λ xs. cs ++ xs) (choices-kept x rest (after_stmts (collect_rewriter x) l t))
