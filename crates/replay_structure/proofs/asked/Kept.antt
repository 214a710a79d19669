-- The rewriter of a replay text keeps its unit, puts nothing in front of a wait, and keeps the choices of a case statement, whether there are others,
-- and the delay alternatives of a wait.
use Rattle.std.proofs.Common.{◌≡◌, ◌∷◌, ◌++◌, refl, ap}
use Rattle.ada_tree.specs.PlainStmt.{PStmt, PStmts, no_stmt, PMaybe, absent, present, PAccept, alternative, PAltKind, AAccept, ADelay, ATerminate, PAlts, no_alt, alt_then, PArms, PCaseArms, no_case_arm, case_arm_then, case_arm}
use Rattle.ada_static_rules.specs.Sites.{arm_choices, is_present}
use Rattle.normal_model.specs.Walk.{Rewriter, after_parts, after_stmts, after_maybe, after_accept, after_kind, after_alts, after_arms, after_case_arms, alts_leads, inside_maybe, inside_case_arms, inside_alts}
use Rattle.normal_model.specs.RewrittenUnit.{RewrittenUnit}
use Rattle.normal_laws.proofs.structure.types.Walking as walking
use Rattle.replay_model.specs.Waiting.{pauses_of}
use Rattle.replay_model.specs.ReplayStmts.{replay_rewriter}

abbrev r : Rewriter RewrittenUnit
r = replay_rewriter

-- ---- the unit

pub still_parts : (x : PStmt) (t : RewrittenUnit) → after_parts r x t ≡ t
still_parts x t = walking.parts-keep r r (λ v w. v ≡ t) (λ v w y h. h) (λ v w y h. h) x t t refl

pub still_stmts : (l : PStmts) (t : RewrittenUnit) → after_stmts r l t ≡ t
still_stmts l t = walking.stmts-keep r r (λ v w. v ≡ t) (λ v w y h. h) (λ v w y h. h) l t t refl

pub still_maybe : (o : PMaybe) (t : RewrittenUnit) → after_maybe r o t ≡ t
still_maybe o t = walking.maybe-keeps r r (λ v w. v ≡ t) (λ v w y h. h) (λ v w y h. h) o t t refl

pub still_accept : (a : PAccept) (t : RewrittenUnit) → after_accept r a t ≡ t
still_accept a t = walking.accept-keeps r r (λ v w. v ≡ t) (λ v w y h. h) (λ v w y h. h) a t t refl

pub still_kind : (x : PAltKind) (t : RewrittenUnit) → after_kind r x t ≡ t
still_kind x t = walking.kind-keeps r r (λ v w. v ≡ t) (λ v w y h. h) (λ v w y h. h) x t t refl

pub still_alts : (x : PAlts) (t : RewrittenUnit) → after_alts r x t ≡ t
still_alts x t = walking.alts-keep r r (λ v w. v ≡ t) (λ v w y h. h) (λ v w y h. h) x t t refl

pub still_arms : (x : PArms) (t : RewrittenUnit) → after_arms r x t ≡ t
still_arms x t = walking.arms-keep r r (λ v w. v ≡ t) (λ v w y h. h) (λ v w y h. h) x t t refl

pub still_case_arms : (x : PCaseArms) (t : RewrittenUnit) → after_case_arms r x t ≡ t
still_case_arms x t = walking.case_arms-keep r r (λ v w. v ≡ t) (λ v w y h. h) (λ v w y h. h) x t t refl

-- ---- what is kept

pub no-leads : (x : PAlts) (t : RewrittenUnit) → alts_leads r x t ≡ no_stmt
no-leads no_alt t = refl
no-leads (alt_then (alternative g x s) l) t = no-leads l (after_kind r x t)

pub present-kept : (o : PMaybe) (t : RewrittenUnit) → is_present (inside_maybe r o t) ≡ is_present o
present-kept absent t = refl
present-kept (present l) t = refl

pub choices-kept : (x : PCaseArms) (t : RewrittenUnit) → arm_choices (inside_case_arms r x t) ≡ arm_choices x
choices-kept no_case_arm t = refl
choices-kept (case_arm_then (case_arm cs l) rest) t = ap (λ xs. cs ++ xs) (choices-kept rest (after_stmts r l t))

pub pauses-kept : (x : PAlts) (t : RewrittenUnit) → pauses_of (inside_alts r x t) ≡ pauses_of x
pauses-kept no_alt t = refl
pauses-kept (alt_then (alternative g (AAccept a l) s) rest) t = pauses-kept rest (after_stmts r l (after_accept r a t))
pauses-kept (alt_then (alternative g (ADelay d l) s) rest) t = ap (λ ps. record { duration = d; guard = g } ∷ ps) (pauses-kept rest (after_stmts r l t))
pauses-kept (alt_then (alternative g ATerminate s) rest) t = pauses-kept rest t
