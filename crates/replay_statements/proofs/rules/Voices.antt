-- What stands in the place of a statement by ids is what stands there by the definitions, where the ids are theirs.
use Rattle.std.proofs.Common.{◌≡◌, ℕ, ◌+◌, List, [], ◌∷◌, ◌++◌, refl, ap, ◌∙◌}
use Rattle.ada_tree.specs.declared.naming.Span.{Span}
use Rattle.ada_tree.specs.PlainStmt.{PStmt, SNull, SAssign, SDelay, SExit, SRaise, SAbort, SCall, SAccept, SWait, SConditional, STimed, SPut, SPutLine, SNewLine, SGet, SIf, SCase, SBlock, SLoop, stmt_then, PMaybe, absent, present, PAccept, accepting, alternative, AAccept, ADelay, ATerminate, PAlts, no_alt, alt_then, alts_of, PArm, arm, arm_then, arms_of}
use Rattle.task_model.specs.Frames.{in_front}
use Rattle.normal_model.specs.RewrittenUnit.{RewrittenUnit}
use Rattle.normal_model.specs.Waits.{head_of}
use Rattle.replay_model.specs.Serving as model_serving
use Rattle.replay_model.specs.Waiting.{Pause, pauses_of, and_guard, only_pause, alternative_branches}
use Rattle.replay_model.specs.Waiting as model_waiting
use Rattle.replay_model.specs.ReplayStmts.{replay_image}
use Rattle.replay_asking.specs.Spoken.{done, ask_which}
use Rattle.replay_asking.specs.Served.{permits_start, serve}
use Rattle.replay_statements.specs.waiting.Waited.{is_due, pause_alt, pause_alts, select_of, pausing, branch_of, branches, else_branch, wait_image}
use Rattle.replay_statements.specs.rules.Replayed.{call_image, choice_image, delay_image, image, alt_list}
use Rattle.replay_statements.specs.rules.Meant.{voice_in}

-- ---- accepts

serve-is : (u : RewrittenUnit) (s : Span) (a : PAccept) → serve (voice_in u) s a ≡ model_serving.serve u s a
serve-is u s (accepting head absent) = refl
serve-is u s (accepting head (present stmts)) = refl

-- ---- waits

pauses-is : (s : Span) (k : ℕ) (xs : List Pause) (n : ℕ) → alts_of (pause_alts s k xs n) ≡ only_pause s k xs n
pauses-is s k [] n = refl
pauses-is s k (x ∷ xs) n = ap (alt_then (pause_alt s k x n)) (pauses-is s k xs (n + 1))

pausing-is : (u : RewrittenUnit) (s : Span) (xs : List Pause) (k : ℕ) → pausing (voice_in u) s xs k ≡ model_waiting.pausing u s xs k
pausing-is u s xs k = ap (λ alts. select_of (voice_in u) s alts absent) (pauses-is s k xs 1)

branches-is :
    (u : RewrittenUnit) (pauses : List Pause) (others : List PArm) (alts : PAlts) (k : ℕ) →
    arms_of (branches (voice_in u) pauses (alt_list alts) k ++ others) ≡ alternative_branches u pauses (arms_of others) alts k
branches-is u pauses others no_alt k = refl
branches-is u pauses others (alt_then (alternative guard (AAccept a l) s) rest) k = λ i. arm_then (arm (and_guard s (permits_start (voice_in u) s (head_of a)) guard) (in_front (serve-is u s a i) l)) (branches-is u pauses others rest k i)
branches-is u pauses others (alt_then (alternative guard (ADelay d l) s) rest) k = λ i. arm_then (arm (is_due (voice_in u) s pauses k d guard) (stmt_then (pausing-is u s pauses k i) (stmt_then (done (voice_in u) s) l))) (branches-is u pauses others rest (k + 1) i)
branches-is u pauses others (alt_then (alternative guard ATerminate s) rest) k = ap (arm_then (branch_of (voice_in u) pauses (alternative guard ATerminate s) k)) (branches-is u pauses others rest k)

else-is : (u : RewrittenUnit) (s : Span) (otherwise : PMaybe) → arms_of (else_branch (voice_in u) s otherwise) ≡ model_waiting.else_branch u s otherwise
else-is u s absent = refl
else-is u s (present l) = refl

alts-back : (alts : PAlts) → alts_of (alt_list alts) ≡ alts
alts-back no_alt = refl
alts-back (alt_then x rest) = ap (alt_then x) (alts-back rest)

wait-is : (u : RewrittenUnit) (s : Span) (alts : PAlts) (otherwise : PMaybe) → wait_image (voice_in u) s (alt_list alts) otherwise ≡ model_waiting.wait_image u s alts otherwise
wait-is u s alts otherwise =
    ap (λ back. ask_which (voice_in u) s (arms_of (branches (voice_in u) (pauses_of back) (alt_list alts) 1 ++ else_branch (voice_in u) s otherwise))) (alts-back alts)
    ∙ ap (ask_which (voice_in u) s) (branches-is u (pauses_of alts) (else_branch (voice_in u) s otherwise) alts 1)
    ∙ ap (λ others. ask_which (voice_in u) s (alternative_branches u (pauses_of alts) others alts 1)) (else-is u s otherwise)

-- ---- all statements

pub image-is : (u : RewrittenUnit) (y : PStmt) → image (voice_in u) y ≡ replay_image u y
unfolding call_image choice_image delay_image
image-is u (SCall c s) = refl
image-is u (SConditional c behind otherwise s) = refl
image-is u (STimed c behind duration after s) = refl
image-is u (SAccept (accepting head absent) s) = refl
image-is u (SAccept (accepting head (present stmts)) s) = refl
image-is u (SWait alts otherwise s) = wait-is u s alts otherwise
image-is u (SAbort [] s) = refl
image-is u (SAbort (c ∷ []) s) = refl
image-is u (SAbort (c ∷ d ∷ cs) s) = refl
image-is u (SNull s) = refl
image-is u (SAssign t e s) = refl
image-is u (SDelay d s) = refl
image-is u (SExit w e s) = refl
image-is u (SRaise w s) = refl
image-is u (SPut ps s) = refl
image-is u (SPutLine ps s) = refl
image-is u (SNewLine s) = refl
image-is u (SGet t s) = refl
image-is u (SIf x o s) = refl
image-is u (SCase e x o s) = refl
image-is u (SBlock b s) = refl
image-is u (SLoop w c l s) = refl
