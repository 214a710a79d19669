-- On its way through a unit the rewriter of a collecting text of a program with abort statements counts the unit's places.
use Rattle.std.proofs.Common.{◌≡◌, ℕ, ◌≤◌, refl, ap, arith}
use Rattle.ada_tree.specs.PlainStmt.{PStmt, SNull, SAssign, SDelay, SExit, SRaise, SAbort, SCall, SAccept, SWait, SConditional, STimed, SPut, SPutLine, SNewLine, SGet, SIf, SCase, SBlock, SLoop, PStmts, PMaybe, PAlts, PArms, PCaseArms, PBody, PHandlers}
use Rattle.normal_model.specs.Walk.{Rewriter, after_stmts, after_maybe, after_alts, after_arms, after_case_arms, after_body, after_handlers}
use Rattle.normal_laws.proofs.structure.types.Walking as walking
use Rattle.collect_model.specs.aborts.AbortTeller.{AbortTeller}
use Rattle.collect_model.specs.aborts.Places.{with_place, place_counter, places_in}
use Rattle.collect_model.specs.aborts.AbortStmts.{abort_rewriter}

module _ (u : AbortTeller) where
  abbrev r : Rewriter ℕ
  r = abort_rewriter u

  -- ---- as the counter does

  -- Through a whole body it comes by as many places as the body has.
  pub counted : (b : PBody) → after_body r b 0 ≡ places_in b
  counted b = walking.body-keeps r place_counter (λ v w. v ≡ w) (λ v w x h. ap (λ n. with_place n x) h) (λ v w x h. h) b 0 0 refl

  -- ---- never back

  module _ (n : ℕ) where
    entered : (t : ℕ) (x : PStmt) → n ≤ t → n ≤ with_place t x
    entered t (SAccept a s) h = omega (arith, h)
    entered t (SWait x o s) h = omega (arith, h)
    entered t (SConditional c b o s) h = h
    entered t (STimed c b d a s) h = h
    entered t (SIf x o s) h = h
    entered t (SCase e x o s) h = h
    entered t (SBlock b s) h = h
    entered t (SLoop w c l s) h = h
    entered t (SNull s) h = h
    entered t (SAssign x e s) h = h
    entered t (SDelay d s) h = h
    entered t (SExit w e s) h = h
    entered t (SRaise w s) h = h
    entered t (SAbort cs s) h = h
    entered t (SCall c s) h = h
    entered t (SPut ps s) h = h
    entered t (SPutLine ps s) h = h
    entered t (SNewLine s) h = h
    entered t (SGet x s) h = h

  pub stmts-grow : (l : PStmts) (t : ℕ) → t ≤ after_stmts r l t
  stmts-grow l t = walking.stmts-keep r r (λ v w. t ≤ v) (λ v w x h. entered t v x h) (λ v w x h. h) l t t (omega arith)

  pub maybe-grows : (o : PMaybe) (t : ℕ) → t ≤ after_maybe r o t
  maybe-grows o t = walking.maybe-keeps r r (λ v w. t ≤ v) (λ v w x h. entered t v x h) (λ v w x h. h) o t t (omega arith)

  pub alts-grow : (l : PAlts) (t : ℕ) → t ≤ after_alts r l t
  alts-grow l t = walking.alts-keep r r (λ v w. t ≤ v) (λ v w x h. entered t v x h) (λ v w x h. h) l t t (omega arith)

  pub arms-grow : (l : PArms) (t : ℕ) → t ≤ after_arms r l t
  arms-grow l t = walking.arms-keep r r (λ v w. t ≤ v) (λ v w x h. entered t v x h) (λ v w x h. h) l t t (omega arith)

  pub case_arms-grow : (l : PCaseArms) (t : ℕ) → t ≤ after_case_arms r l t
  case_arms-grow l t = walking.case_arms-keep r r (λ v w. t ≤ v) (λ v w x h. entered t v x h) (λ v w x h. h) l t t (omega arith)

  pub handlers-grow : (l : PHandlers) (t : ℕ) → t ≤ after_handlers r l t
  handlers-grow l t = walking.handlers-keep r r (λ v w. t ≤ v) (λ v w x h. entered t v x h) (λ v w x h. h) l t t (omega arith)
