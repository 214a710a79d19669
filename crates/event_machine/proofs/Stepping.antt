-- Local steps one after the other: after how many a task rests is a function of where it began.
use Rattle.std.proofs.Common.{◌≡◌, ℕ, zero, suc, ◌<◌, ◌≤◌, true, sym, ◌∙◌, subst, ⊎_elim, true≢false, arith}
use Rattle.std.proofs.lemmas.Bool.{cases_order, cases_lt}
use Rattle.event_machine.specs.States.{Ops}
use Rattle.event_machine.specs.Settling.{ran, HasSteps, Settles}

module _ {L : Type 0} (ops : Ops L) where
  -- before the last of its steps it has one more
  pub step_before : (m n : ℕ) (l : L) → n < m → HasSteps ops m l → ops.can_step (ran ops n l) ≡ true
  step_before zero n l less h = absurd (omega arith)
  step_before (suc m) n l less h = ⊎_elim
      (λ (q : n < m). step_before m n l q h.0)
      (λ (q : m ≤ n). let e : m ≡ n = omega arith in subst (λ k. ops.can_step (ran ops k l) ≡ true) e h.1)
      (cases_lt n m)

  -- fewer steps it has too
  pub steps_fewer : (m n : ℕ) (l : L) → n ≤ m → HasSteps ops m l → HasSteps ops n l
  steps_fewer zero n l less h = let e : 0 ≡ n = omega arith in subst (λ k. HasSteps ops k l) e h
  steps_fewer (suc m) n l less h = ⊎_elim
      (λ (q : n < suc m). steps_fewer m n l (omega arith) h.0)
      (λ (q : suc m ≤ n). let e : suc m ≡ n = omega arith in subst (λ k. HasSteps ops k l) e h)
      (cases_lt n (suc m))

  pub settles_once : (m n : ℕ) (l : L) → Settles ops m l → Settles ops n l → m ≡ n
  settles_once m n l h k = ⊎_elim (λ e. e) (⊎_elim
      (λ (q : m < n). absurd (true≢false (sym (step_before n m l q k.0) ∙ h.1)))
      (λ (q : n < m). absurd (true≢false (sym (step_before m n l q h.0) ∙ k.1))))
      (cases_order m n)

  -- where it settles it has at least as many steps as it has made
  pub settles_most : (m n : ℕ) (l : L) → HasSteps ops m l → Settles ops n l → m ≤ n
  settles_most m n l h k = ⊎_elim (λ (q : n < m). absurd (true≢false (sym (step_before m n l q h) ∙ k.1))) (λ (q : m ≤ n). q) (cases_lt n m)
