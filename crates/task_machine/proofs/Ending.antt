-- Whether all tasks of a range can end, step by step and by one that cannot.
use Rattle.std.proofs.Common.{◌≡◌, ℕ, zero, suc, pred, ◌<◌, ◌≤◌, Bool, true, false, ◌&&◌, ◌⊎◌, inl, inr, ap, subst, refl, arith}
use Rattle.event_machine.specs.States.{Seen}
use Rattle.event_machine.specs.Applying.{others_can_end, can_end}
use Rattle.task_model.specs.Tasks.{Task}
use Rattle.task_model.specs.TaskOps.{task_ops}
use Rattle.common_lemmas.proofs.Truth.{both_true, false_behind}

and_false_left : (a b : Bool) → a ≡ false → (a && b) ≡ false
and_false_left a b e = ap (λ x. x && b) e

-- one more task that can end
pub others_can_end-more : (s : Seen Task) (t : ℕ) → 0 < t → others_can_end task_ops s (pred t) ≡ true → can_end task_ops (s.tasks t) ≡ true → others_can_end task_ops s t ≡ true
others_can_end-more s zero h all one = refl
others_can_end-more s (suc n) h all one = both_true (others_can_end task_ops s n) (can_end task_ops (s.tasks (suc n))) all one

-- a task that cannot end
pub others_can_end-not : (s : Seen Task) (n t : ℕ) → 0 < t → t ≤ n → can_end task_ops (s.tasks t) ≡ false → others_can_end task_ops s n ≡ false
others_can_end-not s zero t h le stuck = absurd (omega arith)
others_can_end-not s (suc n) t h le stuck =
    let split : (t ≡ suc n) ⊎ (t ≤ n) = grind arith in
    elim split [
      | inl e ↦ false_behind (others_can_end task_ops s n) (can_end task_ops (s.tasks (suc n))) (subst (λ k. can_end task_ops (s.tasks k) ≡ false) e stuck)
      | inr below ↦ and_false_left (others_can_end task_ops s n) (can_end task_ops (s.tasks (suc n))) (others_can_end-not s n t h below stuck)
    ]
