-- Tests of numbers that don't see the cap, and what a line comes to by them.
use Rattle.std.proofs.Common.{◌≡◌, ℕ, ◌^◌, ◌<◌, ◌≤◌, Bool, true, false, cond, length, ap, ◌∙◌, sym, arith, inl, inr, Some, None, Option, option_map, true≢false}
use Rattle.std.proofs.lemmas.Bool.{cases_Bool, cases_lt, and_parts, and_right}
use Rattle.std.specs.Prelude.{◌&&◌, nat_lt, nat_le, is_some}
use Rattle.event_machine.specs.declared.Event.{Event}
use Rattle.syn_event.specs.Numbering.{Numbering}
use Rattle.seq_file.specs.declared.lines.Verdict.TheVariants.{Known, BadNumber}
use Rattle.seq_file.specs.text_lines.Capped.{capped}
use Rattle.seq_file.specs.Known.{is_task, is_task_beside_main, is_alternative, is_known}
use Rattle.seq_file.specs.Lines.{with_two}
use Rattle.seq_file.specs.inner.Verdicts.{verdict_of}
use Rattle.seq_file.proofs.text_lines.Capping.{capped-small, capped-large, some-is}
use Rattle.common_lemmas.proofs.Numbers.{le_false, lt_false}
use Rattle.common_lemmas.proofs.Truth.{clash}

-- a test that no number from the cap on passes, and to which the cap is like every such number
pub record IsTest (P : ℕ → Bool) : Type 0 where
  pub same : (m : ℕ) → P (capped m) ≡ P m
  pub small : (m : ℕ) → P m ≡ true → m < 2 ^ 32

-- a test that fails from the cap on
pub test_by : (P : ℕ → Bool) → ((m : ℕ) → 2 ^ 32 ≤ m → P m ≡ false) → IsTest P
test_by P fails = record {
  same = λ m. elim (cases_lt m (2 ^ 32)) [
    | inl lt ↦ ap P (capped-small m (omega (arith, lt)))
    | inr ge ↦ ap P (capped-large m ge) ∙ fails (2 ^ 32) (omega arith) ∙ sym (fails m ge)
  ];
  small = λ m passes. elim (cases_lt m (2 ^ 32)) [
    | inl lt ↦ lt
    | inr ge ↦ absurd (true≢false (sym passes ∙ fails m ge))
  ];
}

pub task-test : (numbers : Numbering) → length numbers.tasks < 2 ^ 32 → IsTest (is_task numbers)
task-test numbers h = test_by (is_task numbers) (λ m ge. lt_false m (length numbers.tasks) (omega (arith, h, ge)))

pub beside-test : (numbers : Numbering) → length numbers.tasks < 2 ^ 32 → IsTest (is_task_beside_main numbers)
beside-test numbers h = test_by (is_task_beside_main numbers)
    (λ m ge. ap (λ t. t && nat_lt 0 m) (lt_false m (length numbers.tasks) (omega (arith, h, ge))))

pub alternative-test : IsTest is_alternative
alternative-test = test_by is_alternative (λ m ge. and_right (nat_le 1 m) (nat_le m 32) (le_false m 32 (omega (arith, ge))))

pub low-is : (m n a : ℕ) → n ≡ capped m → m < 2 ^ 32 → (n < 2 ^ 32 → a ≡ n) → a ≡ m
low-is m n a e lt h = let same : n ≡ m = e ∙ capped-small m (omega (arith, lt)) in h (omega (arith, same, lt)) ∙ same

pub one-read : (numbers : Numbering) (P : ℕ → Bool) (make : ℕ → Event) → IsTest P → ((m : ℕ) → is_known numbers (make m) ≡ P m) → (o : Option ℕ) (n a : ℕ) (k : Bool) → Some n ≡ option_map capped o → k ≡ P n → (n < 2 ^ 32 → a ≡ n) → cond k (Known (make a)) BadNumber ≡ verdict_of numbers (option_map make o)
one-read numbers P make test is None n a k h ek ea = clash (sym (ap is_some h))
one-read numbers P make test is (Some m) n a k h ek ea =
    let en : n ≡ capped m = some-is h in
    let kk : k ≡ P m = ek ∙ ap P en ∙ test.same m in
    elim (cases_Bool (P m)) [
      | inl e ↦ ap (λ t. cond t (Known (make a)) BadNumber) (kk ∙ e)
          ∙ ap (λ t. Known (make t)) (low-is m n a en (test.small m e) ea)
          ∙ sym (ap (λ t. cond t (Known (make m)) BadNumber) (is m ∙ e))
      | inr e ↦ ap (λ t. cond t (Known (make a)) BadNumber) (kk ∙ e)
          ∙ sym (ap (λ t. cond t (Known (make m)) BadNumber) (is m ∙ e))
    ]

pub two-read : (numbers : Numbering) (P Q : ℕ → Bool) (make : ℕ → ℕ → Event) → IsTest P → IsTest Q → ((x y : ℕ) → is_known numbers (make x y) ≡ (P x && Q y)) → (o p : Option ℕ) (m n a b : ℕ) (k : Bool) → Some m ≡ option_map capped o → Some n ≡ option_map capped p → k ≡ (P m && Q n) → (m < 2 ^ 32 → a ≡ m) → (n < 2 ^ 32 → b ≡ n) → cond k (Known (make a b)) BadNumber ≡ verdict_of numbers (with_two make o p)
two-read numbers P Q make tp tq is None p m n a b k h g ek ea eb = clash (sym (ap is_some h))
two-read numbers P Q make tp tq is (Some x) None m n a b k h g ek ea eb = clash (sym (ap is_some g))
two-read numbers P Q make tp tq is (Some x) (Some y) m n a b k h g ek ea eb =
    let em : m ≡ capped x = some-is h in
    let en : n ≡ capped y = some-is g in
    let kk : k ≡ (P x && Q y) = ek ∙ ap (λ t. P t && Q n) em ∙ ap (λ t. P (capped x) && Q t) en ∙ ap (λ t. t && Q (capped y)) (tp.same x) ∙ ap (λ t. P x && t) (tq.same y) in
    elim (cases_Bool (P x && Q y)) [
      | inl e ↦ ap (λ t. cond t (Known (make a b)) BadNumber) (kk ∙ e)
          ∙ ap (λ t. Known (make t b)) (low-is x m a em (tp.small x (and_parts (P x) (Q y) e).0) ea)
          ∙ ap (λ t. Known (make x t)) (low-is y n b en (tq.small y (and_parts (P x) (Q y) e).1) eb)
          ∙ sym (ap (λ t. cond t (Known (make x y)) BadNumber) (is x y ∙ e))
      | inr e ↦ ap (λ t. cond t (Known (make a b)) BadNumber) (kk ∙ e)
          ∙ sym (ap (λ t. cond t (Known (make x y)) BadNumber) (is x y ∙ e))
    ]
