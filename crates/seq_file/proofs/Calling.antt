-- What a line of a call comes to.
use Rattle.std.proofs.Common.{◌≡◌, ℕ, ℤ, ◌^◌, ◌<◌, arith, Bool, true, cond, length, ap, ◌∙◌, sym, subst, inl, inr, Some, None, Option, option_map}
use Rattle.std.proofs.lemmas.Bool.{cases_Bool, and_parts}
use Rattle.std.specs.Int.{w32, w64}
use Rattle.std.specs.Int.Signed.{mag}
use Rattle.std.specs.Prelude.{◌&&◌, is_some, pos, negsuc, neg_ℤ, zero, suc, ◌≤◌, FitsSigned}
use Rattle.event_machine.specs.declared.Event.{Event}
use Rattle.syn_event.specs.Numbering.{Numbering}
use Rattle.seq_file.specs.declared.lines.Verdict.TheVariants.{Known, BadNumber}
use Rattle.seq_file.specs.text_lines.Capped.{capped, capped_integer}
use Rattle.seq_file.specs.Known.{is_task, is_known_member, is_call, is_index, is_known}
use Rattle.seq_file.specs.Lines.{with_three}
use Rattle.seq_file.specs.inner.Verdicts.{verdict_of}
use Rattle.seq_file.proofs.text_lines.Capping.{some-is, capped-le}
use Rattle.seq_file.proofs.Indexing.{index-same, index-exact, index-fits, member-test}
use Rattle.seq_file.proofs.Knowing.{IsTest, task-test, low-is}
use Rattle.common_lemmas.proofs.Truth.{clash}
use Rattle.seq_file.proofs.text_lines.Narrowing.{integer-is}

pub three-read : (numbers : Numbering) (make : ℕ → ℕ → ℤ → Event) → length numbers.tasks < 2 ^ 32 → length numbers.entries < 2 ^ 32 →
    ((x y : ℕ) (z : ℤ) → is_known numbers (make x y z) ≡ is_call numbers x y z) →
    (oc oe : Option ℕ) (oi : Option ℤ) (m n : ℕ) (j : ℤ) (a b : ℕ) (i : ℤ) (k : Bool) →
    Some m ≡ option_map capped oc → Some n ≡ option_map capped oe → Some j ≡ option_map capped_integer oi →
    ((z : ℤ) → j ≡ capped_integer z → k ≡ is_call numbers m n z) → (k ≡ true → is_index j ≡ true) →
    (m < 2 ^ 32 → a ≡ m) → (n < 2 ^ 32 → b ≡ n) → (FitsSigned w32 j → i ≡ j) →
    cond k (Known (make a b i)) BadNumber ≡ verdict_of numbers (with_three make oc oe oi)
three-read numbers make ht he is None oe oi m n j a b i k hc h' hi ek small ea eb ei = clash (sym (ap is_some hc))
three-read numbers make ht he is (Some x) None oi m n j a b i k hc h' hi ek small ea eb ei = clash (sym (ap is_some h'))
three-read numbers make ht he is (Some x) (Some y) None m n j a b i k hc h' hi ek small ea eb ei = clash (sym (ap is_some hi))
three-read numbers make ht he is (Some x) (Some y) (Some z) m n j a b i k hc h' hi ek small ea eb ei =
    let em : m ≡ capped x = some-is hc in
    let en : n ≡ capped y = some-is h' in
    let ej : j ≡ capped_integer z = integer-is hi in
    let tasks : IsTest (is_task numbers) = task-test numbers ht in
    let members : IsTest (λ e. is_known_member numbers e z) = member-test numbers z he in
    let kk : k ≡ (is_task numbers x && is_known_member numbers y z) =
    ek z ej ∙ ap (λ t. is_task numbers t && is_known_member numbers n z) em ∙ ap (λ t. is_task numbers (capped x) && is_known_member numbers t z) en
    ∙ ap (λ t. t && is_known_member numbers (capped y) z) (tasks.same x) ∙ ap (λ t. is_task numbers x && t) (members.same y) in
    elim (cases_Bool (is_task numbers x && is_known_member numbers y z)) [
      | inl e ↦
          let index : is_index j ≡ true = small (kk ∙ e) in
          let whole : is_index z ≡ true = sym (index-same z) ∙ ap is_index (sym ej) ∙ index in
          ap (λ t. cond t (Known (make a b i)) BadNumber) (kk ∙ e)
          ∙ ap (λ t. Known (make t b i)) (low-is x m a em (tasks.small x (and_parts (is_task numbers x) (is_known_member numbers y z) e).0) ea)
          ∙ ap (λ t. Known (make x t i)) (low-is y n b en (members.small y (and_parts (is_task numbers x) (is_known_member numbers y z) e).1) eb)
          ∙ ap (λ t. Known (make x y t)) (ei (index-fits j index) ∙ ej ∙ index-exact z whole)
          ∙ sym (ap (λ t. cond t (Known (make x y z)) BadNumber) (is x y z ∙ e))
      | inr e ↦
          ap (λ t. cond t (Known (make a b i)) BadNumber) (kk ∙ e)
          ∙ sym (ap (λ t. cond t (Known (make x y z)) BadNumber) (is x y z ∙ e))
    ]

neg-small : (k : ℕ) → k ≤ 2 ^ 32 → mag (neg_ℤ (pos k)) < 2 ^ 63
neg-small zero h = omega arith
neg-small (suc k) h = omega (arith, h)

capped-fits_one : (z : ℤ) → FitsSigned w64 (capped_integer z)
capped-fits_one (pos n) = record { sfits = omega (arith, capped-le n) }
capped-fits_one (negsuc n) = record { sfits = neg-small (capped (suc n)) (capped-le (suc n)) }

-- a capped index has 64 bits
pub capped-fits : (o : Option ℤ) (j : ℤ) → Some j ≡ option_map capped_integer o → FitsSigned w64 j
capped-fits None j h = clash (sym (ap is_some h))
capped-fits (Some z) j h = subst (FitsSigned w64) (sym (integer-is h)) (capped-fits_one z)
