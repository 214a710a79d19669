-- One turn of a chain at a time, as a loop or a recursion in code takes it.
use Rattle.std.proofs.Common.{◌≡◌, ℕ, zero, suc, ◌+◌, ◌≤◌, ◌<◌, true, false, ⊎_elim, List, [], ◌∷◌, refl, ap, ◌∙◌, arith}
use Rattle.std.specs.Prelude.{if◌then◌else◌, nat_le}
use Rattle.ada_expr_parser.specs.readers.Readers.{Answer, Found, Fault, Reader, Operators, go_on, bind, too_deep, chain_in, chain_more}
use Rattle.ada_expr_parser.proofs.readers.Looking.{decided}
use Rattle.common_lemmas.proofs.Numbers.{le_false, le_true}

module _ {K A O : Type 0} (ops : Operators K A O) (higher : (left : A) (o : O) (right : A) → ops.height left < ops.height (ops.join left o right)) (d : ℕ) (operand : Reader K A) where
  abbrev behind : (turns : ℕ) (left : A) → Reader K A
  behind turns left = bind (ops.operator left) (λ o. bind operand (λ right. chain_in ops d operand turns (ops.join left o right)))

  -- answers of two readers that are alike behind each tree
  alike_behind : {X Y : Type 0} (answer : Answer K X) (p q : X → Reader K Y) → ((x : X) (rest : List K) → p x rest ≡ q x rest) → go_on answer p ≡ go_on answer q
  alike_behind (Found x rest) p q alike = alike x rest
  alike_behind (Fault deep rest) p q alike = refl

  both_behind : (n m : ℕ) (left : A) (ts : List K) → ((o : O) (right : A) (rest : List K) → chain_in ops d operand n (ops.join left o right) rest ≡ chain_in ops d operand m (ops.join left o right) rest) →
      behind n left ts ≡ behind m left ts
  both_behind n m left ts alike = alike_behind (ops.operator left ts)
      (λ o. bind operand (λ right. chain_in ops d operand n (ops.join left o right))) (λ o. bind operand (λ right. chain_in ops d operand m (ops.join left o right)))
      (λ o rest. alike_behind (operand rest) (λ right. chain_in ops d operand n (ops.join left o right)) (λ right. chain_in ops d operand m (ops.join left o right)) (λ right more. alike o right more))

  -- what stands behind a tree, where it may not fill the depth
  turn_alike : (n m : ℕ) (left : A) (ts : List K) → d ≤ suc n + ops.height left → d ≤ suc m + ops.height left →
      ((o : O) (right : A) (rest : List K) → d ≤ n + ops.height (ops.join left o right) → d ≤ m + ops.height (ops.join left o right) →
      chain_in ops d operand n (ops.join left o right) rest ≡ chain_in ops d operand m (ops.join left o right) rest) →
      (if nat_le d (ops.height left) then too_deep else behind n left) ts ≡ (if nat_le d (ops.height left) then too_deep else behind m left) ts
  turn_alike n m left ts few enough alike = ⊎_elim
      (λ full. rw full refl)
      (λ less. rw less (both_behind n m left ts (λ o right rest. let up = higher left o right in alike o right rest (omega (arith, up, few)) (omega (arith, up, enough)))))
      (decided (nat_le d (ops.height left)))

  pub chain_turns : (n m : ℕ) (left : A) (ts : List K) → d ≤ n + ops.height left → d ≤ m + ops.height left → chain_in ops d operand n left ts ≡ chain_in ops d operand m left ts
  chain_turns zero zero left ts few enough = refl
  chain_turns zero (suc m) left [] few enough = refl
  chain_turns zero (suc m) left (k ∷ ts) few enough = ap (λ t. if ops.goes_on left k then t else Found left (k ∷ ts))
      (rw (le_true d (ops.height left) (omega (arith, few))) refl)
  chain_turns (suc n) zero left [] few enough = refl
  chain_turns (suc n) zero left (k ∷ ts) few enough = ap (λ t. if ops.goes_on left k then t else Found left (k ∷ ts))
      (rw (le_true d (ops.height left) (omega (arith, enough))) refl)
  chain_turns (suc n) (suc m) left [] few enough = refl
  chain_turns (suc n) (suc m) left (k ∷ ts) few enough = ap (λ t. if ops.goes_on left k then t else Found left (k ∷ ts))
      (turn_alike n m left (k ∷ ts) few enough (λ o right rest one other. chain_turns n m (ops.join left o right) rest one other))

  -- an operator and an operand, and the chain goes on
  pub chain_step : (left : A) (k : K) (ts : List K) → ops.goes_on left k ≡ true → ops.height left < d →
      chain_more ops d operand left (k ∷ ts) ≡ go_on (ops.operator left (k ∷ ts)) (λ o. bind operand (λ right. chain_more ops d operand (ops.join left o right)))
  chain_step left k ts goes low = chain_turns d (suc d) left (k ∷ ts) (omega arith) (omega arith) ∙
      ap (λ b. if b then (if nat_le d (ops.height left) then too_deep else behind d left) (k ∷ ts) else Found left (k ∷ ts)) goes ∙
      ap (λ b. (if b then too_deep else behind d left) (k ∷ ts)) (le_false d (ops.height left) low)

  -- no level is left for the operand
  pub chain_deep : (left : A) (k : K) (ts : List K) → ops.goes_on left k ≡ true → d ≤ ops.height left → chain_more ops d operand left (k ∷ ts) ≡ Fault true (k ∷ ts)
  chain_deep left k ts goes full = chain_turns d 0 left (k ∷ ts) (omega arith) (omega (arith, full)) ∙
      ap (λ b. if b then Fault true (k ∷ ts) else Found left (k ∷ ts)) goes

  -- the end
  pub chain_end : (left : A) (k : K) (ts : List K) → ops.goes_on left k ≡ false → chain_more ops d operand left (k ∷ ts) ≡ Found left (k ∷ ts)
  chain_end left k ts goes = chain_turns d (suc d) left (k ∷ ts) (omega arith) (omega arith) ∙
      ap (λ b. if b then (if nat_le d (ops.height left) then too_deep else behind d left) (k ∷ ts) else Found left (k ∷ ts)) goes
