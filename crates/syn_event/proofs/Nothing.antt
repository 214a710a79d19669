-- Lists of which nothing is left, and tests that fail.
use Rattle.std.proofs.Common.{◌≡◌, Bool, true, false, cond, List, [], ◌∷◌, ◌++◌, refl}
use Rattle.common_lemmas.proofs.Lists.{not_empty}

pub append_nothing : {A : Type 0} (xs ys : List A) → xs ++ ys ≡ [] → (xs ≡ []) × (ys ≡ [])
append_nothing [] ys h = (refl, h)
append_nothing (x ∷ xs) ys h = absurd (not_empty x (xs ++ ys) h)

-- a test, where what is told where it holds is nothing
pub test_fails : {A : Type 0} (b : Bool) (x : A) → cond b (x ∷ []) [] ≡ [] → b ≡ false
test_fails true x h = absurd (not_empty x [] h)
test_fails false x h = refl
