-- What two sides come to: the same exception, or things that go together.
use Rattle.std.proofs.Common.{◌≡◌, Result, Ok, Err, refl}
use Rattle.ada_value.specs.declared.values.Raised.{Raised}
use Rattle.ada_value.specs.Values.{and_then}

-- both raise the same, or things come out that go together
pub data Both {A B : Type 0} (R : A → B → Type 0) : Result A Raised → Result B Raised → Type 0 where
  both_ok : (a : A) (b : B) → R a b → Both R (Ok a) (Ok b)
  both_err : (e : Raised) → Both R (Err e) (Err e)

-- the same thing
pub data Equal {A : Type 0} : A → A → Type 0 where
  equal : (a : A) → Equal a a

-- one after the other
pub both_then : {A B C D : Type 0} {R : A → B → Type 0} {S : C → D → Type 0} {r : Result A Raised} {r' : Result B Raised} {f : A → Result C Raised} {f' : B → Result D Raised} →
    Both R r r' → ((a : A) (b : B) → R a b → Both S (f a) (f' b)) → Both S (and_then r f) (and_then r' f')
both_then (both_ok a b h) k = k a b h
both_then (both_err e) k = both_err e

-- the same comes out
pub both_equal : {A : Type 0} {r r' : Result A Raised} → Both Equal r r' → r ≡ r'
both_equal (both_ok a b (equal c)) = refl
both_equal (both_err e) = refl

-- what goes together in one way goes together in another
pub both_map : {A B : Type 0} {R S : A → B → Type 0} {r : Result A Raised} {r' : Result B Raised} → Both R r r' → ((a : A) (b : B) → R a b → S a b) → Both S r r'
both_map (both_ok a b h) k = both_ok a b (k a b h)
both_map (both_err e) k = both_err e
