-- Small facts on tests, seats and lists of actions that the laws' proofs share.
use Rattle.std.proofs.Common.{◌≡◌, ℕ, Bool, true, false, not, ◌&&◌, ◌==◌, if◌then◌else◌, refl, ap, Option, Some, None}
use Rattle.std.specs.Ordering.{int_eq}
use Rattle.std.specs.Prelude.{ℤ}
use Rattle.std.proofs.lemmas.Bool.{eqb-true, and_parts, and_from}
use Rattle.std.proofs.lemmas.Bool.Decides.{Decides-int_eq}
use Rattle.event_machine.specs.Offers.{same_member}
use Rattle.event_machine.specs.States.{Seat}
use Rattle.common_lemmas.proofs.Numbers.{equal_self}

-- a function of an `if`
pub push_if : {A B : Type 0} (f : A → B) (b : Bool) (x y : A) → f (if b then x else y) ≡ (if b then f x else f y)
push_if f true x y = refl
push_if f false x y = refl

pub seat_path : {L : Type 0} {x y : Seat L} → x.local ≡ y.local → x.standing ≡ y.standing → x ≡ y
seat_path l s = λ i. record { local = l i; standing = s i }

pub split : {a b : Bool} → (a && b) ≡ true → (a ≡ true) × (b ≡ true)
split {a} {b} h = and_parts a b h

pub both : {a b : Bool} → a ≡ true → b ≡ true → (a && b) ≡ true
both {a} {b} h k = and_from a b h k

pub false_not : {b : Bool} → b ≡ false → not b ≡ true
false_not h = ap not h

pub same_member-refl : (e : ℕ) (i : ℤ) → same_member e i e i ≡ true
same_member-refl e i = both (equal_self e) ((Decides-int_eq i i).1 refl)

pub same_member-true : (e f : ℕ) (i j : ℤ) → same_member e i f j ≡ true → (e ≡ f) × (i ≡ j)
same_member-true e f i j h = let k = and_parts (e == f) (int_eq i j) h in (eqb-true e f k.0, (Decides-int_eq i j).0 k.1)

pub none_some : {A : Type 0} {x : A} → ◌≡◌ {A = Option A} None (Some x) → ⊥
none_some {A} {x} h = let e : ◌≡◌ {A = Option A} None (Some x) = h in cc

pub some_path : {A : Type 0} {x y : A} → ◌≡◌ {A = Option A} (Some x) (Some y) → x ≡ y
some_path {A} {x} {y} h = let e : ◌≡◌ {A = Option A} (Some x) (Some y) = h in cc
