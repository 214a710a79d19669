-- The order of events: by the letters, and of one letter by the tasks that act.
use Rattle.std.proofs.Common.{◌≡◌, ℕ, ℤ, pos, ◌<◌, List, [], ◌∷◌, refl, sym, ap, ◌∙◌, arith, ⊎_elim, ◌⊎◌, inl, inr}
use Rattle.std.specs.Cmp.Lexicographic.{slice_cmp}
use Rattle.std.specs.declared.cmp.Ordering.{Ordering}
use Rattle.std.specs.declared.cmp.Ordering.TheVariants.{Less, Equal}
use Rattle.std.specs.Ordering.{nat_cmp, int_cmp, ordering_then}
use Rattle.event_machine.specs.declared.Event.{Event}
use Rattle.event_machine.specs.declared.Event.TheVariants.{R, E, S, D, C, T, F, X, B, Z}
use Rattle.race_variant.specs.Variants.{letter_of, numbers_in, event_cmp}
use Rattle.race_variant.specs.inner.Passing.{actor_of, HasPassed}

less_nat : (x y : ℕ) → x < y → nat_cmp x y ≡ Less
less_nat x y h = grind arith

equal_nat : (x : ℕ) → nat_cmp x x ≡ Equal
equal_nat x = grind arith

less_int : (x y : ℕ) → x < y → int_cmp (pos x) (pos y) ≡ Less
less_int x y h = grind arith

equal_int : (x : ℕ) → int_cmp (pos x) (pos x) ≡ Equal
equal_int x = grind arith

-- the numbers behind the first
rest_of : Event → List ℤ
rest_of (R c e i) = pos e ∷ i ∷ []
rest_of (E a) = []
rest_of (S a) = []
rest_of (D a k) = pos k ∷ []
rest_of (C c e i) = pos e ∷ i ∷ []
rest_of (T c e i) = pos e ∷ i ∷ []
rest_of (F c e i) = pos e ∷ i ∷ []
rest_of (X a) = []
rest_of (B t x) = pos x ∷ []
rest_of Z = []

-- an event but the end of the program begins with the task that acts
lead : (e : Event) → (e ≡ Z) ⊎ (numbers_in e ≡ (pos (actor_of e) ∷ rest_of e))
unfolding rest_of
lead (R c e i) = inr refl
lead (E a) = inr refl
lead (S a) = inr refl
lead (D a k) = inr refl
lead (C c e i) = inr refl
lead (T c e i) = inr refl
lead (F c e i) = inr refl
lead (X a) = inr refl
lead (B t x) = inr refl
lead Z = inl refl

last_letter : (e : Event) → letter_of e ≡ 9 → e ≡ Z
last_letter (R c e i) h = absurd (omega arith)
last_letter (E a) h = absurd (omega arith)
last_letter (S a) h = absurd (omega arith)
last_letter (D a k) h = absurd (omega arith)
last_letter (C c e i) h = absurd (omega arith)
last_letter (T c e i) h = absurd (omega arith)
last_letter (F c e i) h = absurd (omega arith)
last_letter (X a) h = absurd (omega arith)
last_letter (B t x) h = absurd (omega arith)
last_letter Z h = refl

no_actor : (e : Event) (t : ℕ) → e ≡ Z → t < actor_of e → ⊥
no_actor e t h l = let k : actor_of e ≡ 0 = ap actor_of h in omega arith

less_then : (a b : Ordering) → a ≡ Less → ordering_then a b ≡ Less
less_then a b h = ap (λ o. ordering_then o b) h

equal_then : (a b : Ordering) → a ≡ Equal → b ≡ Less → ordering_then a b ≡ Less
equal_then a b h k = ap (λ o. ordering_then o b) h ∙ k

same_letter : (f e : Event) → letter_of f ≡ letter_of e → slice_cmp int_cmp (numbers_in f) (numbers_in e) ≡ Less → event_cmp f e ≡ Less
same_letter f e h k = equal_then _ _ (ap (λ l. nat_cmp l (letter_of e)) h ∙ equal_nat (letter_of e)) k

leads_less : (f e : Event) → actor_of f < actor_of e → slice_cmp int_cmp (pos (actor_of f) ∷ rest_of f) (pos (actor_of e) ∷ rest_of e) ≡ Less
leads_less f e l = less_then _ _ (less_int (actor_of f) (actor_of e) l)

-- An event whose turn is past stands before the others.
pub earlier_less : (f e : Event) → HasPassed (letter_of e) (actor_of e) f → event_cmp f e ≡ Less
earlier_less f e h = ⊎_elim
    (λ (l : letter_of f < letter_of e). less_then _ _ (less_nat (letter_of f) (letter_of e) l))
    (λ (k : (letter_of f ≡ letter_of e) × (actor_of f < actor_of e)). same_letter f e k.0 (numbers k))
    h
  where
    numbers : (letter_of f ≡ letter_of e) × (actor_of f < actor_of e) → slice_cmp int_cmp (numbers_in f) (numbers_in e) ≡ Less
    numbers k = ⊎_elim
        (λ (z : f ≡ Z). absurd (no_actor e (actor_of f) (last_letter e (sym k.0 ∙ ap letter_of z)) k.1))
        (λ (p : numbers_in f ≡ (pos (actor_of f) ∷ rest_of f)). ⊎_elim
        (λ (z : e ≡ Z). absurd (no_actor e (actor_of f) z k.1))
        (λ (q : numbers_in e ≡ (pos (actor_of e) ∷ rest_of e)). ap (λ xs. slice_cmp int_cmp xs (numbers_in e)) p ∙ ap (slice_cmp int_cmp (pos (actor_of f) ∷ rest_of f)) q ∙ leads_less f e k.1)
        (lead e))
        (lead f)

-- Of two delays of a task the one of the lower number stands before.
pub delay_less : (t k l : ℕ) → k < l → event_cmp (D t k) (D t l) ≡ Less
delay_less t k l h = equal_then (int_cmp (pos t) (pos t)) _ (equal_int t) (less_then (int_cmp (pos k) (pos l)) _ (less_int k l h))
