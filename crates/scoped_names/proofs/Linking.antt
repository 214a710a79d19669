-- That the places which are kept are those of the names' latest slots.
use Rattle.std.specs.Prelude.{◌≡◌, ◌==◌, ◌<◌, ◌-◌, ℕ, suc, nat_lt, Bool, true, false, if◌then◌else◌, List, [], ◌∷◌, length, map, reverse, find, Some, None, option_map, refl}
use Rattle.std.proofs.Common.{sym, ap, ◌∙◌, subst, get_or, arith}
use Rattle.std.proofs.lemmas.List.{length-reverse, get_or-reverse, reverse-reverse}
use Rattle.std.proofs.lemmas.Bool.Decides.{nat_tests}
use Rattle.scoped_names.specs.declared.Slot.{Slot}
use Rattle.scoped_names.specs.Meaning.{meaning_in}
use Rattle.scoped_names.specs.inner.Places.{seen, latest_in}

abbrev pairs : {T : Type 0} → List (Slot T) → List (ℕ × T)
pairs slots = map (λ s. (s.name, s.thing)) slots

abbrev ShowsAt : {T : Type 0} → Slot T → List (Slot T) → ℕ → ℕ → Type 0
ShowsAt d r name k = Some (get_or r (length r - 1 - k) d).thing ≡ meaning_in (pairs r) name

here_is : (n : ℕ) → suc n - 1 - n ≡ 0
here_is n = omega arith

there_is : (n k : ℕ) → k < n → suc n - 1 - k ≡ suc (n - 1 - k)
there_is n k h = omega arith

one_longer : (n k : ℕ) → k < n → k < suc n
one_longer n k h = omega arith

at_end : (n k : ℕ) → n ≡ k → k < suc n
at_end n k h = omega arith

some_is : (a b : ℕ) → Some a ≡ Some b → a ≡ b
some_is a b h = cc

none_is_not : (a : ℕ) → None ≡ Some a → ⊥
none_is_not a h = cc

some_is_not : (a : ℕ) → Some a ≡ None → ⊥
some_is_not a h = cc

-- the place of a name's latest slot, in a list that begins with the latest
within_test : {T : Type 0} (rest : List (Slot T)) (name k : ℕ) (b : Bool) → (latest_in rest name ≡ Some k → k < length rest) → (if b then Some (length rest) else latest_in rest name) ≡ Some k → k < suc (length rest)
within_test rest name k true before e = at_end (length rest) k (some_is (length rest) k e)
within_test rest name k false before e = one_longer (length rest) k (before e)

within : {T : Type 0} (r : List (Slot T)) (name k : ℕ) → latest_in r name ≡ Some k → k < length r
within [] name k h = absurd (none_is_not k h)
within (s ∷ rest) name k h = within_test rest name k (s.name == name) (within rest name k) h

shows_test : {T : Type 0} (d s : Slot T) (rest : List (Slot T)) (name k : ℕ) (b : Bool) → (latest_in rest name ≡ Some k → ShowsAt d rest name k) → (if b then Some (length rest) else latest_in rest name) ≡ Some k → Some (get_or (s ∷ rest) (suc (length rest) - 1 - k) d).thing ≡ option_map (λ p. p.1) (if b then Some (s.name, s.thing) else find (λ p. p.0 == name) (pairs rest))
shows_test d s rest name k true before e =
    ap (λ i. Some (get_or (s ∷ rest) i d).thing) (ap (λ n. suc (length rest) - 1 - n) (sym (some_is (length rest) k e)) ∙ here_is (length rest))
shows_test d s rest name k false before e =
    ap (λ i. Some (get_or (s ∷ rest) i d).thing) (there_is (length rest) k (within rest name k e)) ∙ before e

shows : {T : Type 0} (d : Slot T) (r : List (Slot T)) (name k : ℕ) → latest_in r name ≡ Some k → ShowsAt d r name k
shows d [] name k h = absurd (none_is_not k h)
shows d (s ∷ rest) name k h = shows_test d s rest name k (s.name == name) (shows d rest name k) h

hidden_test : {T : Type 0} (s : Slot T) (rest : List (Slot T)) (name : ℕ) (b : Bool) → (latest_in rest name ≡ None → meaning_in (pairs rest) name ≡ None) → (if b then Some (length rest) else latest_in rest name) ≡ None → option_map (λ p. p.1) (if b then Some (s.name, s.thing) else find (λ p. p.0 == name) (pairs rest)) ≡ None
hidden_test s rest name true before e = absurd (some_is_not (length rest) e)
hidden_test s rest name false before e = before e

hidden : {T : Type 0} (r : List (Slot T)) (name : ℕ) → latest_in r name ≡ None → meaning_in (pairs r) name ≡ None
hidden [] name h = refl
hidden (s ∷ rest) name h = hidden_test s rest name (s.name == name) (hidden rest name) h

pub slot_within : {T : Type 0} (slots : List (Slot T)) (name k : ℕ) → latest_in (reverse slots) name ≡ Some k → k < length slots
slot_within slots name k h = subst (λ n. k < n) (length-reverse slots) (within (reverse slots) name k h)

-- what is kept at the place of a name is what the name means
pub slot_shows : {T : Type 0} (d : Slot T) (slots : List (Slot T)) (name k : ℕ) → latest_in (reverse slots) name ≡ Some k → Some (get_or slots k d).thing ≡ meaning_in (seen slots) name
slot_shows d slots name k h =
    let same : get_or (reverse (reverse slots)) k d ≡ get_or (reverse slots) (length (reverse slots) - 1 - k) d = get_or-reverse (reverse slots) k d (within (reverse slots) name k h) in
    ap (λ xs. Some (get_or xs k d).thing) (sym (reverse-reverse slots)) ∙ ap (λ s. Some s.thing) same ∙ shows d (reverse slots) name k h

pub no_gap : {X : Type 0} (xs ys : List X) (k : ℕ) → ys ≡ xs → k < length xs → false ≡ nat_lt k (length ys) → ⊥
no_gap xs ys k e h g = grind (arith, nat_tests)

pub no_slot : {T : Type 0} (slots : List (Slot T)) (name : ℕ) → latest_in (reverse slots) name ≡ None → meaning_in (seen slots) name ≡ None
no_slot slots name h = hidden (reverse slots) name h
