-- The first of several is the same however they are joined, and no other one of them stands before it.
use Rattle.std.specs.Prelude.{◌≡◌, ℕ, nat_lt, Bool, true, false, if◌then◌else◌, List, [], ◌∷◌, ◌++◌, Option, Some, None, refl, All, Contains}
use Rattle.std.proofs.Common.{sym, ap, ◌∙◌, subst, arith}
use Rattle.std.proofs.lemmas.Bool.Decides.{nat_tests}
use Rattle.std.proofs.lemmas.List.Elements.{All-nil, All-cons, All-same, All-weaker, Contains-append_right}
use Rattle.ada_static_rules.specs.Ranking.{Rank, is_lower, is_earlier, earlier_of, earlier, earliest}

-- ---- ranks

lower_trans : (a b c : ℕ) (t u v : Bool) → (t ≡ true → u ≡ true → v ≡ true) → is_lower b a t ≡ true → is_lower c b u ≡ true → is_lower c a v ≡ true
lower_trans a b c t u v h p q = grind (arith, nat_tests)

lower_back : (a b c : ℕ) (t u v : Bool) → (t ≡ false → u ≡ false → v ≡ false) → is_lower b a t ≡ false → is_lower c b u ≡ false → is_lower c a v ≡ false
lower_back a b c t u v h p q = grind (arith, nat_tests)

lower_asym : (a b : ℕ) (t u : Bool) → (t ≡ true → u ≡ false) → is_lower b a t ≡ true → is_lower a b u ≡ false
lower_asym a b t u h p = grind (arith, nat_tests)

less_trans : (a b c : ℕ) → nat_lt b a ≡ true → nat_lt c b ≡ true → nat_lt c a ≡ true
less_trans a b c p q = grind (arith, nat_tests)

less_back : (a b c : ℕ) → nat_lt b a ≡ false → nat_lt c b ≡ false → nat_lt c a ≡ false
less_back a b c p q = grind (arith, nat_tests)

less_asym : (a b : ℕ) → nat_lt b a ≡ true → nat_lt a b ≡ false
less_asym a b p = grind (arith, nat_tests)

earlier_trans : (a b c : Rank) → is_earlier b a ≡ true → is_earlier c b ≡ true → is_earlier c a ≡ true
earlier_trans a b c = lower_trans a.start b.start c.start _ _ _ (lower_trans a.rule b.rule c.rule _ _ _ (less_trans a.last b.last c.last))

earlier_back : (a b c : Rank) → is_earlier b a ≡ false → is_earlier c b ≡ false → is_earlier c a ≡ false
earlier_back a b c = lower_back a.start b.start c.start _ _ _ (lower_back a.rule b.rule c.rule _ _ _ (less_back a.last b.last c.last))

pub earlier_asym : (a b : Rank) → is_earlier b a ≡ true → is_earlier a b ≡ false
earlier_asym a b = lower_asym a.start b.start _ _ (lower_asym a.rule b.rule _ _ (less_asym a.last b.last))

not_itself : (a b c : ℕ) → is_lower a a (is_lower b b (nat_lt c c)) ≡ false
not_itself a b c = grind (arith, nat_tests)

-- ---- the first of two and of three

module _ {A : Type 0} where
  chosen : (a b c : A) (p q r : Bool) → (p ≡ true → q ≡ true → r ≡ true) → (p ≡ false → q ≡ false → r ≡ false)
      → (if p then (if q then c else b) else (if r then c else a)) ≡ (if q then (if r then c else a) else (if p then b else a))
  chosen a b c true true r h g = ap (λ t. if t then c else a) (sym (h refl refl))
  chosen a b c true false r h g = refl
  chosen a b c false true r h g = refl
  chosen a b c false false r h g = ap (λ t. if t then c else a) (g refl refl)

  some_is : (a b : A) → Some a ≡ Some b → a ≡ b
  some_is a b h = cc

  no_first : (a : A) → None ≡ Some a → ⊥
  no_first a h = cc

  head_is_one : (a : A) (xs : List A) → Contains (a ∷ xs) a
  head_is_one a xs = (0, omega arith, refl)

module _ {A : Type 0} (rank : A → Rank) where
  -- the first of the first two and a third one, at each outcome of the first test
  left_first : (a b c : A) (p : Bool) → earlier_of rank (if p then b else a) c ≡ (if p then earlier_of rank b c else earlier_of rank a c)
  left_first a b c true = refl
  left_first a b c false = refl

  right_first : (a b c : A) (q : Bool) → earlier_of rank a (if q then c else b) ≡ (if q then earlier_of rank a c else earlier_of rank a b)
  right_first a b c true = refl
  right_first a b c false = refl

  earlier_of_assoc : (a b c : A) → earlier_of rank (earlier_of rank a b) c ≡ earlier_of rank a (earlier_of rank b c)
  earlier_of_assoc a b c =
      left_first a b c (is_earlier (rank b) (rank a))
      ∙ chosen a b c _ _ _ (earlier_trans (rank a) (rank b) (rank c)) (earlier_back (rank a) (rank b) (rank c))
      ∙ sym (right_first a b c (is_earlier (rank c) (rank b)))

  pub earlier_assoc : (a b c : Option A) → earlier rank (earlier rank a b) c ≡ earlier rank a (earlier rank b c)
  earlier_assoc None b c = refl
  earlier_assoc (Some a) None c = refl
  earlier_assoc (Some a) (Some b) None = refl
  earlier_assoc (Some a) (Some b) (Some c) = ap Some (earlier_of_assoc a b c)

  pub earlier_none : (a : Option A) → earlier rank a None ≡ a
  earlier_none None = refl
  earlier_none (Some a) = refl

  -- ---- the first of a list

  pub earliest_append : (xs ys : List A) → earliest rank (xs ++ ys) ≡ earlier rank (earliest rank xs) (earliest rank ys)
  earliest_append [] ys = refl
  earliest_append (x ∷ xs) ys = ap (earlier rank (Some x)) (earliest_append xs ys) ∙ sym (earlier_assoc (Some x) (earliest rank xs) (earliest rank ys))

  -- the first of two lists and of one thing more
  pub spread : (xs ys : List A) (o : Option A) → earlier rank (earliest rank (xs ++ ys)) o ≡ earlier rank (earliest rank xs) (earlier rank (earliest rank ys) o)
  spread xs ys o = ap (λ q. earlier rank q o) (earliest_append xs ys) ∙ earlier_assoc (earliest rank xs) (earliest rank ys) o

  never : (a : A) (o : Option A) → earlier rank (Some a) o ≡ None → ⊥
  never a None h = cc
  never a (Some b) h = cc

  pub none_left : (xs : List A) → earliest rank xs ≡ None → xs ≡ []
  none_left [] h = refl
  none_left (x ∷ xs) h = absurd (never x (earliest rank xs) h)

  -- one thing does not stand behind another
  abbrev pub IsNotBehind : A → A → Type 0
  IsNotBehind a b = is_earlier (rank b) (rank a) ≡ false

  -- it is one of the list, and stands behind none of it
  abbrev pub IsFirstOf : List A → A → Type 0
  IsFirstOf xs a = Contains xs a × All (IsNotBehind a) xs

  itself : (a : A) → IsNotBehind a a
  itself a = not_itself (rank a).start (rank a).rule (rank a).last

  alone : (x : A) (xs : List A) → xs ≡ [] → IsFirstOf (x ∷ xs) x
  alone x xs h = (head_is_one x xs, All-cons (IsNotBehind x) x xs (itself x) (All-same (IsNotBehind x) xs [] h (All-nil (IsNotBehind x))))

  of_two : (x m : A) (xs : List A) (b : Bool) → is_earlier (rank m) (rank x) ≡ b → IsFirstOf xs m → IsFirstOf (x ∷ xs) (if b then m else x)
  of_two x m xs true h w = (Contains-append_right (x ∷ []) xs m w.0, All-cons (IsNotBehind m) x xs (earlier_asym (rank x) (rank m) h) w.1)
  of_two x m xs false h w =
      (head_is_one x xs, All-cons (IsNotBehind x) x xs (itself x) (All-weaker (IsNotBehind m) (IsNotBehind x) (λ q g. earlier_back (rank x) (rank m) (rank q) h g) xs w.1))

  with_rest : (x : A) (xs : List A) (o : Option A) → earliest rank xs ≡ o → ((m : A) → o ≡ Some m → IsFirstOf xs m) → (a : A) → earlier rank (Some x) o ≡ Some a → IsFirstOf (x ∷ xs) a
  with_rest x xs None e first a h = subst (IsFirstOf (x ∷ xs)) (some_is x a h) (alone x xs (none_left xs e))
  with_rest x xs (Some m) e first a h = subst (IsFirstOf (x ∷ xs)) (some_is (earlier_of rank x m) a h) (of_two x m xs _ refl (first m refl))

  pub first_is : (xs : List A) (a : A) → earliest rank xs ≡ Some a → IsFirstOf xs a
  first_is [] a h = absurd (no_first a h)
  first_is (x ∷ xs) a h = with_rest x xs (earliest rank xs) refl (first_is xs) a h
