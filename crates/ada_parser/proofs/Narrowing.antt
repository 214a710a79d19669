-- Readers that are asked only where the next token passes a test, or where it does not; and trees that need more room than is left.
use Rattle.std.proofs.Common.{◌≡◌, ℕ, suc, ◌≤◌, ◌<◌, Bool, true, false, ◌⊎◌, inl, inr, ⊎_elim, List, [], ◌∷◌, ◌++◌, refl, sym, ap, ◌∙◌, subst, Option, Some, None, arith}
use Rattle.std.proofs.Math.Nat.{le_refl}
use Rattle.std.specs.Prelude.{not, is_some, nat_le, if◌then◌else◌}
use Rattle.ada_expr_parser.specs.readers.Readers.{Fault, Reader, on, on_token, refuse, look, too_deep}
use Rattle.ada_expr_parser.specs.readers.Grammars.{Texts, Never, One, Then, Or, Begins, first_of, Starts}
use Rattle.ada_expr_parser.specs.readers.Lawful.{Careful, Lawful, IsYes}
use Rattle.ada_expr_parser.proofs.readers.Basics.{not_empty}
use Rattle.ada_expr_parser.proofs.readers.Choosing.{careful_on, careful_refuse}
use Rattle.ada_expr_parser.proofs.readers.Fitting.{starts_never, starts_token, careful_fit, careful_same}
use Rattle.ada_expr_parser.proofs.readers.Looking.{decided, CarefulWhere, careful_look, too_deep_where}
use Rattle.common_lemmas.proofs.Numbers.{le_false, le_is_not, le_true, le_is}

-- the texts that begin with a token of the test
pub record Narrow {K A : Type 0} (test : K → Bool) (D : Texts K A) (d : ℕ) (a : A) (text : List K) : Type 0 where
  pub k : K
  pub more : List K
  pub text_is : text ≡ k ∷ more
  pub passes : test k ≡ true
  pub spells : D d a text

module _ {K A : Type 0} (test : K → Bool) {d : ℕ} {p p' : Reader K A} {D : Texts K A} {S : K → Type 0} (law : Careful d p p' D S) (some : (a : A) → D d a [] → ⊥) where
  narrow_of : (e : ℕ) (a : A) (k : K) (more : List K) → test k ≡ true → D e a (k ∷ more) → Narrow test D e a (k ∷ more)
  narrow_of e a k more is text = record { k = k; more = more; text_is = refl; passes = is; spells = text }

  first_is : (k y : K) (ts f rest : List K) → k ∷ ts ≡ (y ∷ f) ++ rest → test k ≡ true → test y ≡ true
  first_is k y ts f rest e is = subst (λ z. test z ≡ true) (ap (first_of k) e) is

  narrow_begins : (e : ℕ) (y : K) (f : List K) → test y ≡ true → Begins (D e) (y ∷ f) → Begins (Narrow test D e) (y ∷ f)
  narrow_begins e y f is (a, more, text) = (a, more, narrow_of e a y (f ++ more) is text)

  narrow_sound : (k : K) (ts : List K) (a : A) (rest front : List K) → test k ≡ true → k ∷ ts ≡ front ++ rest → D d a front → (front : List K) × (k ∷ ts ≡ front ++ rest) × Narrow test D d a front
  narrow_sound k ts a rest [] is from text = absurd (some a text)
  narrow_sound k ts a rest (y ∷ f) is from text = (y ∷ f, from, narrow_of d a y f (first_is k y ts f rest from is) text)

  narrow_viable : (k : K) (ts rest front : List K) → test k ≡ true → k ∷ ts ≡ front ++ rest → (front ≡ []) ⊎ Begins (D d) front → (front : List K) × (k ∷ ts ≡ front ++ rest) × ((front ≡ []) ⊎ Begins (Narrow test D d) front)
  narrow_viable k ts rest [] is from begun = ([], from, inl refl)
  narrow_viable k ts rest (y ∷ f) is from (inl none) = absurd (not_empty [] y f (sym none))
  narrow_viable k ts rest (y ∷ f) is from (inr begun) = (y ∷ f, from, inr (narrow_begins d y f (first_is k y ts f rest from is) begun))

  narrow_deeper : (k : K) (ts : List K) (x : K) (rest front : List K) (e : ℕ) → d ≤ e → test k ≡ true → k ∷ ts ≡ front ++ (x ∷ rest) → Begins (D e) (front ++ (x ∷ [])) →
      (front : List K) × (k ∷ ts ≡ front ++ (x ∷ rest)) × (e : ℕ) × (d ≤ e) × Begins (Narrow test D e) (front ++ (x ∷ []))
  narrow_deeper k ts x rest [] e deep is from begun = ([], from, e, deep, narrow_begins e x [] (first_is k x ts [] rest from is) begun)
  narrow_deeper k ts x rest (y ∷ f) e deep is from begun = (y ∷ f, from, e, deep, narrow_begins e y (f ++ (x ∷ [])) (first_is k y ts f (x ∷ rest) from is) begun)

  pub narrow_where : CarefulWhere test d p p' (Narrow test D) S
  narrow_where = record {
    sound = λ {k} {ts} {a} {rest} is e. let (front, from, text) = law.sound e in narrow_sound k ts a rest front is from text;
    complete = λ x rest from is text stop. law.complete x rest text.spells stop;
    viable = λ {k} {ts} {deep} {rest} is e. let (front, from, begun) = law.viable e in narrow_viable k ts rest front is from begun;
    only_deeper = λ {k} {ts} {x} {rest} is e. let (front, from, e', deep, begun) = law.only_deeper e in narrow_deeper k ts x rest front e' deep is from begun;
    found_alike = λ front other is e. law.found_alike front other e;
    fault_alike = λ front other is e. law.fault_alike front other e;
    found_deeper = λ is e. law.found_deeper e;
    fault_deeper = λ is e. law.fault_deeper e;
    grows = λ e deep text. record { k = text.k; more = text.more; text_is = text.text_is; passes = text.passes; spells = law.grows e deep text.spells };
  }

pub narrow_starts : {K A : Type 0} {d : ℕ} {test : K → Bool} {D : Texts K A} {S : K → Type 0} → Starts d (Narrow test D) S (IsYes test)
narrow_starts = record { begins_with = λ a text x is stop. rw is.text_is is.passes }

-- ---- a token that is taken, or a reader that is asked only where it does not stand

abbrev pub passed_by : {K B : Type 0} → (K → Option B) → K → Bool
passed_by test k = not (is_some (test k))

module _ {K A B : Type 0} {d : ℕ} (test : K → Option B) {next next' : B → Reader K A} {other other' : Reader K A} {E : B → Texts K A} {P : Texts K A} {S : K → Type 0}
    (taken : (b : B) → Lawful d (next b) (next' b) (E b) S) (rest_of : CarefulWhere (passed_by test) d other other' P S) (apart : Starts d P S (IsYes (passed_by test))) where
  turned : (next : B → Reader K A) (other : Reader K A) (k : K) (ts : List K) (m : Option B) →
      on_token m next other k ts ≡ (if not (is_some m) then other (k ∷ ts) else on_token m next refuse k ts)
  turned next other k ts (Some b) = refl
  turned next other k ts None = refl

  on_look : (next : B → Reader K A) (other : Reader K A) (ts : List K) → on test next other ts ≡ look (passed_by test) other (on test next refuse) ts
  on_look next other [] = refl
  on_look next other (k ∷ ts) = turned next other k ts (test k)

  taken_is : (e : ℕ) (a : A) (text : List K) → Or (Then (One test) E) Never e a text → Then (One test) E e a text
  taken_is e a text (inl is) = is
  taken_is e a text (inr never) = absurd never

  law_taken : Careful d (on test next refuse) (on test next' refuse) (Then (One test) E) S
  law_taken = careful_fit (λ e deep a text is. taken_is e a text is) (λ a text is. inl is) (careful_on {test = test} taken (careful_refuse d S) starts_never)

  pub careful_either : Careful d (on test next other) (on test next' other') (Or P (Then (One test) E)) S
  careful_either = careful_same (on_look next other) (on_look next' other')
      (careful_look rest_of law_taken apart (starts_token (λ k b some. ap (λ m. not (is_some m)) some)))

  -- with some token that passes
  pub law_either : (k : K) (b : B) → test k ≡ Some b → Lawful d (on test next other) (on test next' other') (Or P (Then (One test) E)) S
  law_either k b some = record {
    careful = careful_either;
    some_text = λ e deep. let (a, f, text) = (taken b).some_text e deep in (a, k ∷ f, inr (b, k ∷ [], f, refl, (k, refl, some), text));
  }

-- ---- room

-- where so many levels are left
abbrev pub Room : {K A : Type 0} → ℕ → Texts K A → Texts K A
Room n D d a text = (n ≤ d) × D d a text

-- read where so many levels are left, and else too deep at the tokens that begin it
abbrev pub room : {K A : Type 0} → ℕ → (K → Bool) → (ℕ → Reader K A) → ℕ → Reader K A
room n test p d ts = if nat_le n d then p d ts else look test too_deep refuse ts

module _ {K A : Type 0} (n : ℕ) {test : K → Bool} (p : ℕ → Reader K A) {D : Texts K A} {S : K → Type 0}
    (laws : (e : ℕ) → n ≤ e → Careful e (p e) (p (suc e)) D S) (deep_text : (k : K) → test k ≡ true → Begins (D n) (k ∷ []))
    (passes : (k : K) (ts : List K) → test k ≡ false → p n (k ∷ ts) ≡ Fault false (k ∷ ts)) (none : p n [] ≡ Fault false []) where
  with_room : (d : ℕ) (ts : List K) → n ≤ d → room n test p d ts ≡ p d ts
  with_room d ts low = ap (λ b. if b then p d ts else look test too_deep refuse ts) (le_true n d low)

  without : (d : ℕ) (ts : List K) → d < n → room n test p d ts ≡ look test too_deep refuse ts
  without d ts low = ap (λ b. if b then p d ts else look test too_deep refuse ts) (le_false n d low)

  looked : (ts : List K) → p n ts ≡ look test (p n) refuse ts
  looked [] = none
  looked (k ∷ ts) = ⊎_elim
      (λ is. sym (ap (λ b. if b then p n (k ∷ ts) else Fault false (k ∷ ts)) is))
      (λ is. passes k ts is ∙ sym (ap (λ b. if b then p n (k ∷ ts) else Fault false (k ∷ ts)) is))
      (decided (test k))

  room_is : (d e : ℕ) (a : A) (text : List K) → Or (Room n D) Never e a text → Room n D e a text
  room_is d e a text (inl is) = is
  room_is d e a text (inr never) = absurd never

  at_edge : (d : ℕ) → suc d ≡ n → Careful d (look test too_deep refuse) (look test (p n) refuse) (Room n D) S
  at_edge d edge = careful_fit (λ e deep a text is. room_is d e a text is) (λ a text is. inl is)
      (careful_look {p' = p n}
      (too_deep_where test (λ a text is. let low = is.0 in omega (arith, low, edge)) (λ k is. let (a, more, text) = deep_text k is in (n, omega (arith, edge), (a, more, (le_refl n, text)))))
      (careful_refuse d S)
      (record { begins_with = λ a text x is stop. let low = is.0 in absurd (omega (arith, low, edge)) })
      starts_never)

  pub careful_room : (d : ℕ) → n ≤ suc d → Careful d (room n test p d) (room n test p (suc d)) (Room n D) S
  careful_room d near = ⊎_elim
      (λ yes_is. let low = le_is n d yes_is in careful_same (λ ts. with_room d ts low) (λ ts. with_room (suc d) ts (omega (arith, low)))
      (careful_fit (λ e deep a text is. (omega (arith, low, deep), is)) (λ a text is. is.1) (laws d low)))
      (λ no_is.
      let high = le_is_not n d no_is in
      let edge : suc d ≡ n = omega (arith, near, high) in
      careful_same (λ ts. without d ts high) (λ ts. with_room (suc d) ts near ∙ ap (λ m. p m ts) edge ∙ looked ts) (at_edge d edge))
      (decided (nat_le n d))
