-- The same law said otherwise: of an equal reader, with fewer tokens that stop it, or of the same texts in other words; and what texts begin with.
use Rattle.std.proofs.Common.{◌≡◌, ℕ, ◌≤◌, Bool, true, inl, inr, ⊎_elim, List, [], ◌∷◌, ◌++◌, refl, sym, ap, ◌∙◌, subst, Option, Some}
use Rattle.std.proofs.Math.Nat.{le_refl}
use Rattle.ada_expr_parser.specs.readers.Readers.{Reader}
use Rattle.ada_expr_parser.specs.readers.Grammars.{Texts, Never, Is, One, Then, Or, Begins, first_of, Starts, Opens}
use Rattle.ada_expr_parser.specs.readers.Lawful.{Careful, Lawful, IsYes}

begins_to : {K A : Type 0} {d : ℕ} (D E : Texts K A) → ((e : ℕ) → d ≤ e → (a : A) (text : List K) → D e a text → E e a text) → (e : ℕ) → d ≤ e → (front : List K) → Begins (D e) front → Begins (E e) front
begins_to D E to e deep front (a, more, text) = (a, more, to e deep a (front ++ more) text)

module _ {K A : Type 0} {d : ℕ} {p p' : Reader K A} {D : Texts K A} {S : K → Type 0} where
  -- before fewer tokens
  pub careful_stops : {R : K → Type 0} → ((x : K) → R x → S x) → Careful d p p' D S → Careful d p p' D R
  careful_stops stops law = record {
    sound = law.sound;
    complete = λ x rest text stop. law.complete x rest text (stops x stop);
    viable = law.viable;
    only_deeper = law.only_deeper;
    found_alike = law.found_alike;
    fault_alike = law.fault_alike;
    found_deeper = law.found_deeper;
    fault_deeper = law.fault_deeper;
    grows = law.grows;
  }

  pub law_stops : {R : K → Type 0} → ((x : K) → R x → S x) → Lawful d p p' D S → Lawful d p p' D R
  law_stops stops law = record { careful = careful_stops stops law.careful; some_text = law.some_text }

  -- of readers that answer the same
  pub careful_same : {q q' : Reader K A} → ((ts : List K) → q ts ≡ p ts) → ((ts : List K) → q' ts ≡ p' ts) → Careful d p p' D S → Careful d q q' D S
  careful_same same same' law = record {
    sound = λ {ts} e. law.sound (sym (same ts) ∙ e);
    complete = λ {a} {front} x rest text stop. same (front ++ (x ∷ rest)) ∙ law.complete x rest text stop;
    viable = λ {ts} e. law.viable (sym (same ts) ∙ e);
    only_deeper = λ {ts} e. law.only_deeper (sym (same ts) ∙ e);
    found_alike = λ front {a} {x} {rest} other e. same (front ++ (x ∷ other)) ∙ law.found_alike front other (sym (same (front ++ (x ∷ rest))) ∙ e);
    fault_alike = λ front {deep} {x} {rest} other e. same (front ++ (x ∷ other)) ∙ law.fault_alike front other (sym (same (front ++ (x ∷ rest))) ∙ e);
    found_deeper = λ {ts} e. same' ts ∙ law.found_deeper (sym (same ts) ∙ e);
    fault_deeper = λ {ts} e. same' ts ∙ law.fault_deeper (sym (same ts) ∙ e);
    grows = law.grows;
  }

  pub law_same : {q q' : Reader K A} → ((ts : List K) → q ts ≡ p ts) → ((ts : List K) → q' ts ≡ p' ts) → Lawful d p p' D S → Lawful d q q' D S
  law_same same same' law = record { careful = careful_same same same' law.careful; some_text = law.some_text }

  -- of a grammar with the same texts, from this depth on
  module _ {E : Texts K A} (to : (e : ℕ) → d ≤ e → (a : A) (text : List K) → D e a text → E e a text) (back : (a : A) (text : List K) → E d a text → D d a text) where
    pub careful_fit : Careful d p p' D S → Careful d p p' E S
    careful_fit law = record {
      sound = λ {ts} {a} e. let (f, is, text) = law.sound e in (f, is, to d (le_refl d) a f text);
      complete = λ {a} {front} x rest text stop. law.complete x rest (back a front text) stop;
      viable = λ e. let (f, is, some) = law.viable e in (f, is, ⊎_elim inl (λ b. inr (begins_to D E to d (le_refl d) f b)) some);
      only_deeper = λ {ts} {x} e. let (f, is, e', deep, some) = law.only_deeper e in (f, is, e', deep, begins_to D E to e' deep (f ++ (x ∷ [])) some);
      found_alike = law.found_alike;
      fault_alike = law.fault_alike;
      found_deeper = law.found_deeper;
      fault_deeper = law.fault_deeper;
      grows = λ {a} {front} e deep text. to e deep a front (law.grows e deep (back a front text));
    }

    pub law_fit : Lawful d p p' D S → Lawful d p p' E S
    law_fit law = record {
      careful = careful_fit law.careful;
      some_text = λ e deep. let (a, f, text) = law.some_text e deep in (a, f, to e deep a f text);
    }

-- what a list begins with, or what stands behind it begins with
pub first_append : {K : Type 0} (x : K) (f g : List K) → first_of x (f ++ g) ≡ first_of (first_of x g) f
first_append x [] g = refl
first_append x (y ∷ f) g = refl

module _ {K A : Type 0} {d : ℕ} {S R : K → Type 0} where
  -- the empty text: what stops it must do
  pub starts_is : {a : A} → ((x : K) → S x → R x) → Starts d (Is a) S R
  starts_is stops = record { begins_with = λ b text x (same, none) stop. rw none (stops x stop) }

  -- a token and anything
  pub starts_token : {B : Type 0} {test : K → Option B} {E : B → Texts K A} → ((k : K) (b : B) → test k ≡ Some b → R k) → Starts d (Then (One test) E) S R
  starts_token each = record { begins_with = λ a text x (b, one, back, is, (k, one_is, some), more) stop. rw is (rw one_is (each k b some)) }

  pub starts_one : {test : K → Option A} → ((k : K) (a : A) → test k ≡ Some a → R k) → Starts d (One test) S R
  starts_one each = record { begins_with = λ a text x (k, is, some) stop. rw is (each k a some) }

  pub starts_or : {D P : Texts K A} → Starts d D S R → Starts d P S R → Starts d (Or D P) S R
  starts_or one other = record { begins_with = λ a text x either stop. ⊎_elim (λ is. one.begins_with a text x is stop) (λ is. other.begins_with a text x is stop) either }

  pub starts_never : Starts {A = A} d Never S R
  starts_never = record { begins_with = λ a text x is stop. absurd is }

  -- with fewer stops, and among more
  pub starts_among : {T Q : K → Type 0} {D : Texts K A} → ((x : K) → T x → S x) → ((x : K) → R x → Q x) → Starts d D S R → Starts d D T Q
  starts_among fewer more law = record { begins_with = λ a text x is stop. more (first_of x text) (law.begins_with a text x is (fewer x stop)) }

  -- the one and then the other
  pub starts_then : {B : Type 0} {T : K → Type 0} {D : Texts K B} {E : B → Texts K A} → Starts d D T R → ((b : B) → Starts d (E b) S T) → Starts d (Then D E) S R
  starts_then first next = record {
    begins_with = λ a text x (b, front, back, is, left, right) stop.
        rw is (subst R (sym (first_append x front back)) (first.begins_with b front (first_of x back) left ((next b).begins_with a back x right stop)));
  }

-- What opens with such a token starts with one, whatever stands behind.
pub starts_opens : {K A : Type 0} {d : ℕ} {D : Texts K A} {test : K → Bool} {S : K → Type 0} → Opens d D test → Starts d D S (IsYes test)
starts_opens law = record { begins_with = λ a text x is stop. let (k, more, from, yes_is) = law.opens_with a text is in rw from yes_is }

module _ {K A : Type 0} {d : ℕ} {test : K → Bool} where
  pub opens_token : {B : Type 0} {taken : K → Option B} {E : B → Texts K A} → ((k : K) (b : B) → taken k ≡ Some b → test k ≡ true) → Opens d (Then (One taken) E) test
  opens_token each = record { opens_with = λ a text (b, one, back, is, (k, one_is, some), more). (k, back, is ∙ ap (λ l. l ++ back) one_is, each k b some) }

  pub opens_or : {D P : Texts K A} → Opens d D test → Opens d P test → Opens d (Or D P) test
  opens_or one other = record { opens_with = λ a text either. ⊎_elim (λ is. one.opens_with a text is) (λ is. other.opens_with a text is) either }

  pub opens_never : Opens {A = A} d Never test
  opens_never = record { opens_with = λ a text is. absurd is }

  pub opens_then : {B : Type 0} {D : Texts K B} {E : B → Texts K A} → Opens d D test → Opens d (Then D E) test
  opens_then first = record {
    opens_with = λ a text (b, front, back, is, left, right).
        let (k, more, from, yes_is) = first.opens_with b front left in
        (k, more ++ back, is ∙ ap (λ l. l ++ back) from, yes_is);
  }
