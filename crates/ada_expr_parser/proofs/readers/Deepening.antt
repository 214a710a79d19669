-- The laws of readers of tokens that open something deeper.
use Rattle.std.proofs.Common.{◌≡◌, ℕ, zero, suc, ◌-◌, ◌≤◌, Bool, true, false, ◌⊎◌, inl, inr, ⊎_elim, List, [], ◌∷◌, ◌++◌, refl, sym, ap, ◌∙◌, subst, Option, Some, None, arith}
use Rattle.std.specs.Prelude.{if◌then◌else◌, nat_eq}
use Rattle.std.proofs.lemmas.List.{append_cancel_right}
use Rattle.ada_expr_parser.specs.readers.Readers.{Found, Fault, Reader, on, on_token, below, below_token}
use Rattle.ada_expr_parser.specs.readers.Grammars.{Texts, One, Then, Or, Below, Raised, Begins, first_of, Starts}
use Rattle.ada_expr_parser.specs.readers.Lawful.{Careful, Lawful, IsPassed}
use Rattle.ada_expr_parser.proofs.readers.Basics.{not_both, fault_rest, fault_deep, not_deep, not_empty, tested}
use Rattle.ada_expr_parser.proofs.readers.Fitting.{careful_same}
use Rattle.ada_expr_parser.proofs.readers.Choosing.{careful_on}

-- what is lawful at one depth is so one level deeper, as what stands below
module _ {K A : Type 0} {d : ℕ} {p p' : Reader K A} {D : Texts K A} {S : K → Type 0} where
  grows_below : Lawful d p p' D S → {a : A} {front : List K} (e : ℕ) → suc d ≤ e → Below D (suc d) a front → Below D e a front
  grows_below law zero deep text = absurd (omega (arith, deep))
  grows_below law (suc e) deep text = law.careful.grows e (omega (arith, deep)) text

  some_below : Lawful d p p' D S → (e : ℕ) → suc d ≤ e → (a : A) × (front : List K) × Below D e a front
  some_below law zero deep = absurd (omega (arith, deep))
  some_below law (suc e) deep = law.some_text e (omega (arith, deep))

  pub law_shifted : Lawful d p p' D S → Lawful (suc d) p p' (Below D) S
  law_shifted law = record {
    careful = record {
      sound = law.careful.sound;
      complete = law.careful.complete;
      viable = law.careful.viable;
      only_deeper = λ e. let (f, is, e', deep, some) = law.careful.only_deeper e in (f, is, suc e', omega (arith, deep), some);
      found_alike = law.careful.found_alike;
      fault_alike = law.careful.fault_alike;
      found_deeper = law.careful.found_deeper;
      fault_deeper = law.careful.fault_deeper;
      grows = grows_below law;
    };
    some_text = some_below law;
  }

-- and what is lawful one level higher is so here, as what stands behind the end of what was deeper
less_one : (d n : ℕ) → suc d ≤ n → (m : ℕ) × (n ≡ suc m) × (d ≤ m)
less_one d zero deep = absurd (omega (arith, deep))
less_one d (suc m) deep = (m, refl, omega (arith, deep))

module _ {K A : Type 0} {d : ℕ} {p p' : Reader K A} {D : Texts K A} {S : K → Type 0} where
  raised_deeper : Lawful (suc d) p p' D S → {ts : List K} {x : K} {rest : List K} → p ts ≡ Fault true (x ∷ rest) →
      (front : List K) × (ts ≡ front ++ (x ∷ rest)) × (e : ℕ) × (d ≤ e) × Begins (Raised D e) (front ++ (x ∷ []))
  raised_deeper law {x = x} e =
      let (f, is, n, deep, some) = law.careful.only_deeper e in
      let (m, same, high) = less_one d n deep in
      (f, is, m, high, subst (λ k. Begins (D k) (f ++ (x ∷ []))) same some)

  pub law_raised : Lawful (suc d) p p' D S → Lawful d p p' (Raised D) S
  law_raised law = record {
    careful = record {
      sound = law.careful.sound;
      complete = law.careful.complete;
      viable = law.careful.viable;
      only_deeper = raised_deeper law;
      found_alike = law.careful.found_alike;
      fault_alike = law.careful.fault_alike;
      found_deeper = law.careful.found_deeper;
      fault_deeper = law.careful.fault_deeper;
      grows = λ n deep text. law.careful.grows (suc n) (omega (arith, deep)) text;
    };
    some_text = λ n deep. law.some_text (suc n) (omega (arith, deep));
  }

one_less : (d : ℕ) → suc d - 1 ≡ d
one_less d = omega arith

not_zero : (d : ℕ) → nat_eq (suc d) 0 ≡ false
not_zero d = grind arith

-- where a level is left the token is simply taken
below_taken : {K A B : Type 0} (d : ℕ) (m : Option B) (next : ℕ → B → Reader K A) (other : Reader K A) (k : K) (ts : List K) →
    below_token (suc d) m next other k ts ≡ on_token m (next d) other k ts
below_taken d (Some b) next other k ts = rw (one_less d) (ap (λ t. if t then Fault true (k ∷ ts) else next d b ts) (not_zero d))
below_taken d None next other k ts = refl

pub below_on : {K A B : Type 0} (d : ℕ) (test : K → Option B) (next : ℕ → B → Reader K A) (other : Reader K A) (ts : List K) →
    below (suc d) test next other ts ≡ on test (next d) other ts
below_on d test next other [] = refl
below_on d test next other (k ∷ ts) = below_taken d (test k) next other k ts

-- where no level is left: the token is too deep
module _ {K A B : Type 0} (test : K → Option B) (next next' : ℕ → B → Reader K A) (other other' : Reader K A) (E : B → Texts K A) (P : Texts K A) (S : K → Type 0)
    (deep_text : (b : B) → (e : ℕ) × (a : A) × (f : List K) × E b e a f)
    (rest_of : Careful zero other other' P S) (apart : Starts zero P S (IsPassed test)) where
  stops_at : {k : K} {b : B} {ts : List K} → test k ≡ Some b → below zero test next other (k ∷ ts) ≡ Fault true (k ∷ ts)
  stops_at {k} {b} {ts} e = ap (λ m. below_token zero m next other k ts) e

  passes_by : {k : K} (ts : List K) → test k ≡ None → below zero test next other (k ∷ ts) ≡ other (k ∷ ts)
  passes_by {k} ts e = ap (λ m. below_token zero m next other k ts) e

  zero_sound : (ts : List K) {a : A} {rest : List K} → below zero test next other ts ≡ Found a rest → (front : List K) × (ts ≡ front ++ rest) × Or (Then (One test) (λ b. Below (E b))) P zero a front
  zero_sound [] e = absurd (not_both (sym e))
  zero_sound (k ∷ ts) e = ⊎_elim
      (λ none. let (f, is, text) = rest_of.sound (sym (passes_by ts none) ∙ e) in (f, is, inr text))
      (λ (b, some). absurd (not_both (sym (sym (stops_at some) ∙ e))))
      (tested (test k))

  zero_other : {a : A} (front : List K) (x : K) (rest : List K) → P zero a front → S x → below zero test next other (front ++ (x ∷ rest)) ≡ Found a (x ∷ rest)
  zero_other {a} [] x rest text stop = passes_by rest (apart.begins_with a [] x text stop) ∙ rest_of.complete x rest text stop
  zero_other {a} (y ∷ front) x rest text stop = passes_by (front ++ (x ∷ rest)) (apart.begins_with a (y ∷ front) x text stop) ∙ rest_of.complete x rest text stop

  zero_complete : {a : A} {front : List K} (x : K) (rest : List K) → Or (Then (One test) (λ b. Below (E b))) P zero a front → S x → below zero test next other (front ++ (x ∷ rest)) ≡ Found a (x ∷ rest)
  zero_complete x rest (inl (b, one, back, is, one_is, text)) stop = absurd text
  zero_complete {a} {front} x rest (inr text) stop = zero_other front x rest text stop

  zero_viable : (ts : List K) {deep : Bool} {rest : List K} → below zero test next other ts ≡ Fault deep rest →
      (front : List K) × (ts ≡ front ++ rest) × ((front ≡ []) ⊎ Begins (Or (Then (One test) (λ b. Below (E b))) P zero) front)
  zero_viable [] e = ([], fault_rest e, inl refl)
  zero_viable (k ∷ ts) e = ⊎_elim
      (λ none. let (f, is, some) = rest_of.viable (sym (passes_by ts none) ∙ e) in
      (f, is, ⊎_elim inl (λ (a, more, text). inr (a, more, inr text)) some))
      (λ (b, some). ([], fault_rest (sym (stops_at some) ∙ e), inl refl))
      (tested (test k))

  zero_only_deeper : (ts : List K) {x : K} {rest : List K} → below zero test next other ts ≡ Fault true (x ∷ rest) →
      (front : List K) × (ts ≡ front ++ (x ∷ rest)) × (e : ℕ) × (zero ≤ e) × Begins (Or (Then (One test) (λ b. Below (E b))) P e) (front ++ (x ∷ []))
  zero_only_deeper [] e = absurd (not_deep e)
  zero_only_deeper (k ∷ ts) {x} {rest} e = ⊎_elim
      (λ none. let (f, is, e', deep, (a, more, text)) = rest_of.only_deeper (sym (passes_by ts none) ∙ e) in (f, is, e', deep, (a, more, inr text)))
      (λ (b, some).
      let is : k ∷ ts ≡ x ∷ rest = fault_rest (sym (stops_at some) ∙ e) in
      let (e', a, f, text) = deep_text b in
      ([], is, suc e', omega arith, (a, f, inl (b, x ∷ [], f, refl, (x, refl, ap test (sym (ap (first_of k) is)) ∙ some), text))))
      (tested (test k))

  zero_found_alike : (front : List K) {a : A} {x : K} {rest : List K} (more : List K) → below zero test next other (front ++ (x ∷ rest)) ≡ Found a (x ∷ rest) → below zero test next other (front ++ (x ∷ more)) ≡ Found a (x ∷ more)
  zero_found_alike [] {a} {x} {rest} more e = ⊎_elim
      (λ none. passes_by more none ∙ rest_of.found_alike [] more (sym (passes_by rest none) ∙ e))
      (λ (b, some). absurd (not_both (sym (sym (stops_at some) ∙ e))))
      (tested (test x))
  zero_found_alike (y ∷ front) {a} {x} {rest} more e = ⊎_elim
      (λ none. passes_by (front ++ (x ∷ more)) none ∙ rest_of.found_alike (y ∷ front) more (sym (passes_by (front ++ (x ∷ rest)) none) ∙ e))
      (λ (b, some). absurd (not_both (sym (sym (stops_at some) ∙ e))))
      (tested (test y))

  zero_fault_alike : (front : List K) {deep : Bool} {x : K} {rest : List K} (more : List K) → below zero test next other (front ++ (x ∷ rest)) ≡ Fault deep (x ∷ rest) → below zero test next other (front ++ (x ∷ more)) ≡ Fault deep (x ∷ more)
  zero_fault_alike [] {deep} {x} {rest} more e = ⊎_elim
      (λ none. passes_by more none ∙ rest_of.fault_alike [] more (sym (passes_by rest none) ∙ e))
      (λ (b, some). stops_at some ∙ ap (λ t. Fault t (x ∷ more)) (fault_deep (sym (stops_at some) ∙ e)))
      (tested (test x))
  zero_fault_alike (y ∷ front) {deep} {x} {rest} more e = ⊎_elim
      (λ none. passes_by (front ++ (x ∷ more)) none ∙ rest_of.fault_alike (y ∷ front) more (sym (passes_by (front ++ (x ∷ rest)) none) ∙ e))
      (λ (b, some). absurd (not_empty [] y front (sym (append_cancel_right (y ∷ front) [] (x ∷ rest) (fault_rest (sym (stops_at some) ∙ e))))))
      (tested (test y))

  zero_found_deeper : (ts : List K) {a : A} {rest : List K} → below zero test next other ts ≡ Found a rest → below (suc zero) test next' other' ts ≡ Found a rest
  zero_found_deeper [] e = e
  zero_found_deeper (k ∷ ts) e = ⊎_elim
      (λ none. ap (λ m. below_token (suc zero) m next' other' k ts) none ∙ rest_of.found_deeper (sym (passes_by ts none) ∙ e))
      (λ (b, some). absurd (not_both (sym (sym (stops_at some) ∙ e))))
      (tested (test k))

  zero_fault_deeper : (ts : List K) {rest : List K} → below zero test next other ts ≡ Fault false rest → below (suc zero) test next' other' ts ≡ Fault false rest
  zero_fault_deeper [] e = e
  zero_fault_deeper (k ∷ ts) e = ⊎_elim
      (λ none. ap (λ m. below_token (suc zero) m next' other' k ts) none ∙ rest_of.fault_deeper (sym (passes_by ts none) ∙ e))
      (λ (b, some). absurd (not_deep (sym e ∙ stops_at some)))
      (tested (test k))

  zero_grows : {a : A} {front : List K} (e : ℕ) → zero ≤ e → Or (Then (One test) (λ b. Below (E b))) P zero a front → Or (Then (One test) (λ b. Below (E b))) P e a front
  zero_grows e deep (inl (b, one, back, is, one_is, text)) = absurd text
  zero_grows e deep (inr text) = inr (rest_of.grows e deep text)

  careful_zero : Careful zero (below zero test next other) (below (suc zero) test next' other') (Or (Then (One test) (λ b. Below (E b))) P) S
  careful_zero = record {
    sound = λ {ts} e. zero_sound ts e;
    complete = zero_complete;
    viable = λ {ts} e. zero_viable ts e;
    only_deeper = λ {ts} e. zero_only_deeper ts e;
    found_alike = zero_found_alike;
    fault_alike = zero_fault_alike;
    found_deeper = λ {ts} e. zero_found_deeper ts e;
    fault_deeper = λ {ts} e. zero_fault_deeper ts e;
    grows = zero_grows;
  }

module _ {K A B : Type 0} {test : K → Option B} {other other' : Reader K A} {E : B → Texts K A} {P : Texts K A} {S : K → Type 0}
    (next next' : ℕ → B → Reader K A) (deep_text : (b : B) → (e : ℕ) × (a : A) × (f : List K) × E b e a f) where
  pub careful_below : (d : ℕ) → ((e : ℕ) → d ≡ suc e → (b : B) → Lawful e (next e b) (next' (suc e) b) (E b) S) → Careful d other other' P S → Starts d P S (IsPassed test) →
      Careful d (below d test next other) (below (suc d) test next' other') (Or (Then (One test) (λ b. Below (E b))) P) S
  careful_below zero inner rest_of apart = careful_zero test next next' other other' E P S deep_text rest_of apart
  careful_below (suc d) inner rest_of apart = careful_same (below_on d test next other) (below_on (suc d) test next' other')
      (careful_on (λ b. law_shifted (inner d refl b)) rest_of apart)

  pub law_below : (d : ℕ) → ((e : ℕ) → d ≡ suc e → (b : B) → Lawful e (next e b) (next' (suc e) b) (E b) S) → Lawful d other other' P S → Starts d P S (IsPassed test) →
      Lawful d (below d test next other) (below (suc d) test next' other') (Or (Then (One test) (λ b. Below (E b))) P) S
  law_below d inner rest_of apart = record {
    careful = careful_below d inner rest_of.careful apart;
    some_text = λ e deep. let (a, f, text) = rest_of.some_text e deep in (a, f, inr text);
  }
