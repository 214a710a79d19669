-- The laws of readers that go by the next token.
use Rattle.std.proofs.Common.{◌≡◌, ℕ, ◌≤◌, Bool, true, false, ◌⊎◌, inl, inr, ⊎_elim, List, [], ◌∷◌, ◌++◌, refl, sym, ap, ◌∙◌, Option, Some, None}
use Rattle.std.proofs.Math.Nat.{le_refl}
use Rattle.std.proofs.lemmas.List.{append_cancel_right}
use Rattle.ada_expr_parser.specs.readers.Readers.{Found, Fault, Reader, refuse, on, on_token}
use Rattle.ada_expr_parser.specs.readers.Grammars.{Texts, Never, One, Then, Or, Begins, Starts}
use Rattle.ada_expr_parser.specs.readers.Lawful.{Careful, Lawful, IsPassed}
use Rattle.ada_expr_parser.proofs.readers.Basics.{not_both, fault_rest, fault_deep, not_deep, not_behind, tested}
use Rattle.ada_expr_parser.proofs.readers.Binding.{begins_some}

pub careful_refuse : {K A : Type 0} (d : ℕ) (S : K → Type 0) → Careful {A = A} d refuse refuse Never S
careful_refuse d S = record {
  sound = λ e. absurd (not_both (sym e));
  complete = λ x rest text stop. absurd text;
  viable = λ {ts} e. ([], fault_rest e, inl refl);
  only_deeper = λ e. absurd (not_deep e);
  found_alike = λ front other e. absurd (not_both (sym e));
  fault_alike = λ front {deep} {x} {rest} other e.
      rw (append_cancel_right front [] (x ∷ rest) (fault_rest e)) (ap (λ b. Fault b (x ∷ other)) (fault_deep e));
  found_deeper = λ e. e;
  fault_deeper = λ e. e;
  grows = λ e deep text. text;
}

-- a token that is taken, and what is read behind it
begins_token : {K A B : Type 0} (d : ℕ) (test : K → Option B) (E : B → Texts K A) (P : Texts K A) (k : K) (b : B) → test k ≡ Some b → (front : List K) → Begins (E b d) front →
    Begins (Or (Then (One test) E) P d) (k ∷ front)
begins_token d test E P k b is front (a, more, text) = (a, more, inl (b, k ∷ [], front ++ more, refl, (k, refl, is), text))

begins_other : {K A : Type 0} (d : ℕ) (L P : Texts K A) (front : List K) → Begins (P d) front → Begins (Or L P d) front
begins_other d L P front (a, more, text) = (a, more, inr text)

module _ {K A B : Type 0} {d : ℕ} {test : K → Option B} {next next' : B → Reader K A} {other other' : Reader K A} {E : B → Texts K A} {P : Texts K A} {S : K → Type 0}
    (taken : (b : B) → Lawful d (next b) (next' b) (E b) S) (rest_of : Careful d other other' P S)
    (apart : Starts d P S (IsPassed test)) where
  D : Texts K A
  D = Or (Then (One test) E) P

  takes : {k : K} {b : B} {ts : List K} → test k ≡ Some b → on test next other (k ∷ ts) ≡ next b ts
  takes {k} {b} {ts} e = ap (λ m. on_token m next other k ts) e

  passes : {k : K} (ts : List K) → test k ≡ None → on test next other (k ∷ ts) ≡ other (k ∷ ts)
  passes {k} ts e = ap (λ m. on_token m next other k ts) e

  on_sound : (ts : List K) {a : A} {rest : List K} → on test next other ts ≡ Found a rest → (front : List K) × (ts ≡ front ++ rest) × Or (Then (One test) E) P d a front
  on_sound [] e = absurd (not_both (sym e))
  on_sound (k ∷ ts) e = ⊎_elim
      (λ none. let (f, is, text) = rest_of.sound (sym (passes ts none) ∙ e) in (f, is, inr text))
      (λ (b, some). let (f, is, text) = (taken b).careful.sound (sym (takes some) ∙ e) in
      (k ∷ f, ap (λ l. k ∷ l) is, inl (b, k ∷ [], f, refl, (k, refl, some), text)))
      (tested (test k))

  on_other : {a : A} (front : List K) (x : K) (rest : List K) → P d a front → S x → on test next other (front ++ (x ∷ rest)) ≡ Found a (x ∷ rest)
  on_other {a} [] x rest text stop = passes rest (apart.begins_with a [] x text stop) ∙ rest_of.complete x rest text stop
  on_other {a} (y ∷ front) x rest text stop = passes (front ++ (x ∷ rest)) (apart.begins_with a (y ∷ front) x text stop) ∙ rest_of.complete x rest text stop

  on_complete : {a : A} {front : List K} (x : K) (rest : List K) → Or (Then (One test) E) P d a front → S x → on test next other (front ++ (x ∷ rest)) ≡ Found a (x ∷ rest)
  on_complete {a} {front} x rest (inl (b, one, back, is, (k, one_is, some), text)) stop =
      rw is (rw one_is (takes some ∙ (taken b).careful.complete x rest text stop))
  on_complete {a} {front} x rest (inr text) stop = on_other front x rest text stop

  on_viable : (ts : List K) {deep : Bool} {rest : List K} → on test next other ts ≡ Fault deep rest →
      (front : List K) × (ts ≡ front ++ rest) × ((front ≡ []) ⊎ Begins (Or (Then (One test) E) P d) front)
  on_viable [] e = ([], fault_rest e, inl refl)
  on_viable (k ∷ ts) {deep} {rest} e = ⊎_elim
      (λ none. let (f, is, some) = rest_of.viable (sym (passes ts none) ∙ e) in
      (f, is, ⊎_elim inl (λ b. inr (begins_other d (Then (One test) E) P f b)) some))
      (λ (b, some). let (f, is, text) = (taken b).careful.viable (sym (takes some) ∙ e) in
      (k ∷ f, ap (λ l. k ∷ l) is, inr (begins_token d test E P k b some f (begins_some (taken b) d (le_refl d) text))))
      (tested (test k))

  on_only_deeper : (ts : List K) {x : K} {rest : List K} → on test next other ts ≡ Fault true (x ∷ rest) →
      (front : List K) × (ts ≡ front ++ (x ∷ rest)) × (e : ℕ) × (d ≤ e) × Begins (Or (Then (One test) E) P e) (front ++ (x ∷ []))
  on_only_deeper [] e = absurd (not_deep e)
  on_only_deeper (k ∷ ts) {x} {rest} e = ⊎_elim
      (λ none. let (f, is, e', deep, some) = rest_of.only_deeper (sym (passes ts none) ∙ e) in
      (f, is, e', deep, begins_other e' (Then (One test) E) P (f ++ (x ∷ [])) some))
      (λ (b, some). let (f, is, e', deep, text) = (taken b).careful.only_deeper (sym (takes some) ∙ e) in
      (k ∷ f, ap (λ l. k ∷ l) is, e', deep, begins_token e' test E P k b some (f ++ (x ∷ [])) text))
      (tested (test k))

  on_found_alike : (front : List K) {a : A} {x : K} {rest : List K} (more : List K) → on test next other (front ++ (x ∷ rest)) ≡ Found a (x ∷ rest) → on test next other (front ++ (x ∷ more)) ≡ Found a (x ∷ more)
  on_found_alike [] {a} {x} {rest} more e = ⊎_elim
      (λ none. passes more none ∙ rest_of.found_alike [] more (sym (passes rest none) ∙ e))
      (λ (b, some). let (f, is, text) = (taken b).careful.sound (sym (takes some) ∙ e) in absurd (not_behind f x rest is))
      (tested (test x))
  on_found_alike (y ∷ front) {a} {x} {rest} more e = ⊎_elim
      (λ none. passes (front ++ (x ∷ more)) none ∙ rest_of.found_alike (y ∷ front) more (sym (passes (front ++ (x ∷ rest)) none) ∙ e))
      (λ (b, some). takes some ∙ (taken b).careful.found_alike front more (sym (takes some) ∙ e))
      (tested (test y))

  on_fault_alike : (front : List K) {deep : Bool} {x : K} {rest : List K} (more : List K) → on test next other (front ++ (x ∷ rest)) ≡ Fault deep (x ∷ rest) → on test next other (front ++ (x ∷ more)) ≡ Fault deep (x ∷ more)
  on_fault_alike [] {deep} {x} {rest} more e = ⊎_elim
      (λ none. passes more none ∙ rest_of.fault_alike [] more (sym (passes rest none) ∙ e))
      (λ (b, some). let (f, is, text) = (taken b).careful.viable (sym (takes some) ∙ e) in absurd (not_behind f x rest is))
      (tested (test x))
  on_fault_alike (y ∷ front) {deep} {x} {rest} more e = ⊎_elim
      (λ none. passes (front ++ (x ∷ more)) none ∙ rest_of.fault_alike (y ∷ front) more (sym (passes (front ++ (x ∷ rest)) none) ∙ e))
      (λ (b, some). takes some ∙ (taken b).careful.fault_alike front more (sym (takes some) ∙ e))
      (tested (test y))

  on_found_deeper : (ts : List K) {a : A} {rest : List K} → on test next other ts ≡ Found a rest → on test next' other' ts ≡ Found a rest
  on_found_deeper [] e = e
  on_found_deeper (k ∷ ts) e = ⊎_elim
      (λ none. ap (λ m. on_token m next' other' k ts) none ∙ rest_of.found_deeper (sym (passes ts none) ∙ e))
      (λ (b, some). ap (λ m. on_token m next' other' k ts) some ∙ (taken b).careful.found_deeper (sym (takes some) ∙ e))
      (tested (test k))

  on_fault_deeper : (ts : List K) {rest : List K} → on test next other ts ≡ Fault false rest → on test next' other' ts ≡ Fault false rest
  on_fault_deeper [] e = e
  on_fault_deeper (k ∷ ts) e = ⊎_elim
      (λ none. ap (λ m. on_token m next' other' k ts) none ∙ rest_of.fault_deeper (sym (passes ts none) ∙ e))
      (λ (b, some). ap (λ m. on_token m next' other' k ts) some ∙ (taken b).careful.fault_deeper (sym (takes some) ∙ e))
      (tested (test k))

  on_grows : {a : A} {front : List K} (e : ℕ) → d ≤ e → Or (Then (One test) E) P d a front → Or (Then (One test) E) P e a front
  on_grows e deep (inl (b, one, back, is, one_is, text)) = inl (b, one, back, is, one_is, (taken b).careful.grows e deep text)
  on_grows e deep (inr text) = inr (rest_of.grows e deep text)

  pub careful_on : Careful d (on test next other) (on test next' other') (Or (Then (One test) E) P) S
  careful_on = record {
    sound = λ {ts} e. on_sound ts e;
    complete = on_complete;
    viable = λ {ts} e. on_viable ts e;
    only_deeper = λ {ts} e. on_only_deeper ts e;
    found_alike = on_found_alike;
    fault_alike = on_fault_alike;
    found_deeper = λ {ts} e. on_found_deeper ts e;
    fault_deeper = λ {ts} e. on_fault_deeper ts e;
    grows = on_grows;
  }

  -- with some token that passes
  pub law_on : (k : K) (b : B) → test k ≡ Some b → Lawful d (on test next other) (on test next' other') (Or (Then (One test) E) P) S
  law_on k b some = record {
    careful = careful_on;
    some_text = λ e deep. let (a, f, text) = (taken b).some_text e deep in (a, k ∷ f, inl (b, k ∷ [], f, refl, (k, refl, some), text));
  }
