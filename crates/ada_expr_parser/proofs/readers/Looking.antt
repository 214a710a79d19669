-- The laws of readers that look at the next token and leave it.
use Rattle.std.proofs.Common.{◌≡◌, ℕ, ◌≤◌, Bool, true, false, ◌⊎◌, inl, inr, ⊎_elim, List, [], ◌∷◌, ◌++◌, refl, sym, ap, ◌∙◌, subst}
use Rattle.std.specs.Prelude.{if◌then◌else◌}
use Rattle.std.proofs.lemmas.List.{append_cancel_right}
use Rattle.ada_expr_parser.specs.readers.Readers.{Found, Fault, Reader, look, too_deep}
use Rattle.ada_expr_parser.specs.readers.Grammars.{Texts, Or, Begins, first_of, Starts}
use Rattle.ada_expr_parser.specs.readers.Lawful.{Careful, Lawful, IsYes, IsNo}
use Rattle.ada_expr_parser.proofs.readers.Basics.{not_both, fault_rest, fault_deep, not_deep}

pub decided : (b : Bool) → (b ≡ true) ⊎ (b ≡ false)
decided true = inl refl
decided false = inr refl

-- What stands where the test holds: a reader that is lawful, or a fault that is too deep, on lists that begin so. The reader is asked only of these.
pub record CarefulWhere {K A : Type 0} (test : K → Bool) (d : ℕ) (p deeper : Reader K A) (D : Texts K A) (Stops : K → Type 0) : Type 0 where
  pub sound : {k : K} {ts : List K} {a : A} {rest : List K} → test k ≡ true → p (k ∷ ts) ≡ Found a rest → (front : List K) × (k ∷ ts ≡ front ++ rest) × D d a front
  pub complete : {k : K} {ts : List K} {a : A} {front : List K} (x : K) (rest : List K) → k ∷ ts ≡ front ++ (x ∷ rest) → test k ≡ true → D d a front → Stops x → p (front ++ (x ∷ rest)) ≡ Found a (x ∷ rest)
  pub viable : {k : K} {ts : List K} {deep : Bool} {rest : List K} → test k ≡ true → p (k ∷ ts) ≡ Fault deep rest → (front : List K) × (k ∷ ts ≡ front ++ rest) × ((front ≡ []) ⊎ Begins (D d) front)
  pub only_deeper : {k : K} {ts : List K} {x : K} {rest : List K} → test k ≡ true → p (k ∷ ts) ≡ Fault true (x ∷ rest) →
      (front : List K) × (k ∷ ts ≡ front ++ (x ∷ rest)) × (e : ℕ) × (d ≤ e) × Begins (D e) (front ++ (x ∷ []))
  pub found_alike : (front : List K) {a : A} {x : K} {rest : List K} (other : List K) → test (first_of x front) ≡ true → p (front ++ (x ∷ rest)) ≡ Found a (x ∷ rest) → p (front ++ (x ∷ other)) ≡ Found a (x ∷ other)
  pub fault_alike : (front : List K) {deep : Bool} {x : K} {rest : List K} (other : List K) → test (first_of x front) ≡ true → p (front ++ (x ∷ rest)) ≡ Fault deep (x ∷ rest) → p (front ++ (x ∷ other)) ≡ Fault deep (x ∷ other)
  pub found_deeper : {k : K} {ts : List K} {a : A} {rest : List K} → test k ≡ true → p (k ∷ ts) ≡ Found a rest → deeper (k ∷ ts) ≡ Found a rest
  pub fault_deeper : {k : K} {ts : List K} {rest : List K} → test k ≡ true → p (k ∷ ts) ≡ Fault false rest → deeper (k ∷ ts) ≡ Fault false rest
  pub grows : {a : A} {front : List K} (e : ℕ) → d ≤ e → D d a front → D e a front

module _ {K A : Type 0} (test : K → Bool) {d : ℕ} {p p' : Reader K A} {D : Texts K A} {S : K → Type 0} where
  pub careful_where : Careful d p p' D S → CarefulWhere test d p p' D S
  careful_where law = record {
    sound = λ is e. law.sound e;
    complete = λ x rest from is text stop. law.complete x rest text stop;
    viable = λ is e. law.viable e;
    only_deeper = λ is e. law.only_deeper e;
    found_alike = λ front other is e. law.found_alike front other e;
    fault_alike = λ front other is e. law.fault_alike front other e;
    found_deeper = λ is e. law.found_deeper e;
    fault_deeper = λ is e. law.fault_deeper e;
    grows = law.grows;
  }

-- where nothing that begins so is a text at this depth, and something is deeper
pub too_deep_where : {K A : Type 0} (test : K → Bool) {d : ℕ} {p' : Reader K A} {D : Texts K A} {S : K → Type 0} → ((a : A) (text : List K) → D d a text → ⊥) → ((k : K) → test k ≡ true → (e : ℕ) × (d ≤ e) × Begins (D e) (k ∷ [])) → CarefulWhere test d too_deep p' D S
too_deep_where test {D = D} none deep_text = record {
  sound = λ is e. absurd (not_both (sym e));
  complete = λ {a} {front} x rest from is text stop. absurd (none a front text);
  viable = λ is e. ([], fault_rest e, inl refl);
  only_deeper = λ {k} is e.
      let same = fault_rest e in
      let (e', deep, some) = deep_text k is in
      ([], same, e', deep, subst (λ l. Begins (D e') (l ∷ [])) (ap (first_of k) same) some);
  found_alike = λ front other is e. absurd (not_both (sym e));
  fault_alike = λ front {deep} {x} {rest} other is e.
      rw (append_cancel_right front [] (x ∷ rest) (fault_rest e)) (ap (λ b. Fault b (x ∷ other)) (fault_deep e));
  found_deeper = λ is e. absurd (not_both (sym e));
  fault_deeper = λ is e. absurd (not_deep (sym e));
  grows = λ {a} {front} e deep text. absurd (none a front text);
}

module _ {K A : Type 0} {test : K → Bool} {d : ℕ} {p p' q q' : Reader K A} {D P : Texts K A} {S : K → Type 0}
    (where_yes : CarefulWhere test d p p' D S) (where_no : Careful d q q' P S) (passing : Starts d D S (IsYes test)) (failing : Starts d P S (IsNo test)) where
  yes_is : {k : K} (ts : List K) → test k ≡ true → look test p q (k ∷ ts) ≡ p (k ∷ ts)
  yes_is {k} ts e = ap (λ b. if b then p (k ∷ ts) else q (k ∷ ts)) e

  no_is : {k : K} (ts : List K) → test k ≡ false → look test p q (k ∷ ts) ≡ q (k ∷ ts)
  no_is {k} ts e = ap (λ b. if b then p (k ∷ ts) else q (k ∷ ts)) e

  yes_at : (front : List K) (x : K) (rest : List K) → test (first_of x front) ≡ true → look test p q (front ++ (x ∷ rest)) ≡ p (front ++ (x ∷ rest))
  yes_at [] x rest e = yes_is rest e
  yes_at (y ∷ front) x rest e = yes_is (front ++ (x ∷ rest)) e

  no_at : (front : List K) (x : K) (rest : List K) → test (first_of x front) ≡ false → look test p q (front ++ (x ∷ rest)) ≡ q (front ++ (x ∷ rest))
  no_at [] x rest e = no_is rest e
  no_at (y ∷ front) x rest e = no_is (front ++ (x ∷ rest)) e

  complete_yes : {a : A} (front : List K) (x : K) (rest : List K) → test (first_of x front) ≡ true → D d a front → S x → p (front ++ (x ∷ rest)) ≡ Found a (x ∷ rest)
  complete_yes [] x rest is text stop = where_yes.complete x rest refl is text stop
  complete_yes (y ∷ front) x rest is text stop = where_yes.complete x rest refl is text stop

  look_sound : (ts : List K) {a : A} {rest : List K} → look test p q ts ≡ Found a rest → (front : List K) × (ts ≡ front ++ rest) × Or D P d a front
  look_sound [] e = absurd (not_both (sym e))
  look_sound (k ∷ ts) e = ⊎_elim
      (λ is. let (f, from, text) = where_yes.sound is (sym (yes_is ts is) ∙ e) in (f, from, inl text))
      (λ is. let (f, from, text) = where_no.sound (sym (no_is ts is) ∙ e) in (f, from, inr text))
      (decided (test k))

  look_complete : {a : A} {front : List K} (x : K) (rest : List K) → Or D P d a front → S x → look test p q (front ++ (x ∷ rest)) ≡ Found a (x ∷ rest)
  look_complete {a} {front} x rest (inl text) stop =
      let is = passing.begins_with a front x text stop in
      yes_at front x rest is ∙ complete_yes front x rest is text stop
  look_complete {a} {front} x rest (inr text) stop = no_at front x rest (failing.begins_with a front x text stop) ∙ where_no.complete x rest text stop

  look_viable : (ts : List K) {deep : Bool} {rest : List K} → look test p q ts ≡ Fault deep rest → (front : List K) × (ts ≡ front ++ rest) × ((front ≡ []) ⊎ Begins (Or D P d) front)
  look_viable [] e = ([], fault_rest e, inl refl)
  look_viable (k ∷ ts) e = ⊎_elim
      (λ is. let (f, from, some) = where_yes.viable is (sym (yes_is ts is) ∙ e) in (f, from, ⊎_elim inl (λ (a, more, text). inr (a, more, inl text)) some))
      (λ is. let (f, from, some) = where_no.viable (sym (no_is ts is) ∙ e) in (f, from, ⊎_elim inl (λ (a, more, text). inr (a, more, inr text)) some))
      (decided (test k))

  look_only_deeper : (ts : List K) {x : K} {rest : List K} → look test p q ts ≡ Fault true (x ∷ rest) →
      (front : List K) × (ts ≡ front ++ (x ∷ rest)) × (e : ℕ) × (d ≤ e) × Begins (Or D P e) (front ++ (x ∷ []))
  look_only_deeper [] e = absurd (not_deep e)
  look_only_deeper (k ∷ ts) e = ⊎_elim
      (λ is. let (f, from, e', deep, (a, more, text)) = where_yes.only_deeper is (sym (yes_is ts is) ∙ e) in (f, from, e', deep, (a, more, inl text)))
      (λ is. let (f, from, e', deep, (a, more, text)) = where_no.only_deeper (sym (no_is ts is) ∙ e) in (f, from, e', deep, (a, more, inr text)))
      (decided (test k))

  look_found_alike : (front : List K) {a : A} {x : K} {rest : List K} (more : List K) → look test p q (front ++ (x ∷ rest)) ≡ Found a (x ∷ rest) → look test p q (front ++ (x ∷ more)) ≡ Found a (x ∷ more)
  look_found_alike front {a} {x} {rest} more e = ⊎_elim
      (λ is. yes_at front x more is ∙ where_yes.found_alike front more is (sym (yes_at front x rest is) ∙ e))
      (λ is. no_at front x more is ∙ where_no.found_alike front more (sym (no_at front x rest is) ∙ e))
      (decided (test (first_of x front)))

  look_fault_alike : (front : List K) {deep : Bool} {x : K} {rest : List K} (more : List K) → look test p q (front ++ (x ∷ rest)) ≡ Fault deep (x ∷ rest) → look test p q (front ++ (x ∷ more)) ≡ Fault deep (x ∷ more)
  look_fault_alike front {deep} {x} {rest} more e = ⊎_elim
      (λ is. yes_at front x more is ∙ where_yes.fault_alike front more is (sym (yes_at front x rest is) ∙ e))
      (λ is. no_at front x more is ∙ where_no.fault_alike front more (sym (no_at front x rest is) ∙ e))
      (decided (test (first_of x front)))

  look_found_deeper : (ts : List K) {a : A} {rest : List K} → look test p q ts ≡ Found a rest → look test p' q' ts ≡ Found a rest
  look_found_deeper [] e = e
  look_found_deeper (k ∷ ts) e = ⊎_elim
      (λ is. ap (λ b. if b then p' (k ∷ ts) else q' (k ∷ ts)) is ∙ where_yes.found_deeper is (sym (yes_is ts is) ∙ e))
      (λ is. ap (λ b. if b then p' (k ∷ ts) else q' (k ∷ ts)) is ∙ where_no.found_deeper (sym (no_is ts is) ∙ e))
      (decided (test k))

  look_fault_deeper : (ts : List K) {rest : List K} → look test p q ts ≡ Fault false rest → look test p' q' ts ≡ Fault false rest
  look_fault_deeper [] e = e
  look_fault_deeper (k ∷ ts) e = ⊎_elim
      (λ is. ap (λ b. if b then p' (k ∷ ts) else q' (k ∷ ts)) is ∙ where_yes.fault_deeper is (sym (yes_is ts is) ∙ e))
      (λ is. ap (λ b. if b then p' (k ∷ ts) else q' (k ∷ ts)) is ∙ where_no.fault_deeper (sym (no_is ts is) ∙ e))
      (decided (test k))

  look_grows : {a : A} {front : List K} (e : ℕ) → d ≤ e → Or D P d a front → Or D P e a front
  look_grows e deep (inl text) = inl (where_yes.grows e deep text)
  look_grows e deep (inr text) = inr (where_no.grows e deep text)

  pub careful_look : Careful d (look test p q) (look test p' q') (Or D P) S
  careful_look = record {
    sound = λ {ts} e. look_sound ts e;
    complete = look_complete;
    viable = λ {ts} e. look_viable ts e;
    only_deeper = λ {ts} e. look_only_deeper ts e;
    found_alike = look_found_alike;
    fault_alike = look_fault_alike;
    found_deeper = λ {ts} e. look_found_deeper ts e;
    fault_deeper = λ {ts} e. look_fault_deeper ts e;
    grows = look_grows;
  }

pub law_look : {K A : Type 0} {test : K → Bool} {d : ℕ} {p p' q q' : Reader K A} {D P : Texts K A} {S : K → Type 0} →
    Careful d p p' D S → Lawful d q q' P S → Starts d D S (IsYes test) → Starts d P S (IsNo test) → Lawful d (look test p q) (look test p' q') (Or D P) S
law_look {test = test} one other passing failing = record {
  careful = careful_look (careful_where test one) other.careful passing failing;
  some_text = λ e deep. let (a, f, text) = other.some_text e deep in (a, f, inr text);
}
