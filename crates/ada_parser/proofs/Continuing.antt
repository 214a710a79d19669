-- The law of a reader that goes on where some tokens have been read: what they begin is read by it as if they stood before.
use Rattle.std.proofs.Common.{◌≡◌, ℕ, ◌≤◌, Bool, true, ◌⊎◌, inl, inr, ⊎_elim, List, [], ◌∷◌, ◌++◌, refl, sym, ap, ◌∙◌, subst}
use Rattle.std.proofs.lemmas.List.{append_assoc, append_cancel_right}
use Rattle.ada_expr_parser.specs.readers.Readers.{Found, Fault, Reader}
use Rattle.ada_expr_parser.specs.readers.Grammars.{Texts, Begins, first_of}
use Rattle.ada_expr_parser.specs.readers.Lawful.{Lawful}
use Rattle.ada_expr_parser.proofs.readers.Basics.{not_both, found_rest, not_empty}

abbrev tail_of : {K : Type 0} → List K → List K
tail_of [] = []
tail_of (x ∷ list) = list

-- of two fronts of one list the one begins with the other
pub two_fronts : {K : Type 0} (f g r t : List K) → f ++ r ≡ g ++ t →
    ((m : List K) × (g ≡ f ++ m) × (r ≡ m ++ t)) ⊎ ((y : K) × (m : List K) × (f ≡ g ++ (y ∷ m)) × (t ≡ y ∷ (m ++ r)))
two_fronts [] g r t e = inl (g, refl, e)
two_fronts (y ∷ f) [] r t e = inr (y, f, refl, sym e)
two_fronts (y ∷ f) (z ∷ g) r t e = ⊎_elim
    (λ (m, is, rest). inl (m, ap (λ l. z ∷ l) is ∙ ap (λ k. k ∷ (f ++ m)) (sym (ap (first_of y) e)), rest))
    (λ (x, m, is, rest). inr (x, m, ap (λ l. y ∷ l) is ∙ ap (λ k. k ∷ (g ++ (x ∷ m))) (ap (first_of y) e), rest))
    (two_fronts f g r t (ap tail_of e))

-- the texts that go on so
abbrev pub Onward : {K A : Type 0} → List K → Texts K A → Texts K A
Onward before D d a text = D d a (before ++ text)

module _ {K A : Type 0} (before : List K) {d : ℕ} {p p' q q' : Reader K A} {D : Texts K A} {S : K → Type 0} (law : Lawful d p p' D S)
    (same : (ts : List K) → q ts ≡ p (before ++ ts)) (same' : (ts : List K) → q' ts ≡ p' (before ++ ts)) (s : K) (stop : S s) (some : Begins (D d) before) where
  -- nothing ends within the tokens that have been read, since a text goes on behind them
  no_end : (front : List K) (y : K) (m ts : List K) (a : A) → before ≡ front ++ (y ∷ m) → p (front ++ (y ∷ (m ++ ts))) ≡ Found a (y ∷ (m ++ ts)) → ⊥
  no_end front y m ts a is e =
      let (b, more, text) = some in
      let there : p ((before ++ more) ++ (s ∷ [])) ≡ Found b (s ∷ []) = law.careful.complete s [] text stop in
      let here : p (front ++ (y ∷ (m ++ (more ++ (s ∷ []))))) ≡ Found a (y ∷ (m ++ (more ++ (s ∷ [])))) = law.careful.found_alike front (m ++ (more ++ (s ∷ []))) e in
      let split : (before ++ more) ++ (s ∷ []) ≡ front ++ (y ∷ (m ++ (more ++ (s ∷ [])))) =
      append_assoc before more (s ∷ []) ∙ ap (λ l. l ++ (more ++ (s ∷ []))) is ∙ append_assoc front (y ∷ m) (more ++ (s ∷ [])) in
      let rests : s ∷ [] ≡ y ∷ (m ++ (more ++ (s ∷ []))) = found_rest (sym there ∙ ap p split ∙ here) in
      not_empty (m ++ more) s [] (ap tail_of rests ∙ sym (append_assoc m more (s ∷ [])))

  no_fault : (front : List K) (y : K) (m ts : List K) (deep : Bool) → before ≡ front ++ (y ∷ m) → p (front ++ (y ∷ (m ++ ts))) ≡ Fault deep (y ∷ (m ++ ts)) → ⊥
  no_fault front y m ts deep is e =
      let (b, more, text) = some in
      let there : p ((before ++ more) ++ (s ∷ [])) ≡ Found b (s ∷ []) = law.careful.complete s [] text stop in
      let here : p (front ++ (y ∷ (m ++ (more ++ (s ∷ []))))) ≡ Fault deep (y ∷ (m ++ (more ++ (s ∷ [])))) = law.careful.fault_alike front (m ++ (more ++ (s ∷ []))) e in
      let split : (before ++ more) ++ (s ∷ []) ≡ front ++ (y ∷ (m ++ (more ++ (s ∷ [])))) =
      append_assoc before more (s ∷ []) ∙ ap (λ l. l ++ (more ++ (s ∷ []))) is ∙ append_assoc front (y ∷ m) (more ++ (s ∷ [])) in
      not_both (sym there ∙ ap p split ∙ here)

  found_behind : {ts : List K} {a : A} {rest : List K} → p (before ++ ts) ≡ Found a rest → (f : List K) × (ts ≡ f ++ rest) × D d a (before ++ f)
  found_behind {ts} {a} {rest} e =
      let (front, is, text) = law.careful.sound e in
      ⊎_elim
      (λ (f, from, split). (f, split, subst (D d a) from text))
      (λ (y, m, from, split). absurd (no_end front y m ts a from
      (ap p (sym (append_assoc front (y ∷ m) ts) ∙ ap (λ l. l ++ ts) (sym from)) ∙ e ∙ ap (Found a) split)))
      (two_fronts before front ts rest is)

  fault_behind : {ts : List K} {deep : Bool} {rest : List K} → p (before ++ ts) ≡ Fault deep rest → (f : List K) × (ts ≡ f ++ rest) × ((f ≡ []) ⊎ Begins (D d) (before ++ f))
  fault_behind {ts} {deep} {rest} e =
      let (front, is, begun) = law.careful.viable e in
      ⊎_elim
      (λ (f, from, split). (f, split, ⊎_elim (λ none. inl (empty_end before f (sym from ∙ none))) (λ b. inr (subst (Begins (D d)) from b)) begun))
      (λ (y, m, from, split). absurd (no_fault front y m ts deep from
      (ap p (sym (append_assoc front (y ∷ m) ts) ∙ ap (λ l. l ++ ts) (sym from)) ∙ e ∙ ap (Fault deep) split)))
      (two_fronts before front ts rest is) where
        empty_end : (f g : List K) → f ++ g ≡ [] → g ≡ []
        empty_end [] g none = none
        empty_end (x ∷ f) g none = absurd (not_empty [] x (f ++ g) (sym none))

  begins_onward : (e : ℕ) (f : List K) → Begins (D e) (before ++ f) → Begins (Onward before D e) f
  begins_onward e f (a, more, text) = (a, more, subst (D e a) (append_assoc before f more) text)

  deeper_onward : {ts : List K} {x : K} {rest : List K} → p (before ++ ts) ≡ Fault true (x ∷ rest) → (f : List K) × (ts ≡ f ++ (x ∷ rest)) × (e : ℕ) × (d ≤ e) × Begins (Onward before D e) (f ++ (x ∷ []))
  deeper_onward {ts} {x} {rest} e =
      let (front, is, e', deep, begun) = law.careful.only_deeper e in
      let (f, split, seen) = fault_behind e in
      let same_front : front ≡ before ++ f = append_cancel_right front (before ++ f) (x ∷ rest) (sym is ∙ ap (λ l. before ++ l) split ∙ sym (append_assoc before f (x ∷ rest))) in
      (f, split, e', deep, begins_onward e' (f ++ (x ∷ [])) (subst (Begins (D e')) (ap (λ l. l ++ (x ∷ [])) same_front ∙ append_assoc before f (x ∷ [])) begun))

  pub law_onward : Lawful d q q' (Onward before D) S
  law_onward = record {
    careful = record {
      sound = λ {ts} e. found_behind (sym (same ts) ∙ e);
      complete = λ {a} {front} x rest text stops. same (front ++ (x ∷ rest)) ∙ ap p (sym (append_assoc before front (x ∷ rest))) ∙ law.careful.complete x rest text stops;
      viable = λ {ts} e. let (f, is, begun) = fault_behind (sym (same ts) ∙ e) in (f, is, ⊎_elim inl (λ b. inr (begins_onward d f b)) begun);
      only_deeper = λ {ts} e. deeper_onward (sym (same ts) ∙ e);
      found_alike = λ front {a} {x} {rest} other e. same (front ++ (x ∷ other)) ∙ ap p (sym (append_assoc before front (x ∷ other))) ∙
          law.careful.found_alike (before ++ front) other (ap p (append_assoc before front (x ∷ rest)) ∙ sym (same (front ++ (x ∷ rest))) ∙ e);
      fault_alike = λ front {deep} {x} {rest} other e. same (front ++ (x ∷ other)) ∙ ap p (sym (append_assoc before front (x ∷ other))) ∙
          law.careful.fault_alike (before ++ front) other (ap p (append_assoc before front (x ∷ rest)) ∙ sym (same (front ++ (x ∷ rest))) ∙ e);
      found_deeper = λ {ts} e. same' ts ∙ law.careful.found_deeper (sym (same ts) ∙ e);
      fault_deeper = λ {ts} e. same' ts ∙ law.careful.fault_deeper (sym (same ts) ∙ e);
      grows = λ e deep text. law.careful.grows e deep text;
    };
    some_text = λ e deep. let (a, more, text) = some in (a, more, law.careful.grows e deep text);
  }
