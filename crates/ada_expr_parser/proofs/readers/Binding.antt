-- The laws of one reader and then another.
use Rattle.std.proofs.Common.{◌≡◌, ℕ, ◌≤◌, Bool, true, ◌⊎◌, inl, inr, ⊎_elim, List, [], ◌∷◌, ◌++◌, refl, sym, ap, ◌∙◌, subst}
use Rattle.std.proofs.Math.Nat.{le_refl}
use Rattle.std.proofs.lemmas.List.{append_assoc, append_cancel_right}
use Rattle.ada_expr_parser.specs.readers.Readers.{Found, Fault, Reader, go_on, pure, bind}
use Rattle.ada_expr_parser.specs.readers.Grammars.{Texts, Is, Then, Begins, first_of, Starts}
use Rattle.ada_expr_parser.specs.readers.Lawful.{Careful, Lawful, Anything}
use Rattle.ada_expr_parser.proofs.readers.Basics.{not_both, found_tree, found_rest, found_through, fault_through, joined_front, front_is}

module _ {K A : Type 0} {d : ℕ} {p p' : Reader K A} {D : Texts K A} {S : K → Type 0} where
  -- complete and alike where the next token is the first of a list
  pub complete_at : Careful d p p' D S → {a : A} {front : List K} (g : List K) (x : K) (rest : List K) → D d a front → S (first_of x g) → p (front ++ (g ++ (x ∷ rest))) ≡ Found a (g ++ (x ∷ rest))
  complete_at law [] x rest text stop = law.complete x rest text stop
  complete_at law (y ∷ g) x rest text stop = law.complete y (g ++ (x ∷ rest)) text stop

  pub found_alike_at : Careful d p p' D S → (front : List K) {a : A} (g : List K) (x : K) (rest other : List K) →
      p (front ++ (g ++ (x ∷ rest))) ≡ Found a (g ++ (x ∷ rest)) → p (front ++ (g ++ (x ∷ other))) ≡ Found a (g ++ (x ∷ other))
  found_alike_at law front [] x rest other e = law.found_alike front other e
  found_alike_at law front (y ∷ g) x rest other e = law.found_alike front (g ++ (x ∷ other)) e

  -- what was found in a front of the list is found there whatever stands behind the next token
  pub alike_after : Careful d p p' D S → (front f g : List K) (x : K) (rest other : List K) {a : A} {middle : List K} →
      front ++ (x ∷ rest) ≡ f ++ middle → middle ≡ g ++ (x ∷ rest) → p (front ++ (x ∷ rest)) ≡ Found a middle → p (front ++ (x ∷ other)) ≡ Found a (g ++ (x ∷ other))
  alike_after law front f g x rest other {a} is also e =
      let split : front ≡ f ++ g = front_is front f g (x ∷ rest) is also in
      let here : p (f ++ (g ++ (x ∷ rest))) ≡ Found a (g ++ (x ∷ rest)) = ap p (sym (append_assoc f g (x ∷ rest)) ∙ ap (λ l. l ++ (x ∷ rest)) (sym split)) ∙ e ∙ ap (Found a) also in
      ap p (ap (λ l. l ++ (x ∷ other)) split ∙ append_assoc f g (x ∷ other)) ∙ found_alike_at law f g x rest other here

  -- where there is some text, no tokens at all begin one
  pub begins_some : Lawful d p p' D S → (e : ℕ) → d ≤ e → {front : List K} → (front ≡ []) ⊎ Begins (D e) front → Begins (D e) front
  begins_some law e deep (inl none) = let (a, text, is) = law.some_text e deep in subst (Begins (D e)) (sym none) (a, text, is)
  begins_some law e deep (inr some) = some

pub law_pure : {K A : Type 0} (d : ℕ) (a : A) (S : K → Type 0) → Lawful d (pure a) (pure a) (Is a) S
law_pure {K} {A} d a S = record {
  careful = record {
    sound = λ {ts} e. ([], found_rest e, (sym (found_tree e), refl));
    complete = λ x rest text stop. let (same, none) = text in rw same (rw none refl);
    viable = λ e. absurd (not_both e);
    only_deeper = λ e. absurd (not_both e);
    found_alike = λ front {a = b} {x} {rest} other e. rw (append_cancel_right front [] (x ∷ rest) (found_rest e)) (rw (found_tree e) refl);
    fault_alike = λ front other e. absurd (not_both e);
    found_deeper = λ e. e;
    fault_deeper = λ e. e;
    grows = λ e deep text. text;
  };
  some_text = λ e deep. (a, [], (refl, refl));
}

-- where there is some text, no tokens at all begin one
begins_or : {K A : Type 0} {D : A → List K → Type 0} {front : List K} → (a : A) × (text : List K) × D a text → (front ≡ []) ⊎ Begins D front → Begins D front
begins_or {D = D} (a, text, is) (inl none) = subst (Begins D) (sym none) (a, text, is)
begins_or (a, text, is) (inr some) = some

module _ {K A B : Type 0} {d : ℕ} {p p' : Reader K A} {q q' : A → Reader K B} {D : Texts K A} {E : A → Texts K B} {R S : K → Type 0}
    (first : Careful d p p' D R) (next : (a : A) (f : List K) → D d a f → Careful d (q a) (q' a) (E a) S)
    (some_next : (e : ℕ) → d ≤ e → (a : A) (f : List K) → D e a f → (b : B) × (g : List K) × E a e b g)
    (meets : (a : A) (f : List K) → D d a f → Starts d (E a) S R) where
  bind_sound : {ts : List K} {b : B} {rest : List K} → bind p q ts ≡ Found b rest → (front : List K) × (ts ≡ front ++ rest) × Then D E d b front
  bind_sound {ts} {b} {rest} e =
      let (a, middle, one, two) = found_through (p ts) q e in
      let (f, is, left) = first.sound one in
      let (g, also, right) = (next a f left).sound two in
      (f ++ g, joined_front f g rest is also, (a, f, g, refl, left, right))

  bind_complete : {b : B} {front : List K} (x : K) (rest : List K) → Then D E d b front → S x → bind p q (front ++ (x ∷ rest)) ≡ Found b (x ∷ rest)
  bind_complete {b} x rest (a, f, g, is, left, right) stop =
      let one : p (f ++ (g ++ (x ∷ rest))) ≡ Found a (g ++ (x ∷ rest)) = complete_at first g x rest left ((meets a f left).begins_with b g x right stop) in
      rw is (rw (append_assoc f g (x ∷ rest)) (ap (λ answer. go_on answer q) one ∙ (next a f left).complete x rest right stop))

  -- a front of the first text, and behind it some text of the second
  begins_first : (e : ℕ) → d ≤ e → (front : List K) → Begins (D e) front → Begins (Then D E e) front
  begins_first e deep front (a, more, text) =
      let (b, back, other) = some_next e deep a (front ++ more) text in
      (b, more ++ back, (a, front ++ more, back, sym (append_assoc front more back), text, other))

  begins_next : (e : ℕ) {a : A} (f g : List K) → D e a f → Begins (E a e) g → Begins (Then D E e) (f ++ g)
  begins_next e {a} f g left (b, more, text) = (b, more, (a, f, g ++ more, append_assoc f g more, left, text))

  bind_viable : {ts : List K} {deep : Bool} {rest : List K} → bind p q ts ≡ Fault deep rest → (front : List K) × (ts ≡ front ++ rest) × ((front ≡ []) ⊎ Begins (Then D E d) front)
  bind_viable {ts} {deep} {rest} e = ⊎_elim
      (λ one. let (f, is, some) = first.viable one in (f, is, ⊎_elim inl (λ b. inr (begins_first d (le_refl d) f b)) some))
      (λ (a, middle, one, two).
      let (f, is, left) = first.sound one in
      let (g, also, some) = (next a f left).viable two in
      (f ++ g, joined_front f g rest is also, inr (begins_next d f g left (begins_or (some_next d (le_refl d) a f left) some))))
      (fault_through (p ts) q e)

  bind_only_deeper : {ts : List K} {x : K} {rest : List K} → bind p q ts ≡ Fault true (x ∷ rest) →
      (front : List K) × (ts ≡ front ++ (x ∷ rest)) × (e : ℕ) × (d ≤ e) × Begins (Then D E e) (front ++ (x ∷ []))
  bind_only_deeper {ts} {x} {rest} e = ⊎_elim
      (λ one. let (f, is, e', deep, some) = first.only_deeper one in (f, is, e', deep, begins_first e' deep (f ++ (x ∷ [])) some))
      (λ (a, middle, one, two).
      let (f, is, left) = first.sound one in
      let (g, also, e', deep, some) = (next a f left).only_deeper two in (
        f ++ g,
        joined_front f g (x ∷ rest) is also,
        e',
        deep,
        subst (Begins (Then D E e')) (sym (append_assoc f g (x ∷ []))) (begins_next e' f (g ++ (x ∷ [])) (first.grows e' deep left) some),
      ))
      (fault_through (p ts) q e)

  bind_found_alike : (front : List K) {b : B} {x : K} {rest : List K} (other : List K) → bind p q (front ++ (x ∷ rest)) ≡ Found b (x ∷ rest) → bind p q (front ++ (x ∷ other)) ≡ Found b (x ∷ other)
  bind_found_alike front {b} {x} {rest} other e =
      let (a, middle, one, two) = found_through (p (front ++ (x ∷ rest))) q e in
      let (f, is, left) = first.sound one in
      let (g, also, right) = (next a f left).sound two in
      ap (λ answer. go_on answer q) (alike_after first front f g x rest other is also one) ∙ (next a f left).found_alike g other (ap (q a) (sym also) ∙ two)

  bind_fault_alike : (front : List K) {deep : Bool} {x : K} {rest : List K} (other : List K) → bind p q (front ++ (x ∷ rest)) ≡ Fault deep (x ∷ rest) → bind p q (front ++ (x ∷ other)) ≡ Fault deep (x ∷ other)
  bind_fault_alike front {deep} {x} {rest} other e = ⊎_elim
      (λ one. ap (λ answer. go_on answer q) (first.fault_alike front other one))
      (λ (a, middle, one, two).
      let (f, is, left) = first.sound one in
      let (g, also, some) = (next a f left).viable two in
      ap (λ answer. go_on answer q) (alike_after first front f g x rest other is also one) ∙ (next a f left).fault_alike g other (ap (q a) (sym also) ∙ two))
      (fault_through (p (front ++ (x ∷ rest))) q e)

  pub careful_bind : Careful d (bind p q) (bind p' q') (Then D E) S
  careful_bind = record {
    sound = bind_sound;
    complete = bind_complete;
    viable = bind_viable;
    only_deeper = bind_only_deeper;
    found_alike = bind_found_alike;
    fault_alike = bind_fault_alike;
    found_deeper = λ {ts} e.
        let (a, middle, one, two) = found_through (p ts) q e in
        let (f, is, left) = first.sound one in
        ap (λ answer. go_on answer q') (first.found_deeper one) ∙ (next a f left).found_deeper two;
    fault_deeper = λ {ts} e. ⊎_elim
        (λ one. ap (λ answer. go_on answer q') (first.fault_deeper one))
        (λ (a, middle, one, two).
        let (f, is, left) = first.sound one in
        ap (λ answer. go_on answer q') (first.found_deeper one) ∙ (next a f left).fault_deeper two)
        (fault_through (p ts) q e);
    grows = λ e deep (a, f, g, is, left, right). (a, f, g, is, first.grows e deep left, (next a f left).grows e deep right);
  }

-- The same where what follows is lawful behind each tree. What follows begins with a token that stops the first.
pub law_bind : {K A B : Type 0} {d : ℕ} {p p' : Reader K A} {q q' : A → Reader K B} {D : Texts K A} {E : A → Texts K B} {R S : K → Type 0} →
    Lawful d p p' D R → ((a : A) → Lawful d (q a) (q' a) (E a) S) → ((a : A) → Starts d (E a) S R) → Lawful d (bind p q) (bind p' q') (Then D E) S
law_bind first next meets = record {
  careful = careful_bind first.careful (λ a f left. (next a).careful) (λ e deep a f left. (next a).some_text e deep) (λ a f left. meets a);
  some_text = λ e deep.
      let (a, f, left) = first.some_text e deep in
      let (b, g, right) = (next a).some_text e deep in
      (b, f ++ g, (a, f, g, refl, left, right));
}

-- where every token stops the first
pub law_then : {K A B : Type 0} {d : ℕ} {p p' : Reader K A} {q q' : A → Reader K B} {D : Texts K A} {E : A → Texts K B} {S : K → Type 0} →
    Lawful d p p' D Anything → ((a : A) → Lawful d (q a) (q' a) (E a) S) → Lawful d (bind p q) (bind p' q') (Then D E) S
law_then first next = law_bind first next (λ a. record { begins_with = λ b back x text stop. tt })
