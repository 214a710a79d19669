-- What the laws say of a reader at every depth: it finds exactly the texts, each has one tree, and each fault is the first token that decides.
use Rattle.std.proofs.Common.{◌≡◌, ℕ, zero, suc, ◌+◌, ◌≤◌, Bool, true, false, true≢false, ◌⊎◌, inl, inr, ⊎_elim, List, [], ◌∷◌, ◌++◌, sym, ap, ◌∙◌, subst, arith}
use Rattle.std.proofs.Math.Nat.{le_refl}
use Rattle.std.specs.Prelude.{if◌then◌else◌}
use Rattle.std.proofs.lemmas.List.{append_assoc, append-nil, append_cancel_right}
use Rattle.ada_expr_parser.specs.readers.Readers.{Found, Fault, Reader, left_at, go_on}
use Rattle.ada_expr_parser.specs.readers.Grammars.{Texts, Begins, first_of}
use Rattle.ada_expr_parser.specs.readers.Lawful.{IsYes}
use Rattle.ada_expr_parser.specs.readers.Exactness.{LawfulAtEach, FindsExactly, IsSyntax, IsTooDeep, FaultsExactly, WholeText, whole, ReadsWhole}
use Rattle.ada_expr_parser.proofs.readers.Basics.{not_both, found_tree, found_rest, fault_rest, fault_deep, not_empty, same_last, last_split, found_through, fault_through}
use Rattle.ada_expr_parser.proofs.readers.Binding.{begins_some}
use Rattle.ada_expr_parser.proofs.readers.Looking.{decided}

module _ {K A : Type 0} (p : ℕ → Reader K A) {D : Texts K A} {S : K → Type 0} (laws : LawfulAtEach p D S) (s : K) (stop : S s) where
  -- the answers of greater depths
  found_up : (d n : ℕ) (ts : List K) (a : A) (rest : List K) → p d ts ≡ Found a rest → p (n + d) ts ≡ Found a rest
  found_up d zero ts a rest e = subst (λ m. p m ts ≡ Found a rest) (omega arith) e
  found_up d (suc n) ts a rest e = subst (λ m. p m ts ≡ Found a rest) (omega arith) ((laws (n + d)).careful.found_deeper (found_up d n ts a rest e))

  fault_up : (d n : ℕ) (ts rest : List K) → p d ts ≡ Fault false rest → p (n + d) ts ≡ Fault false rest
  fault_up d zero ts rest e = subst (λ m. p m ts ≡ Fault false rest) (omega arith) e
  fault_up d (suc n) ts rest e = subst (λ m. p m ts ≡ Fault false rest) (omega arith) ((laws (n + d)).careful.fault_deeper (fault_up d n ts rest e))

  -- with the token of a fault no text of that depth begins
  none_begins : (d : ℕ) (front : List K) (deep : Bool) (x : K) (rest : List K) → p d (front ++ (x ∷ rest)) ≡ Fault deep (x ∷ rest) → Begins (D d) (front ++ (x ∷ [])) → ⊥
  none_begins d front deep x rest e (a, more, text) =
      let here : p d (front ++ (x ∷ (more ++ (s ∷ [])))) ≡ Fault deep (x ∷ (more ++ (s ∷ []))) = (laws d).careful.fault_alike front (more ++ (s ∷ [])) e in
      let there : p d (((front ++ (x ∷ [])) ++ more) ++ (s ∷ [])) ≡ Found a (s ∷ []) = (laws d).careful.complete s [] text stop in
      let same : ((front ++ (x ∷ [])) ++ more) ++ (s ∷ []) ≡ front ++ (x ∷ (more ++ (s ∷ []))) = append_assoc (front ++ (x ∷ [])) more (s ∷ []) ∙ append_assoc front (x ∷ []) (more ++ (s ∷ [])) in
      not_both (sym there ∙ ap (p d) same ∙ here)

  begins_up : (e m : ℕ) (front : List K) → e ≤ m → Begins (D e) front → Begins (D m) front
  begins_up e m front up (a, more, text) = (a, more, (laws e).careful.grows m up text)

  pub syntax_exactly : (d : ℕ) (ts : List K) (x : K) (rest : List K) → p d ts ≡ Fault false (x ∷ rest) → IsSyntax D d ts x rest
  syntax_exactly d ts x rest e =
      let (front, is, some) = (laws d).careful.viable e in
      record {
        front = front;
        tokens = is;
        before = begins_some (laws d) d (le_refl d) some;
        never = λ e' begins. none_begins (e' + d) front false x rest (ap (p (e' + d)) (sym is) ∙ fault_up d e' ts (x ∷ rest) e) (begins_up e' (e' + d) (front ++ (x ∷ [])) (omega arith) begins);
      }

  pub too_deep_exactly : (d : ℕ) (ts : List K) (x : K) (rest : List K) → p d ts ≡ Fault true (x ∷ rest) → IsTooDeep D d ts x rest
  too_deep_exactly d ts x rest e =
      let (front, is, some) = (laws d).careful.viable e in
      let (front', is', e', deep, begins) = (laws d).careful.only_deeper e in
      let same : front' ≡ front = append_cancel_right front' front (x ∷ rest) (sym is' ∙ is) in
      record {
        front = front;
        tokens = is;
        before = begins_some (laws d) d (le_refl d) some;
        not_here = none_begins d front true x rest (ap (p d) (sym is) ∙ e);
        deeper = (e', subst (λ l. Begins (D e') (l ++ (x ∷ []))) same begins);
      }

  pub faults_exactly : FaultsExactly p D
  faults_exactly = record { syntax_at = syntax_exactly; too_deep_at = too_deep_exactly }

  pub one_tree : (d e : ℕ) (a b : A) (text : List K) → D d a text → D e b text → a ≡ b
  one_tree d e a b text one other =
      let high = (laws d).careful.grows (e + d) (omega arith) one in
      let high' = (laws e).careful.grows (e + d) (omega arith) other in
      found_tree (sym ((laws (e + d)).careful.complete s [] high stop) ∙ (laws (e + d)).careful.complete s [] high' stop)

  pub found_is : (d : ℕ) (a : A) (front : List K) (x : K) (rest : List K) → p d (front ++ (x ∷ rest)) ≡ Found a (x ∷ rest) → D d a front
  found_is d a front x rest e =
      let (f, is, text) = (laws d).careful.sound e in
      subst (D d a) (sym (append_cancel_right front f (x ∷ rest) is)) text

  pub finds_exactly : FindsExactly p D S
  finds_exactly = record {
    finds = λ d a front x rest stops. (found_is d a front x rest, λ text. (laws d).careful.complete x rest text stops);
    one_tree = one_tree;
  }

-- what is left at an end was found, and an end stands there
left_found : {K A : Type 0} (ends : K → Bool) (a b : A) (ts rest : List K) → left_at ends a ts ≡ Found b rest → (a ≡ b) × (ts ≡ rest) × (x : K) × (more : List K) × (rest ≡ x ∷ more) × (ends x ≡ true)
left_found ends a b [] rest e = absurd (not_both (sym e))
left_found ends a b (k ∷ ts) rest e = ⊎_elim
    (λ yes_is. let is = sym (ap (λ t. if t then Found a (k ∷ ts) else Fault false (k ∷ ts)) yes_is) ∙ e in
    (found_tree is, found_rest is, k, ts, sym (found_rest is), yes_is))
    (λ no_is. absurd (not_both (sym (sym (ap (λ t. if t then Found a (k ∷ ts) else Fault false (k ∷ ts)) no_is) ∙ e))))
    (decided (ends k))

left_fault : {K A : Type 0} (ends : K → Bool) (a : A) (ts : List K) (deep : Bool) (x : K) (rest : List K) → left_at ends a ts ≡ Fault deep (x ∷ rest) →
    (deep ≡ false) × (ts ≡ x ∷ rest) × (ends x ≡ false)
left_fault ends a [] deep x rest e = absurd (not_empty [] x rest (fault_rest e))
left_fault ends a (k ∷ ts) deep x rest e = ⊎_elim
    (λ yes_is. absurd (not_both (sym (ap (λ t. if t then Found a (k ∷ ts) else Fault false (k ∷ ts)) yes_is) ∙ e)))
    (λ no_is. let is = sym (ap (λ t. if t then Found a (k ∷ ts) else Fault false (k ∷ ts)) no_is) ∙ e in
    (sym (fault_deep is), fault_rest is, sym (ap ends (ap (first_of k) (fault_rest is))) ∙ no_is))
    (decided (ends k))

module _ {K A : Type 0} (ends : K → Bool) (D : Texts K A) (s : K) (stop : ends s ≡ true) where
  begins_whole : (e : ℕ) (front : List K) → Begins (D e) front → Begins (WholeText ends D e) front
  begins_whole e front (a, more, text) = (a, more ++ (s ∷ []), (front ++ more, s, sym (append_assoc front more (s ∷ [])), stop, text))

  -- with one more token: it ends the text, or the text goes on
  whole_begins : (e : ℕ) (front : List K) (x : K) → Begins (WholeText ends D e) (front ++ (x ∷ [])) → ((a : A) × D e a front × (ends x ≡ true)) ⊎ Begins (D e) (front ++ (x ∷ []))
  whole_begins e front x (a, more, (g, y, is, end, text)) = ⊎_elim
      (λ none.
      let (same, last) = same_last front g x y (sym (append-nil (front ++ (x ∷ []))) ∙ ap (λ l. (front ++ (x ∷ [])) ++ l) (sym none) ∙ is) in
      inl (a, subst (D e a) (sym same) text, ap ends last ∙ end))
      (λ (m, l, split).
      let (same, last) = same_last ((front ++ (x ∷ [])) ++ m) g l y (append_assoc (front ++ (x ∷ [])) m (l ∷ []) ∙ ap (λ t. (front ++ (x ∷ [])) ++ t) (sym split) ∙ is) in
      inr (a, m, subst (D e a) (sym same) text))
      (last_split more)

  module _ (p : ℕ → Reader K A) (laws : LawfulAtEach p D (IsYes ends)) where
    whole_reads : (d : ℕ) (a : A) (front : List K) (x : K) (rest : List K) → ends x ≡ true → whole ends p d (front ++ (x ∷ rest)) ≡ Found a (x ∷ rest) → D d a front
    whole_reads d a front x rest end e =
        let (b, middle, one, two) = found_through (p d (front ++ (x ∷ rest))) (left_at ends) e in
        let (same, is, y, more, from, yes_is) = left_found ends b a middle (x ∷ rest) two in
        found_is p laws s stop d a front x rest (one ∙ ap (λ t. Found t middle) same ∙ ap (Found a) is)

    whole_complete : (d : ℕ) (a : A) (front : List K) (x : K) (rest : List K) → ends x ≡ true → D d a front → whole ends p d (front ++ (x ∷ rest)) ≡ Found a (x ∷ rest)
    whole_complete d a front x rest end text =
        ap (λ answer. go_on answer (left_at ends)) ((laws d).careful.complete x rest text end) ∙ ap (λ t. if t then Found a (x ∷ rest) else Fault false (x ∷ rest)) end

    -- what is found at a token that ends no text
    goes_wrong : (d : ℕ) (a : A) (front : List K) (x : K) (rest : List K) → p d (front ++ (x ∷ rest)) ≡ Found a (x ∷ rest) → ends x ≡ false → (e : ℕ) → Begins (WholeText ends D e) (front ++ (x ∷ [])) → ⊥
    goes_wrong d a front x rest one off e begins = ⊎_elim
        (λ (b, text, end). true≢false (sym end ∙ off))
        (λ (b, more, text).
        let there : p (e + d) (((front ++ (x ∷ [])) ++ more) ++ (s ∷ [])) ≡ Found b (s ∷ []) =
        (laws (e + d)).careful.complete s [] ((laws e).careful.grows (e + d) (omega arith) text) stop in
        let here : p (e + d) (front ++ (x ∷ (more ++ (s ∷ [])))) ≡ Found a (x ∷ (more ++ (s ∷ []))) =
        found_up p laws s stop d e (front ++ (x ∷ (more ++ (s ∷ [])))) a (x ∷ (more ++ (s ∷ []))) ((laws d).careful.found_alike front (more ++ (s ∷ [])) one) in
        let same : ((front ++ (x ∷ [])) ++ more) ++ (s ∷ []) ≡ front ++ (x ∷ (more ++ (s ∷ []))) = append_assoc (front ++ (x ∷ [])) more (s ∷ []) ∙ append_assoc front (x ∷ []) (more ++ (s ∷ [])) in
        not_empty [] x more (append_cancel_right [] (x ∷ more) (s ∷ []) (found_rest (sym there ∙ ap (p (e + d)) same ∙ here))))
        (whole_begins e front x begins)

    whole_syntax : (d : ℕ) (ts : List K) (x : K) (rest : List K) → whole ends p d ts ≡ Fault false (x ∷ rest) → IsSyntax (WholeText ends D) d ts x rest
    whole_syntax d ts x rest e = ⊎_elim
        (λ one. let is = syntax_exactly p laws s stop d ts x rest one in record {
          front = is.front;
          tokens = is.tokens;
          before = begins_whole d is.front is.before;
          never = λ e' begins. ⊎_elim
              (λ (b, text, end). not_both (
              sym ((laws (e' + d)).careful.complete x rest ((laws e').careful.grows (e' + d) (omega arith) text) end) ∙
              ap (p (e' + d)) (sym is.tokens) ∙ fault_up p laws s stop d e' ts (x ∷ rest) one))
              (is.never e')
              (whole_begins e' is.front x begins);
        })
        (λ (a, middle, one, two).
        let (shallow, is, off) = left_fault ends a middle false x rest two in
        let (front, tokens, text) = (laws d).careful.sound one in
        let split : ts ≡ front ++ (x ∷ rest) = tokens ∙ ap (λ l. front ++ l) is in
        record {
          front = front;
          tokens = split;
          before = begins_whole d front (a, [], subst (D d a) (sym (append-nil front)) text);
          never = goes_wrong d a front x rest (ap (p d) (sym split) ∙ one ∙ ap (Found a) is) off;
        })
        (fault_through (p d ts) (left_at ends) e)

    whole_too_deep : (d : ℕ) (ts : List K) (x : K) (rest : List K) → whole ends p d ts ≡ Fault true (x ∷ rest) → IsTooDeep (WholeText ends D) d ts x rest
    whole_too_deep d ts x rest e = ⊎_elim
        (λ one. let is = too_deep_exactly p laws s stop d ts x rest one in record {
          front = is.front;
          tokens = is.tokens;
          before = begins_whole d is.front is.before;
          not_here = λ begins. ⊎_elim
              (λ (b, text, end). not_both (sym ((laws d).careful.complete x rest text end) ∙ ap (p d) (sym is.tokens) ∙ one))
              is.not_here
              (whole_begins d is.front x begins);
          deeper = let (e', begins) = is.deeper in (e', begins_whole e' (is.front ++ (x ∷ [])) begins);
        })
        (λ (a, middle, one, two). let (shallow, is, off) = left_fault ends a middle true x rest two in absurd (true≢false shallow))
        (fault_through (p d ts) (left_at ends) e)

    pub reads_whole : ReadsWhole ends p D
    reads_whole = record {
      reads = λ d a front x rest end. (whole_reads d a front x rest end, whole_complete d a front x rest end);
      stops = λ d ts a rest e.
          let (b, middle, one, two) = found_through (p d ts) (left_at ends) e in
          let (same, is, x, more, from, end) = left_found ends b a middle rest two in
          (x, more, from, end);
      one_tree = one_tree p laws s stop;
      faults = record { syntax_at = whole_syntax; too_deep_at = whole_too_deep };
    }
