-- An event that is ready for the lists of a sequence can be pulled to its front.
use Rattle.std.proofs.Common.{◌≡◌, ℕ, zero, suc, ◌<◌, Bool, true, false, ◌&&◌, ◌⊎◌, inl, inr, if◌then◌else◌, List, [], ◌∷◌, length, Some, refl, sym, ap, ◌∙◌, subst, true≢false, arith}
use Rattle.std.proofs.lemmas.Bool.{cases_order, and_parts}
use Rattle.common_lemmas.proofs.Options.{some_same, not_missing}
use Rattle.event_machine.specs.declared.Event.{Event}
use Rattle.event_machine.specs.progress.Known.{Known, admits, advanced, touches}
use Rattle.control_script.proofs.Writing.{as_many}
use Rattle.syn_order.specs.Orders.{AreAdmitted, split, first, rest, IsReady, taken}
use Rattle.syn_order.specs.Apart.{AreApart, AreAlike}
use Rattle.syn_order.specs.Apart.AreAlike.{same, first_same, exchanged, further}
use Rattle.syn_order.proofs.Locality.{touches_one}
use Rattle.syn_order.proofs.Apart.{apart_turned, other_false, touches_same, still_admitted, before_admitted, exchanged_known}

-- a number below n that passes the test, or none
pub some_below : (test : ℕ → Bool) (n : ℕ) → ((t : ℕ) × (t < n) × (test t ≡ true)) ⊎ ((t : ℕ) → t < n → test t ≡ false)
some_below test zero = inr (λ t l. absurd (omega (arith, l)))
some_below test (suc n) = go (test n) refl (some_below test n)
  where
    go : (b : Bool) → test n ≡ b → (((t : ℕ) × (t < n) × (test t ≡ true)) ⊎ ((t : ℕ) → t < n → test t ≡ false)) →
        ((t : ℕ) × (t < suc n) × (test t ≡ true)) ⊎ ((t : ℕ) → t < suc n → test t ≡ false)
    go true q r = inl (n, omega arith, q)
    go false q (inl h) = inl (h.0, let l : h.0 < n = h.1 in omega arith, h.2)
    go false q (inr h) = inr (λ t l. last t l (cases_order t n))
      where
        last : (t : ℕ) → t < suc n → ((t ≡ n) ⊎ ((t < n) ⊎ (n < t))) → test t ≡ false
        last t l (inl e) = ap test e ∙ q
        last t l (inr (inl m)) = h t m
        last t l (inr (inr m)) = absurd (omega (arith, l, m))

-- ---- lists

-- the first event of a sequence is ready for its lists
pub first_ready : (owner : ℕ → ℕ) (n : ℕ) (k : Known) (e : Event) (xs : List Event) → admits owner k e ≡ true → IsReady owner n k (split owner k (e ∷ xs)) e
first_ready owner n k e xs a = record {
  admitted = a;
  first_in_each = λ t l h. ap (λ b. first (if b then e ∷ split owner (advanced owner k e) xs t else split owner (advanced owner k e) xs t)) h;
}

pub first_taken : (owner : ℕ → ℕ) (k : Known) (e : Event) (xs : List Event) (t : ℕ) → taken owner k (split owner k (e ∷ xs)) e t ≡ split owner (advanced owner k e) xs t
first_taken owner k e xs t = go (touches owner k e t)
  where
    go : (b : Bool) → (if b then rest (if b then e ∷ split owner (advanced owner k e) xs t else split owner (advanced owner k e) xs t)
        else (if b then e ∷ split owner (advanced owner k e) xs t else split owner (advanced owner k e) xs t)) ≡ split owner (advanced owner k e) xs t
    go true = refl
    go false = refl

-- an event that is ready is ready for the same lists
pub ready_same : (owner : ℕ → ℕ) (n : ℕ) (k : Known) (ls ms : ℕ → List Event) (e : Event) → ((t : ℕ) → t < n → ls t ≡ ms t) → IsReady owner n k ls e → IsReady owner n k ms e
ready_same owner n k ls ms e h r = record { admitted = r.admitted; first_in_each = λ t l g. ap first (sym (h t l)) ∙ r.first_in_each t l g }

pub taken_same : (owner : ℕ → ℕ) (k : Known) (ls ms : ℕ → List Event) (e : Event) (t : ℕ) → ls t ≡ ms t → taken owner k ls e t ≡ taken owner k ms e t
taken_same owner k ls ms e t h = ap (λ xs. if touches owner k e t then rest xs else xs) h

-- ---- pulling

-- The sequence xs with e in front.
pub record Pulled (owner : ℕ → ℕ) (n : ℕ) (k : Known) (xs : List Event) (e : Event) : Type 0 where
  pub others : List Event
  pub admitted : AreAdmitted owner (advanced owner k e) others
  pub alike : AreAlike owner n k xs (e ∷ others)
  pub lists : (t : ℕ) → t < n → split owner (advanced owner k e) others t ≡ taken owner k (split owner k xs) e t
  pub shorter : suc (length others) ≡ length xs

module _ (owner : ℕ → ℕ) (n : ℕ) (some : 0 < n) where
  -- it stands in front
  in_front : (k : Known) (f : Event) (xs : List Event) → AreAdmitted owner (advanced owner k f) xs → Pulled owner n k (f ∷ xs) f
  in_front k f xs a = record { others = xs; admitted = a; alike = same k (f ∷ xs); lists = λ t l. sym (first_taken owner k f xs t); shorter = refl }

  -- it is pulled over the front, from which it is apart
  module _ (k : Known) (sized : length k.parties ≡ n) (f e : Event) (xs : List Event) (apart : AreApart owner n k f e) (f_in : admits owner k f ≡ true)
      (ready : IsReady owner n k (split owner k (f ∷ xs)) e) where
    abbrev behind : Known
    behind = advanced owner k f

    turned : AreApart owner n k e f
    turned = apart_turned owner n k f e apart

    touched : (t : ℕ) → touches owner behind e t ≡ touches owner k e t
    touched t = touches_same owner n k sized f e apart f_in t

    e_behind : admits owner behind e ≡ true
    e_behind = still_admitted owner n k sized some f e apart f_in ready.admitted

    f_behind : admits owner (advanced owner k e) f ≡ true
    f_behind = still_admitted owner n k sized some e f turned ready.admitted f_in

    ready_behind : IsReady owner n behind (split owner behind xs) e
    ready_behind = record { admitted = e_behind; first_in_each = λ t l h. go t l (sym (touched t) ∙ h) }
      where
        go : (t : ℕ) → t < n → touches owner k e t ≡ true → first (split owner behind xs t) ≡ Some e
        go t l h =
            ap (λ b. first (if b then f ∷ split owner behind xs t else split owner behind xs t)) (sym (other_false (touches owner k e t) (touches owner k f t) (turned t l) h))
            ∙ ready.first_in_each t l h

    met : advanced owner behind e ≡ advanced owner (advanced owner k e) f
    met = exchanged_known owner n k sized some f e apart f_in ready.admitted

    over : Pulled owner n behind xs e → Pulled owner n k (f ∷ xs) e
    over p = record {
      others = f ∷ p.others;
      admitted = (f_behind, subst (λ m. AreAdmitted owner m p.others) met p.admitted);
      alike = further k (f ∷ xs) (f ∷ e ∷ p.others) (e ∷ f ∷ p.others) (first_same k f xs (e ∷ p.others) p.alike) (exchanged k f e p.others apart);
      lists = λ t l.
          ap (λ b. if b then f ∷ split owner (advanced owner (advanced owner k e) f) p.others t else split owner (advanced owner (advanced owner k e) f) p.others t)
          (touches_same owner n k sized e f turned ready.admitted t)
          ∙ ap (λ ys. if touches owner k f t then f ∷ ys else ys) (ap (λ m. split owner m p.others t) (sym met) ∙ p.lists t l
          ∙ ap (λ b. if b then rest (split owner behind xs t) else split owner behind xs t) (touched t))
          ∙ both (touches owner k f t) (touches owner k e t) (split owner behind xs t) (apart t l);
      shorter = ap suc p.shorter;
    }
      where
        both : (b d : Bool) (ys : List Event) → (b && d) ≡ false →
            (if b then f ∷ (if d then rest ys else ys) else (if d then rest ys else ys)) ≡ (if d then rest (if b then f ∷ ys else ys) else (if b then f ∷ ys else ys))
        both true true ys h = absurd (true≢false h)
        both true false ys h = refl
        both false true ys h = refl
        both false false ys h = refl

  pub pulled : (xs : List Event) (k : Known) (e : Event) → length k.parties ≡ n → AreAdmitted owner k xs → IsReady owner n k (split owner k xs) e → Pulled owner n k xs e
  pulled [] k e sized a ready = let t = touches_one owner n k e sized some ready.admitted in absurd (not_missing e (ready.first_in_each t.0 t.1 t.2))
  pulled (f ∷ xs) k e sized a ready = go (some_below (λ t. touches owner k f t && touches owner k e t) n)
      (λ apart. pulled xs (advanced owner k f) e (as_many owner k f ∙ sized) a.1 (ready_behind k sized f e xs apart a.0 ready))
    where
      front : (t : ℕ) → t < n → touches owner k f t ≡ true → touches owner k e t ≡ true → f ≡ e
      front t l h g = some_same (ap (λ b. first (if b then f ∷ split owner (advanced owner k f) xs t else split owner (advanced owner k f) xs t)) (sym h) ∙ ready.first_in_each t l g)

      go : (((t : ℕ) × (t < n) × ((touches owner k f t && touches owner k e t) ≡ true)) ⊎ ((t : ℕ) → t < n → (touches owner k f t && touches owner k e t) ≡ false)) →
          (AreApart owner n k f e → Pulled owner n (advanced owner k f) xs e) → Pulled owner n k (f ∷ xs) e
      go (inl h) more = let p = and_parts (touches owner k f h.0) (touches owner k e h.0) h.2 in
          subst (λ g. Pulled owner n k (f ∷ xs) g) (front h.0 h.1 p.0 p.1) (in_front k f xs a.1)
      go (inr apart) more = over k sized f e xs apart a.0 ready (more apart)

  -- ---- alike sequences

  -- an admitted sequence without lists is empty
  pub all_empty : (xs : List Event) (k : Known) → length k.parties ≡ n → AreAdmitted owner k xs → ((t : ℕ) → t < n → split owner k xs t ≡ []) → xs ≡ []
  all_empty [] k sized a h = refl
  all_empty (f ∷ xs) k sized a h = let t = touches_one owner n k f sized some a.0 in
      absurd (not_missing f (sym (ap first (h t.0 t.1)) ∙ (first_ready owner n k f xs a.0).first_in_each t.0 t.1 t.2))

  -- Two admitted sequences with the same lists are alike.
  pub alike_by_lists : (ys : List Event) (k : Known) (xs : List Event) → length k.parties ≡ n → AreAdmitted owner k xs → AreAdmitted owner k ys →
      ((t : ℕ) → t < n → split owner k xs t ≡ split owner k ys t) → AreAlike owner n k xs ys
  alike_by_lists [] k xs sized a b h = subst (λ zs. AreAlike owner n k zs []) (sym (all_empty xs k sized a h)) (same k [])
  alike_by_lists (e ∷ ys) k xs sized a b h =
      further k xs (e ∷ p.others) (e ∷ ys) p.alike
      (first_same k e p.others ys (alike_by_lists ys (advanced owner k e) p.others (as_many owner k e ∙ sized) p.admitted b.1
      (λ t l. p.lists t l ∙ taken_same owner k (split owner k xs) (split owner k (e ∷ ys)) e t (h t l) ∙ first_taken owner k e ys t)))
    where
      p : Pulled owner n k xs e
      p = pulled xs k e sized a (ready_same owner n k (split owner k (e ∷ ys)) (split owner k xs) e (λ t l. sym (h t l)) (first_ready owner n k e ys b.0))

  -- a sequence that is alike to an admitted one is admitted, and has the same lists
  pub record HasSameLists (k : Known) (xs ys : List Event) : Type 0 where
    pub admitted : AreAdmitted owner k ys
    pub lists : (t : ℕ) → t < n → split owner k xs t ≡ split owner k ys t

  exchanged_lists : (k : Known) (e f : Event) (xs : List Event) → length k.parties ≡ n → AreApart owner n k e f → AreAdmitted owner k (e ∷ f ∷ xs) → HasSameLists k (e ∷ f ∷ xs) (f ∷ e ∷ xs)
  exchanged_lists k e f xs sized apart a = record {
    admitted = (f_first, (still_admitted owner n k sized some f e turned f_first a.0, subst (λ m. AreAdmitted owner m xs) met a.1.1));
    lists = λ t l.
        ap (λ b. if touches owner k e t then e ∷ (if b then f ∷ split owner (advanced owner (advanced owner k e) f) xs t else split owner (advanced owner (advanced owner k e) f) xs t) else (if b then f ∷ split owner (advanced owner (advanced owner k e) f) xs t else split owner (advanced owner (advanced owner k e) f) xs t))
        (touches_same owner n k sized e f apart a.0 t)
        ∙ ap (λ zs. if touches owner k e t then e ∷ (if touches owner k f t then f ∷ zs else zs) else (if touches owner k f t then f ∷ zs else zs)) (ap (λ m. split owner m xs t) met)
        ∙ both (touches owner k e t) (touches owner k f t) (split owner (advanced owner (advanced owner k f) e) xs t) (apart t l)
        ∙ ap (λ b. if touches owner k f t then f ∷ (if b then e ∷ split owner (advanced owner (advanced owner k f) e) xs t else split owner (advanced owner (advanced owner k f) e) xs t) else (if b then e ∷ split owner (advanced owner (advanced owner k f) e) xs t else split owner (advanced owner (advanced owner k f) e) xs t))
        (sym (touches_same owner n k sized f e turned f_first t));
  }
    where
      turned : AreApart owner n k f e
      turned = apart_turned owner n k e f apart

      f_first : admits owner k f ≡ true
      f_first = before_admitted owner n k sized some e f apart a.0 a.1.0

      met : advanced owner (advanced owner k e) f ≡ advanced owner (advanced owner k f) e
      met = exchanged_known owner n k sized some e f apart a.0 f_first

      both : (b d : Bool) (zs : List Event) → (b && d) ≡ false →
          (if b then e ∷ (if d then f ∷ zs else zs) else (if d then f ∷ zs else zs)) ≡ (if d then f ∷ (if b then e ∷ zs else zs) else (if b then e ∷ zs else zs))
      both true true zs h = absurd (true≢false h)
      both true false zs h = refl
      both false true zs h = refl
      both false false zs h = refl

  pub lists_of_alike : (k : Known) (xs ys : List Event) → AreAlike owner n k xs ys → length k.parties ≡ n → AreAdmitted owner k xs → HasSameLists k xs ys
  lists_of_alike k xs ys (same _ _) sized a = record { admitted = a; lists = λ t l. refl }
  lists_of_alike k xs ys (first_same _ e vs ws h) sized a =
      let r = lists_of_alike (advanced owner k e) vs ws h (as_many owner k e ∙ sized) a.1 in
      record { admitted = (a.0, r.admitted); lists = λ t l. λ j. if touches owner k e t then e ∷ r.lists t l j else r.lists t l j }
  lists_of_alike k xs ys (exchanged _ e f zs apart) sized a = exchanged_lists k e f zs sized apart a
  lists_of_alike k xs zs (further _ _ ys _ h g) sized a =
      let r = lists_of_alike k xs ys h sized a in
      let s = lists_of_alike k ys zs g sized r.admitted in
      record { admitted = s.admitted; lists = λ t l. r.lists t l ∙ s.lists t l }
