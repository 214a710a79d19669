-- The ids of the names that a text with abort statements has beside those of every collecting text: they differ from each other, from those, from the
-- predefined names, and from those of the normal form.
use Rattle.std.proofs.Common.{◌≡◌, ℕ, zero, suc, ◌<◌, ◌≤◌, ◌^◌, ◌==◌, ◌||◌, not, nat_lt, Bool, true, false, List, [], ◌∷◌, ◌++◌, codes, length, slice_get, take, unwrap_or, Option, Some, None, IsSomeAnd, refl, sym, ap, ◌∙◌, subst, arith}
use Rattle.std.specs.Fmt.{decimal}
use Rattle.std.specs.List.{AllByRecursion, list_any}
use Rattle.std.specs.Str.{bytes_eq}
use Rattle.std.specs.Str.Parse.{AllDigits}
use Rattle.std.proofs.lemmas.Bool.{ltb-true, or_from, or_parts}
use Rattle.std.proofs.lemmas.Bool.Decides.{nat_tests}
use Rattle.std.proofs.lemmas.Fmt.{decimal_injective, decimal_is_IsNumeral}
use Rattle.std.proofs.lemmas.Option.{slice_get_within}
use Rattle.std.proofs.lemmas.Str.Parse.{digit_from_value}
use Rattle.common_lemmas.proofs.Lists.{all_front, all_joined, all_weaker}
use Rattle.common_lemmas.proofs.Truth.{clash}
use Rattle.ada_tree.specs.declared.naming.NameId.{NameId}
use Rattle.ada_tree.specs.NameList.{predefined}
use Rattle.ada_tree.specs.PlainProgram.{PProgram}
use Rattle.ada_static_rules.specs.RuleDuplicate.{is_among, is_predefined}
use Rattle.syn_event.specs.DeclaredTasks.{text_of}
use Rattle.normal_laws.specs.structure.once.Apart.{IsFreeOf, AreDistinct}
use Rattle.normal_laws.proofs.structure.numbers.Named.{Has}
use Rattle.normal_laws.proofs.structure.once.Once.{distinct-both, free-both, one-apart, one-free}
use Rattle.collect_model.specs.Names.{added_texts, recorder_text}
use Rattle.collect_structure.specs.Names as collect
use Rattle.collect_structure.proofs.declares_once.Ids.{all-new, ids}
use Rattle.collect_structure.proofs.kept.Names.{none-by}
use Rattle.collect_model.specs.aborts.AbortTeller.{names_told}
use Rattle.collect_model.specs.aborts.Names.{acceptors_text, each_text, refused_text, taken_text}
use Rattle.collect_model.specs.aborts.Places.{most_places}
use Rattle.collect_structure.specs.aborts.Names.{added_id}
use Rattle.collect_structure.specs.aborts.asked.Pieces.{IsPlace}
use Rattle.collect_structure.specs.aborts.declares_once.Names.{is_left, IsOwn}
use Rattle.collect_structure.proofs.aborts.texts.Named.{abort-has, abort-has-places, abort-has-recorded}
use Rattle.collect_structure.proofs.aborts.typed.Apart.{differ-by, not-predefined, own-apart}
use Rattle.collect_structure.proofs.aborts.typed.Names.{same-added, two-apart}

-- a text that is left alone is none of those that every collecting text adds
pub left-other : (t : List ℕ) → is_left t ≡ true → list_any (bytes_eq t) collect.new_texts ≡ false
left-other t h =
    none-by (λ u. not (is_left u)) t collect.new_texts (refl, (refl, (refl, (refl, (refl, (refl, (refl, (refl, (refl, (refl, (refl, (refl, (refl, (refl, tt)))))))))))))) (ap not h)

module _ (q : PProgram) where
  -- the ids of the recorder's further names, and of the variables of a place
  abbrev pub acceptors : ℕ
  acceptors = (added_id q acceptors_text).0

  abbrev pub each : ℕ
  each = (added_id q each_text).0

  abbrev pub taken : ℕ → ℕ
  taken p = (added_id q (taken_text p)).0

  abbrev pub refused : ℕ → ℕ
  refused p = (added_id q (refused_text p)).0

  -- those of the first n places, and all of these
  abbrev pub place_ids : ℕ → List ℕ
  place_ids zero = []
  place_ids (suc n) = place_ids n ++ taken (suc n) ∷ refused (suc n) ∷ []

  abbrev most : ℕ
  most = most_places q

  abbrev pub further_ids : List ℕ
  further_ids = acceptors ∷ each ∷ place_ids most

  -- ---- lists of places

  -- what holds of each place
  pub places-all : (P : ℕ → Type 0) (n : ℕ) → n ≤ most → ((p : ℕ) → IsPlace most p → P (taken p) × P (refused p)) → AllByRecursion P (place_ids n)
  places-all P zero l h = tt
  places-all P (suc n) l h =
      let k = h (suc n) (omega arith, l) in
      all_joined P (place_ids n) (taken (suc n) ∷ refused (suc n) ∷ []) (places-all P n (omega (arith, l)) h) (k.0, (k.1, tt))

  -- what holds of several places holds of fewer
  pub places-fewer : (P : ℕ → Type 0) (n m : ℕ) → n ≤ m → AllByRecursion P (place_ids m) → AllByRecursion P (place_ids n)
  places-fewer P n zero l h = let e : zero ≡ n = omega (arith, l) in subst (λ k. AllByRecursion P (place_ids k)) e h
  places-fewer P n (suc m) l h = by_test (nat_lt m n) refl (λ w. places-fewer P n m w (all_front P (place_ids m) (taken (suc m) ∷ refused (suc m) ∷ []) h))
    where
      by_test : (b : Bool) → nat_lt m n ≡ b → (n ≤ m → AllByRecursion P (place_ids n)) → AllByRecursion P (place_ids n)
      by_test true e k =
          let low = ltb-true m n e in
          let last : suc m ≡ n = omega (arith, l, low) in
          subst (λ v. AllByRecursion P (place_ids v)) last h
      by_test false e k = k (grind (arith, nat_tests, e))

  -- a name that is none of several is none of fewer
  pub free-fewer : (n : ℕ) → n ≤ most → (x : ℕ) → IsFreeOf further_ids x → IsFreeOf (place_ids n) x
  free-fewer n l x h =
      let places : IsFreeOf (place_ids most) x = (or_parts (each == x) (is_among (place_ids most) x) (or_parts (acceptors == x) _ h).1).1 in
      one-free (place_ids n) x (places-fewer (IsFreeOf (x ∷ [])) n most l (one-apart (place_ids most) x places))

  -- a name that is that of no variable of a place
  places-free : (n : ℕ) → n ≤ most → (x : ℕ) → ((p : ℕ) → IsPlace n p → ((taken p == x) ≡ false) × ((refused p == x) ≡ false)) → IsFreeOf (place_ids n) x
  places-free zero l x h = refl
  places-free (suc n) l x h =
      let k = h (suc n) (omega arith, omega arith) in
      free-both (place_ids n) (taken (suc n) ∷ refused (suc n) ∷ []) x (places-free n (omega (arith, l)) x (λ p i. h p (i.0, omega (arith, i.1))))
      (or_from (taken (suc n) == x) ((refused (suc n) == x) || false) k.0 (or_from (refused (suc n) == x) false k.1 refl))

  -- ---- these texts are there

  acceptors-there : Has (names_told q) acceptors_text
  acceptors-there = abort-has-recorded q acceptors_text refl

  each-there : Has (names_told q) each_text
  each-there = abort-has-recorded q each_text refl

  taken-there : (p : ℕ) → IsPlace most p → Has (names_told q) (taken_text p)
  taken-there p i = (abort-has-places q p i.0 i.1).0

  refused-there : (p : ℕ) → IsPlace most p → Has (names_told q) (refused_text p)
  refused-there p i = (abort-has-places q p i.0 i.1).1

  -- ---- they are no names of the normal form

  -- an added text that is not left alone
  added-other : (u : List ℕ) → Has (names_told q) u → is_left u ≡ false → (x : ℕ) → IsOwn q.names x → ((added_id q u).0 == x) ≡ false
  added-other u has not_left x own = by_place (slice_get q.names x) refl own
    where
      by_place : (o : Option (List ℕ)) → slice_get q.names x ≡ o → IsSomeAnd o (λ t. is_left t ≡ true) → ((added_id q u).0 == x) ≡ false
      by_place None e k = absurd k
      by_place (Some t) e k =
          own-apart q u has record { 0 = x } (slice_get_within q.names x t e)
          (differ-by u (text_of q.names record { 0 = x }) (λ same. clash (sym not_left ∙ ap is_left (same ∙ ap (λ (o : Option (List ℕ)). unwrap_or o []) e) ∙ k)))

  pub own-clear : (x : ℕ) → IsOwn q.names x → IsFreeOf further_ids x
  own-clear x own =
      or_from (acceptors == x) _ (added-other acceptors_text acceptors-there refl x own)
      (or_from (each == x) _ (added-other each_text each-there refl x own)
      (places-free most (omega arith) x (λ p i. (added-other (taken_text p) (taken-there p i) refl x own, added-other (refused_text p) (refused-there p i) refl x own))))

  -- ---- they are none of those of every collecting text, and no predefined ones

  texts-clear : (t : List ℕ) → Has (names_told q) t → (us : List (List ℕ)) → AllByRecursion (Has added_texts) us → list_any (λ u. bytes_eq u t) us ≡ false → IsFreeOf (ids q us) (added_id q t).0
  texts-clear t has [] h e = refl
  texts-clear t has (u ∷ us) h e =
      let both = or_parts (bytes_eq u t) (list_any (λ v. bytes_eq v t) us) e in
      or_from ((collect.added_id q u).0 == (added_id q t).0) (is_among (ids q us) (added_id q t).0)
      (subst (λ (id : NameId). (id.0 == (added_id q t).0) ≡ false) (same-added q u h.0) (two-apart q u t (abort-has q u h.0) has both.0))
      (texts-clear t has us h.1 both.1)

  abbrev IsNew : ℕ → Type 0
  IsNew x = (is_predefined x ≡ false) × IsFreeOf (ids q collect.new_texts) x

  module _ (begins : take (length predefined) q.names ≡ predefined) (few : most < 2 ^ 64) where
    small : (p : ℕ) → IsPlace most p → p < 2 ^ 64
    small p i = omega (arith, i.1, few)

    -- DED_R with digits is not DED_RECORD
    recorder-other : (p : ℕ) → IsPlace most p → bytes_eq recorder_text (refused_text p) ≡ false
    recorder-other p i = differ-by (codes "ECORD") (decimal p) (λ e. no_digit (subst (AllDigits 10) (sym e) (decimal_is_IsNumeral p (small p i)).0.1))
      where
        no_digit : AllDigits 10 (codes "ECORD") → ⊥
        no_digit d = omega (arith, digit_from_value 69 d.0)

    text-new : (t : List ℕ) → Has (names_told q) t → list_any (bytes_eq t) predefined ≡ false → list_any (λ u. bytes_eq u t) collect.new_texts ≡ false → IsNew (added_id q t).0
    text-new t has none e =
        let added = all_weaker (λ u. Has added_texts u × Has collect.new_texts u) (Has added_texts) collect.new_texts (λ u k. k.0) (all-new q) in
        (not-predefined q begins t has none, texts-clear t has collect.new_texts added e)

    pub further-new : AllByRecursion IsNew further_ids
    further-new = (
      text-new acceptors_text acceptors-there refl refl,
      (
        text-new each_text each-there refl refl,
        places-all IsNew most (omega arith)
            (λ p i. (text-new (taken_text p) (taken-there p i) refl refl, text-new (refused_text p) (refused-there p i) refl (ap (λ b. b || false) (recorder-other p i)))),
      ),
    )

    -- ---- they differ

    digits-differ : (p r : ℕ) → IsPlace most p → IsPlace most r → (p ≡ r → ⊥) → bytes_eq (decimal p) (decimal r) ≡ false
    digits-differ p r i j n = differ-by (decimal p) (decimal r) (λ e. n (decimal_injective p r (small p i) (small r j) e))

    -- the variables of earlier places
    before-free : (n : ℕ) → suc n ≤ most → IsFreeOf (place_ids n) (taken (suc n)) × IsFreeOf (place_ids n) (refused (suc n))
    before-free n l =
        let s : ℕ = suc n in
        let here : IsPlace most s = (omega arith, l) in
        let wide : (p : ℕ) → IsPlace n p → IsPlace most p = λ p i. (i.0, omega (arith, i.1, l)) in
        let other : (p : ℕ) → IsPlace n p → p ≡ s → ⊥ = λ p i e. omega (arith, i.1, e) in (
          places-free n (omega (arith, l)) (taken s) (λ p i. (
            two-apart q (taken_text p) (taken_text s) (taken-there p (wide p i)) (taken-there s here) (digits-differ p s (wide p i) here (other p i)),
            two-apart q (refused_text p) (taken_text s) (refused-there p (wide p i)) (taken-there s here) refl,
          )),
          places-free n (omega (arith, l)) (refused s) (λ p i. (
            two-apart q (taken_text p) (refused_text s) (taken-there p (wide p i)) (refused-there s here) refl,
            two-apart q (refused_text p) (refused_text s) (refused-there p (wide p i)) (refused-there s here) (digits-differ p s (wide p i) here (other p i)),
          )),
        )

    pub places-distinct : (n : ℕ) → n ≤ most → AreDistinct (place_ids n)
    places-distinct zero l = tt
    places-distinct (suc n) l =
        let here : IsPlace most (suc n) = (omega arith, l) in
        let free = before-free n l in
        distinct-both (place_ids n) (taken (suc n) ∷ refused (suc n) ∷ []) (places-distinct n (omega (arith, l)))
        (or_from (refused (suc n) == taken (suc n)) false (two-apart q (refused_text (suc n)) (taken_text (suc n)) (refused-there (suc n) here) (taken-there (suc n) here) refl) refl, (refl, tt))
        (free.0, (free.1, tt))
