-- The ids of the names that a collecting text adds: they differ from each other, from the predefined names, and from those of the normal form.
use Rattle.std.proofs.Common.{◌≡◌, ℕ, ◌<◌, Bool, true, false, ◌||◌, ◌==◌, nat_lt, List, [], ◌∷◌, ◌++◌, length, map, take, drop, slice_get, get_or, Option, Some, IsSomeAnd, refl, sym, ap, ◌∙◌, subst, true≢false, arith}
use Rattle.std.specs.List.{AllByRecursion, list_any}
use Rattle.std.specs.Str.{bytes_eq}
use Rattle.std.proofs.lemmas.Bool.{or_parts, or_from, eq-eqb, ltb-true}
use Rattle.std.proofs.lemmas.List.{take-append-drop}
use Rattle.std.proofs.lemmas.Option.{slice_get-get_or}
use Rattle.std.proofs.lemmas.Slice.Eq.{bytes_eq-Decides}
use Rattle.common_lemmas.proofs.Lists.{holds_at}
use Rattle.ada_tree.specs.NameList.{predefined}
use Rattle.ada_tree.specs.PlainProgram.{PProgram}
use Rattle.ada_static_rules.specs.RuleDuplicate.{is_predefined, is_among}
use Rattle.task_laws.proofs.legal.rewritten_values.Saying.{place-within}
use Rattle.normal_laws.proofs.structure.numbers.Named.{Has}
use Rattle.normal_laws.specs.structure.once.Apart.{IsFreeOf, AreDistinct}
use Rattle.replay_structure.proofs.declares_once.Ids.{apart-by}
use Rattle.collect_model.specs.Names.{added_texts}
use Rattle.collect_structure.specs.Names.{added_id, new_texts, IsOwn}
use Rattle.collect_structure.proofs.texts.Rooted.{ids-apart}
use Rattle.collect_structure.proofs.checked.Names.{added-other}
use Rattle.collect_structure.proofs.kept.Names.{own-is-kept}

module _ (q : PProgram) where
  abbrev pub id : List ℕ → ℕ
  id t = (added_id q t).0

  -- two texts, told by a test of their bytes
  pub texts-apart : (a b : List ℕ) → Has added_texts a → Has added_texts b → bytes_eq a b ≡ false → bytes_eq a a ≡ true → (id a == id b) ≡ false
  texts-apart a b h k n e = ids-apart q a b h k (apart-by (bytes_eq a) a b e n)

  -- an own name has no id of a new text
  pub own-apart : (t : List ℕ) → Has added_texts t → Has new_texts t → (x : ℕ) → IsOwn q.names x → (id t == x) ≡ false
  own-apart t h k x o = added-other q (record { 0 = x }) t (own-is-kept q x o) h k

  -- ---- predefined names

  first-own : AllByRecursion (λ t. list_any (bytes_eq t) new_texts ≡ false) predefined
  first-own = (refl, (refl, (refl, (refl, (refl, (refl, (refl, (refl, (refl, (refl, (refl, (refl, (refl, (refl, (refl, (refl, (refl, (refl, (refl, (refl, (refl, (refl, (refl, (refl, (refl, tt)))))))))))))))))))))))))

  module _ (begins : take (length predefined) q.names ≡ predefined) where
    first-there : (k : ℕ) → k < 25 → slice_get q.names k ≡ slice_get predefined k
    first-there k l =
        ap (λ ts. slice_get ts k) (sym (ap (λ (ts : List (List ℕ)). ts ++ drop (length predefined) q.names) (sym begins) ∙ take-append-drop (length predefined) q.names))
        ∙ place-within predefined (drop (length predefined) q.names) k l

    predefined-own : (k : ℕ) → k < 25 → IsOwn q.names k
    predefined-own k l =
        let t : List ℕ = get_or predefined k [] in
        let there : slice_get predefined k ≡ Some t = slice_get-get_or predefined k [] l in
        subst (λ (o : Option (List ℕ)). IsSomeAnd o (λ s. list_any (bytes_eq s) new_texts ≡ false)) (sym (first-there k l ∙ there)) (holds_at (λ s. list_any (bytes_eq s) new_texts ≡ false) predefined k t there first-own)

    pub new-not-predefined : (t : List ℕ) → Has added_texts t → Has new_texts t → is_predefined (id t) ≡ false
    new-not-predefined t h a = by_test (nat_lt (id t) 18) refl
      where
        by_test : (b : Bool) → nat_lt (id t) 18 ≡ b → b ≡ false
        by_test false e = refl
        by_test true e =
            let l : id t < 18 = ltb-true (id t) 18 e in
            absurd (true≢false (sym (eq-eqb (id t) (id t) refl) ∙ own-apart t h a (id t) (predefined-own (id t) (omega (arith, l)))))

  -- ---- all new ids

  abbrev pub ids : List (List ℕ) → List ℕ
  ids ts = map id ts

  -- what holds of the ids of texts holds of each
  pub pick : (P : ℕ → Type 0) (ts : List (List ℕ)) → AllByRecursion P (ids ts) → (t : List ℕ) → Has ts t → P (id t)
  pick P [] h t k = absurd (true≢false (sym k))
  pick P (u ∷ ts) h t k = by_test (bytes_eq t u) refl (pick P ts h.1 t)
    where
      by_test : (b : Bool) → bytes_eq t u ≡ b → (Has ts t → P (id t)) → P (id t)
      by_test true e later = subst (λ x. P (id x)) (sym ((bytes_eq-Decides t u).0 e)) h.0
      by_test false e later = later (sym (ap (λ b. b || list_any (bytes_eq t) ts) e) ∙ k)

  pub pick-free : (ts : List (List ℕ)) (x : ℕ) → IsFreeOf (ids ts) x → (t : List ℕ) → Has ts t → (id t == x) ≡ false
  pick-free [] x h t k = absurd (true≢false (sym k))
  pick-free (u ∷ ts) x h t k = let both = or_parts (id u == x) (is_among (ids ts) x) h in by_test (bytes_eq t u) refl both.0 (pick-free ts x both.1 t)
    where
      by_test : (b : Bool) → bytes_eq t u ≡ b → (id u == x) ≡ false → (Has ts t → (id t == x) ≡ false) → (id t == x) ≡ false
      by_test true e here later = ap (λ v. id v == x) ((bytes_eq-Decides t u).0 e) ∙ here
      by_test false e here later = later (sym (ap (λ b. b || list_any (bytes_eq t) ts) e) ∙ k)

  -- ---- texts that differ

  abbrev pub AreDifferent : List (List ℕ) → Type 0
  AreDifferent [] = Prim.Unit {0}
  AreDifferent (t ∷ ts) = (list_any (bytes_eq t) ts ≡ false) × AreDifferent ts

  pub texts-free : (t : List ℕ) (ts : List (List ℕ)) → Has added_texts t → AllByRecursion (Has added_texts) ts → list_any (bytes_eq t) ts ≡ false → IsFreeOf (ids ts) (id t)
  texts-free t [] h k e = refl
  texts-free t (u ∷ ts) h k e =
      let both = or_parts (bytes_eq t u) (list_any (bytes_eq t) ts) e in
      or_from (id u == id t) (is_among (ids ts) (id t)) (ids-apart q u t k.0 h (λ f. true≢false (sym ((bytes_eq-Decides t u).1 (sym f)) ∙ both.0))) (texts-free t ts h k.1 both.1)

  pub texts-distinct : (ts : List (List ℕ)) → AllByRecursion (Has added_texts) ts → AreDifferent ts → AreDistinct (ids ts)
  texts-distinct [] h d = tt
  texts-distinct (t ∷ ts) h d = (texts-free t ts h.0 h.1 d.0, texts-distinct ts h.1 d.1)

  -- ---- new texts

  -- texts that are new ones
  abbrev pub AreNew : List (List ℕ) → Type 0
  AreNew ts = AllByRecursion (λ t. Has added_texts t × Has new_texts t) ts

  -- no new name is an own one
  pub own-clear : (ts : List (List ℕ)) → AreNew ts → (x : ℕ) → IsOwn q.names x → IsFreeOf (ids ts) x
  own-clear [] h x o = refl
  own-clear (t ∷ ts) h x o = or_from (id t == x) (is_among (ids ts) x) (own-apart t h.0.0 h.0.1 x o) (own-clear ts h.1 x o)

-- the new texts are so
pub all-new : (q : PProgram) → AreNew q new_texts
all-new q =
    ((refl, refl), ((refl, refl), ((refl, refl), ((refl, refl), ((refl, refl), ((refl, refl), ((refl, refl), ((refl, refl), ((refl, refl), ((refl, refl), ((refl, refl), ((refl, refl), ((refl, refl), ((refl, refl), tt))))))))))))))
