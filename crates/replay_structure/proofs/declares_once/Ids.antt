-- The ids of the names that a replay text adds: they differ from each other, from the predefined names, and from those of the normal form.
use Rattle.std.proofs.Common.{◌≡◌, ℕ, ◌<◌, Bool, true, false, ◌==◌, nat_lt, List, [], ◌∷◌, ◌++◌, length, flat_map, take, drop, slice_get, get_or, unwrap_or, Option, Some, None, IsSomeAnd, refl, sym, ap, ◌∙◌, subst, true≢false, arith}
use Rattle.std.specs.List.{AllByRecursion, list_any}
use Rattle.std.specs.Str.{bytes_eq}
use Rattle.std.proofs.lemmas.Bool.{or_left, or_right, eqb-true, eq-eqb, ltb-true}
use Rattle.std.proofs.lemmas.List.{take-append-drop}
use Rattle.std.proofs.lemmas.Option.{slice_get-get_or, slice_get_within}
use Rattle.std.proofs.lemmas.Slice.Eq.{bytes_eq-Decides}
use Rattle.common_lemmas.proofs.Options.{some_same}
use Rattle.common_lemmas.proofs.Lists.{all_unflat, all_weaker, holds_at, all_unmapped}
use Rattle.ada_tree.specs.declared.naming.Word.{Word}
use Rattle.ada_tree.specs.NameList.{predefined}
use Rattle.ada_static_rules.specs.RuleDuplicate.{is_predefined}
use Rattle.ada_tree.specs.PlainDecl.{PEntry, PTask}
use Rattle.ada_tree.specs.PlainProgram.{PProgram}
use Rattle.syn_event.specs.DeclaredTasks.{text_of, tasks_of}
use Rattle.normal_model.proofs.VariablesLemmas.{Begins}
use Rattle.normal_laws.proofs.structure.types.Names.{text-place}
use Rattle.normal_laws.proofs.structure.numbers.Named.{Has, has-folded, has-back}
use Rattle.task_laws.proofs.legal.rewritten_values.Saying.{place-within}
use Rattle.replay_model.specs.Names.{added_texts, double_text, double_texts, replay_names, added_id}
use Rattle.replay_structure.proofs.texts.Rooted.{replay-begins}
use Rattle.replay_structure.specs.declares_once.Names.{is_added_text}

-- ---- lists

has-self : (xs : List (List ℕ)) → AllByRecursion (Has xs) xs
has-self [] = tt
has-self (x ∷ xs) = (or_left (bytes_eq x x) (list_any (bytes_eq x) xs) ((bytes_eq-Decides x x).1 refl), all_weaker (Has xs) (Has (x ∷ xs)) xs (λ y h. or_right (bytes_eq y x) (list_any (bytes_eq y) xs) h) (has-self xs))

-- ---- texts

-- a text that the program has under this id
abbrev pub IsOwn : List (List ℕ) → ℕ → Type 0
IsOwn names x = IsSomeAnd (slice_get names x) (λ t. is_added_text t ≡ false)

-- texts that differ in a test are not one
pub apart-by : (f : List ℕ → Bool) (a b : List ℕ) → f a ≡ true → f b ≡ false → a ≡ b → ⊥
apart-by f a b p q e = true≢false (sym p ∙ ap f e ∙ q)

module _ (q : PProgram) where
  abbrev pub all : List (List ℕ)
  all = replay_names q

  abbrev pub id : List ℕ → ℕ
  id t = (added_id q t).0

  -- the id of an added text has that text
  pub added-there : (t : List ℕ) → Has all t → slice_get all (id t) ≡ Some t
  added-there t h = let place = text-place all t h in ap (λ (o : Option ℕ). slice_get all (unwrap_or o 0)) place.position_is ∙ place.there

  -- what the normal form has stays there
  old-there : (x : ℕ) (t : List ℕ) → slice_get q.names x ≡ Some t → slice_get all x ≡ Some t
  old-there x t e =
      let b : Begins q.names all = replay-begins q in
      ap (λ (l : List (List ℕ)). slice_get l x) b.joined ∙ place-within q.names b.more x (slice_get_within q.names x t e) ∙ e

  -- two added texts have two ids
  pub added-apart : (a b : List ℕ) → Has all a → Has all b → (a ≡ b → ⊥) → (id a == id b) ≡ false
  added-apart a b h k n = by_test (id a == id b) refl
    where
      by_test : (c : Bool) → (id a == id b) ≡ c → c ≡ false
      by_test false e = refl
      by_test true e = absurd (n (some_same (sym (added-there a h) ∙ ap (slice_get all) (eqb-true (id a) (id b) e) ∙ added-there b k)))

  -- a name of the normal form that is no added one has no id of an added text
  pub own-apart : (t : List ℕ) → Has all t → is_added_text t ≡ true → (x : ℕ) → IsOwn q.names x → (id t == x) ≡ false
  own-apart t h a x own = by_test (id t == x) refl
    where
      differ : id t ≡ x → (o : Option (List ℕ)) → slice_get q.names x ≡ o → IsSomeAnd o (λ s. is_added_text s ≡ false) → ⊥
      differ e None f k = k
      differ e (Some s) f k = apart-by is_added_text t s a k (some_same (sym (added-there t h) ∙ ap (slice_get all) e ∙ old-there x s f))

      by_test : (c : Bool) → (id t == x) ≡ c → c ≡ false
      by_test false e = refl
      by_test true e = absurd (differ (eqb-true (id t) x e) (slice_get q.names x) refl own)

  -- ---- predefined names

  first-own : AllByRecursion (λ t. is_added_text t ≡ false) predefined
  first-own = (refl, (refl, (refl, (refl, (refl, (refl, (refl, (refl, (refl, (refl, (refl, (refl, (refl, (refl, (refl, (refl, (refl, (refl, (refl, (refl, (refl, (refl, (refl, (refl, (refl, tt)))))))))))))))))))))))))

  module _ (begins : take (length predefined) q.names ≡ predefined) where
    first-there : (k : ℕ) → k < 25 → slice_get q.names k ≡ slice_get predefined k
    first-there k l =
        ap (λ ts. slice_get ts k) (sym (ap (λ (ts : List (List ℕ)). ts ++ drop (length predefined) q.names) (sym begins) ∙ take-append-drop (length predefined) q.names))
        ∙ place-within predefined (drop (length predefined) q.names) k l

    predefined-own : (k : ℕ) → k < 25 → IsOwn q.names k
    predefined-own k l =
        let t : List ℕ = get_or predefined k [] in
        let there : slice_get predefined k ≡ Some t = slice_get-get_or predefined k [] l in
        subst (λ (o : Option (List ℕ)). IsSomeAnd o (λ s. is_added_text s ≡ false)) (sym (first-there k l ∙ there)) (holds_at (λ s. is_added_text s ≡ false) predefined k t there first-own)

    pub new-not-predefined : (t : List ℕ) → Has all t → is_added_text t ≡ true → is_predefined (id t) ≡ false
    new-not-predefined t h a = by_test (nat_lt (id t) 18) refl
      where
        by_test : (b : Bool) → nat_lt (id t) 18 ≡ b → b ≡ false
        by_test false e = refl
        by_test true e =
            let l : id t < 18 = ltb-true (id t) 18 e in
            absurd (true≢false (sym (eq-eqb (id t) (id t) refl) ∙ own-apart t h a (id t) (predefined-own (id t) (omega (arith, l)))))

  -- ---- doubles

  abbrev pub double : PEntry → List ℕ
  double e = double_text (text_of q.names e.name.name)

  abbrev pub HasDoubles : List PEntry → Type 0
  HasDoubles es = AllByRecursion (λ (e : PEntry). Has all (double e)) es

  pub doubles-there : AllByRecursion (λ (t : PTask). HasDoubles t.entries) (tasks_of q)
  doubles-there =
      all_weaker (λ (t : PTask). AllByRecursion (Has all) (double_texts q.names t)) (λ (t : PTask). HasDoubles t.entries) (tasks_of q) (λ t h. all_unmapped (Has all) double t.entries h)
      (all_unflat (Has all) (double_texts q.names) (tasks_of q)
      (all_weaker (Has (flat_map (double_texts q.names) (tasks_of q))) (Has all) (flat_map (double_texts q.names) (tasks_of q))
      (λ t h. has-folded (added_texts ++ flat_map (double_texts q.names) (tasks_of q)) q.names t (has-back added_texts (flat_map (double_texts q.names) (tasks_of q)) t h))
      (has-self (flat_map (double_texts q.names) (tasks_of q)))))

  -- a double's text is an added one
  pub double-added : (t : List ℕ) → is_added_text (double_text t) ≡ true
  double-added t = refl

  -- entries with names that differ have doubles that differ
  module _ (distinct : (t : List ℕ) (i j : ℕ) → slice_get q.names i ≡ Some t → slice_get q.names j ≡ Some t → i ≡ j) where
    pub doubles-differ : (x y : Word) → IsOwn q.names x.name.0 → IsOwn q.names y.name.0 → Has all (double_text (text_of q.names x.name)) → Has all (double_text (text_of q.names y.name)) → (x.name.0 == y.name.0) ≡ false →
        (id (double_text (text_of q.names x.name)) == id (double_text (text_of q.names y.name))) ≡ false
    doubles-differ x y a b h k n = added-apart (double_text (text_of q.names x.name)) (double_text (text_of q.names y.name)) h k (λ e. differ (ap (drop 6) e) (slice_get q.names x.name.0) (slice_get q.names y.name.0) refl refl a b)
      where
        differ : text_of q.names x.name ≡ text_of q.names y.name → (o p : Option (List ℕ)) → slice_get q.names x.name.0 ≡ o → slice_get q.names y.name.0 ≡ p →
            IsSomeAnd o (λ s. is_added_text s ≡ false) → IsSomeAnd p (λ s. is_added_text s ≡ false) → ⊥
        differ e None p f g u v = u
        differ e (Some s) None f g u v = v
        differ e (Some s) (Some t) f g u v =
            let same : s ≡ t = ap (λ (o : Option (List ℕ)). unwrap_or o []) (sym f) ∙ e ∙ ap (λ (o : Option (List ℕ)). unwrap_or o []) g in
            let one : x.name.0 ≡ y.name.0 = distinct s x.name.0 y.name.0 f (g ∙ ap Some (sym same)) in
            true≢false (sym (eq-eqb x.name.0 y.name.0 one) ∙ n)
