-- The ids of two tables of names as ids of one table: those of the first stay, and those of the second go to those of the first with their texts, or behind all.
use Rattle.std.proofs.Common.{◌++◌, ◌+◌, ◌<◌, ◌==◌, ◌∙◌, ◌∷◌, ◌≡◌, ◌≤◌, ◌⊎◌, Bool, List, None, Option, Some, [], ap, arith, drop, false, if◌then◌else◌, length, nat_lt, refl, slice_get, suc, sym, take, true, true≢false, zero, ℕ, ⊎_elim}
use Rattle.std.proofs.lemmas.Bool.{cases_lt}
use Rattle.std.proofs.lemmas.List.{length-append, take-append-drop}
use Rattle.std.proofs.lemmas.Option.{slice_get_past, slice_get_within}
use Rattle.std.proofs.lemmas.Slice.Eq.{bytes_eq-Decides}
use Rattle.std.specs.Str.{bytes_eq}
use Rattle.ada_tree.specs.NameList.{predefined}
use Rattle.ada_tree.specs.Same.{SameName}
use Rattle.ada_tree.specs.declared.naming.NameId.{NameId}
use Rattle.common_lemmas.proofs.Lists.{element_at, texts_differ}
use Rattle.common_lemmas.proofs.Numbers.{equal_is, equal_self, lt_false, lt_true, unequal}
use Rattle.common_lemmas.proofs.Options.{not_missing, some_same}
use Rattle.common_lemmas.proofs.Truth.{if_false, if_true}
use Rattle.replay_runs.specs.same.Laws.{IsNameTable}
use Rattle.replay_runs.specs.same.Renamed.{IsRenaming, KeepsTexts}
use Rattle.replay_runs.specs.same.inner.RenamedTasks.{names_for}
use Rattle.task_laws.proofs.legal.rewritten_types.Lookups.{place-more}
use Rattle.replay_structure.proofs.spots.Placed.{place-past}

-- ---- places in a list

behind_all : {A : Type 0} (xs : List A) (k : ℕ) → slice_get xs k ≡ None → length xs ≤ k
behind_all xs k e = go (cases_lt k (length xs))
  where
    go : (k < length xs) ⊎ (length xs ≤ k) → length xs ≤ k
    go c = ⊎_elim (λ l. let h = element_at xs k l in absurd (not_missing h.0 (sym e ∙ h.1))) (λ l. l) c

-- ---- renamings

-- a map of ids that keeps texts tells ids apart, where it does so with ids without text
tells : (f : ℕ → ℕ) (n all : List (List ℕ)) → ((t : List ℕ) (i j : ℕ) → slice_get n i ≡ Some t → slice_get n j ≡ Some t → i ≡ j) → KeepsTexts f n all →
    ((a b : ℕ) → slice_get n a ≡ None → slice_get n b ≡ None → f a ≡ f b → a ≡ b) → (a b : ℕ) → f a ≡ f b → a ≡ b
tells f n all distinct keeps beyond a b e = go (slice_get n a) refl
  where
    alike : slice_get n a ≡ slice_get n b
    alike = sym (keeps a) ∙ (ap (slice_get all) e ∙ keeps b)

    go : (o : Option (List ℕ)) → slice_get n a ≡ o → a ≡ b
    go None h = beyond a b h (sym alike ∙ h) e
    go (Some t) h = distinct t a b h (sym alike ∙ h)

told_apart : (f : ℕ → ℕ) → ((a b : ℕ) → f a ≡ f b → a ≡ b) → (a b : ℕ) → (f a == f b) ≡ (a == b)
told_apart f tells a b = go (a == b) refl
  where
    go : (c : Bool) → (a == b) ≡ c → (f a == f b) ≡ (a == b)
    go true e = ap (λ k. f a == f k) (sym (equal_is a b e)) ∙ (equal_self (f a) ∙ sym e)
    go false e = unequal (f a) (f b) (λ h. true≢false (sym (ap (λ k. a == k) (sym (tells a b h)) ∙ equal_self a) ∙ e)) ∙ sym e

-- ---- the first table

-- where the ids of the first table go, before those of the second
abbrev pub stayed : List (List ℕ) → List (List ℕ) → ℕ → ℕ
stayed n m a = if nat_lt a (length n) then a else a + length m

-- the place of a text from the place k on; behind all where it is none of them
abbrev pub text_place : List (List ℕ) → ℕ → ℕ → List ℕ → ℕ
text_place [] k beyond t = beyond
text_place (x ∷ rest) k beyond t = if bytes_eq t x then k else text_place rest (suc k) beyond t

abbrev pub carried_text : List (List ℕ) → ℕ → Option (List ℕ) → ℕ
carried_text n a None = length n + a
carried_text n a (Some t) = text_place n 0 (length n + a) t

-- where the ids of the second table go
abbrev pub carried : List (List ℕ) → List (List ℕ) → ℕ → ℕ
carried n m a = carried_text n a (slice_get m a)

stayed_there : (n m : List (List ℕ)) (a : ℕ) → a < length n → stayed n m a ≡ a
stayed_there n m a l = if_true (nat_lt a (length n)) a (a + length m) (lt_true a (length n) l)

stayed_beyond : (n m : List (List ℕ)) (a : ℕ) → length n ≤ a → stayed n m a ≡ a + length m
stayed_beyond n m a l = if_false (nat_lt a (length n)) a (a + length m) (lt_false a (length n) l)

length_both : (n m : List (List ℕ)) → length (n ++ m) ≡ length n + length m
length_both n m = length-append n m

pub stayed_keeps : (n m : List (List ℕ)) → KeepsTexts (stayed n m) n (n ++ m)
stayed_keeps n m a = go (slice_get n a) refl
  where
    go : (o : Option (List ℕ)) → slice_get n a ≡ o → slice_get (n ++ m) (stayed n m a) ≡ slice_get n a
    go (Some t) e = ap (slice_get (n ++ m)) (stayed_there n m a (slice_get_within n a t e)) ∙ (place-more n m a t e ∙ sym e)
    go None e = ap (slice_get (n ++ m)) (stayed_beyond n m a (behind_all n a e))
        ∙ (slice_get_past (n ++ m) (a + length m) (let h = length_both n m in let l = behind_all n a e in omega (arith, h, l)) ∙ sym e)

-- ---- the second table

-- what the place of a text is
data Found (n : List (List ℕ)) (k beyond : ℕ) (t : List ℕ) (place : ℕ) : Type 0 where
  found_at : (j : ℕ) → slice_get n j ≡ Some t → place ≡ k + j → Found n k beyond t place
  found_nowhere : ((j : ℕ) → slice_get n j ≡ Some t → ⊥) → place ≡ beyond → Found n k beyond t place

text_found : (n : List (List ℕ)) (k beyond : ℕ) (t : List ℕ) → Found n k beyond t (text_place n k beyond t)
text_found [] k beyond t = found_nowhere (λ j e. not_missing t (sym (slice_get_past [] j (omega arith)) ∙ e)) refl
text_found (x ∷ rest) k beyond t = go (bytes_eq t x) refl (text_found rest (suc k) beyond t)
  where
    more : Found rest (suc k) beyond t (text_place rest (suc k) beyond t) → bytes_eq t x ≡ false → Found (x ∷ rest) k beyond t (text_place rest (suc k) beyond t)
    more (found_at j e p) h = found_at (suc j) e (p ∙ (let q : suc k + j ≡ k + suc j = omega arith in q))
    more (found_nowhere lacks p) h = found_nowhere by_place p
      where
        by_place : (j : ℕ) → slice_get (x ∷ rest) j ≡ Some t → ⊥
        by_place zero e = texts_differ t x h (sym (some_same e))
        by_place (suc j) e = lacks j e

    go : (b : Bool) → bytes_eq t x ≡ b → Found rest (suc k) beyond t (text_place rest (suc k) beyond t) → Found (x ∷ rest) k beyond t (if b then k else text_place rest (suc k) beyond t)
    go true h r = found_at 0 (ap Some (sym ((bytes_eq-Decides t x).0 h))) (let q : k ≡ k + 0 = omega arith in q)
    go false h r = more r h

-- an id of the second table with the text of one of the first goes to this
carried_to : (n m : List (List ℕ)) → IsNameTable n → (a b : ℕ) (t : List ℕ) → slice_get n a ≡ Some t → slice_get m b ≡ Some t → carried n m b ≡ a
carried_to n m names a b t e h = ap (carried_text n b) h ∙ go (text_place n 0 (length n + b) t) (text_found n 0 (length n + b) t)
  where
    go : (place : ℕ) → Found n 0 (length n + b) t place → place ≡ a
    go place (found_at j s p) = let q : j ≡ a = names.distinct t j a s e in omega (arith, p, q)
    go place (found_nowhere lacks p) = absurd (lacks a e)

pub carried_keeps : (n m : List (List ℕ)) → KeepsTexts (carried n m) m (n ++ m)
carried_keeps n m a = go (slice_get m a) refl
  where
    by_place : (t : List ℕ) → slice_get m a ≡ Some t → (place : ℕ) → Found n 0 (length n + a) t place → slice_get (n ++ m) place ≡ slice_get m a
    by_place t e place (found_at j s p) = ap (slice_get (n ++ m)) (p ∙ (let q : 0 + j ≡ j = omega arith in q)) ∙ (place-more n m j t s ∙ sym e)
    by_place t e place (found_nowhere lacks p) = ap (slice_get (n ++ m)) p ∙ place-past n m (length n) a refl

    go : (o : Option (List ℕ)) → slice_get m a ≡ o → slice_get (n ++ m) (carried n m a) ≡ slice_get m a
    go None e = ap (λ o. slice_get (n ++ m) (carried_text n a o)) e ∙ place-past n m (length n) a refl
    go (Some t) e = ap (λ o. slice_get (n ++ m) (carried_text n a o)) e ∙ by_place t e (text_place n 0 (length n + a) t) (text_found n 0 (length n + a) t)

-- ---- both

-- one of the first 25 ids has its predefined text
first_text : (n : List (List ℕ)) → IsNameTable n → (k : ℕ) (t : List ℕ) → slice_get predefined k ≡ Some t → slice_get n k ≡ Some t
first_text n names k t e =
    ap (λ xs. slice_get xs k) (sym (take-append-drop 25 n))
    ∙ place-more (take 25 n) (drop 25 n) k t (ap (λ xs. slice_get xs k) names.begins ∙ e)

module _ (n m : List (List ℕ)) (first : IsNameTable n) (second : IsNameTable m) where
  -- where a name of the first table and one of the second have one text, both go to one id
  pub known_same : (a b : NameId) (t : List ℕ) → slice_get n a.0 ≡ Some t → SameName n m a b → stayed n m a.0 ≡ carried n m b.0
  known_same a b t e s = stayed_there n m a.0 (slice_get_within n a.0 t e) ∙ sym (carried_to n m first a.0 b.0 t e (sym s ∙ e))

  first_id : (k : ℕ) → k < 25 → (t : List ℕ) × (slice_get predefined k ≡ Some t)
  first_id k l = element_at predefined k l

  pub stayed_renames : IsRenaming (stayed n m)
  stayed_renames = record {
    same = told_apart (stayed n m) (tells (stayed n m) n (n ++ m) first.distinct (stayed_keeps n m) beyond);
    fixed = λ k l. let h = first_id k l in stayed_there n m k (slice_get_within n k h.0 (first_text n first k h.0 h.1));
  }
    where
      beyond : (a b : ℕ) → slice_get n a ≡ None → slice_get n b ≡ None → stayed n m a ≡ stayed n m b → a ≡ b
      beyond a b e d h = let p : a + length m ≡ b + length m = sym (stayed_beyond n m a (behind_all n a e)) ∙ (h ∙ stayed_beyond n m b (behind_all n b d)) in omega (arith, p)

  pub carried_renames : IsRenaming (carried n m)
  carried_renames = record {
    same = told_apart (carried n m) (tells (carried n m) m (n ++ m) second.distinct (carried_keeps n m) beyond);
    fixed = λ k l. let h = first_id k l in carried_to n m first k k h.0 (first_text n first k h.0 h.1) (first_text m second k h.0 h.1);
  }
    where
      beyond : (a b : ℕ) → slice_get m a ≡ None → slice_get m b ≡ None → carried n m a ≡ carried n m b → a ≡ b
      beyond a b e d h = let p : length n + a ≡ length n + b = sym (ap (carried_text n a) e) ∙ (h ∙ ap (carried_text n b) d) in omega (arith, p)

  -- there are names
  pub names_there : (names : List (List ℕ)) → names_for names n ≡ names
  names_there names = let h = first_id 0 (omega arith) in go n (first_text n first 0 h.0 h.1)
    where
      go : (xs : List (List ℕ)) {t : List ℕ} → slice_get xs 0 ≡ Some t → names_for names xs ≡ names
      go [] {t} e = absurd (not_missing t e)
      go (x ∷ xs) e = refl
