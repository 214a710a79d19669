-- The names of a replay text: a kept name has the text that it had, and is none of those to which the text gives a meaning; and the texts of the
-- names that are added.
use Rattle.std.proofs.Common.{◌≡◌, ℕ, ◌<◌, ◌==◌, not, nat_lt, Bool, true, false, List, [], ◌∷◌, ◌++◌, length, map, flat_map, refl, sym, subst, ◌∙◌}
use Rattle.std.specs.List.{list_any, AllByRecursion}
use Rattle.std.specs.Str.{bytes_eq}
use Rattle.std.proofs.lemmas.Bool.{ltb-true, or_left, or_right}
use Rattle.std.proofs.lemmas.Slice.Eq.{bytes_eq-Decides}
use Rattle.common_lemmas.proofs.Truth.{and_left, and_right, not_true, clash}
use Rattle.common_lemmas.proofs.Numbers.{equal_is, unequal_turned}
use Rattle.ada_tree.specs.declared.naming.NameId.{NameId}
use Rattle.ada_tree.specs.PlainDecl.{PEntry, PTask}
use Rattle.ada_tree.specs.PlainProgram.{PProgram}
use Rattle.syn_event.specs.DeclaredTasks.{text_of, tasks_of}
use Rattle.replay_model.specs.Names.{added_texts, double_text, double_texts, replay_names, added_id, double_word}
use Rattle.normal_laws.proofs.structure.numbers.Named.{Has, has-folded, has-front, has-back, text-there, text-longer}
use Rattle.replay_structure.proofs.texts.Rooted.{replay-begins, replay-has}
use Rattle.replay_structure.specs.checked.Around.{meant_texts, kept_name}

-- ---- lists of texts

-- what holds of each text of a list holds of what each member gives
each-mapped : {A : Type 0} (f : A → List ℕ) (P : List ℕ → Type 0) (xs : List A) → ((t : List ℕ) → Has (map f xs) t → P t) → AllByRecursion (λ x. P (f x)) xs
each-mapped f P [] h = tt
each-mapped f P (x ∷ xs) h = (
  h (f x) (or_left (bytes_eq (f x) (f x)) (list_any (bytes_eq (f x)) (map f xs)) ((bytes_eq-Decides (f x) (f x)).1 refl)),
  each-mapped f P xs (λ t i. h t (or_right (bytes_eq t (f x)) (list_any (bytes_eq t) (map f xs)) i)),
)

pub each-flat : {A B : Type 0} (g : A → List B) (f : B → List ℕ) (P : List ℕ → Type 0) (xs : List A) → ((t : List ℕ) → Has (flat_map (λ x. map f (g x)) xs) t → P t) → AllByRecursion (λ x. AllByRecursion (λ y. P (f y)) (g x)) xs
each-flat g f P [] h = tt
each-flat g f P (x ∷ xs) h = (
  each-mapped f P (g x) (λ t i. h t (has-front (map f (g x)) (flat_map (λ y. map f (g y)) xs) t i)),
  each-flat g f P xs (λ t i. h t (has-back (map f (g x)) (flat_map (λ y. map f (g y)) xs) t i)),
)

module _ (q : PProgram) where
  -- ---- kept names

  kept-within : (id : NameId) → kept_name q id.0 ≡ true → id.0 < length q.names
  kept-within id h = ltb-true id.0 (length q.names) (and_left (nat_lt id.0 (length q.names)) _ h)

  pub kept-text : (id : NameId) → kept_name q id.0 ≡ true → text_of (replay_names q) id ≡ text_of q.names id
  kept-text id h = text-longer q.names (replay_names q) id (replay-begins q) (kept-within id h)

  kept-unmeant : (id : NameId) → kept_name q id.0 ≡ true → list_any (bytes_eq (text_of q.names id)) meant_texts ≡ false
  kept-unmeant id h = not_true (list_any (bytes_eq (text_of q.names id)) meant_texts) (and_right (nat_lt id.0 (length q.names)) (not (list_any (bytes_eq (text_of q.names id)) meant_texts)) h)

  -- the text of an added name
  pub added-text : (t : List ℕ) → Has added_texts t → text_of (replay_names q) (added_id q t) ≡ t
  added-text t h = text-there (replay_names q) t (replay-has q t h)

  any-there : (t u : List ℕ) (ts : List (List ℕ)) → Has ts t → u ≡ t → list_any (bytes_eq u) ts ≡ true
  any-there t u ts h e = subst (λ v. list_any (bytes_eq v) ts ≡ true) (sym e) h

  -- a kept name is none to which the text gives a meaning
  pub kept-other : (id : NameId) (t : List ℕ) → kept_name q id.0 ≡ true → Has added_texts t → Has meant_texts t → (id.0 == (added_id q t).0) ≡ false
  kept-other id t h there meant = go (id.0 == (added_id q t).0) refl
    where
      go : (b : Bool) → (id.0 == (added_id q t).0) ≡ b → b ≡ false
      go false e = refl
      go true e =
          let n : id.0 ≡ (added_id q t).0 = equal_is id.0 (added_id q t).0 e in
          let same : text_of q.names id ≡ t = sym (kept-text id h) ∙ (λ i. text_of (replay_names q) record { 0 = n i }) ∙ added-text t there in
          clash (sym (kept-unmeant id h) ∙ any-there t (text_of q.names id) meant_texts meant same)

  -- the same the other way round
  pub added-other : (id : NameId) (t : List ℕ) → kept_name q id.0 ≡ true → Has added_texts t → Has meant_texts t → ((added_id q t).0 == id.0) ≡ false
  added-other id t h there meant = unequal_turned id.0 (added_id q t).0 (kept-other id t h there meant)

  -- ---- doubles

  -- the double of an entry has its name
  abbrev pub IsDoubled : PEntry → Type 0
  IsDoubled e = text_of (replay_names q) (double_word q e.name).name ≡ double_text (text_of q.names e.name.name)

  pub doubles-named : AllByRecursion (λ t. AllByRecursion IsDoubled t.entries) (tasks_of q)
  doubles-named =
      each-flat (λ (t : PTask). t.entries) (λ e. double_text (text_of q.names e.name.name)) (λ t. text_of (replay_names q) (added_id q t) ≡ t) (tasks_of q)
      (λ t h. text-there (replay_names q) t (has-folded (added_texts ++ flat_map (double_texts q.names) (tasks_of q)) q.names t (has-back added_texts (flat_map (double_texts q.names) (tasks_of q)) t h)))
