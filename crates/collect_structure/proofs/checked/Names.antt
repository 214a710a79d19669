-- The names of a collecting text: a kept name has the text that it had, and is none of those to which the text gives a meaning; and the texts of the names that are added.
use Rattle.std.proofs.Common.{◌≡◌, ℕ, ◌<◌, ◌==◌, not, nat_lt, Bool, true, false, List, length, refl, sym, subst, ◌∙◌}
use Rattle.std.specs.List.{list_any}
use Rattle.std.specs.Str.{bytes_eq}
use Rattle.std.proofs.lemmas.Bool.{ltb-true}
use Rattle.common_lemmas.proofs.Truth.{and_left, and_right, not_true, clash}
use Rattle.common_lemmas.proofs.Numbers.{equal_is, unequal_turned}
use Rattle.ada_tree.specs.declared.naming.NameId.{NameId}
use Rattle.ada_tree.specs.PlainProgram.{PProgram}
use Rattle.syn_event.specs.DeclaredTasks.{text_of}
use Rattle.normal_laws.proofs.structure.numbers.Named.{Has, text-there, text-longer}
use Rattle.collect_model.specs.Names.{added_texts, collect_names}
use Rattle.collect_structure.specs.Names.{added_id, new_texts, kept_name}
use Rattle.collect_structure.proofs.texts.Rooted.{collect-begins, collect-has}

module _ (q : PProgram) where
  -- ---- kept names

  kept-within : (id : NameId) → kept_name q id.0 ≡ true → id.0 < length q.names
  kept-within id h = ltb-true id.0 (length q.names) (and_left (nat_lt id.0 (length q.names)) _ h)

  pub kept-text : (id : NameId) → kept_name q id.0 ≡ true → text_of (collect_names q) id ≡ text_of q.names id
  kept-text id h = text-longer q.names (collect_names q) id (collect-begins q) (kept-within id h)

  kept-unmeant : (id : NameId) → kept_name q id.0 ≡ true → list_any (bytes_eq (text_of q.names id)) new_texts ≡ false
  kept-unmeant id h = not_true (list_any (bytes_eq (text_of q.names id)) new_texts) (and_right (nat_lt id.0 (length q.names)) (not (list_any (bytes_eq (text_of q.names id)) new_texts)) h)

  -- the text of an added name
  pub added-text : (t : List ℕ) → Has added_texts t → text_of (collect_names q) (added_id q t) ≡ t
  added-text t h = text-there (collect_names q) t (collect-has q t h)

  any-there : (t u : List ℕ) (ts : List (List ℕ)) → Has ts t → u ≡ t → list_any (bytes_eq u) ts ≡ true
  any-there t u ts h e = subst (λ v. list_any (bytes_eq v) ts ≡ true) (sym e) h

  -- a kept name is none to which the text gives a meaning
  pub kept-other : (id : NameId) (t : List ℕ) → kept_name q id.0 ≡ true → Has added_texts t → Has new_texts t → (id.0 == (added_id q t).0) ≡ false
  kept-other id t h there meant = go (id.0 == (added_id q t).0) refl
    where
      go : (b : Bool) → (id.0 == (added_id q t).0) ≡ b → b ≡ false
      go false e = refl
      go true e =
          let n : id.0 ≡ (added_id q t).0 = equal_is id.0 (added_id q t).0 e in
          let same : text_of q.names id ≡ t = sym (kept-text id h) ∙ (λ i. text_of (collect_names q) record { 0 = n i }) ∙ added-text t there in
          clash (sym (kept-unmeant id h) ∙ any-there t (text_of q.names id) new_texts meant same)

  -- the same the other way round
  pub added-other : (id : NameId) (t : List ℕ) → kept_name q id.0 ≡ true → Has added_texts t → Has new_texts t → ((added_id q t).0 == id.0) ≡ false
  added-other id t h there meant = unequal_turned id.0 (added_id q t).0 (kept-other id t h there meant)
