-- The names of variables, one after the other.
use Rattle.std.proofs.Common.{◌≡◌, ◌<◌, ◌≤◌, ℕ, zero, suc, List, [], ◌∷◌, ◌++◌, length, Some, unwrap_or, slice_get, refl, sym, ap, ◌∙◌, arith, length-append, add-one, ◌⊎◌, inl, inr}
use Rattle.std.proofs.lemmas.Bool.{cases_lt}
use Rattle.ada_tree.specs.declared.naming.NameId.{NameId}
use Rattle.ada_tree.specs.NameList.{interned, AreNames}
use Rattle.task_model.specs.Setting.{Setting}
use Rattle.normal_model.specs.Names.{id_of, normal_names, variable_name, variable_text}
use Rattle.normal_lookups.specs.declared.names.names.NormalNames.{NormalNames}
use Rattle.normal_lookups.specs.names.SoFar.{AreNamesOf}
use Rattle.normal_lookups.proofs.names.Places.{place_of}
use Rattle.common_lemmas.proofs.Lists.{last_at}

-- what stands in a list stands there too where one more follows
still : {X : Type 0} (xs : List X) (y : X) (k : ℕ) → k < length xs → slice_get (xs ++ y ∷ []) k ≡ slice_get xs k
still [] y k lt = absurd (omega arith)
still (x ∷ xs) y zero lt = refl
still (x ∷ xs) y (suc k) lt = still xs y k (omega arith)

-- the names with that of the next variable
pub one_more : (g : Setting) (n more : NormalNames) (id : NameId) →
    more.names ≡ interned n.names (variable_text (length n.variables.items)) →
    AreNames more.names →
    slice_get more.names id.0 ≡ Some (variable_text (length n.variables.items)) →
    more.tasks.items ≡ n.tasks.items →
    more.variables.items ≡ n.variables.items ++ id ∷ [] →
    AreNamesOf g n → AreNamesOf g more
one_more g n more id grows names at same longer so_far = record {
  texts = texts_are ∙ ap (normal_names g) (sym count);
  tasks = same ∙ so_far.tasks;
  variables = λ k lt. ap (λ l. slice_get l k) longer ∙ each k (omega (arith, lt, count));
}
  where
    count : length more.variables.items ≡ suc (length n.variables.items)
    count = ap length longer ∙ length-append n.variables.items (id ∷ []) ∙ add-one (length n.variables.items)

    texts_are : more.names ≡ normal_names g (suc (length n.variables.items))
    texts_are = grows ∙ ap (λ l. interned l (variable_text (length n.variables.items))) so_far.texts

    named : id ≡ variable_name g (length n.variables.items)
    named =
        sym (ap (λ k. id_of (normal_names g k) (variable_text (length n.variables.items))) (add-one (length n.variables.items))
        ∙ ap (λ l. id_of l (variable_text (length n.variables.items))) (sym texts_are)
        ∙ ap (λ o. let made : NameId = record { 0 = unwrap_or o 0 } in made) (place_of (variable_text (length n.variables.items)) more.names id.0 names at))

    each : (k : ℕ) → k < suc (length n.variables.items) → slice_get (n.variables.items ++ id ∷ []) k ≡ Some (variable_name g k)
    each k lt = by (cases_lt k (length n.variables.items))
      where
        by : (k < length n.variables.items) ⊎ (length n.variables.items ≤ k) → slice_get (n.variables.items ++ id ∷ []) k ≡ Some (variable_name g k)
        by (inl h) = still n.variables.items id k h ∙ so_far.variables k h
        by (inr h) =
            let e : k ≡ length n.variables.items = omega (arith, lt, h) in
            ap (slice_get (n.variables.items ++ id ∷ [])) e ∙ last_at n.variables.items id ∙ ap Some (named ∙ ap (variable_name g) (sym e))
