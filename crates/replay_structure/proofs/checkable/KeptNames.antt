-- The names that a normal form has are none of those to which its replay text gives a meaning.
use Rattle.std.proofs.Common.{◌≡◌, ℕ, suc, ◌<◌, ◌&&◌, ◌||◌, not, nat_eq, Bool, true, false, List, [], ◌∷◌, length, codes, unwrap_or, refl, sym, ap, ap₂, ◌∙◌, arith}
use Rattle.std.specs.List.{AllByRecursion, list_any, starts_with}
use Rattle.std.specs.Str.{bytes_eq}
use Rattle.std.proofs.lemmas.Slice.Eq.{bytes_eq-Decides}
use Rattle.common_lemmas.proofs.Truth.{clash}
use Rattle.common_lemmas.proofs.Numbers.{lt_true}
use Rattle.ada_tree.specs.declared.naming.NameId.{NameId}
use Rattle.ada_tree.specs.TypeTable.{TypeTable}
use Rattle.ada_tree.specs.PlainProgram.{PProgram}
use Rattle.syn_event.specs.Numbering.{Numbering}
use Rattle.syn_event.specs.AddedNames.{is_added_name}
use Rattle.syn_event.specs.DeclaredTasks.{text_of}
use Rattle.task_model.specs.Setting.{Setting}
use Rattle.normal_model.specs.Names.{with_members, variable_text, normal_names, variable_name}
use Rattle.normal_model.specs.NormalTree.{variables_needed, normal_tree}
use Rattle.normal_model.proofs.VariablesLemmas.{Begins}
use Rattle.normal_laws.specs.structure.types.Own.{own_name}
use Rattle.normal_laws.specs.structure.types.Laws.{setting_of}
use Rattle.normal_laws.proofs.structure.types.Names.{variable-there}
use Rattle.normal_laws.proofs.structure.numbers.Named.{text-longer, own-within, own-not-added, begins-within}
use Rattle.normal_laws.proofs.structure.numbers.TaskNames.{normal-begins}
use Rattle.replay_structure.specs.checked.Around.{meant_texts, kept_name}
use Rattle.normal_laws.proofs.structure.placed.Names.{variables-more}

-- ---- texts

-- a text that does not begin with DED_ is none of those
not-this : (t m : List ℕ) → starts_with nat_eq t (codes "DED_") ≡ false → starts_with nat_eq m (codes "DED_") ≡ true → bytes_eq t m ≡ false
not-this t m h i = go (bytes_eq t m) refl
  where
    go : (b : Bool) → bytes_eq t m ≡ b → b ≡ false
    go false e = refl
    go true e = clash (sym h ∙ ap (λ u. starts_with nat_eq u (codes "DED_")) ((bytes_eq-Decides t m).0 e) ∙ i)

none-of : (t : List ℕ) (ms : List (List ℕ)) → AllByRecursion (λ m. starts_with nat_eq m (codes "DED_") ≡ true) ms → starts_with nat_eq t (codes "DED_") ≡ false → list_any (bytes_eq t) ms ≡ false
none-of t [] i h = refl
none-of t (m ∷ ms) i h = ap₂ (λ (a b : Bool). a || b) (not-this t m h i.0) (none-of t ms i.1 h)

pub plain-unmeant : (t : List ℕ) → starts_with nat_eq t (codes "DED_") ≡ false → list_any (bytes_eq t) meant_texts ≡ false
plain-unmeant t h = none-of t meant_texts (refl, (refl, (refl, (refl, (refl, (refl, tt)))))) h

pub variable-unmeant : (k : ℕ) → list_any (bytes_eq (variable_text k)) meant_texts ≡ false
variable-unmeant k = refl

-- a name of the normal form that has such a text is a kept one
pub kept-by : (q : PProgram) (id : NameId) → id.0 < length q.names → list_any (bytes_eq (text_of q.names id)) meant_texts ≡ false → kept_name q id.0 ≡ true
kept-by q id l h = ap₂ (λ (a b : Bool). a && not b) (lt_true id.0 (length q.names) l) h

module _ (p : PProgram) (types : TypeTable) (numbers : Numbering) where
  abbrev n : PProgram
  n = normal_tree p types numbers

  abbrev g : Setting
  g = setting_of p types numbers

  -- the program's own names
  pub own-kept : (k : ℕ) → own_name p k ≡ true → kept_name n k ≡ true
  own-kept k h =
      let id : NameId = record { 0 = k } in
      let l : k < length p.names = own-within p k h in
      kept-by n id (begins-within p.names n.names k (normal-begins p types numbers) l)
      (ap (λ t. list_any (bytes_eq t) meant_texts) (text-longer p.names n.names id (normal-begins p types numbers) l) ∙ plain-unmeant (text_of p.names id) (own-not-added p id h))

  -- a name that is no added one
  pub plain-kept : (id : NameId) → id.0 < length n.names → is_added_name n.names id ≡ false → kept_name n id.0 ≡ true
  plain-kept id l h = kept-by n id l (plain-unmeant (text_of n.names id) h)

  -- the variables
  pub variable-kept : (k : ℕ) → k < variables_needed g → kept_name n (variable_name g k).0 ≡ true
  variable-kept k l =
      let b : Begins (normal_names g (suc k)) (normal_names g (variables_needed g)) = variables-more (with_members g) (suc k) (variables_needed g) (omega (arith, l)) in
      let within : (variable_name g k).0 < length (normal_names g (suc k)) = (variable-there g k).1 in
      kept-by n (variable_name g k) (begins-within (normal_names g (suc k)) (normal_names g (variables_needed g)) (variable_name g k).0 b within)
      (ap (λ t. list_any (bytes_eq t) meant_texts)
      (text-longer (normal_names g (suc k)) (normal_names g (variables_needed g)) (variable_name g k) b within ∙ ap (λ o. unwrap_or o []) (variable-there g k).0) ∙ variable-unmeant k)
