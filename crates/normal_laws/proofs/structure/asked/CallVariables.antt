-- The variables of a call by their numbers: that of the callee's index, that of a family's, and those of the actuals.
use Rattle.std.proofs.Common.{◌≡◌, ℕ, ◌+◌, List, [], ◌∷◌, ◌++◌, length, map, refl, ap, subst}
use Rattle.ada_tree.specs.declared.naming.Span.{Span}
use Rattle.ada_tree.specs.PlainExpr.{PSubind}
use Rattle.ada_tree.specs.PlainStmt.{PCall}
use Rattle.ada_tree.specs.PlainDecl.{PDecl}
use Rattle.task_model.specs.Setting.{Setting}
use Rattle.normal_model.specs.Ranges.{subtype_of_range, family_range}
use Rattle.normal_model.specs.Making.{Kept, kept_subtypes, kept_if}
use Rattle.normal_model.specs.Members.{callee_kept}
use Rattle.normal_model.specs.Calls.{entry_called, lists_called, slots_called, actual_subtypes, indices_kept, actual_number, call_subtypes}
use Rattle.normal_laws.specs.structure.asked.Pieces.{AreVariables}
use Rattle.normal_laws.proofs.structure.asked.Lists.{variables-front, variables-back}
use Rattle.normal_model.proofs.Declared.{kept_length}

map-append : {A B : Type 0} (f : A → B) (xs ys : List A) → map f (xs ++ ys) ≡ map f xs ++ map f ys
map-append f [] ys = refl
map-append f (x ∷ xs) ys = ap (λ l. f x ∷ l) (map-append f xs ys)

module _ (g : Setting) (vars : List PDecl) (s : Span) (x : PCall) (j : ℕ) (v : AreVariables g vars s (call_subtypes g s x) j) where
  abbrev pub family_subtype : PSubind
  family_subtype = subtype_of_range g.types s (family_range g (entry_called g x))

  abbrev pub family_kept : List Kept
  family_kept = kept_if family_subtype (lists_called g x).index

  indices-there : AreVariables g vars s (kept_subtypes (callee_kept g s x.task) ++ kept_subtypes family_kept) j
  indices-there =
      subst (λ l. AreVariables g vars s l j) (map-append (λ y. y.subtype) (callee_kept g s x.task) family_kept)
      (variables-front g vars s (kept_subtypes (indices_kept g s x)) (actual_subtypes (slots_called g x) (lists_called g x).actuals) j v)

  pub callee-there : AreVariables g vars s (kept_subtypes (callee_kept g s x.task)) j
  callee-there = variables-front g vars s (kept_subtypes (callee_kept g s x.task)) (kept_subtypes family_kept) j indices-there

  pub family-there : AreVariables g vars s (kept_subtypes family_kept) (j + length (callee_kept g s x.task))
  family-there =
      subst (λ m. AreVariables g vars s (kept_subtypes family_kept) (j + m)) (kept_length (callee_kept g s x.task))
      (variables-back g vars s (kept_subtypes (callee_kept g s x.task)) (kept_subtypes family_kept) j indices-there)

  pub actuals-there : AreVariables g vars s (actual_subtypes (slots_called g x) (lists_called g x).actuals) (actual_number g s x j)
  actuals-there =
      subst (λ m. AreVariables g vars s (actual_subtypes (slots_called g x) (lists_called g x).actuals) (j + m)) (kept_length (indices_kept g s x))
      (variables-back g vars s (kept_subtypes (indices_kept g s x)) (actual_subtypes (slots_called g x) (lists_called g x).actuals) j v)
