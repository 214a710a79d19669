-- The variables that hold the indices of an accept, and the subtypes that are kept.
use Rattle.std.proofs.Common.{◌≡◌, ℕ, suc, ◌+◌, List, [], ◌∷◌, ◌++◌, length, refl, ap, ◌∙◌, arith}
use Rattle.ada_tree.specs.declared.naming.Span.{Span}
use Rattle.ada_tree.specs.PlainExpr.{PSubind}
use Rattle.task_model.specs.Setting.{Setting}
use Rattle.normal_model.specs.Variables.{variable_declared, variables_declared}
use Rattle.normal_model.specs.Making.{Kept, kept_subtypes}
use Rattle.common_lemmas.proofs.Lists.{mapped_length}

pub declared_length : (g : Setting) (s : Span) (xs : List PSubind) (k : ℕ) → length (variables_declared g s xs k) ≡ length xs
declared_length g s [] k = refl
declared_length g s (x ∷ xs) k = ap suc (declared_length g s xs (k + 1))

pub declared_joined : (g : Setting) (s : Span) (xs ys : List PSubind) (k : ℕ) → variables_declared g s (xs ++ ys) k ≡ variables_declared g s xs k ++ variables_declared g s ys (k + length xs)
declared_joined g s [] ys k = ap (variables_declared g s ys) (omega arith)
declared_joined g s (x ∷ xs) ys k = ap (λ l. variable_declared g s x k ∷ l) (declared_joined g s xs ys (k + 1) ∙ ap (λ n. variables_declared g s xs (k + 1) ++ variables_declared g s ys n) (omega arith))

pub kept_length : (xs : List Kept) → length (kept_subtypes xs) ≡ length xs
kept_length xs = mapped_length (λ x. x.subtype) xs
