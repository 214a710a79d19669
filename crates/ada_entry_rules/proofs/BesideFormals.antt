-- What is refused first at actuals beside their formals.
use Rattle.std.specs.Prelude.{◌≡◌, ℕ, zero, suc, ◌+◌, ◌<◌, ◌≤◌, List, [], ◌∷◌, ◌++◌, length, map, drop, get_or, slice_get, Option, option_map, refl}
use Rattle.std.proofs.Common.{sym, ap, ◌∙◌, append_assoc, add-one}
use Rattle.std.proofs.lemmas.List.{drop_all}
use Rattle.ada_tree.specs.PlainExpr.{PExpr}
use Rattle.ada_static_rules.specs.Refusals.{Refusal}
use Rattle.ada_static_rules.specs.Scope as scope
use Rattle.ada_static_rules.specs.Demand.{must_be_of, Site}
use Rattle.ada_static_rules.specs.Sites.{site, expr_sites, actual_sites, actuals_sites}
use Rattle.ada_static_rules.specs.Sooner.{sooner}
use Rattle.ada_static_rules.specs.RefusedFirst.{refused_first}
use Rattle.ada_entry_rules.specs.inner.Actuals.{beside}
use Rattle.ada_static_rules.proofs.Meeting.{met_append}
use Rattle.ada_static_rules.proofs.Listing.{gone, ended}
use Rattle.common_lemmas.proofs.Lists.{rest_at}

one_more : (xs : List Site) (x : Site) (rest : List Site) → refused_first (xs ++ (x ∷ rest)) ≡ sooner (refused_first (xs ++ (x ∷ []))) (refused_first rest)
one_more xs x rest = ap refused_first (sym (append_assoc xs (x ∷ []) rest)) ∙ met_append (xs ++ (x ∷ [])) rest

module _ {F E : Type 0} (formal : F → scope.FormalPart) (see : E → PExpr) (s : scope.Scope) where
  after_suc : (fs : List F) (i : ℕ) (e : PExpr) (es : List PExpr)
      → refused_first (actuals_sites s (map formal (drop i fs)) (e ∷ es)) ≡ sooner (refused_first (beside s (option_map formal (slice_get fs i)) e)) (refused_first (actuals_sites s (map formal (drop (suc i) fs)) es))
  after_suc [] zero e es = met_append (expr_sites s e) (actuals_sites s [] es)
  after_suc [] (suc i) e es = met_append (expr_sites s e) (actuals_sites s [] es)
  after_suc (f ∷ fs) zero e es = one_more (actual_sites s (formal f).mode e) (site s (must_be_of e (formal f).kind)) (actuals_sites s (map formal fs) es)
  after_suc (f ∷ fs) (suc i) e es = after_suc fs i e es

  pub actuals_more : (fs : List F) (xs : List E) (i : ℕ) (x : E) (a b c all : Option Refusal) → i < length xs → x ≡ get_or xs i x
      → sooner a (refused_first (actuals_sites s (map formal (drop i fs)) (map see (drop i xs)))) ≡ all
      → b ≡ refused_first (beside s (option_map formal (slice_get fs i)) (see x))
      → c ≡ sooner a b
      → sooner c (refused_first (actuals_sites s (map formal (drop (i + 1) fs)) (map see (drop (i + 1) xs)))) ≡ all
  actuals_more fs xs i x a b c all h is_x before is_b is_c =
      ap (λ o. sooner o (refused_first (actuals_sites s (map formal (drop (i + 1) fs)) (map see (drop (i + 1) xs))))) is_c
      ∙ gone a b all (refused_first (actuals_sites s (map formal (drop (i + 1) fs)) (map see (drop (i + 1) xs)))) (refused_first (actuals_sites s (map formal (drop i fs)) (map see (drop i xs))))
      (ap (λ ys. refused_first (actuals_sites s (map formal (drop i fs)) (map see ys))) (rest_at xs i x x h is_x)
      ∙ after_suc fs i (see x) (map see (drop (i + 1) xs))
      ∙ ap (λ k. sooner (refused_first (beside s (option_map formal (slice_get fs i)) (see x))) (refused_first (actuals_sites s (map formal (drop k fs)) (map see (drop (i + 1) xs))))) (sym (add-one i))
      ∙ ap (λ o. sooner o (refused_first (actuals_sites s (map formal (drop (i + 1) fs)) (map see (drop (i + 1) xs))))) (sym is_b))
      before

  none_left : (fs : List scope.FormalPart) → actuals_sites s fs [] ≡ []
  none_left [] = refl
  none_left (f ∷ fs) = refl

  pub actuals_end : (fs : List F) (xs : List E) (i : ℕ) (a all : Option Refusal) → length xs ≤ i
      → sooner a (refused_first (actuals_sites s (map formal (drop i fs)) (map see (drop i xs)))) ≡ all
      → a ≡ all
  actuals_end fs xs i a all h before =
      ended a all (actuals_sites s (map formal (drop i fs)) (map see (drop i xs)))
      (ap (λ ys. actuals_sites s (map formal (drop i fs)) (map see ys)) (drop_all i xs h) ∙ none_left (map formal (drop i fs)))
      before
