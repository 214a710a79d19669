-- The test that no guard holds is well placed.
use Rattle.std.proofs.Common.{ℕ, ◌+◌, ◌≤◌, ◌<◌, ◌⊎◌, inl, inr, List, [], ◌∷◌, length, refl, arith}
use Rattle.std.specs.List.{AllByRecursion}
use Rattle.ada_tree.specs.declared.naming.Span.{Span}
use Rattle.ada_tree.specs.declared.expressions.BinaryOp.TheVariants.{And}
use Rattle.ada_tree.specs.PlainExpr.{PExpr, EBinary}
use Rattle.ada_tree.specs.Every.{EveryExpr}
use Rattle.ada_tree.specs.WellPlaced.{level, logical, GoesOn, well_placed}
use Rattle.normal_model.specs.Waits.{not_held, none_held}
use Rattle.std.specs.List.{fold}

module _ (names : List (List ℕ)) (s : Span) where
  -- it is well placed wherever what is so deep in it stands at most 300 deep
  abbrev pub IsPlacedBy : ℕ → PExpr → Type 0
  IsPlacedBy deep e = (q : ℕ) → q + deep ≤ 300 → EveryExpr (well_placed names) q e

  -- it may stand to the left of a further `and`
  abbrev MayGoOn : PExpr → Type 0
  MayGoOn e = (logical < level e) ⊎ GoesOn And e

  -- a guard, wherever it stands, is a primary
  pub record IsPrimary (e : PExpr) : Type 0 where
    pub placed : IsPlacedBy 0 e
    pub level_is : 4 < level e

  not-placed : (e : PExpr) → IsPrimary e → IsPlacedBy 1 (not_held s e)
  not-placed e h q le = (omega (arith, le), h.level_is, h.placed (q + 1) (omega (arith, le)))

  more : (es : List PExpr) (test : PExpr) (deep : ℕ) → 1 ≤ deep → IsPlacedBy deep test → MayGoOn test → AllByRecursion IsPrimary es → IsPlacedBy (deep + length es) (fold (λ t g. EBinary And t (not_held s g) s) test es)
  more [] test deep one h m all q le = h q (omega (arith, le))
  more (e ∷ es) test deep one h m all q le =
      more es (EBinary And test (not_held s e) s) (deep + 1) (omega arith)
      (λ n few. (omega (arith, few), (m, omega arith), h (n + 1) (omega (arith, few)), not-placed e all.0 (n + 1) (omega (arith, few, one))))
      (inr (refl, refl)) all.1 q (omega (arith, le))

  pub none-placed : (e : PExpr) (es : List PExpr) → AllByRecursion IsPrimary (e ∷ es) → IsPlacedBy (1 + length es) (none_held s e es)
  none-placed e es all = more es (not_held s e) 1 (omega arith) (not-placed e all.0) (inl (omega arith)) all.1
