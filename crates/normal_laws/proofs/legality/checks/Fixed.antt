-- Static values of expressions of own names are the same by two tables that agree on own names; and a name with a value is own.
use Rattle.std.proofs.Common.{◌≡◌, ℕ, ◌+◌, ℤ, Bool, Option, Some, None, refl, sym, ap}
use Rattle.ada_tree.specs.TypeTable.{TypeTable}
use Rattle.ada_tree.specs.PlainExpr.{PExpr, EInteger, EName, EIndex, EAttribute, EAttributeOf, EParen, EUnary, EBinary, RGiven}
use Rattle.ada_tree.specs.Every.{EveryExpr}
use Rattle.syn_event.specs.Extents.{Extent, fixed, between}
use Rattle.task_laws.specs.legal.rewritten_types.Agreement.{Agrees}
use Rattle.task_laws.specs.legal.rewritten_values.Values.{old_names}
use Rattle.normal_laws.proofs.structure.numbers.Extents.{extent-alike}
use Rattle.normal_laws.specs.structure.checked.Around.{own_rules}
use Rattle.common_lemmas.proofs.Options.{some_same}

between-same : (a b : Option ℤ) → between a a ≡ between b b → a ≡ b
between-same None None e = refl
between-same None (Some y) e = cc
between-same (Some x) None e = cc
between-same (Some x) (Some y) e = ap (λ (o : Extent). Some o.first) (some_same e)

module _ (own : ℕ → Bool) where
  own-old : (k : ℕ) (e : PExpr) → EveryExpr (own_rules own) k e → EveryExpr (old_names own) k e
  own-old k (EInteger n s) h = h
  own-old k (EName id s) h = h
  own-old k (EIndex w e s) h = (h.0, h.1, own-old (k + 1) e h.2)
  own-old k (EAttribute m w s) h = h
  own-old k (EAttributeOf m w e s) h = (h.0, h.1, h.2, own-old (k + 1) e h.3)
  own-old k (EParen e s) h = (h.0, own-old (k + 1) e h.1)
  own-old k (EUnary op e s) h = (h.0, h.1, own-old (k + 1) e h.2)
  own-old k (EBinary op l r s) h = (h.0, h.1, own-old (k + 1) l h.2, own-old (k + 1) r h.3)

  pub fixed-same : (T U : TypeTable) → Agrees own T U → (k : ℕ) (e : PExpr) → EveryExpr (own_rules own) k e → fixed U e ≡ fixed T e
  fixed-same T U agree k e h =
      let o = own-old k e h in
      between-same (fixed U e) (fixed T e) (sym (extent-alike own T U agree (RGiven (record { first = e; last = e })) k (tt, o, o)))
