-- An index of a family that has the family's kind may as a number stand in a relation: what is a relation or a logical expression is of BOOLEAN, and
-- its number is T'POS of it (3.5.5, 4.5).
use Rattle.std.proofs.Common.{◌≡◌, ℕ, ◌<◌, ◌⊎◌, inl, inr, ◌==◌, ◌&&◌, Bool, true, false, if◌then◌else◌, Option, Some, None, slice_get, sym, ap, ◌∙◌, arith}
use Rattle.common_lemmas.proofs.Options.{some_same}
use Rattle.ada_tree.specs.declared.naming.Span.{Span}
use Rattle.ada_tree.specs.declared.static_types.Kind.{Kind}
use Rattle.ada_tree.specs.declared.static_types.Kind.TheVariants as kind
use Rattle.ada_tree.specs.declared.expressions.UnaryOp.TheVariants as unary
use Rattle.ada_tree.specs.declared.expressions.BinaryOp.TheVariants.{And, Or, Xor, AndThen, OrElse, Equal, NotEqual, Less, LessEqual, Greater, GreaterEqual, Plus, Minus, Times, Divide, Mod, Rem}
use Rattle.ada_tree.specs.TypeTable.{TypeTable}
use Rattle.ada_static_rules.specs.Scope.{Scope, truth_kind, kind_at}
use Rattle.ada_static_rules.specs.ExprTypes.{Operand, of_kind, of_any_kind, is_taken, given_by, binary_kind, kind_of}
use Rattle.ada_tree.specs.WellPlaced.{relation, level}
use Rattle.ada_tree.specs.PlainExpr.{PExpr, EInteger, EName, EIndex, EAttribute, EAttributeOf, EParen, EUnary, EBinary, PDrange}
use Rattle.normal_model.specs.Ranges.{kind_of_range}
use Rattle.task_laws.specs.legal.rewritten_types.Agreement.{scalar_only}
use Rattle.replay_model.specs.Asking.{as_number, number_in}
use Rattle.replay_structure.specs.placed.Fitting.{IsOperand}

-- what an operator gives, where it gives something
gives : (o : Operand) (a b : Option ℕ) (j : ℕ) → binary_kind o a b ≡ Some j → given_by o ≡ j
gives o None b j e = cc
gives o (Some k) None j e = cc
gives o (Some k) (Some l) j e = by_test (is_taken o k && is_taken o l && (k == l)) e
  where
    by_test : (t : Bool) → (if t then Some (given_by o) else None) ≡ Some j → given_by o ≡ j
    by_test true f = some_same f
    by_test false f = cc

-- an expression is of a tight level, or of BOOLEAN
level-kind : (s : Scope) (e : PExpr) (j : ℕ) → kind_of s e ≡ Some j → (relation < level e) ⊎ (j ≡ truth_kind)
level-kind s (EInteger n p) j h = inl (omega arith)
level-kind s (EName id p) j h = inl (omega arith)
level-kind s (EIndex w e p) j h = inl (omega arith)
level-kind s (EAttribute m w p) j h = inl (omega arith)
level-kind s (EAttributeOf m w e p) j h = inl (omega arith)
level-kind s (EParen e p) j h = inl (omega arith)
level-kind s (EUnary unary.Plus e p) j h = inl (omega arith)
level-kind s (EUnary unary.Minus e p) j h = inl (omega arith)
level-kind s (EUnary unary.Abs e p) j h = inl (omega arith)
level-kind s (EUnary unary.Not e p) j h = inl (omega arith)
level-kind s (EBinary Plus l r p) j h = inl (omega arith)
level-kind s (EBinary Minus l r p) j h = inl (omega arith)
level-kind s (EBinary Times l r p) j h = inl (omega arith)
level-kind s (EBinary Divide l r p) j h = inl (omega arith)
level-kind s (EBinary Mod l r p) j h = inl (omega arith)
level-kind s (EBinary Rem l r p) j h = inl (omega arith)
level-kind s (EBinary And l r p) j h = inr (sym (gives (of_kind truth_kind) (kind_of s l) (kind_of s r) j h))
level-kind s (EBinary Or l r p) j h = inr (sym (gives (of_kind truth_kind) (kind_of s l) (kind_of s r) j h))
level-kind s (EBinary Xor l r p) j h = inr (sym (gives (of_kind truth_kind) (kind_of s l) (kind_of s r) j h))
level-kind s (EBinary AndThen l r p) j h = inr (sym (gives (of_kind truth_kind) (kind_of s l) (kind_of s r) j h))
level-kind s (EBinary OrElse l r p) j h = inr (sym (gives (of_kind truth_kind) (kind_of s l) (kind_of s r) j h))
level-kind s (EBinary Equal l r p) j h = inr (sym (gives of_any_kind (kind_of s l) (kind_of s r) j h))
level-kind s (EBinary NotEqual l r p) j h = inr (sym (gives of_any_kind (kind_of s l) (kind_of s r) j h))
level-kind s (EBinary Less l r p) j h = inr (sym (gives of_any_kind (kind_of s l) (kind_of s r) j h))
level-kind s (EBinary LessEqual l r p) j h = inr (sym (gives of_any_kind (kind_of s l) (kind_of s r) j h))
level-kind s (EBinary Greater l r p) j h = inr (sym (gives of_any_kind (kind_of s l) (kind_of s r) j h))
level-kind s (EBinary GreaterEqual l r p) j h = inr (sym (gives of_any_kind (kind_of s l) (kind_of s r) j h))

module _ (T : TypeTable) (sp : Span) (e : PExpr) where
  -- of a tight level it stays so as a number
  tight-as : (k : ℕ) (o : Option Kind) → relation < level e → IsOperand (as_number T sp k o e)
  tight-as k (Some kind.Integer) h = h
  tight-as k (Some kind.Truth) h = omega arith
  tight-as k (Some (kind.Enumeration ids)) h = omega arith
  tight-as k (Some (kind.Array index first last part)) h = omega arith
  tight-as k None h = omega arith

  -- of BOOLEAN it is T'POS of it
  truth-as : (k : ℕ) (o : Option Kind) → scalar_only o ≡ Some kind.Truth → IsOperand (as_number T sp k o e)
  truth-as k (Some kind.Integer) h = absurd (other h)
    where
      other : ◌≡◌ {A = Option Kind} (Some kind.Integer) (Some kind.Truth) → ⊥
      other q = cc
  truth-as k (Some kind.Truth) h = omega arith
  truth-as k (Some (kind.Enumeration ids)) h = omega arith
  truth-as k (Some (kind.Array index first last part)) h = omega arith
  truth-as k None h = omega arith

  -- An index that has the kind of the family's range.
  pub kind-operand : (s : Scope) (r : PDrange) (j : ℕ) → kind_of s e ≡ Some j → kind_of_range T r ≡ j → scalar_only (kind_at T truth_kind) ≡ Some kind.Truth → IsOperand (number_in T sp (Some r) e)
  kind-operand s r j h same truth = by_level (level-kind s e j h)
    where
      by_level : (relation < level e) ⊎ (j ≡ truth_kind) → IsOperand (number_in T sp (Some r) e)
      by_level (inl l) = tight-as (kind_of_range T r) (slice_get T.kinds (kind_of_range T r)) l
      by_level (inr q) = truth-as (kind_of_range T r) (slice_get T.kinds (kind_of_range T r)) (ap (λ (k : ℕ). scalar_only (kind_at T k)) (same ∙ q) ∙ truth)
