-- The code of the mirror of expressions, by which a struct whose contracts show one may have a model.
use Rattle.std.specs.Prelude.{◌≡◌, ℕ, refl}
use Rattle.std.specs.Coded.{Coded, code_by}
use Rattle.ada_tree.specs.declared.naming.NameId.{NameId}
use Rattle.ada_tree.specs.declared.naming.Span.{Span}
use Rattle.ada_tree.specs.declared.naming.Word.{Word}
use Rattle.ada_tree.specs.declared.expressions.UnaryOp.{UnaryOp}
use Rattle.ada_tree.specs.declared.expressions.BinaryOp.{BinaryOp}
use Rattle.ada_tree.specs.PlainExpr.{PExpr, EInteger, EName, EIndex, EAttribute, EAttributeOf, EParen, EUnary, EBinary}
use Rattle.ada_tree.specs.inner.BinaryCode.{Binary, tip, node, coded_binary}

-- what a node holds beside its parts
pub data ExprHead : Type 0 where
  HInteger : ℕ → Span → ExprHead
  HName : NameId → Span → ExprHead
  HIndex : Word → Span → ExprHead
  HAttribute : Word → Word → Span → ExprHead
  HAttributeOf : Word → Word → Span → ExprHead
  HParen : Span → ExprHead
  HUnary : UnaryOp → Span → ExprHead
  HBinary : BinaryOp → Span → ExprHead

abbrev pub expr_to : PExpr → Binary ExprHead
expr_to (EInteger n s) = node (HInteger n s) tip tip
expr_to (EName n s) = node (HName n s) tip tip
expr_to (EIndex w e s) = node (HIndex w s) (expr_to e) tip
expr_to (EAttribute m w s) = node (HAttribute m w s) tip tip
expr_to (EAttributeOf m w e s) = node (HAttributeOf m w s) (expr_to e) tip
expr_to (EParen e s) = node (HParen s) (expr_to e) tip
expr_to (EUnary op e s) = node (HUnary op s) (expr_to e) tip
expr_to (EBinary op l r s) = node (HBinary op s) (expr_to l) (expr_to r)

-- the expression that a tree is stored for; at a tip, which is stored for none, any
abbrev pub expr_from : Binary ExprHead → PExpr
expr_from tip = EInteger 0 record { start = 0; end = 0 }
expr_from (node (HInteger n s) a b) = EInteger n s
expr_from (node (HName n s) a b) = EName n s
expr_from (node (HIndex w s) a b) = EIndex w (expr_from a) s
expr_from (node (HAttribute m w s) a b) = EAttribute m w s
expr_from (node (HAttributeOf m w s) a b) = EAttributeOf m w (expr_from a) s
expr_from (node (HParen s) a b) = EParen (expr_from a) s
expr_from (node (HUnary op s) a b) = EUnary op (expr_from a) s
expr_from (node (HBinary op s) a b) = EBinary op (expr_from a) (expr_from b) s

pub expr_back : (e : PExpr) → expr_from (expr_to e) ≡ e
expr_back (EInteger n s) = refl
expr_back (EName n s) = refl
expr_back (EIndex w e s) = λ i. EIndex w (expr_back e i) s
expr_back (EAttribute m w s) = refl
expr_back (EAttributeOf m w e s) = λ i. EAttributeOf m w (expr_back e i) s
expr_back (EParen e s) = λ i. EParen (expr_back e i) s
expr_back (EUnary op e s) = λ i. EUnary op (expr_back e i) s
expr_back (EBinary op l r s) = λ i. EBinary op (expr_back l i) (expr_back r i) s

abbrev pub coded_expr : Coded ExprHead → Coded PExpr
coded_expr h = code_by (Binary ExprHead) (coded_binary h) expr_to expr_from expr_back
