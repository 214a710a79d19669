-- Where each name of a text is one of the original's, it has old names alone.
use Rattle.std.proofs.Common.{ℕ, ◌+◌, List, [], ◌∷◌, Option, Some, None, IfSome}
use Rattle.std.specs.List.{AllByRecursion}
use Rattle.std.proofs.lemmas.List.Elements.{recursion_from_All}
use Rattle.ada_tree.specs.declared.naming.NameId.{NameId}
use Rattle.ada_tree.specs.PlainExpr.{PExpr, EInteger, EName, EIndex, EAttribute, EAttributeOf, EParen, EUnary, EBinary, PBounds}
use Rattle.ada_tree.specs.PlainStmt.{PTarget, PArgs, PCall, PPart, PWords, PValue, PChoice}
use Rattle.ada_tree.specs.Every.{Rules, EveryExpr, EveryExprs, EveryBounds, EveryTarget, EveryArgs, EveryCall, EveryPart, EveryChoice}
use Rattle.task_laws.specs.translation.Translations.{Programs, IsOld}
use Rattle.task_laws.specs.translation.OldNames.{OldExpr, old_integer, old_name, old_index, old_attribute, old_attribute_of, old_paren, old_unary, old_binary, OldOption, old_none, old_some, OldBounds, old_unbounded, old_bounded, OldTarget, OldParts, old_no_part, old_words, old_value, OldChoices, old_no_choice, old_choice}
use Rattle.task_laws.specs.translation.OldTexts.{OldExprs, old_no_expr, old_expr, OldList, old_no_list, old_list, OldArgs, old_no_args, old_args, OldCall}

module _ (b : Programs) (r : Rules) (told : (id : NameId) → r.name id → IsOld b id) where
  pub expr-old : (e : PExpr) (k : ℕ) → EveryExpr r k e → OldExpr b e
  expr-old (EInteger n s) k h = old_integer n s
  expr-old (EName id s) k h = old_name id s (told id h.1)
  expr-old (EIndex w e s) k h = old_index w e s (told w.name h.1) (expr-old e (k + 1) h.2)
  expr-old (EAttribute m w s) k h = old_attribute m w s (told m.name h.1)
  expr-old (EAttributeOf m w e s) k h = old_attribute_of m w e s (told m.name h.1) (expr-old e (k + 1) h.3)
  expr-old (EParen e s) k h = old_paren e s (expr-old e (k + 1) h.1)
  expr-old (EUnary op e s) k h = old_unary op e s (expr-old e (k + 1) h.2)
  expr-old (EBinary op left right s) k h = old_binary op left right s (expr-old left (k + 1) h.2) (expr-old right (k + 1) h.3)

  pub option-old : (o : Option PExpr) (k : ℕ) → IfSome o (EveryExpr r k) → OldOption b o
  option-old None k h = old_none
  option-old (Some e) k h = old_some e (expr-old e k h)

  pub bounds-old : (o : Option PBounds) (k : ℕ) → IfSome o (EveryBounds r k) → OldBounds b o
  bounds-old None k h = old_unbounded
  bounds-old (Some x) k h = old_bounded x (expr-old x.first k h.1) (expr-old x.last k h.2)

  pub target-old : (t : PTarget) (k : ℕ) → EveryTarget r k t → OldTarget b t
  target-old t k h = record { name = told t.name.name h.0; index = option-old t.index k h.1 }

  pub exprs-old : (es : List PExpr) (k : ℕ) → AllByRecursion (EveryExpr r k) es → OldExprs b es
  exprs-old [] k h = old_no_expr
  exprs-old (e ∷ es) k h = old_expr e es (expr-old e k h.0) (exprs-old es k h.1)

  list-old : (es : List PExpr) (k : ℕ) → EveryExprs r k es → OldExprs b es
  list-old es k h = exprs-old es k (recursion_from_All (EveryExpr r k) es h.1)

  row-old : (o : Option (List PExpr)) (k : ℕ) → IfSome o (EveryExprs r k) → OldList b o
  row-old None k h = old_no_list
  row-old (Some es) k h = old_list es (list-old es k h)

  args-old : (o : Option PArgs) (k : ℕ) → IfSome o (EveryArgs r k) → OldArgs b o
  args-old None k h = old_no_args
  args-old (Some x) k h = old_args x (list-old x.first k h.0) (row-old x.second k h.1)

  pub call-old : (c : PCall) (k : ℕ) → EveryCall r k c → OldCall b c
  call-old c k h = record { member = option-old c.task.index k h.0.1; args = args-old c.args k h.2 }

  pub parts-old : (ps : List PPart) (k : ℕ) → AllByRecursion (EveryPart r k) ps → OldParts b ps
  parts-old [] k h = old_no_part
  parts-old (PWords text s ∷ ps) k h = old_words text s ps (parts-old ps k h.1)
  parts-old (PValue e ∷ ps) k h = old_value e ps (expr-old e k h.0) (parts-old ps k h.1)

  last-old : (first : PExpr) (o : Option PExpr) (k : ℕ) → IfSome o (λ l. r.bounds first l × EveryExpr r k l) → OldOption b o
  last-old first None k h = old_none
  last-old first (Some e) k h = old_some e (expr-old e k h.1)

  pub choices-old : (cs : List PChoice) (k : ℕ) → AllByRecursion (EveryChoice r k) cs → OldChoices b cs
  choices-old [] k h = old_no_choice
  choices-old (c ∷ cs) k h = old_choice c cs (expr-old c.first k h.0.0) (last-old c.first c.last k h.0.1) (choices-old cs k h.1)
