-- The text of expressions, ranges and subtype indications (this project's layout): one blank around each operator, behind `abs` and `not` and around `..`, none behind a sign, inside parentheses, before the `(` behind a name, and around `'`.
use Rattle.std.specs.Prelude.{ℕ, List, [], Option, Some, None, codes, decimal}
use Rattle.ada_tree.specs.declared.expressions.UnaryOp.{UnaryOp}
use Rattle.ada_tree.specs.declared.expressions.UnaryOp.TheVariants as unary
use Rattle.ada_tree.specs.declared.expressions.BinaryOp.{BinaryOp}
use Rattle.ada_tree.specs.declared.expressions.BinaryOp.TheVariants.{And, Or, Xor, AndThen, OrElse, Equal, NotEqual, Less, LessEqual, Greater, GreaterEqual, Plus, Minus, Times, Divide, Mod, Rem}
use Rattle.ada_tree.specs.PlainExpr.{PExpr, EInteger, EName, EIndex, EAttribute, EAttributeOf, EParen, EUnary, EBinary, PBounds, PSubind, PDrange, RGiven, RMarked}
use Rattle.ded_io.specs.Written.{◌⧺◌}
use Rattle.ada_printer.specs.Layout.{separated, name_text, word_text}

-- an operator before its operand, with the blank behind a word
abbrev pub unary_text : UnaryOp → List ℕ
unary_text unary.Plus = codes "+"
unary_text unary.Minus = codes "-"
unary_text unary.Abs = codes "abs "
unary_text unary.Not = codes "not "

-- an operator between its operands, with the blanks around it
abbrev pub binary_text : BinaryOp → List ℕ
binary_text And = codes " and "
binary_text Or = codes " or "
binary_text Xor = codes " xor "
binary_text AndThen = codes " and then "
binary_text OrElse = codes " or else "
binary_text Equal = codes " = "
binary_text NotEqual = codes " /= "
binary_text Less = codes " < "
binary_text LessEqual = codes " <= "
binary_text Greater = codes " > "
binary_text GreaterEqual = codes " >= "
binary_text Plus = codes " + "
binary_text Minus = codes " - "
binary_text Times = codes " * "
binary_text Divide = codes " / "
binary_text Mod = codes " mod "
binary_text Rem = codes " rem "

module _ (names : List (List ℕ)) where
  -- an expression; the tree has its parentheses
  abbrev pub expr_text : PExpr → List ℕ
  expr_text (EInteger n s) = decimal n
  expr_text (EName a s) = name_text names a
  expr_text (EIndex w e s) = word_text names w ⧺ (codes "(" ⧺ (expr_text e ⧺ codes ")"))
  expr_text (EAttribute m w s) = word_text names m ⧺ (codes "'" ⧺ word_text names w)
  expr_text (EAttributeOf m w e s) = word_text names m ⧺ (codes "'" ⧺ (word_text names w ⧺ (codes "(" ⧺ (expr_text e ⧺ codes ")"))))
  expr_text (EParen e s) = codes "(" ⧺ (expr_text e ⧺ codes ")")
  expr_text (EUnary op e s) = unary_text op ⧺ expr_text e
  expr_text (EBinary op l r s) = expr_text l ⧺ (binary_text op ⧺ expr_text r)

  -- `(A, B)`
  abbrev pub exprs_text : List PExpr → List ℕ
  exprs_text es = codes "(" ⧺ (separated (codes ", ") expr_text es ⧺ codes ")")

  -- an index in parentheses, where there is one
  abbrev pub index_text : Option PExpr → List ℕ
  index_text None = []
  index_text (Some e) = codes "(" ⧺ (expr_text e ⧺ codes ")")

  -- `first .. last`
  abbrev pub bounds_text : PBounds → List ℕ
  bounds_text b = expr_text b.first ⧺ (codes " .. " ⧺ expr_text b.last)

  -- the range of a subtype indication, where there is one
  abbrev pub range_text : Option PBounds → List ℕ
  range_text None = []
  range_text (Some b) = codes " range " ⧺ bounds_text b

  -- a subtype indication
  abbrev pub subind_text : PSubind → List ℕ
  subind_text x = word_text names x.mark ⧺ range_text x.bounds

  -- a discrete range
  abbrev pub drange_text : PDrange → List ℕ
  drange_text (RGiven b) = bounds_text b
  drange_text (RMarked x) = subind_text x

  -- `array (range) of component`
  abbrev pub array_text : PDrange → PSubind → List ℕ
  array_text range part = codes "array (" ⧺ (drange_text range ⧺ (codes ") of " ⧺ subind_text part))
