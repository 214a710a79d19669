-- Small expressions and words by which the definition of well placed can be tried.
use Rattle.std.proofs.Common.{◌≡◌, ◌<◌, ◌≤◌, ◌⊎◌, lit<, true, false, codes, [], ◌∷◌, refl, inl, inr, arith}
use Rattle.ada_tree.specs.declared.naming.Span.{Span}
use Rattle.ada_tree.specs.declared.expressions.UnaryOp.TheVariants as unary
use Rattle.ada_tree.specs.declared.expressions.BinaryOp.TheVariants.{And, Or, Equal, Plus, Times}
use Rattle.ada_tree.specs.PlainExpr.{PExpr, EName, EUnary, EBinary}
use Rattle.ada_tree.specs.PlainStmt.{no_stmt, handler, no_handler, handler_then}
use Rattle.ada_tree.specs.Lexical.{is_word}
use Rattle.ada_tree.specs.WellPlaced.{logical, relation, BinaryFits, UnaryFits, OthersLast, GoUp}

abbrev here : Span
here = record { start = 0; end = 0 }

abbrev a : PExpr
a = EName record { 0 = 25 } here

-- `not A and A`
negation_in_chain : BinaryFits And (EUnary unary.Not a here) a
negation_in_chain = (inl (lit< tt), lit< tt)

-- `A and A and A` is a chain, `A and A or A` is none
chain_goes_on : BinaryFits And (EBinary And a a here) a
chain_goes_on = (inr (refl, refl), lit< tt)

mixed_chain : BinaryFits Or (EBinary And a a here) a → ⊥
mixed_chain h = no h.0
  where
    no : (logical < logical) ⊎ ((And ≡ Or) × (logical ≡ logical)) → ⊥
    no (inl lt) = omega arith
    no (inr e) = let f : And ≡ Or = e.0 in cc

-- `A = A = A` is none
two_relations : BinaryFits Equal (EBinary Equal a a here) a → ⊥
two_relations h = no h.0
  where
    no : (relation < relation) ⊎ ((Equal ≡ Equal) × (relation ≡ logical)) → ⊥
    no (inl lt) = omega arith
    no (inr e) = let f : relation ≡ logical = e.1 in omega arith

-- `- A + A` has its sign on the first term, and a second operand takes none
leading_sign : BinaryFits Plus (EUnary unary.Minus a here) a
leading_sign = (inr refl, lit< tt)

inner_sign : BinaryFits Plus a (EUnary unary.Minus a here) → ⊥
inner_sign h = let lt : 2 < 2 = h.1 in omega arith

-- `- A * A` is the sign of a product
sign_of_product : UnaryFits unary.Minus (EBinary Times a a here)
sign_of_product = lit< tt

-- a handler `others` that is not the last
others_first : OthersLast (handler_then (handler [] no_stmt here) (handler_then (handler [] no_stmt here) no_handler)) → ⊥
others_first h = h.0

-- identifiers and what is none
words_are : (is_word (codes "A_B1") ≡ true) × (is_word (codes "A__B") ≡ false) × (is_word (codes "A_") ≡ false) × (is_word (codes "1A") ≡ false) × (is_word (codes "_A") ≡ false)
words_are = (refl, refl, refl, refl, refl)

-- pragmas before and behind the only entry of a task; the other way round, or past it, they could not be printed so
pragmas_around : GoUp 0 1 (0 ∷ 1 ∷ [])
pragmas_around = (omega arith, omega arith, (omega arith, omega arith, tt))

pragmas_back : GoUp 0 1 (1 ∷ 0 ∷ []) → ⊥
pragmas_back h = let le : 1 ≤ 0 = h.2.0 in omega arith

pragma_past : GoUp 0 0 (1 ∷ []) → ⊥
pragma_past h = let le : 1 ≤ 0 = h.1 in omega arith
