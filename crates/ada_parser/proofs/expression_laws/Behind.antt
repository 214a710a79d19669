-- Which operator may stand behind which tree: what the grammar asks, and what the readers' tests say.
use Rattle.std.proofs.Common.{◌≡◌, ℕ, ◌≤◌, ◌<◌, Bool, true, false, true≢false, not, ◌⊎◌, inl, inr, ⊎_elim, Some, refl, sym, ap, ◌∙◌, arith}
use Rattle.ada_tree.specs.declared.expressions.UnaryOp.{UnaryOp}
use Rattle.ada_tree.specs.declared.expressions.UnaryOp.TheVariants as unary
use Rattle.ada_tree.specs.declared.expressions.BinaryOp.{BinaryOp}
use Rattle.ada_tree.specs.declared.expressions.BinaryOp.TheVariants.{And, Or, Xor, AndThen, OrElse, Equal, NotEqual, Less, LessEqual, Greater, GreaterEqual, Plus, Minus, Times, Divide, Mod, Rem}
use Rattle.ada_tree.specs.PlainExpr.{PExpr, EUnary, EBinary}
use Rattle.ada_tree.specs.WellPlaced.{level, relation, simple, binary_level, unary_level, GoesOn}
use Rattle.ada_expr_parser.specs.Tests.{is_relation}
use Rattle.ada_expr_parser.specs.Trees.{last_operator}

-- Behind a tree of its own level an operator stands only where the chain goes on.
abbrev pub Follows : BinaryOp → PExpr → Type 0
Follows op left = level left ≡ binary_level op → GoesOn op left

-- what is at most a number is less, or is it
pub split_le : (a b : ℕ) → a ≤ b → (a < b) ⊎ (b ≡ a)
split_le a b low = grind (arith, low)

pub fits_follows : (op : BinaryOp) (left : PExpr) → (binary_level op < level left) ⊎ GoesOn op left → Follows op left
fits_follows op left (inl less) same = absurd (omega (arith, less, same))
fits_follows op left (inr goes) same = goes

pub follows_fits : (op : BinaryOp) (left : PExpr) → binary_level op ≤ level left → Follows op left → (binary_level op < level left) ⊎ GoesOn op left
follows_fits op left low follows = ⊎_elim inl (λ same. inr (follows same)) (split_le (binary_level op) (level left) low)

-- the level of a tree that goes on
goes_level : (op : BinaryOp) (left : PExpr) → GoesOn op left → level left ≡ binary_level op
goes_level Plus left g = g
goes_level Minus left g = g
goes_level Times left g = g
goes_level Divide left g = g
goes_level Mod left g = g
goes_level Rem left g = g
goes_level And (EBinary oq l r s) g = ap binary_level g.0
goes_level Or (EBinary oq l r s) g = ap binary_level g.0
goes_level Xor (EBinary oq l r s) g = ap binary_level g.0
goes_level AndThen (EBinary oq l r s) g = ap binary_level g.0
goes_level OrElse (EBinary oq l r s) g = ap binary_level g.0
goes_level Equal (EBinary oq l r s) g = ap binary_level g.0
goes_level NotEqual (EBinary oq l r s) g = ap binary_level g.0
goes_level Less (EBinary oq l r s) g = ap binary_level g.0
goes_level LessEqual (EBinary oq l r s) g = ap binary_level g.0
goes_level Greater (EBinary oq l r s) g = ap binary_level g.0
goes_level GreaterEqual (EBinary oq l r s) g = ap binary_level g.0
goes_level op left g = absurd g

pub fits_level : (op : BinaryOp) (left : PExpr) → (binary_level op < level left) ⊎ GoesOn op left → binary_level op ≤ level left
fits_level op left (inl less) = omega (arith, less)
fits_level op left (inr goes) = let same = goes_level op left goes in omega (arith, same)

-- sums and products go on with any of their operators
pub arithmetic_follows : (op : BinaryOp) (left : PExpr) → simple ≤ binary_level op → Follows op left
arithmetic_follows Plus left high same = same
arithmetic_follows Minus left high same = same
arithmetic_follows Times left high same = same
arithmetic_follows Divide left high same = same
arithmetic_follows Mod left high same = same
arithmetic_follows Rem left high same = same
arithmetic_follows op left high same = absurd (omega (arith, high))

-- a relation goes on with nothing
goes_relation : (op : BinaryOp) (left : PExpr) → binary_level op ≡ relation → GoesOn op left → ⊥
goes_relation Equal (EBinary oq l r s) is g = omega (arith, g.1)
goes_relation NotEqual (EBinary oq l r s) is g = omega (arith, g.1)
goes_relation Less (EBinary oq l r s) is g = omega (arith, g.1)
goes_relation LessEqual (EBinary oq l r s) is g = omega (arith, g.1)
goes_relation Greater (EBinary oq l r s) is g = omega (arith, g.1)
goes_relation GreaterEqual (EBinary oq l r s) is g = omega (arith, g.1)
goes_relation Equal left is g = absurd g
goes_relation NotEqual left is g = absurd g
goes_relation Less left is g = absurd g
goes_relation LessEqual left is g = absurd g
goes_relation Greater left is g = absurd g
goes_relation GreaterEqual left is g = absurd g
goes_relation op left is g = absurd (omega (arith, is))

relation_binary : (op : BinaryOp) → binary_level op ≡ relation → is_relation (Some op) ≡ true
relation_binary Equal is = refl
relation_binary NotEqual is = refl
relation_binary Less is = refl
relation_binary LessEqual is = refl
relation_binary Greater is = refl
relation_binary GreaterEqual is = refl
relation_binary op is = absurd (omega (arith, is))

binary_relation : (op : BinaryOp) → is_relation (Some op) ≡ true → binary_level op ≡ relation
binary_relation Equal is = refl
binary_relation NotEqual is = refl
binary_relation Less is = refl
binary_relation LessEqual is = refl
binary_relation Greater is = refl
binary_relation GreaterEqual is = refl
binary_relation op is = absurd (true≢false (sym is))

-- trees that are no chains have their own levels
unary_other : (op : UnaryOp) (n : ℕ) → n ≤ relation → unary_level op ≡ n → ⊥
unary_other unary.Plus n low is = omega (arith, low, is)
unary_other unary.Minus n low is = omega (arith, low, is)
unary_other unary.Abs n low is = omega (arith, low, is)
unary_other unary.Not n low is = omega (arith, low, is)

-- a tree of one of the two loosest levels has an operator of that level
pub loose_binary : (left : PExpr) (n : ℕ) → n ≤ relation → level left ≡ n → (op : BinaryOp) × (last_operator left ≡ Some op) × (binary_level op ≡ n)
loose_binary (EBinary op l r s) n low is = (op, refl, is)
loose_binary (EUnary op e s) n low is = absurd (unary_other op n low is)
loose_binary left n low is = absurd (omega (arith, low, is))

pub relation_follows : (op : BinaryOp) (left : PExpr) → binary_level op ≡ relation → not (is_relation (last_operator left)) ≡ true → Follows op left
relation_follows op left is free same =
    let (oq, last, loose) = loose_binary left relation (omega arith) (same ∙ is) in
    absurd (true≢false (sym free ∙ ap (λ m. not (is_relation m)) last ∙ ap not (relation_binary oq loose)))

last_relation : (left : PExpr) → is_relation (last_operator left) ≡ true → level left ≡ relation
last_relation (EBinary op l r s) is = binary_relation op is
last_relation left is = absurd (true≢false (sym is))

not_from : (b : Bool) → (b ≡ true → ⊥) → not b ≡ true
not_from true none = absurd (none refl)
not_from false none = refl

pub follows_relation : (op : BinaryOp) (left : PExpr) → binary_level op ≡ relation → Follows op left → not (is_relation (last_operator left)) ≡ true
follows_relation op left is follows = not_from (is_relation (last_operator left)) (λ yes_is. goes_relation op left is (follows (last_relation left yes_is ∙ sym is)))
