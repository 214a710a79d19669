-- How a chain goes on, as the code reads it.
use Rattle.std.proofs.Common.{◌≡◌, ℕ, zero, suc, ◌+◌, ◌-◌, ◌<◌, ◌≤◌, Bool, true, false, cond, nat_le, List, [], ◌∷◌, max, length, take, drop, get_or, Option, Some, None, is_some, Result, refl, sym, ap, ◌∙◌, arith}
use Rattle.ada_expr_parser.specs.readers.Readers.{Answer, Found, Fault, Reader, go_on, bind, on_token, refuse, too_deep, chain_in}
use Rattle.ada_tree.specs.declared.expressions.BinaryOp.{BinaryOp}
use Rattle.ada_tree.specs.PlainExpr.{PExpr}
use Rattle.ada_expr_parser.specs.declared.items.Item.{Item}
use Rattle.ada_expr_parser.specs.declared.errors.ParseError.{ParseError}
use Rattle.ada_expr_parser.specs.declared.levels.Level.{Level}
use Rattle.ada_expr_parser.specs.Tests.{operator_in, tighter}
use Rattle.ada_expr_parser.specs.Trees.{levels, last_operator, joined}
use Rattle.ada_expr_parser.specs.Reading.{operators, operator_rest, behind_operator, inner}
use Rattle.ada_expr_parser.specs.Gives.{Gives, FaultsAt}
use Rattle.std.proofs.Math.Seq.{take-length}
use Rattle.common_lemmas.proofs.Numbers.{le_false, le_true}

-- a list that is not empty, by its first member and the others as the code has them
pub front_and_rest : (ts : List Item) (d : Item) → 1 ≤ length ts → ts ≡ get_or ts 0 d ∷ take (length ts - 1) (drop 1 ts)
front_and_rest [] d h = absurd (omega arith)
front_and_rest (x ∷ xs) d h = let n : length (x ∷ xs) - 1 ≡ length xs = omega arith in ap (λ l. x ∷ l) (rw n (sym (take-length xs)))

-- what a chain does at an operator, where there is room
on_goes :
    (o : Option BinaryOp) (op : BinaryOp) (full : Bool) (next : BinaryOp → Reader Item BinaryOp) (k : BinaryOp → Reader Item PExpr) (x : Item) (rest : List Item) (goes : Reader Item PExpr) (ends : Answer Item PExpr) →
    goes (x ∷ rest) ≡ go_on (on_token o next refuse x rest) k → o ≡ Some op → full ≡ false →
    cond (is_some o) ((cond full too_deep goes) (x ∷ rest)) ends ≡ go_on (next op rest) k
on_goes None op full next k x rest goes ends same e f = cc
on_goes (Some p) op true next k x rest goes ends same e f = cc
on_goes (Some p) op false next k x rest goes ends same e f = let g : p ≡ op = cc in same ∙ ap (λ q. go_on (next q rest) k) g

on_deep : (o : Option BinaryOp) (op : BinaryOp) (full : Bool) (goes : Reader Item PExpr) (ts : List Item) (ends : Answer Item PExpr) → o ≡ Some op → full ≡ true → cond (is_some o) ((cond full too_deep goes) ts) ends ≡ Fault true ts
on_deep None op full goes ts ends e f = cc
on_deep (Some p) op true goes ts ends e f = refl
on_deep (Some p) op false goes ts ends e f = cc

on_end : (o : Option BinaryOp) (goes ends : Answer Item PExpr) → o ≡ None → cond (is_some o) goes ends ≡ ends
on_end None goes ends e = refl
on_end (Some p) goes ends e = cc

-- what is read behind an operator
abbrev pub onward : Level → ℕ → Reader Item PExpr → ℕ → PExpr → BinaryOp → Reader Item PExpr
onward level d operand turns left o = bind operand (λ right. chain_in (operators level) d operand turns (joined left o right))

goes_cons :
    (level : Level) (d : ℕ) (operand : Reader Item PExpr) (turns : ℕ) (left : PExpr) (x : Item) (rest : List Item) (op : BinaryOp) →
    operator_in level (last_operator left) x.kind ≡ Some op → levels left < d → d ≤ turns + levels left →
    (t : ℕ) × (d ≤ t + (levels left + 1)) × (chain_in (operators level) d operand turns left (x ∷ rest) ≡ go_on (operator_rest (last_operator left) op rest) (onward level d operand t left))
goes_cons level d operand zero left x rest op is room enough = absurd (omega arith)
goes_cons level d operand (suc t) left x rest op is room enough = (
  t,
  omega arith,
  on_goes (operator_in level (last_operator left) x.kind) op (nat_le d (levels left)) (operator_rest (last_operator left)) (onward level d operand t left) x rest
      (bind ((operators level).operator left) (onward level d operand t left)) (Found left (x ∷ rest)) refl is (le_false d (levels left) room),
)

deep_cons :
    (level : Level) (d : ℕ) (operand : Reader Item PExpr) (turns : ℕ) (left : PExpr) (x : Item) (rest : List Item) (op : BinaryOp) →
    operator_in level (last_operator left) x.kind ≡ Some op → d ≤ levels left → chain_in (operators level) d operand turns left (x ∷ rest) ≡ Fault true (x ∷ rest)
deep_cons level d operand zero left x rest op is full = on_deep (operator_in level (last_operator left) x.kind) op true too_deep (x ∷ rest) (Found left (x ∷ rest)) is refl
deep_cons level d operand (suc t) left x rest op is full = on_deep (operator_in level (last_operator left) x.kind) op (nat_le d (levels left)) (bind ((operators level).operator left) (onward level d operand t left)) (x ∷ rest) (Found left (x ∷ rest)) is (le_true d (levels left) full)

end_cons :
    (level : Level) (d : ℕ) (operand : Reader Item PExpr) (turns : ℕ) (left : PExpr) (x : Item) (rest : List Item) →
    operator_in level (last_operator left) x.kind ≡ None → chain_in (operators level) d operand turns left (x ∷ rest) ≡ Found left (x ∷ rest)
end_cons level d operand zero left x rest is = on_end (operator_in level (last_operator left) x.kind) (Fault true (x ∷ rest)) (Found left (x ∷ rest)) is
end_cons level d operand (suc t) left x rest is = on_end (operator_in level (last_operator left) x.kind) _ (Found left (x ∷ rest)) is

-- the same of the items as the code has them
module _ (level : Level) (d : ℕ) (operand : Reader Item PExpr) (turns : ℕ) (left : PExpr) (ts : List Item) (dummy : Item) where
  abbrev x : Item
  x = get_or ts 0 dummy

  abbrev rest : List Item
  rest = take (length ts - 1) (drop 1 ts)

  pub chain_goes :
      (op : BinaryOp) → 1 ≤ length ts → operator_in level (last_operator left) x.kind ≡ Some op → levels left < d → d ≤ turns + levels left →
      (t : ℕ) × (d ≤ t + (levels left + 1)) × (chain_in (operators level) d operand turns left ts ≡ go_on (operator_rest (last_operator left) op rest) (onward level d operand t left))
  chain_goes op some is room enough =
      let g = goes_cons level d operand turns left x rest op is room enough in
      (g.0, g.1, ap (chain_in (operators level) d operand turns left) (front_and_rest ts dummy some) ∙ g.2)

  pub chain_deep : (op : BinaryOp) → 1 ≤ length ts → operator_in level (last_operator left) x.kind ≡ Some op → d ≤ levels left → chain_in (operators level) d operand turns left ts ≡ Fault true ts
  chain_deep op some is full =
      let e : ts ≡ x ∷ rest = front_and_rest ts dummy some in
      ap (chain_in (operators level) d operand turns left) e ∙ deep_cons level d operand turns left x rest op is full ∙ ap (Fault true) (sym e)

  pub chain_ends : 1 ≤ length ts → operator_in level (last_operator left) x.kind ≡ None → chain_in (operators level) d operand turns left ts ≡ Found left ts
  chain_ends some is =
      let e : ts ≡ x ∷ rest = front_and_rest ts dummy some in
      ap (chain_in (operators level) d operand turns left) e ∙ end_cons level d operand turns left x rest is ∙ ap (Found left) (sym e)

-- a chain at an operator
pub chain_to :
    {X : Type 0} (tree : X → PExpr) (behind : X → List Item) (result : Result X ParseError)
    (level : Level) (d turns : ℕ) (left : PExpr) (ts : List Item) (dummy : Item) (last : Option BinaryOp) (op : BinaryOp) (h : ℕ) →
    1 ≤ length ts → last ≡ last_operator left → Some op ≡ operator_in level last (get_or ts 0 dummy).kind → h ≡ levels left → h < d → d ≤ turns + h →
    ((t : ℕ) → d ≤ t + (h + 1) → Gives tree behind result (behind_operator level d (inner d (tighter level)) t left last op (take (length ts - 1) (drop 1 ts)))) →
    Gives tree behind result (chain_in (operators level) d (inner d (tighter level)) turns left ts)
chain_to tree behind result level d turns left ts dummy last op h some last_is is high room enough more =
    let now : operator_in level (last_operator left) (get_or ts 0 dummy).kind ≡ Some op = ap (λ l. operator_in level l (get_or ts 0 dummy).kind) (sym last_is) ∙ sym is in
    let g = chain_goes level d (inner d (tighter level)) turns left ts dummy op some now (omega arith) (omega arith) in
    let goes : chain_in (operators level) d (inner d (tighter level)) turns left ts ≡ behind_operator level d (inner d (tighter level)) g.0 left last op (take (length ts - 1) (drop 1 ts)) =
    g.2 ∙ ap (λ l. go_on (operator_rest l op (take (length ts - 1) (drop 1 ts))) (onward level d (inner d (tighter level)) g.0 left)) (sym last_is) in
    let still : d ≤ g.0 + (h + 1) = omega (arith, g.1) in
    rw goes (more g.0 still)

-- a chain at an operator for which the left operand is too high
pub chain_too_deep :
    (level : Level) (d turns : ℕ) (left : PExpr) (ts : List Item) (dummy : Item) (last : Option BinaryOp) (op : BinaryOp) (h : ℕ) →
    1 ≤ length ts → last ≡ last_operator left → Some op ≡ operator_in level last (get_or ts 0 dummy).kind → h ≡ levels left → d ≤ h →
    FaultsAt true (get_or ts 0 dummy).span.start (chain_in (operators level) d (inner d (tighter level)) turns left ts)
chain_too_deep level d turns left [] dummy last op h some last_is is high full = absurd (omega (arith, some))
chain_too_deep level d turns left (x ∷ rest) dummy last op h some last_is is high full =
    let now : operator_in level (last_operator left) x.kind ≡ Some op = ap (λ l. operator_in level l x.kind) (sym last_is) ∙ sym is in
    let above : d ≤ levels left = omega (arith, high, full) in
    rw (deep_cons level d (inner d (tighter level)) turns left x rest op now above) (refl, refl)

-- behind an operator and an operand it goes on
pub chain_further :
    {X : Type 0} (tree : X → PExpr) (behind : X → List Item) (result : Result X ParseError)
    (level : Level) (d turns : ℕ) (left : PExpr) (last : Option BinaryOp) (op o : BinaryOp) (ts mid end : List Item) (right node : PExpr) (h other : ℕ) →
    d ≤ turns + (h + 1) → operator_rest last op ts ≡ Found o mid → inner d (tighter level) mid ≡ Found right end → node ≡ joined left o right →
    ((t : ℕ) → d ≤ t + (max h other + 1) → Gives tree behind result (chain_in (operators level) d (inner d (tighter level)) t node end)) →
    Gives tree behind result (behind_operator level d (inner d (tighter level)) turns left last op ts)
chain_further tree behind result level d turns left last op o ts mid end right node h other enough rested found node_is more =
    let goes : behind_operator level d (inner d (tighter level)) turns left last op ts ≡ chain_in (operators level) d (inner d (tighter level)) turns node end =
    ap (λ r. go_on r (onward level d (inner d (tighter level)) turns left)) rested
    ∙ ap (λ r. go_on r (λ q. chain_in (operators level) d (inner d (tighter level)) turns (joined left o q))) found
    ∙ ap (λ n. chain_in (operators level) d (inner d (tighter level)) turns n end) (sym node_is) in
    let still : d ≤ turns + (max h other + 1) = omega arith in
    rw goes (more turns still)
