-- An expression that begins with a name, and operands one level deeper.
use Rattle.std.proofs.Common.{◌≡◌, ℕ, zero, suc, ◌-◌, ◌<◌, ◌≤◌, length, get_or, take, drop, Bool, true, false, ◌||◌, cond, is_some, List, [], ◌∷◌, Option, Some, None, refl, sym, ap, ◌∙◌, arith}
use Rattle.std.proofs.Math.Seq.{take-length}
use Rattle.ada_expr_parser.specs.readers.Readers.{Answer, Found, Fault, Reader, pure, refuse, go_on, bind, on, on_token, token, chain_in}
use Rattle.ada_tree.specs.declared.naming.Span.{Span}
use Rattle.ada_tree.specs.declared.naming.Word.{Word}
use Rattle.ada_tree.specs.PlainExpr.{PExpr}
use Rattle.ada_lexer.specs.declared.symbols.Symbol.TheVariants as key
use Rattle.ada_expr_parser.specs.declared.items.ItemKind.{ItemKind}
use Rattle.ada_expr_parser.specs.declared.items.ItemKind.TheVariants as item
use Rattle.ada_expr_parser.specs.declared.items.Item.{Item}
use Rattle.ada_expr_parser.specs.declared.levels.Level.TheVariants.{Logical, Relation, Simple, Term, Factor}
use Rattle.ada_expr_parser.specs.declared.levels.Level.{Level}
use Rattle.ada_tree.specs.declared.expressions.BinaryOp.{BinaryOp}
use Rattle.ada_expr_parser.specs.Trees.{levels, indexed}
use Rattle.ada_expr_parser.proofs.Chains.{chain_deep, chain_ends}
use Rattle.ada_expr_parser.specs.Gives.{FaultsAt}
use Rattle.ada_expr_parser.specs.Tests.{word, word_in, operator_in}
use Rattle.ada_expr_parser.specs.Reading.{inner, operators, name_rest}
use Rattle.ada_expr_parser.specs.Parts.{expression, expr_behind}
use Rattle.ada_phrase_parser.specs.Views.{is_operator}
use Rattle.ada_phrase_parser.specs.Reading.{is_symbol, in_deeper, goes_on_name, expression_from, is_formal_mark, formals_from, behind_index, accept_name}

go_on_on : {A B C : Type 0} (r : Answer Item A) (f : A → Reader Item B) (g : B → Reader Item C) → go_on (go_on r f) g ≡ go_on r (λ a. bind (f a) g)
go_on_on (Found a rest) f g = refl
go_on_on (Fault deep rest) f g = refl

go_on_four : (r : Answer Item PExpr) (f g h k : PExpr → Reader Item PExpr) → go_on (go_on (go_on (go_on r f) g) h) k ≡ go_on r (λ a. bind (f a) (λ b. bind (g b) (λ c. bind (h c) k)))
go_on_four r f g h k = go_on_on (go_on (go_on r f) g) h k ∙ (go_on_on (go_on r f) g (λ c. bind (h c) k) ∙ go_on_on r f (λ b. bind (g b) (λ c. bind (h c) k)))

named_is : (v w : Word) → Some v ≡ Some w → v ≡ w
named_is v w is = cc

-- an expression that begins with a name is read from that name on
at_name : (e : ℕ) (k : ItemKind) (s : Span) (w : Word) (rest : List Item) → word_in k s ≡ Some w → expression e (record { kind = k; span = s } ∷ rest) ≡ expression_from e w rest
at_name e (item.Name id) s w rest is =
    go_on_four (name_rest e (inner e) record { name = id; span = s } rest) (chain_in (operators Term) e (inner e Factor) e) (chain_in (operators Simple) e (inner e Term) e) (chain_in (operators Relation) e (inner e Simple) e) (chain_in (operators Logical) e (inner e Relation) e)
    ∙ ap (λ v. expression_from e v rest) (named_is record { name = id; span = s } w is)
at_name e (item.Symbol s) at w rest is = cc
at_name e (item.Integer n) at w rest is = cc
at_name e (item.Duration n) at w rest is = cc
at_name e item.Text at w rest is = cc
at_name e item.End at w rest is = cc

found_is : (v w : Word) (xs ys : List Item) → Found v xs ≡ Found w ys → Some v ≡ Some w
found_is v w xs ys is = cc

rest_is : (v w : Word) (xs ys : List Item) → Found v xs ≡ Found w ys → xs ≡ ys
rest_is v w xs ys is = cc

taken : (o : Option Word) (x : Item) (xs rest : List Item) (w : Word) → on_token o pure refuse x xs ≡ Found w rest → (o ≡ Some w) × (xs ≡ rest)
taken None x xs rest w is = cc
taken (Some v) x xs rest w is = (found_is v w xs rest is, rest_is v w xs rest is)

pub named_start : (e : ℕ) (ts rest : List Item) (w : Word) → token word ts ≡ Found w rest → expression e ts ≡ expression_from e w rest
named_start e [] rest w is = cc
named_start e (x ∷ xs) rest w is =
    let t = taken (word x) x xs rest w is in
    at_name e x.kind x.span w xs t.0 ∙ ap (expression_from e w) t.1

-- what stands one level deeper, where there is a level
pub deeper_is : {A : Type 0} (d : ℕ) (begins : Item → Bool) (part : ℕ → Reader Item A) (ts : List Item) → 0 < d → in_deeper d begins part ts ≡ part (d - 1) ts
deeper_is zero begins part ts h = absurd (omega arith)
deeper_is (suc d) begins part ts h = let e : suc d - 1 ≡ d = omega arith in rw e refl

-- a name behind `accept NAME (`, and a name behind `GET (`
pub index_named : (d : ℕ) (w : Word) (ts : List Item) → 0 < d → in_deeper d (λ x. goes_on_name x || is_symbol key.LeftParen x || is_symbol key.RightParen x) (λ e. expression_from e w) ts ≡ expression_from (d - 1) w ts
index_named d w ts h = deeper_is d (λ x. goes_on_name x || is_symbol key.LeftParen x || is_symbol key.RightParen x) (λ e. expression_from e w) ts h

-- behind an index that has no level left an operator is too deep, and anything else ends the expression
full_one : (level : Level) (d : ℕ) (operand : Reader Item PExpr) (w : Word) (arg : PExpr) (close : Span) (x : Item) (rest : List Item) (o : Option BinaryOp) → operator_in level None x.kind ≡ o → d ≤ levels (indexed w arg close) →
    chain_in (operators level) d operand d (indexed w arg close) (x ∷ rest) ≡ cond (is_some o) (Fault true (x ∷ rest)) (Found (indexed w arg close) (x ∷ rest))
full_one level d operand w arg close x rest None is full = chain_ends level d operand d (indexed w arg close) (x ∷ rest) x (omega arith) is
full_one level d operand w arg close x rest (Some op) is full = chain_deep level d operand d (indexed w arg close) (x ∷ rest) x op (omega arith) is full

one_of_four : (a b c d : Bool) → (a || (b || (c || d))) ≡ (a || b || c || d)
one_of_four true b c d = refl
one_of_four false true c d = refl
one_of_four false false true d = refl
one_of_four false false false d = refl

step : (b c : Bool) (e : PExpr) (ts : List Item) (next : PExpr → Reader Item PExpr) → next e ts ≡ cond c (Fault true ts) (Found e ts) → go_on (cond b (Fault true ts) (Found e ts)) next ≡ cond (b || c) (Fault true ts) (Found e ts)
step true c e ts next h = refl
step false c e ts next h = h

module _ (d : ℕ) (w : Word) (arg : PExpr) (close : Span) (x : Item) (rest : List Item) (full : d ≤ levels (indexed w arg close)) where
  abbrev found : PExpr
  found = indexed w arg close

  abbrev there : Level → Bool
  there level = is_some (operator_in level None x.kind)

  one : (level : Level) (operand : Reader Item PExpr) → chain_in (operators level) d operand d found (x ∷ rest) ≡ cond (there level) (Fault true (x ∷ rest)) (Found found (x ∷ rest))
  one level operand = full_one level d operand w arg close x rest (operator_in level None x.kind) refl full

  next_one : (level : Level) (operand : Reader Item PExpr) (c : Bool) (next : PExpr → Reader Item PExpr) → next found (x ∷ rest) ≡ cond c (Fault true (x ∷ rest)) (Found found (x ∷ rest)) →
      bind (chain_in (operators level) d operand d found) next (x ∷ rest) ≡ cond (there level || c) (Fault true (x ∷ rest)) (Found found (x ∷ rest))
  next_one level operand c next h = ap (λ r. go_on r next) (one level operand) ∙ step (there level) c found (x ∷ rest) next h

  abbrev last : PExpr → Reader Item PExpr
  last r = chain_in (operators Logical) d (inner d Relation) d r

  abbrev third : PExpr → Reader Item PExpr
  third s = bind (chain_in (operators Relation) d (inner d Simple) d s) last

  abbrev second : PExpr → Reader Item PExpr
  second t = bind (chain_in (operators Simple) d (inner d Term) d t) third

  pub behind_full : expr_behind d found (x ∷ rest) ≡ cond (is_operator x.kind) (Fault true (x ∷ rest)) (Found found (x ∷ rest))
  behind_full =
      next_one Term (inner d Factor) (there Simple || (there Relation || there Logical)) second
      (next_one Simple (inner d Term) (there Relation || there Logical) third (next_one Relation (inner d Simple) (there Logical) last (one Logical (inner d Relation))))
      ∙ ap (λ b. cond b (Fault true (x ∷ rest)) (Found found (x ∷ rest))) (one_of_four (there Term) (there Simple) (there Relation) (there Logical))

pub off : (o : Option Span) → is_some o ≡ false → o ≡ None
off None h = refl
off (Some s) h = cc

-- a name behind `accept NAME (` that begins an index
pub accept_is :
    (d : ℕ) (w : Word) (ts rest : List Item) (dummy : Item) → token word ts ≡ Found w rest → 1 ≤ length rest → is_formal_mark (get_or rest 0 dummy) ≡ false → 0 < d →
    bind (token word) (accept_name d) ts ≡ go_on (expression (d - 1) ts) behind_index
accept_is d w ts [] dummy named some mark room = absurd (omega arith)
accept_is d w ts (x ∷ xs) dummy named some mark room =
    ap (λ r. go_on r (accept_name d)) named
    ∙ ap (λ b. cond b (bind (formals_from w) (λ fs. pure record { index = None; formals = fs }) (x ∷ xs)) (go_on (in_deeper d (λ x. goes_on_name x || is_symbol key.LeftParen x || is_symbol key.RightParen x) (λ e. expression_from e w) (x ∷ xs)) behind_index)) mark
    ∙ ap (λ r. go_on r behind_index) (index_named d w (x ∷ xs) room ∙ sym (named_start (d - 1) ts (x ∷ xs) w named))

-- what a test lets through is taken
pub on_there :
    {A B : Type 0} (test : Item → Option B) (next : B → Reader Item A) (other : Reader Item A) (ts : List Item) (dummy : Item) (b : B) → 1 ≤ length ts → Some b ≡ test (get_or ts 0 dummy) →
    on test next other ts ≡ next b (take (length ts - 1) (drop 1 ts))
on_there test next other [] dummy b some is = absurd (omega arith)
on_there test next other (x ∷ xs) dummy b some is =
    let n : length (x ∷ xs) - 1 ≡ length xs = omega arith in
    ap (λ o. on_token o next other x xs) (sym is) ∙ ap (next b) (rw n (sym (take-length xs)))

-- a fault at the next item
pub faults_here : (A : Type 0) (deep : Bool) (ts : List Item) (dummy : Item) → 1 ≤ length ts → FaultsAt {A = A} deep (get_or ts 0 dummy).span.start (Fault deep ts)
faults_here A deep [] dummy some = absurd (omega arith)
faults_here A deep (x ∷ xs) dummy some = (refl, refl)
