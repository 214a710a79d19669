-- The text of a well placed expression is that expression, at the places where it stands (4.4).
use Rattle.std.proofs.Common.{◌≡◌, ℕ, ◌+◌, ◌<◌, ◌≤◌, List, [], ◌∷◌, ◌++◌, length, decimal, Option, None, Some, refl, ap, ◌∙◌, sym, subst, arith, ◌⊎◌, inl, inr}
use Rattle.ada_tree.specs.declared.naming.Span.{Span}
use Rattle.ada_tree.specs.declared.naming.Word.{Word}
use Rattle.ada_tree.specs.declared.expressions.UnaryOp.{UnaryOp}
use Rattle.ada_tree.specs.declared.expressions.UnaryOp.TheVariants as unary
use Rattle.ada_tree.specs.declared.expressions.BinaryOp.{BinaryOp}
use Rattle.ada_tree.specs.declared.expressions.BinaryOp.TheVariants.{AndThen, OrElse, Plus, Minus, Times, Divide, Mod, Rem}
use Rattle.ada_tree.specs.PlainExpr.{PExpr, EInteger, EName, EIndex, EAttribute, EAttributeOf, EParen, EUnary, EBinary}
use Rattle.ada_tree.specs.WellPlaced.{level, logical, simple, term, binary_level, unary_level, GoesOn, BinaryFits, UnaryFits, well_placed}
use Rattle.ada_tree.specs.Every.{EveryExpr}
use Rattle.ada_tree.specs.Same.{SameExpr}
use Rattle.ada_lexer.specs.declared.symbols.Symbol.TheVariants as key
use Rattle.ada_expr_parser.specs.declared.items.Item.{Item}
use Rattle.ada_expr_parser.specs.Grammar.{symbol_item, word_item, prefix_symbol, infix_symbol, SpellsSecond, SpellsOperator, Spells}
use Rattle.ada_expr_parser.specs.Trees.{span_of, levels, last_operator, from_to}
use Rattle.ada_phrase_parser.specs.Spelling.{Spelling, ◌▷◌, Key, Named, last_place}
use Rattle.ded_io.specs.Written.{◌⧺◌}
use Rattle.ada_printer.specs.Layout.{name_text, word_text}
use Rattle.ada_printer.specs.ExprText.{unary_text, binary_text, expr_text}
use Rattle.read_back.proofs.Classes.{Class, Anything, Plain, Stop}
use Rattle.read_back.proofs.Told.{Setting, names_of, Told, Blank, Sign, span_at, word_at, place_of, told_as, told_here, told_opens, told_ends, told_any, told_then, told_bits, told_closed}
use Rattle.read_back.proofs.NamesAndLiterals.{told_id_of, new_word, told_word, told_integer}

-- ---- items put together

pub led : {x : Item} {items front back more : List Item} → items ≡ front ++ back → front ≡ x ∷ [] → back ≡ more → items ≡ x ∷ more
led {x = x} {back = back} is one rest = is ∙ ap (λ l. l ++ back) one ∙ ap (λ l. x ∷ l) rest

pub joined : {items back more : List Item} (front : List Item) → items ≡ front ++ back → back ≡ more → items ≡ front ++ more
joined front is rest = is ∙ ap (λ l. front ++ l) rest

pub last_of : (at : Span) (items : List Item) (x : Item) → last_place at (items ++ x ∷ []) ≡ x.span
last_of at [] x = refl
last_of at (y ∷ items) x = last_of y.span items x

-- the place of the first of some items
abbrev pub first_place : List Item → Span
first_place [] = record { start = 0; end = 0 }
first_place (x ∷ more) = x.span

abbrev InParens : Spelling → Spelling
InParens P = Key key.LeftParen ▷ P ▷ Key key.RightParen

in_parens : {P : Spelling} {items : List Item} → InParens P items → (part : List Item) × (lead : Span) × (close : Span) × P part × (items ≡ symbol_item key.LeftParen lead ∷ (part ++ symbol_item key.RightParen close ∷ []))
in_parens (front, back, is, (lead, one), (part, end, more, p, (close, two))) = (part, lead, close, p, led is one (joined part more two))

index_spells : (v : Word) (e : PExpr) (items : List Item) → (Named v ▷ InParens (Spells e)) items → Spells (EIndex v e (place_of items)) items
index_spells v e items (front, back, is, named, rest) =
    let (part, lead, close, spells, more) = in_parens rest in
    let whole : items ≡ word_item v ∷ symbol_item key.LeftParen lead ∷ (part ++ symbol_item key.RightParen close ∷ []) = led is named more in
    (part, lead, close, spells, whole, ap place_of whole ∙ ap (from_to v.span) (last_of lead part (symbol_item key.RightParen close)))

attribute_spells : (m v : Word) (items : List Item) → (Named m ▷ Key key.Tick ▷ Named v) items → Spells (EAttribute m v (place_of items)) items
attribute_spells m v items (front, back, is, named, (one, two, more, (tick, ticked), last)) =
    let whole : items ≡ word_item m ∷ symbol_item key.Tick tick ∷ word_item v ∷ [] = led is named (led more ticked last) in
    (tick, whole, ap place_of whole)

attribute_of_spells : (m v : Word) (e : PExpr) (items : List Item) → (Named m ▷ Key key.Tick ▷ Named v ▷ InParens (Spells e)) items → Spells (EAttributeOf m v e (place_of items)) items
attribute_of_spells m v e items (front, back, is, named, (one, two, more, (tick, ticked), (three, four, then, second, rest))) =
    let (part, lead, close, spells, last) = in_parens rest in
    let whole : items ≡ word_item m ∷ symbol_item key.Tick tick ∷ word_item v ∷ symbol_item key.LeftParen lead ∷ (part ++ symbol_item key.RightParen close ∷ []) = led is named (led more ticked (led then second last)) in
    (part, tick, lead, close, spells, whole, ap place_of whole ∙ ap (from_to m.span) (last_of lead part (symbol_item key.RightParen close)))

parens_spell : (e : PExpr) (items : List Item) → InParens (Spells e) items → Spells (EParen e (place_of items)) items
parens_spell e items rest =
    let (part, lead, close, spells, whole) = in_parens rest in
    (part, lead, close, spells, whole, ap place_of whole ∙ ap (from_to lead) (last_of lead part (symbol_item key.RightParen close)))

unary_spells : (op : UnaryOp) (e : PExpr) (items : List Item) → UnaryFits op e → (Key (prefix_symbol op) ▷ Spells e) items → Spells (EUnary op e (from_to (first_place items) (span_of e))) items
unary_spells op e items fit (front, back, is, (at, sign), spells) =
    let whole : items ≡ symbol_item (prefix_symbol op) at ∷ back = led is sign refl in
    (back, at, spells, fit, whole, ap (λ l. from_to (first_place l) (span_of e)) whole)

binary_spells : (op : BinaryOp) (l r : PExpr) (items : List Item) → BinaryFits op l r → (Spells l ▷ SpellsOperator op ▷ Spells r) items → Spells (EBinary op l r (from_to (span_of l) (span_of r))) items
binary_spells op l r items fit (front, more, is, left, (sign, back, then, operator, right)) =
    (front, sign, back, left, operator, right, fit, joined front is then, refl)

-- ---- what a text begins with

abbrev pub unary_opening : UnaryOp → Class
unary_opening unary.Plus = Anything
unary_opening unary.Minus = Anything
unary_opening _ = Plain

-- what an expression begins with: a sign, or what is plain
abbrev pub opening : PExpr → Class
opening (EUnary op e s) = unary_opening op
opening (EBinary op l r s) = opening l
opening _ = Plain

-- ---- operators

module _ (w : Setting) where
  told_prefix : {S : Type 0} {Q : Spelling} {at : ℕ} {u : List ℕ} (op : UnaryOp) → Told w S Plain Stop Q (at + length (unary_text op)) u → Told w S (unary_opening op) Stop (Key (prefix_symbol op) ▷ Q) at (unary_text op ⧺ u)
  told_prefix unary.Plus h = told_bits w (Sign key.Plus ∷ []) h refl
  told_prefix unary.Minus h = told_bits w (Sign key.Minus ∷ []) h refl
  told_prefix unary.Abs h = told_bits w (Sign key.Abs ∷ Blank ∷ []) h refl
  told_prefix unary.Not h = told_bits w (Sign key.Not ∷ Blank ∷ []) h refl

  one_sign : {S : Type 0} {o a : Class} {Q : Spelling} {at : ℕ} {u : List ℕ} (op : BinaryOp) → SpellsSecond op [] → Told w S o a (Key (infix_symbol op) ▷ Q) at u → Told w S o a (SpellsOperator op ▷ Q) at u
  one_sign op none h = told_as w h (λ items said s. ((said.0, said.1, said.2, (said.3.0, [], none, said.3.1), said.4), s))

  two_signs : {S : Type 0} {o a : Class} {Q : Spelling} {at : ℕ} {u : List ℕ} (op : BinaryOp) (second : _) → ((at : Span) → SpellsSecond op (symbol_item second at ∷ [])) → Told w S o a (Key (infix_symbol op) ▷ Key second ▷ Q) at u → Told w S o a (SpellsOperator op ▷ Q) at u
  two_signs {Q = Q} op second spelled h = told_as w h (λ items said s. (both items said, s))
    where
      both : (items : List Item) → (Key (infix_symbol op) ▷ Key second ▷ Q) items → (SpellsOperator op ▷ Q) items
      both items (front, back, is, (at, one), (middle, last, then, (to, two), q)) =
          (symbol_item (infix_symbol op) at ∷ symbol_item second to ∷ [], last, led is one (led then two refl), (at, symbol_item second to ∷ [], spelled to, refl), q)

  told_infix : {S : Type 0} {o : Class} {Q : Spelling} {at : ℕ} {u : List ℕ} (op : BinaryOp) → Told w S o Stop Q (at + length (binary_text op)) u → Told w S Stop Stop (SpellsOperator op ▷ Q) at (binary_text op ⧺ u)
  told_infix AndThen h = two_signs AndThen key.Then (λ at. (at, refl)) (told_bits w (Blank ∷ Sign key.And ∷ Blank ∷ Sign key.Then ∷ Blank ∷ []) h refl)
  told_infix OrElse h = two_signs OrElse key.Else (λ at. (at, refl)) (told_bits w (Blank ∷ Sign key.Or ∷ Blank ∷ Sign key.Else ∷ Blank ∷ []) h refl)
  told_infix op h = one_sign op refl (told_bits w (Blank ∷ Sign (infix_symbol op) ∷ Blank ∷ []) h refl)

-- ---- which operator may stand behind which tree, by its level and its last operator

abbrev Goes : BinaryOp → ℕ → Option BinaryOp → Type 0
Goes Plus l o = l ≡ simple
Goes Minus l o = l ≡ simple
Goes Times l o = l ≡ term
Goes Divide l o = l ≡ term
Goes Mod l o = l ≡ term
Goes Rem l o = l ≡ term
Goes op l None = ⊥
Goes op l (Some oq) = (oq ≡ op) × (binary_level op ≡ logical)

goes_from : (op : BinaryOp) (e : PExpr) → GoesOn op e → Goes op (level e) (last_operator e)
goes_from Plus e g = g
goes_from Minus e g = g
goes_from Times e g = g
goes_from Divide e g = g
goes_from Mod e g = g
goes_from Rem e g = g
goes_from op (EBinary oq l r s) g = g
goes_from op e g = g

goes_to : (op : BinaryOp) (e : PExpr) → Goes op (level e) (last_operator e) → GoesOn op e
goes_to Plus e g = g
goes_to Minus e g = g
goes_to Times e g = g
goes_to Divide e g = g
goes_to Mod e g = g
goes_to Rem e g = g
goes_to op (EBinary oq l r s) g = g
goes_to op e g = g

pub goes_alike : (op : BinaryOp) (x y : PExpr) → level y ≡ level x → last_operator y ≡ last_operator x → GoesOn op x → GoesOn op y
goes_alike op x y same operator g =
    goes_to op y (subst (λ l. Goes op l (last_operator y)) (sym same) (subst (λ o. Goes op (level x) o) (sym operator) (goes_from op x g)))

fits_alike : (op : BinaryOp) (l r k q : PExpr) → level k ≡ level l → last_operator k ≡ last_operator l → level q ≡ level r → BinaryFits op l r → BinaryFits op k q
fits_alike op l r k q left operator right fit = (side fit.0, rw right fit.1)
  where
    side : (binary_level op < level l) ⊎ GoesOn op l → (binary_level op < level k) ⊎ GoesOn op k
    side (inl h) = inl (rw left h)
    side (inr g) = inr (goes_alike op l k left operator g)

-- the left operand of an operator of products is no sum
left_high : (l r : PExpr) (op : BinaryOp) → BinaryFits op l r → binary_level op ≡ term → simple < level l
left_high l r op fit is = side fit.0
  where
    by : (op : BinaryOp) (l : PExpr) → binary_level op ≡ term → GoesOn op l → level l ≡ term
    by Times l is g = g
    by Divide l is g = g
    by Mod l is g = g
    by Rem l is g = g
    by op l is g = absurd (omega (arith, is))

    side : (binary_level op < level l) ⊎ GoesOn op l → simple < level l
    side (inl h) = omega (arith, h, is)
    side (inr g) = omega (arith, by op l is g)

unary_high : (op : UnaryOp) → simple ≤ unary_level op
unary_high unary.Plus = omega arith
unary_high op = omega arith

module _ (w : Setting) (n : List (List ℕ)) where
  -- what the text of an expression of nesting k is at a place
  pub record ReadExpr (k : ℕ) (x : PExpr) (at : ℕ) : Type 0 where
    pub tree : PExpr
    pub told : Told w (SameExpr n (names_of w) x tree) (opening x) Stop (Spells tree) at (expr_text n x)
    pub level_is : level tree ≡ level x
    pub operator_is : last_operator tree ≡ last_operator x
    pub low : levels tree + k ≤ 300

  -- a term begins with no sign
  opening_plain : (k : ℕ) (x : PExpr) → EveryExpr (well_placed n) k x → simple < level x → opening x ≡ Plain
  opening_plain k (EUnary unary.Plus e s) every high = absurd (omega (arith, high))
  opening_plain k (EUnary unary.Minus e s) every high = absurd (omega (arith, high))
  opening_plain k (EUnary op e s) every high = refl
  opening_plain k (EBinary Times l r s) every high = opening_plain (k + 1) l every.2 (left_high l r Times every.1 refl)
  opening_plain k (EBinary Divide l r s) every high = opening_plain (k + 1) l every.2 (left_high l r Divide every.1 refl)
  opening_plain k (EBinary Mod l r s) every high = opening_plain (k + 1) l every.2 (left_high l r Mod every.1 refl)
  opening_plain k (EBinary Rem l r s) every high = opening_plain (k + 1) l every.2 (left_high l r Rem every.1 refl)
  opening_plain k (EBinary op l r s) every high = absurd (omega (arith, high))
  opening_plain k x every high = refl

  read_binary : (k : ℕ) (op : BinaryOp) (l r : PExpr) (s : Span) (at : ℕ) → EveryExpr (well_placed n) k (EBinary op l r s) →
      (left : ReadExpr (k + 1) l at) → (right : ReadExpr (k + 1) r ((at + length (expr_text n l)) + length (binary_text op))) → ReadExpr k (EBinary op l r s) at
  read_binary k op l r s at every left right = record {
    tree = EBinary op left.tree right.tree (from_to (span_of left.tree) (span_of right.tree));
    told = told_here w (told_then w left.told (told_infix w op (told_any w right.told)) refl) (λ said same. (binary_spells op left.tree right.tree _ (fits_alike op l r left.tree right.tree left.level_is left.operator_is right.level_is every.1) said, (refl, same.0, same.1)));
    level_is = refl;
    operator_is = refl;
    low = omega (arith, left.low, right.low);
  }

  read_unary : (k : ℕ) (op : UnaryOp) (e : PExpr) (s : Span) (at : ℕ) → EveryExpr (well_placed n) k (EUnary op e s) → (part : ReadExpr (k + 1) e (at + length (unary_text op))) → ReadExpr k (EUnary op e s) at
  read_unary k op e s at every part =
      let plain : Told w (SameExpr n (names_of w) e part.tree) Plain Stop (Spells part.tree) (at + length (unary_text op)) (expr_text n e) =
      rw (opening_plain (k + 1) e every.2 (omega (arith, every.1, unary_high op))) at part.told in
      let chain = told_prefix w op plain in
      record {
        tree = EUnary op part.tree (from_to (first_place chain.items) (span_of part.tree));
        told = told_here w chain (λ said same. (unary_spells op part.tree _ (rw part.level_is every.1) said, (refl, same)));
        level_is = refl;
        operator_is = refl;
        low = omega (arith, part.low);
      }

  pub read_expr : (k : ℕ) (x : PExpr) (at : ℕ) → EveryExpr (well_placed n) k x → ReadExpr k x at
  read_expr k (EInteger m s) at every = record {
    tree = EInteger m (span_at at (decimal m));
    told = told_as w (told_integer w n m every.1) (λ items one t. (one, refl));
    level_is = refl;
    operator_is = refl;
    low = omega (arith, every.0);
  }
  read_expr k (EName a s) at every = record {
    tree = EName (word_at w at (name_text n a)).name (span_at at (name_text n a));
    told = told_ends w (told_id_of w n a every.1) refl;
    level_is = refl;
    operator_is = refl;
    low = omega (arith, every.0);
  }
  read_expr k (EIndex v e s) at every =
      let part = read_expr (k + 1) e ((at + length (word_text n v)) + 1) every.2 in
      let chain = told_then w (told_word w n v every.1) (told_bits w (Sign key.LeftParen ∷ []) (told_closed w (Sign key.RightParen ∷ []) (told_any w part.told) refl refl) refl) refl in
      record {
        tree = EIndex (new_word w n at v) part.tree (place_of chain.items);
        told = told_here w chain (λ said same. (index_spells (new_word w n at v) part.tree _ said, same));
        level_is = refl;
        operator_is = refl;
        low = omega (arith, part.low);
      }
  read_expr k (EAttribute m v s) at every =
      let chain = told_ends w (told_then w (told_word w n m every.1) (told_bits w (Sign key.Tick ∷ []) (told_word w n v every.2) refl) refl) refl in
      record {
        tree = EAttribute (new_word w n at m) (new_word w n ((at + length (word_text n m)) + 1) v) (place_of chain.items);
        told = told_here w chain (λ said same. (attribute_spells _ _ _ said, same));
        level_is = refl;
        operator_is = refl;
        low = omega (arith, every.0);
      }
  read_expr k (EAttributeOf m v e s) at every =
      let second = (at + length (word_text n m)) + 1 in
      let part = read_expr (k + 1) e ((second + length (word_text n v)) + 1) every.3 in
      let chain = told_then w (told_word w n m every.1) (told_bits w (Sign key.Tick ∷ [])
      (told_then w (told_word w n v every.2) (told_bits w (Sign key.LeftParen ∷ []) (told_closed w (Sign key.RightParen ∷ []) (told_any w part.told) refl refl) refl) refl) refl) refl in
      record {
        tree = EAttributeOf (new_word w n at m) (new_word w n second v) part.tree (place_of chain.items);
        told = told_here w chain (λ said same. (attribute_of_spells _ _ _ _ said, (same.0, same.1.0, same.1.1)));
        level_is = refl;
        operator_is = refl;
        low = omega (arith, part.low);
      }
  read_expr k (EParen e s) at every =
      let part = read_expr (k + 1) e (at + 1) every.1 in
      let chain = told_opens w (told_bits w (Sign key.LeftParen ∷ []) (told_closed w (Sign key.RightParen ∷ []) (told_any w part.told) refl refl) refl) refl in
      record {
        tree = EParen part.tree (place_of chain.items);
        told = told_here w chain (λ said same. (parens_spell part.tree _ said, same));
        level_is = refl;
        operator_is = refl;
        low = omega (arith, part.low);
      }
  read_expr k (EUnary op e s) at every = read_unary k op e s at every (read_expr (k + 1) e (at + length (unary_text op)) every.2)
  read_expr k (EBinary op l r s) at every =
      read_binary k op l r s at every (read_expr (k + 1) l at every.2) (read_expr (k + 1) r ((at + length (expr_text n l)) + length (binary_text op)) every.3)
