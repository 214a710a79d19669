-- The texts that stand behind `GET`, in plain words: a variable in parentheses and a semicolon, or an index and what has it (5.2, 9.5, this project's GET).
use Rattle.std.proofs.Common.{◌≡◌, ℕ, zero, suc, ◌+◌, ◌≤◌, ◌⊎◌, inl, inr, ⊎_elim, List, [], ◌∷◌, ◌++◌, Option, Some, None, refl, sym, ap, ◌∙◌, subst, arith}
use Rattle.std.specs.Prelude.{true, not, is_some}
use Rattle.std.proofs.lemmas.List.{append_assoc}
use Rattle.ada_expr_parser.specs.readers.Grammars.{Texts, Is, One, Then, Or, Below}
use Rattle.ada_expr_parser.proofs.readers.Basics.{tested}
use Rattle.ada_tree.specs.declared.naming.Span.{Span}
use Rattle.ada_tree.specs.declared.naming.Word.{Word}
use Rattle.ada_tree.specs.PlainExpr.{PExpr, EName}
use Rattle.ada_tree.specs.PlainStmt.{PTarget, PStmt, SGet}
use Rattle.ada_lexer.specs.declared.symbols.Symbol.TheVariants as key
use Rattle.ada_expr_parser.specs.declared.items.Item.{Item}
use Rattle.ada_expr_parser.specs.declared.levels.Level.TheVariants.{Logical}
use Rattle.ada_expr_parser.specs.Tests.{same, symbol, word}
use Rattle.ada_expr_parser.specs.Trees.{levels, from_to, indexed}
use Rattle.ada_expr_parser.specs.Grammar.{symbol_item, word_item, Spells, IsExpr, IsIndex}
use Rattle.ada_parser.proofs.expression_laws.Tokens.{word_is}
use Rattle.ada_parser.proofs.expression_laws.Primaries.{Content, content_is, InParens, AttributeRest, NameRest}
use Rattle.ada_parser.proofs.expression_laws.Plainly.{after_symbol, symbol_then, after_word, word_then}
use Rattle.ada_parser.proofs.expression_laws.Calling.{of_name}
use Rattle.ada_parser.proofs.expression_laws.Behinds.{Behind, behind_spells}
use Rattle.ada_phrase_parser.specs.Spelling.{Key, ◌▷◌}
use Rattle.ada_stmt_parser.specs.Statements.{Target}
use Rattle.ada_parser.proofs.KitPieces.{after_key}
use Rattle.ada_parser.proofs.WordCalls.{AssignTexts, TargetThen}
use Rattle.ada_parser.proofs.WordExpr.{FromTexts, spell_from, behind_apart, behind_nothing}
use Rattle.ada_parser.proofs.WordPut.{OperandTexts, operand_begins, enclosed_is, is_enclosed}
use Rattle.ada_parser.proofs.WordGet.{IndexTexts, ShutTexts, IndexedTexts, ArgTexts, NameTexts, RestTexts, elsewhere}

module _ (w : Word) where
  -- the variable in parentheses, and the semicolon
  abbrev pub GetSpelled : Texts Item PStmt
  GetSpelled d s text =
      (t : PTarget) × (close : Span) × (m : List Item) × (s ≡ SGet t (from_to w.span close)) × (text ≡ m ++ (symbol_item key.Semicolon close ∷ [])) × (Key key.LeftParen ▷ Target d t ▷ Key key.RightParen) m

  abbrev Either : Texts Item PStmt
  Either d s text = GetSpelled d s text ⊎ TargetThen w d s text

  -- an index in parentheses, and what has it
  index_then : (d : ℕ) (e : PExpr) (s : PStmt) (lead : Span) (one back : List Item) → OperandTexts d e one → IndexTexts w e d s back → TargetThen w d s (symbol_item key.LeftParen lead ∷ (one ++ back))
  index_then d e s lead one back is (m, n, parted, (at, paren), assign) = (
    Some e,
    symbol_item key.LeftParen lead ∷ (one ++ (symbol_item key.RightParen at ∷ [])),
    n,
    ap (λ l. symbol_item key.LeftParen lead ∷ l) (ap (λ l. one ++ l) (parted ∙ ap (λ l. l ++ n) paren) ∙ sym (append_assoc one (symbol_item key.RightParen at ∷ []) n)),
    is_enclosed d e one lead at is,
    assign,
  )

  -- a variable, its parenthesis and a semicolon, or the variable as an index
  shut_is : (d : ℕ) (x : Word) (index : Option PExpr) (e : PExpr) (s : PStmt) (lead : Span) (front back : List Item) → IsIndex d index front →
      (levels e + 1 ≤ d → OperandTexts d e (word_item x ∷ front)) → ShutTexts w (of_name x index) e d s back → Either d s (symbol_item key.LeftParen lead ∷ ((word_item x ∷ front) ++ back))
  shut_is d x index e s lead front back is whole (m, n, parted, (at, paren), inl end) =
      let (close, more, closed, (same, none)) = after_symbol key.Semicolon (λ close. Is (SGet (of_name x index) (from_to w.span close))) d s n end in
      inl (
        of_name x index,
        close,
        symbol_item key.LeftParen lead ∷ ((word_item x ∷ front) ++ (symbol_item key.RightParen at ∷ [])),
        same,
        ap (λ l. symbol_item key.LeftParen lead ∷ ((word_item x ∷ front) ++ l)) (parted ∙ ap (λ l. l ++ n) paren ∙ ap (λ l. symbol_item key.RightParen at ∷ l) (closed ∙ ap (λ l. symbol_item key.Semicolon close ∷ l) none))
            ∙ ap (λ l. symbol_item key.LeftParen lead ∷ l) (sym (append_assoc (word_item x ∷ front) (symbol_item key.RightParen at ∷ []) (symbol_item key.Semicolon close ∷ []))),
        (
          symbol_item key.LeftParen lead ∷ [],
          (word_item x ∷ front) ++ (symbol_item key.RightParen at ∷ []),
          refl,
          (lead, refl),
          (word_item x ∷ front, symbol_item key.RightParen at ∷ [], refl, record { back = front; index = is; text_is = refl }, (at, refl)),
        ),
      )
  shut_is d x index e s lead front back is whole (m, n, parted, paren, inr (low, assign)) = inr (index_then d e s lead (word_item x ∷ front) back (whole low) (m, n, parted, paren, assign))

  -- a name with an index
  abbrev with_index : Word → Span → List Item → Span → List Item
  with_index x lead part close = word_item x ∷ symbol_item key.LeftParen lead ∷ (part ++ (symbol_item key.RightParen close ∷ []))

  indexed_is : (e : ℕ) (x : Word) (arg : PExpr) (lead close : Span) (part : List Item) → IsExpr Logical e arg part → levels (indexed x arg close) + 1 ≤ suc e → OperandTexts (suc e) (indexed x arg close) (with_index x lead part close)
  indexed_is e x arg lead close part is low = record { spells = (part, lead, close, is.spells, refl, refl); fits = omega arith; nested = omega (arith, low) }

  arg_is : (d : ℕ) (x : Word) (s : PStmt) (outer lead : Span) (rest : List Item) → Below (ArgTexts w x) d s rest → Either d s (symbol_item key.LeftParen outer ∷ word_item x ∷ symbol_item key.LeftParen lead ∷ rest)
  arg_is zero x s outer lead rest never = absurd never
  arg_is (suc e) x s outer lead rest (arg, part, more, from, is, closes) =
      let (close, back, shut, indexed_texts) = after_symbol key.RightParen (λ close d. IndexedTexts w x arg close (suc d)) e s more closes in
      let whole : rest ≡ (part ++ (symbol_item key.RightParen close ∷ [])) ++ back = from ∙ ap (λ l. part ++ l) shut ∙ sym (append_assoc part (symbol_item key.RightParen close ∷ []) back) in
      rw whole (either arg part close back is indexed_texts) where
        either : (arg : PExpr) (part : List Item) (close : Span) (back : List Item) → IsExpr Logical e arg part → IndexedTexts w x arg close (suc e) s back →
            Either (suc e) s (symbol_item key.LeftParen outer ∷ ((with_index x lead part close) ++ back))
        either arg part close back is (inl shut) = shut_is (suc e) x (Some arg) (indexed x arg close) s outer (symbol_item key.LeftParen lead ∷ (part ++ (symbol_item key.RightParen close ∷ []))) back
            (is_enclosed (suc e) arg part lead close is) (indexed_is e x arg lead close part is) shut
        either arg part close back is (inr more) =
            let (a, f, g, from, ((behind, high), low), end) = more.spells in
            let spelled : Spells a ((with_index x lead part close) ++ f) = behind_spells (indexed x arg close) a (with_index x lead part close) f (part, lead, close, is.spells, refl, refl) behind in
            inr (subst (λ l. TargetThen w (suc e) s (symbol_item key.LeftParen outer ∷ l)) (append_assoc (with_index x lead part close) f g ∙ ap (λ l. (with_index x lead part close) ++ l) (sym from))
            (index_then (suc e) a s outer ((with_index x lead part close) ++ f) g (record { spells = spelled; fits = high; nested = low }) end))

  -- the name alone, or an expression that goes on behind it
  name_operand : (d : ℕ) (x : Word) → levels (EName x.name x.span) + 1 ≤ d → OperandTexts d (EName x.name x.span) (word_item x ∷ [])
  name_operand zero x low = absurd (omega (arith, low))
  name_operand (suc d) x low = record { spells = refl; fits = omega arith; nested = omega arith }

  from_operand : (d : ℕ) (x : Word) (a : PExpr) (f : List Item) → Below (FromTexts x) d a f → OperandTexts d a (word_item x ∷ f)
  from_operand zero x a f never = never
  from_operand (suc d) x a f is = is

  name_is : (d : ℕ) (x : Word) (s : PStmt) (outer : Span) (rest : List Item) → NameTexts w x d s rest → Either d s (symbol_item key.LeftParen outer ∷ word_item x ∷ rest)
  name_is d x s outer rest (inl lead_in) =
      let (lead, more, from, is) = after_symbol key.LeftParen (λ lead. Below (ArgTexts w x)) d s rest lead_in in
      rw from (arg_is d x s outer lead more is)
  name_is d x s outer rest (inr (inl shut)) = shut_is d x None (EName x.name x.span) s outer [] rest refl (name_operand d x) shut
  name_is d x s outer rest (inr (inr there)) =
      let (a, f, g, from, is, end) = there.spells in
      rw from (inr (index_then d a s outer (word_item x ∷ f) g (from_operand d x a f is) end))

  abbrev pub GetTexts : Texts Item PStmt
  GetTexts = Or (Then (One (symbol key.LeftParen)) (λ lead. RestTexts w)) (AssignTexts (of_name w None))

  rest_is : (d : ℕ) (s : PStmt) (lead : Span) (rest : List Item) → RestTexts w d s rest → Either d s (symbol_item key.LeftParen lead ∷ rest)
  rest_is d s lead rest (inl other) =
      let (e, one, back, from, is, end) = other.spells in
      rw from (inr (index_then d e s lead one back is end))
  rest_is d s lead rest (inr named) =
      let (x, back, from, is) = after_word (NameTexts w) d s rest named in
      rw from (name_is d x s lead back is)

  pub get_spelled : (d : ℕ) (s : PStmt) (text : List Item) → GetTexts d s text → GetSpelled d s text ⊎ TargetThen w d s text
  get_spelled d s text (inl lead_in) =
      let (lead, rest, from, is) = after_symbol key.LeftParen (λ lead. RestTexts w) d s text lead_in in
      rw from (rest_is d s lead rest is)
  get_spelled d s text (inr assign) = inr (None, [], text, refl, refl, assign)

  -- ---- and back

  -- a variable
  target_rest : (d : ℕ) (x : Word) (index : Option PExpr) (s : PStmt) (close at : Span) (front : List Item) → IsIndex d index front → s ≡ SGet (of_name x index) (from_to w.span close) →
      NameTexts w x d s (front ++ (symbol_item key.RightParen at ∷ symbol_item key.Semicolon close ∷ []))
  target_rest d x None s close at front none same =
      rw none (inr (inl (
        symbol_item key.RightParen at ∷ [],
        symbol_item key.Semicolon close ∷ [],
        refl,
        (at, refl),
        inl (symbol_then key.Semicolon (λ close. Is (SGet (of_name x None) (from_to w.span close))) d s close [] (same, refl)),
      )))
  target_rest zero x (Some arg) s close at front is same = let low = is.nested in absurd (omega (arith, low))
  target_rest (suc e) x (Some arg) s close at front is same =
      let ended : front ++ (symbol_item key.RightParen at ∷ symbol_item key.Semicolon close ∷ []) ≡ symbol_item key.LeftParen is.lead ∷ (is.part ++ (symbol_item key.RightParen is.close ∷ symbol_item key.RightParen at ∷ symbol_item key.Semicolon close ∷ [])) =
      ap (λ l. l ++ (symbol_item key.RightParen at ∷ symbol_item key.Semicolon close ∷ [])) is.text_is
      ∙ ap (λ l. symbol_item key.LeftParen is.lead ∷ l) (append_assoc is.part (symbol_item key.RightParen is.close ∷ []) (symbol_item key.RightParen at ∷ symbol_item key.Semicolon close ∷ [])) in
      inl (rw ended (symbol_then key.LeftParen (λ lead. Below (ArgTexts w x)) (suc e) s is.lead (is.part ++ (symbol_item key.RightParen is.close ∷ symbol_item key.RightParen at ∷ symbol_item key.Semicolon close ∷ [])) (
        arg,
        is.part,
        symbol_item key.RightParen is.close ∷ symbol_item key.RightParen at ∷ symbol_item key.Semicolon close ∷ [],
        refl,
        enclosed_is (suc e) arg front is,
        symbol_then key.RightParen (λ close d. IndexedTexts w x arg close (suc d)) e s is.close (symbol_item key.RightParen at ∷ symbol_item key.Semicolon close ∷ [])
            (inl (
              symbol_item key.RightParen at ∷ [],
              symbol_item key.Semicolon close ∷ [],
              refl,
              (at, refl),
              inl (symbol_then key.Semicolon (λ close. Is (SGet (of_name x (Some arg)) (from_to w.span close))) (suc e) s close [] (same, refl)),
            )),
      )))

  named_rest : (d : ℕ) (x : Word) (s : PStmt) (rest : List Item) → NameTexts w x d s rest → RestTexts w d s (word_item x ∷ rest)
  named_rest d x s rest is = inr (word_then (NameTexts w) d s x rest is)

  pub spelled_get : (d : ℕ) (s : PStmt) (text : List Item) → GetSpelled d s text → GetTexts d s text
  spelled_get d s text (t, close, m, same, from, get) =
      let (lead, rest, split, (front, shut, parted, target, (at, paren))) = after_key key.LeftParen (Target d t ▷ Key key.RightParen) m get in
      let end : List Item = symbol_item key.RightParen at ∷ symbol_item key.Semicolon close ∷ [] in
      let whole : text ≡ symbol_item key.LeftParen lead ∷ word_item t.name ∷ (target.back ++ end) =
      from ∙ ap (λ l. l ++ (symbol_item key.Semicolon close ∷ [])) (split ∙ ap (λ l. symbol_item key.LeftParen lead ∷ l) (parted ∙ ap (λ l. front ++ l) paren))
      ∙ ap (λ l. symbol_item key.LeftParen lead ∷ l) (append_assoc front (symbol_item key.RightParen at ∷ []) (symbol_item key.Semicolon close ∷ []) ∙ ap (λ l. l ++ end) target.text_is) in
      inl (rw whole (symbol_then key.LeftParen (λ lead. RestTexts w) d s lead (word_item t.name ∷ (target.back ++ end))
      (named_rest d t.name s (target.back ++ end) (target_rest d t.name t.index s close at target.back target.index same))))

  -- an index that begins with a name
  shut_index : (d : ℕ) (x : Word) (index : Option PExpr) (e a : PExpr) (s : PStmt) (back : List Item) → a ≡ e → levels a + 1 ≤ d → IndexTexts w a d s back → ShutTexts w (of_name x index) e d s back
  shut_index d x index e a s back same low (m, n, parted, paren, assign) =
      let is = ap levels same in
      (m, n, parted, paren, inr (omega (arith, low, is), subst (λ q. AssignTexts (of_name w (Some q)) d s n) same assign))

  -- nothing behind the name, or something that is no parenthesis
  name_end : (d : ℕ) (x : Word) (a : PExpr) (s : PStmt) (g back : List Item) → Below (FromTexts x) d a g → levels a + 1 ≤ d → Behind (EName x.name x.span) a g → IndexTexts w a d s back → NameTexts w x d s (g ++ back)
  name_end d x a s [] back is low behind end = inr (inl (shut_index d x None (EName x.name x.span) a s back (behind_nothing (EName x.name x.span) a behind) low end))
  name_end d x a s (k ∷ g) back is low behind end =
      let (apart, shut) = behind_apart (EName x.name x.span) a k g behind in
      inr (inr (record { k = k; more = g ++ back; text_is = refl; passes = rw apart.0 (rw shut refl); spells = (a, k ∷ g, back, refl, is, end) }))

  tick_there : (at : Span) → elsewhere (symbol_item key.Tick at) ≡ true
  unfolding same
  tick_there at = refl

  -- the same behind an index
  index_end : (e : ℕ) (x : Word) (arg a : PExpr) (close : Span) (s : PStmt) (g back : List Item) → levels a ≤ e → Behind (indexed x arg close) a g → IndexTexts w a (suc e) s back → IndexedTexts w x arg close (suc e) s (g ++ back)
  index_end e x arg a close s [] back low behind end = inl (shut_index (suc e) x (Some arg) (indexed x arg close) a s back (behind_nothing (indexed x arg close) a behind) (omega (arith, low)) end)
  index_end e x arg a close s (k ∷ g) back low behind end =
      let (apart, shut) = behind_apart (indexed x arg close) a k g behind in
      inr (record { k = k; more = g ++ back; text_is = refl; passes = rw shut refl; spells = (a, k ∷ g, back, refl, ((behind, omega arith), low), end) })

  parens_rest : (e : ℕ) (x : Word) (p a : PExpr) (s : PStmt) (f g back : List Item) → InParens (indexed x) e p f → levels a ≤ e → Behind p a g → IndexTexts w a (suc e) s back → NameTexts w x (suc e) s (f ++ (g ++ back))
  parens_rest e x p a s f g back lead_in low behind end =
      let (lead, more, from, content) = after_symbol key.LeftParen (λ lead. Below (Content (indexed x))) e p f lead_in in
      rw from (inner_rest e lead more content (omega arith)) where
        inner_rest : (n : ℕ) (lead : Span) (more : List Item) → Below (Content (indexed x)) n p more → n ≤ e → NameTexts w x (suc e) s (symbol_item key.LeftParen lead ∷ (more ++ (g ++ back)))
        inner_rest zero lead more never up = absurd never
        inner_rest (suc n) lead more content up =
            let (arg, part, close, split, spells, nested, same) = content_is (indexed x) n p more content in
            let whole : more ++ (g ++ back) ≡ part ++ (symbol_item key.RightParen close ∷ (g ++ back)) = ap (λ l. l ++ (g ++ back)) split ∙ append_assoc part (symbol_item key.RightParen close ∷ []) (g ++ back) in
            let under : levels arg ≤ e = omega (arith, nested, up) in
            rw whole (inl (symbol_then key.LeftParen (λ lead. Below (ArgTexts w x)) (suc e) s lead (part ++ (symbol_item key.RightParen close ∷ (g ++ back))) (
              arg,
              part,
              symbol_item key.RightParen close ∷ (g ++ back),
              refl,
              record { spells = spells; fits = omega arith; nested = under },
              symbol_then key.RightParen (λ close d. IndexedTexts w x arg close (suc d)) e s close (g ++ back) (index_end e x arg a close s g back low (subst (λ q. Behind q a g) same behind) end),
            )))

  index_rest : (e : ℕ) (x : Word) (a : PExpr) (s : PStmt) (more back : List Item) → IsExpr Logical e a (word_item x ∷ more) → IndexTexts w a (suc e) s back → NameTexts w x (suc e) s (more ++ back)
  index_rest e x a s more back is end =
      let (p, f, g, from, name, ((behind, high), low)) = spell_from e x a more is in
      let whole : more ++ back ≡ f ++ (g ++ back) = ap (λ l. l ++ back) from ∙ append_assoc f g back in
      rw whole (by_name p f g from name behind low) where
        by_name : (p : PExpr) (f g : List Item) → more ≡ f ++ g → NameRest x e p f → Behind p a g → levels a ≤ e → NameTexts w x (suc e) s (f ++ (g ++ back))
        by_name p f g from (inl parens) behind low = parens_rest e x p a s f g back parens low behind end
        by_name p f g from (inr (inl tick)) behind low =
            let (at, rest, ticked, attribute) = after_symbol key.Tick (λ tick. Then (One word) (AttributeRest x)) e p f tick in
            inr (inr (record {
              k = symbol_item key.Tick at;
              more = rest ++ (g ++ back);
              text_is = ap (λ l. l ++ (g ++ back)) ticked;
              passes = tick_there at;
              spells = (a, more, back, sym (ap (λ l. l ++ back) from ∙ append_assoc f g back), is, end);
            }))
        by_name p f g from (inr (inr (same, none))) behind low =
            rw none (name_end (suc e) x a s g back (subst (λ l. FromTexts x e a l) (from ∙ ap (λ l. l ++ g) none) is) (omega (arith, low)) (subst (λ q. Behind q a g) same behind) end)

  -- by the first item of the index
  operand_rest : (d : ℕ) (a : PExpr) (s : PStmt) (k : Item) (more back : List Item) → OperandTexts d a (k ∷ more) → IndexTexts w a d s back → RestTexts w d s (k ∷ (more ++ back))
  operand_rest zero a s k more back never end = absurd never
  operand_rest (suc e) a s k more back is end = ⊎_elim
      (λ none. inl (record { k = k; more = more ++ back; text_is = refl; passes = ap (λ m. not (is_some m)) none; spells = (a, k ∷ more, back, refl, is, end) }))
      (λ (x, some).
      let named = word_is k x some in
      rw named (named_rest (suc e) x s (more ++ back) (index_rest e x a s more back (subst (λ y. IsExpr Logical e a (y ∷ more)) named is) end)))
      (tested (word k))

  pub target_get : (d : ℕ) (s : PStmt) (text : List Item) → TargetThen w d s text → GetTexts d s text
  target_get d s text (None, back, rest, from, none, assign) = inr (subst (AssignTexts (of_name w None) d s) (sym (from ∙ ap (λ l. l ++ rest) none)) assign)
  target_get d s text (Some a, back, rest, from, is, assign) =
      let operand = enclosed_is d a back is in
      let (k, more, split, yes_is) = operand_begins d a is.part operand in
      let whole : text ≡ symbol_item key.LeftParen is.lead ∷ k ∷ (more ++ (symbol_item key.RightParen is.close ∷ rest)) =
      from ∙ ap (λ l. l ++ rest) is.text_is ∙ ap (λ l. symbol_item key.LeftParen is.lead ∷ l) (append_assoc is.part (symbol_item key.RightParen is.close ∷ []) rest ∙ ap (λ l. l ++ (symbol_item key.RightParen is.close ∷ rest)) split) in
      inl (rw whole (symbol_then key.LeftParen (λ lead. RestTexts w) d s is.lead (k ∷ (more ++ (symbol_item key.RightParen is.close ∷ rest)))
      (operand_rest d a s k more (symbol_item key.RightParen is.close ∷ rest) (subst (OperandTexts d a) split operand) (symbol_item key.RightParen is.close ∷ [], rest, refl, (is.close, refl), assign))))
