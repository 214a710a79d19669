-- How the pieces of tasks that the code reads fit together.
use Rattle.std.proofs.Common.{◌≡◌, ℕ, ◌≤◌, false, cond, List, [], ◌∷◌, None, length, get_or, codes, refl, sym, ap, ◌∙◌, arith}
use Rattle.ada_expr_parser.specs.readers.Readers.{Found, Reader, pure, refuse, go_on, bind, on_token, token}
use Rattle.ada_tree.specs.declared.naming.Span.{Span}
use Rattle.ada_tree.specs.declared.naming.Word.{Word}
use Rattle.ada_tree.specs.PlainExpr.{PExpr}
use Rattle.ada_lexer.specs.declared.symbols.Symbol.TheVariants as key
use Rattle.ada_lexer.specs.declared.symbols.Symbol.{Symbol}
use Rattle.ada_expr_parser.specs.declared.items.ItemKind.{ItemKind}
use Rattle.ada_expr_parser.specs.declared.items.ItemKind.TheVariants as item
use Rattle.ada_expr_parser.specs.declared.items.Item.{Item}
use Rattle.ada_expr_parser.specs.Grammar.{word_item}
use Rattle.ada_expr_parser.specs.Tests.{word, word_in, symbol}
use Rattle.ada_expr_parser.specs.Parts.{drange, expression}
use Rattle.ada_phrase_parser.specs.Spelling.{Source, id_of}
use Rattle.ada_phrase_parser.specs.Reading.{key_then, closed, formals_from, behind_index, is_formal_mark, with_id}
use Rattle.ada_decl_parser.proofs.DeclSteps.{through}
use Rattle.ada_task_parser.specs.inner.ReadingTasks.{entry_name, drange_from, priority}
use Rattle.ada_task_parser.specs.inner.TaskViews.{priority_by}
use Rattle.ada_decl_parser.specs.inner.DeclViews.{with_close}

-- a pragma PRIORITY is read by its expression and its end
module _ {A : Type 0} (source : Source) (d : ℕ) (tree : PExpr → Span → A) where
  abbrev whole : PExpr × Span → Reader Item A
  whole x = pure (tree x.0 x.1)

  abbrev end : {B : Type 0} → (PExpr → Span → B) → PExpr → Reader Item B
  end made e = key_then key.RightParen (closed (λ close. made e close))

  abbrev inside : {B : Type 0} → (PExpr → Span → B) → Reader Item B
  inside made = bind (expression d) (λ e. end made e)

  end_is : (e : PExpr) (ts : List Item) → end tree e ts ≡ go_on (end with_close e ts) whole
  end_is e ts =
      through (token (symbol key.RightParen)) (λ at. closed (λ close. with_close e close)) whole (λ at. closed (λ close. tree e close))
      (λ at rest. through (token (symbol key.Semicolon)) (λ close. pure (with_close e close)) whole (λ close. pure (tree e close)) (λ close none. refl) rest)
      ts

  inside_is : (ts : List Item) → inside tree ts ≡ go_on (inside with_close ts) whole
  inside_is ts = through (expression d) (λ e. end with_close e) whole (λ e. end tree e) (λ e rest. end_is e rest) ts

  pub priority_is : (id : ℕ) (ts : List Item) → id ≡ id_of source.names (codes "PRIORITY") → priority source d tree ts ≡ go_on (priority_by id d with_close ts) (λ x. pure (tree x.0 x.1))
  priority_is id ts is =
      ap (λ i. priority_by i d tree ts) (sym is)
      ∙ through (token (with_id id)) (λ w. key_then key.LeftParen (inside with_close)) whole (λ w. key_then key.LeftParen (inside tree))
      (λ w rest. through (token (symbol key.LeftParen)) (λ at. inside with_close) whole (λ at. inside tree) (λ at more. inside_is more) rest)
      ts

-- the item that a name is
item_is : (k : ItemKind) (s : Span) (w : Word) (xs rest : List Item) → on_token (word_in k s) pure refuse record { kind = k; span = s } xs ≡ Found w rest → record { kind = k; span = s } ∷ xs ≡ word_item w ∷ rest
item_is (item.Name id) s w xs rest is = cc
item_is (item.Symbol t) s w xs rest is = cc
item_is (item.Integer n) s w xs rest is = cc
item_is (item.Duration n) s w xs rest is = cc
item_is item.Text s w xs rest is = cc
item_is item.End s w xs rest is = cc

pub word_is : (ts rest : List Item) (w : Word) → token word ts ≡ Found w rest → ts ≡ word_item w ∷ rest
word_is [] rest w is = cc
word_is (x ∷ xs) rest w is = item_is x.kind x.span w xs rest is

-- a name behind `entry NAME (` that begins a range
pub entry_is :
    (d : ℕ) (w : Word) (ts rest : List Item) (dummy : Item) → token word ts ≡ Found w rest → 1 ≤ length rest → is_formal_mark (get_or rest 0 dummy) ≡ false →
    bind (token word) (entry_name d) ts ≡ go_on (drange d ts) behind_index
entry_is d w ts [] dummy named some mark = absurd (omega arith)
entry_is d w ts (x ∷ xs) dummy named some mark =
    ap (λ r. go_on r (entry_name d)) named
    ∙ ap (λ b. cond b (bind (formals_from w) (λ fs. pure record { index = None; formals = fs }) (x ∷ xs)) (go_on (drange_from d w (x ∷ xs)) behind_index)) mark
    ∙ ap (λ l. go_on (drange d l) behind_index) (sym (word_is ts (x ∷ xs) w named))
