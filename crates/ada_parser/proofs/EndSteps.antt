-- How the ends of units are read, with what their trees are made of.
use Rattle.std.proofs.Common.{◌≡◌, ℕ, List, refl, ap, ◌∙◌}
use Rattle.ada_expr_parser.specs.readers.Readers.{Reader, pure, go_on, bind, on, token}
use Rattle.ada_tree.specs.declared.naming.Span.{Span}
use Rattle.ada_tree.specs.declared.naming.Word.{Word}
use Rattle.ada_tree.specs.PlainStmt.{PBody}
use Rattle.ada_lexer.specs.declared.symbols.Symbol.TheVariants as key
use Rattle.ada_expr_parser.specs.declared.items.Item.{Item}
use Rattle.ada_expr_parser.specs.Tests.{symbol}
use Rattle.ada_phrase_parser.specs.Spelling.{Source}
use Rattle.ada_phrase_parser.specs.Reading.{closed, again, end_of}
use Rattle.ada_stmt_parser.specs.inner.ReadingStatements.{readers, body_rest}
use Rattle.ada_parser.specs.inner.ReadingDeclarativeParts.{unit_end}
use Rattle.ada_decl_parser.specs.inner.DeclViews.{with_close}
use Rattle.ada_decl_parser.proofs.DeclSteps.{through, through_on}

-- the statements of a unit or of a task's body are read by the body and its end
module _ {A : Type 0} (source : Source) (w : Word) (tree : PBody → Span → A) where
  abbrev made : PBody × Span → Reader Item A
  made x = pure (tree x.0 x.1)

  closed_is : (b : PBody) (ts : List Item) → closed (tree b) ts ≡ go_on (closed (with_close b) ts) made
  closed_is b ts = through (token (symbol key.Semicolon)) (λ close. pure (with_close b close)) made (λ close. pure (tree b close)) (λ close none. refl) ts

  ended_is : (b : PBody) (ts : List Item) → end_of w (tree b) ts ≡ go_on (end_of w (with_close b) ts) made
  ended_is b ts =
      through (token (symbol key.End)) (λ at. on (again w) (λ v. closed (with_close b)) (closed (with_close b))) made (λ at. on (again w) (λ v. closed (tree b)) (closed (tree b)))
      (λ at rest. through_on (again w) (λ v. closed (with_close b)) made (λ v. closed (tree b)) (closed (with_close b)) (closed (tree b)) (λ v more. closed_is b more) (λ more. closed_is b more) rest)
      ts

  pub unit_end_is : (d e : ℕ) (ts : List Item) → d ≡ e → unit_end source d w tree ts ≡ go_on (unit_end source e w with_close ts) (λ x. pure (tree x.0 x.1))
  unit_end_is d e ts is =
      ap (λ n. unit_end source n w tree ts) is
      ∙ through (token (symbol key.Begin)) (λ at. bind (body_rest e (readers source e)) (λ b. end_of w (with_close b))) made (λ at. bind (body_rest e (readers source e)) (λ b. end_of w (tree b)))
      (λ at rest. through (body_rest e (readers source e)) (λ b. end_of w (with_close b)) made (λ b. end_of w (tree b)) (λ b more. ended_is b more) rest)
      ts
