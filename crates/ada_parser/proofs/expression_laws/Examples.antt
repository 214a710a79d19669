-- What goes on behind a name that has been read, tried on small texts.
use Rattle.std.proofs.Common.{◌≡◌, ℕ, true, List, [], ◌∷◌, refl}
use Rattle.ada_expr_parser.specs.readers.Readers.{Found, Fault}
use Rattle.ada_tree.specs.declared.naming.Span.{Span}
use Rattle.ada_tree.specs.declared.expressions.BinaryOp.TheVariants.{Plus}
use Rattle.ada_tree.specs.PlainExpr.{PExpr, EInteger, EName, EBinary}
use Rattle.ada_lexer.specs.declared.symbols.Symbol.TheVariants as key
use Rattle.ada_expr_parser.specs.declared.items.Item.{Item}
use Rattle.ada_expr_parser.specs.Tests.{same, same_operator}
use Rattle.ada_expr_parser.specs.Parts.{expr_behind}
use Rattle.ada_expr_parser.specs.Grammar.{symbol_item, number_item}

abbrev at : ℕ → ℕ → Span
at first last = record { start = first; end = last }

abbrev name : PExpr
name = EName record { 0 = 25 } (at 0 1)

abbrev the_end : List Item
the_end = symbol_item key.Semicolon (at 5 6) ∷ []

-- `X + 1;` behind its name
abbrev sum : List Item
sum = symbol_item key.Plus (at 2 3) ∷ number_item 1 (at 4 5) ∷ the_end

sum_read : expr_behind 1 name sum ≡ Found (EBinary Plus name (EInteger 1 (at 4 5)) (at 0 5)) the_end
unfolding same same_operator
sum_read = refl

-- where no level is left, its operator is too deep
sum_deep : expr_behind 0 name sum ≡ Fault true sum
unfolding same same_operator
sum_deep = refl

-- nothing goes on with a semicolon
name_read : expr_behind 0 name the_end ≡ Found name the_end
unfolding same
name_read = refl
