-- Small statements by which the readers can be tried.
use Rattle.std.proofs.Common.{◌≡◌, ℕ, ◌+◌, true, None, List, [], ◌∷◌, refl}
use Rattle.ada_expr_parser.specs.readers.Readers.{Found, Fault}
use Rattle.ada_tree.specs.NameList.{predefined}
use Rattle.ada_tree.specs.declared.naming.Span.{Span}
use Rattle.ada_tree.specs.declared.naming.Word.{Word}
use Rattle.ada_tree.specs.PlainExpr.{EInteger}
use Rattle.ada_tree.specs.PlainStmt.{SNull, SAssign, SGet}
use Rattle.ada_lexer.specs.declared.symbols.Symbol.TheVariants as key
use Rattle.ada_expr_parser.specs.declared.items.ItemKind.TheVariants as item
use Rattle.ada_expr_parser.specs.declared.items.Item.{Item}
use Rattle.ada_expr_parser.specs.Tests.{same}
use Rattle.ada_expr_parser.specs.Grammar.{symbol_item, word_item, number_item}
use Rattle.ada_phrase_parser.specs.Spelling.{Source}
use Rattle.ada_stmt_parser.specs.inner.ReadingStatements.{readers}

abbrev at : ℕ → ℕ → Span
at first last = record { start = first; end = last }

abbrev source : Source
source = record { bytes = []; names = predefined }

abbrev named : ℕ → ℕ → Word
named id first = record { name = record { 0 = id }; span = at first (first + 1) }

abbrev the_end : List Item
the_end = record { kind = item.End; span = at 9 9 } ∷ []

-- `null;`
null_read : (readers source 0).stmt (symbol_item key.Null (at 0 4) ∷ symbol_item key.Semicolon (at 4 5) ∷ the_end) ≡ Found (SNull (at 0 5)) the_end
unfolding same
null_read = refl

-- `X := 1;` has a level below it, and where none is left its `:=` is too deep
abbrev behind_name : List Item
behind_name = symbol_item key.Becomes (at 2 4) ∷ number_item 1 (at 5 6) ∷ symbol_item key.Semicolon (at 6 7) ∷ the_end

assignment_read : (readers source 1).stmt (word_item (named 25 0) ∷ behind_name) ≡ Found (SAssign record { name = named 25 0; index = None } (EInteger 1 (at 5 6)) (at 0 7)) the_end
unfolding same
assignment_read = refl

assignment_deep : (readers source 0).stmt (word_item (named 25 0) ∷ behind_name) ≡ Fault true behind_name
unfolding same
assignment_deep = refl

-- `GET(X);`
get_read : (readers source 0).stmt (word_item (named 17 0) ∷ symbol_item key.LeftParen (at 3 4) ∷ word_item (named 25 4) ∷ symbol_item key.RightParen (at 5 6) ∷ symbol_item key.Semicolon (at 6 7) ∷ the_end) ≡ Found (SGet record { name = named 25 4; index = None } (at 0 7)) the_end
unfolding same
get_read = refl
