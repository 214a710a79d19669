-- Small statements that begin with PUT or GET, and what decides between what they may be.
use Rattle.std.proofs.Common.{◌≡◌, ℕ, ◌+◌, true, false, Some, None, List, [], ◌∷◌, ◌++◌, refl}
use Rattle.ada_expr_parser.specs.readers.Readers.{Found, Fault}
use Rattle.ada_tree.specs.NameList.{predefined}
use Rattle.ada_tree.specs.declared.naming.Span.{Span}
use Rattle.ada_tree.specs.declared.naming.Word.{Word}
use Rattle.ada_tree.specs.declared.expressions.BinaryOp.TheVariants.{Plus}
use Rattle.ada_tree.specs.PlainExpr.{PExpr, EInteger, EName, EIndex, EBinary}
use Rattle.ada_tree.specs.PlainStmt.{PWords, PValue, SAssign, SCall, SPut, SGet}
use Rattle.ada_lexer.specs.declared.symbols.Symbol.{Symbol}
use Rattle.ada_lexer.specs.declared.symbols.Symbol.TheVariants as key
use Rattle.ada_expr_parser.specs.declared.items.ItemKind.TheVariants as item
use Rattle.ada_expr_parser.specs.declared.items.Item.{Item}
use Rattle.ada_expr_parser.specs.Tests.{same, same_operator}
use Rattle.ada_expr_parser.specs.Grammar.{symbol_item, word_item, number_item}
use Rattle.ada_phrase_parser.specs.Spelling.{Source}
use Rattle.ada_simple_stmt_parser.specs.inner.ReadingSimple.{word_rest}

abbrev at : ℕ → ℕ → Span
at first last = record { start = first; end = last }

abbrev source : Source
source = record { bytes = []; names = predefined }

abbrev named : ℕ → ℕ → Word
named id first = record { name = record { 0 = id }; span = at first (first + 1) }

abbrev put : Word
put = named 14 0

abbrev get : Word
get = named 17 0

-- each item is one place wide, and the place is its number
abbrev mark : Symbol → ℕ → Item
mark s n = symbol_item s (at n (n + 1))

abbrev number_at : ℕ → ℕ → Item
number_at value n = number_item value (at n (n + 1))

abbrev name_at : ℕ → ℕ → Item
name_at id n = word_item (named id n)

abbrev the_end : List Item
the_end = record { kind = item.End; span = at 99 99 } ∷ []

-- `( X )`, of a variable or a part
abbrev in_parens : List Item
in_parens = mark key.LeftParen 1 ∷ name_at 25 2 ∷ mark key.RightParen 3 ∷ []

abbrev the_name : PExpr
the_name = EName record { 0 = 25 } (at 2 3)

-- `PUT(X);` writes
put_read : word_rest source 1 put (in_parens ++ (mark key.Semicolon 4 ∷ the_end)) ≡ Found (SPut (PValue the_name ∷ []) (at 0 5)) the_end
unfolding same same_operator
put_read = refl

-- `PUT(X & "a");` writes both
put_both : word_rest source 1 put (mark key.LeftParen 1 ∷ name_at 25 2 ∷ mark key.Ampersand 3 ∷ record { kind = item.Text; span = at 4 5 } ∷ mark key.RightParen 5 ∷ mark key.Semicolon 6 ∷ the_end) ≡
    Found (SPut (PValue the_name ∷ PWords [] (at 4 5) ∷ []) (at 0 7)) the_end
unfolding same same_operator
put_both = refl

-- `PUT(X) := 1;` is an assignment, and so is `PUT := 1;`
put_assigned : word_rest source 1 put (in_parens ++ (mark key.Becomes 4 ∷ number_at 1 5 ∷ mark key.Semicolon 6 ∷ the_end)) ≡
    Found (SAssign record { name = put; index = Some the_name } (EInteger 1 (at 5 6)) (at 0 7)) the_end
unfolding same same_operator
put_assigned = refl

put_alone : word_rest source 1 put (mark key.Becomes 1 ∷ number_at 1 2 ∷ mark key.Semicolon 3 ∷ the_end) ≡ Found (SAssign record { name = put; index = None } (EInteger 1 (at 2 3)) (at 0 4)) the_end
unfolding same same_operator
put_alone = refl

-- `PUT(X).E(Y);` is a call
put_called : word_rest source 1 put (in_parens ++ (mark key.Dot 4 ∷ name_at 27 5 ∷ mark key.LeftParen 6 ∷ name_at 26 7 ∷ mark key.RightParen 8 ∷ mark key.Semicolon 9 ∷ the_end)) ≡
    Found (SCall record {
      task = record { name = put; index = Some the_name };
      entry = named 27 5;
      args = Some record { first = EName record { 0 = 26 } (at 7 8) ∷ []; second = None };
    } (at 0 10)) the_end
unfolding same same_operator
put_called = refl

-- `GET(X);` reads a variable, with no level below it
get_read : word_rest source 0 get (in_parens ++ (mark key.Semicolon 4 ∷ the_end)) ≡ Found (SGet record { name = named 25 2; index = None } (at 0 5)) the_end
unfolding same same_operator
get_read = refl

-- `GET(X).` has X as an index, a level below
get_deep : word_rest source 0 get (in_parens ++ (mark key.Dot 4 ∷ the_end)) ≡ Fault true (mark key.Dot 4 ∷ the_end)
unfolding same same_operator
get_deep = refl

-- `( X ( 1 ) )`
abbrev with_index : List Item
with_index = mark key.LeftParen 1 ∷ name_at 25 2 ∷ mark key.LeftParen 3 ∷ number_at 1 4 ∷ mark key.RightParen 5 ∷ mark key.RightParen 6 ∷ []

-- `GET(X(1));` reads a component: its index is one level below the statement
get_component : word_rest source 1 get (with_index ++ (mark key.Semicolon 7 ∷ the_end)) ≡ Found (SGet record { name = named 25 2; index = Some (EInteger 1 (at 4 5)) } (at 0 8)) the_end
unfolding same same_operator
get_component = refl

-- `GET(X(1)) := 2;` has the component as an index, and so one level more
abbrev behind_component : List Item
behind_component = mark key.Becomes 7 ∷ number_at 2 8 ∷ mark key.Semicolon 9 ∷ the_end

get_assigned : word_rest source 2 get (with_index ++ behind_component) ≡
    Found (SAssign record { name = get; index = Some (EIndex (named 25 2) (EInteger 1 (at 4 5)) (at 2 6)) } (EInteger 2 (at 8 9)) (at 0 10)) the_end
unfolding same same_operator
get_assigned = refl

assigned_deep : word_rest source 1 get (with_index ++ behind_component) ≡ Fault true behind_component
unfolding same same_operator
assigned_deep = refl

-- `( X + 1 )`
abbrev the_sum : List Item
the_sum = mark key.LeftParen 1 ∷ name_at 25 2 ∷ mark key.Plus 3 ∷ number_at 1 4 ∷ mark key.RightParen 5 ∷ []

-- `GET(X + 1) := 2;` has a sum as an index
sum_assigned : word_rest source 2 get (the_sum ++ (mark key.Becomes 6 ∷ number_at 2 7 ∷ mark key.Semicolon 8 ∷ the_end)) ≡
    Found (SAssign record { name = get; index = Some (EBinary Plus the_name (EInteger 1 (at 4 5)) (at 2 5)) } (EInteger 2 (at 7 8)) (at 0 9)) the_end
unfolding same same_operator
sum_assigned = refl

-- `GET(X + 1);` reads nothing: its semicolon decides
sum_refused : word_rest source 2 get (the_sum ++ (mark key.Semicolon 6 ∷ the_end)) ≡ Fault false (mark key.Semicolon 6 ∷ the_end)
unfolding same same_operator
sum_refused = refl
