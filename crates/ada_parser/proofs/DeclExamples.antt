-- Small declarations by which their readers can be tried.
use Rattle.std.proofs.Common.{◌≡◌, ℕ, ◌+◌, true, false, None, Some, List, [], ◌∷◌, refl}
use Rattle.ada_expr_parser.specs.readers.Readers.{Found, Fault}
use Rattle.ada_tree.specs.NameList.{predefined}
use Rattle.ada_tree.specs.declared.naming.Span.{Span}
use Rattle.ada_tree.specs.declared.naming.Word.{Word}
use Rattle.ada_tree.specs.declared.expressions.BinaryOp.TheVariants.{Plus}
use Rattle.ada_tree.specs.declared.statements.ParMode.TheVariants.{Take}
use Rattle.ada_tree.specs.PlainExpr.{EInteger, EParen, EBinary, RGiven, RMarked}
use Rattle.ada_tree.specs.PlainStmt.{PFormal, SNull, no_stmt, stmt_then, body, no_handler}
use Rattle.ada_tree.specs.PlainDecl.{IOne, IList, IOthers, OPlain, DNumber, DObject, DIntIo, DTask, DTaskBody, no_decl}
use Rattle.ada_lexer.specs.declared.symbols.Symbol.TheVariants as key
use Rattle.ada_expr_parser.specs.declared.items.ItemKind.TheVariants as item
use Rattle.ada_expr_parser.specs.declared.items.Item.{Item}
use Rattle.ada_expr_parser.specs.Tests.{same}
use Rattle.ada_expr_parser.specs.Grammar.{symbol_item, word_item, number_item}
use Rattle.ada_phrase_parser.specs.Spelling.{Source}
use Rattle.ada_decl_parser.specs.inner.ReadingDeclarations.{init}
use Rattle.ada_task_parser.specs.inner.ReadingTasks.{entry_rest}
use Rattle.ada_parser.specs.inner.ReadingDeclarativeParts.{decl, decl_list}
use Rattle.ada_parser.specs.inner.ReadingUnits.{text}

abbrev at : ℕ → ℕ → Span
at first last = record { start = first; end = last }

abbrev source : Source
source = record { bytes = []; names = predefined }

abbrev named : ℕ → ℕ → Word
named id first = record { name = record { 0 = id }; span = at first (first + 1) }

abbrev the_end : List Item
the_end = record { kind = item.End; span = at 99 99 } ∷ []

-- `(1`, and what may follow it
abbrev opened : List Item → List Item
opened rest = symbol_item key.LeftParen (at 0 1) ∷ number_item 1 (at 1 2) ∷ rest

abbrev closing : List Item
closing = symbol_item key.RightParen (at 9 10) ∷ the_end

-- `(1)` needs a level below its root
parens_read : init 1 (opened closing) ≡ Found (IOne (EParen (EInteger 1 (at 1 2)) (at 0 10))) the_end
unfolding same
parens_read = refl

parens_deep : init 0 (opened closing) ≡ Fault true closing
unfolding same
parens_deep = refl

-- `(1, 2)` and `(others => 1)` do not
list_read : init 0 (opened (symbol_item key.Comma (at 2 3) ∷ number_item 2 (at 4 5) ∷ closing)) ≡ Found (IList (EInteger 1 (at 1 2) ∷ EInteger 2 (at 4 5) ∷ []) (at 0 10)) the_end
unfolding same
list_read = refl

others_read : init 0 (symbol_item key.LeftParen (at 0 1) ∷ symbol_item key.Others (at 1 7) ∷ symbol_item key.Arrow (at 7 9) ∷ number_item 1 (at 9 10) ∷ closing) ≡ Found (IOthers (EInteger 1 (at 9 10)) (at 0 10)) the_end
unfolding same
others_read = refl

-- `(1) + 2`
sum_read : init 2 (opened (symbol_item key.RightParen (at 2 3) ∷ symbol_item key.Plus (at 4 5) ∷ number_item 2 (at 6 7) ∷ the_end)) ≡
    Found (IOne (EBinary Plus (EParen (EInteger 1 (at 1 2)) (at 0 3)) (EInteger 2 (at 6 7)) (at 0 7))) the_end
unfolding same
sum_read = refl

-- `(1;` is no text of any depth
semicolon_refused : init 0 (opened (symbol_item key.Semicolon (at 2 3) ∷ the_end)) ≡ Fault false (symbol_item key.Semicolon (at 2 3) ∷ the_end)
unfolding same
semicolon_refused = refl

abbrev semicolon : Item
semicolon = symbol_item key.Semicolon (at 20 21)

-- `N : constant := 1;` and `N : constant T := 1;`
number_read : decl source 0 (word_item (named 25 0) ∷ symbol_item key.Colon (at 2 3) ∷ symbol_item key.Constant (at 4 12) ∷ symbol_item key.Becomes (at 13 15) ∷ number_item 1 (at 16 17) ∷ semicolon ∷ the_end) ≡
    Found (DNumber (named 25 0) (EInteger 1 (at 16 17)) (at 0 21)) the_end
unfolding same
number_read = refl

constant_read : decl source 0 (word_item (named 25 0) ∷ symbol_item key.Colon (at 2 3) ∷ symbol_item key.Constant (at 4 12) ∷ word_item (named 0 13) ∷ symbol_item key.Becomes (at 15 17) ∷ number_item 1 (at 18 19) ∷ semicolon ∷ the_end) ≡
    Found (DObject (named 25 0 ∷ []) true (OPlain record { mark = named 0 13; bounds = None }) (Some (IOne (EInteger 1 (at 18 19)))) (at 0 21)) the_end
unfolding same
constant_read = refl

-- `A, B : constant :=` is refused at its `:=`
abbrev behind_constant : List Item
behind_constant = symbol_item key.Becomes (at 13 15) ∷ number_item 1 (at 16 17) ∷ semicolon ∷ the_end

numbers_refused : decl source 0 (word_item (named 25 0) ∷ symbol_item key.Comma (at 1 2) ∷ word_item (named 26 2) ∷ symbol_item key.Colon (at 3 4) ∷ symbol_item key.Constant (at 4 12) ∷ behind_constant) ≡ Fault false behind_constant
unfolding same
numbers_refused = refl

-- `task T is end T;` and `task T;`
abbrev no_task : List Item → List Item
no_task rest = symbol_item key.Task (at 0 4) ∷ word_item (named 25 5) ∷ rest

task_read : decl source 0 (no_task (symbol_item key.Is (at 7 9) ∷ symbol_item key.End (at 10 13) ∷ word_item (named 25 14) ∷ semicolon ∷ the_end)) ≡
    Found (DTask record { name = named 25 5; of_kind = false; entries = []; priorities = [] } (at 0 21)) the_end
unfolding same
task_read = refl

short_task_read : decl source 0 (no_task (semicolon ∷ the_end)) ≡ Found (DTask record { name = named 25 5; of_kind = false; entries = []; priorities = [] } (at 0 21)) the_end
unfolding same
short_task_read = refl

-- `task body T is begin null; end;`, and behind it no exception
abbrev task_body : List Item → List Item
task_body rest =
    symbol_item key.Task (at 0 4) ∷ symbol_item key.Body (at 5 9) ∷ word_item (named 25 10) ∷ symbol_item key.Is (at 11 13) ∷ symbol_item key.Begin (at 14 15)
    ∷ symbol_item key.Null (at 16 17) ∷ symbol_item key.Semicolon (at 17 18) ∷ symbol_item key.End (at 18 19) ∷ semicolon ∷ rest

abbrev an_exception : List Item
an_exception = word_item (named 26 30) ∷ symbol_item key.Colon (at 31 32) ∷ symbol_item key.Exception (at 33 34) ∷ semicolon ∷ the_end

bodies_read : decl_list source 0 false (task_body an_exception) ≡ Found (DTaskBody (named 25 10) no_decl (body (stmt_then (SNull (at 16 18)) no_stmt) no_handler) (at 0 21) ∷ []) an_exception
unfolding same
bodies_read = refl

-- `entry E (1 .. 2) (X : T);`, `entry E (N);` and `entry E (N : T);`
abbrev name_read : List Item → List Item
name_read rest = word_item (named 25 6) ∷ symbol_item key.LeftParen (at 8 9) ∷ rest

abbrev a_formal : PFormal
a_formal = record { names = named 26 13 ∷ []; mode = Take; mark = named 0 15 }

abbrev formal_items : List Item
formal_items = word_item (named 26 13) ∷ symbol_item key.Colon (at 14 15) ∷ word_item (named 0 15) ∷ symbol_item key.RightParen (at 16 17) ∷ semicolon ∷ the_end

family_read : entry_rest 0 (at 0 5) (name_read (number_item 1 (at 9 10) ∷ symbol_item key.DotDot (at 10 11) ∷ number_item 2 (at 11 12) ∷ symbol_item key.RightParen (at 12 13) ∷ symbol_item key.LeftParen (at 12 13) ∷ formal_items)) ≡
    Found (record { name = named 25 6; family = Some (RGiven (record { first = EInteger 1 (at 9 10); last = EInteger 2 (at 11 12) })); formals = a_formal ∷ []; span = at 0 21 }) the_end
unfolding same
family_read = refl

marked_read : entry_rest 0 (at 0 5) (name_read (word_item (named 1 9) ∷ symbol_item key.RightParen (at 10 11) ∷ semicolon ∷ the_end)) ≡
    Found (record { name = named 25 6; family = Some (RMarked (record { mark = named 1 9; bounds = None })); formals = []; span = at 0 21 }) the_end
unfolding same
marked_read = refl

formals_read : entry_rest 0 (at 0 5) (name_read formal_items) ≡ Found (record { name = named 25 6; family = None; formals = a_formal ∷ []; span = at 0 21 }) the_end
unfolding same
formals_read = refl

-- an index in a range is one level deeper: `entry E (N (1) .. 2);` where none is left
abbrev indexed_mark : List Item
indexed_mark = symbol_item key.LeftParen (at 10 11) ∷ number_item 1 (at 11 12) ∷ symbol_item key.RightParen (at 12 13) ∷ symbol_item key.DotDot (at 13 15) ∷ number_item 2 (at 15 16) ∷ symbol_item key.RightParen (at 16 17) ∷ semicolon ∷ the_end

index_deep : entry_rest 0 (at 0 5) (name_read (word_item (named 26 9) ∷ indexed_mark)) ≡ Fault true indexed_mark
unfolding same
index_deep = refl

-- `package P is new INTEGER_IO (INTEGER); use P;`, and with another name behind `use`
abbrev instance_items : Item → List Item
instance_items used =
    symbol_item key.Package (at 0 1) ∷ word_item (named 25 2) ∷ symbol_item key.Is (at 3 4) ∷ symbol_item key.New (at 4 5) ∷ word_item (named 13 5) ∷ symbol_item key.LeftParen (at 6 7)
    ∷ word_item (named 0 7) ∷ symbol_item key.RightParen (at 8 9) ∷ symbol_item key.Semicolon (at 9 10) ∷ symbol_item key.Use (at 10 11) ∷ used ∷ semicolon ∷ the_end

instance_read : decl source 0 (instance_items (word_item (named 25 12))) ≡ Found (DIntIo (named 25 2) (at 0 21)) the_end
unfolding same
instance_read = refl

other_refused : decl source 0 (instance_items (word_item (named 26 12))) ≡ Fault false (word_item (named 26 12) ∷ semicolon ∷ the_end)
unfolding same
other_refused = refl

-- `with TEXT_IO; use TEXT_IO; procedure P is begin null; end;`
unit_read : text source (
    symbol_item key.With (at 0 1) ∷ word_item (named 12 1) ∷ symbol_item key.Semicolon (at 2 3) ∷ symbol_item key.Use (at 3 4) ∷ word_item (named 12 4) ∷ symbol_item key.Semicolon (at 5 6)
    ∷ symbol_item key.Procedure (at 6 7) ∷ word_item (named 25 7) ∷ symbol_item key.Is (at 11 13) ∷ symbol_item key.Begin (at 14 15)
    ∷ symbol_item key.Null (at 16 17) ∷ symbol_item key.Semicolon (at 17 18) ∷ symbol_item key.End (at 18 19) ∷ semicolon ∷ the_end) ≡
    Found (record { text_io = true; name = named 25 7; decls = no_decl; body = body (stmt_then (SNull (at 16 18)) no_stmt) no_handler }) the_end
unfolding same
unit_read = refl
