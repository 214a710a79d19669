-- Small texts by which the grammar can be tried.
use Rattle.std.proofs.Common.{◌≡◌, ℕ, true, false, None, codes, List, [], ◌∷◌, refl, inr, ap, arith}
use Rattle.ada_tree.specs.NameList.{predefined}
use Rattle.ada_tree.specs.declared.naming.Span.{Span}
use Rattle.ada_tree.specs.declared.naming.Word.{Word}
use Rattle.ada_tree.specs.PlainExpr.{PExpr, EInteger}
use Rattle.ada_tree.specs.PlainStmt.{PStmt, SNull, SAssign, SLoop, SWait, no_stmt, stmt_then, absent, alternative, ATerminate, alt_then, no_alt, body, no_handler}
use Rattle.ada_tree.specs.PlainDecl.{PDecl, PEntry, DException, DTaskBody, OPlain, no_decl, decl_then}
use Rattle.ada_lexer.specs.declared.symbols.Symbol.TheVariants as key
use Rattle.ada_expr_parser.specs.declared.items.ItemKind.TheVariants as item
use Rattle.ada_expr_parser.specs.declared.items.Item.{Item}
use Rattle.ada_expr_parser.specs.Grammar.{symbol_item, word_item}
use Rattle.ada_phrase_parser.specs.Spelling.{Source, id_of, StringAt}
use Rattle.ada_stmt_parser.specs.Statements.{IsStmt}
use Rattle.ada_task_parser.specs.Tasks.{MEntry, MPriority, priorities_in}
use Rattle.ada_parser.specs.Declarations.{IsObject}
use Rattle.ada_tree.specs.WellPlaced.{BodiesLast}
use Rattle.ada_parser.specs.Units.{Units}

abbrev at : ℕ → ℕ → Span
at first last = record { start = first; end = last }

-- a text of these bytes, with predefined names alone
abbrev of_bytes : List ℕ → Source
of_bytes bytes = record { bytes = bytes; names = predefined }

abbrev source : Source
source = of_bytes []

-- the ids of two predefined names, and that of PRIORITY where no text has it yet
ids_are : (id_of predefined (codes "INTEGER") ≡ 0) × (id_of predefined (codes "PUT") ≡ 14) × (id_of predefined (codes "PRIORITY") ≡ 25)
ids_are = (refl, refl, refl)

-- `null;`
abbrev null_item : Item
null_item = symbol_item key.Null (at 16 20)

abbrev semicolon : Span → Item
semicolon s = symbol_item key.Semicolon s

abbrev null_text : List Item
null_text = null_item ∷ semicolon (at 20 21) ∷ []

abbrev null_stmt : PStmt
null_stmt = SNull (at 16 21)

null_is : (d : ℕ) → IsStmt source d null_stmt null_text
null_is d = ((null_item ∷ [], semicolon (at 20 21) ∷ [], refl, (at 16 20, refl), (at 20 21, refl)), refl)

abbrev end_of : Span → ℕ
end_of s = s.end

-- its place is that of its first item to that of its last
misplaced : (d : ℕ) → IsStmt source d (SNull (at 16 20)) null_text → ⊥
misplaced d (text, place) = let ends : end_of (at 16 20) ≡ end_of (at 16 21) = ap end_of place in omega arith

-- `procedure P is begin null; end P;`
abbrev p : Span → Word
p s = record { name = record { 0 = 25 }; span = s }

abbrev end_items : List Item
end_items = symbol_item key.End (at 22 25) ∷ word_item (p (at 26 27)) ∷ semicolon (at 27 28) ∷ []

abbrev body_items : List Item
body_items = symbol_item key.Begin (at 15 16) ∷ null_item ∷ semicolon (at 20 21) ∷ end_items

abbrev unit_items : List Item
unit_items = symbol_item key.Procedure (at 0 9) ∷ word_item (p (at 10 11)) ∷ symbol_item key.Is (at 12 14) ∷ body_items

unit_is : Units source 0 record { text_io = false; name = p (at 10 11); decls = no_decl; body = body (stmt_then null_stmt no_stmt) no_handler } unit_items
unit_is = (
  [],
  unit_items,
  refl,
  refl,
  (
    symbol_item key.Procedure (at 0 9) ∷ [],
    word_item (p (at 10 11)) ∷ symbol_item key.Is (at 12 14) ∷ body_items,
    refl,
    (at 0 9, refl),
    (
      word_item (p (at 10 11)) ∷ [],
      symbol_item key.Is (at 12 14) ∷ body_items,
      refl,
      refl,
      (
        symbol_item key.Is (at 12 14) ∷ [],
        body_items,
        refl,
        (at 12 14, refl),
        (
          [],
          body_items,
          refl,
          (tt, refl),
          (
            symbol_item key.Begin (at 15 16) ∷ null_text,
            end_items,
            refl,
            (
              tt,
              (
                symbol_item key.Begin (at 15 16) ∷ [],
                null_text,
                refl,
                (at 15 16, refl),
                (null_text, [], refl, (null_text, [], refl, null_is 1, refl), refl),
              ),
            ),
            (
              symbol_item key.End (at 22 25) ∷ [],
              word_item (p (at 26 27)) ∷ semicolon (at 27 28) ∷ [],
              refl,
              (at 22 25, refl),
              (word_item (p (at 26 27)) ∷ [], semicolon (at 27 28) ∷ [], refl, inr (at 26 27, refl), (at 27 28, refl)),
            ),
          ),
        ),
      ),
    ),
  ),
)

-- nothing that has an expression, and no compound statement, stands where no level is left
no_assignment : (text : List Item) → IsStmt source 0 (SAssign record { name = p (at 0 1); index = None } (EInteger 1 (at 5 6)) (at 0 7)) text → ⊥
no_assignment text ((front, back, is, target, (front', back', is', becomes, (front'', back'', is'', operand, last))), place) = operand

no_loop : (text : List Item) → IsStmt source 0 (SLoop None None (stmt_then null_stmt no_stmt) (at 0 9)) text → ⊥
no_loop text ((front, back, is, name, (front', back', is', inner, more)), place) = inner

-- an alternative `terminate` counts nothing inside itself: its select may have one level below it
abbrev select_text : List Item
select_text =
    symbol_item key.Select (at 0 6) ∷ symbol_item key.Terminate (at 7 16) ∷ semicolon (at 16 17) ∷ symbol_item key.End (at 18 21)
    ∷ symbol_item key.Select (at 22 28) ∷ semicolon (at 28 29) ∷ []

terminate_is : IsStmt source 1 (SWait (alt_then (alternative None ATerminate (at 7 17)) no_alt) absent (at 0 29)) select_text
terminate_is = (
  (
    symbol_item key.Select (at 0 6) ∷ [],
    symbol_item key.Terminate (at 7 16) ∷ semicolon (at 16 17) ∷ symbol_item key.End (at 18 21) ∷ symbol_item key.Select (at 22 28) ∷ semicolon (at 28 29) ∷ [],
    refl,
    (at 0 6, refl),
    (
      symbol_item key.Terminate (at 7 16) ∷ semicolon (at 16 17) ∷ [],
      symbol_item key.End (at 18 21) ∷ symbol_item key.Select (at 22 28) ∷ semicolon (at 28 29) ∷ [],
      refl,
      (
        symbol_item key.Terminate (at 7 16) ∷ semicolon (at 16 17) ∷ [],
        [],
        refl,
        (
          symbol_item key.Terminate (at 7 16) ∷ semicolon (at 16 17) ∷ [],
          [],
          refl,
          (
            (
              [],
              symbol_item key.Terminate (at 7 16) ∷ semicolon (at 16 17) ∷ [],
              refl,
              refl,
              (symbol_item key.Terminate (at 7 16) ∷ [], semicolon (at 16 17) ∷ [], refl, (at 7 16, refl), (at 16 17, refl)),
            ),
            refl,
          ),
          refl,
        ),
        refl,
      ),
      (
        symbol_item key.End (at 18 21) ∷ [],
        symbol_item key.Select (at 22 28) ∷ semicolon (at 28 29) ∷ [],
        refl,
        (at 18 21, refl),
        (symbol_item key.Select (at 22 28) ∷ [], semicolon (at 28 29) ∷ [], refl, (at 22 28, refl), (at 28 29, refl)),
      ),
    ),
  ),
  refl,
)

-- what the string `"A""B"` says
string_is : StringAt (of_bytes (34 ∷ 65 ∷ 34 ∷ 34 ∷ 66 ∷ 34 ∷ [])) (codes "A\"B") (at 0 6) (record { kind = item.Text; span = at 0 6 } ∷ [])
string_is = (refl, refl, refl)

-- a constant has an initial value
no_value : (text : List Item) → IsObject 0 true (OPlain record { mark = p (at 0 1); bounds = None }) None text → ⊥
no_value text none = none

-- an exception is declared before the first body
abbrev task_body : PDecl
task_body = DTaskBody (p (at 0 1)) no_decl (body (stmt_then null_stmt no_stmt) no_handler) (at 0 1)

abbrev exception : PDecl
exception = DException (p (at 0 1) ∷ []) (at 0 1)

exception_first : BodiesLast (decl_then exception (decl_then task_body no_decl))
exception_first = tt

exception_behind : BodiesLast (decl_then task_body (decl_then exception no_decl)) → ⊥
exception_behind h = h.0

-- a pragma has the number of the entries before it
priorities_are : (e : PExpr) (x : PEntry) → priorities_in 0 (MEntry x ∷ MPriority e ∷ MEntry x ∷ []) ≡ record { place = 1; value = e } ∷ []
priorities_are e x = refl
