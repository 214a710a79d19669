-- How declarations are read: by the next item, and behind a name by what follows it. At a depth d, at most d levels may stand below the root of each expression.
use Rattle.std.specs.Prelude.{ℕ, ◌+◌, nat_le, true, false, List, [], ◌∷◌, Some, None, codes, if◌then◌else◌}
use Rattle.ada_expr_parser.specs.readers.Readers.{Reader, pure, refuse, bind, on, token, look, too_deep}
use Rattle.ada_tree.specs.declared.naming.Span.{Span}
use Rattle.ada_tree.specs.declared.naming.Word.{Word}
use Rattle.ada_tree.specs.PlainExpr.{PExpr, PSubind, PDrange}
use Rattle.ada_tree.specs.PlainDecl.{PShape, OPlain, OArray, PInit, IOne, IList, IOthers, PDecl, DNumber, DObject, DEnumeration, DArray, DSubtype, DException, DIntIo}
use Rattle.ada_lexer.specs.declared.symbols.Symbol.TheVariants as key
use Rattle.ada_expr_parser.specs.declared.items.Item.{Item}
use Rattle.ada_expr_parser.specs.Tests.{symbol, word}
use Rattle.ada_expr_parser.specs.Trees.{levels, from_to, in_parens}
use Rattle.ada_expr_parser.specs.Parts.{expression, expr_behind, subind, drange}
use Rattle.ada_phrase_parser.specs.Reading.{is_symbol, key_then, last_key, closed, more_behind, separated, with_id, predefined_word, predefined_then}

-- ---- shapes and initial values

-- behind `array`: `( drange ) of subind`, and what follows it (3.6)
abbrev pub array_then : {A : Type 0} → ℕ → (PDrange → PSubind → Reader Item A) → Reader Item A
array_then d next =
    key_then key.LeftParen (bind (drange d) (λ r. key_then key.RightParen (key_then key.Of (bind (subind d) (λ x. next r x)))))

-- `subind | array ( drange ) of subind` (3.2)
abbrev pub shape : ℕ → Reader Item PShape
shape d = on (symbol key.Array) (λ at. array_then d (λ r x. pure (OArray r x))) (bind (subind d) (λ x. pure (OPlain x)))

-- behind `( expr` and what was no comma: the parentheses stand for one level, and the expression may go on behind them
abbrev pub parens_rest : ℕ → Span → PExpr → Reader Item PInit
parens_rest d lead e ts =
    if nat_le (levels e + 1) d
    then bind (token (symbol key.RightParen)) (λ close. bind (expr_behind d (in_parens lead e close)) (λ whole. pure (IOne whole))) ts
    else look (is_symbol key.RightParen) too_deep refuse ts

-- behind `( expr`: further expressions, or the end of an expression in parentheses
abbrev pub list_or_parens : ℕ → Span → PExpr → Reader Item PInit
list_or_parens d lead e =
    look (is_symbol key.Comma)
    (bind (more_behind key.Comma (expression d)) (λ more. last_key key.RightParen (λ close. IList (e ∷ more) (from_to lead close))))
    (parens_rest d lead e)

-- behind `( others` (4.3.2)
abbrev pub others_init : ℕ → Span → Reader Item PInit
others_init d lead = key_then key.Arrow (bind (expression d) (λ e. last_key key.RightParen (λ close. IOthers e (from_to lead close))))

-- `expr | ( expr , expr {, expr} ) | ( others => expr )` (3.2.1, 4.3.2)
abbrev pub init : ℕ → Reader Item PInit
init d =
    on (symbol key.LeftParen) (λ lead. on (symbol key.Others) (λ at. others_init d lead) (bind (expression d) (list_or_parens d lead)))
    (bind (expression d) (λ e. pure (IOne e)))

-- ---- what begins with names

-- behind `NAME {, NAME} :`, a variable (3.2.1)
abbrev pub variable_rest : ℕ → Word → List Word → Reader Item PDecl
variable_rest d w more =
    bind (shape d) (λ x.
    on (symbol key.Becomes) (λ at. bind (init d) (λ i. closed (λ close. DObject (w ∷ more) false x (Some i) (from_to w.span close))))
    (closed (λ close. DObject (w ∷ more) false x None (from_to w.span close))))

-- behind `NAME {, NAME} : constant` (3.2.1)
abbrev pub constant_rest : ℕ → Word → List Word → Reader Item PDecl
constant_rest d w more =
    bind (shape d) (λ x. key_then key.Becomes (bind (init d) (λ i. closed (λ close. DObject (w ∷ more) true x (Some i) (from_to w.span close)))))

abbrev pub object_rest : ℕ → Word → List Word → Reader Item PDecl
object_rest d w more = on (symbol key.Constant) (λ at. constant_rest d w more) (variable_rest d w more)

-- behind `NAME {, NAME} : constant`: with one name it may be a number (3.2.2)
abbrev pub number_or_constant : ℕ → Word → List Word → Reader Item PDecl
number_or_constant d w [] =
    on (symbol key.Becomes) (λ at. bind (expression d) (λ e. closed (λ close. DNumber w e (from_to w.span close)))) (constant_rest d w [])
number_or_constant d w (v ∷ more) = constant_rest d w (v ∷ more)

-- behind `NAME {, NAME} :` (3.2, 11.1)
abbrev pub named_rest : ℕ → Word → List Word → Reader Item PDecl
named_rest d w more =
    on (symbol key.Exception) (λ at. closed (λ close. DException (w ∷ more) (from_to w.span close)))
    (on (symbol key.Constant) (λ at. number_or_constant d w more) (variable_rest d w more))

-- `{, NAME} :` behind a first name
abbrev pub names_behind : (Word → List Word → Reader Item PDecl) → Word → Reader Item PDecl
names_behind next w = bind (more_behind key.Comma (token word)) (λ more. key_then key.Colon (next w more))

-- an object alone (3.2.1)
abbrev pub object : ℕ → Reader Item PDecl
object d = bind (token word) (names_behind (object_rest d))

-- ---- types, subtypes and instances

-- behind `type NAME is` (3.5.1, 3.6)
abbrev pub type_rest : ℕ → Span → Word → Reader Item PDecl
type_rest d lead w =
    on (symbol key.LeftParen) (λ at. bind (separated key.Comma (token word)) (λ ws. key_then key.RightParen (closed (λ close. DEnumeration w ws (from_to lead close)))))
    (on (symbol key.Array) (λ at. array_then d (λ r x. closed (λ close. DArray w r x (from_to lead close)))) refuse)

-- behind `subtype NAME is` (3.3.2)
abbrev pub subtype_rest : ℕ → Span → Word → Reader Item PDecl
subtype_rest d lead w = bind (subind d) (λ x. closed (λ close. DSubtype w x (from_to lead close)))

-- behind `package NAME is new [TEXT_IO .]` (12.3, this project's form)
abbrev pub instance_rest : Span → Word → Reader Item PDecl
instance_rest lead w =
    predefined_then (codes "INTEGER_IO") (key_then key.LeftParen (predefined_then (codes "INTEGER") (key_then key.RightParen (key_then key.Semicolon
    (key_then key.Use (bind (token (with_id w.name.0)) (λ same. closed (λ close. DIntIo w (from_to lead close)))))))))

-- behind `package NAME is`
abbrev pub instance : Span → Word → Reader Item PDecl
instance lead w =
    key_then key.New (on (predefined_word (codes "TEXT_IO")) (λ at. key_then key.Dot (instance_rest lead w)) (instance_rest lead w))
