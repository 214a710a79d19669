-- How simple statements are read: behind a name by what follows it, and behind `exit`. At a depth d, at most d levels may stand below the statement.
use Rattle.std.specs.Prelude.{ℕ, ◌+◌, ◌==◌, nat_le, Bool, false, ◌||◌, List, [], ◌∷◌, Option, Some, None, codes, if◌then◌else◌}
use Rattle.ada_expr_parser.specs.readers.Readers.{Reader, pure, refuse, bind, on, token, below, look, too_deep}
use Rattle.ada_tree.specs.NameList.{predefined}
use Rattle.ada_tree.specs.declared.naming.Span.{Span}
use Rattle.ada_tree.specs.declared.naming.Word.{Word}
use Rattle.ada_tree.specs.PlainExpr.{PExpr, EName}
use Rattle.ada_tree.specs.PlainStmt.{PTarget, PPart, PValue, PStmt, SAssign, SExit, SCall, SPut, SPutLine, SNewLine, SGet}
use Rattle.ada_lexer.specs.declared.symbols.Symbol.TheVariants as key
use Rattle.ada_expr_parser.specs.declared.items.Item.{Item}
use Rattle.ada_expr_parser.specs.Tests.{symbol, word}
use Rattle.ada_expr_parser.specs.Trees.{levels, from_to, indexed}
use Rattle.ada_expr_parser.specs.Parts.{expression, expr_behind, target_rest, callee_of, call_rest}
use Rattle.ada_phrase_parser.specs.Spelling.{Source, id_of}
use Rattle.ada_phrase_parser.specs.Reading.{is_symbol, key_then, closed, more_behind, in_deeper, operand, goes_on_name, expression_from, string, part}

-- behind a variable or a task: an assignment or a call (5.2, 9.5)
abbrev pub assign_or_call : ℕ → PTarget → Reader Item PStmt
assign_or_call d t =
    below d (symbol key.Becomes) (λ e at. bind (expression e) (λ v. closed (λ close. SAssign t v (from_to t.name.span close))))
    (bind (call_rest d (callee_of t)) (λ c. closed (λ close. SCall c (from_to t.name.span close))))

-- behind `PUT (` and one part, which was no last one
abbrev pub put_more : Source → ℕ → (List PPart → Span → PStmt) → Word → PPart → Reader Item PStmt
put_more source d tree w first =
    bind (more_behind key.Ampersand (part source d)) (λ more. key_then key.RightParen (closed (λ close. tree (first ∷ more) (from_to w.span close))))

-- behind `PUT (` and an expression: a further part, the end of the statement, or a component or task
abbrev pub put_behind : Source → ℕ → (List PPart → Span → PStmt) → Word → PExpr → Reader Item PStmt
put_behind source d tree w e =
    look (is_symbol key.Ampersand) (put_more source d tree w (PValue e))
    (key_then key.RightParen (on (symbol key.Semicolon) (λ close. pure (tree (PValue e ∷ []) (from_to w.span close)))
    (assign_or_call d record { name = w; index = Some e })))

-- behind `PUT (`
abbrev pub put_rest : Source → ℕ → (List PPart → Span → PStmt) → Word → Reader Item PStmt
put_rest source d tree w = on (string source) (put_more source d tree w) (bind (operand d) (put_behind source d tree w))

-- behind `GET (` and an expression that is no variable: a component or a task
abbrev pub get_index : ℕ → Word → PExpr → Reader Item PStmt
get_index d w e = key_then key.RightParen (assign_or_call d record { name = w; index = Some e })

abbrev pub is_close : Item → Bool
is_close x = is_symbol key.RightParen x

abbrev pub goes_on_target : Item → Bool
goes_on_target x = is_symbol key.Dot x || is_symbol key.Becomes x

-- behind `GET (` and a variable and its parenthesis: the end of the statement, or what must have the variable as an index, if that is not too deep
abbrev pub get_or_index : ℕ → Word → PTarget → PExpr → Reader Item PStmt
get_or_index d w x e =
    on (symbol key.Semicolon) (λ close. pure (SGet x (from_to w.span close)))
    (λ ts. if nat_le (levels e + 1) d then assign_or_call d record { name = w; index = Some e } ts else look goes_on_target too_deep refuse ts)

-- behind `GET ( NAME ( expr )`
abbrev pub get_indexed : ℕ → Word → Word → PExpr → Span → Reader Item PStmt
get_indexed d w x arg close =
    look is_close (key_then key.RightParen (get_or_index d w record { name = x; index = Some arg } (indexed x arg close)))
    (bind (in_deeper d (λ y. false) (λ e. expr_behind e (indexed x arg close))) (get_index d w))

-- behind `GET ( NAME`
abbrev pub get_name : ℕ → Word → Word → Reader Item PStmt
get_name d w x =
    below d (symbol key.LeftParen) (λ e lead. bind (expression e) (λ arg. bind (token (symbol key.RightParen)) (get_indexed d w x arg)))
    (look is_close (key_then key.RightParen (get_or_index d w record { name = x; index = None } (EName x.name x.span)))
    (bind (in_deeper d goes_on_name (λ e. expression_from e x)) (get_index d w)))

-- behind `GET (`
abbrev pub get_rest : ℕ → Word → Reader Item PStmt
get_rest d w = on word (get_name d w) (bind (operand d) (get_index d w))

-- behind a name that is none of PUT, PUT_LINE, NEW_LINE and GET with what these have: a variable or a task
abbrev pub plain_rest : ℕ → Word → Reader Item PStmt
plain_rest d w = bind (target_rest d w) (assign_or_call d)

-- the name is this predefined one
abbrev pub is_predefined : List ℕ → Word → Bool
is_predefined t w = w.name.0 == id_of predefined t

abbrev pub word_rest : Source → ℕ → Word → Reader Item PStmt
word_rest source d w ts =
    if is_predefined (codes "PUT") w then on (symbol key.LeftParen) (λ lead. put_rest source d SPut w) (plain_rest d w) ts
    else (if is_predefined (codes "PUT_LINE") w then on (symbol key.LeftParen) (λ lead. put_rest source d SPutLine w) (plain_rest d w) ts
    else (if is_predefined (codes "NEW_LINE") w then on (symbol key.Semicolon) (λ close. pure (SNewLine (from_to w.span close))) (plain_rest d w) ts
    else (if is_predefined (codes "GET") w then on (symbol key.LeftParen) (λ lead. get_rest d w) (plain_rest d w) ts
    else plain_rest d w ts)))

-- the simple statements that begin with a reserved word
abbrev pub exit_rest : ℕ → Span → Option Word → Reader Item PStmt
exit_rest d lead name =
    below d (symbol key.When) (λ e at. bind (expression e) (λ test. closed (λ close. SExit name (Some test) (from_to lead close))))
    (closed (λ close. SExit name None (from_to lead close)))
