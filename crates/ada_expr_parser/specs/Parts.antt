-- How what is built of expressions is read: ranges, variables and components, entry calls and choices.
use Rattle.std.specs.Prelude.{ℕ, ◌+◌, nat_le, Bool, Option, Some, None, List, ◌∷◌, is_some, if◌then◌else◌}
use Rattle.ada_expr_parser.specs.readers.Readers.{Reader, pure, refuse, bind, on, token, below, items, chain_in}
use Rattle.ada_tree.specs.declared.naming.Word.{Word}
use Rattle.ada_tree.specs.PlainExpr.{PExpr, EName, PBounds, PSubind, PDrange, RGiven, RMarked}
use Rattle.ada_tree.specs.PlainStmt.{PTarget, PCallee, PArgs, PCall, PChoice}
use Rattle.ada_tree.specs.WellPlaced.{level, simple}
use Rattle.ada_lexer.specs.declared.symbols.Symbol.TheVariants as key
use Rattle.ada_expr_parser.specs.declared.items.Item.{Item}
use Rattle.ada_expr_parser.specs.declared.levels.Level.TheVariants.{Logical, Relation, Simple, Term, Factor}
use Rattle.ada_expr_parser.specs.Tests.{symbol, word}
use Rattle.ada_expr_parser.specs.Trees.{levels}
use Rattle.ada_expr_parser.specs.Reading.{expr, inner, operators}

-- an expression (4.4)
abbrev pub expression : ℕ → Reader Item PExpr
expression d = expr d Logical

-- the last bound, behind `..`
abbrev pub last_bound : {A : Type 0} → ℕ → (PExpr → A) → Reader Item A → Reader Item A
last_bound d tree other = on (symbol key.DotDot) (λ dots. bind (expr d Simple) (λ last. pure (tree last))) other

-- `expr .. expr` (3.5)
abbrev pub bounds : ℕ → Reader Item PBounds
bounds d =
    bind (expr d Simple) (λ first. bind (token (symbol key.DotDot)) (λ dots. bind (expr d Simple) (λ last. pure record { first = first; last = last })))

-- behind a mark: `range` and bounds, or nothing (3.3.2)
abbrev pub mark_rest : ℕ → Word → Reader Item PSubind
mark_rest d mark =
    on (symbol key.Range) (λ range. bind (bounds d) (λ b. pure record { mark = mark; bounds = Some b })) (pure record { mark = mark; bounds = None })

-- a subtype indication (3.3.2)
abbrev pub subind : ℕ → Reader Item PSubind
subind d = bind (token word) (mark_rest d)

-- behind a first expression that no `..` follows: it must be a mark
abbrev pub marked_rest : ℕ → PExpr → Reader Item PDrange
marked_rest d (EName name at) = bind (mark_rest d record { name = name; span = at }) (λ x. pure (RMarked x))
marked_rest d _ = refuse

-- a discrete range (3.6)
abbrev pub drange : ℕ → Reader Item PDrange
drange d = bind (expr d Simple) (λ first. last_bound d (λ last. RGiven record { first = first; last = last }) (marked_rest d first))

-- behind a name: an index one level deeper, or nothing (5.2)
abbrev pub target_rest : ℕ → Word → Reader Item PTarget
target_rest d name =
    below d (symbol key.LeftParen)
    (λ e lead. bind (inner d Logical) (λ arg. bind (token (symbol key.RightParen)) (λ close. pure record { name = name; index = Some arg })))
    (pure record { name = name; index = None })

abbrev pub target : ℕ → Reader Item PTarget
target d = bind (token word) (target_rest d)

-- how many levels stand below the name, if it were an expression
abbrev pub levels_under : Option PExpr → ℕ
levels_under None = 0
levels_under (Some e) = levels e + 1

abbrev pub index_levels : PTarget → ℕ
index_levels x = levels_under x.index

-- whether the next item is a comma
abbrev pub is_comma : Item → Bool
is_comma x = is_some (symbol key.Comma x)

-- an expression behind a comma
abbrev pub next_expr : ℕ → Reader Item PExpr
next_expr d = bind (token (symbol key.Comma)) (λ comma. inner d Logical)

abbrev pub more_exprs : ℕ → Reader Item (List PExpr)
more_exprs d = items is_comma (next_expr d)

-- expressions with commas between, one level deeper
abbrev pub exprs : ℕ → Reader Item (List PExpr)
exprs d =
    bind (inner d Logical) (λ e. bind (more_exprs d) (λ more. pure (e ∷ more)))

-- a list in parentheses, or nothing
abbrev pub enclosed : ℕ → Reader Item (Option (List PExpr))
enclosed d =
    below d (symbol key.LeftParen) (λ e lead. bind (exprs d) (λ es. bind (token (symbol key.RightParen)) (λ close. pure (Some es)))) (pure None)

-- behind a first list a second one may stand
abbrev pub args_behind : ℕ → Option (List PExpr) → Reader Item (Option PArgs)
args_behind d None = pure None
args_behind d (Some first) = bind (enclosed d) (λ second. pure (Some record { first = first; second = second }))

-- the lists behind an entry's name (9.5)
abbrev pub args : ℕ → Reader Item (Option PArgs)
args d = bind (enclosed d) (args_behind d)

abbrev pub callee_of : PTarget → PCallee
callee_of x = record { name = x.name; index = x.index }

-- behind the callee of an entry call (9.5)
abbrev pub call_rest : ℕ → PCallee → Reader Item PCall
call_rest d task =
    bind (token (symbol key.Dot)) (λ dot. bind (token word) (λ entry. bind (args d) (λ lists. pure record { task = task; entry = entry; args = lists })))

abbrev pub call : ℕ → Reader Item PCall
call d = bind (target d) (λ task. call_rest d (callee_of task))

-- an expression of the level of simple ones or a tighter one
abbrev pub is_simple : PExpr → Bool
is_simple e = nat_le simple (level e)

-- behind the first expression of a choice: where it is a simple one, a last bound may follow (3.7.3)
abbrev pub choice_rest : ℕ → PExpr → Reader Item PChoice
choice_rest d first ts =
    if is_simple first
    then last_bound d (λ last. record { first = first; last = Some last }) (pure record { first = first; last = None }) ts
    else pure record { first = first; last = None } ts

abbrev pub choice : ℕ → Reader Item PChoice
choice d = bind (expr d Logical) (choice_rest d)

-- an expression whose first primary has been read: what may follow it at each level of the grammar
abbrev pub expr_behind : ℕ → PExpr → Reader Item PExpr
expr_behind d first =
    bind (chain_in (operators Term) d (inner d Factor) d first) (λ t.
    bind (chain_in (operators Simple) d (inner d Term) d t) (λ s.
    bind (chain_in (operators Relation) d (inner d Simple) d s) (λ r.
    chain_in (operators Logical) d (inner d Relation) d r)))
