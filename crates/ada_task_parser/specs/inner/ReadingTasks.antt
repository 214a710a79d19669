-- How tasks, their entries and the pragma PRIORITY are read: by the next item. At a depth d, at most d levels may stand below the root of each expression.
use Rattle.std.specs.Prelude.{ℕ, Bool, ◌||◌, List, [], ◌∷◌, None, codes}
use Rattle.ada_expr_parser.specs.readers.Readers.{Reader, pure, refuse, bind, on, token, look, items}
use Rattle.ada_tree.specs.declared.naming.Span.{Span}
use Rattle.ada_tree.specs.declared.naming.Word.{Word}
use Rattle.ada_tree.specs.PlainExpr.{PExpr, PDrange}
use Rattle.ada_tree.specs.PlainDecl.{PEntry, PTask, PDecl, DTask}
use Rattle.ada_lexer.specs.declared.symbols.Symbol.TheVariants as key
use Rattle.ada_expr_parser.specs.declared.items.Item.{Item}
use Rattle.ada_expr_parser.specs.Grammar.{word_item}
use Rattle.ada_expr_parser.specs.Tests.{symbol, word}
use Rattle.ada_expr_parser.specs.Trees.{from_to}
use Rattle.ada_expr_parser.specs.Parts.{expression, drange}
use Rattle.ada_phrase_parser.specs.Spelling.{Source, id_of}
use Rattle.ada_task_parser.specs.Tasks.{Member, MEntry, MPriority, entries_in, priorities_in}
use Rattle.ada_phrase_parser.specs.Reading.{is_symbol, key_then, closed, formals_from, Behind, behind_index, is_formal_mark, end_of, with_id}

-- behind `pragma`: `PRIORITY ( expr ) ;` (2.8, 9.8)
abbrev pub priority : {A : Type 0} → Source → ℕ → (PExpr → Span → A) → Reader Item A
priority source d tree =
    bind (token (with_id (id_of source.names (codes "PRIORITY")))) (λ w. key_then key.LeftParen (bind (expression d) (λ e.
    key_then key.RightParen (closed (λ close. tree e close)))))

-- ---- tasks

-- a discrete range whose first name has been read: by the items from that name on
abbrev pub drange_from : ℕ → Word → Reader Item PDrange
drange_from d w ts = drange d (word_item w ∷ ts)

-- behind `entry NAME (` and a name
abbrev pub entry_name : ℕ → Word → Reader Item (Behind PDrange)
entry_name d w =
    look is_formal_mark (bind (formals_from w) (λ fs. pure record { index = None; formals = fs })) (bind (drange_from d w) behind_index)

-- behind `entry NAME`: the range of a family, formals, or both (9.5)
abbrev pub entry_behind : ℕ → Reader Item (Behind PDrange)
entry_behind d =
    on (symbol key.LeftParen) (λ lead. on word (entry_name d) (bind (drange d) behind_index)) (pure record { index = None; formals = [] })

-- behind `entry`
abbrev pub entry_of : Word → Behind PDrange → Span → PEntry
entry_of w x at = record { name = w; family = x.index; formals = x.formals; span = at }

abbrev pub entry_rest : ℕ → Span → Reader Item PEntry
entry_rest d lead = bind (token word) (λ w. bind (entry_behind d) (λ x. closed (λ close. entry_of w x (from_to lead close))))

-- an entry or a pragma of a task
abbrev pub begins_member : Item → Bool
begins_member x = is_symbol key.Entry x || is_symbol key.Pragma x

abbrev pub member : Source → ℕ → Reader Item Member
member source d =
    on (symbol key.Entry) (λ lead. bind (entry_rest d lead) (λ x. pure (MEntry x)))
    (on (symbol key.Pragma) (λ lead. priority source d (λ e close. MPriority e)) refuse)

-- the task with these members
abbrev pub task_of : Bool → Word → List Member → PTask
task_of of_kind w members = record { name = w; of_kind = of_kind; entries = entries_in members; priorities = priorities_in 0 members }

-- behind `task [type] NAME` (9.1)
abbrev pub task_rest : Source → ℕ → Span → Bool → Word → Reader Item PDecl
task_rest source d lead of_kind w =
    on (symbol key.Semicolon) (λ close. pure (DTask (task_of of_kind w []) (from_to lead close)))
    (key_then key.Is (bind (items begins_member (member source d)) (λ members. end_of w (λ close. DTask (task_of of_kind w members) (from_to lead close)))))
