-- The grammar of tasks, task types and their entries (9.1, 9.5, 9.8). At a depth d, at most d levels stand below the root of each expression; the entry or pragma in which it stands has the nesting 1, and the root 2 (this project's rule).
use Rattle.std.specs.Prelude.{◌≡◌, ℕ, ◌+◌, Bool, true, false, List, [], ◌∷◌}
use Rattle.ada_tree.specs.declared.naming.Word.{Word}
use Rattle.ada_tree.specs.PlainExpr.{PExpr}
use Rattle.ada_tree.specs.PlainDecl.{PEntry, PPriority, PTask}
use Rattle.ada_lexer.specs.declared.symbols.Symbol.TheVariants as key
use Rattle.ada_phrase_parser.specs.Spelling.{Source, Spelling, ◌▷◌, Either, IfThere, Key, Named, PriorityWord, ListOf, Placed}
use Rattle.ada_phrase_parser.specs.Phrases.{EndOf, Expression, Drange, Formals}

-- `pragma PRIORITY ( expr ) ;` (2.8, 9.8)
abbrev pub IsPriority : Source → ℕ → PExpr → Spelling
IsPriority source d e =
    Key key.Pragma ▷ PriorityWord source ▷ Key key.LeftParen ▷ Expression d e ▷ Key key.RightParen ▷ Key key.Semicolon

-- `entry NAME [( drange )] [formals] ;` (9.5)
abbrev pub IsEntry : ℕ → PEntry → Spelling
IsEntry d x =
    Placed x.span (Key key.Entry ▷ Named x.name ▷ IfThere x.family (λ r. Key key.LeftParen ▷ Drange d r ▷ Key key.RightParen) ▷ Formals x.formals ▷ Key key.Semicolon)

-- what stands in a task: an entry, or a pragma PRIORITY
pub data Member : Type 0 where
  MEntry : PEntry → Member
  MPriority : PExpr → Member

-- the entries among the members
abbrev pub entries_in : List Member → List PEntry
entries_in [] = []
entries_in (MEntry x ∷ more) = x ∷ entries_in more
entries_in (MPriority e ∷ more) = entries_in more

-- the pragmas among the members, each with the number of the entries before it, when this many stand before all
abbrev pub priorities_in : ℕ → List Member → List PPriority
priorities_in before [] = []
priorities_in before (MEntry x ∷ more) = priorities_in (before + 1) more
priorities_in before (MPriority e ∷ more) = record { place = before; value = e } ∷ priorities_in before more

-- what stands in a task: an entry's declaration, or a pragma PRIORITY (9.1, 9.8)
abbrev pub IsMember : Source → ℕ → Member → Spelling
IsMember source d (MEntry x) = IsEntry d x
IsMember source d (MPriority e) = IsPriority source d e

-- the members are the entries and pragmas of the task, each kind in its order
pub record AreMembersOf (t : PTask) (members : List Member) : Type 0 where
  pub entries : t.entries ≡ entries_in members
  pub priorities : t.priorities ≡ priorities_in 0 members

-- `task`, and `task type` for a type (9.1)
abbrev pub TaskWord : Bool → Spelling
TaskWord true = Key key.Task ▷ Key key.Type
TaskWord false = Key key.Task

-- `is {entry | pragma} end [NAME]`, or nothing for a task without either (9.1)
abbrev pub TaskRest : Source → ℕ → Word → List Member → Spelling
TaskRest source d name [] = Either (Key key.Semicolon) (Key key.Is ▷ EndOf name)
TaskRest source d name (x ∷ more) = Key key.Is ▷ ListOf (IsMember source d) (x ∷ more) ▷ EndOf name

-- `task [type] NAME ; | task [type] NAME is {entry | pragma} end [NAME] ;` (9.1, this project's members)
abbrev pub IsTask : Source → ℕ → PTask → Spelling
IsTask source d t text =
    (members : List Member) × AreMembersOf t members × (TaskWord t.of_kind ▷ Named t.name ▷ TaskRest source d t.name members) text
