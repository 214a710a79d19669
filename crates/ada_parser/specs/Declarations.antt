-- The grammar of declarations (chapters 3, 9 and 11). At a depth d, at most d levels stand below the root of each expression in a declaration; the declaration has the nesting 1, the root 2, and so one level more may stand below each statement of a body (this project's rule).
use Rattle.std.specs.Prelude.{ℕ, suc, ◌≤◌, Bool, true, false, List, Option, Some, None, length, codes}
use Rattle.ada_tree.specs.declared.naming.Word.{Word}
use Rattle.ada_tree.specs.PlainExpr.{PExpr, PSubind, PDrange}
use Rattle.ada_tree.specs.PlainStmt.{PBody}
use Rattle.ada_tree.specs.PlainDecl.{PShape, OPlain, OArray, PInit, IOne, IList, IOthers, PDecl, DNumber, DObject, DEnumeration, DArray, DSubtype, DException, DIntIo, DPragma, DTask, DTaskBody, PDecls, no_decl, decl_then}
use Rattle.ada_tree.specs.WellPlaced.{AreObjects}
use Rattle.ada_lexer.specs.declared.symbols.Symbol.TheVariants as key
use Rattle.ada_expr_parser.specs.Grammar.{IsSubind, AreEnclosed}
use Rattle.ada_phrase_parser.specs.Spelling.{Source, Spelling, Nothing, Never, ◌▷◌, May, IfThere, Where, Key, Named, Again, Predefined, Placed}
use Rattle.ada_phrase_parser.specs.Phrases.{Names, EndOf, Expression, Drange}
use Rattle.ada_stmt_parser.specs.Statements.{IsBody}
use Rattle.ada_task_parser.specs.Tasks.{IsPriority, IsTask}

-- a subtype indication (3.3.2)
abbrev pub Subind : ℕ → PSubind → Spelling
Subind d x text = IsSubind d x text

-- `array ( drange ) of subind` (3.6)
abbrev pub ArrayOf : ℕ → PDrange → PSubind → Spelling
ArrayOf d r x = Key key.Array ▷ Key key.LeftParen ▷ Drange d r ▷ Key key.RightParen ▷ Key key.Of ▷ Subind d x

-- `subind | array ( drange ) of subind` (3.2)
abbrev pub IsShape : ℕ → PShape → Spelling
IsShape d (OPlain x) = Subind d x
IsShape d (OArray r x) = ArrayOf d r x

-- `( expr , expr {, expr} )` (4.3.2)
abbrev pub IsList : ℕ → List PExpr → Spelling
IsList d es text = (2 ≤ length es) × AreEnclosed (suc d) es text

-- `expr | ( expr , expr {, expr} ) | ( others => expr )` (3.2.1, 4.3.2)
abbrev pub IsInit : ℕ → PInit → Spelling
IsInit d (IOne e) = Expression d e
IsInit d (IList es s) = Placed s (IsList d es)
IsInit d (IOthers e s) = Placed s (Key key.LeftParen ▷ Key key.Others ▷ Key key.Arrow ▷ Expression d e ▷ Key key.RightParen)

-- `shape [:= init]` of a variable, and `constant shape := init` (3.2.1)
abbrev pub IsObject : ℕ → Bool → PShape → Option PInit → Spelling
IsObject d false x i = IsShape d x ▷ IfThere i (λ y. Key key.Becomes ▷ IsInit d y)
IsObject d true x None = Never
IsObject d true x (Some i) = Key key.Constant ▷ IsShape d x ▷ Key key.Becomes ▷ IsInit d i

-- `package NAME is new [TEXT_IO .] INTEGER_IO ( INTEGER ) ; use NAME ;`, the same name twice (12.3, 14.3, this project's form)
abbrev pub IsInstance : Word → Spelling
IsInstance name =
    Key key.Package ▷ Named name ▷ Key key.Is ▷ Key key.New ▷ May (Predefined (codes "TEXT_IO") ▷ Key key.Dot)
    ▷ Predefined (codes "INTEGER_IO") ▷ Key key.LeftParen ▷ Predefined (codes "INTEGER") ▷ Key key.RightParen ▷ Key key.Semicolon
    ▷ Key key.Use ▷ Again name ▷ Key key.Semicolon

-- `begin stmts [exception handlers] end [NAME] ;`, the end of a unit with this name (6.3, 9.1)
abbrev pub UnitEnd : Source → ℕ → Word → PBody → Spelling
UnitEnd source d name b = IsBody source d b ▷ EndOf name

module _ (source : Source) where
  abbrev mutual
    -- a declaration at its place, at most d levels below the root of each expression in it (3.1, 9.1, 11.1)
    pub IsDecl : ℕ → PDecl → Spelling
    -- `NAME : constant := expr ;` (3.2.2)
    IsDecl d (DNumber w e s) = Placed s (Named w ▷ Key key.Colon ▷ Key key.Constant ▷ Key key.Becomes ▷ Expression d e ▷ Key key.Semicolon)
    -- `NAME {, NAME} : shape [:= init] ; | NAME {, NAME} : constant shape := init ;` (3.2.1)
    IsDecl d (DObject ws c x i s) = Placed s (Names ws ▷ Key key.Colon ▷ IsObject d c x i ▷ Key key.Semicolon)
    -- `type NAME is ( NAME {, NAME} ) ;` (3.5.1)
    IsDecl d (DEnumeration w ws s) =
        Placed s (Key key.Type ▷ Named w ▷ Key key.Is ▷ Key key.LeftParen ▷ Names ws ▷ Key key.RightParen ▷ Key key.Semicolon)
    -- `type NAME is array ( drange ) of subind ;` (3.6)
    IsDecl d (DArray w r x s) = Placed s (Key key.Type ▷ Named w ▷ Key key.Is ▷ ArrayOf d r x ▷ Key key.Semicolon)
    -- `subtype NAME is subind ;` (3.3.2)
    IsDecl d (DSubtype w x s) = Placed s (Key key.Subtype ▷ Named w ▷ Key key.Is ▷ Subind d x ▷ Key key.Semicolon)
    -- `NAME {, NAME} : exception ;` (11.1)
    IsDecl d (DException ws s) = Placed s (Names ws ▷ Key key.Colon ▷ Key key.Exception ▷ Key key.Semicolon)
    IsDecl d (DIntIo w s) = Placed s (IsInstance w)
    IsDecl d (DPragma e s) = Placed s (IsPriority source d e)
    IsDecl d (DTask t s) = Placed s (IsTask source d t)
    -- `task body NAME is {object} begin stmts [exception handlers] end [NAME] ;` (9.1)
    IsDecl d (DTaskBody w ds b s) =
        Placed s (Key key.Task ▷ Key key.Body ▷ Named w ▷ Key key.Is ▷ Where (AreObjects ds) (Decls d ds) ▷ UnitEnd source (suc d) w b)

    -- `{declaration}` (3.9)
    pub Decls : ℕ → PDecls → Spelling
    Decls d no_decl = Nothing
    Decls d (decl_then x l) = IsDecl d x ▷ Decls d l
