-- The grammar of a whole text: context clauses and the main procedure (6.3, 10.1). At a depth d, at most d levels stand below the root of each expression in its own declarations, and so one level more below each of its own statements (this project's rule).
use Rattle.std.specs.Prelude.{ℕ, suc, Bool, true, false, codes}
use Rattle.ada_expr_parser.specs.readers.Grammars.{Texts}
use Rattle.ada_tree.specs.declared.naming.Word.{Word}
use Rattle.ada_tree.specs.PlainStmt.{PBody}
use Rattle.ada_tree.specs.PlainDecl.{PDecls}
use Rattle.ada_tree.specs.WellPlaced.{BodiesLast}
use Rattle.ada_lexer.specs.declared.symbols.Symbol.TheVariants as key
use Rattle.ada_expr_parser.specs.declared.items.Item.{Item}
use Rattle.ada_phrase_parser.specs.Spelling.{Source, Spelling, Nothing, ◌▷◌, Where, Key, Named, Predefined}
use Rattle.ada_parser.specs.Declarations.{Decls, UnitEnd}

-- what a text spells: whether it has the context clauses, its name, its declarations and its body
pub record PUnit : Type 0 where
  pub text_io : Bool
  pub name : Word
  pub decls : PDecls
  pub body : PBody

-- `[with TEXT_IO ; use TEXT_IO ;]` (8.4, 10.1.1)
abbrev pub Context : Bool → Spelling
Context false = Nothing
Context true =
    Key key.With ▷ Predefined (codes "TEXT_IO") ▷ Key key.Semicolon ▷ Key key.Use ▷ Predefined (codes "TEXT_IO") ▷ Key key.Semicolon

-- `[context] procedure NAME is {basic} {later} begin stmts [exception handlers] end [NAME] ;` (6.3, 10.1)
abbrev pub IsUnit : Source → ℕ → PUnit → Spelling
IsUnit source d p =
    Context p.text_io ▷ Key key.Procedure ▷ Named p.name ▷ Key key.Is ▷ Where (BodiesLast p.decls) (Decls source d p.decls)
    ▷ UnitEnd source (suc d) p.name p.body

-- the same in the words of readers
abbrev pub Units : Source → Texts Item PUnit
Units source d p text = IsUnit source d p text
