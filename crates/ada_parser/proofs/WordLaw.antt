-- What is to be proved of the statements that begin with a name, behind that name: all of them but loops, which `:` follows (5.2, 9.5, 14.3).
use Rattle.std.specs.Prelude.{ℕ, suc, ◌∷◌}
use Rattle.ada_expr_parser.specs.readers.Grammars.{Texts}
use Rattle.ada_expr_parser.specs.readers.Lawful.{Lawful, Anything}
use Rattle.ada_tree.specs.declared.naming.Word.{Word}
use Rattle.ada_tree.specs.PlainStmt.{PStmt, SLoop}
use Rattle.ada_expr_parser.specs.declared.items.Item.{Item}
use Rattle.ada_expr_parser.specs.Grammar.{word_item}
use Rattle.ada_phrase_parser.specs.Spelling.{Source}
use Rattle.ada_stmt_parser.specs.Statements.{IsStmt}
use Rattle.ada_simple_stmt_parser.specs.inner.ReadingSimple.{word_rest}

-- no loop, which may have a name of its own before it
abbrev pub IsNoLoop : PStmt → Type 0
IsNoLoop (SLoop w c l s) = ⊥
IsNoLoop x = Unit {0}

-- the items that are such a statement when they stand behind the name
abbrev pub WordTexts : Source → Word → Texts Item PStmt
WordTexts source w d x text = IsNoLoop x × IsStmt source d x (word_item w ∷ text)

-- Behind each name, and at each depth, such a statement is read by the laws. It ends with a semicolon, so that any item may stand behind it.
abbrev pub WordLaw : Source → Type 0
WordLaw source = (d : ℕ) (w : Word) → Lawful d (word_rest source d w) (word_rest source (suc d) w) (WordTexts source w) Anything
