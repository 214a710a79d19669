-- Pieces of statements and declarations that hold no statements: names, formal parts, texts, choices, loops and what may close a unit. At a depth d, at most d levels may stand below the statement or declaration itself (this project's rule), and where a piece says "below the root", below the root of the expression.
use Rattle.std.specs.Prelude.{ℕ, List, [], ◌∷◌, Option, Bool, true, false}
use Rattle.ada_tree.specs.declared.naming.Word.{Word}
use Rattle.ada_tree.specs.declared.statements.ParMode.{ParMode}
use Rattle.ada_tree.specs.declared.statements.ParMode.TheVariants.{Take, Give, Both}
use Rattle.ada_tree.specs.PlainExpr.{PExpr, PDrange}
use Rattle.ada_tree.specs.PlainStmt.{PFormal, PPart, PWords, PValue, PChoice, PScheme, LWhile, LFor, PHead}
use Rattle.ada_lexer.specs.declared.symbols.Symbol.TheVariants as key
use Rattle.ada_expr_parser.specs.declared.levels.Level.TheVariants.{Logical}
use Rattle.ada_expr_parser.specs.Grammar.{IsExpr, IsIndex, IsChoice, IsDrange}
use Rattle.ada_phrase_parser.specs.Spelling.{Source, Spelling, Nothing, ◌▷◌, May, IfThere, Key, Named, Again, Duration, StringAt, Separated, Inside}

-- `NAME {, NAME}` (3.2)
abbrev pub Names : List Word → Spelling
Names ws = Separated (Key key.Comma) Named ws

-- `end [NAME] ;`, with the name that the unit, task or accept has (5.1, 6.3, 9.1, 9.5)
abbrev pub EndOf : Word → Spelling
EndOf name = Key key.End ▷ May (Again name) ▷ Key key.Semicolon

-- an expression, at most d levels below its root (4.4)
abbrev pub Expression : ℕ → PExpr → Spelling
Expression d e text = IsExpr Logical d e text

-- an expression whose root is one level deeper than the statement or declaration
abbrev pub NestedExpr : ℕ → PExpr → Spelling
NestedExpr d e = Inside d (λ i. Expression i e)

-- `in`, `out` and `in out`; no mode is `in` (6.1)
abbrev pub Mode : ParMode → Spelling
Mode Take = May (Key key.In)
Mode Give = Key key.Out
Mode Both = Key key.In ▷ Key key.Out

-- `NAME {, NAME} : [in | out | in out] NAME` (6.1)
abbrev pub IsFormal : PFormal → Spelling
IsFormal x = Names x.names ▷ Key key.Colon ▷ Mode x.mode ▷ Named x.mark

-- `[( formal {; formal} )]` (6.1, 9.5)
abbrev pub Formals : List PFormal → Spelling
Formals [] = Nothing
Formals (x ∷ more) = Key key.LeftParen ▷ Separated (Key key.Semicolon) IsFormal (x ∷ more) ▷ Key key.RightParen

-- the index that an accept statement may have, one level deeper than it
abbrev pub Index : ℕ → Option PExpr → Spelling
Index d e text = IsIndex d e text

-- `accept NAME [( expr )] [formals]` (9.5)
abbrev pub AcceptHead : ℕ → PHead → Spelling
AcceptHead d x = Key key.Accept ▷ Named x.entry ▷ Index d x.index ▷ Formals x.formals

-- `[when expr =>]` before an alternative, one level deeper than it (9.7.1)
abbrev pub Guard : ℕ → Option PExpr → Spelling
Guard d g = IfThere g (λ e. Key key.When ▷ NestedExpr d e ▷ Key key.Arrow)

-- a string, which has no level, or an expression one level deeper than the statement (this project's PUT, after 14.3.6)
abbrev pub IsPart : Source → ℕ → PPart → Spelling
IsPart source d (PWords t at) = StringAt source t at
IsPart source d (PValue e) = NestedExpr d e

-- `( part {& part} )`
abbrev pub PutText : Source → ℕ → List PPart → Spelling
PutText source d parts = Key key.LeftParen ▷ Separated (Key key.Ampersand) (IsPart source d) parts ▷ Key key.RightParen

-- a choice, at most d levels below its roots (3.7.3)
abbrev pub Choice : ℕ → PChoice → Spelling
Choice d x text = IsChoice d x text

-- `when choice {| choice} =>`, at most d levels below the roots of the choices (5.4)
abbrev pub WhenChoices : ℕ → List PChoice → Spelling
WhenChoices d choices = Key key.When ▷ Separated (Key key.Bar) (Choice d) choices ▷ Key key.Arrow

-- `when others =>` (5.4, 11.2)
abbrev pub WhenOthers : Spelling
WhenOthers = Key key.When ▷ Key key.Others ▷ Key key.Arrow

-- `when NAME {| NAME} =>`, and with no name `when others =>` (11.2)
abbrev pub WhenRaised : List Word → Spelling
WhenRaised [] = WhenOthers
WhenRaised (w ∷ more) = Key key.When ▷ Separated (Key key.Bar) Named (w ∷ more) ▷ Key key.Arrow

-- `reverse` where the loop goes backwards, else nothing (5.5)
abbrev pub Reverse : Bool → Spelling
Reverse true = Key key.Reverse
Reverse false = Nothing

-- a discrete range, at most d levels below the roots of its bounds (3.6)
abbrev pub Drange : ℕ → PDrange → Spelling
Drange d x text = IsDrange d x text

-- `while expr | for NAME in [reverse] drange`, at most d levels below the roots (5.5)
abbrev pub IsScheme : ℕ → PScheme → Spelling
IsScheme d (LWhile e) = Key key.While ▷ Expression d e
IsScheme d (LFor w backwards x) = Key key.For ▷ Named w ▷ Key key.In ▷ Reverse backwards ▷ Drange d x

-- `[NAME :]` before a loop, and the same name behind its end (5.5)
abbrev pub LoopName : Option Word → Spelling
LoopName name = IfThere name (λ w. Named w ▷ Key key.Colon)

-- `[NAME]` after the end of a loop, the name that stands before the loop (5.5)
abbrev pub LoopNameAgain : Option Word → Spelling
LoopNameAgain name = IfThere name Again

-- `delay DURATION ;` (9.6)
abbrev pub DelayOf : ℕ → Spelling
DelayOf thousandths = Key key.Delay ▷ Duration thousandths ▷ Key key.Semicolon
