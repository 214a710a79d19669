-- Which items end an expression of each level of the grammar: those with which none goes on (4.1, 4.4).
use Rattle.std.specs.Prelude.{◌≡◌, None}
use Rattle.ada_lexer.specs.declared.symbols.Symbol.TheVariants as key
use Rattle.ada_expr_parser.specs.declared.items.Item.{Item}
use Rattle.ada_expr_parser.specs.declared.levels.Level.{Level}
use Rattle.ada_expr_parser.specs.declared.levels.Level.TheVariants.{Logical, Relation, Simple, Term, Factor, Primary}
use Rattle.ada_expr_parser.specs.Tests.{symbol, operator_in}

-- no operator of the level begins with the item
abbrev pub IsNoOperator : Level → Item → Type 0
IsNoOperator level x = operator_in level None x.kind ≡ None

-- behind a primary: neither a parenthesis, which would be an index or an argument, nor an attribute's tick
abbrev pub EndsPrimary : Item → Type 0
EndsPrimary x = (symbol key.LeftParen x ≡ None) × (symbol key.Tick x ≡ None)

abbrev pub EndsTerm : Item → Type 0
EndsTerm x = EndsPrimary x × IsNoOperator Term x

abbrev pub EndsSimple : Item → Type 0
EndsSimple x = EndsTerm x × IsNoOperator Simple x

abbrev pub EndsRelation : Item → Type 0
EndsRelation x = EndsSimple x × IsNoOperator Relation x

-- behind an expression of the level: no operator of this level or a tighter one
abbrev pub Ends : Level → Item → Type 0
Ends Logical x = EndsRelation x × IsNoOperator Logical x
Ends Relation x = EndsRelation x
Ends Simple x = EndsSimple x
Ends Term x = EndsTerm x
Ends Factor x = EndsPrimary x
Ends Primary x = EndsPrimary x

-- behind a subtype indication: no bounds that go on, and no range (3.3.2)
abbrev pub EndsMark : Item → Type 0
EndsMark x = Ends Simple x × (symbol key.Range x ≡ None)

-- behind a discrete range: nor the dots of one (3.6)
abbrev pub EndsRange : Item → Type 0
EndsRange x = EndsMark x × (symbol key.DotDot x ≡ None)

-- behind a variable or a call: no index or list of parameters (5.2, 9.5)
abbrev pub EndsTarget : Item → Type 0
EndsTarget x = symbol key.LeftParen x ≡ None

-- behind a choice: no expression goes on, and no dots stand there (3.7.3)
abbrev pub EndsChoice : Item → Type 0
EndsChoice x = Ends Logical x × (symbol key.DotDot x ≡ None)
